-- The questions that are put to a settled book, and the checks that may refuse them.
--   handed_with q        what the question q is handed, as the checks read it
--   question_checks q    the checks that may refuse the question q, in order
--   first_told q s       the first check of the question q that applies at what stands, if one does
use Rattle.std.specs.Prelude.{ℕ, List, [], ◌∷◌, Option}
use Rattle.books.specs.declared.refusal.Refusal.{Refusal}
use Rattle.books.specs.declared.refusal.Refusal.TheVariants.{MachineUnknown, BatchUnknown, NoBlock}
use Rattle.books.specs.Standing.{Standing}
use Rattle.books.specs.Calls.{machine_with}
use Rattle.books.specs.Refusals.{Handed, first_of}

pub data Question : Type 0 where
  -- a machine's number
  Load : ℕ → Question
  -- a batch's number and a machine's
  Share : ℕ → ℕ → Question
  -- when the last block ends
  Ending : Question

-- the holders are the machines that a question names by number
abbrev pub handed_with : Question → Handed
handed_with (Load n) = record { machine = machine_with 0 0 0 0; batch = 0; blocks = 0; holders = n ∷ [] }
handed_with (Share b n) = record { machine = machine_with 0 0 0 0; batch = b; blocks = 0; holders = n ∷ [] }
handed_with Ending = record { machine = machine_with 0 0 0 0; batch = 0; blocks = 0; holders = [] }

abbrev pub question_checks : Question → List Refusal
question_checks (Load _) = MachineUnknown ∷ []
question_checks (Share _ _) = BatchUnknown ∷ MachineUnknown ∷ []
question_checks Ending = NoBlock ∷ []

abbrev pub first_told : Question → Standing → Option Refusal
first_told q s = first_of (question_checks q) (handed_with q) s
