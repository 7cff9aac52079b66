-- The refusals: of each its number and what it applies to; of each call its checks in their order.
--   case_of r            the number of r, and the arguments and standing states that it applies to
--   checks c             the refusals of the call c, in the order in which they are checked
--   first_refusal c s    the first check of the call c that applies at what stands, if one does
--   refusal_in r         the refusal that a call answered, if it did
use Rattle.std.specs.Prelude.{ℕ, ◌+◌, Bool, true, false, if◌then◌else◌, not, ◌&&◌, List, [], ◌∷◌, length, Some, None, Ok, Err, Option, Result, ◌==◌, nat_le, nat_lt}
use Rattle.std.specs.List.{list_all}
use Rattle.books.specs.declared.machine.Machine.{Machine}
use Rattle.books.specs.declared.refusal.Refusal.{Refusal}
use Rattle.books.specs.declared.refusal.Refusal.TheVariants.{MachineNumber, Ticks, Lot, Backlog, BatchNumber, Blocks, HolderCount, HolderOrder, MachineStands, MachinesFull, MachineUnknown, BatchesFull, OtherHolders, BatchPasses, BookPasses, BatchUnknown, BatchFewer, NoBlock}
use Rattle.books.specs.Numbers.{among, ascending, outside, bad_machine_number, bad_ticks, bad_lot, bad_backlog, bad_batch_number, bad_blocks}
use Rattle.books.specs.Standing.{Standing, machine_numbers, batch_numbers, blocks_of, holders_of, all_blocks}
use Rattle.books.specs.Calls.{Call, Enlist, Open, Hold, Drop, machine_with}

-- what a call is handed; 0 or none where it has no such argument
pub record Handed : Type 0 where
  pub machine : Machine
  pub batch : ℕ
  pub blocks : ℕ
  pub holders : List ℕ

abbrev pub handed : Call → Handed
handed (Enlist m) = record { machine = m; batch = 0; blocks = 0; holders = [] }
handed Open = record { machine = machine_with 0 0 0 0; batch = 0; blocks = 0; holders = [] }
handed (Hold b n hs) = record { machine = machine_with 0 0 0 0; batch = b; blocks = n; holders = hs }
handed (Drop b n) = record { machine = machine_with 0 0 0 0; batch = b; blocks = n; holders = [] }

-- all the numbers are those of machines that stand
abbrev pub all_among : List ℕ → List ℕ → Bool
all_among ns ms = list_all (λ n. among n ms) ns

-- the same numbers in the same order
abbrev pub same : List ℕ → List ℕ → Bool
same [] [] = true
same [] (k ∷ ks) = false
same (n ∷ ns) [] = false
same (n ∷ ns) (k ∷ ks) = n == k && same ns ks

pub record Case : Type 0 where
  pub number : ℕ
  pub applies : Handed → Standing → Bool

abbrev pub tells : ℕ → (Handed → Standing → Bool) → Case
tells n p = record { number = n; applies = p }

abbrev pub case_of : Refusal → Case
case_of MachineNumber = tells 11 (λ h s. bad_machine_number h.machine.number)
case_of Ticks = tells 12 (λ h s. bad_ticks h.machine.terms.ticks)
case_of Lot = tells 13 (λ h s. bad_lot h.machine.terms.lot)
case_of Backlog = tells 14 (λ h s. bad_backlog h.machine.terms.backlog)
case_of BatchNumber = tells 15 (λ h s. bad_batch_number h.batch)
case_of Blocks = tells 16 (λ h s. bad_blocks h.blocks)
case_of HolderCount = tells 17 (λ h s. outside 1 32 (length h.holders))
case_of HolderOrder = tells 18 (λ h s. not (ascending h.holders))
case_of MachineStands = tells 41 (λ h s. among h.machine.number (machine_numbers s.machines))
case_of MachinesFull = tells 42 (λ h s. nat_le 32 (length s.machines))
case_of MachineUnknown = tells 43 (λ h s. not (all_among h.holders (machine_numbers s.machines)))
case_of BatchesFull = tells 44 (λ h s. nat_le 128 (length s.batches) && not (among h.batch (batch_numbers s.batches)))
case_of OtherHolders = tells 45 (λ h s. among h.batch (batch_numbers s.batches) && not (same h.holders (holders_of h.batch s.batches)))
case_of BatchPasses = tells 46 (λ h s. nat_lt 99999 (blocks_of h.batch s.batches + h.blocks))
case_of BookPasses = tells 47 (λ h s. nat_lt 1000000 (all_blocks s.batches + h.blocks))
case_of BatchUnknown = tells 48 (λ h s. not (among h.batch (batch_numbers s.batches)))
case_of BatchFewer = tells 49 (λ h s. nat_lt (blocks_of h.batch s.batches) h.blocks)
case_of NoBlock = tells 50 (λ h s. all_blocks s.batches == 0)

abbrev pub checks : Call → List Refusal
checks (Enlist _) = MachineNumber ∷ Ticks ∷ Lot ∷ Backlog ∷ MachineStands ∷ MachinesFull ∷ []
checks Open = []
checks (Hold _ _ _) = BatchNumber ∷ Blocks ∷ HolderCount ∷ HolderOrder ∷ MachineUnknown ∷ OtherHolders ∷ BatchesFull ∷ BatchPasses ∷ BookPasses ∷ []
checks (Drop _ _) = BatchNumber ∷ Blocks ∷ BatchUnknown ∷ BatchFewer ∷ []

abbrev pub first_of : List Refusal → Handed → Standing → Option Refusal
first_of [] h s = None
first_of (r ∷ rs) h s = if (case_of r).applies h s then Some r else first_of rs h s

abbrev pub first_refusal : Call → Standing → Option Refusal
first_refusal c s = first_of (checks c) (handed c) s

abbrev pub refusal_in : {T : Type 0} → Result T Refusal → Option Refusal
refusal_in (Ok _) = None
refusal_in (Err r) = Some r
