-- The calls of the day, and what they make of what stands.
--   tried c s        what the call c makes of what stands: nothing new where it is refused
--   all_tried cs s   what the calls cs make of it, one after another
--   enlistments, morning_calls, afternoon_calls    the calls of the day
use Rattle.std.specs.Prelude.{ℕ, List, [], ◌∷◌, if◌then◌else◌, is_none}
use Rattle.books.specs.Standing.{Standing}
use Rattle.books.specs.Calls.{Call, Enlist, Hold, Drop, machine_with, after}
use Rattle.books.specs.Refusals.{first_refusal}

unfoldable pub tried : Call → Standing → Standing
tried c s = if is_none (first_refusal c s) then after c s else s

abbrev pub all_tried : List Call → Standing → Standing
all_tried [] s = s
all_tried (c ∷ cs) s = all_tried cs (tried c s)

-- a machine of ticks 1, lot 1 and no backlog
abbrev pub enlist_alike : ℕ → Call
enlist_alike n = Enlist (machine_with n 1 1 0)

abbrev pub enlistments : List Call
enlistments = enlist_alike 1 ∷ enlist_alike 2 ∷ enlist_alike 3 ∷ enlist_alike 0 ∷ enlist_alike 2 ∷ []

abbrev pub morning_calls : List Call
morning_calls =
    Hold 10 4 (1 ∷ [])
    ∷ Hold 20 5 (1 ∷ 2 ∷ [])
    ∷ Hold 30 3 (2 ∷ 3 ∷ [])
    ∷ Hold 40 6 (2 ∷ 9 ∷ [])
    ∷ Hold 20 1 (2 ∷ 3 ∷ [])
    ∷ []

abbrev pub afternoon_calls : List Call
afternoon_calls =
    Hold 40 6 (2 ∷ 3 ∷ [])
    ∷ Hold 50 2 (3 ∷ [])
    ∷ Drop 40 2
    ∷ Drop 50 2
    ∷ Drop 50 1
    ∷ Drop 10 5
    ∷ []
