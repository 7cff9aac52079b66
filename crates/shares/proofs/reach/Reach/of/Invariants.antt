use Rattle.std.proofs.Common.{◌≡◌, ℕ, true, false, ◌||◌}
use Rattle.places.specs.Has.{has}
use Rattle.shares.specs.Cells.{nth}
use Rattle.shares.specs.Stations.{leads_to}
use Rattle.shares.proofs.Reaching.{Searching, left}
use Rattle.shares.proofs.reach.Reach.of.Given as goal

-- the open places are those of the layer and those found from it; the next layer begins where this one ends
abbrev pub invariant-loop-i : goal.invariant-loop-i
invariant-loop-i l =
    Searching (leads_to l.stations) (has l.initial.layer) (has l.reach.places) (λ k. has l.layer k || has l.found k) (nth l.reach.before)
    × ((k : ℕ) → has l.layer k ≡ true → has l.found k ≡ false)
    × (((k : ℕ) → has l.layer k ≡ false) → (k : ℕ) → has l.found k ≡ false)

abbrev pub decreases-loop-i : goal.decreases-loop-i
decreases-loop-i l = left (has l.reach.places) (λ k. has l.layer k || has l.found k)
