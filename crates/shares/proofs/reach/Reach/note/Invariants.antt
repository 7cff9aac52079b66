use Rattle.std.proofs.Common.{◌≡◌, ℕ, true, not, ◌&&◌, length}
use Rattle.places.specs.Has.{has, size}
use Rattle.shares.specs.Cells.{nth}
use Rattle.shares.specs.Reaches.{Noted}
use Rattle.shares.proofs.reach.Reach.note.Given as goal

-- what was taken from the places left is noted
abbrev pub invariant-loop-j : goal.invariant-loop-j
invariant-loop-j l =
    (length l.self.before ≡ 32) × (l.self.places ≡ l.initial.self.places)
    × ((k : ℕ) → has l.left k ≡ true → has l.initial.left k ≡ true)
    × Noted (λ k. has l.initial.left k && not (has l.left k)) l.i (nth l.initial.self.before) (nth l.self.before)

abbrev pub decreases-loop-j : goal.decreases-loop-j
decreases-loop-j l = size (has l.left)
