use Rattle.std.proofs.Common.{◌≡◌, ℕ, ◌+◌, ◌≤◌, true, false, ◌||◌, eqb}
use Rattle.places.specs.Has.{has, size}
use Rattle.books.specs.Views.{machines_in}
use Rattle.shares.specs.Marks.{machine_at, mark_of, value}
use Rattle.shares.specs.Reaches.{Within}
use Rattle.shares.specs.Plans.{load_at, value_after}
use Rattle.shares.proofs.plan.paced.Paced.earliest_of.Given as goal

abbrev pub invariant-loop-j : goal.invariant-loop-j
invariant-loop-j g l =
    Within (has l.left) (has l.initial.left) × ((has l.initial.left l.earliest || eqb l.earliest l.initial.earliest) ≡ true)
    × (l.mark ≡ mark_of (g.P.Pace.table l.self.pace.now) (machine_at (machines_in l.self.plan.now.book) l.earliest) (load_at l.self.plan.now l.earliest + l.self.plan.now.width))
    × ((k : ℕ) → (has l.initial.left k || eqb k l.initial.earliest) ≡ true → has l.left k ≡ false
    → value l.mark ≤ value_after (g.P.Pace.table l.self.pace.now) l.self.plan.now k)

abbrev pub decreases-loop-j : goal.decreases-loop-j
decreases-loop-j g l = size (has l.left)
