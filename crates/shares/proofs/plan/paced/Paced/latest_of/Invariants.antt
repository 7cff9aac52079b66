use Rattle.std.proofs.Common.{◌≡◌, ℕ, ◌+◌, ◌-◌, ◌≤◌, true, false, ◌||◌, eqb}
use Rattle.places.specs.Has.{has, size}
use Rattle.books.specs.Views.{machines_in}
use Rattle.shares.specs.Marks.{machine_at, mark_of, value}
use Rattle.shares.specs.Reaches.{Within}
use Rattle.shares.specs.Plans.{load_at, value_back}
use Rattle.shares.proofs.plan.paced.Paced.latest_of.Given as goal

abbrev pub invariant-loop-i : goal.invariant-loop-i
invariant-loop-i g l =
    Within (has l.left) (has l.initial.left) × ((has l.initial.left l.latest || eqb l.latest l.initial.latest) ≡ true)
    × (l.mark ≡ mark_of (g.P.Pace.table l.self.pace.now) (machine_at (machines_in l.self.plan.now.book) l.latest) (load_at l.self.plan.now l.latest - l.self.plan.now.width + 1))
    × ((k : ℕ) → (has l.initial.left k || eqb k l.initial.latest) ≡ true → has l.left k ≡ false
    → value_back (g.P.Pace.table l.self.pace.now) l.self.plan.now k ≤ value l.mark)

abbrev pub decreases-loop-i : goal.decreases-loop-i
decreases-loop-i g l = size (has l.left)
