use Rattle.std.proofs.Common.{◌≡◌, ◌+◌, ◌-◌, ◌*◌}
use Rattle.places.specs.Has.{has, size}
use Rattle.theory.specs.Moves.{total_of_marks}
use Rattle.shares.specs.Plans.{machines_at, load_at, values_in, ExhaustedPlan}
use Rattle.shares.proofs.plan.Plan.level.Given as goal

abbrev pub invariant-loop-i : goal.invariant-loop-i
invariant-loop-i g l = (l.self.book ≡ l.initial.self.book) × (l.self.width ≡ l.initial.self.width) × ExhaustedPlan (g.P.Pace.table l.pace) l.self (has l.exhausted)

-- a move lowers the total of marks; else at least one machine more is exhausted
abbrev pub decreases-loop-i : goal.decreases-loop-i
decreases-loop-i g l = total_of_marks (machines_at l.self) (values_in (g.P.Pace.table l.pace) l.self) (load_at l.self) * 33 + (32 - size (has l.exhausted))
