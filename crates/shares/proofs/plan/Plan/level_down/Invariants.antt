use Rattle.std.proofs.Common.{◌≡◌}
use Rattle.shares.proofs.plan.Plan.level_down.Given as goal

abbrev pub invariant-loop-width : goal.invariant-loop-width
invariant-loop-width g l = l.self.book ≡ l.initial.self.book
