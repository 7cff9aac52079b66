use Rattle.std.proofs.Common.{◌≡◌, ℕ, ◌&&◌, ltb, leb}
use Rattle.places.specs.Has.{has}
use Rattle.shares.specs.Plans.{load_at}
use Rattle.shares.proofs.plan.Plan.laden.Given as goal

abbrev pub invariant-loop-i : goal.invariant-loop-i
invariant-loop-i l = (k : ℕ) → has l.laden k ≡ (ltb k l.i && leb l.self.width (load_at l.self k))
