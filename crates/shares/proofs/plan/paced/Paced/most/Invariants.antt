use Rattle.std.proofs.Common.{◌≡◌, ◌-◌, ◌≤◌, true}
use Rattle.shares.specs.Plans.{load_at, helps}
use Rattle.shares.proofs.plan.paced.Paced.most.Given as goal

abbrev pub invariant-loop-low : goal.invariant-loop-low
invariant-loop-low g l =
    (l.self.plan.now.width ≤ l.low) × (l.low ≤ l.high) × (l.high ≤ load_at l.self.plan.now l.i)
    × (helps (g.P.Pace.table l.self.pace.now) l.self.plan.now l.i l.j l.low ≡ true)

abbrev pub decreases-loop-low : goal.decreases-loop-low
decreases-loop-low g l = l.high - l.low
