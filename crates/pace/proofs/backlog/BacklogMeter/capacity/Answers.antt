use Rattle.std.proofs.Common.{arith}
use Rattle.pace.specs.Formulas.{capacity_at_the_latest, capacity_before_backlog, capacity_after_backlog}
use Rattle.pace.proofs.backlog.BacklogMeter.capacity.Goals as goal

pub returns-then-moment-ge-LATEST-clause-counts_the_table : goal.returns-then-moment-ge-LATEST-clause-counts_the_table
returns-then-moment-ge-LATEST-clause-counts_the_table g c =
    omega (arith, capacity_at_the_latest (g.P.Pace.table c.args.self.now.0 c.args.terms) c.args.terms.backlog c.args.moment (omega arith))

pub returns-then-moment-backlog-clause-counts_the_table : goal.returns-then-moment-backlog-clause-counts_the_table
returns-then-moment-backlog-clause-counts_the_table g c =
    omega (arith, capacity_before_backlog (g.P.Pace.table c.args.self.now.0 c.args.terms) c.args.terms.backlog c.args.moment (omega arith) (omega arith))

pub returns-else-moment-backlog-clause-counts_the_table : goal.returns-else-moment-backlog-clause-counts_the_table
returns-else-moment-backlog-clause-counts_the_table g c =
    omega (arith, c.capacity.ensures.counts_the_table, capacity_after_backlog (g.P.Pace.table c.args.self.now.0 c.args.terms) c.args.terms.backlog c.args.moment (omega arith) (omega arith))
