use Rattle.std.proofs.Common.{arith}
use Rattle.shares.proofs.Planned.{load_few}
use Rattle.shares.proofs.plan.paced.Paced.mark_after.Goals as goal

pub overflow_add-load : goal.overflow_add-load
overflow_add-load g c = record { fits = omega (arith, c.requires.few, load_few c.args.self.plan.now c.args.i c.requires.stands) }
