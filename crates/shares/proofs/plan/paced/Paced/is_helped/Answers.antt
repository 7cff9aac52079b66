use Rattle.std.proofs.Common.{arith}
use Rattle.shares.proofs.Planned.{load_few}
use Rattle.shares.proofs.plan.paced.Paced.is_helped.Goals as goal

pub mark_after-next-requires-clause-few : goal.mark_after-next-requires-clause-few
mark_after-next-requires-clause-few g c = omega (arith, c.requires.there.1, load_few c.args.self.plan.now c.args.i c.requires.stand.0)
