use Rattle.shares.specs.Cells.{nth}
use Rattle.shares.proofs.Stepping.{steps_back}
use Rattle.shares.proofs.plan.Plan.+augment.Given as goal

abbrev pub decreases-augment : goal.decreases-augment
decreases-augment l = steps_back (nth l.reach.now.before) l.start 32 l.i
