use Rattle.std.proofs.Common.{ap, arith}
use Rattle.places.specs.Has.{has}
use Rattle.theory.specs.Moves.{total_of_marks}
use Rattle.shares.specs.declared.plan.Plan.{Plan}
use Rattle.shares.specs.Plans.{machines_at, load_at, values_in}
use Rattle.shares.proofs.Sizes.{size_few}
use Rattle.shares.proofs.plan.Plan.level.Goals as goal

pub loop-i-smaller-in-Some-relieve : goal.loop-i-smaller-in-Some-relieve
loop-i-smaller-in-Some-relieve g c =
    let e = c.in-Some-relieve.ensures in
    omega (
      arith,
      e.exhausts_one_more_at_least,
      size_few (has c.in-Some-relieve.more),
      ap (λ (k : Plan). total_of_marks (machines_at k) (values_in (g.P.Pace.table c.args.pace.now) k) (load_at k)) e.lowers_the_total_of_marks_or_changes_nothing,
    )
