use Rattle.std.proofs.Common.{◌^◌, ◌<◌, arith}
use Rattle.places.specs.Has.{has}
use Rattle.places.proofs.Digits.{ones_total}
use Rattle.places.proofs.Places.len.Goals as goal

pub returns : goal.returns
unfolding has
returns c =
    let fits : c.args.self.word < 2 ^ 32 = omega arith in
    record { counts_the_places = ones_total 32 c.args.self.word fits }
