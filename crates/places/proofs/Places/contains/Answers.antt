use Rattle.std.proofs.Common.{arith}
use Rattle.std.proofs.lemmas.Bool.Decides.{nat_tests}
use Rattle.std.proofs.lemmas.Nat.Bits.{shr_and_one, bit_at_above}
use Rattle.places.specs.Has.{has, digit}
use Rattle.places.proofs.Places.contains.Goals as goal

pub returns-then-place-lt32 : goal.returns-then-place-lt32
unfolding has digit
returns-then-place-lt32 c = record { tells_whether_the_place_is_held = grind (arith, nat_tests, shr_and_one) }

pub returns-else-place-lt32 : goal.returns-else-place-lt32
unfolding has digit
returns-else-place-lt32 c = record { tells_whether_the_place_is_held = grind (arith, nat_tests, bit_at_above c.args.self.word 32 c.args.place) }
