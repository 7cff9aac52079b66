use Rattle.std.proofs.Common.{arith}
use Rattle.std.specs.Int.{w32}
use Rattle.std.proofs.lemmas.Bool.Decides.{nat_tests}
use Rattle.std.proofs.lemmas.Nat.Bits.{bit_at_set_same, bit_at_set_other}
use Rattle.places.specs.Has.{has, digit}
use Rattle.places.proofs.Places.with.Goals as goal

pub returns-then-place-lt32 : goal.returns-then-place-lt32
unfolding has digit
returns-then-place-lt32 c = record { adds_the_place = λ k. grind (arith, nat_tests, bit_at_set_same w32, bit_at_set_other w32) }
