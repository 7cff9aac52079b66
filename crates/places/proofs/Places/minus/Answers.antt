use Rattle.std.proofs.Common.{arith}
use Rattle.std.proofs.lemmas.Bool.Decides.{nat_tests}
use Rattle.std.proofs.lemmas.Nat.Bits.{bit_at-lt, bit_at_and, bit_at_xor}
use Rattle.places.specs.Has.{has, digit}
use Rattle.places.proofs.Places.minus.Goals as goal

pub returns : goal.returns
unfolding has digit
returns c = record { holds_the_places_that_the_other_does_not = λ k. grind (arith, nat_tests, bit_at_xor, bit_at_and, bit_at-lt) }
