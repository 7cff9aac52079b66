use Rattle.std.proofs.Common.{arith}
use Rattle.std.proofs.lemmas.Bool.Decides.{nat_tests}
use Rattle.std.proofs.lemmas.Nat.Bits.{bit_at-lt, bit_at_or}
use Rattle.places.specs.Has.{has, digit}
use Rattle.places.proofs.Places.union.Goals as goal

pub returns : goal.returns
unfolding has digit
returns c = record { holds_the_places_of_either = λ k. grind (arith, nat_tests, bit_at_or, bit_at-lt) }
