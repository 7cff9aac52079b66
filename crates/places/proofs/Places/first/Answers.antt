use Rattle.std.proofs.Common.{arith}
use Rattle.std.specs.Int.{w32}
use Rattle.std.proofs.lemmas.Nat.Bits.{bit_at-trailing_zeros}
use Rattle.places.specs.Has.{has, digit}
use Rattle.places.proofs.Digits.{has_none}
use Rattle.places.proofs.Places.first.Goals as goal

pub returns-then-self-eq0 : goal.returns-then-self-eq0
unfolding has
returns-then-self-eq0 c = record { gives_the_lowest_place = λ k. rw c.if-self-eq0.true (has_none k) }

pub returns : goal.returns
unfolding has digit
returns c =
    let lowest = bit_at-trailing_zeros w32 c.args.self.word (omega (arith, c.if-self-eq0.false)) (omega arith) in
    record { gives_the_lowest_place = record { below = lowest.0; held = rw lowest.1; least = λ k l. rw (lowest.2 k l) } }
