-- What the digits of a word say of a set of places, by the library's `bit_at`: the empty set holds none; which words are equal; how many places there are; and that all are below 32.
use Rattle.std.specs.Prelude.{IsTrue, ◌↔◌}
use Rattle.std.proofs.Common.{◌≡◌, ℕ, zero, suc, ◌/◌, ◌%◌, ◌^◌, ◌<◌, true, false, eqb, ap, arith, pow-suc}
use lib.Count.{ones, ones_step}
use Rattle.std.proofs.lemmas.Bool.{eq-eqb, eqb-true}
use Rattle.std.proofs.lemmas.Bool.Decides.{nat_tests}
use Rattle.std.proofs.lemmas.Nat.Bits.{bit_at-zero, bit_at_lowest, bit_at-suc, bit_at-lt, bit_at_above, same_from_bits}
use Rattle.theory.specs.Sums.{total, only}
use Rattle.theory.proofs.Sums.{total_first, total_eq}
use Rattle.places.specs.declared.Places.{Places}
use Rattle.places.specs.Has.{digit, has, no_places, same_places}

pub has_none : (k : ℕ) → has no_places k ≡ false
unfolding has digit
has_none k = rw (bit_at-zero k)

-- what `==` and `!=` compare tells whether two sets hold the same places
pub same_places_decides : (a b : Places) → IsTrue (same_places a b) ↔ ((k : ℕ) → has a k ≡ has b k)
unfolding has digit
same_places_decides a b = (
  (λ same k. rw (eqb-true a.word b.word same)),
  (λ same. eq-eqb a.word b.word (same_from_bits a.word b.word (λ k. grind (arith, nat_tests, same k, bit_at-lt)))),
)

-- the digits that are 1, counted
pub ones_total : (k n : ℕ) → n < 2 ^ k → ones n ≡ total k (λ i. only (digit n i) 1)
unfolding ones digit total
ones_total zero n h =
    let none : n ≡ 0 = omega arith in
    rw none
ones_total (suc k) n h =
    omega (
      arith,
      ones_step n,
      ones_total k (n / 2) (omega (arith, pow-suc 2 k)),
      total_first k (λ i. only (digit n i) 1),
      total_eq k _ _ (λ i _. ap (λ x. only (eqb x 1) 1) (bit_at-suc n i)),
      low,
    )
  where
    low : n % 2 ≡ only (digit n 0) 1
    low = grind (arith, nat_tests, bit_at_lowest)

-- a set has places below 32 only
pub has_low : (s : Places) (k : ℕ) → s.word < 2 ^ 32 → has s k ≡ true → k < 32
unfolding has digit
has_low s k fits held = grind (arith, nat_tests, bit_at_above s.word 32 k fits)
