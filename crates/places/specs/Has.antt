-- Which places a set holds: place i is the digit of weight 2 ^ i in its word.
--   digit word i    the digit i of a word is 1
--   no_places       the empty set
--   has s i         the set s holds the place i
--   same_places s t   both sets hold the same places: their words are equal
--   size p          how many of the places 0 .. 31 pass the test p
--   Lowest s i      i is the lowest place of the set s
use Rattle.std.specs.Prelude.{◌≡◌, ℕ, ◌/◌, ◌%◌, ◌^◌, ◌<◌, Bool, true, false, ◌==◌, nat_eq}
use Rattle.std.specs.Ordering.{on}
use Rattle.theory.specs.Sums.{total, only}
use Rattle.places.specs.declared.Places.{Places}

unfoldable pub digit : ℕ → ℕ → Bool
digit word i = word / 2 ^ i % 2 == 1

abbrev pub no_places : Places
no_places = record { word = 0 }

unfoldable pub has : Places → ℕ → Bool
has s i = digit s.word i

abbrev pub same_places : Places → Places → Bool
same_places = on (λ s. s.word) nat_eq

abbrev pub size : (ℕ → Bool) → ℕ
size p = total 32 (λ k. only (p k) 1)

pub record Lowest (s : Places) (i : ℕ) : Type 0 where
  pub below : i < 32
  pub held : has s i ≡ true
  pub least : (k : ℕ) → k < i → has s k ≡ false
