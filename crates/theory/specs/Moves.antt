-- Moving blocks from one machine to another.
--   at c u b q v            v where b is c and q is u, and 0 elsewhere
--   Moved a c v u x y       y is x with a blocks of the batch c moved from the place v to u
--   Carried i j a l l'      the loads l' are l with a blocks less at i and a more at j
--   Helps p l i j a         machine j ends its next a blocks before machine i the first of its last a
--   total_of_marks m p l    what the marks of all blocks come to
use Rattle.std.specs.Prelude.{◌≡◌, ℕ, suc, ◌+◌, ◌-◌, ◌<◌, ◌&&◌, ◌==◌}
use Rattle.theory.specs.Sums.{total, only}

abbrev pub at : ℕ → ℕ → ℕ → ℕ → ℕ → ℕ
at c u b q v = only (b == c && q == u) v

pub record Moved (a c v u : ℕ) (x y : ℕ → ℕ → ℕ) : Type 0 where
  pub cells : (b q : ℕ) → y b q + at c v b q a ≡ x b q + at c u b q a

pub record Carried (i j a : ℕ) (l l' : ℕ → ℕ) : Type 0 where
  pub loads : (k : ℕ) → l' k + only (k == i) a ≡ l k + only (k == j) a

abbrev pub Helps : (ℕ → ℕ → ℕ) → (ℕ → ℕ) → ℕ → ℕ → ℕ → Type 0
Helps p l i j a = p j (l j + a) < p i (l i - a + 1)

abbrev pub total_of_marks : ℕ → (ℕ → ℕ → ℕ) → (ℕ → ℕ) → ℕ
total_of_marks m p l = total m (λ i. total (l i) (λ k. p i (suc k)))
