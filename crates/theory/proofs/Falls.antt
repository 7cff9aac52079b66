-- A move that helps lowers what the marks of all blocks come to.
use Rattle.std.proofs.Common.{◌≡◌, ℕ, zero, suc, ◌+◌, ◌-◌, ◌<◌, ◌≤◌, eqb, sym, ap, inl, inr, add-zero, add-suc, arith}
use Rattle.std.proofs.lemmas.Bool.{cases_eq}
use Rattle.theory.specs.Sums.{total, only}
use Rattle.theory.specs.Moves.{Carried, Helps, total_of_marks}
use Rattle.theory.proofs.Sums.{climb, total_eq, total_add, total_here, only_here, only_off}
use Rattle.theory.proofs.Moves.{carried_from, carried_to, carried_else}

total_split : (f : ℕ → ℕ) (n d : ℕ) → total (n + d) f ≡ total n f + total d (λ x. f (n + x))
unfolding total
total_split f n zero = rw (add-zero n) (omega arith)
total_split f n (suc d) = rw add-suc (omega (arith, total_split f n d))

total_lt : (n : ℕ) (f g : ℕ → ℕ) → ((x : ℕ) → x < n → f x < g x) → total n f + n ≤ total n g
unfolding total
total_lt zero f g h = omega arith
total_lt (suc n) f g h = omega (arith, total_lt n f g (λ x l. h x (omega arith)), h n (omega arith))

-- sums that differ by u at i and by v at j
total_moved : (m i j u v : ℕ) (f g : ℕ → ℕ) → i < m → j < m → ((k : ℕ) → g k + only (eqb k i) u ≡ f k + only (eqb k j) v)
    → total m g + u ≡ total m f + v
total_moved m i j u v f g li lj each = omega (
  arith,
  total_eq m _ _ (λ k _. each k),
  total_add m g (λ k. only (eqb k i) u),
  total_add m f (λ k. only (eqb k j) v),
  total_here m i u li,
  total_here m j v lj,
)

module _ (m : ℕ) (p : ℕ → ℕ → ℕ) (rises : (i k : ℕ) → i < m → p i k ≤ p i (suc k)) (l : ℕ → ℕ) (i j : ℕ) (li : i < m) (lj : j < m) where
  up : (q k h : ℕ) → q < m → k ≤ h → p q k ≤ p q h
  up q k h lq = climb (p q) (λ k. rises q k lq) k h

  pub helps_apart : (a : ℕ) → 0 < a → Helps p l i j a → i ≡ j → ⊥
  helps_apart a pos h e = omega (arith, rw (sym e) at h, up i (l i - a + 1) (l i + a) li (omega arith))

  pub helps_less : (a w : ℕ) → a ≤ w → w ≤ l i → Helps p l i j w → Helps p l i j a
  helps_less a w le top h = omega (arith, h, up j (l j + a) (l j + w) lj (omega arith), up i (l i - w + 1) (l i - a + 1) li (omega arith))

  module _ (l' : ℕ → ℕ) (a : ℕ) (pos : 0 < a) (h : Helps p l i j a) (c : Carried i j a l l') where
    ne : i ≡ j → ⊥
    ne = helps_apart a pos h

    gone : ℕ
    gone = total a (λ x. p i (suc (l' i + x)))

    come : ℕ
    come = total a (λ x. p j (suc (l j + x)))

    of : ℕ → ℕ → ℕ
    of k n = total n (λ q. p k (suc q))

    each : (k : ℕ) → of k (l' k) + only (eqb k i) gone ≡ of k (l k) + only (eqb k j) come
    unfolding gone come of
    each k = elim (cases_eq k i) [
      | inl e ↦ rw e (omega (arith, only_here i gone, only_off i j come ne, total_split (λ q. p i (suc q)) (l' i) a, ap (of i) (carried_from c ne)))
      | inr d ↦ elim (cases_eq k j) [
        | inl e ↦ rw e (omega (arith, only_here j come, only_off j i gone (λ s. ne (sym s)), total_split (λ q. p j (suc q)) (l j) a, ap (of j) (carried_to c ne)))
        | inr f ↦ omega (arith, only_off k i gone d, only_off k j come f, ap (of k) (carried_else c k d f))
      ]
    ]

    pub marks_fall : total_of_marks m p l' < total_of_marks m p l
    unfolding gone come of
    marks_fall = omega (
      arith,
      total_moved m i j gone come (λ k. of k (l k)) (λ k. of k (l' k)) li lj each,
      total_lt a (λ x. p j (suc (l j + x))) (λ x. p i (suc (l' i + x)))
          (λ x lx. omega (arith, h, up j (suc (l j + x)) (l j + a) lj (omega arith), up i (l i - a + 1) (suc (l' i + x)) li (omega (arith, carried_from c ne)))),
    )
