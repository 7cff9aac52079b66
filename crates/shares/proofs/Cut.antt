-- Sums whose last terms are 0.
use Rattle.std.proofs.Common.{◌≡◌, ℕ, zero, suc, ◌≤◌, ap, inl, inr, arith}
use Rattle.std.proofs.lemmas.Bool.{cases_lt}
use Rattle.theory.specs.Sums.{total}

pub total_cut : (f : ℕ → ℕ) (n m : ℕ) → n ≤ m → ((b : ℕ) → n ≤ b → f b ≡ 0) → total m f ≡ total n f
unfolding total
total_cut f n zero l none = let e : zero ≡ n = omega arith in ap (λ (k : ℕ). total k f) e
total_cut f n (suc m) l none = elim (cases_lt m n) [
  | inl h ↦ let e : suc m ≡ n = omega arith in ap (λ (k : ℕ). total k f) e
  | inr h ↦ omega (arith, total_cut f n m h none, none m h)
]
