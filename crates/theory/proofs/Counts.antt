-- How many of the marks of a machine that do not fall are at least μ.
use Rattle.std.proofs.Common.{◌≡◌, ℕ, zero, suc, ◌+◌, ◌-◌, ◌<◌, ◌≤◌, Bool, true, false, leb, refl, ap, inl, inr, add-zero, add-suc, arith}
use Rattle.std.proofs.lemmas.Bool.{cases_lt, le-leb, lt-leb}
use Rattle.theory.specs.Sums.{only}
use Rattle.theory.specs.ShareOuts.{reached}
use Rattle.theory.proofs.Sums.{climb}

only_one : (t : Bool) → only t 1 ≤ 1
only_one true = omega arith
only_one false = omega arith

pub reached_at_most : (f : ℕ → ℕ) (μ l d : ℕ) → reached f μ (l + d) ≤ reached f μ l + d
unfolding reached
reached_at_most f μ l zero = rw (add-zero l) (omega arith)
reached_at_most f μ l (suc d) = rw (add-suc l d) (omega (arith, reached_at_most f μ l d, only_one (leb μ (f (suc (l + d))))))

module _ (f : ℕ → ℕ) (rises : (k : ℕ) → f k ≤ f (suc k)) (μ : ℕ) where
  -- from a block on that is at μ or after it, each counts
  pub reached_all : (l d : ℕ) → μ ≤ f (suc l) → reached f μ (l + d) ≡ reached f μ l + d
  unfolding reached
  reached_all l zero h = rw (add-zero l) (omega arith)
  reached_all l (suc d) h =
      let here : leb μ (f (suc (l + d))) ≡ true = le-leb μ _ (omega (arith, climb f rises (suc l) (suc (l + d)) (omega arith))) in
      rw (add-suc l d) (omega (arith, reached_all l d h, ap (λ t. only t 1) here))

  -- up to a block before μ, none counts
  pub reached_none : (l : ℕ) → (0 < l → f l < μ) → reached f μ l ≡ 0
  unfolding reached
  reached_none zero h = refl
  reached_none (suc l) h =
      let top : f (suc l) < μ = h (omega arith) in
      omega (arith, reached_none l (λ _. omega (arith, rises l)), ap (λ t. only t 1) (lt-leb μ (f (suc l)) top))

  -- two loads of one machine, the first of which has its next block at μ or after it
  pub reached_trade : (l k : ℕ) → μ ≤ f (suc l) → reached f μ l + k ≤ reached f μ k + l
  reached_trade l k h = elim (cases_lt k l) [
    | inl s ↦ let e : k + (l - k) ≡ l = omega arith in omega (arith, rw e at (reached_at_most f μ k (l - k)))
    | inr s ↦ let e : l + (k - l) ≡ k = omega arith in omega (arith, rw e at (reached_all l (k - l) h))
  ]
