-- The blocks confined to a set are at most what its machines are given, and just that where the set is closed.
use Rattle.std.proofs.Common.{◌≡◌, ℕ, ◌<◌, ◌≤◌, Bool, true, false, sym, ap, ◌∙◌, inl, inr, arith}
use Rattle.std.proofs.lemmas.Bool.{cases_Bool, cases_lt, both_ways}
use Rattle.theory.specs.Sums.{total, only}
use Rattle.theory.specs.ShareOuts.{Demand, Complete, Closed, inside, load, over, confined}
use Rattle.theory.proofs.Sums.{total_le, total_eq, total_zero, total_swap, only_total}
use Rattle.theory.proofs.Sets.{inside_at}

module _ (m : ℕ) (B : Demand) (x : ℕ → ℕ → ℕ) (S : ℕ → Bool) (full : Complete m B x) where
  row : ℕ → ℕ
  row b = total m (λ i. only (S i) (x b i))

  by_rows : over m S (load B x) ≡ total B.batches row
  unfolding row
  by_rows = total_eq m _ _ (λ i _. only_total B.batches (S i) (λ b. x b i)) ∙ sym (total_swap m B.batches (λ b i. only (S i) (x b i)))

  row_in : (b : ℕ) → b < B.batches → inside m B S b ≡ true → row b ≡ B.blocks b
  unfolding row
  row_in b lb e = total_eq m _ _ (λ i li. elim (cases_Bool (S i)) [
    | inl s ↦ ap (λ t. only t (x b i)) s
    | inr s ↦ ap (λ t. only t (x b i)) s ∙ sym (full.nothing_elsewhere b i lb li (elim (cases_Bool (B.holds b i)) [
      | inl h ↦ absurd (both_ways (S i) s (inside_at m B S b i e li h))
      | inr h ↦ h
    ]))
  ]) ∙ full.adds_up b lb

  row_out : Closed m B x S → (b : ℕ) → b < B.batches → inside m B S b ≡ false → row b ≡ 0
  unfolding row
  row_out c b lb e = total_eq m _ _ (λ i li. elim (cases_Bool (S i)) [
    | inl s ↦ ap (λ t. only t (x b i)) s ∙ elim (cases_lt 0 (x b i)) [ inl pos ↦ absurd (both_ways _ e (c b i lb li s pos)) | inr z ↦ omega arith ]
    | inr s ↦ ap (λ t. only t (x b i)) s
  ]) ∙ total_zero m

  pub work_le : confined m B S ≤ over m S (load B x)
  work_le = rw by_rows (total_le B.batches _ _ (λ b lb. elim (cases_Bool (inside m B S b)) [
    | inl e ↦ omega (arith, row_in b lb e, ap (λ t. only t (B.blocks b)) e)
    | inr e ↦ omega (arith, ap (λ t. only t (B.blocks b)) e)
  ]))

  pub work_eq : Closed m B x S → confined m B S ≡ over m S (load B x)
  work_eq c = rw by_rows (total_eq B.batches _ _ (λ b lb. elim (cases_Bool (inside m B S b)) [
    | inl e ↦ ap (λ t. only t (B.blocks b)) e ∙ sym (row_in b lb e)
    | inr e ↦ ap (λ t. only t (B.blocks b)) e ∙ sym (row_out c b lb e)
  ]))
