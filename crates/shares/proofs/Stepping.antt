-- Steps back along a chain to its start.
use Rattle.std.proofs.Common.{◌≡◌, ℕ, zero, suc, ◌<◌, ◌≤◌, Bool, true, cond, eqb, refl, inl, inr, arith}
use Rattle.std.proofs.lemmas.Bool.{cases_eq, eq-eqb, ne_eqb}
use Rattle.shares.specs.Reaches.{Chained}

-- how many steps it is back from i to the start, and at most n
unfoldable pub steps_back : (ℕ → ℕ) → ℕ → ℕ → ℕ → ℕ
steps_back before start zero i = 0
steps_back before start (suc n) i = cond (eqb i start) 0 (suc (steps_back before start n (before i)))

at_start : (before : ℕ → ℕ) (start n i : ℕ) → i ≡ start → steps_back before start n i ≡ 0
unfolding steps_back
at_start before start zero i e = refl
at_start before start (suc n) i e = rw (eq-eqb i start e) refl

one_more : (before : ℕ → ℕ) (start n i : ℕ) → (i ≡ start → ⊥) → steps_back before start (suc n) i ≡ suc (steps_back before start n (before i))
unfolding steps_back
one_more before start n i d = rw (ne_eqb i start d) refl

module _ {E : ℕ → ℕ → Bool} {start : ℕ} {S : ℕ → Bool} {before : ℕ → ℕ} (c : Chained E start S before) where
  -- the steps are no more than the stage
  enough : (n i : ℕ) → S i ≡ true → c.stage i ≤ n → steps_back before start (suc n) i ≡ steps_back before start n i
  enough zero i e low = elim (cases_eq i start) [
    | inl s ↦ omega (arith, at_start before start 1 i s, at_start before start 0 i s)
    | inr d ↦ absurd (omega (arith, low, (c.linked i e d).earlier))
  ]
  enough (suc n) i e low = elim (cases_eq i start) [
    | inl s ↦ omega (arith, at_start before start (suc (suc n)) i s, at_start before start (suc n) i s)
    | inr d ↦ let o = c.linked i e d in
        omega (arith, one_more before start (suc n) i d, one_more before start n i d, enough n (before i) o.inside (omega (arith, low, o.earlier)))
  ]

  pub steps_fall : (i : ℕ) → S i ≡ true → (i ≡ start → ⊥) → steps_back before start 32 (before i) < steps_back before start 32 i
  steps_fall i e d =
      let o = c.linked i e d in
      omega (arith, one_more before start 31 i d, enough 31 (before i) o.inside (omega (arith, c.few i e, o.earlier)))
