-- Two stable share-outs of demands that confine the same blocks have the same loads.
use Rattle.std.proofs.Common.{◌≡◌, ℕ, zero, suc, ◌+◌, ◌<◌, Bool, eqb, leb, refl, ap, ◌∙◌, inl, inr, arith}
use Rattle.std.proofs.lemmas.Bool.{cases_order}
use Rattle.std.proofs.lemmas.Bool.Decides.{nat_tests}
use Rattle.theory.specs.Sums.{only}
use Rattle.theory.specs.ShareOuts.{Demand, Order, Complete, Stable, load, confined, from, reached}
use Rattle.theory.proofs.Sums.{climb, total_eq, total_add, total_one, only_here, only_off}
use Rattle.theory.proofs.Best.{best}

-- how many of f 1, .., f l are μ
spot : (ℕ → ℕ) → ℕ → ℕ → ℕ
spot f μ zero = 0
spot f μ (suc l) = spot f μ l + only (eqb (f (suc l)) μ) 1

step : (a μ : ℕ) → only (leb μ a) 1 ≡ only (leb (suc μ) a) 1 + only (eqb a μ) 1
step a μ = grind (arith, nat_tests)

reached_spot : (f : ℕ → ℕ) (μ l : ℕ) → reached f μ l ≡ reached f (suc μ) l + spot f μ l
unfolding reached spot
reached_spot f μ zero = refl
reached_spot f μ (suc l) = omega (arith, reached_spot f μ l, step (f (suc l)) μ)

spot_none : (f : ℕ → ℕ) (μ l : ℕ) → ((k : ℕ) → f k ≡ μ → ⊥) → spot f μ l ≡ 0
unfolding spot
spot_none f μ zero off = refl
spot_none f μ (suc l) off = omega (arith, spot_none f μ l off, only_off (f (suc l)) μ 1 (off (suc l)))

-- a machine with the larger load has more blocks at the mark of its last one
spot_more : (f : ℕ → ℕ) (l k : ℕ) → l < k → spot f (f k) l < spot f (f k) k
unfolding spot
spot_more f l zero h = absurd (omega arith)
spot_more f l (suc k) h = omega (arith, climb (spot f (f (suc k))) (λ _. omega arith) l k (omega arith), only_here (f (suc k)) 1)

module _ (m : ℕ) (p : ℕ → ℕ → ℕ) (order : Order m p) where
  -- only machine i has a block at a mark of machine i
  from_spot : (B : Demand) (x : ℕ → ℕ → ℕ) (i k : ℕ) → i < m
      → from m p B x (p i k) ≡ from m p B x (suc (p i k)) + spot (p i) (p i k) (load B x i)
  from_spot B x i k l =
      let at = λ (j : ℕ). spot (p j) (p i k) (load B x j) in
      total_eq m _ _ (λ j _. reached_spot (p j) (p i k) (load B x j))
      ∙ total_add m (λ j. reached (p j) (suc (p i k)) (load B x j)) at
      ∙ ap (λ v. from m p B x (suc (p i k)) + v)
      (total_one m at i l (λ j lj d. spot_none (p j) (p i k) (load B x j) (λ h e. d (order.apart j i h k lj l e))))

  same_loads : (B C : Demand) (x y : ℕ → ℕ → ℕ) → ((μ : ℕ) → from m p B x μ ≡ from m p C y μ) → (i : ℕ) → i < m → load B x i ≡ load C y i
  same_loads B C x y same i l = elim (cases_order (load B x i) (load C y i)) [
    | inl e ↦ e
    | inr (inl s) ↦ absurd (omega (arith, spot_more (p i) (load B x i) (load C y i) s, alike (load C y i)))
    | inr (inr s) ↦ absurd (omega (arith, spot_more (p i) (load C y i) (load B x i) s, alike (load B x i)))
  ]
    where
      alike : (k : ℕ) → spot (p i) (p i k) (load B x i) ≡ spot (p i) (p i k) (load C y i)
      alike k = omega (arith, from_spot B x i k l, from_spot C y i k l, same (p i k), same (suc (p i k)))

pub equal_loads : (m : ℕ) (p : ℕ → ℕ → ℕ) (B C : Demand) (x y : ℕ → ℕ → ℕ) → Order m p
    → Complete m B x → Stable m p B x → Complete m C y → Stable m p C y
    → ((S : ℕ → Bool) → confined m B S ≡ confined m C S) → (i : ℕ) → i < m → load B x i ≡ load C y i
equal_loads m p B C x y order cx stx cy sty alike =
    same_loads m p order B C x y
    (λ μ. omega (
      arith,
      best m p B C x y order cx stx cy (λ S. omega (arith, alike S)) μ,
      best m p C B y x order cy sty cx (λ S. omega (arith, alike S)) μ,
    ))
