-- Demands that have the same blocks for each set of holders confine the same blocks to each set.
use Rattle.std.proofs.Common.{◌≡◌, ℕ, zero, suc, ◌+◌, Bool, true, false, cond, not, ◌&&◌, ◌||◌, eqb, sym, refl, ap, ◌∙◌, arith}
use Rattle.std.proofs.lemmas.Bool.{eq-eqb, ne_eqb}
use Rattle.theory.specs.Sums.{total, every, only, agree}
use Rattle.theory.specs.ShareOuts.{Demand, just, blocks_held, confined}
use Rattle.theory.proofs.Sums.{total_eq, total_add, only_total, every_eq}

-- the set T, with the place m in it or not
put : ℕ → Bool → (ℕ → Bool) → ℕ → Bool
put m v T i = cond (eqb i m) v (T i)

-- the blocks of B less those of the batches that m holds, where m is not in S
let_in : ℕ → (ℕ → Bool) → Demand → Demand
let_in m S B = record { batches = B.batches; holds = B.holds; blocks = λ b. only (not (B.holds b m) || S m) (B.blocks b) }

only_and : (s t : Bool) (v : ℕ) → only (s && t) v ≡ only t (only s v)
only_and s t v = grind arith

only_split : (t h s : Bool) (v : ℕ) → only t (only (not h || s) v) ≡ only (agree h false && t) v + only s (only (agree h true && t) v)
only_split t h s v = grind arith

module _ (m : ℕ) (B : Demand) (S : ℕ → Bool) where
  confined_step : confined (suc m) B S ≡ confined m (let_in m S B) S
  unfolding every let_in
  confined_step = total_eq B.batches _ _ (λ b _. only_and (not (B.holds b m) || S m) (every m (λ i. not (B.holds b i) || S i)) (B.blocks b))

  module _ (T : ℕ → Bool) where
    just_put : (v : Bool) (b : ℕ) → just (suc m) B (put m v T) b ≡ (agree (B.holds b m) v && just m B T b)
    unfolding every put
    just_put v b =
        rw (
          eq-eqb m m refl,
          every_eq m (λ i. agree (B.holds b i) (put m v T i)) (λ i. agree (B.holds b i) (T i))
              (λ i l. ap (λ t. agree (B.holds b i) (cond t v (T i))) (ne_eqb i m (omega arith))),
        ) refl

    held_step : blocks_held m (let_in m S B) T ≡ blocks_held (suc m) B (put m false T) + only (S m) (blocks_held (suc m) B (put m true T))
    unfolding let_in
    held_step =
        let of = λ (v : Bool) (b : ℕ). only (just (suc m) B (put m v T) b) (B.blocks b) in
        total_eq B.batches _ (λ b. of false b + only (S m) (of true b))
        (λ b _. rw (just_put false b, just_put true b) (only_split (just m B T b) (B.holds b m) (S m) (B.blocks b)))
        ∙ total_add B.batches (of false) (λ b. only (S m) (of true b))
        ∙ ap (λ v. total B.batches (of false) + v) (sym (only_total B.batches (S m) (of true)))

pub same_work : (m : ℕ) (B C : Demand) → ((S : ℕ → Bool) → blocks_held m B S ≡ blocks_held m C S)
    → (S : ℕ → Bool) → confined m B S ≡ confined m C S
unfolding every
same_work zero B C same S = same S
same_work (suc m) B C same S =
    confined_step m B S
    ∙ same_work m (let_in m S B) (let_in m S C)
    (λ T. held_step m B S T ∙ rw (same (put m false T), same (put m true T)) refl ∙ sym (held_step m C S T)) S
    ∙ sym (confined_step m C S)
