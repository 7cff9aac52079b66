-- A stable share-out has no more blocks from any mark on than any complete one of a demand that confines no less.
use Rattle.std.proofs.Common.{◌≡◌, ℕ, zero, suc, ◌+◌, ◌<◌, ◌≤◌, Bool, true, false, ◌||◌, inl, inr, arith}
use Rattle.std.proofs.lemmas.Bool.{cases_Bool, cases_lt, cases_eq, both_ways, or_cases, or_left, or_right, false≢true}
use Rattle.theory.specs.Sums.{only}
use Rattle.theory.specs.ShareOuts.{Demand, Order, Complete, Closed, Full, Stable, load, confined, from, reached}
use Rattle.theory.proofs.Sums.{total_le, total_add}
use Rattle.theory.proofs.Counts.{reached_trade, reached_none}
use Rattle.theory.proofs.Sets.{closed_or}
use Rattle.theory.proofs.Work.{work_le, work_eq}

-- a closed full set that has every machine below j whose last block is at μ or after it
record Gathered (m : ℕ) (p : ℕ → ℕ → ℕ) (B : Demand) (x : ℕ → ℕ → ℕ) (μ j : ℕ) : Type 0 where
  set : ℕ → Bool
  closed : Closed m B x set
  full : Full m p B x μ set
  has : (i : ℕ) → i < j → 0 < load B x i → μ ≤ p i (load B x i) → set i ≡ true

module _ (m : ℕ) (p : ℕ → ℕ → ℕ) (B : Demand) (x : ℕ → ℕ → ℕ) (μ : ℕ) (st : Stable m p B x) where
  gather_more : (j : ℕ) → j < m → Gathered m p B x μ j → Gathered m p B x μ (suc j)
  gather_more j h g = elim (cases_lt 0 (load B x j)) [
    | inr none ↦ keep (λ pos _. absurd (omega arith))
    | inl pos ↦ elim (cases_lt (p j (load B x j)) μ) [ inl near ↦ keep (λ _ far. absurd (omega arith)) | inr far ↦ join (st j h pos) far ]
  ]
    where
      keep : (0 < load B x j → μ ≤ p j (load B x j) → ⊥) → Gathered m p B x μ (suc j)
      keep no-need = record {
        set = g.set;
        closed = g.closed;
        full = g.full;
        has = λ i l pos far. elim (cases_eq i j) [ inl e ↦ absurd (no-need (rw e at pos) (rw e at far)) | inr d ↦ g.has i (omega arith) pos far ];
      }

      join : (S : ℕ → Bool) × (S j ≡ true) × Closed m B x S × Full m p B x (p j (load B x j)) S → μ ≤ p j (load B x j) → Gathered m p B x μ (suc j)
      join s far = record {
        set = λ i. g.set i || s.0 i;
        closed = closed_or m B x g.set s.0 g.closed s.2;
        full = λ q l e. elim (or_cases (g.set q) (s.0 q) e) [ inl t ↦ g.full q l t | inr t ↦ omega (arith, s.3 q l t) ];
        has = λ i l pos far. elim (cases_eq i j) [
          | inl e ↦ or_right (g.set i) (s.0 i) (rw e s.1)
          | inr d ↦ or_left (g.set i) (s.0 i) (g.has i (omega arith) pos far)
        ];
      }

  gather : (j : ℕ) → j ≤ m → Gathered m p B x μ j
  gather zero h = record {
    set = λ _. false;
    closed = λ b i _ _ e _. absurd (false≢true e);
    full = λ q _ e. absurd (false≢true e);
    has = λ i l _ _. absurd (omega arith);
  }
  gather (suc j) h = gather_more j h (gather j (omega arith))

pub best : (m : ℕ) (p : ℕ → ℕ → ℕ) (B C : Demand) (x y : ℕ → ℕ → ℕ) → Order m p → Complete m B x → Stable m p B x → Complete m C y
    → ((S : ℕ → Bool) → confined m B S ≤ confined m C S) → (μ : ℕ) → from m p B x μ ≤ from m p C y μ
best m p B C x y order cx st cy less μ =
    let g = gather m p B x μ st m (omega arith) in
    let U = g.set in
    let rx = λ (i : ℕ). reached (p i) μ (load B x i) in
    let ry = λ (i : ℕ). reached (p i) μ (load C y i) in
    let each : (i : ℕ) → i < m → rx i + only (U i) (load C y i) ≤ ry i + only (U i) (load B x i) = λ i l. elim (cases_Bool (U i)) [
      | inl e ↦ rw e (reached_trade (p i) (λ k. order.rises i k l) μ (load B x i) (load C y i) (g.full i l e))
      | inr e ↦ rw e (omega (
        arith,
        reached_none (p i) (λ k. order.rises i k l) μ (load B x i)
            (λ pos. elim (cases_lt (p i (load B x i)) μ) [ inl near ↦ near | inr far ↦ absurd (both_ways (U i) e (g.has i l pos far)) ]),
      ))
    ] in
    omega (
      arith,
      total_le m _ _ each,
      total_add m rx (λ i. only (U i) (load C y i)),
      total_add m ry (λ i. only (U i) (load B x i)),
      work_eq m B x U cx g.closed,
      work_le m C y U cy,
      less U,
    )
