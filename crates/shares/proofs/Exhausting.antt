-- Machines that are exhausted stay so: no later move helps them.
use Rattle.std.proofs.Common.{◌≡◌, ℕ, suc, ◌+◌, ◌-◌, ◌<◌, ◌≤◌, Bool, true, false, length, ap, ◌∙◌, inl, inr, arith}
use Rattle.std.proofs.lemmas.Bool.{cases_eq, cases_Bool, both_ways}
use Rattle.pace.specs.declared.terms.Terms.{Terms}
use Rattle.theory.specs.ShareOuts.{Demand}
use Rattle.theory.specs.Moves.{Carried, Helps}
use Rattle.theory.proofs.Sums.{climb}
use Rattle.theory.proofs.Moves.{carried_from, carried_to, carried_else}
use Rattle.books.specs.declared.book.Book.{Book}
use Rattle.books.specs.Views.{machines_in}
use Rattle.shares.specs.Marks.{values}
use Rattle.shares.specs.Tables.{demand_of}
use Rattle.shares.specs.Reaches.{Within}
use Rattle.shares.specs.Levels.{ClosedBy, Exhausted, Latest}

-- what i leads to, where no chain from it helps, is exhausted too
module _ {d m : ℕ} {B : Demand} {p x : ℕ → ℕ → ℕ} {l : ℕ → ℕ} {C : ℕ → Bool} (W : ℕ → Bool) (i : ℕ)
    (ex : Exhausted d m B p x l C) (low : (k : ℕ) → W k ≡ true → k < m) (closed : ClosedBy d m B x W) (sub : Within C W)
    (past : (q : ℕ) → q < m → W q ≡ true → C q ≡ false → p i (l i - d + 1) ≤ p q (l q + d)) (last : Latest d m p l C i) where
  beyond : (k q : ℕ) → k < m → q < m → C k ≡ false → d ≤ l k → W q ≡ true → p k (l k - d + 1) ≤ p q (l q + d)
  beyond k q lk lq ck h wq = elim (cases_Bool (C q)) [
    | inl cq ↦ ex.far k q lk lq ck h cq
    | inr cq ↦ omega (arith, last k lk h ck, past q lq wq cq)
  ]

  outside : (k : ℕ) → W k ≡ false → C k ≡ false
  outside k f = elim (cases_Bool (C k)) [ inl t ↦ absurd (both_ways (W k) f (sub k t)) | inr e ↦ e ]

  pub exhausted_more : Exhausted d m B p x l W
  exhausted_more = record {
    low = low;
    closed = closed;
    far = λ k q lk lq f h wq. beyond k q lk lq (outside k f) h wq;
    spent = λ k lk wk h. elim (cases_Bool (C k)) [
      | inl ck ↦ let s = ex.spent k lk ck h in record { set = s.set; has_it = s.has_it; inside = λ q t. sub q (s.inside q t); closed = s.closed; full = s.full }
      | inr ck ↦ record { set = W; has_it = wk; inside = λ _ t. t; closed = closed; full = λ q lq wq. beyond k q lk lq ck h wq }
    ];
  }

-- a move outside C leaves C exhausted
module _ {d m : ℕ} {B : Demand} {p x : ℕ → ℕ → ℕ} {x' : ℕ → ℕ → ℕ} {l l' : ℕ → ℕ} {C S : ℕ → Bool} (i j a : ℕ)
    (rises : (i k : ℕ) → i < m → p i k ≤ p i (suc k)) (ex : Exhausted d m B p x l C)
    (elsewhere : (b k : ℕ) → S k ≡ false → x' b k ≡ x b k) (apart : (k : ℕ) → C k ≡ true → S k ≡ false)
    (c : Carried i j a l l') (ci : C i ≡ false) (cj : C j ≡ false) (ne : i ≡ j → ⊥) (li : i < m) (lj : j < m)
    (pos : 0 < d) (da : d ≤ a) (le : a ≤ l i) (h : Helps p l i j a) where
  kept : (k : ℕ) → C k ≡ true → l' k ≡ l k
  kept k t = carried_else c k (λ e. both_ways (C k) (ap C e ∙ ci) t) (λ e. both_ways (C k) (ap C e ∙ cj) t)

  closed_still : (T : ℕ → Bool) → Within T C → ClosedBy d m B x T → ClosedBy d m B x' T
  closed_still T sub cl b k q lb lk lq tk h' hq = cl b k q lb lk lq tk (omega (arith, elsewhere b k (apart k (sub k tk)))) hq

  still_past : (q : ℕ) → q < m → C q ≡ true → p i (l i - d + 1) ≤ p q (l' q + d)
  still_past q lq cq = omega (arith, ex.far i q li lq ci (omega arith) cq, ap (λ (v : ℕ). p q (v + d)) (kept q cq))

  far : (k q : ℕ) → k < m → q < m → C k ≡ false → d ≤ l' k → C q ≡ true → p k (l' k - d + 1) ≤ p q (l' q + d)
  far k q lk lq ck hk cq = elim (cases_eq k i) [
    | inl e ↦ rw e (omega (arith, still_past q lq cq, climb (p i) (λ v. rises i v li) (l' i - d + 1) (l i - d + 1) (omega (arith, carried_from c ne))))
    | inr ni ↦ elim (cases_eq k j) [
      | inl e ↦ rw e (omega (
        arith,
        still_past q lq cq,
        h,
        climb (p j) (λ v. rises j v lj) (l' j - d + 1) (l j + a) (omega (arith, carried_to c ne)),
        climb (p i) (λ v. rises i v li) (l i - a + 1) (l i - d + 1) (omega arith),
      ))
      | inr nj ↦ omega (
        arith,
        ex.far k q lk lq ck (omega (arith, carried_else c k ni nj)) cq,
        ap (λ (v : ℕ). p k (v - d + 1)) (carried_else c k ni nj),
        ap (λ (v : ℕ). p q (v + d)) (kept q cq),
      )
    ]
  ]

  pub exhausted_moved : Exhausted d m B p x' l' C
  exhausted_moved = record {
    low = ex.low;
    closed = closed_still C (λ _ t. t) ex.closed;
    far = far;
    spent = λ k lk ck hk.
        let s = ex.spent k lk ck (omega (arith, kept k ck)) in record {
          set = s.set;
          has_it = s.has_it;
          inside = s.inside;
          closed = closed_still s.set s.inside s.closed;
          full = λ q lq t. omega (
            arith,
            s.full q lq t,
            ap (λ (v : ℕ). p k (v - d + 1)) (kept k ck),
            ap (λ (v : ℕ). p q (v + d)) (kept q (s.inside q t)),
          );
        };
  }

-- what is so of a book and a width is so of the same book and the same width
pub exhausted_same : {k k' : Book} {d d' : ℕ} (table : Terms → ℕ → ℕ) {x : ℕ → ℕ → ℕ} {l : ℕ → ℕ} {C : ℕ → Bool} → k' ≡ k → d' ≡ d
    → Exhausted d (length (machines_in k)) (demand_of k) (values table (machines_in k)) x l C
    → Exhausted d' (length (machines_in k')) (demand_of k') (values table (machines_in k')) x l C
exhausted_same table same-k same-d ex = rw (same-k, same-d) ex
