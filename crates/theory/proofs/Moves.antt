-- What a move of blocks does to the cells, the loads and the batches of a share-out.
use Rattle.std.proofs.Common.{◌≡◌, ℕ, ◌+◌, ◌<◌, Bool, true, false, eqb, sym, ◌∙◌, inl, inr, arith}
use Rattle.std.proofs.lemmas.Bool.{cases_eq, both_ways}
use Rattle.std.proofs.lemmas.Bool.Decides.{nat_tests}
use Rattle.theory.specs.Sums.{total, only}
use Rattle.theory.specs.Moves.{at, Moved, Carried}
use Rattle.theory.proofs.Sums.{total_eq, total_add, total_one, only_here, only_off}

at_here : (c u a : ℕ) → at c u c u a ≡ a
at_here c u a = grind (arith, nat_tests)

pub at_off : (c u b q a : ℕ) → (q ≡ u → ⊥) → at c u b q a ≡ 0
at_off c u b q a d = grind (arith, nat_tests)

pub at_other : (c u b q a : ℕ) → (b ≡ c → ⊥) → at c u b q a ≡ 0
at_other c u b q a d = grind (arith, nat_tests)

pub at_held : (H : ℕ → ℕ → Bool) (c u b q a : ℕ) → H c u ≡ true → H b q ≡ false → at c u b q a ≡ 0
at_held H c u b q a held free = elim (cases_eq b c) [
  | inr d ↦ at_other c u b q a d
  | inl e ↦ elim (cases_eq q u) [ inr d ↦ at_off c u b q a d | inl f ↦ absurd (both_ways (H c u) (rw (e, f) at free) held) ]
]

-- a column and a row of `at`
pub at_col : (n c u q a : ℕ) → c < n → total n (λ b. at c u b q a) ≡ only (eqb q u) a
at_col n c u q a l = total_one n (λ b. at c u b q a) c l (λ b _. at_other c u b q a) ∙ grind (arith, nat_tests)

pub at_row : (m c u b a : ℕ) → u < m → total m (λ q. at c u b q a) ≡ only (eqb b c) a
at_row m c u b a l = total_one m (λ q. at c u b q a) u l (λ q _. at_off c u b q a) ∙ grind (arith, nat_tests)

-- what a move does to the load of each place, and to the blocks of each batch
pub moved_load : (n c v u a : ℕ) (x y : ℕ → ℕ → ℕ) → c < n → Moved a c v u x y
    → (q : ℕ) → total n (λ b. y b q) + only (eqb q v) a ≡ total n (λ b. x b q) + only (eqb q u) a
moved_load n c v u a x y l mv q = omega (
  arith,
  total_eq n _ _ (λ b _. mv.cells b q),
  total_add n (λ b. y b q) (λ b. at c v b q a),
  total_add n (λ b. x b q) (λ b. at c u b q a),
  at_col n c v q a l,
  at_col n c u q a l,
)

pub moved_row : (m c v u a : ℕ) (x y : ℕ → ℕ → ℕ) → v < m → u < m → Moved a c v u x y → (b : ℕ) → total m (y b) ≡ total m (x b)
moved_row m c v u a x y lv lu mv b = omega (
  arith,
  total_eq m _ _ (λ q _. mv.cells b q),
  total_add m (y b) (λ q. at c v b q a),
  total_add m (x b) (λ q. at c u b q a),
  at_row m c v b a lv,
  at_row m c u b a lu,
)

module _ {a c v u : ℕ} {x y : ℕ → ℕ → ℕ} (mv : Moved a c v u x y) where
  -- off the two places, and off the batch, all is as it was
  pub moved_else : (q : ℕ) → (q ≡ v → ⊥) → (q ≡ u → ⊥) → (b : ℕ) → x b q ≡ y b q
  moved_else q nv nu b = omega (arith, mv.cells b q, at_off c v b q a nv, at_off c u b q a nu)

  pub moved_rest : (b : ℕ) → (b ≡ c → ⊥) → (q : ℕ) → x b q ≡ y b q
  moved_rest b d q = omega (arith, mv.cells b q, at_other c v b q a d, at_other c u b q a d)

  -- at the two places, of the batch
  pub moved_from : (v ≡ u → ⊥) → y c v + a ≡ x c v
  moved_from ne = omega (arith, mv.cells c v, at_off c u c v a ne, at_here c v a)

  pub moved_to : (v ≡ u → ⊥) → y c u ≡ x c u + a
  moved_to ne = omega (arith, mv.cells c u, at_off c v c u a (λ e. ne (sym e)), at_here c u a)

-- the loads of the two places of a move, and of the others
module _ {i j a : ℕ} {l l' : ℕ → ℕ} (c : Carried i j a l l') where
  pub carried_from : (i ≡ j → ⊥) → l' i + a ≡ l i
  carried_from ne = omega (arith, c.loads i, only_here i a, only_off i j a ne)

  pub carried_to : (i ≡ j → ⊥) → l' j ≡ l j + a
  carried_to ne = omega (arith, c.loads j, only_here j a, only_off j i a (λ e. ne (sym e)))

  pub carried_else : (k : ℕ) → (k ≡ i → ⊥) → (k ≡ j → ⊥) → l' k ≡ l k
  carried_else k ni nj = omega (arith, c.loads k, only_off k i a ni, only_off k j a nj)
