-- Laws of sums and tests over the numbers below n.
use Rattle.std.proofs.Common.{◌≡◌, ℕ, zero, suc, ◌+◌, ◌<◌, ◌≤◌, Bool, true, false, eqb, sym, refl, ap, ◌∙◌, inl, inr, add-one, arith}
use Rattle.std.proofs.lemmas.Bool.{and_parts, and_from, cases_eq, eq-eqb, ne_eqb, cases_lt}
use Rattle.theory.specs.Sums.{total, every, only}

-- a function that rises by steps rises
pub climb : (f : ℕ → ℕ) → ((k : ℕ) → f k ≤ f (suc k)) → (k l : ℕ) → k ≤ l → f k ≤ f l
climb f r k zero h = let e : k ≡ 0 = omega arith in rw e (omega arith)
climb f r k (suc l) h = elim (cases_eq k (suc l)) [ inl e ↦ rw e (omega arith) | inr d ↦ omega (arith, climb f r k l (omega arith), r l) ]

pub total_none : (f : ℕ → ℕ) → total 0 f ≡ 0
unfolding total
total_none f = refl

pub total_more : (n : ℕ) (f : ℕ → ℕ) → total (n + 1) f ≡ total n f + f n
unfolding total
total_more n f = rw add-one refl

pub total_part : (f : ℕ → ℕ) (k n : ℕ) → k ≤ n → total k f ≤ total n f
unfolding total
total_part f = climb (λ n. total n f) (λ n. omega arith)

pub total_le : (n : ℕ) (f g : ℕ → ℕ) → ((i : ℕ) → i < n → f i ≤ g i) → total n f ≤ total n g
unfolding total
total_le zero f g h = omega arith
total_le (suc n) f g h = omega (arith, total_le n f g (λ i l. h i (omega arith)), h n (omega arith))

pub total_eq : (n : ℕ) (f g : ℕ → ℕ) → ((i : ℕ) → i < n → f i ≡ g i) → total n f ≡ total n g
unfolding total
total_eq zero f g h = refl
total_eq (suc n) f g h = omega (arith, total_eq n f g (λ i l. h i (omega arith)), h n (omega arith))

pub total_add : (n : ℕ) (f g : ℕ → ℕ) → total n (λ i. f i + g i) ≡ total n f + total n g
unfolding total
total_add zero f g = refl
total_add (suc n) f g = omega (arith, total_add n f g)

pub total_zero : (n : ℕ) → total n (λ _. 0) ≡ 0
unfolding total
total_zero zero = refl
total_zero (suc n) = omega (arith, total_zero n)

pub total_swap : (m n : ℕ) (f : ℕ → ℕ → ℕ) → total n (λ b. total m (λ i. f b i)) ≡ total m (λ i. total n (λ b. f b i))
unfolding total
total_swap m zero f = sym (total_zero m)
total_swap m (suc n) f = omega (arith, total_swap m n f, total_add m (λ i. total n (λ b. f b i)) (λ i. f n i))

-- a sum with one term at most
pub total_one : (n : ℕ) (f : ℕ → ℕ) (i : ℕ) → i < n → ((j : ℕ) → j < n → (j ≡ i → ⊥) → f j ≡ 0) → total n f ≡ f i
unfolding total
total_one zero f i h z = absurd (omega arith)
total_one (suc n) f i h z = elim (cases_eq n i) [
  | inl e ↦ omega (arith, total_eq n f (λ _. 0) (λ j l. z j (omega arith) (omega arith)), total_zero n, ap f e)
  | inr d ↦ omega (arith, total_one n f i (omega arith) (λ j l. z j (omega arith)), z n (omega arith) d)
]

pub only_here : (i u : ℕ) → only (eqb i i) u ≡ u
only_here i u = ap (λ t. only t u) (eq-eqb i i refl)

pub only_off : (k i u : ℕ) → (k ≡ i → ⊥) → only (eqb k i) u ≡ 0
only_off k i u d = ap (λ t. only t u) (ne_eqb k i d)

pub only_total : (n : ℕ) (s : Bool) (f : ℕ → ℕ) → only s (total n f) ≡ total n (λ b. only s (f b))
only_total n true f = refl
only_total n false f = sym (total_zero n)

pub total_here : (m i u : ℕ) → i < m → total m (λ k. only (eqb k i) u) ≡ u
total_here m i u l = total_one m (λ k. only (eqb k i) u) i l (λ k _. only_off k i u) ∙ only_here i u

-- one term, and two, of a sum
pub term_le : (n : ℕ) (f : ℕ → ℕ) (i : ℕ) → i < n → f i ≤ total n f
unfolding total
term_le zero f i h = absurd (omega arith)
term_le (suc n) f i h = elim (cases_eq i n) [ inl e ↦ rw e (omega arith) | inr d ↦ omega (arith, term_le n f i (omega arith)) ]

pub two_le : (n : ℕ) (f : ℕ → ℕ) (i j : ℕ) → i < n → j < n → (i ≡ j → ⊥) → f i + f j ≤ total n f
unfolding total
two_le zero f i j h l d = absurd (omega arith)
two_le (suc n) f i j h l d = elim (cases_eq i n) [
  | inl e ↦ omega (arith, ap f e, term_le n f j (omega arith))
  | inr ne ↦ elim (cases_eq j n) [
    | inl e ↦ omega (arith, ap f e, term_le n f i (omega arith))
    | inr nj ↦ omega (arith, two_le n f i j (omega arith) (omega arith) d)
  ]
]

pub every_at : (n : ℕ) (t : ℕ → Bool) → every n t ≡ true → (i : ℕ) → i < n → t i ≡ true
unfolding every
every_at zero t e i h = absurd (omega arith)
every_at (suc n) t e i h =
    let both = and_parts (t n) (every n t) e in
    elim (cases_eq i n) [ inl s ↦ rw s both.0 | inr d ↦ every_at n t both.1 i (omega arith) ]

pub every_all : (n : ℕ) (t : ℕ → Bool) → ((i : ℕ) → i < n → t i ≡ true) → every n t ≡ true
unfolding every
every_all zero t h = refl
every_all (suc n) t h = and_from (t n) (every n t) (h n (omega arith)) (every_all n t (λ i l. h i (omega arith)))

pub every_eq : (n : ℕ) (s t : ℕ → Bool) → ((i : ℕ) → i < n → s i ≡ t i) → every n s ≡ every n t
unfolding every
every_eq zero s t h = refl
every_eq (suc n) s t h = rw (h n (omega arith), every_eq n s t (λ i l. h i (omega arith))) refl

-- one term less, and none more
pub total_lt : (n : ℕ) (f g : ℕ → ℕ) (i : ℕ) → i < n → ((k : ℕ) → k < n → f k ≤ g k) → f i < g i → total n f < total n g
unfolding total
total_lt zero f g i h le lt = absurd (omega arith)
total_lt (suc n) f g i h le lt = elim (cases_eq i n) [
  | inl e ↦ omega (arith, total_le n f g (λ k l. le k (omega arith)), rw e at lt)
  | inr d ↦ omega (arith, total_lt n f g i (omega arith) (λ k l. le k (omega arith)) lt, le n (omega arith))
]

-- the first term apart
pub total_first : (n : ℕ) (f : ℕ → ℕ) → total (suc n) f ≡ f 0 + total n (λ i. f (suc i))
unfolding total
total_first zero f = omega arith
total_first (suc n) f = omega (arith, total_first n f)

-- a sum above 0 has a term above 0
pub some_term : (n : ℕ) (f : ℕ → ℕ) → 0 < total n f → (i : ℕ) × (i < n) × (0 < f i)
unfolding total
some_term zero f h = absurd (omega arith)
some_term (suc n) f h = elim (cases_lt 0 (f n)) [
  | inl here ↦ (n, omega arith, here)
  | inr none ↦ let r = some_term n f (omega (arith, h, none)) in (r.0, omega (arith, r.1), r.2)
]
