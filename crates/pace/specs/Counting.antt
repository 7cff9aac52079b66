-- How often a test is passed that is passed just up to some count.
use Rattle.std.specs.Prelude.{◌≡◌, ℕ, zero, suc, ◌<◌, ◌≤◌, min, Bool, if◌then◌else◌, nat_le, refl}
use Rattle.std.proofs.Common.{ap, sym, ◌∙◌, ⊎_elim, arith}
use Rattle.std.proofs.lemmas.Bool.{cases_lt, le-leb, lt-leb}
use Rattle.pace.specs.Moments.{count, capacity_of}

counted : Bool → ℕ
counted b = if b then 1 else 0

count_upto : (n c : ℕ) (p : ℕ → Bool) → ((k : ℕ) → 0 < k → k ≤ n → p k ≡ nat_le k c) → count n p ≡ min n c
unfolding count counted
count_upto zero c p h = omega arith
count_upto (suc n) c p h =
    let ih : count n p ≡ min n c = count_upto n c p (λ k a b. h k a (omega arith)) in
    let here : p (suc n) ≡ nat_le (suc n) c = h (suc n) (omega arith) (omega arith) in
    ⊎_elim
    (λ (in-time : n < c). omega (arith, ap counted (here ∙ le-leb (suc n) c in-time)))
    (λ (late : c ≤ n). omega (arith, ap counted (here ∙ lt-leb (suc n) c (omega arith))))
    (cases_lt n c)

-- a table of which just the first c moments are in time
pub capacity_upto : (f : ℕ → ℕ) (t c : ℕ)
    → ((k : ℕ) → 0 < k → k ≤ 1000000 → f k ≤ t → k ≤ c)
    → ((k : ℕ) → 0 < k → k ≤ 1000000 → k ≤ c → f k ≤ t)
    → capacity_of f t ≡ min 1000000 c
unfolding capacity_of
capacity_upto f t c within reached = count_upto 1000000 c (λ k. nat_le (f k) t) same
  where
    same : (k : ℕ) → 0 < k → k ≤ 1000000 → nat_le (f k) t ≡ nat_le k c
    same k a b =
        ⊎_elim
        (λ (gt : c < k).
        ⊎_elim (λ (late : t < f k). lt-leb (f k) t late ∙ sym (lt-leb k c gt))
        (λ (in-time : f k ≤ t). absurd (omega (arith, within k a b in-time))) (cases_lt t (f k)))
        (λ (le : k ≤ c). le-leb (f k) t (reached k a b le) ∙ sym (le-leb k c le))
        (cases_lt c k)

count_same : (n : ℕ) (p q : ℕ → Bool) → ((k : ℕ) → 0 < k → k ≤ n → p k ≡ q k) → count n p ≡ count n q
unfolding count counted
count_same zero p q h = refl
count_same (suc n) p q h =
    omega (arith, count_same n p q (λ k a b. h k a (omega arith)), ap counted (h (suc n) (omega arith) (omega arith)))

-- two tables of which the same moments are in time
pub capacity_same : (f g : ℕ → ℕ) (t u : ℕ)
    → ((k : ℕ) → 0 < k → f k ≤ t → g k ≤ u) → ((k : ℕ) → 0 < k → g k ≤ u → f k ≤ t)
    → capacity_of f t ≡ capacity_of g u
unfolding capacity_of
capacity_same f g t u onward back =
    count_same 1000000 (λ k. nat_le (f k) t) (λ k. nat_le (g k) u)
    (λ k a b.
    ⊎_elim
    (λ (late : t < f k).
    ⊎_elim (λ (gt : u < g k). lt-leb (f k) t late ∙ sym (lt-leb (g k) u gt))
    (λ (le : g k ≤ u). absurd (omega (arith, back k a le))) (cases_lt u (g k)))
    (λ (in-time : f k ≤ t). le-leb (f k) t in-time ∙ sym (le-leb (g k) u (onward k a in-time)))
    (cases_lt t (f k)))
