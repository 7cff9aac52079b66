-- Where the links of a machine lead, as its blocks come and go.
use Rattle.std.proofs.Common.{◌≡◌, ℕ, zero, suc, ◌+◌, ◌<◌, ◌≤◌, Bool, true, false, ◌&&◌, ◌||◌, eqb, leb, List, length, sym, refl, ap, ◌∙◌, inl, inr, arith}
use Rattle.std.proofs.lemmas.Bool.{cases_Bool, cases_eq, and_parts, and_from, le-leb, lt-leb, leb-true}
use Rattle.places.specs.Has.{has}
use Rattle.books.specs.declared.batch.Batch.{Batch}
use Rattle.books.specs.Ranges.{some_below, holders_at}
use Rattle.theory.specs.Sums.{only}
use Rattle.theory.proofs.Sums.{only_off}
use Rattle.shares.specs.Links.{links}
use Rattle.shares.proofs.Facts.{some_where}

some_same : (n : ℕ) (p q : ℕ → Bool) → ((k : ℕ) → k < n → p k ≡ q k) → some_below n p ≡ some_below n q
some_same zero p q same = refl
some_same (suc n) p q same = rw (same n (omega arith), some_same n p q (λ k l. same k (omega arith))) refl

-- one number more passes the test
some_more : (n : ℕ) (p q : ℕ → Bool) (i : ℕ) → i < n → ((k : ℕ) → (k ≡ i → ⊥) → q k ≡ p k) → (p i ≡ true → q i ≡ true)
    → some_below n q ≡ (some_below n p || q i)
some_more zero p q i l same up = absurd (omega arith)
some_more (suc n) p q i l same up = elim (cases_eq i n) [
  | inl e ↦ rw e (rw (some_same n q p (λ k lk. same k (omega arith))) (here (p n) (q n) (some_below n p) (rw e at up)))
  | inr d ↦ rw (same n (λ e. d (sym e)), some_more n p q i (omega arith) same up) (there (p n) (some_below n p) (q i))
]
  where
    here : (a b s : Bool) → (a ≡ true → b ≡ true) → (b || s) ≡ ((a || s) || b)
    here a b s h = grind arith

    there : (a s b : Bool) → (a || (s || b)) ≡ ((a || s) || b)
    there a s b = grind arith

module _ (d : ℕ) (bs : List Batch) (j : ℕ) where
  pub links_some : (row : ℕ → ℕ) → links d bs row j ≡ true → (b : ℕ) × (b < length bs) × (d ≤ row b) × (has (holders_at bs b) j ≡ true)
  unfolding links
  links_some row e =
      let r = some_where (length bs) _ e in
      let both = and_parts _ _ r.2 in
      (r.0, r.1, leb-true d (row r.0) both.0, both.1)

  pub links_at : (row : ℕ → ℕ) (b : ℕ) → b < length bs → d ≤ row b → has (holders_at bs b) j ≡ true → links d bs row j ≡ true
  unfolding links
  links_at row b l wide held = some_at (length bs) (λ c. leb d (row c) && has (holders_at bs c) j) b l (and_from _ _ (le-leb d (row b) wide) held)
    where
      some_at : (n : ℕ) (p : ℕ → Bool) (k : ℕ) → k < n → p k ≡ true → some_below n p ≡ true
      some_at n p k l e = some_more n p p k l (λ _ _. refl) (λ t. t) ∙ ap (λ t. some_below n p || t) e ∙ last (some_below n p)
        where
          last : (s : Bool) → (s || true) ≡ true
          last s = grind arith

  -- a row with too few blocks of each batch has no link
  pub links_none : (row : ℕ → ℕ) → ((b : ℕ) → b < length bs → row b < d) → links d bs row j ≡ false
  links_none row few = elim (cases_Bool (links d bs row j)) [
    | inl e ↦ let r = links_some row e in absurd (omega (arith, few r.0 r.1, r.2))
    | inr e ↦ e
  ]

  -- rows that pass the same tests have the same links
  pub links_same : (x y : ℕ → ℕ) → ((b : ℕ) → b < length bs → leb d (x b) ≡ leb d (y b)) → links d bs x j ≡ links d bs y j
  unfolding links
  links_same x y same = some_same (length bs) _ _ (λ b l. ap (λ t. t && has (holders_at bs b) j) (same b l))

  -- the row y is x with a blocks of the batch b more
  module _ (b a : ℕ) (x y : ℕ → ℕ) (more : (c : ℕ) → y c ≡ x c + only (eqb c b) a) where
    other : (c : ℕ) → (c ≡ b → ⊥) → x c ≡ y c
    other c ne = omega (arith, more c, only_off c b a ne)

    kept : leb d (x b) ≡ leb d (y b) → links d bs x j ≡ links d bs y j
    kept same = links_same x y (λ c _. elim (cases_eq c b) [ inl e ↦ rw e same | inr ne ↦ ap (leb d) (other c ne) ])

    -- still too few, or enough before
    pub links_few : y b < d → links d bs x j ≡ links d bs y j
    links_few few = kept (lt-leb d (x b) (omega (arith, more b, few)) ∙ sym (lt-leb d (y b) few))

    pub links_many : d ≤ x b → links d bs x j ≡ links d bs y j
    links_many many = kept (le-leb d (x b) many ∙ sym (le-leb d (y b) (omega (arith, more b, many))))

    pub links_gained : b < length bs → d ≤ y b → links d bs y j ≡ (links d bs x j || has (holders_at bs b) j)
    unfolding links
    links_gained l wide =
        some_more (length bs) _ _ b l (λ c ne. ap (λ v. leb d v && has (holders_at bs c) j) (sym (other c ne))) (λ t. and_from _ _ (le-leb d (y b) wide) (and_parts _ _ t).1)
        ∙ ap (λ t. some_below (length bs) (λ c. leb d (x c) && has (holders_at bs c) j) || (t && has (holders_at bs b) j)) (le-leb d (y b) wide)
