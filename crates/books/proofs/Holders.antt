-- Sets of places and the numbers of the machines there.
use Rattle.std.proofs.Common.{◌≡◌, ℕ, zero, suc, ◌+◌, ◌<◌, ◌≤◌, Bool, true, false, cond, ◌&&◌, ◌||◌, eqb, ◌⊎◌, List, [], ◌∷◌, ◌++◌, length, get_or, take, drop, sym, refl, ap, ◌∙◌, inl, inr, ⊎_elim, arith}
use mathlib.Core.Bool.{or-false}
use Rattle.std.proofs.lemmas.Bool.{cond-true, ne_eqb, eqb-true, or_right, or_from, or_cases, and_left, or_parts, both_ways, cases_Bool, cases_lt, cases_eq, cases_order}
use Rattle.std.proofs.lemmas.Bool.Decides.{nat_tests}
use Rattle.std.proofs.lemmas.List.{get_or-take, length-take, length-map, take_more, drop_more}
use Rattle.books.specs.declared.machine.Machine.{Machine}
use Rattle.books.specs.Numbers.{among, ascending, Found}
use Rattle.books.specs.Standing.{machine_numbers}
use Rattle.books.specs.Ranges.{some_below}
use Rattle.books.specs.Holders.{numbers_at}
use Rattle.books.specs.Refusals.{all_among}
use Rattle.books.proofs.Orders.{ascending_lt}
use Rattle.books.proofs.Records.{found_among}

-- a number among some stands at a place
among_at : (n : ℕ) (ns : List ℕ) → among n ns ≡ true → (i : ℕ) × (i < length ns) × (get_or ns i 0 ≡ n)
among_at n [] is = absurd (both_ways false refl is)
among_at n (k ∷ ks) is =
    ⊎_elim (λ here. (0, omega arith, eqb-true k n here))
    (λ later. let p = among_at n ks later in (suc p.0, omega (arith, p.1), p.2))
    (or_cases (eqb k n) (among n ks) is)

numbers_none : (held : ℕ → Bool) (ms : List Machine) → ((k : ℕ) → k < length ms → held k ≡ false) → numbers_at held ms ≡ []
numbers_none held [] none = refl
numbers_none held (m ∷ ms) none = grind (arith, none 0 (omega arith), numbers_none (λ i. held (suc i)) ms (λ k lt. none (suc k) (omega arith)))

-- one number more in front, where the test says so
put : Bool → ℕ → List ℕ → List ℕ
put b n ns = cond b (n ∷ ns) ns

put_append : (b : Bool) (n : ℕ) (xs ys zs : List ℕ) → xs ≡ ys ++ zs → put b n xs ≡ put b n ys ++ zs
unfolding put
put_append true n xs ys zs e = ap (λ ns. n ∷ ns) e
put_append false n xs ys zs e = e

put_among : (b : Bool) (n k : ℕ) (ns : List ℕ) → among k ns ≡ true → among k (put b n ns) ≡ true
unfolding put
put_among true n k ns is = grind (arith, is)
put_among false n k ns is = is

eqb_suc : (k i : ℕ) → eqb (suc k) (suc i) ≡ eqb k i
eqb_suc k i = grind (arith, nat_tests)

-- a set with one place more, behind all that it had
numbers_push : (held more : ℕ → Bool) (ms : List Machine) (i : ℕ) → i < length ms
    → ((k : ℕ) → i ≤ k → held k ≡ false) → ((k : ℕ) → more k ≡ (held k || eqb k i))
    → numbers_at more ms ≡ numbers_at held ms ++ get_or (machine_numbers ms) i 0 ∷ []
unfolding put
numbers_push held more [] i lt none adds = absurd (omega arith)
numbers_push held more (m ∷ ms) zero lt none adds =
    cond-true (more 0) _ _ (adds 0 ∙ or_right (held 0) (eqb 0 0) refl)
    ∙ ap (λ ns. m.number ∷ ns) (numbers_none (λ k. more (suc k)) ms (λ k few. adds (suc k) ∙ or_from (held (suc k)) (eqb (suc k) 0) (none (suc k) (omega arith)) (ne_eqb (suc k) 0 (omega arith))))
    ∙ ap (λ ns. ns ++ m.number ∷ []) (sym (numbers_none held (m ∷ ms) (λ k few. none k (omega arith))))
numbers_push held more (m ∷ ms) (suc i) lt none adds =
    ap (λ b. put b m.number (numbers_at (λ k. more (suc k)) ms)) (adds 0 ∙ ap (λ t. held 0 || t) (ne_eqb 0 (suc i) (omega arith)) ∙ or-false (held 0))
    ∙ put_append (held 0) m.number (numbers_at (λ k. more (suc k)) ms) (numbers_at (λ k. held (suc k)) ms) (get_or (machine_numbers ms) i 0 ∷ [])
    (numbers_push (λ k. held (suc k)) (λ k. more (suc k)) ms i (omega arith) (λ k le. none (suc k) (omega arith)) (λ k. adds (suc k) ∙ ap (λ t. held (suc k) || t) (eqb_suc k i)))

-- the number of a machine at a held place is among them
numbers_among : (held : ℕ → Bool) (ms : List Machine) (k : ℕ) → k < length ms → held k ≡ true → among (get_or (machine_numbers ms) k 0) (numbers_at held ms) ≡ true
unfolding put
numbers_among held [] k lt is = absurd (omega arith)
numbers_among held (m ∷ ms) zero lt is =
    grind (arith, nat_tests, is)
numbers_among held (m ∷ ms) (suc k) lt is =
    put_among (held 0) m.number (get_or (machine_numbers ms) k 0) (numbers_at (λ i. held (suc i)) ms) (numbers_among (λ i. held (suc i)) ms k (omega arith) is)

-- where the numbers ascend, a number among the first j is below the next
below_next : (ns : List ℕ) (j n : ℕ) → ascending ns ≡ true → j < length ns → among n (take j ns) ≡ true → n < get_or ns j 0
below_next ns j n up lt is =
    let p = among_at n (take j ns) is in
    let few : p.0 < j = omega (arith, p.1, length-take j ns) in
    omega (arith, p.2, get_or-take j ns p.0 0 few, ascending_lt ns up p.0 j few lt)

-- a walk over numbers that gathers the places of their machines, before the place j
pub record Gathered (ms : List Machine) (ns : List ℕ) (held : ℕ → Bool) (j : ℕ) : Type 0 where
  pub left : all_among ns (machine_numbers ms) ≡ all_among (drop j ns) (machine_numbers ms)
  pub just : ascending ns ≡ true → numbers_at held ms ≡ take j ns
  pub within : (k : ℕ) → held k ≡ true → k < length ms

module _ (ms : List Machine) (ns : List ℕ) (held : ℕ → Bool) where
  pub gathered_none : ((k : ℕ) → held k ≡ false) → Gathered ms ns held 0
  gathered_none none = record { left = refl; just = λ up. numbers_none held ms (λ k few. none k); within = λ k is. absurd (both_ways (held k) (none k) is) }

  module _ (j : ℕ) (lt : j < length ns) (g : Gathered ms ns held j) where
    left_at : all_among ns (machine_numbers ms) ≡ (among (get_or ns j 0) (machine_numbers ms) && all_among (drop (j + 1) ns) (machine_numbers ms))
    left_at = g.left ∙ ap (λ ks. all_among ks (machine_numbers ms)) (drop_more ns j 0 lt)

    pub gathered_unknown : among (get_or ns j 0) (machine_numbers ms) ≡ false → all_among ns (machine_numbers ms) ≡ false
    gathered_unknown unknown = left_at ∙ and_left _ _ unknown

    pub gathered_more : (more : ℕ → Bool) (place : ℕ) → ascending (machine_numbers ms) ≡ true → Found (get_or ns j 0) (machine_numbers ms) place
        → ((k : ℕ) → more k ≡ (held k || eqb k place)) → Gathered ms ns more (j + 1)
    gathered_more more place order f adds =
        record {
          left = left_at ∙ ap (λ t. t && all_among (drop (j + 1) ns) (machine_numbers ms)) (found_among (get_or ns j 0) (machine_numbers ms) place f.within f.here);
          just = λ up.
              numbers_push held more ms place here (behind up) adds ∙ ap (λ ks. ks ++ get_or (machine_numbers ms) place 0 ∷ []) (g.just up)
              ∙ ap (λ (n : ℕ). take j ns ++ n ∷ []) f.here ∙ sym (take_more ns j 0 lt);
          within = λ k is.
              ⊎_elim (λ old. g.within k old) (λ new. omega (arith, eqb-true k place new, here))
              (or_cases (held k) (eqb k place) (sym (adds k) ∙ is));
        }
      where
        here : place < length ms
        here = omega (arith, f.within, length-map ms (λ m. m.number))

        behind : ascending ns ≡ true → (k : ℕ) → place ≤ k → held k ≡ false
        behind up k le = ⊎_elim (λ is. absurd (clash is)) (λ free. free) (cases_Bool (held k))
          where
            clash : held k ≡ true → ⊥
            clash is =
                let below : get_or (machine_numbers ms) k 0 < get_or ns j 0 =
                below_next ns j (get_or (machine_numbers ms) k 0) up lt (rw (sym (g.just up)) (numbers_among held ms k (g.within k is) is)) in
                ⊎_elim
                (λ (before : place < k). omega (arith, f.here, ascending_lt (machine_numbers ms) order place k before (omega (arith, g.within k is, length-map ms (λ m. m.number)))))
                (λ (at-it : k ≤ place). let e : k ≡ place = omega arith in omega (arith, f.here, ap (λ (i : ℕ). get_or (machine_numbers ms) i 0) e))
                (cases_lt place k)

-- the same places, the same numbers
pub numbers_same : (held other : ℕ → Bool) (ms : List Machine) → ((k : ℕ) → held k ≡ other k) → numbers_at held ms ≡ numbers_at other ms
unfolding put
numbers_same held other [] e = refl
numbers_same held other (m ∷ ms) e =
    ap (λ b. put b m.number (numbers_at (λ i. held (suc i)) ms)) (e 0)
    ∙ ap (λ ns. put (other 0) m.number ns) (numbers_same (λ i. held (suc i)) (λ i. other (suc i)) ms (λ k. e (suc k)))

put_cases : (b : Bool) (n k : ℕ) (ns : List ℕ) → among k (put b n ns) ≡ true → ((b ≡ true) × (n ≡ k)) ⊎ (among k ns ≡ true)
unfolding put
put_cases true n k ns is = ⊎_elim (λ e. inl (refl, eqb-true n k e)) (λ later. inr later) (or_cases (eqb n k) (among k ns) is)
put_cases false n k ns is = inr is

-- each of the numbers is that of a machine at a held place
numbers_from : (held : ℕ → Bool) (ms : List Machine) (n : ℕ) → among n (numbers_at held ms) ≡ true
    → (k : ℕ) × (k < length ms) × (held k ≡ true) × (get_or (machine_numbers ms) k 0 ≡ n)
unfolding put
numbers_from held [] n is = absurd (both_ways false refl is)
numbers_from held (m ∷ ms) n is =
    ⊎_elim (λ here. (0, omega arith, here.0, here.1))
    (λ later. let p = numbers_from (λ i. held (suc i)) ms n later in (suc p.0, omega (arith, p.1), p.2, p.3))
    (put_cases (held 0) m.number n (numbers_at (λ i. held (suc i)) ms) is)

-- a machine's number is among them just where its place is held
pub numbers_held : (held : ℕ → Bool) (ms : List Machine) → ascending (machine_numbers ms) ≡ true
    → (k : ℕ) → k < length ms → among (get_or (machine_numbers ms) k 0) (numbers_at held ms) ≡ held k
numbers_held held ms up k lt =
    ⊎_elim (λ is. numbers_among held ms k lt is ∙ sym is)
    (λ free. ⊎_elim (λ is. absurd (both_ways (held k) free (clash is))) (λ none. none ∙ sym free) (cases_Bool (among (get_or (machine_numbers ms) k 0) (numbers_at held ms))))
    (cases_Bool (held k))
  where
    long : length (machine_numbers ms) ≡ length ms
    long = length-map ms (λ m. m.number)

    clash : among (get_or (machine_numbers ms) k 0) (numbers_at held ms) ≡ true → held k ≡ true
    clash is =
        let p = numbers_from held ms (get_or (machine_numbers ms) k 0) is in
        let same : p.0 ≡ k =
        ⊎_elim (λ e. e)
        (⊎_elim (λ (below : p.0 < k). absurd (omega (arith, p.3, long, ascending_lt (machine_numbers ms) up p.0 k below (omega (arith, long)))))
        (λ (above : k < p.0). absurd (omega (arith, p.3, long, ascending_lt (machine_numbers ms) up k p.0 above (omega (arith, long, p.1))))))
        (cases_order p.0 k) in
        rw (sym same) p.2

-- so the numbers determine the places
pub places_same : (held other : ℕ → Bool) (ms : List Machine) → ascending (machine_numbers ms) ≡ true
    → ((k : ℕ) → held k ≡ true → k < length ms) → ((k : ℕ) → other k ≡ true → k < length ms)
    → numbers_at held ms ≡ numbers_at other ms → (k : ℕ) → held k ≡ other k
places_same held other ms up in_held in-other e k =
    ⊎_elim
    (λ (lt : k < length ms). sym (numbers_held held ms up k lt) ∙ ap (among (get_or (machine_numbers ms) k 0)) e ∙ numbers_held other ms up k lt)
    (λ (ge : length ms ≤ k). none held in_held ge ∙ sym (none other in-other ge))
    (cases_lt k (length ms))
  where
    none : (set : ℕ → Bool) → ((j : ℕ) → set j ≡ true → j < length ms) → length ms ≤ k → set k ≡ false
    none set within ge = ⊎_elim (λ is. absurd (omega (arith, within k is))) (λ free. free) (cases_Bool (set k))

-- where there are numbers, some place is held
some_from : (held : ℕ → Bool) (n : ℕ) → some_below n held ≡ false → (k : ℕ) → k < n → held k ≡ false
some_from held zero none k lt = absurd (omega arith)
some_from held (suc n) none k lt =
    let parts = or_parts (held n) (some_below n held) none in
    ⊎_elim (λ (e : k ≡ n). rw e parts.0) (λ ne. some_from held n parts.1 k (omega arith)) (cases_eq k n)

pub some_held : (held : ℕ → Bool) (ms : List Machine) → 1 ≤ length (numbers_at held ms) → some_below (length ms) held ≡ true
some_held held ms some =
    grind (arith, λ (none : some_below (length ms) held ≡ false). ap length (numbers_none held ms (some_from held (length ms) none)))
