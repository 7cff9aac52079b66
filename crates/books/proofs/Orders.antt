-- Lists in ascending number, what the library's test says of them, and what a binary search learns.
use Rattle.std.specs.List.{IsAllAdjacentAnswer}
use Rattle.std.proofs.Common.{◌≡◌, ℕ, zero, suc, ◌+◌, ◌<◌, ◌≤◌, Bool, true, false, ltb, List, [], ◌∷◌, map, length, get_or, sym, refl, ap, ◌∙◌, subst, add-one, ⊎_elim, arith}
use Rattle.std.proofs.lemmas.List.{get_or-map}
use Rattle.std.proofs.lemmas.Bool.{and_parts, and_from, ltb-true, lt-ltb, cases_lt, cases_Bool, both_ways}
use Rattle.books.specs.Numbers.{rising, ascending, Found, Missing}

-- what a rising list has is above where it began
pub rising_above : (n : ℕ) (ns : List ℕ) → rising n ns ≡ true → (j : ℕ) → j < length ns → n < get_or ns j 0
rising_above n [] up j lt = absurd (omega arith)
rising_above n (k ∷ ks) up zero lt = ltb-true n k (and_parts (ltb n k) (rising k ks) up).0
rising_above n (k ∷ ks) up (suc j) lt =
    omega (arith, ltb-true n k (and_parts (ltb n k) (rising k ks) up).0, rising_above k ks (and_parts (ltb n k) (rising k ks) up).1 j (omega arith))

pub rising_ascends : (n : ℕ) (ns : List ℕ) → rising n ns ≡ true → ascending ns ≡ true
rising_ascends n [] up = refl
rising_ascends n (k ∷ ks) up = (and_parts (ltb n k) (rising k ks) up).1

pub ascending_lt : (ns : List ℕ) → ascending ns ≡ true → (i j : ℕ) → i < j → j < length ns → get_or ns i 0 < get_or ns j 0
ascending_lt [] up i j lt within = absurd (omega arith)
ascending_lt (n ∷ ns) up i zero lt within = absurd (omega arith)
ascending_lt (n ∷ ns) up zero (suc j) lt within = rising_above n ns up j (omega arith)
ascending_lt (n ∷ ns) up (suc i) (suc j) lt within = ascending_lt ns (rising_ascends n ns up) i j (omega arith) (omega arith)

-- a list whose neighbours ascend does
rising_neighbours : (p : ℕ) (ns : List ℕ) → (0 < length ns → p < get_or ns 0 0) → ((k : ℕ) → suc k < length ns → get_or ns k 0 < get_or ns (suc k) 0) → rising p ns ≡ true
rising_neighbours p [] first next = refl
rising_neighbours p (n ∷ ns) first next =
    and_from (ltb p n) (rising n ns) (lt-ltb p n (first (omega arith))) (rising_neighbours n ns (λ some. next 0 (omega arith)) (λ k lt. next (suc k) (omega arith)))

ascending_neighbours : (ns : List ℕ) → ((k : ℕ) → suc k < length ns → get_or ns k 0 < get_or ns (suc k) 0) → ascending ns ≡ true
ascending_neighbours [] next = refl
ascending_neighbours (n ∷ ns) next = rising_neighbours n ns (λ some. next 0 (omega arith)) (λ k lt. next (suc k) (omega arith))

-- what `is_sorted_by` tells of numbers that are to ascend
pub ascending_answer : (ns : List ℕ) (r : Bool) → IsAllAdjacentAnswer (λ x y b. b ≡ ltb x y) ns r → r ≡ ascending ns
ascending_answer ns true each =
    sym (ascending_neighbours ns (λ k lt. subst (λ (j : ℕ). get_or ns k 0 < get_or ns j 0) (add-one k) (ltb-true _ _ (sym (each k 0 (omega (arith, lt)))))))
ascending_answer ns false pair =
    ⊎_elim
    (λ up. absurd (both_ways _ (sym (pair.2 0)) (lt-ltb _ _ (ascending_lt ns up pair.0 (pair.0 + 1) (omega arith) pair.1))))
    (λ not_up. sym not_up)
    (cases_Bool (ascending ns))

-- the number of a record that was read
pub key_at : {R : Type 0} (key : R → ℕ) (rs : List R) (i : ℕ) (r : R) → i < length rs → r ≡ get_or rs i r → get_or (map key rs) i 0 ≡ key r
key_at key rs i r lt is = get_or-map key rs i r 0 lt ∙ ap key (sym is)

-- what a binary search for n has learned: n stands at no place below low, and at none from high on
pub record Between (n : ℕ) (ns : List ℕ) (low high : ℕ) : Type 0 where
  pub lower : (k : ℕ) → k < low → get_or ns k 0 < n
  pub higher : (k : ℕ) → high ≤ k → k < length ns → n < get_or ns k 0

pub between_none : (n : ℕ) (ns : List ℕ) (high : ℕ) → high ≡ length ns → Between n ns 0 high
between_none n ns high end = record { lower = λ k lt. absurd (omega arith); higher = λ k ge lt. absurd (omega arith) }

module _ (n : ℕ) (ns : List ℕ) (low high middle : ℕ) (up : ascending ns ≡ true) (within : middle < length ns) where
  pub between_above : Between n ns low high → get_or ns middle 0 < n → Between n ns (middle + 1) high
  between_above b lt =
      record {
        lower = λ k below. ⊎_elim (λ (less : k < middle). omega (arith, ascending_lt ns up k middle less within)) (λ (ge : middle ≤ k). let e : k ≡ middle = omega arith in rw e lt) (cases_lt k middle);
        higher = b.higher;
      }

  pub between_below : Between n ns low high → n < get_or ns middle 0 → Between n ns low middle
  between_below b lt =
      record {
        lower = b.lower;
        higher = λ k ge below. ⊎_elim (λ (more : middle < k). omega (arith, ascending_lt ns up middle k more below)) (λ (le : k ≤ middle). let e : k ≡ middle = omega arith in rw e lt) (cases_lt middle k);
      }

  pub between_found : get_or ns middle 0 ≡ n → Found n ns middle
  between_found here = record { within = within; here = here; lower = λ k lt. omega (arith, ascending_lt ns up k middle lt within) }

pub between_missing : (n : ℕ) (ns : List ℕ) (low high : ℕ) → Between n ns low high → low ≡ high → low ≤ length ns → Missing n ns low
between_missing n ns low high b met within = record { within = within; lower = b.lower; higher = λ k ge lt. b.higher k (omega arith) lt }
