-- Records in ascending number: what a record put in, taken out or replaced at its place leaves.
use Rattle.std.proofs.Common.{◌≡◌, ℕ, zero, suc, ◌<◌, Bool, true, false, ltb, ◌≢◌, List, [], ◌∷◌, map, length, get_or, set, Result, Ok, Err, MatchResult, is_ok, sym, refl, arith}
use Rattle.std.specs.List.{insert, remove, list_all}
use Rattle.std.proofs.lemmas.Bool.Decides.{nat_tests}
use Rattle.std.proofs.lemmas.Bool.{and_parts, ltb-true}
use Rattle.books.specs.Numbers.{among, rising, ascending, Found, Missing}
use Rattle.books.proofs.Orders.{rising_above, rising_ascends}

-- a number that is found is among them, and one that is missing is not
pub found_among : (n : ℕ) (ns : List ℕ) (i : ℕ) → i < length ns → get_or ns i 0 ≡ n → among n ns ≡ true
found_among n [] i lt here = absurd (omega arith)
found_among n (k ∷ ks) zero lt here = grind (arith, nat_tests)
found_among n (k ∷ ks) (suc i) lt here = grind (arith, nat_tests, found_among n ks i (omega arith) here)

none_among : (n : ℕ) (ns : List ℕ) → ((k : ℕ) → k < length ns → get_or ns k 0 ≢ n) → among n ns ≡ false
none_among n [] none = refl
none_among n (k ∷ ks) none = grind (arith, nat_tests, none 0 (omega arith), none_among n ks (λ j lt e. none (suc j) (omega arith) e))

pub missing_among : (n : ℕ) (ns : List ℕ) (i : ℕ) → Missing n ns i → among n ns ≡ false
missing_among n ns i m = none_among n ns (λ k lt e. grind (arith, m.lower k, m.higher k))

pub found_tells : (n : ℕ) (ns : List ℕ) (r : Result ℕ ℕ) → MatchResult r (Found n ns) (Missing n ns) → is_ok r ≡ among n ns
found_tells n ns (Ok i) f = sym (found_among n ns i f.within f.here)
found_tells n ns (Err i) m = sym (missing_among n ns i m)

-- without the first number, one place less
pub found_next : (n k : ℕ) (ks : List ℕ) (i : ℕ) → Found n (k ∷ ks) (suc i) → Found n ks i
found_next n k ks i f = record { within = omega (arith, f.within); here = f.here; lower = λ j lt. f.lower (suc j) (omega arith) }

pub missing_next : (n k : ℕ) (ks : List ℕ) (i : ℕ) → Missing n (k ∷ ks) (suc i) → Missing n ks i
missing_next n k ks i m =
    record {
      within = omega (arith, m.within);
      lower = λ j lt. m.lower (suc j) (omega arith);
      higher = λ j ge lt. m.higher (suc j) (omega arith) (omega arith);
    }

-- a list that rises from n rises from every number below its first
rising_from : (n k : ℕ) (ns : List ℕ) → rising n ns ≡ true → (0 < length ns → k < get_or ns 0 0) → rising k ns ≡ true
rising_from n k [] up lt = refl
rising_from n k (j ∷ js) up lt = grind (arith, nat_tests, up, lt (omega arith))

ascending_from : (k : ℕ) (ns : List ℕ) → ascending ns ≡ true → (0 < length ns → k < get_or ns 0 0) → rising k ns ≡ true
ascending_from k [] up lt = refl
ascending_from k (j ∷ js) up lt = grind (arith, nat_tests, up, lt (omega arith))

module _ {R : Type 0} (key : R → ℕ) where
  rising_inserted : (r : R) (n : ℕ) (rs : List R) (i : ℕ) → rising n (map key rs) ≡ true → n < key r → Missing (key r) (map key rs) i
      → rising n (map key (insert rs i r)) ≡ true
  rising_inserted r n rs zero up lt m = grind (arith, nat_tests, lt, rising_from n (key r) (map key rs) up (λ some. m.higher 0 (omega arith) some))
  rising_inserted r n [] (suc i) up lt m = absurd (omega (arith, m.within))
  rising_inserted r n (x ∷ xs) (suc i) up lt m =
      let parts = and_parts (ltb n (key x)) (rising (key x) (map key xs)) up in
      grind (arith, parts.0, rising_inserted r (key x) xs i parts.1 (m.lower 0 (omega arith)) (missing_next (key r) (key x) (map key xs) i m))

  pub ascending_inserted : (r : R) (rs : List R) (i : ℕ) → ascending (map key rs) ≡ true → Missing (key r) (map key rs) i
      → ascending (map key (insert rs i r)) ≡ true
  ascending_inserted r rs zero up m = ascending_from (key r) (map key rs) up (λ some. m.higher 0 (omega arith) some)
  ascending_inserted r [] (suc i) up m = absurd (omega (arith, m.within))
  ascending_inserted r (x ∷ xs) (suc i) up m =
      rising_inserted r (key x) xs i up (m.lower 0 (omega arith)) (missing_next (key r) (key x) (map key xs) i m)

  rising_removed : (n : ℕ) (rs : List R) (i : ℕ) → rising n (map key rs) ≡ true → rising n (map key (remove rs i)) ≡ true
  rising_removed n [] zero up = refl
  rising_removed n [] (suc i) up = refl
  rising_removed n (x ∷ xs) zero up =
      let parts = and_parts (ltb n (key x)) (rising (key x) (map key xs)) up in
      rising_from (key x) n (map key xs) parts.1 (λ some. omega (arith, ltb-true n (key x) parts.0, rising_above (key x) (map key xs) parts.1 0 some))
  rising_removed n (x ∷ xs) (suc i) up = grind (arith, up, rising_removed (key x) xs i)

  pub ascending_removed : (rs : List R) (i : ℕ) → ascending (map key rs) ≡ true → ascending (map key (remove rs i)) ≡ true
  ascending_removed [] zero up = refl
  ascending_removed [] (suc i) up = refl
  ascending_removed (x ∷ xs) zero up = rising_ascends (key x) (map key xs) up
  ascending_removed (x ∷ xs) (suc i) up = rising_removed (key x) xs i up

-- a test that all records pass
module _ {R : Type 0} (p : R → Bool) where
  pub all_inserted : (rs : List R) (i : ℕ) (r : R) → list_all p rs ≡ true → p r ≡ true → list_all p (insert rs i r) ≡ true
  all_inserted rs zero r each new = grind (arith, each, new)
  all_inserted [] (suc i) r each new = grind (arith, new)
  all_inserted (x ∷ xs) (suc i) r each new = grind (arith, each, all_inserted xs i r)

  pub all_removed : (rs : List R) (i : ℕ) → list_all p rs ≡ true → list_all p (remove rs i) ≡ true
  all_removed [] zero each = refl
  all_removed [] (suc i) each = refl
  all_removed (x ∷ xs) zero each = grind (arith, each)
  all_removed (x ∷ xs) (suc i) each = grind (arith, each, all_removed xs i)

  pub all_replaced : (rs : List R) (i : ℕ) (r : R) → list_all p rs ≡ true → p r ≡ true → list_all p (set rs i r) ≡ true
  all_replaced [] zero r each new = refl
  all_replaced [] (suc i) r each new = refl
  all_replaced (x ∷ xs) zero r each new = grind (arith, each, new)
  all_replaced (x ∷ xs) (suc i) r each new = grind (arith, each, all_replaced xs i r)

  pub all_at : (rs : List R) (i : ℕ) (d : R) → list_all p rs ≡ true → i < length rs → p (get_or rs i d) ≡ true
  all_at [] i d each lt = absurd (omega arith)
  all_at (x ∷ xs) zero d each lt = grind (arith, each)
  all_at (x ∷ xs) (suc i) d each lt = grind (arith, each, all_at xs i d)
