-- A rotation of the last of some items to a place, and one of an item behind the others.
use borrow.Rule.Slice.PartMut.{mid_of, put_mid}
use Rattle.std.proofs.Common.{◌≡◌, ℕ, zero, suc, ◌+◌, ◌-◌, ◌<◌, ◌≤◌, List, [], ◌∷◌, length, take, set, refl, ap, ◌∙◌, arith, rules}
use Rattle.std.specs.List.{insert, remove, RotatedLeft, RotatedRight}
use Rattle.std.proofs.lemmas.List.{same_lists, places, length-set, get_or-set_same}
use Rattle.std.proofs.lemmas.Slice.{take-put_mid}
use Rattle.std.proofs.lemmas.Bool.{cases_eq, cases_lt}

pub take_of_set : {T : Type 0} (n : ℕ) (xs : List T) (i : ℕ) (x : T) → take n (set xs i x) ≡ set (take n xs) i x
take_of_set zero [] i x = refl
take_of_set zero (y ∷ ys) i x = refl
take_of_set (suc n) [] i x = refl
take_of_set (suc n) (y ∷ ys) zero x = refl
take_of_set (suc n) (y ∷ ys) (suc i) x = ap (λ zs. y ∷ zs) (take_of_set n ys i x)

-- of the slots the first n hold items; `part` is what the slots from `at` up to those hold after the rotation
module _ {T : Type 0} (slots : List T) (n at : ℕ) (part : List T) where
  -- the item was put behind the others, and goes to the place
  pub put_there : (x : T) → at ≤ n → n < length slots → length part ≡ n + 1 - at
      → RotatedRight (mid_of at (n + 1 - at) (set slots n x)) part (n + 1 - at) 1
      → take (n + 1) (put_mid at (n + 1 - at) (set slots n x) part) ≡ insert (take n slots) at x
  put_there x le lt long turned =
      take-put_mid at (n + 1 - at) (set slots n x) part (n + 1) (omega arith) (omega (arith, length-set slots n x))
      ∙ same_lists _ _ (search (rules, places)) (λ k d h. grind (arith, places, get_or-set_same, turned.0 (k - at) d, turned.1 (k - at) d, cases_lt k at, cases_eq k at))

  -- the item at the place goes behind the others
  pub taken_out : at < n → n ≤ length slots → length part ≡ n - at
      → RotatedLeft (mid_of at (n - at) slots) part (n - at) 1
      → take (n - 1) (put_mid at (n - at) slots part) ≡ remove (take n slots) at
  taken_out lt le long turned =
      same_lists _ _ (search (rules, places)) (λ k d h. grind (arith, places, turned.0 (k - at) d, cases_lt k at))
