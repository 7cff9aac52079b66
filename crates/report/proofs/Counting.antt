-- The batches of just one set of holders, by a test, and the sum of their blocks.
use Rattle.std.proofs.Common.{◌≤◌, ◌↔◌, Bool, IsTrue, List, [], ◌∷◌, filter, inl, inr, arith}
use Rattle.std.proofs.lemmas.Bool.{cases_Bool, both_ways}
use Rattle.std.proofs.lemmas.List.Sums.{sum_by-cons}
use Rattle.places.specs.declared.Places.{Places}
use Rattle.places.specs.Has.{has, same_places}
use Rattle.places.proofs.Digits.{same_places_decides}
use Rattle.books.specs.declared.batch.Batch.{Batch}
use Rattle.books.specs.Ranges.{blocks_in}
use Rattle.report.specs.Sets.{Just, Counted, none, counts, skips}

abbrev pub has_just : Places → Batch → Bool
has_just h b = same_places b.holders h

pub has_just_is : (h : Places) (b : Batch) → IsTrue (has_just h b) ↔ Just (has h) b
has_just_is h b = same_places_decides b.holders h

module _ (h : Places) where
  pub counted : (bs : List Batch) → Counted (has h) bs (blocks_in (filter (has_just h) bs))
  counted [] = none
  counted (b ∷ bs) = elim (cases_Bool (has_just h b)) [
    | inl e ↦ rw (e, sum_by-cons (λ (c : Batch). c.blocks) b (filter (has_just h) bs)) (counts ((has_just_is h b).0 e) (counted bs))
    | inr e ↦ rw e (skips (λ just. both_ways _ e ((has_just_is h b).1 just)) (counted bs))
  ]

  pub counted_fits : (bs : List Batch) → blocks_in (filter (has_just h) bs) ≤ blocks_in bs
  counted_fits [] = omega arith
  counted_fits (b ∷ bs) = elim (cases_Bool (has_just h b)) [
    | inl e ↦ rw e (omega (arith, sum_by-cons (λ (c : Batch). c.blocks) b (filter (has_just h) bs), sum_by-cons (λ (c : Batch). c.blocks) b bs, counted_fits bs))
    | inr e ↦ rw e (omega (arith, sum_by-cons (λ (c : Batch). c.blocks) b bs, counted_fits bs))
  ]
