use Rattle.std.specs.Prelude.{Option, Some, None, MatchOption, IsSome}
use Rattle.std.proofs.Common.{◌≡◌, ℕ, true, false, refl}
use Rattle.std.proofs.lemmas.Bool.{both_ways}
use Rattle.places.specs.declared.Places.{Places}
use Rattle.places.specs.Has.{has, Lowest}
use Rattle.shares.proofs.Facts.{some_holder}
use Rattle.shares.proofs.plan.settle.first_holder.Goals as goal

-- where a place is held, there is a lowest one
some_first : (s : Places) (k : ℕ) (r : Option ℕ) → MatchOption r ((i : ℕ) → has s i ≡ false) (λ i. Lowest s i) → has s k ≡ true → IsSome r
some_first s k None none held = absurd (both_ways _ (none k) held)
some_first s k (Some i) lowest held = refl

pub unwrap-requires : goal.unwrap-requires
unwrap-requires c =
    let some = some_holder c.args.book.now c.args.batch c.requires.stands in
    some_first _ some.0 _ (rw c.batches.ensures.lends_the_batches at c.first.ensures.gives_the_lowest_place) some.2
