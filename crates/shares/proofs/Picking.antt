-- Going through a set of places, one after the other, for the best of them.
use Rattle.std.proofs.Common.{◌≡◌, ℕ, ◌<◌, Bool, true, false, not, ◌&&◌, ◌||◌, eqb, sym, refl, ◌∙◌, inl, inr, arith}
use Rattle.std.proofs.lemmas.Bool.{cases_eq, eq-eqb, ne_eqb, or_right}
use Rattle.places.specs.declared.Places.{Places}
use Rattle.places.specs.Has.{has, size, Lowest}
use Rattle.shares.proofs.Sizes.{size_without}

pub popped_less : (s t : Places) (i : ℕ) → Lowest s i → ((k : ℕ) → has t k ≡ (has s k && not (eqb k i))) → size (has t) < size (has s)
popped_less s t i low takes = size_without (has t) (has s) i low.below low.held takes

pub first_in : (S : ℕ → Bool) (i : ℕ) → (S i || eqb i i) ≡ true
first_in S i = or_right (S i) (eqb i i) (eq-eqb i i refl)

-- what has been looked at is no better than the best
module _ {T L L' : ℕ → Bool} (q : ℕ) (less : (k : ℕ) → L' k ≡ (L k && not (eqb k q))) where
  pub seen_more : {R R' : ℕ → Type 0} → ((k : ℕ) → T k ≡ true → L k ≡ false → R k) → ((k : ℕ) → R k → R' k) → R' q → (k : ℕ) → T k ≡ true → L' k ≡ false → R' k
  seen_more {R} {R'} seen weaker here k t out = elim (cases_eq k q) [
    | inl e ↦ rw e here
    | inr d ↦ weaker k (seen k t (was (L k) (eqb k q) (ne_eqb k q d) (sym (less k) ∙ out)))
  ]
    where
      was : (a b : Bool) → b ≡ false → (a && not b) ≡ false → a ≡ false
      was a b e f = grind arith
