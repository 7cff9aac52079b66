-- The blocks of a set of holders: those of all batches with just these holders.
use Rattle.std.specs.Prelude.{◌≡◌, ℕ, ◌+◌, Bool, List, [], ◌∷◌}
use Rattle.places.specs.Has.{has}
use Rattle.books.specs.declared.batch.Batch.{Batch}

-- the holders of the batch are just the places of the set
abbrev pub Just : (ℕ → Bool) → Batch → Type 0
Just set b = (k : ℕ) → has b.holders k ≡ set k

-- the batches have so many blocks of the set
pub data Counted (set : ℕ → Bool) : List Batch → ℕ → Type 0 where
  none : Counted set [] 0
  counts : {b : Batch} {bs : List Batch} {n : ℕ} → Just set b → Counted set bs n → Counted set (b ∷ bs) (b.blocks + n)
  skips : {b : Batch} {bs : List Batch} {n : ℕ} → (Just set b → ⊥) → Counted set bs n → Counted set (b ∷ bs) n
