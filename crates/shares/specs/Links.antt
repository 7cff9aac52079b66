-- The links of one machine. A row has its blocks by batch.
--   links d bs row j     some batch of which the row has at least d blocks is held by j
--   Widest d bs row j b  of the batches that j holds, b is one of which the row has the most blocks, and at least d
use Rattle.std.specs.Prelude.{◌≡◌, ℕ, ◌<◌, ◌≤◌, Bool, true, ◌&&◌, List, length, nat_le}
use Rattle.places.specs.Has.{has}
use Rattle.books.specs.declared.batch.Batch.{Batch}
use Rattle.books.specs.Ranges.{some_below, holders_at}

unfoldable pub links : ℕ → List Batch → (ℕ → ℕ) → ℕ → Bool
links d bs row j = some_below (length bs) (λ b. nat_le d (row b) && has (holders_at bs b) j)

pub record Widest (d : ℕ) (bs : List Batch) (row : ℕ → ℕ) (j b : ℕ) : Type 0 where
  pub batch : b < length bs
  pub wide : d ≤ row b
  pub held : has (holders_at bs b) j ≡ true
  pub most : (c : ℕ) → c < length bs → has (holders_at bs c) j ≡ true → row c ≤ row b
