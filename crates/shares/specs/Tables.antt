-- What a book asks for, and the start.
--   batch_at bs b        the batch at the place b
--   demand_of k          what is to be shared out in the book k
--   Placed k n x         x gives all blocks of the first n batches of the book k to holders, and none of the others
use Rattle.std.specs.Prelude.{◌≡◌, ℕ, ◌<◌, ◌≤◌, false, List, length, slice_index_or}
use Rattle.places.specs.Has.{has}
use Rattle.theory.specs.Sums.{total}
use Rattle.theory.specs.ShareOuts.{Demand}
use Rattle.books.specs.declared.batch.Batch.{Batch}
use Rattle.books.specs.declared.book.Book.{Book}
use Rattle.books.specs.Ranges.{no_batch, holders_at}
use Rattle.books.specs.Views.{machines_in, batches_in}

abbrev pub batch_at : List Batch → ℕ → Batch
batch_at bs b = slice_index_or bs b no_batch

abbrev pub demand_of : Book → Demand
demand_of k = record {
  batches = length (batches_in k);
  holds = λ b i. has (holders_at (batches_in k) b) i;
  blocks = λ b. (batch_at (batches_in k) b).blocks;
}

pub record Placed (k : Book) (n : ℕ) (x : ℕ → ℕ → ℕ) : Type 0 where
  pub elsewhere : (b i : ℕ) → has (holders_at (batches_in k) b) i ≡ false → x b i ≡ 0
  pub adds_up : (b : ℕ) → b < n → total (length (machines_in k)) (x b) ≡ (batch_at (batches_in k) b).blocks
  pub not_yet : (b i : ℕ) → n ≤ b → x b i ≡ 0
