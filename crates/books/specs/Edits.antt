-- Changes of a book's batches.
--   edited e bs           the batches bs after the change e
--   CanBeMade e bs        the change can be made: its place is there, and an insertion has room
--   Sound n bs blocks     what the type of a book with n machines keeps of its batches bs, which have so many blocks
--   Asked ms b hs         the batch b may be asked for: number and blocks in range, and its holders are those of the machines
--                         ms that have the numbers hs, one at least
use Rattle.std.specs.Prelude.{◌≡◌, ℕ, ◌<◌, ◌≤◌, true, false, List, length, slice_set}
use Rattle.std.specs.List.{insert, remove, list_all}
use Rattle.places.specs.Has.{has}
use Rattle.books.specs.declared.machine.Machine.{Machine}
use Rattle.books.specs.declared.batch.Batch.{Batch}
use Rattle.books.specs.declared.edit.Edit.{Edit}
use Rattle.books.specs.declared.edit.Edit.TheVariants.{Insert, Replace, Remove}
use Rattle.books.specs.Numbers.{ascending, bad_batch_number, bad_blocks}
use Rattle.books.specs.Ranges.{batch_in_range, Manned, numbers_of, blocks_in}
use Rattle.books.specs.Holders.{numbers_at}

abbrev pub edited : Edit → List Batch → List Batch
edited (Insert i b) bs = insert bs i b
edited (Replace i b) bs = slice_set bs i b
edited (Remove i) bs = remove bs i

abbrev pub CanBeMade : Edit → List Batch → Type 0
CanBeMade (Insert i b) bs = (i ≤ length bs) × (length bs < 128)
CanBeMade (Replace i b) bs = i < length bs
CanBeMade (Remove i) bs = i < length bs

pub record Sound (n : ℕ) (bs : List Batch) (blocks : ℕ) : Type 0 where
  pub ascends : ascending (numbers_of bs) ≡ true
  pub in_range : list_all (batch_in_range n) bs ≡ true
  pub manned : Manned n bs
  pub summed : blocks_in bs ≡ blocks

pub record Asked (ms : List Machine) (b : Batch) (hs : List ℕ) : Type 0 where
  pub number_in_range : bad_batch_number b.number ≡ false
  pub blocks_in_range : bad_blocks b.blocks ≡ false
  pub some : 1 ≤ length hs
  pub just : numbers_at (has b.holders) ms ≡ hs
  pub within : (k : ℕ) → has b.holders k ≡ true → k < length ms
