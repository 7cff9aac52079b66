-- The machines and the batches that musters and books lend, whatever the state.
--   IsMachineList ms     machines as a muster or a book has them
--   IsBatchList n bs     batches as a book of n machines has them
use Rattle.std.specs.Prelude.{◌≡◌, ℕ, ◌≤◌, true, List, length}
use Rattle.std.specs.List.{list_all}
use Rattle.books.specs.declared.machine.Machine.{Machine}
use Rattle.books.specs.declared.batch.Batch.{Batch}
use Rattle.books.specs.Numbers.{ascending}
use Rattle.books.specs.Ranges.{machine_in_range, batch_in_range, Manned, numbers_of, blocks_in}
use Rattle.books.specs.Standing.{machine_numbers}

pub record IsMachineList (ms : List Machine) : Type 0 where
  pub ascends_in_number : ascending (machine_numbers ms) ≡ true
  pub has_each_in_its_ranges : list_all machine_in_range ms ≡ true
  pub has_at_most_32 : length ms ≤ 32

pub record IsBatchList (n : ℕ) (bs : List Batch) : Type 0 where
  pub ascends_in_number : ascending (numbers_of bs) ≡ true
  pub has_each_in_its_ranges : list_all (batch_in_range n) bs ≡ true
  pub names_holders_by_places_of_machines : Manned n bs
  pub has_at_most_128 : length bs ≤ 128
  pub has_at_most_a_million_blocks : blocks_in bs ≤ 1000000
