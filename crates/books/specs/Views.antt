-- What stands in a muster and in a book, as their tables show it.
--   machines_of r     the machines of a roster
--   mustered r        what stands in a muster: machines, and no batch yet
--   batch_of ms b     the batch b as it stands, with the numbers of its holders among the machines ms
--   machines_in b, batches_in b    the machines and the batches of a book, as it keeps them
--   standing_of b     what stands in a book
--   IsRead s n b      the batch with the number n stands in s, with the blocks and the holders of b
--   IsAbsent s n      no batch with the number n stands in s
use Rattle.std.specs.Prelude.{◌≡◌, ℕ, true, false, List, [], map}
use Rattle.fixed.specs.Items.{items}
use Rattle.places.specs.Has.{has}
use Rattle.books.specs.declared.machine.Machine.{Machine}
use Rattle.books.specs.declared.batch.Batch.{Batch}
use Rattle.books.specs.declared.roster.Roster.{Roster}
use Rattle.books.specs.declared.book.Book.{Book}
use Rattle.books.specs.Standing.{Standing, Held, batch_numbers, blocks_of, holders_of}
use Rattle.books.specs.Numbers.{among}
use Rattle.books.specs.Holders.{numbers_at}

abbrev pub machines_of : Roster → List Machine
machines_of r = items r.machines

abbrev pub mustered : Roster → Standing
mustered r = record { machines = machines_of r; batches = [] }

abbrev pub batch_of : List Machine → Batch → Held
batch_of ms b = record { number = b.number; blocks = b.blocks; holders = numbers_at (has b.holders) ms }

abbrev pub machines_in : Book → List Machine
machines_in b = machines_of b.roster

abbrev pub batches_in : Book → List Batch
batches_in b = items b.batches

abbrev pub standing_of : Book → Standing
standing_of b = record { machines = machines_in b; batches = map (batch_of (machines_in b)) (batches_in b) }

pub record IsRead (s : Standing) (n : ℕ) (b : Batch) : Type 0 where
  pub stands : among n (batch_numbers s.batches) ≡ true
  pub blocks : blocks_of n s.batches ≡ b.blocks
  pub holders : holders_of n s.batches ≡ numbers_at (has b.holders) s.machines

pub record IsAbsent (s : Standing) (n : ℕ) : Type 0 where
  pub stands_not : among n (batch_numbers s.batches) ≡ false
  pub no_blocks : blocks_of n s.batches ≡ 0
