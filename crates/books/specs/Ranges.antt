-- What the types of musters and books keep of each of their records.
--   some_below n p         some number below n passes the test p
--   machine_in_range m     the number and the terms of the machine m are in their ranges
--   batch_in_range n b     the number and the blocks of the batch b are in their ranges, and of n machines some holds it
--   holders_at bs i        the holders of the batch at the place i, and none past the last one
--   Manned n bs            each holder of each batch is one of n machines
--   numbers_of bs          the numbers of the batches
--   blocks_in bs           the blocks of all batches
use Rattle.std.specs.Prelude.{◌≡◌, ℕ, zero, suc, ◌<◌, Bool, true, false, not, ◌&&◌, ◌||◌, List, map, sum_by, slice_index_or}
use Rattle.places.specs.declared.Places.{Places}
use Rattle.places.specs.Has.{has, no_places}
use Rattle.books.specs.declared.machine.Machine.{Machine}
use Rattle.books.specs.declared.batch.Batch.{Batch}
use Rattle.books.specs.Numbers.{bad_machine_number, bad_ticks, bad_lot, bad_backlog, bad_batch_number, bad_blocks}

abbrev pub some_below : ℕ → (ℕ → Bool) → Bool
some_below zero p = false
some_below (suc n) p = p n || some_below n p

abbrev pub machine_in_range : Machine → Bool
machine_in_range m =
    (not (bad_machine_number m.number) && not (bad_ticks m.terms.ticks))
    && (not (bad_lot m.terms.lot) && not (bad_backlog m.terms.backlog))

abbrev pub batch_in_range : ℕ → Batch → Bool
batch_in_range n b = (not (bad_batch_number b.number) && not (bad_blocks b.blocks)) && some_below n (has b.holders)

-- stands for a batch past the last one
abbrev pub no_batch : Batch
no_batch = record { number = 0; blocks = 0; holders = no_places }

abbrev pub holders_at : List Batch → ℕ → Places
holders_at bs i = (slice_index_or bs i no_batch).holders

abbrev pub Manned : ℕ → List Batch → Type 0
Manned n bs = (i k : ℕ) → has (holders_at bs i) k ≡ true → k < n

abbrev pub numbers_of : List Batch → List ℕ
numbers_of bs = map (λ b. b.number) bs

abbrev pub blocks_in : List Batch → ℕ
blocks_in bs = sum_by (λ b. b.blocks) bs
