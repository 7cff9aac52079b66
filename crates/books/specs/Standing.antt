-- What stands in a muster or a book: its machines and its batches, both in ascending number.
--   Held                        a batch: its number, its blocks, and the machine numbers of its holders
--   nothing                     what stands in a new muster
--   machine_numbers ms, batch_numbers bs
--   blocks_of b bs              the blocks of the batch b, and 0 where it does not stand
--   holders_of b bs             its holders, and none where it does not stand
--   all_blocks bs               the blocks of all batches
--   with_machine m ms           ms and the machine m, at its place
--   more_blocks b n hs bs       n blocks more of the batch b, which starts with the holders hs where it does not stand
--   fewer_blocks b n bs         n blocks fewer of the batch b, which is removed with its last block
use Rattle.std.specs.Prelude.{ℕ, ◌+◌, ◌-◌, if◌then◌else◌, List, [], ◌∷◌, map, sum_by, ◌==◌, nat_lt}
use Rattle.books.specs.declared.machine.Machine.{Machine}

pub record Held : Type 0 where
  pub number : ℕ
  pub blocks : ℕ
  pub holders : List ℕ

pub record Standing : Type 0 where
  pub machines : List Machine
  pub batches : List Held

abbrev pub nothing : Standing
nothing = record { machines = []; batches = [] }

abbrev pub machine_numbers : List Machine → List ℕ
machine_numbers ms = map (λ m. m.number) ms

abbrev pub batch_numbers : List Held → List ℕ
batch_numbers bs = map (λ b. b.number) bs

abbrev pub blocks_of : ℕ → List Held → ℕ
blocks_of b [] = 0
blocks_of b (c ∷ cs) = if c.number == b then c.blocks else blocks_of b cs

abbrev pub holders_of : ℕ → List Held → List ℕ
holders_of b [] = []
holders_of b (c ∷ cs) = if c.number == b then c.holders else holders_of b cs

abbrev pub all_blocks : List Held → ℕ
all_blocks bs = sum_by (λ b. b.blocks) bs

abbrev pub with_machine : Machine → List Machine → List Machine
with_machine m [] = m ∷ []
with_machine m (k ∷ ks) = if nat_lt m.number k.number then (m ∷ k ∷ ks) else (k ∷ with_machine m ks)

abbrev pub more_blocks : ℕ → ℕ → List ℕ → List Held → List Held
more_blocks b n hs [] = record { number = b; blocks = n; holders = hs } ∷ []
more_blocks b n hs (c ∷ cs) =
    if c.number == b then (record { number = b; blocks = c.blocks + n; holders = c.holders } ∷ cs)
    else if nat_lt b c.number then (record { number = b; blocks = n; holders = hs } ∷ c ∷ cs)
    else (c ∷ more_blocks b n hs cs)

abbrev pub fewer_blocks : ℕ → ℕ → List Held → List Held
fewer_blocks b n [] = []
fewer_blocks b n (c ∷ cs) =
    if c.number == b
    then (if c.blocks == n then cs else (record { number = b; blocks = c.blocks - n; holders = c.holders } ∷ cs))
    else (c ∷ fewer_blocks b n cs)
