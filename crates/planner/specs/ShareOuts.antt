-- Share-outs of what stands, and when one is best. Machines and batches go by their places in ascending number.
--   Table                    from terms and k to the moment of the k-th block: what a pace means
--   ShareOut                 from a batch and a machine to a number of blocks
--   SameTable f g            two paces are the same: equal tables
--   machine_count s          how many machines stand
--   held_at s b              the batch at the place b
--   to_share s               what is to be shared out: the batches with their holders and their blocks
--   Shared s x               x is a share-out: 0 where the machine is no holder, and over the machines the batch's blocks
--   load_of s x i            a machine's load, the sum of its shares
--   mark_at table s i k      the mark at which the k-th block of the machine at i stands: its moment and its machine's number
--   blocks_after .. x μ      how many blocks of the share-out x stand after the mark μ
--   Best table s x           no rival, which is any share-out of what stands, has fewer blocks after any mark
--   NoChainHelps table s x   each machine with a block is in a set of machines that no chain of moves leads out of (of each
--                            batch with a block on a machine of the set, all holders are in it), and of which no machine's
--                            next block would stand before the last block of the first
--   LastEnding .. x t        t is the latest moment of any block
--   NoneEndsBefore .. t      no share-out of what stands has its last ending before t
--   blocks_of_set s S        the blocks of all batches whose holders are just the machines of the set S
--   SameLoads s x t y        the machine numbers and the load of every machine agree
--   AlikeSettled .. y        two settled books have the same machines, the same paces and as many blocks for each set of
--                            holders, and no chain of moves helps in either
use Rattle.std.specs.Prelude.{◌≡◌, ℕ, suc, ◌<◌, ◌≤◌, Bool, true, false, [], length, slice_index_or}
use Rattle.pace.specs.declared.terms.Terms.{Terms}
use Rattle.pace.specs.Moments.{Fit, count}
use Rattle.theory.specs.Sums.{total}
use Rattle.theory.specs.ShareOuts.{Demand, Complete, Closed, load, blocks_held}
use Rattle.books.specs.Numbers.{among}
use Rattle.books.specs.Standing.{Standing, Held, machine_numbers}
use Rattle.shares.specs.declared.mark.Mark.{Mark}
use Rattle.shares.specs.Marks.{later, machine_at, mark_of}

abbrev pub Table : Type 0
Table = Terms → ℕ → ℕ

abbrev pub ShareOut : Type 0
ShareOut = ℕ → ℕ → ℕ

abbrev pub SameTable : Table → Table → Type 0
SameTable f g = (t : Terms) (k : ℕ) → Fit t → f t k ≡ g t k

abbrev pub machine_count : Standing → ℕ
machine_count s = length s.machines

abbrev pub held_at : Standing → ℕ → Held
held_at s b = slice_index_or s.batches b (record { number = 0; blocks = 0; holders = [] })

abbrev pub to_share : Standing → Demand
to_share s = record {
  batches = length s.batches;
  holds = λ b i. among (machine_at s.machines i).number (held_at s b).holders;
  blocks = λ b. (held_at s b).blocks;
}

abbrev pub Shared : Standing → ShareOut → Type 0
Shared s x = Complete (machine_count s) (to_share s) x

abbrev pub load_of : Standing → ShareOut → ℕ → ℕ
load_of s x i = load (to_share s) x i

abbrev pub mark_at : Table → Standing → ℕ → ℕ → Mark
mark_at table s i k = mark_of table (machine_at s.machines i) k

abbrev pub blocks_after : Table → Standing → ShareOut → Mark → ℕ
blocks_after table s x μ = total (machine_count s) (λ i. count (load_of s x i) (λ k. later (mark_at table s i k) μ))

abbrev pub Best : Table → Standing → ShareOut → Type 0
Best table s x = (y : ShareOut) → Shared s y → (μ : Mark) → blocks_after table s x μ ≤ blocks_after table s y μ

abbrev pub NoChainHelps : Table → Standing → ShareOut → Type 0
NoChainHelps table s x =
    (i : ℕ) → i < machine_count s → 0 < load_of s x i
    → (S : ℕ → Bool) × (S i ≡ true) × Closed (machine_count s) (to_share s) x S
    × ((q : ℕ) → q < machine_count s → S q ≡ true → later (mark_at table s i (load_of s x i)) (mark_at table s q (suc (load_of s x q))) ≡ false)

pub record LastEnding (table : Table) (s : Standing) (x : ShareOut) (t : ℕ) : Type 0 where
  pub some_block : (i : ℕ) × (k : ℕ) × (i < machine_count s) × (0 < k) × (k ≤ load_of s x i) × ((mark_at table s i k).moment ≡ t)
  pub none_later : (i k : ℕ) → i < machine_count s → 0 < k → k ≤ load_of s x i → (mark_at table s i k).moment ≤ t

abbrev pub NoneEndsBefore : Table → Standing → ℕ → Type 0
NoneEndsBefore table s t = (y : ShareOut) → Shared s y → (u : ℕ) → LastEnding table s y u → t ≤ u

abbrev pub blocks_of_set : Standing → (ℕ → Bool) → ℕ
blocks_of_set s S = blocks_held (machine_count s) (to_share s) S

pub record SameLoads (s : Standing) (x : ShareOut) (t : Standing) (y : ShareOut) : Type 0 where
  pub numbers : machine_numbers s.machines ≡ machine_numbers t.machines
  pub loads : (i : ℕ) → i < machine_count s → load_of s x i ≡ load_of t y i

pub record AlikeSettled (f : Table) (s : Standing) (x : ShareOut) (g : Table) (t : Standing) (y : ShareOut) : Type 0 where
  pub no_chain_helps_in_one : NoChainHelps f s x
  pub no_chain_helps_in_the_other : NoChainHelps g t y
  pub same_paces : SameTable f g
  pub same_machines : s.machines ≡ t.machines
  pub same_blocks_of_each_set : (S : ℕ → Bool) → blocks_of_set s S ≡ blocks_of_set t S
