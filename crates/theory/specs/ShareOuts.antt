-- Share-outs, by places: machines are the places 0 .. m - 1, batches the places 0 .. n - 1.
--   Demand                what is to be shared out: how many batches, which places hold each, and how many blocks it has
--   Order m p             p i k is the mark of the k-th block of machine i, as one number: no machine's marks fall, and
--                         two machines never share one
--   load B x i            what the share-out x gives to machine i
--   Complete m B x        x gives nothing to a machine that is no holder, and all blocks of each batch
--   inside m B S b        all holders of the batch b are in the set S
--   just m B S b          the holders of the batch b are the set S
--   blocks_held m B S     the blocks of all batches whose holders are the set S
--   confined m B S        the blocks of all batches whose holders are all in S
--   over m S f            what f comes to over the machines of S
--   reached f μ l         how many of f 1, .., f l are at least μ
--   from m p B x μ        how many blocks stand at the mark μ or after it
--   Closed m B x S        no link leads out of S: of each batch with a block on a machine of S, all holders are in S
--   Full m p B x μ S      no machine of S could take a further block before the mark μ
--   Stable m p B x        no chain of links leads from a machine to another that could take a further block before the last
--                         of the first: each machine with a block is in a closed set that is full at the mark of its last
use Rattle.std.specs.Prelude.{◌≡◌, ℕ, zero, suc, ◌+◌, ◌<◌, ◌≤◌, Bool, true, false, not, ◌||◌, nat_le}
use Rattle.theory.specs.Sums.{total, every, only, agree}

pub record Demand : Type 0 where
  pub batches : ℕ
  pub holds : ℕ → ℕ → Bool
  pub blocks : ℕ → ℕ

pub record Order (m : ℕ) (p : ℕ → ℕ → ℕ) : Type 0 where
  pub rises : (i k : ℕ) → i < m → p i k ≤ p i (suc k)
  pub apart : (i j k l : ℕ) → i < m → j < m → p i k ≡ p j l → i ≡ j

abbrev pub load : Demand → (ℕ → ℕ → ℕ) → ℕ → ℕ
load B x i = total B.batches (λ b. x b i)

pub record Complete (m : ℕ) (B : Demand) (x : ℕ → ℕ → ℕ) : Type 0 where
  pub nothing_elsewhere : (b i : ℕ) → b < B.batches → i < m → B.holds b i ≡ false → x b i ≡ 0
  pub adds_up : (b : ℕ) → b < B.batches → total m (x b) ≡ B.blocks b

abbrev pub inside : ℕ → Demand → (ℕ → Bool) → ℕ → Bool
inside m B S b = every m (λ i. not (B.holds b i) || S i)

abbrev pub just : ℕ → Demand → (ℕ → Bool) → ℕ → Bool
just m B S b = every m (λ i. agree (B.holds b i) (S i))

abbrev pub blocks_held : ℕ → Demand → (ℕ → Bool) → ℕ
blocks_held m B S = total B.batches (λ b. only (just m B S b) (B.blocks b))

abbrev pub confined : ℕ → Demand → (ℕ → Bool) → ℕ
confined m B S = total B.batches (λ b. only (inside m B S b) (B.blocks b))

abbrev pub over : ℕ → (ℕ → Bool) → (ℕ → ℕ) → ℕ
over m S f = total m (λ i. only (S i) (f i))

unfoldable pub reached : (ℕ → ℕ) → ℕ → ℕ → ℕ
reached f μ zero = 0
reached f μ (suc l) = reached f μ l + only (nat_le μ (f (suc l))) 1

abbrev pub from : ℕ → (ℕ → ℕ → ℕ) → Demand → (ℕ → ℕ → ℕ) → ℕ → ℕ
from m p B x μ = total m (λ i. reached (p i) μ (load B x i))

abbrev pub Closed : ℕ → Demand → (ℕ → ℕ → ℕ) → (ℕ → Bool) → Type 0
Closed m B x S = (b i : ℕ) → b < B.batches → i < m → S i ≡ true → 0 < x b i → inside m B S b ≡ true

abbrev pub Full : ℕ → (ℕ → ℕ → ℕ) → Demand → (ℕ → ℕ → ℕ) → ℕ → (ℕ → Bool) → Type 0
Full m p B x μ S = (q : ℕ) → q < m → S q ≡ true → μ ≤ p q (suc (load B x q))

abbrev pub Stable : ℕ → (ℕ → ℕ → ℕ) → Demand → (ℕ → ℕ → ℕ) → Type 0
Stable m p B x =
    (i : ℕ) → i < m → 0 < load B x i
    → (S : ℕ → Bool) × (S i ≡ true) × Closed m B x S × Full m p B x (p i (load B x i)) S
