-- What levelling at a width of d blocks reaches. Marks are numbers p, as in the theory of share-outs; l i is the load of i.
--   ClosedBy d m B x S          no link of at least d blocks leads out of S
--   Spent d m B p x l C i       no chain of d blocks from machine i helps: i is in a closed set within C of which no
--                               machine could take d blocks more and end them before the first of the last d of i
--   Exhausted d m B p x l C     C is closed, each of its machines is spent, and no machine outside could be relieved into C
--   Latest d m p l C i          of the machines outside C with at least d blocks, none has the first of its last d later than i
--   Level d m B p x l           each machine with at least d blocks is spent
use Rattle.std.specs.Prelude.{◌≡◌, ℕ, ◌+◌, ◌-◌, ◌<◌, ◌≤◌, Bool, true, false}
use Rattle.theory.specs.ShareOuts.{Demand}
use Rattle.shares.specs.Reaches.{Within}

abbrev pub ClosedBy : ℕ → ℕ → Demand → (ℕ → ℕ → ℕ) → (ℕ → Bool) → Type 0
ClosedBy d m B x S = (b i j : ℕ) → b < B.batches → i < m → j < m → S i ≡ true → d ≤ x b i → B.holds b j ≡ true → S j ≡ true

pub record Spent (d m : ℕ) (B : Demand) (p x : ℕ → ℕ → ℕ) (l : ℕ → ℕ) (C : ℕ → Bool) (i : ℕ) : Type 0 where
  pub set : ℕ → Bool
  pub has_it : set i ≡ true
  pub inside : Within set C
  pub closed : ClosedBy d m B x set
  pub full : (q : ℕ) → q < m → set q ≡ true → p i (l i - d + 1) ≤ p q (l q + d)

pub record Exhausted (d m : ℕ) (B : Demand) (p x : ℕ → ℕ → ℕ) (l : ℕ → ℕ) (C : ℕ → Bool) : Type 0 where
  pub low : (k : ℕ) → C k ≡ true → k < m
  pub closed : ClosedBy d m B x C
  pub far : (i q : ℕ) → i < m → q < m → C i ≡ false → d ≤ l i → C q ≡ true → p i (l i - d + 1) ≤ p q (l q + d)
  pub spent : (i : ℕ) → i < m → C i ≡ true → d ≤ l i → Spent d m B p x l C i

abbrev pub Latest : ℕ → ℕ → (ℕ → ℕ → ℕ) → (ℕ → ℕ) → (ℕ → Bool) → ℕ → Type 0
Latest d m p l C i = (q : ℕ) → q < m → d ≤ l q → C q ≡ false → p q (l q - d + 1) ≤ p i (l i - d + 1)

abbrev pub Level : ℕ → ℕ → Demand → (ℕ → ℕ → ℕ) → (ℕ → ℕ → ℕ) → (ℕ → ℕ) → Type 0
Level d m B p x l = (i : ℕ) → i < m → d ≤ l i → Spent d m B p x l (λ _. true) i
