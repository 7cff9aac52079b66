-- Numbers: their ranges, and lists of them as the machines and the batches of a book have them.
--   among n ns            n is one of ns
--   ascending ns          each number is below the next one
--   outside low high v    v is below low or above high
--   bad_machine_number n, bad_ticks n, bad_lot n, bad_backlog n, bad_batch_number n, bad_blocks n    n is outside its range
--   Found n ns i          n stands at the place i
--   Missing n ns i        n is none of ns, and would stand at the place i
use Rattle.std.specs.Prelude.{◌≡◌, ℕ, ◌<◌, ◌≤◌, Bool, true, ◌&&◌, ◌||◌, List, [], ◌∷◌, length, ◌==◌, nat_lt, slice_index, slice_index_or}
use Rattle.std.specs.List.{list_any}

abbrev pub among : ℕ → List ℕ → Bool
among n ns = list_any (λ k. k == n) ns

-- the list goes on upward from n
abbrev pub rising : ℕ → List ℕ → Bool
rising n [] = true
rising n (k ∷ ks) = nat_lt n k && rising k ks

abbrev pub ascending : List ℕ → Bool
ascending [] = true
ascending (n ∷ ns) = rising n ns

abbrev pub outside : ℕ → ℕ → ℕ → Bool
outside low high v = nat_lt v low || nat_lt high v

-- the ranges of what is handed in
abbrev pub bad_machine_number : ℕ → Bool
bad_machine_number n = outside 1 9999 n

abbrev pub bad_ticks : ℕ → Bool
bad_ticks n = outside 1 9999 n

abbrev pub bad_lot : ℕ → Bool
bad_lot n = outside 1 999 n

abbrev pub bad_backlog : ℕ → Bool
bad_backlog n = outside 0 999999 n

abbrev pub bad_batch_number : ℕ → Bool
bad_batch_number n = outside 1 99999 n

abbrev pub bad_blocks : ℕ → Bool
bad_blocks n = outside 1 99999 n

pub record Found (n : ℕ) (ns : List ℕ) (i : ℕ) : Type 0 where
  pub within : i < length ns
  pub here : slice_index_or ns i 0 ≡ n
  pub lower : (k : ℕ) → k < i → slice_index ns k < n

pub record Missing (n : ℕ) (ns : List ℕ) (i : ℕ) : Type 0 where
  pub within : i ≤ length ns
  pub lower : (k : ℕ) → k < i → slice_index ns k < n
  pub higher : (k : ℕ) → i ≤ k → k < length ns → n < slice_index ns k
