-- How many places sets have.
use Rattle.std.proofs.Common.{◌≡◌, ℕ, ◌<◌, ◌≤◌, Bool, true, false, not, ◌&&◌, eqb, sym, refl, ◌∙◌, arith}
use Rattle.std.proofs.lemmas.Bool.{eq-eqb}
use Rattle.theory.specs.Sums.{total, only}
use Rattle.theory.proofs.Sums.{total_le, total_lt}
use Rattle.places.specs.Has.{size}
use Rattle.shares.specs.Reaches.{Within}

only_le : (s t : Bool) → (s ≡ true → t ≡ true) → only s 1 ≤ only t 1
only_le s t h = grind arith

only_lt : (s t : Bool) → s ≡ false → t ≡ true → only s 1 < only t 1
only_lt s t e f = rw (e, f) (omega arith)

pub size_le : (S T : ℕ → Bool) → Within S T → size S ≤ size T
size_le S T within = total_le 32 _ _ (λ k _. only_le (S k) (T k) (within k))

pub size_lt : (S T : ℕ → Bool) → Within S T → (i : ℕ) → i < 32 → S i ≡ false → T i ≡ true → size S < size T
size_lt S T within i l out held = total_lt 32 _ _ i l (λ k _. only_le (S k) (T k) (within k)) (only_lt (S i) (T i) out held)

pub without_within : (S T : ℕ → Bool) (i : ℕ) → ((k : ℕ) → S k ≡ (T k && not (eqb k i))) → Within S T
without_within S T i less k e = first (T k) (eqb k i) (sym (less k) ∙ e)
  where
    first : (s t : Bool) → (s && not t) ≡ true → s ≡ true
    first s t e = grind arith

-- a set without one of its places
pub size_without : (S T : ℕ → Bool) (i : ℕ) → i < 32 → T i ≡ true → ((k : ℕ) → S k ≡ (T k && not (eqb k i))) → size S < size T
size_without S T i l held less = size_lt S T (without_within S T i less) i l (less i ∙ last (T i) (eqb i i) (eq-eqb i i refl)) held
  where
    last : (s t : Bool) → t ≡ true → (s && not t) ≡ false
    last s t e = grind arith

all_places : total 32 (λ _. 1) ≡ 32
unfolding total
all_places = refl

pub size_few : (S : ℕ → Bool) → size S ≤ 32
size_few S = omega (arith, total_le 32 (λ k. only (S k) 1) (λ _. 1) (λ k _. only_le (S k) true (λ _. refl)), all_places)
