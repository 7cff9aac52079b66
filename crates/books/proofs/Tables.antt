-- The batches of a book: what a write at one place leaves of their holders and their view.
use Rattle.std.proofs.Common.{◌≡◌, ℕ, zero, suc, ◌<◌, true, List, [], ◌∷◌, ◌++◌, map, take, drop, set, sym, refl, ap, ◌∙◌, arith}
use Rattle.std.specs.List.{insert, remove}
use Rattle.std.proofs.lemmas.List.{map-append, take-map, drop-map}
use Rattle.std.proofs.lemmas.List.Sums.{sum_by-cons}
use Rattle.std.proofs.lemmas.Bool.{both_ways}
use Rattle.places.specs.Has.{has}
use Rattle.places.proofs.Digits.{has_none}
use Rattle.books.specs.declared.machine.Machine.{Machine}
use Rattle.books.specs.declared.batch.Batch.{Batch}
use Rattle.books.specs.Standing.{batch_numbers, all_blocks}
use Rattle.books.specs.Ranges.{Manned, blocks_in}
use Rattle.books.specs.Views.{batch_of}

-- the view keeps numbers and blocks
pub numbers_viewed : (ms : List Machine) (bs : List Batch) → batch_numbers (map (batch_of ms) bs) ≡ map (λ b. b.number) bs
numbers_viewed ms [] = refl
numbers_viewed ms (b ∷ bs) = ap (λ ns. b.number ∷ ns) (numbers_viewed ms bs)

pub blocks_viewed : (ms : List Machine) (bs : List Batch) → all_blocks (map (batch_of ms) bs) ≡ blocks_in bs
blocks_viewed ms [] = refl
blocks_viewed ms (b ∷ bs) = omega (arith, sum_by-cons (λ h. h.blocks) (batch_of ms b) (map (batch_of ms) bs), sum_by-cons (λ c. c.blocks) b bs, blocks_viewed ms bs)

pub map_inserted : {X Y : Type 0} (f : X → Y) (xs : List X) (i : ℕ) (x : X) → map f (insert xs i x) ≡ insert (map f xs) i (f x)
map_inserted f xs i x =
    map-append f (take i xs) (x ∷ drop i xs) ∙ ap (λ ys. ys ++ f x ∷ map f (drop i xs)) (sym (take-map f i xs))
    ∙ ap (λ ys. take i (map f xs) ++ f x ∷ ys) (sym (drop-map f i xs))

pub map_removed : {X Y : Type 0} (f : X → Y) (xs : List X) (i : ℕ) → map f (remove xs i) ≡ remove (map f xs) i
map_removed f xs i =
    map-append f (take i xs) (drop (suc i) xs) ∙ ap (λ ys. ys ++ map f (drop (suc i) xs)) (sym (take-map f i xs))
    ∙ ap (λ ys. take i (map f xs) ++ ys) (sym (drop-map f (suc i) xs))

-- all holders are machines
module _ (n : ℕ) where
  pub manned_none : Manned n []
  manned_none i k is = absurd (both_ways _ (has_none k) is)

  manned_next : (b : Batch) (bs : List Batch) → Manned n (b ∷ bs) → Manned n bs
  manned_next b bs each i k is = each (suc i) k is

  manned_cons : (b : Batch) (bs : List Batch) → ((k : ℕ) → has b.holders k ≡ true → k < n) → Manned n bs → Manned n (b ∷ bs)
  manned_cons b bs new each zero k is = new k is
  manned_cons b bs new each (suc i) k is = each i k is

  manned_first : (b : Batch) (bs : List Batch) → Manned n (b ∷ bs) → (k : ℕ) → has b.holders k ≡ true → k < n
  manned_first b bs each k is = each 0 k is

  pub manned_inserted : (bs : List Batch) (i : ℕ) (b : Batch) → Manned n bs → ((k : ℕ) → has b.holders k ≡ true → k < n) → Manned n (insert bs i b)
  manned_inserted bs zero b each new = manned_cons b bs new each
  manned_inserted [] (suc i) b each new = manned_cons b [] new each
  manned_inserted (c ∷ cs) (suc i) b each new =
      manned_cons c (insert cs i b) (manned_first c cs each) (manned_inserted cs i b (manned_next c cs each) new)

  pub manned_replaced : (bs : List Batch) (i : ℕ) (b : Batch) → Manned n bs → ((k : ℕ) → has b.holders k ≡ true → k < n) → Manned n (set bs i b)
  manned_replaced [] zero b each new = each
  manned_replaced [] (suc i) b each new = each
  manned_replaced (c ∷ cs) zero b each new = manned_cons b cs new (manned_next c cs each)
  manned_replaced (c ∷ cs) (suc i) b each new =
      manned_cons c (set cs i b) (manned_first c cs each) (manned_replaced cs i b (manned_next c cs each) new)

  pub manned_removed : (bs : List Batch) (i : ℕ) → Manned n bs → Manned n (remove bs i)
  manned_removed [] zero each = each
  manned_removed [] (suc i) each = each
  manned_removed (c ∷ cs) zero each = manned_next c cs each
  manned_removed (c ∷ cs) (suc i) each = manned_cons c (remove cs i) (manned_first c cs each) (manned_removed cs i (manned_next c cs each))
