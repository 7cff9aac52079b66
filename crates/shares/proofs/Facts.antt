-- What the type of a book keeps, by places.
use Rattle.std.proofs.Common.{◌≡◌, ℕ, zero, suc, ◌<◌, ◌≤◌, Bool, true, false, List, [], ◌∷◌, length, get_or, sym, refl, ap, ◌∙◌, inl, inr, arith}
use Rattle.std.proofs.lemmas.List.{length-map, get_or_default, get_or_past}
use Rattle.std.proofs.lemmas.List.Sums.{sum_by-cons}
use Rattle.std.proofs.lemmas.Bool.{and_parts, or_cases, not-true, both_ways}
use Rattle.places.specs.Has.{has}
use Rattle.places.proofs.Digits.{has_none}
use Rattle.pace.specs.Moments.{Fit}
use Rattle.theory.specs.Sums.{total}
use Rattle.theory.proofs.Sums.{total_none, total_first}
use Rattle.books.specs.declared.machine.Machine.{Machine}
use Rattle.books.specs.declared.batch.Batch.{Batch}
use Rattle.books.specs.declared.book.Book.{Book}
use Rattle.books.specs.Ranges.{some_below, no_batch, machine_in_range, batch_in_range, holders_at, blocks_in}
use Rattle.books.specs.Standing.{machine_numbers}
use Rattle.books.specs.Views.{machines_in, batches_in}
use Rattle.books.proofs.Orders.{ascending_lt, key_at}
use Rattle.books.proofs.Records.{all_at}
use Rattle.books.proofs.Changes.{in_range}
use Rattle.shares.specs.Marks.{no_machine, machine_at}
use Rattle.shares.specs.Tables.{batch_at}

-- a test that some number passes, with the number
pub some_where : (n : ℕ) (p : ℕ → Bool) → some_below n p ≡ true → (k : ℕ) × (k < n) × (p k ≡ true)
some_where zero p e = absurd (both_ways false refl e)
some_where (suc n) p e = elim (or_cases (p n) (some_below n p) e) [
  | inl here ↦ (n, omega arith, here)
  | inr below ↦ let r = some_where n p below in (r.0, omega (arith, r.1), r.2)
]

blocks_total : (bs : List Batch) → blocks_in bs ≡ total (length bs) (λ b. (batch_at bs b).blocks)
blocks_total [] = sym (total_none _)
blocks_total (b ∷ bs) = omega (arith, sum_by-cons (λ c. c.blocks) b bs, blocks_total bs, total_first (length bs) (λ i. (batch_at (b ∷ bs) i).blocks))

-- no machine holds a batch past the last one
pub past_none : (bs : List Batch) (b i : ℕ) → length bs ≤ b → has (holders_at bs b) i ≡ false
past_none bs b i l = ap (λ (a : Batch). has a.holders i) (get_or_past bs b no_batch l) ∙ has_none i

module _ (k : Book) where
  pub few_machines : length (machines_in k) ≤ 32
  few_machines = k.roster.few

  pub few_batches : length (batches_in k) ≤ 128
  few_batches = k.few

  pub number_at : (i : ℕ) → i < length (machines_in k) → get_or (machine_numbers (machines_in k)) i 0 ≡ (machine_at (machines_in k) i).number
  number_at i l = key_at (λ (m : Machine). m.number) (machines_in k) i (machine_at (machines_in k) i) l (get_or_default (machines_in k) i _ _ l)

  pub numbers_rise : (i j : ℕ) → i < j → j < length (machines_in k) → (machine_at (machines_in k) i).number < (machine_at (machines_in k) j).number
  numbers_rise i j l h =
      let long = length-map (machines_in k) (λ (m : Machine). m.number) in
      omega (arith, ascending_lt (machine_numbers (machines_in k)) k.roster.ascends i j l (omega (arith, long)), number_at i (omega arith), number_at j h)

  in_ranges : (i : ℕ) → i < length (machines_in k) → machine_in_range (machine_at (machines_in k) i) ≡ true
  in_ranges i l = all_at machine_in_range (machines_in k) i no_machine k.roster.in_range l

  pub number_small : (i : ℕ) → i < length (machines_in k) → (machine_at (machines_in k) i).number < 10000
  number_small i l =
      let r = and_parts _ _ (and_parts _ _ (in_ranges i l)).0 in
      omega (arith, (in_range 1 9999 (machine_at (machines_in k) i).number (not-true _ r.0)).1)

  pub terms_fit : (i : ℕ) → i < length (machines_in k) → Fit (machine_at (machines_in k) i).terms
  terms_fit i l =
      let t = (machine_at (machines_in k) i).terms in
      let r = and_parts _ _ (in_ranges i l) in
      let a = and_parts _ _ r.0 in
      let b = and_parts _ _ r.1 in
      record {
        ticks = omega (arith, (in_range 1 9999 t.ticks (not-true _ a.1)).1);
        lot = omega (arith, (in_range 1 999 t.lot (not-true _ b.0)).1);
        backlog = omega (arith, (in_range 0 999999 t.backlog (not-true _ b.1)).1);
      }

  -- some machine holds each batch
  pub some_holder : (b : ℕ) → b < length (batches_in k) → (i : ℕ) × (i < length (machines_in k)) × (has (holders_at (batches_in k) b) i ≡ true)
  some_holder b l = some_where _ _ (and_parts _ _ (all_at (batch_in_range (length (machines_in k))) (batches_in k) b _ k.in_range l)).1

  pub all_blocks_are : total (length (batches_in k)) (λ b. (batch_at (batches_in k) b).blocks) ≡ k.blocks
  all_blocks_are = sym (blocks_total (batches_in k)) ∙ k.summed

  pub all_blocks_few : total (length (batches_in k)) (λ b. (batch_at (batches_in k) b).blocks) ≤ 1000000
  all_blocks_few = omega (arith, all_blocks_are, k.limited)
