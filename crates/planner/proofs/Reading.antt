-- A number names one machine and one batch.
use Rattle.std.proofs.Common.{◌≡◌, ℕ, ◌<◌, true, List, length, get_or, sym, ap, ◌∙◌, inl, inr, arith}
use Rattle.std.proofs.lemmas.List.{length-map, get_or-map}
use Rattle.std.proofs.lemmas.Bool.{cases_order}
use Rattle.books.specs.declared.machine.Machine.{Machine}
use Rattle.books.specs.declared.batch.Batch.{Batch}
use Rattle.books.specs.declared.book.Book.{Book}
use Rattle.books.specs.Numbers.{ascending, Found}
use Rattle.books.specs.Ranges.{numbers_of, no_batch}
use Rattle.books.specs.Standing.{Held, machine_numbers}
use Rattle.books.specs.Views.{machines_in, batches_in, batch_of, standing_of}
use Rattle.books.proofs.Orders.{ascending_lt}
use Rattle.shares.specs.Marks.{machine_at}
use Rattle.shares.proofs.Facts.{number_at}
use Rattle.planner.specs.ShareOuts.{held_at}
use Rattle.planner.proofs.Standings.{held_is}

-- in ascending order no number stands twice
once : (ns : List ℕ) → ascending ns ≡ true → (n i j : ℕ) → i < length ns → get_or ns i 0 ≡ n → Found n ns j → i ≡ j
once ns up n i j li is f = elim (cases_order i j) [
  | inl e ↦ e
  | inr (inl less) ↦ absurd (omega (arith, is, f.here, ascending_lt ns up i j less f.within))
  | inr (inr more) ↦ absurd (omega (arith, is, f.here, ascending_lt ns up j i more li))
]

module _ (k : Book) where
  pub machine_once : (n i j : ℕ) → i < length (machines_in k) → (machine_at (machines_in k) i).number ≡ n → Found n (machine_numbers (machines_in k)) j → i ≡ j
  machine_once n i j l is f =
      once (machine_numbers (machines_in k)) k.roster.ascends n i j (omega (arith, l, length-map (machines_in k) (λ (m : Machine). m.number))) (number_at k i l ∙ is) f

  pub batch_once : (n i j : ℕ) → i < length (standing_of k).batches → (held_at (standing_of k) i).number ≡ n → Found n (numbers_of (batches_in k)) j → i ≡ j
  batch_once n i j l is f =
      let long : i < length (batches_in k) = omega (arith, l, length-map (batches_in k) (batch_of (machines_in k))) in
      once (numbers_of (batches_in k)) k.ascends n i j (omega (arith, long, length-map (batches_in k) (λ (b : Batch). b.number)))
      (get_or-map (λ (b : Batch). b.number) (batches_in k) i no_batch 0 long ∙ sym (ap (λ (h : Held). h.number) (held_is k i long)) ∙ is) f
