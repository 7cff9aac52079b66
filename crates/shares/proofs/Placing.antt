-- All blocks of a batch on one holder.
use Rattle.std.proofs.Common.{◌≡◌, ℕ, ◌+◌, ◌<◌, ◌≤◌, true, eqb, length, inl, inr, arith}
use Rattle.std.proofs.lemmas.Bool.{cases_eq}
use Rattle.places.specs.Has.{has}
use Rattle.theory.specs.Sums.{total, only}
use Rattle.theory.specs.Moves.{at}
use Rattle.theory.proofs.Sums.{total_eq, total_add, total_le, total_more, total_part, total_zero, only_here, only_off, term_le}
use Rattle.theory.proofs.Moves.{at_row, at_other, at_held}
use Rattle.books.specs.declared.book.Book.{Book}
use Rattle.books.specs.Ranges.{holders_at}
use Rattle.books.specs.Views.{machines_in, batches_in}
use Rattle.shares.specs.Tables.{batch_at, Placed}
use Rattle.shares.proofs.Cut.{total_cut}
use Rattle.shares.proofs.Facts.{all_blocks_few, few_batches}

pub placed_none : (k : Book) (x : ℕ → ℕ → ℕ) → ((b i : ℕ) → x b i ≡ 0) → Placed k 0 x
placed_none k x none = record {
  elsewhere = λ b i _. none b i;
  adds_up = λ b h. absurd (omega arith);
  not_yet = λ b i _. none b i;
}

module _ {k : Book} {n : ℕ} {x x' : ℕ → ℕ → ℕ} (i w : ℕ) (pl : Placed k n x) (is : w ≡ (batch_at (batches_in k) n).blocks)
    (gave : (b q : ℕ) → x' b q ≡ x b q + at n i b q w) (li : i < length (machines_in k)) (held : has (holders_at (batches_in k) n) i ≡ true) where
  rows : (b : ℕ) → total (length (machines_in k)) (x' b) ≡ total (length (machines_in k)) (x b) + only (eqb b n) w
  rows b = omega (arith, total_eq (length (machines_in k)) _ _ (λ q _. gave b q), total_add (length (machines_in k)) (x b) (λ q. at n i b q w), at_row (length (machines_in k)) n i b w li)

  pub placed_more : Placed k (n + 1) x'
  placed_more = record {
    elsewhere = λ b q e. omega (arith, gave b q, pl.elsewhere b q e, at_held (λ b q. has (holders_at (batches_in k) b) q) n i b q w held e);
    adds_up = λ b lb. elim (cases_eq b n) [
      | inl e ↦ rw e (omega (arith, is, rows n, only_here n w, total_eq (length (machines_in k)) (x n) (λ _. 0) (λ q _. pl.not_yet n q (omega arith)), total_zero (length (machines_in k))))
      | inr d ↦ omega (arith, rows b, only_off b n w d, pl.adds_up b (omega arith))
    ];
    not_yet = λ b q lb. omega (arith, gave b q, pl.not_yet b q (omega arith), at_other n i b q w (omega arith));
  }

-- there is room for the next batch
pub placed_few : {k : Book} {n : ℕ} {x : ℕ → ℕ → ℕ} → Placed k n x → (i : ℕ) → i < length (machines_in k) → n < length (batches_in k)
    → total 128 (λ b. x b i) + (batch_at (batches_in k) n).blocks ≤ 1000000
placed_few {k} {n} {x} pl i li ln =
    omega (
      arith,
      total_cut (λ b. x b i) n 128 (omega (arith, few_batches k)) (λ b l. pl.not_yet b i l),
      total_le n (λ b. x b i) (λ b. (batch_at (batches_in k) b).blocks) (λ b l. omega (arith, pl.adds_up b l, term_le (length (machines_in k)) (x b) i li)),
      total_more n (λ b. (batch_at (batches_in k) b).blocks),
      total_part (λ b. (batch_at (batches_in k) b).blocks) (n + 1) (length (batches_in k)) (omega arith),
      all_blocks_few k,
    )
