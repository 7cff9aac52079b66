-- What the type of a plan keeps, summed up.
use Rattle.std.proofs.Common.{◌≡◌, ℕ, ◌+◌, ◌<◌, ◌≤◌, sym, ◌∙◌, arith}
use Rattle.theory.specs.Sums.{total}
use Rattle.theory.proofs.Sums.{total_eq, total_swap, term_le, two_le}
use Rattle.books.specs.Views.{batches_in}
use Rattle.shares.specs.declared.plan.Plan.{Plan}
use Rattle.shares.specs.Stations.{station_at}
use Rattle.shares.specs.Tables.{batch_at}
use Rattle.shares.specs.Plans.{machines_at, batches_at, share, load_at}
use Rattle.shares.proofs.Facts.{few_batches, all_blocks_are, past_none}
use Rattle.shares.proofs.Cut.{total_cut}

module _ (p : Plan) where
  -- a machine's load is the sum of its blocks of the batches that stand
  pub load_sum : (i : ℕ) → load_at p i ≡ total (batches_at p) (λ b. share p b i)
  load_sum i = (station_at p.stations i).summed ∙ total_cut (λ b. share p b i) (batches_at p) 128 (few_batches p.book)
      (λ b l. p.elsewhere b i (past_none (batches_in p.book) b i l))

  by_rows : total (batches_at p) (λ b. total (machines_at p) (share p b)) ≡ p.book.blocks
  by_rows = total_eq (batches_at p) _ (λ b. (batch_at (batches_in p.book) b).blocks) p.adds_up ∙ all_blocks_are p.book

  pub loads_are : total (machines_at p) (load_at p) ≡ p.book.blocks
  loads_are =
      total_eq (machines_at p) (load_at p) (λ i. total (batches_at p) (λ b. share p b i)) (λ i _. load_sum i)
      ∙ sym (total_swap (machines_at p) (batches_at p) (share p)) ∙ by_rows

  all_loads : total (machines_at p) (load_at p) ≤ 1000000
  all_loads = omega (arith, loads_are, p.book.limited)

  pub load_few : (i : ℕ) → i < machines_at p → load_at p i ≤ 1000000
  load_few i l = omega (arith, all_loads, term_le (machines_at p) (load_at p) i l)

  pub two_loads : (i j : ℕ) → i < machines_at p → j < machines_at p → (i ≡ j → ⊥) → load_at p i + load_at p j ≤ 1000000
  two_loads i j li lj ne = omega (arith, all_loads, two_le (machines_at p) (load_at p) i j li lj ne)

  pub share_within : (b i : ℕ) → b < batches_at p → share p b i ≤ load_at p i
  share_within b i l = omega (arith, load_sum i, term_le (batches_at p) (λ c. share p c i) b l)

  pub two_shares : (b i j : ℕ) → b < batches_at p → i < machines_at p → j < machines_at p → (i ≡ j → ⊥)
      → share p b i + share p b j ≤ 1000000
  two_shares b i j l li lj ne = omega (arith, share_within b i l, share_within b j l, two_loads i j li lj ne)
