use Rattle.std.proofs.Common.{◌≡◌, ℕ, ◌<◌, ◌≤◌, true, length}
use Rattle.places.specs.Has.{has}
use Rattle.books.specs.Ranges.{holders_at}
use Rattle.shares.specs.Cells.{nth}
use Rattle.shares.proofs.station.Station.widest_link.Given as goal

abbrev pub invariant-loop-b : goal.invariant-loop-b
invariant-loop-b l =
    (0 < l.most → (l.widest < length l.linking.batches.now) × (nth l.self.blocks l.widest ≡ l.most) × (has (holders_at l.linking.batches.now l.widest) l.j ≡ true))
    × ((b : ℕ) → b < l.b → has (holders_at l.linking.batches.now b) l.j ≡ true → nth l.self.blocks b ≤ l.most)
