use Rattle.std.proofs.Common.{◌≡◌, ℕ, ◌&&◌, leb}
use Rattle.places.specs.Has.{has}
use Rattle.books.specs.Ranges.{some_below, holders_at}
use Rattle.shares.specs.Cells.{nth}
use Rattle.shares.proofs.station.Station.led_to.Given as goal

abbrev pub invariant-loop-b : goal.invariant-loop-b
invariant-loop-b l = (j : ℕ) → has l.places j ≡ some_below (l.b) (λ b. leb l.linking.width (nth l.self.blocks b) && has (holders_at l.linking.batches.now b) j)
