use Rattle.std.proofs.Common.{◌≡◌, ◌-◌, ◌≤◌, true, map, length}
use Rattle.books.specs.Numbers.{ascending}
use Rattle.books.proofs.Orders.{Between}
use Rattle.books.proofs.lookup.find.Given as goal

abbrev pub invariant-loop-low : goal.invariant-loop-low
invariant-loop-low g l =
    (l.low ≤ l.high) × (l.high ≤ length l.records)
    × (ascending (map g.R.Numbered.key l.records) ≡ true → Between l.number (map g.R.Numbered.key l.records) l.low l.high)

abbrev pub decreases-loop-low : goal.decreases-loop-low
decreases-loop-low g l = l.high - l.low
