use Rattle.std.proofs.Common.{◌≡◌, length}
use Rattle.shares.specs.Stations.{cell}
use Rattle.shares.specs.Tables.{Placed}
use Rattle.shares.proofs.plan.settle.place.Given as goal

abbrev pub invariant-loop-b : goal.invariant-loop-b
invariant-loop-b l = (length l.stations ≡ 32) × Placed l.book l.b (cell l.stations)
