use Rattle.std.proofs.Common.{◌≡◌, ℕ, ◌<◌, length}
use Rattle.shares.specs.Stations.{station_at, Led}
use Rattle.shares.proofs.plan.settle.find_all_links.Given as goal

abbrev pub invariant-loop-station : goal.invariant-loop-station
invariant-loop-station l =
    (length l.stations ≡ 32) × ((i : ℕ) → (station_at l.stations i).blocks ≡ (station_at l.initial.stations i).blocks)
    × ((i : ℕ) → i < l.station-index → Led l.linking (station_at l.stations i))
