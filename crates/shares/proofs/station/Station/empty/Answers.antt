use Rattle.std.proofs.Common.{refl}
use Rattle.shares.specs.Stations.{zero_row, no_blocks}
use Rattle.shares.proofs.station.Station.empty.Goals as goal

pub invariant_of-result : goal.invariant_of-result
invariant_of-result c = record { long = refl; summed = no_blocks }

pub returns-clause-has_no_block : goal.returns-clause-has_no_block
returns-clause-has_no_block c = zero_row 128
