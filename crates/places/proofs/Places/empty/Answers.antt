use Rattle.places.proofs.Digits.{has_none}
use Rattle.places.proofs.Places.empty.Goals as goal

pub returns : goal.returns
returns c = record { holds_no_place = has_none }
