use Rattle.places.proofs.Digits.{same_places_decides}
use Rattle.places.proofs.PlacesPartialEq.eq.Goals as goal

pub returns-clause-tells_whether_both_hold_the_same_places : goal.returns-clause-tells_whether_both_hold_the_same_places
returns-clause-tells_whether_both_hold_the_same_places c = same_places_decides c.args.self.now c.args.other.now
