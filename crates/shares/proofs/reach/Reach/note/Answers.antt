use Rattle.places.specs.Has.{has}
use Rattle.shares.proofs.Sizes.{size_without}
use Rattle.shares.proofs.reach.Reach.note.Goals as goal

pub loop-j-smaller : goal.loop-j-smaller
loop-j-smaller c =
    let e = c.in-Some.ensures in
    size_without (has c.pop_first.new.self) (has c.loop-j.left) c.in-Some.j e.gives_the_lowest_place.below e.gives_the_lowest_place.held e.takes_just_this_place
