use Rattle.std.proofs.Common.{◌∙◌}
use Rattle.planner.proofs.Standings.{load_is}
use Rattle.planner.proofs.Reading.{machine_once}
use Rattle.planner.proofs.settled_book.SettledBook.load.Goals as goal

pub returns-clause-gives_the_sum_of_its_shares : goal.returns-clause-gives_the_sum_of_its_shares
returns-clause-gives_the_sum_of_its_shares g c i l is =
    let k = c.args.self.now.plan in
    let same = machine_once k.book c.args.machine i c.in_ok-place.place l is (rw c.book.ensures.lends_the_book at c.in_ok-place.ensures.finds_the_place) in
    c.load.ensures.gives_the_load ∙ rw same (load_is k c.in_ok-place.place)
