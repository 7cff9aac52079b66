use Rattle.planner.proofs.Reading.{machine_once, batch_once}
use Rattle.planner.proofs.settled_book.SettledBook.share.Goals as goal

pub returns-clause-gives_the_share : goal.returns-clause-gives_the_share
returns-clause-gives_the_share g c b i lb is-batch li is-machine =
    let k = c.args.self.now.plan in
    let lent = c.book-book.ensures.lends_the_book in
    let same-batch = batch_once k.book c.args.batch b c.in_ok-batch.batch lb is-batch (rw lent at c.in_ok-batch.ensures.finds_the_place) in
    let same-machine = machine_once k.book c.args.machine i c.in_ok-place.place li is-machine (rw lent at c.in_ok-place.ensures.finds_the_place) in
    rw (same-batch, same-machine) c.share.ensures.gives_the_share
