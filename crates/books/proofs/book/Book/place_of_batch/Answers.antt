use Rattle.books.specs.Views.{machines_in, batches_in}
use Rattle.books.proofs.Tables.{numbers_viewed}
use Rattle.books.proofs.book.Book.place_of_batch.Goals as goal

pub returns-clause-refuses_just_where_it_is_unknown : goal.returns-clause-refuses_just_where_it_is_unknown
returns-clause-refuses_just_where_it_is_unknown c =
    let k = c.args.self.now in
    rw (numbers_viewed (machines_in k) (batches_in k), ← c.batches.ensures.lends_the_batches)
    (c.place_of.ensures.refuses_just_where_there_is_none (rw c.batches.ensures.lends_the_batches k.ascends))
