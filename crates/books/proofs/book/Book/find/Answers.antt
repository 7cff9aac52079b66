use Rattle.std.proofs.lemmas.Result.{err_from_is_err_and}
use Rattle.books.proofs.Changes.{read_at, missing_at}
use Rattle.books.proofs.book.Book.find.Goals as goal

pub returns-in_err-at-clause-tells_what_stands : goal.returns-in_err-at-clause-tells_what_stands
returns-in_err-at-clause-tells_what_stands c =
    let p = err_from_is_err_and c.from_residual.result c.from_residual.ensures.1 in
    rw p.1 (missing_at c.args.self.now c.batches-batches.ensures.lends_the_batches c.in_err-at.ensures.finds_the_place)

pub returns-clause-tells_what_stands : goal.returns-clause-tells_what_stands
returns-clause-tells_what_stands c =
    read_at c.args.self.now c.batches-batches.ensures.lends_the_batches _ c.in_ok-at.ensures.stays_within_the_records c.in_ok-at.ensures.finds_the_place
