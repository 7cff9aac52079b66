use Rattle.books.specs.Calls.{Drop}
use Rattle.planner.specs.States.{in_book}
use Rattle.office_day.proofs.Tried.{tried_by}
use Rattle.office_day.proofs.drop_blocks.Goals as goal

pub returns : goal.returns
returns g c =
    let e = c.drop.ensures in
    record { puts_the_call = tried_by in_book (Drop c.args.batch c.args.blocks) _ _ _ e.refuses_by_the_first_check_that_applies e.changes_nothing_where_refused e.takes_the_blocks_where_accepted }
