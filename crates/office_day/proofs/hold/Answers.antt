use Rattle.books.specs.Calls.{Hold}
use Rattle.planner.specs.States.{in_book}
use Rattle.office_day.proofs.Tried.{tried_by}
use Rattle.office_day.proofs.hold.Goals as goal

pub returns : goal.returns
returns g c =
    let e = c.hold.ensures in
    record { puts_the_call = tried_by in_book (Hold c.args.batch c.args.blocks c.args.holders.now) _ _ _ e.refuses_by_the_first_check_that_applies e.changes_nothing_where_refused e.adds_the_blocks_where_accepted }
