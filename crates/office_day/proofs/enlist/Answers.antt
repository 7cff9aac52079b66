use Rattle.office_day.specs.Day.{enlist_alike}
use Rattle.planner.specs.States.{in_muster}
use Rattle.office_day.proofs.Tried.{tried_by}
use Rattle.office_day.proofs.enlist.Goals as goal

pub returns : goal.returns
returns g c =
    let e = c.enlist.ensures in
    record { puts_the_call = tried_by in_muster (enlist_alike c.args.number) _ _ _ e.refuses_by_the_first_check_that_applies e.changes_nothing_where_refused e.adds_the_machine_where_accepted }
