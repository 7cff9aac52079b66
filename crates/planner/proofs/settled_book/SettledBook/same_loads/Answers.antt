use Rattle.shares.specs.Plans.{share}
use Rattle.planner.proofs.Standings.{shared}
use Rattle.planner.proofs.Laws.{equal_books}
use Rattle.planner.proofs.settled_book.SettledBook.same_loads.Goals as goal

pub returns-clause-equal_books_have_equal_loads : goal.returns-clause-equal_books_have_equal_loads
returns-clause-equal_books_have_equal_loads g c alike =
    let k = c.args.self.now.plan in
    let k' = c.args.other.now.plan in
    let pace = c.args.self.now.pace in
    let pace' = c.args.other.now.pace in
    c.loads_agree.ensures.tells_whether_numbers_and_loads_agree.1
    (equal_books k.book k'.book (g.P.Pace.table pace) (g.Q.Pace.table pace') (g.met.P.Pace.never_falls pace) (share k) (share k') (shared k) (shared k') alike)
