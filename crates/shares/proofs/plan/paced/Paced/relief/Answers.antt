use Rattle.std.proofs.Common.{◌+◌, ◌-◌, refl, sym, arith}
use Rattle.books.specs.Views.{machines_in}
use Rattle.shares.specs.Marks.{machine_at, mark_of}
use Rattle.shares.specs.Plans.{load_at}
use Rattle.shares.proofs.Ordering.{not_later_marks}
use Rattle.shares.proofs.Planned.{load_few}
use Rattle.shares.proofs.plan.paced.Paced.relief.Goals as goal

pub earliest-requires-clause-few : goal.earliest-requires-clause-few
earliest-requires-clause-few g c = omega (arith, c.requires.laden, load_few c.args.self.plan.now c.args.i c.requires.stands)

pub returns-then-not-is_helped-clause-finds_none_only_where_none_helps :
    goal.returns-then-not-is_helped-clause-finds_none_only_where_none_helps
returns-then-not-is_helped-clause-finds_none_only_where_none_helps g c =
    let p = c.args.self.plan.now in
    let ms = machines_in p.book in
    let table = g.P.Pace.table c.args.self.pace.now in
    let i = c.args.i in
    let j = c.in_ok-j.j in
    let past = not_later_marks p.book i j (mark_of table (machine_at ms i) (load_at p i - p.width + 1)) (mark_of table (machine_at ms j) (load_at p j + p.width))
    c.requires.stands (c.requires.stand j c.in_ok-j.ensures.finds_one_of_them) refl refl (sym c.if-not-is_helped.ensures.tells_whether_it_helps) in
    λ k t. omega (arith, past, c.in_ok-j.ensures.finds_the_earliest k t)
