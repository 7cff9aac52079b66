use Rattle.std.proofs.Common.{◌+◌, ◌-◌, ◌<◌, refl, arith}
use Rattle.places.specs.Has.{has}
use Rattle.theory.specs.Moves.{Helps}
use Rattle.theory.proofs.Falls.{helps_apart, helps_less, marks_fall}
use Rattle.books.specs.Views.{machines_in}
use Rattle.shares.specs.Marks.{machine_at, mark_of}
use Rattle.shares.specs.Plans.{machines_at, load_at, values_in}
use Rattle.shares.proofs.Facts.{few_machines}
use Rattle.shares.proofs.Ordering.{later_marks, marks_rise}
use Rattle.shares.proofs.Sizes.{size_lt}
use Rattle.shares.proofs.Exhausting.{exhausted_more, exhausted_moved, exhausted_same}
use Rattle.shares.proofs.plan.Plan.relieve.Goals as goal

pub returns-in_default-clause-exhausts_more_or_keeps_them_exhausted :
    goal.returns-in_default-clause-exhausts_more_or_keeps_them_exhausted
returns-in_default-clause-exhausts_more_or_keeps_them_exhausted g c =
    let o = c.reach_past.ensures.reaches_past_the_exhausted in
    let none = rw (c.paced.ensures.reads_the_plan, c.paced.ensures.goes_by_the_pace) at c.in_default.ensures.finds_none_only_where_none_helps in
    exhausted_more (has c.reach_past.result.0) c.args.i c.requires.spent o.low o.closed o.has_exhausted (λ q _ e f. none q (o.rest q e f)) c.requires.latest

pub returns-in_default-clause-exhausts_one_more_at_least : goal.returns-in_default-clause-exhausts_one_more_at_least
returns-in_default-clause-exhausts_one_more_at_least g c =
    let o = c.reach_past.ensures.reaches_past_the_exhausted in
    size_lt (has c.args.exhausted) (has c.reach_past.result.0) o.has_exhausted c.args.i
    (omega (arith, c.requires.stands, few_machines c.args.self.now.book)) c.requires.not_exhausted (o.parts c.args.i o.has_start).0

pub returns : goal.returns
returns g c =
    let k = c.args.self.now in
    let ms = machines_in k.book in
    let table = g.P.Pace.table c.args.pace.now in
    let m = machines_at k in
    let p = values_in table k in
    let l = load_at k in
    let i = c.args.i in
    let j = c.in-Some.j in
    let want = c.in-Some.want in
    let got = c.augment.result in
    let o = c.reach_past.ensures.reaches_past_the_exhausted in
    let in_rest = c.in-Some.ensures.finds_one_of_them in
    let helped = rw (c.paced.ensures.reads_the_plan, c.paced.ensures.goes_by_the_pace) at c.in-Some.ensures.finds_one_that_helps in
    let wide = rw c.paced.ensures.reads_the_plan at c.in-Some.ensures.gives_the_width_at_least in
    let few = rw c.paced.ensures.reads_the_plan at c.in-Some.ensures.gives_the_load_at_most in
    let lj = o.low j (o.parts j in_rest).0 in
    let e = c.augment.ensures in
    let rises = marks_rise k.book table (g.met.P.Pace.never_falls c.args.pace.now) in
    let wanted : Helps p l i j want = later_marks k.book i j (mark_of table (machine_at ms i) (l i - want + 1)) (mark_of table (machine_at ms j) (l j + want)) c.requires.stands lj refl refl helped in
    let helps = helps_less m p rises l i j c.requires.stands lj got want e.moves_at_most_as_many_as_wanted few wanted in
    let enough = e.moves_the_width_where_it_is_wanted wide in
    let some : 0 < got = omega (arith, k.wide, enough) in
    record {
      keeps_the_book = e.keeps_the_book;
      keeps_the_width = e.keeps_the_width;
      lowers_the_total_of_marks_or_changes_nothing = marks_fall m p rises l i j c.requires.stands lj _ got some helps e.carries_the_loads;
      exhausts_more_or_keeps_them_exhausted = exhausted_same table e.keeps_the_book e.keeps_the_width (exhausted_moved i j got rises c.requires.spent e.keeps_what_lies_outside_the_reach o.apart e.carries_the_loads
          c.requires.not_exhausted (o.parts j in_rest).1 (helps_apart m p rises l i j c.requires.stands lj got some helps) c.requires.stands lj k.wide enough
          (omega (arith, e.moves_at_most_as_many_as_wanted, few)) helps);
      exhausts_one_more_at_least = tt;
    }
