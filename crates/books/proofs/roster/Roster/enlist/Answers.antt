use Rattle.std.proofs.Common.{List, [], sym, ap, ◌∙◌, arith}
use Rattle.std.proofs.lemmas.List.{length-take-le}
use Rattle.books.specs.declared.machine.Machine.{Machine}
use Rattle.books.specs.Ranges.{machine_in_range}
use Rattle.books.specs.Views.{machines_of}
use Rattle.books.proofs.Records.{ascending_inserted, all_inserted}
use Rattle.books.proofs.Enlisting.{with_machine_inserted}
use Rattle.books.proofs.roster.Roster.enlist.Goals as goal

pub invariant_of-self : goal.invariant_of-self
invariant_of-self c =
    let ms : List Machine = machines_of c.args.self.now in
    let added = c.insert.ensures.inserts_the_item in
    let made = c.insert.new.self in
    record {
      ascends = rw added (ascending_inserted (λ m. m.number) c.args.machine ms c.in-Err.at c.args.self.now.ascends c.in-Err.ensures.finds_the_place);
      in_range = rw added (all_inserted machine_in_range ms c.in-Err.at c.args.machine c.args.self.now.in_range (sym c.in_ok-check.ensures.passes_just_what_is_in_range));
      few = omega (arith, length-take-le made.count made.slots (omega (arith, made.fits, made.long)), made.fits);
    }

pub returns-clause-adds_the_machine_where_accepted : goal.returns-clause-adds_the_machine_where_accepted
returns-clause-adds_the_machine_where_accepted c =
    ap (λ ms. record { machines = ms; batches = [] })
    (c.insert.ensures.inserts_the_item ∙ with_machine_inserted c.args.machine (machines_of c.args.self.now) c.in-Err.at c.in-Err.ensures.finds_the_place)
