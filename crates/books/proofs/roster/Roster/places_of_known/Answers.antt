use Rattle.std.proofs.Common.{ℕ, ◌<◌, ◌&&◌, ◌||◌, eqb, List, ap, ◌∙◌, arith}
use mathlib.Core.Bool.{and-true}
use Rattle.std.proofs.lemmas.List.{length-map}
use Rattle.std.proofs.lemmas.Bool.{lt-ltb}
use Rattle.std.proofs.lemmas.Bool.Decides.{nat_tests}
use Rattle.places.specs.Has.{has}
use Rattle.books.specs.declared.machine.Machine.{Machine}
use Rattle.books.specs.Views.{machines_of}
use Rattle.books.proofs.Holders.{gathered_none, gathered_more, gathered_unknown}
use Rattle.books.proofs.roster.Roster.places_of_known.Goals as goal

pub loop-number-init : goal.loop-number-init
loop-number-init c = gathered_none (machines_of c.args.self.now) c.args.numbers.now (has c.empty-places.result) c.empty-places.ensures.holds_no_place

pub returns-in_err-place_of-clause-refuses_just_where_a_machine_is_unknown : goal.returns-in_err-place_of-clause-refuses_just_where_a_machine_is_unknown
returns-in_err-place_of-clause-refuses_just_where_a_machine_is_unknown c =
    grind (arith, nat_tests, gathered_unknown (machines_of c.args.self.now) c.args.numbers.now (has c.loop-number.places) c.loop-number.number-index c.loop-number-test.true c.loop-number.invariant)

pub loop-number-preserved : goal.loop-number-preserved
loop-number-preserved c =
    let ms : List Machine = machines_of c.args.self.now in
    let ns : List ℕ = c.args.numbers.now in
    let place : ℕ = c.in_ok-place_of.field-0 in
    let f = c.in_ok-place_of.ensures.finds_the_place in
    let small : place < 32 = omega (arith, f.within, length-map ms (λ m. m.number), c.args.self.now.few) in
    gathered_more ms ns (has c.loop-number.places) c.loop-number.number-index c.loop-number-test.true c.loop-number.invariant
    (has c.with-places.result) place c.args.self.now.ascends f
    (λ k. c.with-places.ensures.adds_the_place k
    ∙ ap (λ t. has c.loop-number.places k || t) (ap (λ t. eqb k place && t) (lt-ltb place 32 small) ∙ and-true (eqb k place)))
