use Rattle.std.proofs.Common.{ℕ, ◌+◌, ◌-◌, ◌/◌, List, map, Ok, Err, sym, arith}
use Rattle.std.proofs.lemmas.List.{length-map}
use Rattle.books.proofs.Orders.{between_none, between_above, between_below, between_found, between_missing, key_at}
use Rattle.books.proofs.Records.{found_tells}
use Rattle.books.proofs.lookup.find.Goals as goal

pub loop-low-init : goal.loop-low-init
loop-low-init g c = (
  omega arith,
  omega arith,
  λ up. between_none c.args.number (map g.R.Numbered.key c.args.records.now) _ (sym (length-map c.args.records.now g.R.Numbered.key)),
)

pub returns-then-here-number-clause-finds_the_place : goal.returns-then-here-number-clause-finds_the_place
returns-then-here-number-clause-finds_the_place g c up =
    let rs : List g.row.R.Denot = c.args.records.now in
    let middle : ℕ = c.loop-low.low + (c.loop-low.high - c.loop-low.low) / 2 in
    let read = key_at g.R.Numbered.key rs middle c.index-records-middle.result (omega arith) c.index-records-middle.is in
    between_found c.args.number (map g.R.Numbered.key rs) c.loop-low.low c.loop-low.high middle up
    (omega (arith, length-map rs g.R.Numbered.key)) (omega (arith, read))

pub returns-then-here-number-clause-tells_whether_there_is_one : goal.returns-then-here-number-clause-tells_whether_there_is_one
returns-then-here-number-clause-tells_whether_there_is_one g c up = found_tells _ _ (Ok _) (returns-then-here-number-clause-finds_the_place g c up)

pub loop-low-preserved-then-here-number-2 : goal.loop-low-preserved-then-here-number-2
loop-low-preserved-then-here-number-2 g c =
    let rs : List g.row.R.Denot = c.args.records.now in
    let middle : ℕ = c.loop-low.low + (c.loop-low.high - c.loop-low.low) / 2 in
    let read = key_at g.R.Numbered.key rs middle c.index-records-middle.result (omega arith) c.index-records-middle.is in (
      omega arith,
      omega arith,
      λ up.
          between_above c.args.number (map g.R.Numbered.key rs) c.loop-low.low c.loop-low.high middle up
          (omega (arith, length-map rs g.R.Numbered.key)) (c.loop-low.invariant.2 up) (omega (arith, read)),
    )

pub loop-low-preserved : goal.loop-low-preserved
loop-low-preserved g c =
    let rs : List g.row.R.Denot = c.args.records.now in
    let middle : ℕ = c.loop-low.low + (c.loop-low.high - c.loop-low.low) / 2 in
    let read = key_at g.R.Numbered.key rs middle c.index-records-middle.result (omega arith) c.index-records-middle.is in (
      omega arith,
      omega arith,
      λ up.
          between_below c.args.number (map g.R.Numbered.key rs) c.loop-low.low c.loop-low.high middle up
          (omega (arith, length-map rs g.R.Numbered.key)) (c.loop-low.invariant.2 up) (omega (arith, read)),
    )

pub returns-clause-finds_the_place : goal.returns-clause-finds_the_place
returns-clause-finds_the_place g c up =
    between_missing c.args.number (map g.R.Numbered.key c.args.records.now) c.loop-low.low c.loop-low.high
    (c.loop-low.invariant.2 up) (omega arith) (omega (arith, length-map c.args.records.now g.R.Numbered.key))

pub returns-clause-tells_whether_there_is_one : goal.returns-clause-tells_whether_there_is_one
returns-clause-tells_whether_there_is_one g c up = found_tells _ _ (Err _) (returns-clause-finds_the_place g c up)
