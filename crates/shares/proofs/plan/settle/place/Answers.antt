use Rattle.std.proofs.Common.{◌<◌, List, length, refl, ap, ◌∙◌, arith}
use Rattle.std.proofs.lemmas.List.{length-set}
use Rattle.books.specs.declared.batch.Batch.{Batch}
use Rattle.shares.specs.declared.station.Station.{Station}
use Rattle.shares.specs.Stations.{station_at}
use Rattle.shares.specs.Tables.{batch_at}
use Rattle.shares.proofs.Blocks.{at_place, no_cell, put_at}
use Rattle.shares.proofs.Placing.{placed_none, placed_more, placed_few}
use Rattle.shares.proofs.plan.settle.place.Goals as goal

pub loop-b-init : goal.loop-b-init
loop-b-init c = (refl, placed_none c.args.book.now _ (no_cell c.empty-stations.result c.empty-stations.ensures.has_no_block 32))

pub add-requires-clause-fits : goal.add-requires-clause-fits
add-requires-clause-fits c =
    let lent = c.batches-batch-items.ensures.lends_the_batches in
    let i = c.first_holder.result in
    let low = c.first_holder.ensures.gives_the_lowest_holder in
    let ss = c.loop-b.stations in
    let here : i < length ss = omega (arith, c.loop-b.invariant.0, low.below) in
    omega (
      arith,
      ap (λ (bs : List Batch). (batch_at bs c.loop-b.b).blocks) lent,
      ap (λ (s : Station). s.load) (at_place ss i c.index-stations-first_holder.result here),
      (station_at ss i).summed,
      placed_few c.loop-b.invariant.1 i (c.args.book.now.manned c.loop-b.b i low.held) (omega (arith, c.loop-b-test.true, ap length lent)),
    )

pub loop-b-preserved : goal.loop-b-preserved
loop-b-preserved c =
    let lent = c.batches-batch-items.ensures.lends_the_batches in
    let i = c.first_holder.result in
    let low = c.first_holder.ensures.gives_the_lowest_holder in
    let ss = c.loop-b.stations in
    let inv = c.loop-b.invariant in
    let here : i < length ss = omega (arith, inv.0, low.below) in (
      length-set ss i _ ∙ inv.0,
      placed_more i _ inv.1 (ap (λ (bs : List Batch). (batch_at bs c.loop-b.b).blocks) lent)
          (put_at ss i _ c.loop-b.b _ here (rw (at_place ss i c.index-stations-first_holder.result here) at c.add.ensures.adds_the_blocks))
          (c.args.book.now.manned c.loop-b.b i low.held) low.held,
    )
