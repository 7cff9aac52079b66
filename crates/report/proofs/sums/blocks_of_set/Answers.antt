use Rattle.std.proofs.Common.{rules, tests, ◌≡◌, ◌<◌, filter, subst, sym, arith}
use Rattle.std.proofs.iter.runs.Made.{chains}
use Rattle.std.proofs.lemmas.Iterator.{YieldsList-from_slice, YieldsList-from_map}
use Rattle.std.proofs.lemmas.Iterator.Consumers.{YieldsList-at, YieldsList-from_filter, sum_by_from_yields_List}
use Rattle.places.specs.Has.{has}
use Rattle.books.specs.declared.batch.Batch.{Batch}
use Rattle.books.specs.Ranges.{blocks_in}
use Rattle.report.specs.Sets.{Counted}
use Rattle.report.proofs.Counting.{has_just, counted, counted_fits}
use Rattle.report.proofs.sums.blocks_of_set.Goals as goal

pub sum-requires-clause-fits : goal.sum-requires-clause-fits
sum-requires-clause-fits c =
    let few : blocks_in (filter (has_just c.args.holders) c.args.batches.now) < 4294967296 = omega (arith, counted_fits c.args.holders c.args.batches.now) in
    search (rules, chains, few)

pub returns : goal.returns
returns c =
    let bs = c.args.batches.now in
    let h = c.args.holders in
    let told : c.sum.result ≡ blocks_in (filter (has_just h) bs) =
    sum_by_from_yields_List (λ (b : Batch). b.blocks) (filter (has_just h) bs) c.map.result c.sum.result c.sum.ensures.ran
    (YieldsList-from_map _ (λ (b : Batch). b.blocks)
    (YieldsList-at c.map.ensures.source (YieldsList-from_filter _ (has_just h) (YieldsList-at c.filter.ensures.source (YieldsList-from_slice bs (cc))) c.filter.ensures.closure (λ x b q k. search (rules, tests))))
    c.map.ensures.closure (λ x r q k. search (rules, tests))) in
    record { counts_the_batches_with_just_these_holders = subst (Counted (has h) bs) (sym told) (counted h bs) }
