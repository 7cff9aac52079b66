use Rattle.std.proofs.Common.{◌≡◌, ◌+◌, ◌-◌, ◌<◌, length, sym, ◌∙◌, arith}
use Rattle.std.proofs.lemmas.List.{length-set}
use Rattle.shares.specs.Cells.{nth}
use Rattle.shares.proofs.Blocks.{put_fewer, sum_more}
use Rattle.shares.proofs.Leading.{links_many}
use Rattle.shares.proofs.station.Station.lose.Goals as goal

pub invariant_of-self : goal.invariant_of-self
invariant_of-self c =
    let s = c.args.self.now in
    let b : c.args.batch < 128 = omega (arith, c.requires.stands, c.args.linking.few) in
    let l : c.args.batch < length s.blocks = omega (arith, s.long, b) in
    let v : nth s.blocks c.args.batch - c.args.blocks + c.args.blocks ≡ nth s.blocks c.args.batch = omega (arith, c.requires.there) in
    record {
      long = length-set s.blocks c.args.batch _ ∙ s.long;
      summed = omega (arith, s.summed, sum_more 128 c.args.batch c.args.blocks _ (nth s.blocks) b (put_fewer s.blocks c.args.batch _ l c.args.blocks v));
    }

pub returns-else-self-batch-clause-keeps_where_the_links_lead : goal.returns-else-self-batch-clause-keeps_where_the_links_lead
returns-else-self-batch-clause-keeps_where_the_links_lead c =
    let s = c.args.self.now in
    let l : c.args.batch < length s.blocks = omega (arith, s.long, c.requires.stands, c.args.linking.few) in
    let v : nth s.blocks c.args.batch - c.args.blocks + c.args.blocks ≡ nth s.blocks c.args.batch = omega (arith, c.requires.there) in
    λ led j. led j ∙ sym (links_many _ _ j c.args.batch c.args.blocks _ (nth s.blocks) (put_fewer s.blocks c.args.batch _ l c.args.blocks v) c.if-self-batch.false)
