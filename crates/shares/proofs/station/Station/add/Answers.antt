use Rattle.std.proofs.Common.{◌<◌, length, refl, ◌∙◌, arith}
use Rattle.std.proofs.lemmas.List.{length-set}
use Rattle.shares.specs.Cells.{nth}
use Rattle.shares.proofs.Blocks.{blocks_within, put_more, sum_more}
use Rattle.shares.proofs.station.Station.add.Goals as goal

pub overflow_add-self : goal.overflow_add-self
overflow_add-self c = record { fits = omega (arith, blocks_within c.args.self.now c.args.batch c.requires.inside, c.requires.fits) }

pub invariant_of-self : goal.invariant_of-self
invariant_of-self c =
    let s = c.args.self.now in
    let l : c.args.batch < length s.blocks = omega (arith, s.long, c.requires.inside) in
    record {
      long = length-set s.blocks c.args.batch _ ∙ s.long;
      summed = omega (arith, s.summed, sum_more 128 c.args.batch c.args.blocks (nth s.blocks) _ c.requires.inside (put_more s.blocks c.args.batch _ l c.args.blocks refl));
    }
