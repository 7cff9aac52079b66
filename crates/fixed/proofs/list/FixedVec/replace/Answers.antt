use Rattle.std.proofs.Common.{arith, length-take}
use Rattle.fixed.proofs.Edits.{take_of_set}
use Rattle.fixed.proofs.list.FixedVec.replace.Goals as goal

pub offset_bounds-self-at : goal.offset_bounds-self-at
offset_bounds-self-at g c = omega (arith, c.requires.within, length-take c.args.self.now.count c.args.self.now.slots, c.args.self.now.fits)

pub returns : goal.returns
returns g c = record { replaces_the_item = take_of_set c.args.self.now.count c.args.self.now.slots c.args.at c.args.by }
