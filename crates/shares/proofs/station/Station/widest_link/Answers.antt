use Rattle.std.proofs.Common.{◌<◌, sym, arith}
use Rattle.shares.specs.Cells.{nth}
use Rattle.shares.proofs.Leading.{links_some}
use Rattle.shares.proofs.station.Station.widest_link.Goals as goal

pub returns : goal.returns
returns c =
    let inv = c.loop-b.invariant in
    let some = links_some _ _ c.args.j (nth c.args.self.now.blocks) c.requires.linked in
    let at_least = inv.1 some.0 (omega (arith, some.1, c.loop-b-test.false)) some.3 in
    let some_most : 0 < c.loop-b.most = omega (arith, at_least, some.2, c.args.linking.wide) in
    let best = inv.0 some_most in
    record {
      gives_a_widest_link = record {
        batch = best.0;
        wide = omega (arith, best.1, at_least, some.2);
        held = best.2;
        most = λ b l held. omega (arith, inv.1 b (omega (arith, l, c.loop-b-test.false)) held, best.1);
      };
      gives_its_blocks = sym best.1;
    }
