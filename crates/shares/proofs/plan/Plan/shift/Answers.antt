use Rattle.std.proofs.Common.{◌≡◌, ◌<◌, length, set, get_or, ap, sym, ◌∙◌, arith}
use Rattle.std.proofs.lemmas.List.{length-set, get_or-set_other}
use Rattle.places.specs.Has.{has}
use Rattle.theory.proofs.Moves.{moved_row}
use Rattle.books.specs.Ranges.{holders_at}
use Rattle.books.specs.Views.{batches_in}
use Rattle.shares.specs.declared.station.Station.{Station}
use Rattle.shares.proofs.Facts.{few_machines}
use Rattle.theory.specs.Moves.{Moved}
use Rattle.shares.specs.Stations.{station_at, cell}
use Rattle.shares.proofs.Blocks.{at_place}
use Rattle.shares.proofs.Planned.{two_loads, share_within}
use Rattle.shares.proofs.Shifting.{moved, relinked, held_after}
use Rattle.shares.proofs.plan.Plan.shift.Goals as goal
use Rattle.shares.proofs.plan.Plan.shift.Goals.{After-index-stations-to, After-gain}

-- both machines have a station
from_in : (c : After-index-stations-to) → c.args.from < length c.args.self.now.stations
from_in c = omega (arith, c.args.self.now.long, c.requires.from_stands, few_machines c.args.self.now.book)

to_in : (c : After-index-stations-to) → c.args.to < length c.args.self.now.stations
to_in c = omega (arith, c.args.self.now.long, c.requires.to_stands, few_machines c.args.self.now.book)

-- what the two had before, read from the list that is being changed
from_had : (c : After-index-stations-to) → get_or c.args.self.now.stations c.args.from c.index-stations-from.result ≡ station_at c.args.self.now.stations c.args.from
from_had c = at_place c.args.self.now.stations c.args.from c.index-stations-from.result (from_in c)

to_had : (c : After-index-stations-to)
    → get_or (set c.args.self.now.stations c.args.from c.lose.new.self) c.args.to c.index-stations-to.result ≡ station_at c.args.self.now.stations c.args.to
to_had c =
    get_or-set_other c.args.self.now.stations c.args.from c.args.to c.lose.new.self c.index-stations-to.result (λ e. c.requires.apart (sym e))
    ∙ at_place c.args.self.now.stations c.args.to c.index-stations-to.result (to_in c)

moves : (c : After-gain)
    → Moved c.args.blocks c.args.batch c.args.from c.args.to (cell c.args.self.now.stations) (cell (set (set c.args.self.now.stations c.args.from c.lose.new.self) c.args.to c.gain.new.self))
moves c =
    let b = c.before in
    moved c.args.self.now.stations c.args.from c.args.to c.lose.new.self c.gain.new.self (from_in b) (to_in b) c.requires.apart c.args.batch c.args.blocks
    (rw (from_had b) at c.lose.ensures.takes_the_blocks) (rw (to_had b) at c.gain.ensures.adds_the_blocks)

pub gain-requires-clause-fits : goal.gain-requires-clause-fits
gain-requires-clause-fits c =
    let p = c.args.self.now in
    omega (
      arith,
      ap (λ (s : Station). s.load) (to_had c),
      c.requires.there,
      share_within p c.args.batch c.args.from c.requires.batch_stands,
      two_loads p c.args.from c.args.to c.requires.from_stands c.requires.to_stands c.requires.apart,
    )

pub invariant_of-self : goal.invariant_of-self
invariant_of-self c =
    let p = c.args.self.now in
    let ss = p.stations in
    let from = c.args.from in
    let to = c.args.to in
    let r = c.requires in
    let b = c.before in
    record {
      long = length-set _ to _ ∙ length-set ss from _ ∙ p.long;
      elsewhere = held_after (λ b i. has (holders_at (batches_in p.book) b) i) (moves c) r.held p.elsewhere;
      adds_up = λ b l. moved_row _ c.args.batch from to c.args.blocks _ _ r.from_stands r.to_stands (moves c) b ∙ p.adds_up b l;
      wide = p.wide;
      linked = relinked ss from to c.lose.new.self c.gain.new.self (from_in b) (to_in b) r.apart c.of-linking.result c.of-linking.ensures.takes_the_batches c.of-linking.ensures.takes_the_width _ r.from_stands r.to_stands
          (rw (from_had b) at c.lose.ensures.keeps_where_the_links_lead) (rw (to_had b) at c.gain.ensures.keeps_where_the_links_lead) p.linked;
    }

pub returns-clause-moves_the_blocks : goal.returns-clause-moves_the_blocks
returns-clause-moves_the_blocks c = moves (goal.at.returns-clause-moves_the_blocks c).After-gain
