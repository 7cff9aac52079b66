use Rattle.std.proofs.Common.{sym, ◌∙◌, arith}
use Rattle.shares.specs.Cells.{nth}
use Rattle.shares.proofs.Blocks.{blocks_within}
use Rattle.shares.proofs.Leading.{links_none}
use Rattle.shares.proofs.station.Station.find_links.Goals as goal
use Rattle.shares.proofs.station.Station.find_links.Goals.{then-self-linking, else-self-linking}

pub returns-clause-finds_where_the_links_lead : goal.returns-clause-finds_where_the_links_lead
returns-clause-finds_where_the_links_lead c = λ j. elim c.if-self-linking.branch [
  | then-self-linking w ↦ rw w.self-is (w.empty-self.ensures.holds_no_place j
      ∙ sym (links_none _ _ j (nth c.args.self.now.blocks) (λ b l. omega (arith, w.if-self-linking.true, c.args.linking.few, blocks_within c.args.self.now b (omega (arith, l, c.args.linking.few))))))
  | else-self-linking w ↦ rw w.self-is (w.led_to-self.ensures.holds_where_the_links_lead j)
]
