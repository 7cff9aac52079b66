use Rattle.std.proofs.Common.{◌≡◌, ℕ, ◌&&◌, leb, length, ap, ◌∙◌, arith}
use Rattle.places.specs.Has.{has}
use Rattle.books.specs.Ranges.{some_below, holders_at}
use Rattle.shares.specs.Cells.{nth}
use Rattle.shares.specs.Links.{links}
use Rattle.shares.proofs.station.Station.led_to.Goals as goal

pub returns : goal.returns
unfolding links
returns c =
    let end : c.loop-b.b ≡ length c.args.linking.batches.now = omega (arith, c.loop-b-test.false, c.loop-b.auto.b-end) in
    record { holds_where_the_links_lead = λ j. c.loop-b.invariant j ∙ ap (λ (n : ℕ). some_below n (λ b. leb c.args.linking.width (nth c.args.self.now.blocks b) && has (holders_at c.args.linking.batches.now b) j)) end }
