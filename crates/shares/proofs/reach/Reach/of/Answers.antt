use Rattle.std.proofs.Common.{◌≡◌, Bool, false, ◌||◌, refl, ap, ◌∙◌, arith}
use Rattle.places.specs.Has.{has}
use Rattle.places.proofs.Digits.{has_low}
use Rattle.shares.specs.Cells.{nth}
use Rattle.shares.specs.Stations.{station_at, leads_to}
use Rattle.shares.proofs.Blocks.{at_place}
use Rattle.shares.specs.declared.station.Station.{Station}
use Rattle.shares.proofs.Reaching.{Turned, searching_start, searching_same, searched, turned, left_same}
use Rattle.shares.proofs.reach.Reach.of.Goals as goal
use Rattle.shares.proofs.reach.Reach.of.Goals.{After-union}

pub loop-i-init : goal.loop-i-init
loop-i-init c =
    let from = c.args.from in
    let none = c.empty-found.ensures.holds_no_place in (
      searching_start (leads_to c.args.stations.now) (has from) _ _ (λ k. ap (λ t. has from k || t) (none k) ∙ or_false (has from k)) (λ k. has_low from k (omega arith)),
      (λ k _. none k),
      (λ _ k. none k),
    )
  where
    or_false : (a : Bool) → (a || false) ≡ a
    or_false a = grind arith

-- what a turn of the loop leaves, before the layers change
turn_of : (c : After-union) → Turned (leads_to c.args.stations.now) (has c.args.from) (has c.loop-i.reach.places) (has c.note.new.self.places) (has c.loop-i.layer) (has c.loop-i.found) (has c.pop_first.new.self) (has c.union.result) (nth c.note.new.self.before)
turn_of c =
    let e = c.in-Some.ensures in
    let inv = c.loop-i.invariant in
    let led : c.next.result ≡ (station_at c.args.stations.now c.in-Some.i).next =
    c.next.ensures.gives_where_the_links_lead ∙ ap (λ (s : Station). s.next) (at_place c.args.stations.now c.in-Some.i _ (omega (arith, e.gives_the_lowest_place.below))) in
    turned c.in-Some.i inv.0 inv.1 e.gives_the_lowest_place.held e.takes_just_this_place
    (rw led at c.minus-new.ensures.holds_the_places_that_the_other_does_not) c.note.ensures.adds_the_places c.union.ensures.holds_the_places_of_either
    (λ k. has_low c.minus-new.result k (omega arith)) c.note.ensures.notes_just_these

pub loop-i-smaller : goal.loop-i-smaller
loop-i-smaller c =
    let turn = turn_of (goal.at.loop-i-smaller c).After-union in
    omega (arith, turn.less, left_same (has c.note.new.self.places) _ _ c.next_layer.ensures.keeps_all_places)

pub loop-i-preserved : goal.loop-i-preserved
loop-i-preserved c =
    let turn = turn_of (goal.at.loop-i-preserved c).After-union in
    let n = c.next_layer.ensures in
    (searching_same _ n.keeps_all_places turn.searching, n.keeps_both_apart turn.apart, n.has_a_layer_while_there_are_places)

pub returns : goal.returns
returns c =
    let inv = c.loop-i.invariant in
    let none = c.in_default.ensures.gives_the_lowest_place in
    record { reaches_just_what_chains_lead_to = searched inv.0 (λ k. rw (none k, inv.2 none k) refl) }
