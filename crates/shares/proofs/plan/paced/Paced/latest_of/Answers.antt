use Rattle.std.proofs.Common.{◌≡◌, ◌<◌, ◌≤◌, true, false, ◌||◌, eqb, sym, ap, arith}
use Rattle.std.proofs.lemmas.Bool.{or_left}
use Rattle.places.specs.Has.{has}
use Rattle.shares.specs.declared.mark.Mark.{Mark}
use Rattle.shares.specs.Marks.{later, value}
use Rattle.shares.proofs.Ordering.{marks_compared}
use Rattle.shares.proofs.Picking.{popped_less, first_in, seen_more}
use Rattle.shares.proofs.Sizes.{without_within}
use Rattle.shares.proofs.plan.paced.Paced.latest_of.Given as given
use Rattle.shares.proofs.plan.paced.Paced.latest_of.Goals as goal
use Rattle.shares.proofs.plan.paced.Paced.latest_of.Goals.{After-mark_back-other}

pub mark_back-mark-requires-clause-stands : goal.mark_back-mark-requires-clause-stands
mark_back-mark-requires-clause-stands g c = (c.requires.laden c.args.first (first_in (has c.args.others) c.args.first)).0

pub loop-i-smaller-then-is_before : goal.loop-i-smaller-then-is_before
loop-i-smaller-then-is_before g c = let e = c.in-Some.ensures in popped_less _ _ _ e.gives_the_lowest_place e.takes_just_this_place

pub loop-i-smaller : goal.loop-i-smaller
loop-i-smaller g c = let e = c.in-Some.ensures in popped_less _ _ _ e.gives_the_lowest_place e.takes_just_this_place

one_of_them : (g : given.Over) (c : After-mark_back-other g) → (has c.args.others c.in-Some.i || eqb c.in-Some.i c.args.first) ≡ true
one_of_them g c = or_left _ _ (c.loop-i.invariant.0 c.in-Some.i c.in-Some.ensures.gives_the_lowest_place.held)

-- which of the two marks is later
compared : (g : given.Over) (c : After-mark_back-other g)
    → (later c.mark_back-other.result c.loop-i.mark ≡ true → value c.loop-i.mark < value c.mark_back-other.result)
    × (later c.mark_back-other.result c.loop-i.mark ≡ false → value c.mark_back-other.result ≤ value c.loop-i.mark)
compared g c =
    let inv = c.loop-i.invariant in
    marks_compared c.args.self.plan.now.book c.in-Some.i c.loop-i.latest c.mark_back-other.result c.loop-i.mark
    (c.requires.laden c.in-Some.i (one_of_them g c)).0 (c.requires.laden c.loop-i.latest inv.1).0
    (ap (λ (a : Mark). a.number) c.mark_back-other.ensures.gives_the_mark) (ap (λ (a : Mark). a.number) inv.2)

pub loop-i-preserved-then-is_before : goal.loop-i-preserved-then-is_before
loop-i-preserved-then-is_before g c =
    let b = (goal.at.loop-i-preserved-then-is_before g c).After-mark_back-other in
    let e = c.in-Some.ensures in
    let inv = c.loop-i.invariant in
    let is = c.mark_back-other.ensures.gives_the_mark in
    let past = (compared g b).0 (sym c.if-is_before.ensures.tells_whether_the_other_is_after) in (
      (λ k t. inv.0 k (without_within _ _ c.in-Some.i e.takes_just_this_place k t)),
      one_of_them g b,
      is,
      seen_more c.in-Some.i e.takes_just_this_place inv.3 (λ k h. omega (arith, h, past)) (omega (arith, ap value is)),
    )

pub loop-i-preserved : goal.loop-i-preserved
loop-i-preserved g c =
    let b = (goal.at.loop-i-preserved g c).After-mark_back-other in
    let e = c.in-Some.ensures in
    let inv = c.loop-i.invariant in
    let past = (compared g b).1 (sym c.if-is_before.ensures.tells_whether_the_other_is_after) in (
      (λ k t. inv.0 k (without_within _ _ c.in-Some.i e.takes_just_this_place k t)),
      inv.1,
      inv.2,
      seen_more c.in-Some.i e.takes_just_this_place inv.3 (λ k h. h) (omega (arith, ap value c.mark_back-other.ensures.gives_the_mark, past)),
    )
