use Rattle.std.proofs.Common.{◌≡◌, ◌<◌, ◌≤◌, true, false, ◌||◌, eqb, sym, ap, arith}
use Rattle.std.proofs.lemmas.Bool.{or_left}
use Rattle.places.specs.Has.{has}
use Rattle.shares.specs.declared.mark.Mark.{Mark}
use Rattle.shares.specs.Marks.{later, value}
use Rattle.shares.proofs.Ordering.{marks_compared}
use Rattle.shares.proofs.Picking.{popped_less, first_in, seen_more}
use Rattle.shares.proofs.Sizes.{without_within}
use Rattle.shares.proofs.plan.paced.Paced.earliest_of.Given as given
use Rattle.shares.proofs.plan.paced.Paced.earliest_of.Goals as goal
use Rattle.shares.proofs.plan.paced.Paced.earliest_of.Goals.{After-mark_after-other}

pub mark_after-mark-requires-clause-stands : goal.mark_after-mark-requires-clause-stands
mark_after-mark-requires-clause-stands g c = c.requires.stand c.args.first (first_in (has c.args.others) c.args.first)

pub loop-j-smaller-then-is_before : goal.loop-j-smaller-then-is_before
loop-j-smaller-then-is_before g c = let e = c.in-Some.ensures in popped_less _ _ _ e.gives_the_lowest_place e.takes_just_this_place

pub loop-j-smaller : goal.loop-j-smaller
loop-j-smaller g c = let e = c.in-Some.ensures in popped_less _ _ _ e.gives_the_lowest_place e.takes_just_this_place

one_of_them : (g : given.Over) (c : After-mark_after-other g) → (has c.args.others c.in-Some.j || eqb c.in-Some.j c.args.first) ≡ true
one_of_them g c = or_left _ _ (c.loop-j.invariant.0 c.in-Some.j c.in-Some.ensures.gives_the_lowest_place.held)

-- which of the two marks is later
compared : (g : given.Over) (c : After-mark_after-other g)
    → (later c.loop-j.mark c.mark_after-other.result ≡ true → value c.mark_after-other.result < value c.loop-j.mark)
    × (later c.loop-j.mark c.mark_after-other.result ≡ false → value c.loop-j.mark ≤ value c.mark_after-other.result)
compared g c =
    let inv = c.loop-j.invariant in
    marks_compared c.args.self.plan.now.book c.loop-j.earliest c.in-Some.j c.loop-j.mark c.mark_after-other.result
    (c.requires.stand c.loop-j.earliest inv.1) (c.requires.stand c.in-Some.j (one_of_them g c))
    (ap (λ (a : Mark). a.number) inv.2) (ap (λ (a : Mark). a.number) c.mark_after-other.ensures.gives_the_mark)

pub loop-j-preserved-then-is_before : goal.loop-j-preserved-then-is_before
loop-j-preserved-then-is_before g c =
    let b = (goal.at.loop-j-preserved-then-is_before g c).After-mark_after-other in
    let e = c.in-Some.ensures in
    let inv = c.loop-j.invariant in
    let is = c.mark_after-other.ensures.gives_the_mark in
    let past = (compared g b).0 (sym c.if-is_before.ensures.tells_whether_the_other_is_after) in (
      (λ k t. inv.0 k (without_within _ _ c.in-Some.j e.takes_just_this_place k t)),
      one_of_them g b,
      is,
      seen_more c.in-Some.j e.takes_just_this_place inv.3 (λ k h. omega (arith, h, past)) (omega (arith, ap value is)),
    )

pub loop-j-preserved : goal.loop-j-preserved
loop-j-preserved g c =
    let b = (goal.at.loop-j-preserved g c).After-mark_after-other in
    let e = c.in-Some.ensures in
    let inv = c.loop-j.invariant in
    let past = (compared g b).1 (sym c.if-is_before.ensures.tells_whether_the_other_is_after) in (
      (λ k t. inv.0 k (without_within _ _ c.in-Some.j e.takes_just_this_place k t)),
      inv.1,
      inv.2,
      seen_more c.in-Some.j e.takes_just_this_place inv.3 (λ k h. h) (omega (arith, ap value c.mark_after-other.ensures.gives_the_mark, past)),
    )
