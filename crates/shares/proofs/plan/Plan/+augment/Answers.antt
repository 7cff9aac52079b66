use Rattle.std.proofs.lemmas.Bool.{both_ways}
use Rattle.places.specs.Has.{has}
use Rattle.std.proofs.Common.{◌∙◌, sym, rules, ◌≡◌, ◌<◌, ap, arith}
use Rattle.theory.proofs.Moves.{moved_else}
use Rattle.shares.proofs.Shifting.{moved_gains}
use Rattle.shares.specs.Cells.{nth}
use Rattle.shares.proofs.Stepping.{steps_fall}
use Rattle.shares.proofs.plan.Plan.+augment.Goals as goal

pub augment-got-requires : goal.augment-got-requires
augment-got-requires t c =
    let r = c.requires in
    let less = steps_fall r.chained c.args.i r.reached c.if-i-start.false in
    (omega (arith, c.decreases, less), (r.chained, (r.within_machines, (r.chained.linked c.args.i r.reached c.if-i-start.false).inside)))

pub returns-clause-keeps_what_lies_outside_the_reach : goal.returns-clause-keeps_what_lies_outside_the_reach
returns-clause-keeps_what_lies_outside_the_reach t c = λ b k out.
    let r = c.requires in
    let S = has c.args.reach.now.places in
    let not-before : k ≡ nth c.args.reach.now.before c.args.i → ⊥ = λ e. both_ways (S k) out (ap S e ∙ (r.chained.linked c.args.i r.reached c.if-i-start.false).inside) in
    let not-i : k ≡ c.args.i → ⊥ = λ e. both_ways (S k) out (ap S e ∙ r.reached) in
    sym (moved_else c.shift.ensures.moves_the_blocks k (search rules) (search rules) b) ∙ c.augment-got.ensures.keeps_what_lies_outside_the_reach b k out

pub returns-clause-takes_none_from_later_stages : goal.returns-clause-takes_none_from_later_stages
returns-clause-takes_none_from_later_stages t c = λ chain b k l.
    let before = nth c.args.reach.now.before c.args.i in
    let earlier : chain.stage before < chain.stage c.args.i = (chain.linked c.args.i c.requires.reached c.if-i-start.false).earlier in
    let not-before : k ≡ before → ⊥ = λ e. omega (arith, earlier, l, ap chain.stage e) in
    omega (arith, c.augment-got.ensures.takes_none_from_later_stages chain b k (omega (arith, earlier, l)), moved_gains c.shift.ensures.moves_the_blocks b k not-before)
