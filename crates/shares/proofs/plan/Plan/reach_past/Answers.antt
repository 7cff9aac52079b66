use Rattle.shares.proofs.Outreaching.{outreach}
use Rattle.shares.proofs.plan.Plan.reach_past.Goals as goal

pub returns : goal.returns
returns c = record {
  reaches_past_the_exhausted = outreach c.args.self.now c.args.i c.requires.within_machines c.requires.closed c.requires.stands c.requires.not_exhausted
      c.with.ensures.adds_the_place c.of-reach.ensures.reaches_just_what_chains_lead_to c.minus-reach.ensures.holds_the_places_that_the_other_does_not;
}
