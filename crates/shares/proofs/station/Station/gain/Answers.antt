use Rattle.std.proofs.Common.{◌||◌, sym, ap, ◌∙◌}
use Rattle.places.specs.declared.Places.{Places}
use Rattle.places.specs.Has.{has}
use Rattle.books.specs.Ranges.{holders_at}
use Rattle.shares.proofs.Leading.{links_few, links_gained}
use Rattle.shares.proofs.station.Station.gain.Goals as goal

pub returns-then-self-batch-clause-keeps_where_the_links_lead :
    goal.returns-then-self-batch-clause-keeps_where_the_links_lead
returns-then-self-batch-clause-keeps_where_the_links_lead c = λ led j.
    (rw c.add.ensures.keeps_the_links at c.union-self.ensures.holds_the_places_of_either) j
    ∙ ap (λ t. t || has (holders_at c.args.linking.batches.now c.args.batch) j) (led j)
    ∙ sym (links_gained _ _ j c.args.batch c.args.blocks _ _ c.add.ensures.adds_the_blocks c.requires.stands c.if-self-batch.true)

pub returns-else-self-batch-clause-keeps_where_the_links_lead :
    goal.returns-else-self-batch-clause-keeps_where_the_links_lead
returns-else-self-batch-clause-keeps_where_the_links_lead c = λ led j.
    ap (λ (p : Places). has p j) c.add.ensures.keeps_the_links ∙ led j
    ∙ links_few _ _ j c.args.batch c.args.blocks _ _ c.add.ensures.adds_the_blocks c.if-self-batch.false
