use Rattle.std.proofs.Common.{arith}
use Rattle.std.proofs.lemmas.Bool.Decides.{nat_tests}
use Rattle.books.proofs.Changes.{Stands, stands_or, sound_replaced, sound_removed, blocks_stand, blocks_few, view_fewer, view_removed}
use Rattle.books.proofs.book.Book.edit_to_drop.Goals as goal
use Rattle.books.proofs.book.Book.edit_to_drop.Goals.{In_ok-at}

stands_here : (c : In_ok-at) → Stands c.args.self.now c.args.number c.in_ok-at.at c.in_ok-at.batch
stands_here c = stands_or c.args.self.now c.find.result c.map_err.result _ c.map_err.ensures.cases c.in_ok-at.was c.find.ensures.finds_the_place c.find.ensures.reads_the_batch

pub returns-then-batch-blocks-clause-leaves_the_batches_sound : goal.returns-then-batch-blocks-clause-leaves_the_batches_sound
returns-then-batch-blocks-clause-leaves_the_batches_sound c =
    let here = stands_here (goal.at.returns-then-batch-blocks-clause-leaves_the_batches_sound c).In_ok-at in
    sound_removed here _ (omega (arith, blocks_stand here))

pub returns-then-batch-blocks-clause-takes_the_blocks : goal.returns-then-batch-blocks-clause-takes_the_blocks
returns-then-batch-blocks-clause-takes_the_blocks c =
    let here = stands_here (goal.at.returns-then-batch-blocks-clause-takes_the_blocks c).In_ok-at in
    view_removed here c.args.blocks c.if-batch-blocks.true

pub returns-clause-leaves_the_batches_sound : goal.returns-clause-leaves_the_batches_sound
returns-clause-leaves_the_batches_sound c =
    let here = stands_here (goal.at.returns-clause-leaves_the_batches_sound c).In_ok-at in
    sound_replaced here _ _
    (grind (arith, nat_tests, blocks_few here)) (grind (arith, nat_tests, blocks_stand here))

pub returns-clause-takes_the_blocks : goal.returns-clause-takes_the_blocks
returns-clause-takes_the_blocks c =
    let here = stands_here (goal.at.returns-clause-takes_the_blocks c).In_ok-at in
    view_fewer here c.args.blocks c.if-batch-blocks.false
