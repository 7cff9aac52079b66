use Rattle.std.proofs.Common.{◌≡◌, ◌+◌, arith}
use Rattle.std.proofs.lemmas.Bool.Decides.{nat_tests}
use Rattle.books.proofs.Changes.{Lacks, Stands, sound_inserted, view_inserted, found_other, sound_replaced, view_more}
use Rattle.books.proofs.book.Book.edit_to_hold.Goals as goal
use Rattle.books.proofs.book.Book.edit_to_hold.Goals.{In-Ok, In-Err}

stands_here : (c : In-Ok) → Stands c.args.self.now c.args.asked.number c.in-Ok.at c.in-Ok.batch
stands_here c = record { found = c.in-Ok.ensures.finds_the_place; read = c.in-Ok.ensures.reads_the_batch }

lacks_here : (c : In-Err) → Lacks c.args.self.now c.args.asked.number c.in-Err.at
lacks_here c = record { missing = c.in-Err.ensures.finds_the_place }

pub returns-in_err-refuse_if-in-Ok-clause-refuses_by_the_first_check_of_the_batch : goal.returns-in_err-refuse_if-in-Ok-clause-refuses_by_the_first_check_of_the_batch
returns-in_err-refuse_if-in-Ok-clause-refuses_by_the_first_check_of_the_batch c hs asked =
    let here = stands_here (goal.at.returns-in_err-refuse_if-in-Ok-clause-refuses_by_the_first_check_of_the_batch c).In-Ok in
    grind (arith, nat_tests, found_other here asked)

pub returns-in_err-refuse_if-in-Ok-2-clause-refuses_by_the_first_check_of_the_batch : goal.returns-in_err-refuse_if-in-Ok-2-clause-refuses_by_the_first_check_of_the_batch
returns-in_err-refuse_if-in-Ok-2-clause-refuses_by_the_first_check_of_the_batch c hs asked =
    let here = stands_here (goal.at.returns-in_err-refuse_if-in-Ok-2-clause-refuses_by_the_first_check_of_the_batch c).In-Ok in
    grind (arith, nat_tests, found_other here asked)

pub returns-in_ok-refuse_if-in-Ok-2-clause-refuses_by_the_first_check_of_the_batch : goal.returns-in_ok-refuse_if-in-Ok-2-clause-refuses_by_the_first_check_of_the_batch
returns-in_ok-refuse_if-in-Ok-2-clause-refuses_by_the_first_check_of_the_batch c hs asked =
    let here = stands_here (goal.at.returns-in_ok-refuse_if-in-Ok-2-clause-refuses_by_the_first_check_of_the_batch c).In-Ok in
    grind (arith, nat_tests, found_other here asked)

pub returns-in_ok-refuse_if-in-Ok-2-clause-leaves_the_batches_sound : goal.returns-in_ok-refuse_if-in-Ok-2-clause-leaves_the_batches_sound
returns-in_ok-refuse_if-in-Ok-2-clause-leaves_the_batches_sound c hs asked =
    let here = stands_here (goal.at.returns-in_ok-refuse_if-in-Ok-2-clause-leaves_the_batches_sound c).In-Ok in
    sound_replaced here _ _
    (grind (arith, nat_tests, asked.blocks_in_range)) (grind (arith, nat_tests))

pub returns-in_ok-refuse_if-in-Ok-2-clause-adds_the_blocks : goal.returns-in_ok-refuse_if-in-Ok-2-clause-adds_the_blocks
returns-in_ok-refuse_if-in-Ok-2-clause-adds_the_blocks c hs asked =
    let here = stands_here (goal.at.returns-in_ok-refuse_if-in-Ok-2-clause-adds_the_blocks c).In-Ok in
    let fits : c.saturating_add-total.result ≡ c.in-Ok.batch.blocks + c.args.asked.blocks = grind (arith, nat_tests) in
    rw fits (view_more here c.args.asked.blocks hs)

pub returns-in_ok-refuse_if-in-Err-clause-leaves_the_batches_sound : goal.returns-in_ok-refuse_if-in-Err-clause-leaves_the_batches_sound
returns-in_ok-refuse_if-in-Err-clause-leaves_the_batches_sound c hs asked =
    let lacks = lacks_here (goal.at.returns-in_ok-refuse_if-in-Err-clause-leaves_the_batches_sound c).In-Err in sound_inserted lacks asked

pub returns-in_ok-refuse_if-in-Err-clause-adds_the_blocks : goal.returns-in_ok-refuse_if-in-Err-clause-adds_the_blocks
returns-in_ok-refuse_if-in-Err-clause-adds_the_blocks c hs asked =
    let lacks = lacks_here (goal.at.returns-in_ok-refuse_if-in-Err-clause-adds_the_blocks c).In-Err in view_inserted lacks asked
