use Rattle.std.proofs.Common.{List, [], ◌∷◌, ◌∙◌, arith}
use Rattle.std.proofs.lemmas.Bool.Decides.{nat_tests}
use Rattle.std.proofs.lemmas.Result.{err_from_is_err_and}
use Rattle.books.specs.declared.refusal.Refusal.TheVariants.{BatchNumber, Blocks, HolderCount, HolderOrder, MachineUnknown, OtherHolders, BatchesFull, BatchPasses, BookPasses}
use Rattle.books.specs.declared.refusal.Refusal.{Refusal}
use Rattle.books.specs.Calls.{Hold}
use Rattle.books.specs.Refusals.{Handed, handed}
use Rattle.books.specs.Edits.{Asked}
use Rattle.books.specs.Views.{machines_in, batches_in, standing_of}
use Rattle.books.proofs.Checks.{past_all, told_among}
use Rattle.books.proofs.Tables.{blocks_viewed}
use Rattle.books.proofs.Changes.{asked_from}
use Rattle.books.proofs.book.Book.hold.Goals as goal

-- the checks that come after those of the ranges, and after those of the holders
abbrev after_ranges : List Refusal
after_ranges = HolderCount ∷ HolderOrder ∷ MachineUnknown ∷ OtherHolders ∷ BatchesFull ∷ BatchPasses ∷ BookPasses ∷ []

abbrev after_holders : List Refusal
after_holders = OtherHolders ∷ BatchesFull ∷ BatchPasses ∷ BookPasses ∷ []

pub returns-in_err-holders-clause-refuses_by_the_first_check_that_applies : goal.returns-in_err-holders-clause-refuses_by_the_first_check_that_applies
returns-in_err-holders-clause-refuses_by_the_first_check_that_applies c =
    let h : Handed = handed (Hold c.args.number c.args.blocks c.args.holders.now) in
    let s = standing_of c.args.self.now in
    let p = err_from_is_err_and c.from_residual-in_err-holders.result c.from_residual-in_err-holders.ensures.1 in
    rw (p.1, p.2)
    (past_all h s (BatchNumber ∷ Blocks ∷ []) after_ranges c.in_ok-check_batch.ensures.refuses_by_the_first_range
    (told_among h s (HolderCount ∷ HolderOrder ∷ MachineUnknown ∷ []) after_holders c.in_err-holders.ensures.refuses_by_the_first_check_of_the_holders))

pub returns-in_err-edit-clause-refuses_by_the_first_check_that_applies : goal.returns-in_err-edit-clause-refuses_by_the_first_check_that_applies
returns-in_err-edit-clause-refuses_by_the_first_check_that_applies c =
    let held = c.in_ok-holders.ensures in
    let h : Handed = handed (Hold c.args.number c.args.blocks c.args.holders.now) in
    let s = standing_of c.args.self.now in
    let asked : Asked (machines_in c.args.self.now) (record { number = c.args.number; blocks = c.args.blocks; holders = c.in_ok-holders.holders }) c.args.holders.now =
    asked_from c.args.self.now c.in_ok-check_batch.ensures.passes_just_what_is_in_range (grind (arith, nat_tests)) held.holds_the_places_of_just_these_machines held.holds_places_of_machines_only in
    let p = err_from_is_err_and c.from_residual-in_err-edit.result c.from_residual-in_err-edit.ensures.1 in
    rw (p.1, p.2)
    (past_all h s (BatchNumber ∷ Blocks ∷ []) after_ranges c.in_ok-check_batch.ensures.refuses_by_the_first_range
    (past_all h s (HolderCount ∷ HolderOrder ∷ MachineUnknown ∷ []) after_holders held.refuses_by_the_first_check_of_the_holders
    (told_among h s (OtherHolders ∷ BatchesFull ∷ BatchPasses ∷ []) (BookPasses ∷ []) (c.in_err-edit.ensures.refuses_by_the_first_check_of_the_batch c.args.holders.now asked))))

pub returns-in_err-refuse_if-clause-refuses_by_the_first_check_that_applies : goal.returns-in_err-refuse_if-clause-refuses_by_the_first_check_that_applies
returns-in_err-refuse_if-clause-refuses_by_the_first_check_that_applies c =
    let k = c.args.self.now in
    let held = c.in_ok-holders.ensures in
    let h : Handed = handed (Hold c.args.number c.args.blocks c.args.holders.now) in
    let s = standing_of c.args.self.now in
    let asked : Asked (machines_in c.args.self.now) (record { number = c.args.number; blocks = c.args.blocks; holders = c.in_ok-holders.holders }) c.args.holders.now =
    asked_from c.args.self.now c.in_ok-check_batch.ensures.passes_just_what_is_in_range (grind (arith, nat_tests)) held.holds_the_places_of_just_these_machines held.holds_places_of_machines_only in
    let p = err_from_is_err_and c.from_residual-in_err-refuse_if.result c.from_residual-in_err-refuse_if.ensures.1 in
    rw (p.1, p.2)
    (past_all h s (BatchNumber ∷ Blocks ∷ []) after_ranges c.in_ok-check_batch.ensures.refuses_by_the_first_range
    (past_all h s (HolderCount ∷ HolderOrder ∷ MachineUnknown ∷ []) after_holders held.refuses_by_the_first_check_of_the_holders
    (past_all h s (OtherHolders ∷ BatchesFull ∷ BatchPasses ∷ []) (BookPasses ∷ []) (c.in_ok-edit.ensures.refuses_by_the_first_check_of_the_batch c.args.holders.now asked)
    (rw (blocks_viewed (machines_in k) (batches_in k) ∙ k.summed) c.in_err-refuse_if.ensures.refuses_just_where_it_applies))))
