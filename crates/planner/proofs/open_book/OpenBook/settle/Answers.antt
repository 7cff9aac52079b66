use Rattle.std.proofs.Common.{subst}
use Rattle.books.specs.Views.{standing_of}
use Rattle.shares.specs.Plans.{share}
use Rattle.planner.specs.ShareOuts.{Shared, Best, NoChainHelps}
use Rattle.planner.proofs.Standings.{shared, stable}
use Rattle.planner.proofs.Laws.{stable_best, stable_chains}
use Rattle.planner.proofs.open_book.OpenBook.settle.Goals as goal

pub returns-clause-gives_all_blocks_to_holders : goal.returns-clause-gives_all_blocks_to_holders
returns-clause-gives_all_blocks_to_holders g c =
    let k = c.settle-plan.result in
    subst (λ b. Shared (standing_of b) (share k)) c.settle-plan.ensures.keeps_the_book (shared k)

pub returns-clause-no_rival_has_fewer_blocks_after_any_mark : goal.returns-clause-no_rival_has_fewer_blocks_after_any_mark
returns-clause-no_rival_has_fewer_blocks_after_any_mark g c =
    let k = c.settle-plan.result in
    let table = g.P.Pace.table c.args.self.pace in
    let st = stable k table c.settle-plan.ensures.leaves_no_chain_that_helps in
    subst (λ b. Best table (standing_of b) (share k)) c.settle-plan.ensures.keeps_the_book
    (stable_best k.book table (g.met.P.Pace.never_falls c.args.self.pace) (share k) (shared k) st)

pub returns-clause-no_chain_of_moves_helps : goal.returns-clause-no_chain_of_moves_helps
returns-clause-no_chain_of_moves_helps g c =
    let k = c.settle-plan.result in
    let table = g.P.Pace.table c.args.self.pace in
    let st = stable k table c.settle-plan.ensures.leaves_no_chain_that_helps in
    subst (λ b. NoChainHelps table (standing_of b) (share k)) c.settle-plan.ensures.keeps_the_book (stable_chains k.book table (share k) st)
