use Rattle.std.proofs.Common.{◌≡◌, ◌<◌, ap, ◌∙◌, arith}
use Rattle.books.specs.declared.book.Book.{Book}
use Rattle.books.specs.Standing.{all_blocks}
use Rattle.books.specs.Views.{machines_in, batches_in, standing_of}
use Rattle.books.proofs.Tables.{blocks_viewed}
use Rattle.shares.specs.Plans.{share}
use Rattle.planner.proofs.Laws.{ending, least_ending}
use Rattle.planner.proofs.settled_book.SettledBook.last_ending.Goals as goal

pub returns-clause-gives_the_latest_moment_of_any_block : goal.returns-clause-gives_the_latest_moment_of_any_block
returns-clause-gives_the_latest_moment_of_any_block g c =
    let k = c.args.self.now.plan in
    let pace = c.args.self.now.pace in
    let counted : c.blocks-2.result ≡ all_blocks (standing_of k.book).batches = c.blocks-2.ensures.counts_all_blocks ∙ ap (λ (b : Book). all_blocks (standing_of b).batches) c.book.ensures.lends_the_book in
    let some : 0 < k.book.blocks = omega (arith, c.if-blocks-eq0.false, counted, blocks_viewed (machines_in k.book) (batches_in k.book), k.book.summed) in
    ending k (g.P.Pace.table pace) (g.met.P.Pace.no_block_ends_at_zero pace) (g.met.P.Pace.never_falls pace) c.latest_moment.result
    c.latest_moment.ensures.no_machine_ends_later c.latest_moment.ensures.some_machine_ends_then some

pub returns-clause-no_rival_ends_earlier : goal.returns-clause-no_rival_ends_earlier
returns-clause-no_rival_ends_earlier g c best y sy u end =
    let k = c.args.self.now.plan in
    let mine = returns-clause-gives_the_latest_moment_of_any_block g c in
    least_ending k.book (g.P.Pace.table c.args.self.now.pace) (share k) y best sy c.latest_moment.result u mine end
