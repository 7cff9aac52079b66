use Rattle.std.proofs.Common.{sym, ◌∙◌}
use Rattle.books.specs.Views.{machines_in, batches_in}
use Rattle.books.proofs.Tables.{blocks_viewed}
use Rattle.books.proofs.book.Book.blocks.Goals as goal

pub returns : goal.returns
returns c =
    let k = c.args.self.now in
    record { counts_all_blocks = sym (blocks_viewed (machines_in k) (batches_in k) ∙ k.summed) }
