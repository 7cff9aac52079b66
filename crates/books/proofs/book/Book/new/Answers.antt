use Rattle.std.proofs.Common.{◌≡◌, ℕ, List, [], sym, subst, rules}
use Rattle.books.specs.declared.batch.Batch.{Batch}
use Rattle.books.specs.Ranges.{Manned}
use Rattle.books.proofs.Tables.{manned_none}
use Rattle.books.proofs.book.Book.new.Goals as goal

-- batches of which there are none
none_manned : (n : ℕ) (bs : List Batch) → bs ≡ [] → Manned n bs
none_manned n bs none = subst (Manned n) (sym none) (manned_none n)

pub invariant_of-result-clause-manned : goal.invariant_of-result-clause-manned
invariant_of-result-clause-manned c = search (rules, none_manned)
