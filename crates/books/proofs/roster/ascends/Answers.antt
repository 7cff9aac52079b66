use Rattle.std.proofs.Common.{ltb, rules}
use Rattle.std.proofs.lemmas.List.Sorted.{answers_always}
use Rattle.books.proofs.Orders.{ascending_answer}
use Rattle.books.proofs.roster.ascends.Goals as goal

pub returns : goal.returns
returns c =
    record { tells_whether_they_ascend = ascending_answer c.args.numbers.now _ (c.is_sorted_by.ensures.cases ltb (answers_always _ _ _ (λ f a r g called. search rules))) }
