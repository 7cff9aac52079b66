use Rattle.std.proofs.Common.{rules, tests, ◌≡◌}
use Rattle.std.proofs.lemmas.Iterator.{YieldsList-from_slice, YieldsList-from_zip}
use Rattle.std.proofs.lemmas.Iterator.Consumers.{YieldsList-from_enumerate}
use Rattle.std.proofs.lemmas.Iterator.Search.{all_from_yields_List}
use Rattle.std.specs.List.{enumerate_from, list_all}
use Rattle.books.specs.Views.{machines_in}
use Rattle.shares.specs.Plans.{machines_at}
use Rattle.planner.proofs.Laws.{pair_agrees, both, agree}
use Rattle.planner.proofs.settled_book.loads_agree.Goals as goal

pub returns-then-machines-others : goal.returns-then-machines-others
returns-then-machines-others c =
    let k = c.args.plan.now in
    let k' = c.args.other.now in
    let long : machines_at k ≡ machines_at k' = cc in
    let told : c.all.result ≡ list_all (pair_agrees k k') (enumerate_from 0 (both k k')) =
    all_from_yields_List (pair_agrees k k') c.all.new.self _ c.all.result c.all.ensures.ran
    (YieldsList-from_enumerate (YieldsList-from_zip (YieldsList-from_slice (machines_in k.book) (cc)) (YieldsList-from_slice (machines_in k'.book) (cc))) (cc))
    (λ x b q r. search (rules, tests)) in
    record { tells_whether_numbers_and_loads_agree = rw told (agree k k' long) }
