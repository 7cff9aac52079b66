use Rattle.std.proofs.Common.{rules, tests, ◌≡◌, Bool, not, refl}
use Rattle.std.proofs.lemmas.Bool.Decides.{Decides-by_and, Decides-not}
use Rattle.std.proofs.lemmas.Iterator.{YieldsList-from_slice}
use Rattle.std.proofs.lemmas.Iterator.Search.{all_from_yields_List}
use Rattle.std.specs.List.{list_all}
use Rattle.places.specs.Has.{has}
use Rattle.books.specs.declared.batch.Batch.{Batch}
use Rattle.report.specs.Sets.{Just}
use Rattle.report.proofs.Counting.{has_just, has_just_is}
use Rattle.report.proofs.sums.is_new.Goals as goal

pub returns : goal.returns
returns c =
    let bs = c.args.batches.now in
    let h = c.args.holders in
    let other : Batch → Bool = λ b. not (has_just h b) in
    let told : c.all.result ≡ list_all other bs = all_from_yields_List other c.all.new.self _ c.all.result c.all.ensures.ran (YieldsList-from_slice bs (cc)) (λ x b q k. search (rules, tests)) in
    record {
      tells_whether_no_batch_has_just_these_holders =
          rw told (Decides-by_and other (λ (b : Batch). ¬ Just (has h) b) (list_all other) (λ b. Decides-not _ (has_just_is h b)) refl (λ _ _. refl) bs);
    }
