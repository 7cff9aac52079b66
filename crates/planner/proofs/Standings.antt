-- A plan's tables, read as a share-out of what stands.
use Rattle.std.proofs.Common.{◌≡◌, ℕ, suc, ◌+◌, ◌-◌, ◌<◌, length, sym, refl, ap, ◌∙◌, arith}
use Rattle.std.proofs.lemmas.List.{length-map, get_or-map}
use Rattle.places.specs.Has.{has}
use Rattle.pace.specs.declared.terms.Terms.{Terms}
use Rattle.theory.specs.ShareOuts.{Complete, Stable, load}
use Rattle.theory.proofs.Sets.{inside_from}
use Rattle.theory.proofs.Alike.{Alike, load_alike, complete_alike, stable_alike}
use Rattle.books.specs.declared.book.Book.{Book}
use Rattle.books.specs.Numbers.{among}
use Rattle.books.specs.Ranges.{no_batch, holders_at}
use Rattle.books.specs.Standing.{Held}
use Rattle.books.specs.Views.{machines_in, batches_in, batch_of, standing_of}
use Rattle.books.proofs.Holders.{numbers_held}
use Rattle.shares.specs.declared.plan.Plan.{Plan}
use Rattle.shares.specs.Marks.{machine_at}
use Rattle.shares.specs.Tables.{batch_at, demand_of}
use Rattle.shares.specs.Plans.{machines_at, share, load_at, values_in, LevelPlan}
use Rattle.shares.proofs.Facts.{number_at}
use Rattle.shares.proofs.Planned.{load_sum}
use Rattle.planner.specs.ShareOuts.{held_at, to_share, Shared, load_of}

-- a batch of the book, as it stands
pub held_is : (k : Book) (b : ℕ) → b < length (batches_in k) → held_at (standing_of k) b ≡ batch_of (machines_in k) (batch_at (batches_in k) b)
held_is k b l = get_or-map (batch_of (machines_in k)) (batches_in k) b no_batch _ l

pub alike : (k : Book) → Alike (length (machines_in k)) (demand_of k) (to_share (standing_of k))
alike k = record {
  same_batches = sym (length-map (batches_in k) (batch_of (machines_in k)));
  same_holds = λ b i lb li.
      sym (numbers_held (λ q. has (holders_at (batches_in k) b) q) (machines_in k) k.roster.ascends i li)
      ∙ ap (λ (n : ℕ). among n (batch_of (machines_in k) (batch_at (batches_in k) b)).holders) (number_at k i li)
      ∙ ap (λ (h : Held). among (machine_at (machines_in k) i).number h.holders) (sym (held_is k b lb));
  same_blocks = λ b lb. ap (λ (h : Held). h.blocks) (sym (held_is k b lb));
}

module _ (k : Plan) where
  pub complete : Complete (machines_at k) (demand_of k.book) (share k)
  complete = record { nothing_elsewhere = λ b i _ _ e. k.elsewhere b i e; adds_up = k.adds_up }

  pub shared : Shared (standing_of k.book) (share k)
  shared = complete_alike (alike k.book) (share k) complete

  pub load_is : (i : ℕ) → load_at k i ≡ load_of (standing_of k.book) (share k) i
  load_is i = load_sum k i ∙ load_alike (alike k.book) (share k) i

  -- a level plan is stable
  level_stable : (table : Terms → ℕ → ℕ) → LevelPlan 1 table k → Stable (machines_at k) (values_in table k) (demand_of k.book) (share k)
  level_stable table level i li some =
      let s = level i li (omega (arith, load_sum k i)) in (
        s.set,
        s.has_it,
        (λ b q lb lq e block. inside_from (machines_at k) (demand_of k.book) s.set b (λ j lj h. s.closed b q j lb lq lj e block h)),
        λ q lq e.
            let p = values_in table k in
            let last : load_at k i - 1 + 1 ≡ load (demand_of k.book) (share k) i = omega (arith, load_sum k i) in
            let next : load_at k q + 1 ≡ suc (load (demand_of k.book) (share k) q) = omega (arith, load_sum k q) in
            omega (arith, s.full q lq e, ap (p i) last, ap (p q) next),
      )

  pub stable : (table : Terms → ℕ → ℕ) → LevelPlan 1 table k → Stable (machines_at k) (values_in table k) (to_share (standing_of k.book)) (share k)
  stable table level = stable_alike (alike k.book) (share k) {p = values_in table k} (λ _ _ _. refl) (level_stable table level)
