-- The laws of settled books: stable is best, the least last ending, equal loads.
use Rattle.std.proofs.Common.{◌==◌, Decides, ◌≡◌, ℕ, zero, suc, ◌+◌, ◌*◌, ◌<◌, ◌≤◌, Bool, true, false, ◌&&◌, List, length, get_or, sym, refl, ap, ◌∙◌, subst, inl, inr, arith}
use Rattle.std.specs.List.{All, enumerate_from, list_all, zip}
use Rattle.std.proofs.lemmas.List.FromFn.{length-enumerate_from, get_or-enumerate_from}
use Rattle.std.proofs.lemmas.Slice.Zip.{length-zip, get_or-zip}
use Rattle.std.proofs.lemmas.List.{same_lists, length-map, get_or-map}
use Rattle.std.proofs.lemmas.Bool.Decides.{Decides-and, Decides-by_and, Decides-eqb}
use Rattle.std.proofs.lemmas.Bool.{false_from_ne_true, or_from, or_left, and_right, cases_lt, cases_eq, lt-ltb, le-ltb}
use Rattle.pace.specs.declared.terms.Terms.{Terms}
use Rattle.pace.specs.Moments.{Fit, count}
use Rattle.theory.specs.Sums.{only}
use Rattle.theory.specs.ShareOuts.{Complete, Stable, blocks_held}
use Rattle.theory.proofs.Sums.{total_eq, total_zero, term_le, some_term, climb}
use Rattle.theory.proofs.Alike.{Alike, stable_alike}
use Rattle.theory.proofs.Best.{best}
use Rattle.theory.proofs.Loads.{equal_loads}
use Rattle.theory.proofs.Regroup.{same_work}
use Rattle.books.specs.declared.machine.Machine.{Machine}
use Rattle.books.specs.declared.book.Book.{Book}
use Rattle.books.specs.Standing.{machine_numbers}
use Rattle.books.specs.Views.{machines_in, standing_of}
use Rattle.shares.specs.declared.mark.Mark.{Mark}
use Rattle.shares.specs.declared.plan.Plan.{Plan}
use Rattle.shares.specs.Marks.{later, no_machine, machine_at, values}
use Rattle.shares.specs.Plans.{machines_at, share, load_at}
use Rattle.shares.proofs.Facts.{number_small, terms_fit}
use Rattle.shares.proofs.Planned.{loads_are}
use Rattle.shares.proofs.Ordering.{later_value, not_later_value, marks_ordered}
use Rattle.planner.specs.ShareOuts.{AlikeSettled, ShareOut, to_share, Shared, load_of, mark_at, blocks_after, Best, NoChainHelps, LastEnding, SameLoads}
use Rattle.planner.proofs.Standings.{load_is}
use Rattle.planner.proofs.AfterMarks.{next_value, blocks_counted}

module _ (k : Book) (table : Terms → ℕ → ℕ) (up : (t : Terms) (j : ℕ) → Fit t → table t j ≤ table t (suc j)) (x : ShareOut) (sx : Shared (standing_of k) x) where
  pub stable_best : Stable (length (machines_in k)) (values table (machines_in k)) (to_share (standing_of k)) x → Best table (standing_of k) x
  stable_best st y sy μ =
      omega (
        arith,
        blocks_counted k table x μ,
        blocks_counted k table y μ,
        best (length (machines_in k)) (values table (machines_in k)) (to_share (standing_of k)) (to_share (standing_of k)) x y (marks_ordered k table up) sx st sy (λ S. omega arith) (next_value μ),
      )

module _ (k : Book) (table : Terms → ℕ → ℕ) (x : ShareOut) where
  not_later_from : (i q a b : ℕ) → i < length (machines_in k) → q < length (machines_in k) → values table (machines_in k) i a ≤ values table (machines_in k) q b
      → later (mark_at table (standing_of k) i a) (mark_at table (standing_of k) q b) ≡ false
  not_later_from i q a b li lq le =
      false_from_ne_true _ (λ e. absurd (omega (arith, le, later_value (mark_at table (standing_of k) i a) (mark_at table (standing_of k) q b) (number_small k i li) (number_small k q lq) e)))

  -- by marks and by their values
  pub stable_chains : Stable (length (machines_in k)) (values table (machines_in k)) (to_share (standing_of k)) x → NoChainHelps table (standing_of k) x
  stable_chains st i li some = let s = st i li some in (s.0, s.1, s.2, λ q lq e. not_later_from i q _ _ li lq (s.3 q lq e))

  pub chains_stable : NoChainHelps table (standing_of k) x → Stable (length (machines_in k)) (values table (machines_in k)) (to_share (standing_of k)) x
  chains_stable no-chain i li some =
      let s = no-chain i li some in
      (s.0, s.1, s.2, λ q lq e. not_later_value (mark_at table (standing_of k) i _) (mark_at table (standing_of k) q _) (number_small k i li) (number_small k q lq) (s.3 q lq e))

count_none : (l : ℕ) (p : ℕ → Bool) → ((j : ℕ) → 0 < j → j ≤ l → p j ≡ false) → count l p ≡ 0
unfolding count
count_none zero p none = refl
count_none (suc l) p none = omega (arith, count_none l p (λ j a b. none j a (omega arith)), ap (λ t. only t 1) (none (suc l) (omega arith) (omega arith)))

count_some : (l : ℕ) (p : ℕ → Bool) (j : ℕ) → 0 < j → j ≤ l → p j ≡ true → 0 < count l p
unfolding count
count_some zero p j a b e = absurd (omega arith)
count_some (suc l) p j a b e = elim (cases_eq j (suc l)) [
  | inl same ↦ omega (arith, ap (λ t. only t 1) (rw same at e))
  | inr d ↦ omega (arith, count_some l p j a (omega arith) e)
]

-- of a best share-out, no rival ends earlier: compare after the mark of the rival's last moment and the highest number
module _ (k : Book) (table : Terms → ℕ → ℕ) (x y : ShareOut) (bx : Best table (standing_of k) x) (sy : Shared (standing_of k) y) (t u : ℕ)
    (end-x : LastEnding table (standing_of k) x t) (end-y : LastEnding table (standing_of k) y u) where
  μ : Mark
  μ = record { moment = u; number = 9999 }

  none_after : blocks_after table (standing_of k) y μ ≡ 0
  unfolding μ
  none_after =
      total_eq (length (machines_in k)) _ (λ _. 0) (λ i l. count_none (load_of (standing_of k) y i) _ (λ j a b.
      or_from _ _ (le-ltb u (mark_at table (standing_of k) i j).moment (end-y.none_later i j l a b)) (and_right _ _ (le-ltb 9999 (machine_at (machines_in k) i).number (omega (arith, number_small k i l))))))
      ∙ total_zero (length (machines_in k))

  some_after : u < t → 0 < blocks_after table (standing_of k) x μ
  unfolding μ
  some_after h =
      let s = end-x.some_block in
      let after : ℕ → ℕ → Bool = λ i j. later (mark_at table (standing_of k) i j) (record { moment = u; number = 9999 }) in
      omega (
        arith,
        count_some (load_of (standing_of k) x s.0) (after s.0) s.1 s.3 s.4 (or_left _ _ (lt-ltb u _ (omega (arith, h, s.5)))),
        term_le (length (machines_in k)) (λ i. count (load_of (standing_of k) x i) (after i)) s.0 s.2,
      )

  pub least_ending : t ≤ u
  least_ending = elim (cases_lt u t) [ inr le ↦ le | inl lt ↦ absurd (omega (arith, bx y sy μ, none_after, some_after lt)) ]

-- two books of the same machines, paces and blocks for every set of holders
module _ (k k' : Book) (table table' : Terms → ℕ → ℕ) (up : (t : Terms) (j : ℕ) → Fit t → table t j ≤ table t (suc j)) (x y : ShareOut)
    (sx : Shared (standing_of k) x) (sy : Shared (standing_of k') y) where
  same_again : Alike (length (machines_in k)) (to_share (standing_of k')) (to_share (standing_of k'))
  same_again = record { same_batches = refl; same_holds = λ _ _ _ _. refl; same_blocks = λ _ _. refl }

  pub equal_books : AlikeSettled table (standing_of k) x table' (standing_of k') y → SameLoads (standing_of k) x (standing_of k') y
  equal_books alike =
      let same = alike.same_machines in
      let ms = machines_in k in
      let m = length ms in
      let sy' : Complete m (to_share (standing_of k')) y = subst (λ (l : List Machine). Complete (length l) (to_share (standing_of k')) y) (sym same) sy in
      let st : Stable m (values table' ms) (to_share (standing_of k')) y =
      subst (λ (l : List Machine). Stable (length l) (values table' l) (to_share (standing_of k')) y) (sym same) (chains_stable k' table' y alike.no_chain_helps_in_the_other) in
      let st' : Stable m (values table ms) (to_share (standing_of k')) y =
      stable_alike same_again y {p = values table' ms} (λ i j l. ap (λ (v : ℕ). v * 10000 + (machine_at ms i).number) (sym (alike.same_paces (machine_at ms i).terms j (terms_fit k i l)))) st in
      let held : (S : ℕ → Bool) → blocks_held m (to_share (standing_of k)) S ≡ blocks_held m (to_share (standing_of k')) S =
      subst (λ (l : List Machine). (S : ℕ → Bool) → blocks_held m (to_share (standing_of k)) S ≡ blocks_held (length l) (to_share (standing_of k')) S) (sym same) alike.same_blocks_of_each_set in
      record {
        numbers = ap machine_numbers same;
        loads = equal_loads m (values table ms) (to_share (standing_of k)) (to_share (standing_of k')) x y (marks_ordered k table up) sx (chains_stable k table x alike.no_chain_helps_in_one) sy' st'
            (same_work m (to_share (standing_of k)) (to_share (standing_of k')) held);
      }

-- the latest of the machines' last moments is the last ending
module _ (k : Plan) (table : Terms → ℕ → ℕ) (at_zero : (t : Terms) → Fit t → table t 0 ≡ 0) (up : (t : Terms) (j : ℕ) → Fit t → table t j ≤ table t (suc j)) (r : ℕ)
    (none_later : (i : ℕ) → i < machines_at k → table (machine_at (machines_in k.book) i).terms (load_at k i) ≤ r)
    (Some-then : 0 < r → (i : ℕ) × (i < machines_at k) × (table (machine_at (machines_in k.book) i).terms (load_at k i) ≡ r)) where
  moment : ℕ → ℕ → ℕ
  moment i j = table (machine_at (machines_in k.book) i).terms j

  at_load : (i : ℕ) → i < machines_at k → 0 < load_at k i → moment i (load_at k i) ≡ r → (i : ℕ) × (j : ℕ) × (i < machines_at k) × (0 < j) × (j ≤ load_of (standing_of k.book) (share k) i) × (moment i j ≡ r)
  at_load i l some e = (i, load_at k i, l, some, omega (arith, load_is k i), e)

  some_block : 0 < k.book.blocks → (i : ℕ) × (j : ℕ) × (i < machines_at k) × (0 < j) × (j ≤ load_of (standing_of k.book) (share k) i) × (moment i j ≡ r)
  unfolding moment
  some_block blocks = elim (cases_lt 0 r) [
    | inl pos ↦ let s = Some-then pos in elim (cases_lt 0 (load_at k s.0)) [
      | inl some ↦ at_load s.0 s.1 some s.2
      | inr none ↦
          let zero-load : load_at k s.0 ≡ 0 = omega (arith, none) in
          absurd (omega (arith, pos, s.2, ap (table (machine_at (machines_in k.book) s.0).terms) zero-load, at_zero (machine_at (machines_in k.book) s.0).terms (terms_fit k.book s.0 s.1)))
    ]
    | inr none ↦ let s = some_term (machines_at k) (load_at k) (omega (arith, blocks, loads_are k)) in at_load s.0 s.1 s.2 (omega (arith, none, none_later s.0 s.1))
  ]

  pub ending : 0 < k.book.blocks → LastEnding table (standing_of k.book) (share k) r
  unfolding moment
  ending blocks = record {
    some_block = some_block blocks;
    none_later = λ i j l pos le. omega (
      arith,
      climb (table (machine_at (machines_in k.book) i).terms) (λ q. up (machine_at (machines_in k.book) i).terms q (terms_fit k.book i l)) j (load_at k i) (omega (arith, le, load_is k i)),
      none_later i l,
    );
  }

-- two books of equally many machines agree just where the machines at each place do, in number and in load
module _ (k k' : Plan) where
  -- a place, and the machines that stand there in both
  abbrev Pair : Type 0
  Pair = ℕ × (Machine × Machine)

  abbrev pub pair_agrees : ℕ × (Machine × Machine) → Bool
  pair_agrees p = (p.1.0.number == p.1.1.number) && (load_at k p.0 == load_at k' p.0)

  abbrev PairAgrees : Pair → Type 0
  PairAgrees p = (p.1.0.number ≡ p.1.1.number) × (load_at k p.0 ≡ load_at k' p.0)

  abbrev pub both : List (Machine × Machine)
  both = zip (machines_in k.book) (machines_in k'.book)

  told : Decides (list_all pair_agrees (enumerate_from 0 both)) (All PairAgrees (enumerate_from 0 both))
  told =
      Decides-by_and pair_agrees PairAgrees (list_all pair_agrees) (λ (p : Pair). Decides-and _ _ (Decides-eqb p.1.0.number p.1.1.number) (Decides-eqb (load_at k p.0) (load_at k' p.0))) refl (λ _ _. refl)
      (enumerate_from 0 both)

  module _ (long : machines_at k ≡ machines_at k') where
    as_many : length both ≡ machines_at k
    as_many = omega (arith, length-zip (machines_in k.book) (machines_in k'.book), long)

    pair_at : (i : ℕ) (d : Pair) → i < machines_at k → get_or (enumerate_from 0 both) i d ≡ (i, (get_or (machines_in k.book) i d.1.0, get_or (machines_in k'.book) i d.1.1))
    pair_at i d l =
        let from_0 : 0 + i ≡ i = omega arith in
        get_or-enumerate_from 0 both i d (omega (arith, as_many, l))
        ∙ ap (λ (n : ℕ). (n, get_or both i d.1)) from_0
        ∙ ap (λ (p : Machine × Machine). (i, p)) (get_or-zip (machines_in k.book) (machines_in k'.book) i d.1 l (omega (arith, l, long)))

    number_is : (k : Plan) (i e : ℕ) (d : Machine) → i < machines_at k → get_or (machine_numbers (machines_in k.book)) i e ≡ (get_or (machines_in k.book) i d).number
    number_is k i e d l = get_or-map (λ (m : Machine). m.number) (machines_in k.book) i d e l

    pub agree : Decides (list_all pair_agrees (enumerate_from 0 both)) (SameLoads (standing_of k.book) (share k) (standing_of k'.book) (share k'))
    agree = (
      (λ t.
          let at : (i : ℕ) → i < machines_at k → PairAgrees (i, (machine_at (machines_in k.book) i, machine_at (machines_in k'.book) i)) = λ i l.
          subst PairAgrees (pair_at i (0, (no_machine, no_machine)) l) (told.0 t i (0, (no_machine, no_machine)) (omega (arith, l, length-enumerate_from 0 both, as_many))) in
          record {
            numbers = same_lists (machine_numbers (machines_in k.book)) (machine_numbers (machines_in k'.book)) (omega (arith, length-map (machines_in k.book) (λ (m : Machine). m.number), length-map (machines_in k'.book) (λ (m : Machine). m.number), long)) (λ i d l.
                let li : i < machines_at k = omega (arith, l, length-map (machines_in k.book) (λ (m : Machine). m.number)) in
                number_is k i d no_machine li ∙ (at i li).0 ∙ sym (number_is k' i d no_machine (omega (arith, li, long))));
            loads = λ i l. sym (load_is k i) ∙ (at i l).1 ∙ load_is k' i;
          }),
      (λ same. told.1 (λ i d l.
          let li : i < machines_at k = omega (arith, l, length-enumerate_from 0 both, as_many) in
          subst PairAgrees (sym (pair_at i d li)) (
            sym (number_is k i 0 d.1.0 li) ∙ ap (λ (ns : List ℕ). get_or ns i 0) same.numbers ∙ number_is k' i 0 d.1.1 (omega (arith, li, long)),
            load_is k i ∙ same.loads i li ∙ sym (load_is k' i),
          ))),
    )
