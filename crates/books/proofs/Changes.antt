-- A batch that is found or missing in a sound book: what its checks ask, and what its change leaves.
use Rattle.std.proofs.Common.{Result, Ok, Err, MatchResult, IfOk, IsErrAnd, ◌≡◌, ℕ, ◌+◌, ◌-◌, ◌<◌, ◌≤◌, Bool, true, false, not, ◌&&◌, ltb, List, [], ◌∷◌, map, length, get_or, set, sym, refl, subst, ap, ◌∙◌, arith}
use Rattle.std.specs.List.{insert, remove}
use Rattle.std.proofs.lemmas.List.{length-map, map-set, set-get_or, get_or-map, get_or_default}
use Rattle.std.proofs.lemmas.List.Sums.{sum_by-insert, sum_by-remove, sum_by-set}
use Rattle.std.proofs.lemmas.Bool.Decides.{nat_tests}
use Rattle.std.proofs.lemmas.Bool.{and_parts, and_from, not_from_false, not-true, or_parts, ltb-false}
use Rattle.places.specs.declared.Places.{Places}
use Rattle.places.specs.Has.{has, same_places}
use Rattle.places.proofs.Digits.{same_places_decides}
use Rattle.books.specs.declared.batch.Batch.{Batch}
use Rattle.books.specs.Numbers.{among, ascending, outside, bad_batch_number, bad_blocks, Found, Missing}
use Rattle.books.specs.Ranges.{batch_in_range, some_below, no_batch, numbers_of}
use Rattle.books.specs.Standing.{Held, batch_numbers, blocks_of, holders_of, more_blocks, fewer_blocks}
use Rattle.books.specs.Refusals.{same}
use Rattle.books.specs.Holders.{numbers_at}
use Rattle.books.specs.declared.refusal.Refusal.{Refusal}
use Rattle.books.specs.declared.book.Book.{Book}
use Rattle.books.specs.Views.{machines_in, batches_in, batch_of, standing_of, IsRead, IsAbsent}
use Rattle.books.specs.Edits.{Sound, Asked}
use Rattle.books.proofs.Orders.{key_at}
use Rattle.books.proofs.Records.{found_among, missing_among, ascending_inserted, ascending_removed, all_inserted, all_removed, all_replaced, all_at}
use Rattle.books.proofs.Holders.{numbers_same, places_same, some_held}
use Rattle.books.proofs.Batches.{with_count, blocks_found, holders_found, blocks_missing, more_found, more_missing, fewer_some, fewer_all}
use Rattle.books.proofs.Tables.{numbers_viewed, map_inserted, map_removed, manned_inserted, manned_replaced, manned_removed}

-- what is within a range, as a test and as an order
pub in_range : (low high v : ℕ) → outside low high v ≡ false → (low ≤ v) × (v ≤ high)
in_range low high v e =
    let parts = or_parts (ltb v low) (ltb high v) e in (ltb-false v low parts.0, ltb-false high v parts.1)

pub range_from : (low high v : ℕ) → low ≤ v → v ≤ high → outside low high v ≡ false
range_from low high v a b = grind (arith, nat_tests, a, b)

same_refl : (ns : List ℕ) → same ns ns ≡ true
same_refl [] = refl
same_refl (n ∷ ns) = grind (arith, nat_tests, same_refl ns)

same_eq : (ns ks : List ℕ) → same ns ks ≡ true → ns ≡ ks
same_eq [] [] e = refl
same_eq [] (k ∷ ks) e = grind (arith, e)
same_eq (n ∷ ns) [] e = grind (arith, e)
same_eq (n ∷ ns) (k ∷ ks) e = grind (arith, nat_tests, e, same_eq ns ks)

-- what the type of a book keeps
kept : (k : Book) → Sound (length (machines_in k)) (batches_in k) k.blocks
kept k = record { ascends = k.ascends; in_range = k.in_range; manned = k.manned; summed = k.summed }

-- the batch b is none of the book k, and would stand at the place i
pub record Lacks (k : Book) (b i : ℕ) : Type 0 where
  pub missing : Missing b (numbers_of (batches_in k)) i

module _ {k : Book} {b i : ℕ} (lacks : Lacks k b i) where
  missing_view : Missing b (batch_numbers (standing_of k).batches) i
  missing_view = rw (numbers_viewed (machines_in k) (batches_in k)) lacks.missing

  pub missing_stands : among b (batch_numbers (standing_of k).batches) ≡ false
  missing_stands = missing_among b (batch_numbers (standing_of k).batches) i missing_view

  pub missing_blocks : blocks_of b (standing_of k).batches ≡ 0
  missing_blocks = blocks_missing b (standing_of k).batches missing_stands

module _ {k : Book} {new : Batch} {i : ℕ} {hs : List ℕ} (lacks : Lacks k new.number i) (asked : Asked (machines_in k) new hs) where
  pub sound_inserted : Sound (length (machines_in k)) (insert (batches_in k) i new) (k.blocks + new.blocks)
  sound_inserted =
      record {
        ascends = ascending_inserted (λ d. d.number) new (batches_in k) i k.ascends lacks.missing;
        in_range = all_inserted (batch_in_range (length (machines_in k))) (batches_in k) i new k.in_range
            (and_from _ _ (and_from _ _ (not_from_false _ asked.number_in_range) (not_from_false _ asked.blocks_in_range))
            (some_held (has new.holders) (machines_in k) (omega (arith, asked.some, ap length asked.just))));
        manned = manned_inserted (length (machines_in k)) (batches_in k) i new k.manned asked.within;
        summed = omega (arith, k.summed, sum_by-insert (λ d. d.blocks) (batches_in k) i new);
      }

  pub view_inserted : map (batch_of (machines_in k)) (insert (batches_in k) i new) ≡ more_blocks new.number new.blocks hs (standing_of k).batches
  view_inserted =
      map_inserted (batch_of (machines_in k)) (batches_in k) i new
      ∙ ap (λ ks. insert (standing_of k).batches i (record { number = new.number; blocks = new.blocks; holders = ks })) asked.just
      ∙ more_missing new.number new.blocks hs (standing_of k).batches i (missing_view lacks)

-- the batch b of the book k is c, and stands at the place i
pub record Stands (k : Book) (b i : ℕ) (c : Batch) : Type 0 where
  pub found : Found b (numbers_of (batches_in k)) i
  pub read : c ≡ get_or (batches_in k) i c

-- a batch that was found, where a refusal would have told that there is none
pub stands_or : (k : Book) {b i : ℕ} {c : Batch} (r : Result (ℕ × Batch) ℕ) (s : Result (ℕ × Batch) Refusal) (Q : ℕ → Refusal → Type 0)
    → MatchResult r (λ x. s ≡ Ok x) (λ e. IsErrAnd s (Q e)) → s ≡ Ok (i, c)
    → MatchResult r (λ p. Found b (numbers_of (batches_in k)) p.0) (Missing b (numbers_of (batches_in k)))
    → IfOk r (λ p. p.1 ≡ get_or (batches_in k) p.0 p.1) → Stands k b i c
stands_or k {b} {i} {c} (Ok p) s Q same is found read =
    let at_p : Stands k b p.0 p.1 = record { found = found; read = read } in
    let here : p ≡ (i, c) = cc in
    rw here at at_p
stands_or k (Err j) s Q told is found read = absurd (rw is at told)

module _ {k : Book} {b i : ℕ} {c : Batch} (here : Stands k b i c) where
  pub found_within : i < length (batches_in k)
  found_within = omega (arith, here.found.within, length-map (batches_in k) (λ d. d.number))

  number_is : c.number ≡ b
  number_is = sym (key_at (λ d. d.number) (batches_in k) i c found_within here.read) ∙ here.found.here

  found_view : Found b (batch_numbers (standing_of k).batches) i
  found_view = rw (numbers_viewed (machines_in k) (batches_in k)) here.found

  view_at : get_or (standing_of k).batches i (batch_of (machines_in k) c) ≡ batch_of (machines_in k) c
  view_at = get_or-map (batch_of (machines_in k)) (batches_in k) i c (batch_of (machines_in k) c) found_within ∙ ap (batch_of (machines_in k)) (sym here.read)

  pub found_stands : among b (batch_numbers (standing_of k).batches) ≡ true
  found_stands = found_among b (batch_numbers (standing_of k).batches) i found_view.within found_view.here

  pub found_blocks : blocks_of b (standing_of k).batches ≡ c.blocks
  found_blocks = blocks_found b (standing_of k).batches i (batch_of (machines_in k) c) found_view ∙ ap (λ h. h.blocks) view_at

  found_holders : holders_of b (standing_of k).batches ≡ numbers_at (has c.holders) (machines_in k)
  found_holders = holders_found b (standing_of k).batches i (batch_of (machines_in k) c) found_view ∙ ap (λ h. h.holders) view_at

  at_is : (d : Batch) → get_or (batches_in k) i d ≡ c
  at_is d = get_or_default (batches_in k) i d c found_within ∙ sym here.read

  held_within : (q : ℕ) → has c.holders q ≡ true → q < length (machines_in k)
  held_within q is = k.manned i q (ap (λ d. has d.holders q) (at_is no_batch) ∙ is)

  -- other places are other holders
  pub found_other : {a : Batch} {hs : List ℕ} → Asked (machines_in k) a hs
      → not (same_places c.holders a.holders) ≡ (among b (batch_numbers (standing_of k).batches) && not (same hs (holders_of b (standing_of k).batches)))
  found_other {a} {hs} asked = grind (arith, same_is, found_stands)
    where
      equal : Bool
      equal = same_places c.holders a.holders

      equal_places : equal ≡ true → same hs (holders_of b (standing_of k).batches) ≡ true
      equal_places yes-equal =
          ap (same hs) (found_holders ∙ numbers_same (has c.holders) (has a.holders) (machines_in k) ((same_places_decides c.holders a.holders).0 yes-equal) ∙ asked.just) ∙ same_refl hs

      equal_numbers : same hs (holders_of b (standing_of k).batches) ≡ true → equal ≡ true
      equal_numbers yes-same =
          (same_places_decides c.holders a.holders).1 (places_same (has c.holders) (has a.holders) (machines_in k) k.roster.ascends held_within asked.within
          (sym found_holders ∙ sym (same_eq hs (holders_of b (standing_of k).batches) yes-same) ∙ sym asked.just))

      same_is : same hs (holders_of b (standing_of k).batches) ≡ equal
      same_is = grind (arith, equal_places, equal_numbers)

  -- the batch with n blocks in its place
  pub sound_replaced : (n after : ℕ) → outside 1 99999 n ≡ false → after + c.blocks ≡ k.blocks + n
      → Sound (length (machines_in k)) (set (batches_in k) i (record { number = c.number; blocks = n; holders = c.holders })) after
  sound_replaced n after fits sums =
      record {
        ascends = ap ascending same_numbers ∙ k.ascends;
        in_range = all_replaced (batch_in_range (length (machines_in k))) (batches_in k) i new k.in_range
            (and_from _ _ (and_from _ _ (and_parts _ _ old.0).0 (not_from_false _ fits)) old.1);
        manned = manned_replaced (length (machines_in k)) (batches_in k) i new k.manned held_within;
        summed = omega (arith, k.summed, sum_by-set (λ d. d.blocks) (batches_in k) i new c found_within, ap (λ d. d.blocks) (at_is c));
      }
    where
      new : Batch
      new = record { number = c.number; blocks = n; holders = c.holders }

      same_numbers : map (λ d. d.number) (set (batches_in k) i new) ≡ map (λ d. d.number) (batches_in k)
      same_numbers =
          map-set (λ d. d.number) (batches_in k) i new
          ∙ ap (set (map (λ d. d.number) (batches_in k)) i) (sym (key_at (λ d. d.number) (batches_in k) i c found_within here.read))
          ∙ set-get_or (map (λ d. d.number) (batches_in k)) i 0

      old : ((not (outside 1 99999 c.number) && not (outside 1 99999 c.blocks)) ≡ true) × (some_below (length (machines_in k)) (has c.holders) ≡ true)
      old = and_parts _ _ (ap (batch_in_range (length (machines_in k))) (sym (at_is c)) ∙ all_at (batch_in_range (length (machines_in k))) (batches_in k) i c k.in_range found_within)

  pub sound_removed : (after : ℕ) → after + c.blocks ≡ k.blocks → Sound (length (machines_in k)) (remove (batches_in k) i) after
  sound_removed after sums =
      record {
        ascends = ascending_removed (λ d. d.number) (batches_in k) i k.ascends;
        in_range = all_removed (batch_in_range (length (machines_in k))) (batches_in k) i k.in_range;
        manned = manned_removed (length (machines_in k)) (batches_in k) i k.manned;
        summed = omega (arith, k.summed, sum_by-remove (λ d. d.blocks) (batches_in k) i c found_within, ap (λ d. d.blocks) (at_is c));
      }

  pub blocks_stand : c.blocks ≤ k.blocks
  blocks_stand = omega (arith, k.summed, sum_by-remove (λ d. d.blocks) (batches_in k) i c found_within, ap (λ d. d.blocks) (at_is c))

  pub blocks_few : c.blocks ≤ 99999
  blocks_few =
      let old = and_parts _ _ (ap (batch_in_range (length (machines_in k))) (sym (at_is c)) ∙ all_at (batch_in_range (length (machines_in k))) (batches_in k) i c k.in_range found_within) in
      (in_range 1 99999 c.blocks (not-true _ (and_parts _ _ old.0).1)).1

  -- the view of the batch with n blocks
  view_set : (n : ℕ) (after : List Held) → set (standing_of k).batches i (with_count b (get_or (standing_of k).batches i (batch_of (machines_in k) c)) n) ≡ after
      → map (batch_of (machines_in k)) (set (batches_in k) i (record { number = c.number; blocks = n; holders = c.holders })) ≡ after
  view_set n after e =
      map-set (batch_of (machines_in k)) (batches_in k) i (record { number = c.number; blocks = n; holders = c.holders })
      ∙ ap (λ (q : ℕ). set (standing_of k).batches i (record { number = q; blocks = n; holders = numbers_at (has c.holders) (machines_in k) })) number_is
      ∙ ap (λ h. set (standing_of k).batches i (with_count b h n)) (sym view_at) ∙ e

  pub view_more : (n : ℕ) (hs : List ℕ)
      → map (batch_of (machines_in k)) (set (batches_in k) i (record { number = c.number; blocks = c.blocks + n; holders = c.holders })) ≡ more_blocks b n hs (standing_of k).batches
  view_more n hs =
      view_set (c.blocks + n) (more_blocks b n hs (standing_of k).batches)
      (ap (λ (q : ℕ). set (standing_of k).batches i (with_count b (get_or (standing_of k).batches i (batch_of (machines_in k) c)) (q + n))) (ap (λ h. h.blocks) (sym view_at))
      ∙ more_found b n hs (standing_of k).batches i (batch_of (machines_in k) c) found_view)

  pub view_fewer : (n : ℕ) → (c.blocks ≡ n → ⊥)
      → map (batch_of (machines_in k)) (set (batches_in k) i (record { number = c.number; blocks = c.blocks - n; holders = c.holders })) ≡ fewer_blocks b n (standing_of k).batches
  view_fewer n ne =
      view_set (c.blocks - n) (fewer_blocks b n (standing_of k).batches)
      (ap (λ (q : ℕ). set (standing_of k).batches i (with_count b (get_or (standing_of k).batches i (batch_of (machines_in k) c)) (q - n))) (ap (λ h. h.blocks) (sym view_at))
      ∙ fewer_some b n (standing_of k).batches i (batch_of (machines_in k) c) found_view (λ e. ne (ap (λ h. h.blocks) (sym view_at) ∙ e)))

  pub view_removed : (n : ℕ) → c.blocks ≡ n → map (batch_of (machines_in k)) (remove (batches_in k) i) ≡ fewer_blocks b n (standing_of k).batches
  view_removed n e =
      map_removed (batch_of (machines_in k)) (batches_in k) i ∙ fewer_all b n (standing_of k).batches i (batch_of (machines_in k) c) found_view (ap (λ h. h.blocks) view_at ∙ e)

-- what a search in the batches, as they are lent, tells of what stands
module _ (k : Book) {bs : List Batch} (lent : bs ≡ batches_in k) {n i : ℕ} where
  pub read_at : (d : Batch) → i < length bs → (ascending (numbers_of bs) ≡ true → Found n (numbers_of bs) i) → IsRead (standing_of k) n (get_or bs i d)
  read_at d = subst (λ cs. i < length cs → (ascending (numbers_of cs) ≡ true → Found n (numbers_of cs) i) → IsRead (standing_of k) n (get_or cs i d)) (sym lent) (λ lt found.
      let here : Stands k n i (get_or (batches_in k) i d) = record { found = found k.ascends; read = get_or_default (batches_in k) i d _ lt } in
      record { stands = found_stands here; blocks = found_blocks here; holders = found_holders here })

  pub missing_at : (ascending (numbers_of bs) ≡ true → Missing n (numbers_of bs) i) → IsAbsent (standing_of k) n
  missing_at = subst (λ cs. (ascending (numbers_of cs) ≡ true → Missing n (numbers_of cs) i) → IsAbsent (standing_of k) n) (sym lent) (λ missing.
      let lacks : Lacks k n i = record { missing = missing k.ascends } in
      record { stands_not = missing_stands lacks; no_blocks = missing_blocks lacks })

-- what a hold asks for once its ranges and its holders are checked
pub asked_from : (k : Book) {b n : ℕ} {p : Places} {hs : List ℕ} → true ≡ (not (bad_batch_number b) && not (bad_blocks n))
    → outside 1 32 (length hs) ≡ false
    → numbers_at (has p) (machines_in k) ≡ hs → ((i : ℕ) → has p i ≡ true → i < length (machines_in k)) → Asked (machines_in k) (record { number = b; blocks = n; holders = p }) hs
asked_from k {b} {n} {p} {hs} ranges few just inside =
    let parts = and_parts (not (bad_batch_number b)) (not (bad_blocks n)) (sym ranges) in
    record {
      number_in_range = not-true _ parts.0;
      blocks_in_range = not-true _ parts.1;
      some = (in_range 1 32 (length hs) few).0;
      just = just;
      within = inside;
    }
