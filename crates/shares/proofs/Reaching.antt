-- The steps of a search for a residual reach.
use Rattle.std.proofs.Common.{◌≡◌, ℕ, ◌<◌, ◌≤◌, Bool, true, false, cond, not, ◌&&◌, ◌||◌, eqb, sym, refl, ap, ◌∙◌, inl, inr, arith}
use Rattle.std.proofs.lemmas.Bool.{cases_eq, cases_Bool, both_ways, eq-eqb, ne_eqb, and_parts, and_right, not_from_true, or_left, or_right, or_from}
use Rattle.places.specs.Has.{size}
use Rattle.theory.specs.Sums.{total, only}
use Rattle.theory.proofs.Sums.{total_eq, total_lt}
use Rattle.shares.specs.Reaches.{Within, Shut, Linked, Reached, Noted}
use Rattle.shares.proofs.Sizes.{size_le, size_lt, size_few, without_within}

-- a search that has looked on from each place found, but for those still to do
pub record Searching (E : ℕ → ℕ → Bool) (from S todo : ℕ → Bool) (before : ℕ → ℕ) : Type 0 where
  pub starts : Within from S
  pub found : Within todo S
  pub low : (i : ℕ) → S i ≡ true → i < 32
  pub shut : (i j : ℕ) → S i ≡ true → todo i ≡ false → E i j ≡ true → S j ≡ true
  pub least : (T : ℕ → Bool) → Within from T → Shut E T → Within S T
  pub stage : ℕ → ℕ
  pub stages : (i : ℕ) → S i ≡ true → stage i ≤ size S
  pub linked : (i : ℕ) → S i ≡ true → from i ≡ false → Linked E S before stage i

-- a search with nothing left to do has all that is reached
pub searched : {E : ℕ → ℕ → Bool} {from S todo : ℕ → Bool} {before : ℕ → ℕ} → Searching E from S todo before → ((k : ℕ) → todo k ≡ false) → Reached E from S before
searched {S = S} s none = record {
  starts = s.starts;
  shut = λ i j e h. s.shut i j e (none i) h;
  least = s.least;
  stage = s.stage;
  few = λ i e. omega (arith, s.stages i e, size_few S);
  linked = s.linked;
}

-- what is left to do: a place that is not found may still be found, and one to do is to be looked on from
abbrev pub left : (ℕ → Bool) → (ℕ → Bool) → ℕ
left S todo = total 32 (λ k. cond (S k) (only (todo k) 1) 2)

pub searching_start : (E : ℕ → ℕ → Bool) (from todo : ℕ → Bool) (before : ℕ → ℕ)
    → ((k : ℕ) → todo k ≡ from k) → ((k : ℕ) → from k ≡ true → k < 32) → Searching E from from todo before
searching_start E from todo before same low = record {
  starts = λ _ e. e;
  found = λ k e. sym (same k) ∙ e;
  low = low;
  shut = λ i j e f _. absurd (both_ways (from i) (sym (same i) ∙ f) e);
  least = λ T in-T _. in-T;
  stage = λ _. 0;
  stages = λ i e. omega arith;
  linked = λ i e f. absurd (both_ways (from i) f e);
}

pub searching_same : {E : ℕ → ℕ → Bool} {from S todo : ℕ → Bool} {before : ℕ → ℕ} (todo' : ℕ → Bool)
    → ((k : ℕ) → todo' k ≡ todo k) → Searching E from S todo before → Searching E from S todo' before
searching_same todo' same s = record {
  starts = s.starts;
  found = λ k e. s.found k (sym (same k) ∙ e);
  low = s.low;
  shut = λ i j e f. s.shut i j e (sym (same i) ∙ f);
  least = s.least;
  stage = s.stage;
  stages = s.stages;
  linked = s.linked;
}

-- the layer without i, and what is found with the new places: just i is done, and just the new places are to do
pub todo_step : (L L' F F' N : ℕ → Bool) (i : ℕ) → ((k : ℕ) → L k ≡ true → F k ≡ false) → L i ≡ true
    → ((k : ℕ) → L' k ≡ (L k && not (eqb k i))) → ((k : ℕ) → F' k ≡ (F k || N k))
    → (k : ℕ) → (L' k || F' k) ≡ (((L k || F k) && not (eqb k i)) || N k)
todo_step L L' F F' N i apart li less more k = rw (less k, more k) (elim (cases_eq k i) [
  | inl e ↦ gone (L k) (F k) (N k) (eqb k i) (eq-eqb k i e) (apart k (rw e li))
  | inr d ↦ kept (L k) (F k) (N k) (eqb k i) (ne_eqb k i d)
])
  where
    gone : (l f n b : Bool) → b ≡ true → f ≡ false → ((l && not b) || (f || n)) ≡ (((l || f) && not b) || n)
    gone l f n b e h = grind arith

    kept : (l f n b : Bool) → b ≡ false → ((l && not b) || (f || n)) ≡ (((l || f) && not b) || n)
    kept l f n b e = grind arith

-- a look on from the place i, which is to do
module _ {E : ℕ → ℕ → Bool} {from S todo : ℕ → Bool} {before : ℕ → ℕ} (s : Searching E from S todo before)
    (i : ℕ) (new S' todo' : ℕ → Bool) (hi : todo i ≡ true)
    (is_new : (k : ℕ) → new k ≡ (E i k && not (S k))) (more : (k : ℕ) → S' k ≡ (S k || new k))
    (now-todo : (k : ℕ) → todo' k ≡ ((todo k && not (eqb k i)) || new k)) (low-new : (k : ℕ) → new k ≡ true → k < 32) where
  old : Within S S'
  old k e = more k ∙ ap (λ t. t || new k) e

  -- a place of S' is one of S, or i leads to it
  which : (k : ℕ) → S' k ≡ true → S k ≡ false → (new k ≡ true) × (E i k ≡ true)
  which k e f = let n : new k ≡ true = sym (ap (λ t. t || new k) f) ∙ sym (more k) ∙ e in (n, (and_parts _ _ (sym (is_new k) ∙ n)).0)

  not_new : (k : ℕ) → S k ≡ true → new k ≡ false
  not_new k e = is_new k ∙ and_right (E i k) _ (not_from_true _ e)

  led_to : (k : ℕ) → E i k ≡ true → S' k ≡ true
  led_to k e = more k ∙ ap (λ t. S k || t) (is_new k) ∙ either (E i k) (S k) e
    where
      either : (a b : Bool) → a ≡ true → (b || (a && not b)) ≡ true
      either a b h = grind arith

  to_do_then : (k : ℕ) → todo' k ≡ false → (k ≡ i → ⊥) → todo k ≡ false
  to_do_then k e d = was (todo k) (eqb k i) (new k) (ne_eqb k i d) (sym (now-todo k) ∙ e)
    where
      was : (a b c : Bool) → b ≡ false → ((a && not b) || c) ≡ false → a ≡ false
      was a b c f h = grind arith

  new_todo : (k : ℕ) → new k ≡ true → todo' k ≡ true
  new_todo k e = now-todo k ∙ or_right (todo k && not (eqb k i)) (new k) e

  pub searching_less : left S' todo' < left S todo
  searching_less = total_lt 32 _ _ i (s.low i (s.found i hi)) (λ k _. each k) (here (S i) (S' i) (todo i) (todo' i) (s.found i hi) (old i (s.found i hi)) hi gone)
    where
      gone : todo' i ≡ false
      gone = now-todo i ∙ out (todo i) (eqb i i) (new i) (eq-eqb i i refl) (not_new i (s.found i hi))
        where
          out : (a b c : Bool) → b ≡ true → c ≡ false → ((a && not b) || c) ≡ false
          out a b c f h = grind arith

      here : (a a' o o' : Bool) → a ≡ true → a' ≡ true → o ≡ true → o' ≡ false → cond a' (only o' 1) 2 < cond a (only o 1) 2
      here a a' o o' e e' f f' = rw (e, e', f, f') (omega arith)

      weigh : (a n o b : Bool) → (a ≡ true → n ≡ false) → cond (a || n) (only ((o && not b) || n) 1) 2 ≤ cond a (only o 1) 2
      weigh a n o b h = grind arith

      each : (k : ℕ) → cond (S' k) (only (todo' k) 1) 2 ≤ cond (S k) (only (todo k) 1) 2
      each k = rw (more k, now-todo k) (weigh (S k) (new k) (todo k) (eqb k i) (not_new k))

  module _ {before' : ℕ → ℕ} (n : Noted new i before before') where
    -- the new places are at the stage that counts all places found
    at_stage : ℕ → ℕ
    at_stage k = cond (new k) (size S') (s.stage k)

    at_new : (k : ℕ) → new k ≡ true → at_stage k ≡ size S'
    unfolding at_stage
    at_new k e = rw e refl

    at_old : (k : ℕ) → S k ≡ true → at_stage k ≡ s.stage k
    unfolding at_stage
    at_old k e = rw (not_new k e) refl

    kept : (k : ℕ) → S k ≡ true → before' k ≡ before k
    kept k e = n.elsewhere k (not_new k e)

    old_link : (k : ℕ) → S k ≡ true → Linked E S before s.stage k → Linked E S' before' at_stage k
    old_link k e o =
        let b = kept k e in
        record {
          inside = ap S' b ∙ old (before k) o.inside;
          leads = ap (λ x. E x k) b ∙ o.leads;
          earlier = omega (arith, ap at_stage b, at_old (before k) o.inside, at_old k e, o.earlier);
        }

    new_link : (k : ℕ) → S' k ≡ true → S k ≡ false → Linked E S' before' at_stage k
    new_link k e f =
        let w = which k e f in
        let h = n.here k w.0 in
        let si = s.found i hi in
        record {
          inside = ap S' h ∙ old i si;
          leads = ap (λ x. E x k) h ∙ w.1;
          earlier = omega (arith, ap at_stage h, at_new k w.0, at_old i si, s.stages i si, size_lt S S' old k (low-new k w.0) f e);
        }

    pub searching_more : Searching E from S' todo' before'
    searching_more = record {
      starts = λ k e. old k (s.starts k e);
      found = λ k e. elim (cases_Bool (new k)) [
        | inl t ↦ more k ∙ or_right (S k) (new k) t
        | inr f ↦ old k (s.found k (was (todo k) (eqb k i) (new k) f (sym (now-todo k) ∙ e)))
      ];
      low = λ k e. elim (cases_Bool (S k)) [ inl in-S ↦ s.low k in-S | inr out ↦ low-new k (which k e out).0 ];
      shut = λ k j e f h. elim (cases_Bool (S k)) [
        | inr out ↦ absurd (both_ways (todo' k) f (new_todo k (which k e out).0))
        | inl in-S ↦ elim (cases_eq k i) [
          | inl same ↦ led_to j (rw same at h)
          | inr d ↦ old j (s.shut k j in-S (to_do_then k f d) h)
        ]
      ];
      least = λ T in-T shut-T k e. elim (cases_Bool (S k)) [
        | inl in-S ↦ s.least T in-T shut-T k in-S
        | inr out ↦ shut-T i k (s.least T in-T shut-T i (s.found i hi)) (which k e out).1
      ];
      stage = at_stage;
      stages = λ k e. elim (cases_Bool (S k)) [
        | inl in-S ↦ omega (arith, at_old k in-S, s.stages k in-S, size_le S S' old)
        | inr out ↦ omega (arith, at_new k (which k e out).0)
      ];
      linked = λ k e f. elim (cases_Bool (S k)) [ inl in-S ↦ old_link k in-S (s.linked k in-S f) | inr out ↦ new_link k e out ];
    }
      where
        was : (a b c : Bool) → c ≡ false → ((a && not b) || c) ≡ true → a ≡ true
        was a b c f h = grind arith

-- one turn of the search: the place i of the layer is looked on from
pub record Turned (E : ℕ → ℕ → Bool) (from S S' L F L' F' : ℕ → Bool) (before' : ℕ → ℕ) : Type 0 where
  pub searching : Searching E from S' (λ k. L' k || F' k) before'
  pub less : left S' (λ k. L' k || F' k) < left S (λ k. L k || F k)
  pub apart : (k : ℕ) → L' k ≡ true → F' k ≡ false

pub turned : {E : ℕ → ℕ → Bool} {from S S' L L' F F' new : ℕ → Bool} {before before' : ℕ → ℕ} (i : ℕ)
    → Searching E from S (λ k. L k || F k) before → ((k : ℕ) → L k ≡ true → F k ≡ false) → L i ≡ true
    → ((k : ℕ) → L' k ≡ (L k && not (eqb k i))) → ((k : ℕ) → new k ≡ (E i k && not (S k))) → ((k : ℕ) → S' k ≡ (S k || new k))
    → ((k : ℕ) → F' k ≡ (F k || new k)) → ((k : ℕ) → new k ≡ true → k < 32) → Noted new i before before'
    → Turned E from S S' L F L' F' before'
turned {E} {S = S} {S' = S'} {L = L} {L' = L'} {F = F} {F' = F'} {new = new} i s apart li takes is_new more found low n = record {
  searching = searching_more s i new S' (λ k. L' k || F' k) hi is_new more step low n;
  less = searching_less s i new S' (λ k. L' k || F' k) hi is_new more step low;
  apart = λ k e. found k ∙ or_from (F k) (new k) (apart k (was k e)) (is_new k ∙ and_right (E i k) _ (not_from_true _ (s.found k (or_left (L k) (F k) (was k e)))));
}
  where
    hi : (L i || F i) ≡ true
    hi = or_left (L i) (F i) li

    step : (k : ℕ) → (L' k || F' k) ≡ (((L k || F k) && not (eqb k i)) || new k)
    step = todo_step L L' F F' new i apart li takes found

    was : (k : ℕ) → L' k ≡ true → L k ≡ true
    was = without_within L' L i takes

pub left_same : (S T U : ℕ → Bool) → ((k : ℕ) → T k ≡ U k) → left S T ≡ left S U
left_same S T U same = total_eq 32 _ _ (λ k _. ap (λ t. cond (S k) (only t 1) 2) (same k))
