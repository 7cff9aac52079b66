-- What a machine leads to past the exhausted ones.
use Rattle.std.proofs.Common.{◌≡◌, ℕ, ◌<◌, ◌≤◌, Bool, true, false, not, ◌&&◌, ◌||◌, eqb, ltb, sym, refl, ◌∙◌, inl, inr, arith}
use Rattle.std.proofs.lemmas.Bool.{cases_Bool, both_ways, or_cases, or_left, eq-eqb, ne_eqb, eqb-true, and_parts, lt-ltb, ltb-true}
use Rattle.places.specs.Has.{has}
use Rattle.books.specs.Ranges.{holders_at}
use Rattle.books.specs.Views.{batches_in}
use Rattle.shares.specs.declared.plan.Plan.{Plan}
use Rattle.shares.specs.Stations.{leads_to}
use Rattle.shares.specs.Tables.{demand_of}
use Rattle.shares.specs.Reaches.{Within, Linked, Reached, Chained}
use Rattle.shares.specs.Levels.{ClosedBy}
use Rattle.shares.specs.Plans.{machines_at, batches_at, share, Outreach}
use Rattle.shares.proofs.Facts.{few_machines}
use Rattle.shares.proofs.Leading.{links_some, links_at}

and_not : (u v : Bool) → (u && not v) ≡ true → (u ≡ true) × (v ≡ false)
and_not true true e = absurd (both_ways true (sym e) refl)
and_not true false e = (refl, refl)
and_not false v e = absurd (both_ways false refl e)

and_yes : (u v : Bool) → u ≡ true → v ≡ false → (u && not v) ≡ true
and_yes u v e f = grind arith

-- the reach W of i and all that is exhausted, and what of it is not exhausted, S
module _ (k : Plan) {C from W S : ℕ → Bool} {before : ℕ → ℕ} (i : ℕ)
    (within : (q : ℕ) → C q ≡ true → q < machines_at k) (closed : ClosedBy k.width (machines_at k) (demand_of k.book) (share k) C)
    (li : i < machines_at k) (ci : C i ≡ false)
    (one : (q : ℕ) → from q ≡ (C q || (eqb q i && ltb i 32))) (g : Reached (leads_to k.stations) from W before) (rest : (q : ℕ) → S q ≡ (W q && not (C q))) where
  few : i < 32
  few = omega (arith, li, few_machines k.book)

  starts : (q : ℕ) → from q ≡ true → q < machines_at k
  starts q e = elim (or_cases (C q) (eqb q i && ltb i 32) (sym (one q) ∙ e)) [ inl t ↦ within q t | inr t ↦ rw (eqb-true q i (and_parts _ _ t).0) li ]

  -- a link leads from a machine with blocks enough of a batch to a holder of it
  linked : (q j : ℕ) → q < machines_at k → leads_to k.stations q j ≡ true
      → (b : ℕ) × (b < batches_at k) × (k.width ≤ share k b q) × (has (holders_at (batches_in k.book) b) j ≡ true)
  linked q j l e = links_some k.width (batches_in k.book) j (λ b. share k b q) (sym (k.linked q j l) ∙ e)

  reach_low : (q : ℕ) → W q ≡ true → q < machines_at k
  reach_low q e = ltb-true q (machines_at k) (g.least (λ j. ltb j (machines_at k)) (λ j t. lt-ltb j (machines_at k) (starts j t))
      (λ j r t to. let s = linked j r (ltb-true j (machines_at k) t) to in lt-ltb r (machines_at k) (k.book.manned s.0 r s.3)) q e)

  reach_closed : ClosedBy k.width (machines_at k) (demand_of k.book) (share k) W
  reach_closed b q j lb lq lj e wide held =
      g.shut q j e (k.linked q j lq ∙ links_at k.width (batches_in k.book) j (λ c. share k c q) b lb wide held)

  reach_has : Within C W
  reach_has q e = g.starts q (one q ∙ or_left (C q) (eqb q i && ltb i 32) e)

  from_i : from i ≡ true
  from_i = one i ∙ rw (eq-eqb i i refl, lt-ltb i 32 few) (or_true (C i))
    where
      or_true : (u : Bool) → (u || true) ≡ true
      or_true u = grind arith

  rest_in : (q : ℕ) → S q ≡ true → (W q ≡ true) × (C q ≡ false)
  rest_in q e = and_not (W q) (C q) (sym (rest q) ∙ e)

  rest_from : (q : ℕ) → W q ≡ true → C q ≡ false → S q ≡ true
  rest_from q e f = rest q ∙ and_yes (W q) (C q) e f

  rest_i : S i ≡ true
  rest_i = rest_from i (g.starts i from_i) ci

  rest_out : (q : ℕ) → C q ≡ true → S q ≡ false
  rest_out q e = elim (cases_Bool (S q)) [ inl t ↦ absurd (both_ways (C q) (rest_in q t).1 e) | inr f ↦ f ]

  -- a chain to a machine that is not exhausted passes through none that is
  rest_chained : Chained (leads_to k.stations) i S before
  rest_chained = record { stage = g.stage; few = λ q e. g.few q (rest_in q e).0; linked = rest_linked }
    where
      rest_linked : (q : ℕ) → S q ≡ true → (q ≡ i → ⊥) → Linked (leads_to k.stations) S before g.stage q
      rest_linked q e ne =
          let in-q = rest_in q e in
          let off : from q ≡ false = one q ∙ rw (in-q.1, ne_eqb q i ne) refl in
          let o = g.linked q in-q.0 off in
          let r = before q in
          let s = linked r q (reach_low r o.inside) o.leads in
          let none : C r ≡ false = elim (cases_Bool (C r)) [
            | inl t ↦ absurd (both_ways (C q) in-q.1 (closed s.0 r q s.1 (reach_low r o.inside) (reach_low q in-q.0) t s.2 s.3))
            | inr f ↦ f
          ] in
          record { inside = rest_from r o.inside none; leads = o.leads; earlier = o.earlier }

  pub outreach : Outreach k C W S i before
  outreach = record {
    low = reach_low;
    closed = reach_closed;
    has_exhausted = reach_has;
    parts = rest_in;
    rest = rest_from;
    has_start = rest_i;
    apart = rest_out;
    chained = rest_chained;
  }
