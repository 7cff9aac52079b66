-- Blocks of one batch, moved from a machine to another: what stays true of shares, loads and links.
use Rattle.std.proofs.Common.{◌≡◌, ℕ, ◌+◌, ◌<◌, ◌≤◌, Bool, true, false, eqb, List, length, set, sym, ap, ◌∙◌, inl, inr, arith}
use Rattle.std.proofs.lemmas.List.{get_or-set_same, get_or-set_other, length-set}
use Rattle.std.proofs.lemmas.Bool.{cases_eq}
use Rattle.theory.specs.Sums.{only}
use Rattle.theory.specs.Moves.{at, Moved}
use Rattle.theory.proofs.Moves.{at_off, at_held}
use Rattle.shares.specs.declared.station.Station.{Station}
use Rattle.books.specs.declared.batch.Batch.{Batch}
use Rattle.places.specs.Has.{has}
use Rattle.shares.specs.declared.linking.Linking.{Linking}
use Rattle.shares.specs.Cells.{nth}
use Rattle.shares.specs.Links.{links}
use Rattle.shares.specs.Stations.{no_station, station_at, cell, leads_to, Led}
use Rattle.shares.proofs.Blocks.{at_same}

-- two stations of a list are put anew
module _ (ss : List Station) (v u : ℕ) (s t : Station) (lv : v < length ss) (lu : u < length ss) (ne : v ≡ u → ⊥) where
  pub new_to : station_at (set (set ss v s) u t) u ≡ t
  new_to = get_or-set_same (set ss v s) u t no_station (omega (arith, lu, length-set ss v s))

  pub new_from : station_at (set (set ss v s) u t) v ≡ s
  new_from = get_or-set_other (set ss v s) u v t no_station ne ∙ get_or-set_same ss v s no_station lv

  pub new_other : (q : ℕ) → (q ≡ v → ⊥) → (q ≡ u → ⊥) → station_at (set (set ss v s) u t) q ≡ station_at ss q
  new_other q dv du = get_or-set_other (set ss v s) u q t no_station du ∙ get_or-set_other ss v q s no_station dv

  -- what is so of both, and of the others, is so of each
  pub each_station : (P : ℕ → Station → Type 0) → P v s → P u t → ((q : ℕ) → (q ≡ v → ⊥) → (q ≡ u → ⊥) → P q (station_at ss q))
      → (q : ℕ) → P q (station_at (set (set ss v s) u t) q)
  each_station P pv pu others q = elim (cases_eq q u) [
    | inl e ↦ rw e (rw new_to pu)
    | inr du ↦ elim (cases_eq q v) [ inl e ↦ rw e (rw new_from pv) | inr dv ↦ rw (new_other q dv du) (others q dv du) ]
  ]

  module _ (b a : ℕ) (took : (c : ℕ) → nth (station_at ss v).blocks c ≡ nth s.blocks c + only (eqb c b) a)
      (gave : (c : ℕ) → nth t.blocks c ≡ nth (station_at ss u).blocks c + only (eqb c b) a) where
    pub moved : Moved a b v u (cell ss) (cell (set (set ss v s) u t))
    moved = record {
      cells = λ c q. each_station (λ q r. nth r.blocks c + at b v c q a ≡ cell ss c q + at b u c q a)
          (omega (arith, took c, at_same b v c a, at_off b u c v a ne))
          (omega (arith, gave c, at_same b u c a, at_off b v c u a (λ e. ne (sym e))))
          (λ q dv du. omega (arith, at_off b v c q a dv, at_off b u c q a du)) q;
    }

  -- the links of both lead right again, and those of the others still
  module _ (g : Linking) {w : ℕ} {bs : List Batch} (batches : g.batches.now ≡ bs) (width : g.width ≡ w) where
    into : (r : Station) → Led g r → (j : ℕ) → has r.next j ≡ links w bs (nth r.blocks) j
    into r led j = led j ∙ ap (λ d. links d g.batches.now (nth r.blocks) j) width ∙ ap (λ hs. links w hs (nth r.blocks) j) batches

    back : (r : Station) → ((j : ℕ) → has r.next j ≡ links w bs (nth r.blocks) j) → Led g r
    back r led j = led j ∙ sym (ap (λ d. links d g.batches.now (nth r.blocks) j) width ∙ ap (λ hs. links w hs (nth r.blocks) j) batches)

    pub relinked : (m : ℕ) → v < m → u < m → (Led g (station_at ss v) → Led g s) → (Led g (station_at ss u) → Led g t)
        → ((i j : ℕ) → i < m → leads_to ss i j ≡ links w bs (λ c. cell ss c i) j)
        → (i j : ℕ) → i < m → leads_to (set (set ss v s) u t) i j ≡ links w bs (λ c. cell (set (set ss v s) u t) c i) j
    relinked m mv mu lost gained led i j l = each_station (λ q r. q < m → (k : ℕ) → has r.next k ≡ links w bs (nth r.blocks) k)
        (λ _. into s (lost (back (station_at ss v) (λ k. led v k mv))))
        (λ _. into t (gained (back (station_at ss u) (λ k. led u k mu))))
        (λ q _ _ lq k. led q k lq) i l j

-- off the place that they leave, blocks only come
pub moved_gains : {a b v u : ℕ} {x y : ℕ → ℕ → ℕ} → Moved a b v u x y → (c q : ℕ) → (q ≡ v → ⊥) → x c q ≤ y c q
moved_gains {a} {b} {v} {u} mv c q d = omega (arith, mv.cells c q, at_off b v c q a d)

-- a machine that is no holder has none after the move either
pub held_after : {a b v u : ℕ} {x y : ℕ → ℕ → ℕ} (H : ℕ → ℕ → Bool) → Moved a b v u x y → H b u ≡ true → ((c q : ℕ) → H c q ≡ false → x c q ≡ 0)
    → (c q : ℕ) → H c q ≡ false → y c q ≡ 0
held_after {a} {b} {v} {u} H mv yes-u none c q e = omega (arith, mv.cells c q, none c q e, at_held H b u c q a yes-u e)
