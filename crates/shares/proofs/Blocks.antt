-- The blocks that lie at one machine, and at one of several.
use Rattle.std.proofs.Common.{◌≡◌, ℕ, ◌+◌, ◌<◌, ◌≤◌, eqb, List, length, set, get_or, replicate, ap, ◌∙◌, inl, inr, arith}
use Rattle.std.proofs.lemmas.List.{get_or_default, get_or_past, get_or-replicate, get_or-set_same, get_or-set_other, length-replicate}
use Rattle.std.proofs.lemmas.Bool.{cases_eq, cases_lt}
use Rattle.std.proofs.lemmas.Bool.Decides.{nat_tests}
use Rattle.theory.specs.Sums.{total, only}
use Rattle.theory.specs.Moves.{at}
use Rattle.theory.proofs.Moves.{at_off}
use Rattle.theory.proofs.Sums.{total_eq, total_add, total_here, term_le, only_here, only_off}
use Rattle.shares.specs.declared.station.Station.{Station}
use Rattle.shares.specs.Cells.{nth}
use Rattle.shares.specs.Stations.{zero_row, no_station, station_at, cell}

pub at_same : (c u b a : ℕ) → at c u b u a ≡ only (eqb b c) a
at_same c u b a = grind (arith, nat_tests)

-- a row with other blocks of the batch b
module _ (row : List ℕ) (b v : ℕ) (l : b < length row) where
  pub put_more : (a : ℕ) → v ≡ nth row b + a → (c : ℕ) → nth (set row b v) c ≡ nth row c + only (eqb c b) a
  put_more a is c = elim (cases_eq c b) [
    | inl e ↦ rw e (omega (arith, is, get_or-set_same row b v 0 l, only_here b a))
    | inr d ↦ omega (arith, get_or-set_other row b c v 0 d, only_off c b a d)
  ]

  pub put_fewer : (a : ℕ) → v + a ≡ nth row b → (c : ℕ) → nth row c ≡ nth (set row b v) c + only (eqb c b) a
  put_fewer a is c = elim (cases_eq c b) [
    | inl e ↦ rw e (omega (arith, is, get_or-set_same row b v 0 l, only_here b a))
    | inr d ↦ omega (arith, get_or-set_other row b c v 0 d, only_off c b a d)
  ]

-- a row with a blocks of the batch b more has a more in all
pub sum_more : (n b a : ℕ) (x y : ℕ → ℕ) → b < n → ((c : ℕ) → y c ≡ x c + only (eqb c b) a) → total n y ≡ total n x + a
sum_more n b a x y l more = omega (arith, total_eq n y _ (λ c _. more c), total_add n x (λ c. only (eqb c b) a), total_here n b a l)

pub blocks_within : (s : Station) (b : ℕ) → b < 128 → nth s.blocks b ≤ s.load
blocks_within s b l = omega (arith, s.summed, term_le 128 (nth s.blocks) b l)

-- an element that is read is what lies at its place
pub at_place : (ss : List Station) (i : ℕ) (s : Station) → i < length ss → get_or ss i s ≡ station_at ss i
at_place ss i s l = get_or_default ss i s no_station l

pub no_cell : (e : Station) → ((b : ℕ) → nth e.blocks b ≡ 0) → (n b i : ℕ) → cell (replicate n e) b i ≡ 0
unfolding no_station
no_cell e none n b i = elim (cases_lt i n) [
  | inl l ↦ ap (λ (s : Station). nth s.blocks b) (get_or-replicate n i e no_station l) ∙ none b
  | inr l ↦ ap (λ (s : Station). nth s.blocks b) (get_or_past (replicate n e) i no_station (omega (arith, length-replicate {A = Station} n e))) ∙ zero_row 128 b
]

-- one station has blocks of the batch b more
pub put_at : (ss : List Station) (i : ℕ) (s : Station) (b a : ℕ) → i < length ss → ((c : ℕ) → nth s.blocks c ≡ nth (station_at ss i).blocks c + only (eqb c b) a)
    → (c q : ℕ) → cell (set ss i s) c q ≡ cell ss c q + at b i c q a
put_at ss i s b a l more c q = elim (cases_eq q i) [
  | inl e ↦ rw e (ap (λ (t : Station). nth t.blocks c) (get_or-set_same ss i s no_station l) ∙ omega (arith, more c, at_same b i c a))
  | inr d ↦ ap (λ (t : Station). nth t.blocks c) (get_or-set_other ss i q s no_station d) ∙ omega (arith, at_off b i c q a d)
]
