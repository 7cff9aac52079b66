-- What lies at the machines of a plan, by their places.
--   no_station           stands for a machine past the last one: it has no block and no link
--   station_at ss i      what lies at the place i
--   cell ss b i          the blocks of the batch b that lie at the place i
--   leads_to ss i j      the place i leads to the place j
--   Led g s              the links of s lead where the linking g says
use Rattle.std.specs.Prelude.{◌≡◌, ℕ, Bool, List, replicate, slice_index_or}
use Rattle.std.proofs.Common.{sym, ◌∙◌, inl, inr, arith}
use Rattle.std.proofs.lemmas.List.{get_or-replicate, get_or_past, length-replicate}
use Rattle.std.proofs.lemmas.Bool.{cases_lt}
use Rattle.places.specs.Has.{has, no_places}
use Rattle.theory.specs.Sums.{total}
use Rattle.theory.proofs.Sums.{total_eq, total_zero}
use Rattle.shares.specs.declared.linking.Linking.{Linking}
use Rattle.shares.specs.declared.station.Station.{Station}
use Rattle.shares.specs.Cells.{nth}
use Rattle.shares.specs.Links.{links}

pub zero_row : (n b : ℕ) → nth (replicate n 0) b ≡ 0
zero_row n b = elim (cases_lt b n) [
  | inl l ↦ get_or-replicate n b 0 0 l
  | inr l ↦ get_or_past (replicate n 0) b 0 (omega (arith, length-replicate {A = ℕ} n 0))
]

pub no_blocks : 0 ≡ total 128 (nth (replicate 128 0))
no_blocks = sym (total_eq 128 (nth (replicate 128 0)) (λ _. 0) (λ b _. zero_row 128 b) ∙ total_zero 128)

unfoldable pub no_station : Station
no_station = record { blocks = replicate 128 0; load = 0; next = no_places; long = length-replicate {A = ℕ} 128 0; summed = no_blocks }

abbrev pub station_at : List Station → ℕ → Station
station_at ss i = slice_index_or ss i no_station

abbrev pub cell : List Station → ℕ → ℕ → ℕ
cell ss b i = nth (station_at ss i).blocks b

abbrev pub leads_to : List Station → ℕ → ℕ → Bool
leads_to ss i j = has (station_at ss i).next j

abbrev pub Led : Linking → Station → Type 0
Led g s = (j : ℕ) → has s.next j ≡ links g.width g.batches.now (nth s.blocks) j
