-- What a plan shows.
--   machines_at p, batches_at p    how many machines and batches its book has
--   share p b i                    the blocks of the batch b that lie at the machine i, both by places
--   load_at p i                    the blocks that lie at the machine i
--   values_in table p              the marks of its machines as numbers
--   value_back table p i           the mark, as a number, of the first of the last `width` blocks of machine i
--   value_after table p i          the mark, as a number, at which machine i would end `width` blocks more
--   helps table p i j a            machine j ends its next a blocks before machine i ends the first of its last a
--   Outreach p C W S i ..          W is all that links of p lead to from machine i and from C, where no link leads out of C;
--                                  S is what of it is not in C, and chains lead there from i within S
--   LevelPlan, ExhaustedPlan, LatestPlan    the notions of levelling, of a plan at its width
use Rattle.std.specs.Prelude.{◌≡◌, ℕ, ◌+◌, ◌-◌, ◌<◌, Bool, true, false, length}
use Rattle.pace.specs.declared.terms.Terms.{Terms}
use Rattle.books.specs.Views.{machines_in, batches_in}
use Rattle.shares.specs.declared.plan.Plan.{Plan}
use Rattle.shares.specs.Stations.{station_at, cell, leads_to}
use Rattle.shares.specs.Levels.{ClosedBy, Exhausted, Latest, Level}
use Rattle.shares.specs.Marks.{later, machine_at, mark_of, values}
use Rattle.shares.specs.Reaches.{Within, Chained}
use Rattle.shares.specs.Tables.{demand_of}

abbrev pub machines_at : Plan → ℕ
machines_at p = length (machines_in p.book)

abbrev pub batches_at : Plan → ℕ
batches_at p = length (batches_in p.book)

abbrev pub share : Plan → ℕ → ℕ → ℕ
share p b i = cell p.stations b i

abbrev pub load_at : Plan → ℕ → ℕ
load_at p i = (station_at p.stations i).load

abbrev pub values_in : (Terms → ℕ → ℕ) → Plan → ℕ → ℕ → ℕ
values_in table p = values table (machines_in p.book)

abbrev pub value_back : (Terms → ℕ → ℕ) → Plan → ℕ → ℕ
value_back table p i = values_in table p i (load_at p i - p.width + 1)

abbrev pub value_after : (Terms → ℕ → ℕ) → Plan → ℕ → ℕ
value_after table p i = values_in table p i (load_at p i + p.width)

abbrev pub helps : (Terms → ℕ → ℕ) → Plan → ℕ → ℕ → ℕ → Bool
helps table p i j a =
    later (mark_of table (machine_at (machines_in p.book) i) (load_at p i - a + 1)) (mark_of table (machine_at (machines_in p.book) j) (load_at p j + a))

abbrev pub ExhaustedPlan : (Terms → ℕ → ℕ) → Plan → (ℕ → Bool) → Type 0
ExhaustedPlan table p C = Exhausted p.width (machines_at p) (demand_of p.book) (values_in table p) (share p) (load_at p) C

abbrev pub LatestPlan : (Terms → ℕ → ℕ) → Plan → (ℕ → Bool) → ℕ → Type 0
LatestPlan table p C i = Latest p.width (machines_at p) (values_in table p) (load_at p) C i

abbrev pub LevelPlan : ℕ → (Terms → ℕ → ℕ) → Plan → Type 0
LevelPlan d table p = Level d (machines_at p) (demand_of p.book) (values_in table p) (share p) (load_at p)

pub record Outreach (p : Plan) (C W S : ℕ → Bool) (i : ℕ) (before : ℕ → ℕ) : Type 0 where
  pub low : (q : ℕ) → W q ≡ true → q < machines_at p
  pub closed : ClosedBy p.width (machines_at p) (demand_of p.book) (share p) W
  pub has_exhausted : Within C W
  pub parts : (q : ℕ) → S q ≡ true → (W q ≡ true) × (C q ≡ false)
  pub rest : (q : ℕ) → W q ≡ true → C q ≡ false → S q ≡ true
  pub has_start : S i ≡ true
  pub apart : (q : ℕ) → C q ≡ true → S q ≡ false
  pub chained : Chained (leads_to p.stations) i S before
