-- What a search for a residual reach finds.
--   Within S T                   each place of S is in T
--   Shut E S                     no link of E leads out of S
--   Linked E S before stage i    the place i has a link from a place of S, at a smaller stage
--   Reached E from S before      S is all that links of E lead to from the places of `from`: the least shut set that has
--                                these; and each other place of S has its link, for some stages of at most 32
--   Chained E start S before     each place of S but the start has its link, for some stages of at most 32
--   Noted new i ..               the place i is noted for each new place
use Rattle.std.specs.Prelude.{◌≡◌, ℕ, ◌<◌, ◌≤◌, Bool, true, false, ◌≢◌}

abbrev pub Within : (ℕ → Bool) → (ℕ → Bool) → Type 0
Within S T = (i : ℕ) → S i ≡ true → T i ≡ true

abbrev pub Shut : (ℕ → ℕ → Bool) → (ℕ → Bool) → Type 0
Shut E S = (i j : ℕ) → S i ≡ true → E i j ≡ true → S j ≡ true

pub record Linked (E : ℕ → ℕ → Bool) (S : ℕ → Bool) (before stage : ℕ → ℕ) (i : ℕ) : Type 0 where
  pub inside : S (before i) ≡ true
  pub leads : E (before i) i ≡ true
  pub earlier : stage (before i) < stage i

pub record Reached (E : ℕ → ℕ → Bool) (from S : ℕ → Bool) (before : ℕ → ℕ) : Type 0 where
  pub starts : Within from S
  pub shut : Shut E S
  pub least : (T : ℕ → Bool) → Within from T → Shut E T → Within S T
  pub stage : ℕ → ℕ
  pub few : (i : ℕ) → S i ≡ true → stage i ≤ 32
  pub linked : (i : ℕ) → S i ≡ true → from i ≡ false → Linked E S before stage i

pub record Chained (E : ℕ → ℕ → Bool) (start : ℕ) (S : ℕ → Bool) (before : ℕ → ℕ) : Type 0 where
  pub stage : ℕ → ℕ
  pub few : (i : ℕ) → S i ≡ true → stage i ≤ 32
  pub linked : (i : ℕ) → S i ≡ true → (i ≢ start) → Linked E S before stage i

-- the others are as they were
pub record Noted (new : ℕ → Bool) (i : ℕ) (before before' : ℕ → ℕ) : Type 0 where
  pub here : (k : ℕ) → new k ≡ true → before' k ≡ i
  pub elsewhere : (k : ℕ) → new k ≡ false → before' k ≡ before k
