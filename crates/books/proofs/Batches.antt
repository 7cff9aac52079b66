-- What stands after a batch is started, gets more blocks, loses some or is removed at its place.
use Rattle.std.proofs.Common.{◌≡◌, ℕ, zero, suc, ◌+◌, ◌-◌, false, List, [], ◌∷◌, get_or, set, refl, arith}
use Rattle.std.specs.List.{insert, remove}
use Rattle.std.proofs.lemmas.Bool.Decides.{nat_tests}
use Rattle.books.specs.Numbers.{among, Found, Missing}
use Rattle.books.specs.Standing.{Held, batch_numbers, blocks_of, holders_of, more_blocks, fewer_blocks}
use Rattle.books.proofs.Records.{found_next, missing_next}

-- a batch with other blocks
abbrev pub with_count : ℕ → Held → ℕ → Held
with_count b c n = record { number = b; blocks = n; holders = c.holders }

module _ (b : ℕ) where
  pub blocks_found : (cs : List Held) (i : ℕ) (d : Held) → Found b (batch_numbers cs) i → blocks_of b cs ≡ (get_or cs i d).blocks
  blocks_found [] i d f = absurd (omega (arith, f.within))
  blocks_found (c ∷ cs) zero d f = grind (arith, nat_tests, f.here)
  blocks_found (c ∷ cs) (suc i) d f = grind (arith, nat_tests, f.lower 0 (omega arith), blocks_found cs i d (found_next b c.number (batch_numbers cs) i f))

  pub holders_found : (cs : List Held) (i : ℕ) (d : Held) → Found b (batch_numbers cs) i → holders_of b cs ≡ (get_or cs i d).holders
  holders_found [] i d f = absurd (omega (arith, f.within))
  holders_found (c ∷ cs) zero d f = grind (arith, nat_tests, f.here)
  holders_found (c ∷ cs) (suc i) d f = grind (arith, nat_tests, f.lower 0 (omega arith), holders_found cs i d (found_next b c.number (batch_numbers cs) i f))

  pub blocks_missing : (cs : List Held) → among b (batch_numbers cs) ≡ false → blocks_of b cs ≡ 0
  blocks_missing [] none = refl
  blocks_missing (c ∷ cs) none = grind (arith, nat_tests, none, blocks_missing cs)

  module _ (n : ℕ) (hs : List ℕ) where
    pub more_found : (cs : List Held) (i : ℕ) (d : Held) → Found b (batch_numbers cs) i
        → set cs i (with_count b (get_or cs i d) ((get_or cs i d).blocks + n)) ≡ more_blocks b n hs cs
    more_found [] i d f = absurd (omega (arith, f.within))
    more_found (c ∷ cs) zero d f = grind (arith, nat_tests, f.here)
    more_found (c ∷ cs) (suc i) d f = grind (arith, nat_tests, f.lower 0 (omega arith), more_found cs i d (found_next b c.number (batch_numbers cs) i f))

    pub more_missing : (cs : List Held) (i : ℕ) → Missing b (batch_numbers cs) i
        → insert cs i (record { number = b; blocks = n; holders = hs }) ≡ more_blocks b n hs cs
    more_missing [] zero m = refl
    more_missing [] (suc i) m = absurd (omega (arith, m.within))
    more_missing (c ∷ cs) zero m = grind (arith, nat_tests, m.higher 0 (omega arith) (omega arith))
    more_missing (c ∷ cs) (suc i) m = grind (arith, nat_tests, m.lower 0 (omega arith), more_missing cs i (missing_next b c.number (batch_numbers cs) i m))

  module _ (n : ℕ) where
    pub fewer_some : (cs : List Held) (i : ℕ) (d : Held) → Found b (batch_numbers cs) i → ((get_or cs i d).blocks ≡ n → ⊥)
        → set cs i (with_count b (get_or cs i d) ((get_or cs i d).blocks - n)) ≡ fewer_blocks b n cs
    fewer_some [] i d f ne = absurd (omega (arith, f.within))
    fewer_some (c ∷ cs) zero d f ne = grind (arith, nat_tests, f.here, ne)
    fewer_some (c ∷ cs) (suc i) d f ne = grind (arith, nat_tests, f.lower 0 (omega arith), fewer_some cs i d (found_next b c.number (batch_numbers cs) i f) ne)

    pub fewer_all : (cs : List Held) (i : ℕ) (d : Held) → Found b (batch_numbers cs) i → (get_or cs i d).blocks ≡ n
        → remove cs i ≡ fewer_blocks b n cs
    fewer_all [] i d f e = absurd (omega (arith, f.within))
    fewer_all (c ∷ cs) zero d f e = grind (arith, nat_tests, f.here, e)
    fewer_all (c ∷ cs) (suc i) d f e = grind (arith, nat_tests, f.lower 0 (omega arith), fewer_all cs i d (found_next b c.number (batch_numbers cs) i f) e)
