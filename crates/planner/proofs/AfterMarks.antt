-- Blocks after a mark, counted by marks as numbers; and what the order of numbers says of marks.
use Rattle.std.proofs.Common.{◌≡◌, ℕ, zero, suc, ◌<◌, min, Bool, ◌&&◌, ◌||◌, eqb, ltb, leb, length, sym, refl, ap, ◌∙◌, inl, inr, arith}
use Rattle.std.proofs.lemmas.Bool.{cases_Bool, cases_lt, le-leb, lt-leb, lt-ltb, le-ltb}
use Rattle.pace.specs.Moments.{count}
use Rattle.pace.specs.declared.terms.Terms.{Terms}
use Rattle.theory.specs.Sums.{only}
use Rattle.theory.specs.ShareOuts.{reached, from}
use Rattle.theory.proofs.Sums.{total_eq}
use Rattle.books.specs.declared.book.Book.{Book}
use Rattle.books.specs.Views.{machines_in, standing_of}
use Rattle.shares.specs.declared.mark.Mark.{Mark}
use Rattle.shares.specs.Marks.{later, value, values}
use Rattle.shares.proofs.Facts.{number_small}
use Rattle.shares.proofs.Ordering.{later_value, not_later_value}
use Rattle.planner.specs.ShareOuts.{ShareOut, to_share, load_of, mark_at, blocks_after}

-- a machine number that is too high, as the highest
capped : Mark → Mark
capped μ = record { moment = μ.moment; number = min μ.number 9999 }

-- the least value after a mark
pub next_value : Mark → ℕ
next_value μ = suc (value (capped μ))

-- a mark of a machine is after μ just where its value is above
later_next : (a μ : Mark) → a.number < 10000 → later a μ ≡ leb (next_value μ) (value a)
unfolding capped next_value
later_next a μ l = ap (λ t. ltb μ.moment a.moment || (eqb μ.moment a.moment && t)) number ∙ elim (cases_Bool (later a (capped μ))) [
  | inl e ↦ e ∙ sym (le-leb _ _ (later_value a (capped μ) l low e))
  | inr e ↦ e ∙ sym (lt-leb _ _ (omega (arith, not_later_value a (capped μ) l low e)))
]
  where
    low : min μ.number 9999 < 10000
    low = omega arith

    number : ltb μ.number a.number ≡ ltb (min μ.number 9999) a.number
    number = elim (cases_lt μ.number a.number) [
      | inl h ↦ lt-ltb μ.number a.number h ∙ sym (lt-ltb (min μ.number 9999) a.number (omega arith))
      | inr h ↦ le-ltb μ.number a.number h ∙ sym (le-ltb (min μ.number 9999) a.number (omega arith))
    ]

count_reached : (p : ℕ → Bool) (f : ℕ → ℕ) (ν l : ℕ) → ((k : ℕ) → p k ≡ leb ν (f k)) → count l p ≡ reached f ν l
unfolding count reached
count_reached p f ν zero same = refl
count_reached p f ν (suc l) same = omega (arith, count_reached p f ν l same, ap (λ t. only t 1) (same (suc l)))

pub blocks_counted : (k : Book) (table : Terms → ℕ → ℕ) (x : ShareOut) (μ : Mark)
    → blocks_after table (standing_of k) x μ ≡ from (length (machines_in k)) (values table (machines_in k)) (to_share (standing_of k)) x (next_value μ)
blocks_counted k table x μ = total_eq (length (machines_in k)) _ _ (λ i l.
    count_reached _ (values table (machines_in k) i) (next_value μ) (load_of (standing_of k) x i) (λ q. later_next (mark_at table (standing_of k) i q) μ (number_small k i l)))
