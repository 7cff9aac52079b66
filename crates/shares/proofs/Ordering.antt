-- The order of marks is the order of their values, and the marks of a book's machines are ordered as share-outs want it.
use Rattle.std.proofs.Common.{◌≡◌, ℕ, suc, ◌<◌, ◌≤◌, true, false, ◌&&◌, eqb, ltb, length, inl, inr, arith}
use Rattle.std.proofs.lemmas.Bool.{cases_order, cases_lt, both_ways, or_cases, or_parts, and_parts, and_from, ltb-true, ltb-false, lt-ltb, eqb-true, eq-eqb}
use Rattle.pace.specs.declared.terms.Terms.{Terms}
use Rattle.pace.specs.Moments.{Fit}
use Rattle.theory.specs.ShareOuts.{Order}
use Rattle.books.specs.declared.book.Book.{Book}
use Rattle.books.specs.Views.{machines_in}
use Rattle.shares.specs.declared.mark.Mark.{Mark}
use Rattle.shares.specs.Marks.{later, machine_at, value, values}
use Rattle.shares.proofs.Facts.{number_small, numbers_rise, terms_fit}

module _ (a b : Mark) (la : a.number < 10000) (lb : b.number < 10000) where
  pub later_value : later a b ≡ true → value b < value a
  later_value e = elim (or_cases (ltb b.moment a.moment) _ e) [
    | inl moment ↦ omega (arith, ltb-true b.moment a.moment moment)
    | inr both ↦ let r = and_parts (eqb b.moment a.moment) _ both in
        omega (arith, eqb-true b.moment a.moment r.0, ltb-true b.number a.number r.1)
  ]

  pub not_later_value : later a b ≡ false → value a ≤ value b
  not_later_value e =
      let r = or_parts (ltb b.moment a.moment) (eqb b.moment a.moment && ltb b.number a.number) e in
      let le : a.moment ≤ b.moment = ltb-false b.moment a.moment r.0 in
      elim (cases_lt (value b) (value a)) [
        | inr s ↦ s
        | inl s ↦
            let same : b.moment ≡ a.moment = omega arith in
            let less : b.number < a.number = omega arith in
            absurd (both_ways _ r.1 (and_from _ _ (eq-eqb b.moment a.moment same) (lt-ltb b.number a.number less)))
      ]

-- marks of a book's machines
module _ (k : Book) (i j : ℕ) (a b : Mark) (li : i < length (machines_in k)) (lj : j < length (machines_in k))
    (of-i : a.number ≡ (machine_at (machines_in k) i).number) (of-j : b.number ≡ (machine_at (machines_in k) j).number) where
  pub later_marks : later a b ≡ true → value b < value a
  later_marks = later_value a b (omega (arith, of-i, number_small k i li)) (omega (arith, of-j, number_small k j lj))

  pub not_later_marks : later a b ≡ false → value a ≤ value b
  not_later_marks = not_later_value a b (omega (arith, of-i, number_small k i li)) (omega (arith, of-j, number_small k j lj))

  pub marks_compared : (later a b ≡ true → value b < value a) × (later a b ≡ false → value a ≤ value b)
  marks_compared = (later_marks, not_later_marks)

-- marks of a pace that never falls
module _ (k : Book) (table : Terms → ℕ → ℕ) (up : (t : Terms) (j : ℕ) → Fit t → table t j ≤ table t (suc j)) where
  pub marks_rise : (i j : ℕ) → i < length (machines_in k) → values table (machines_in k) i j ≤ values table (machines_in k) i (suc j)
  marks_rise i j l = omega (arith, up (machine_at (machines_in k) i).terms j (terms_fit k i l))

  pub marks_ordered : Order (length (machines_in k)) (values table (machines_in k))
  marks_ordered = record {
    rises = marks_rise;
    apart = λ i j a b li lj e.
        let same : (machine_at (machines_in k) i).number ≡ (machine_at (machines_in k) j).number = omega (arith, e, number_small k i li, number_small k j lj) in
        elim (cases_order i j) [
          | inl s ↦ s
          | inr (inl s) ↦ absurd (omega (arith, same, numbers_rise k i j s lj))
          | inr (inr s) ↦ absurd (omega (arith, same, numbers_rise k j i s li))
        ];
  }
