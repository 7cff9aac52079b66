-- One list of checks after another: a call is refused by the first check that applies.
use Rattle.std.proofs.Common.{◌≡◌, ℕ, true, false, List, [], ◌∷◌, ◌++◌, Some, None, Option, Bool, cond, refl, sym, ◌∙◌, ⊎_elim, arith}
use Rattle.std.proofs.lemmas.Bool.{cond-true, cond-false, cases_Bool}
use Rattle.books.specs.declared.refusal.Refusal.{Refusal}
use Rattle.books.specs.Standing.{Standing}
use Rattle.books.specs.Refusals.{Handed, case_of, first_of}

none_is_not_some : (r : Refusal) → ◌≡◌ {A = Option Refusal} None (Some r) → ⊥
none_is_not_some r e = let z : ◌≡◌ {A = ℕ} 0 1 = cc in omega arith

module _ (h : Handed) (s : Standing) where
  applying : (r : Refusal) (rs : List Refusal) {x : Option Refusal} → x ≡ first_of (r ∷ rs) h s → (case_of r).applies h s ≡ true → x ≡ Some r
  applying r rs e applies = e ∙ cond-true ((case_of r).applies h s) (Some r) (first_of rs h s) applies

  passing_by : (r : Refusal) (rs : List Refusal) → (case_of r).applies h s ≡ false → first_of (r ∷ rs) h s ≡ first_of rs h s
  passing_by r rs applies_not = cond-false ((case_of r).applies h s) (Some r) (first_of rs h s) applies_not

  -- where none of some checks applies, the first one of the others tells
  pub past_all : (rs more : List Refusal) {x : Option Refusal} → None ≡ first_of rs h s → x ≡ first_of more h s → x ≡ first_of (rs ++ more) h s
  past_all [] more none e = e
  past_all (r ∷ rs) more none e =
      ⊎_elim
      (λ applies. absurd (none_is_not_some r (applying r rs none applies)))
      (λ applies_not. past_all rs more (none ∙ passing_by r rs applies_not) e ∙ sym (passing_by r (rs ++ more) applies_not))
      (cases_Bool ((case_of r).applies h s))

  -- and where one of them does, it tells
  pub told_among : (rs more : List Refusal) {x : Refusal} → Some x ≡ first_of rs h s → Some x ≡ first_of (rs ++ more) h s
  told_among [] more {x} e = absurd (none_is_not_some x (sym e))
  told_among (r ∷ rs) more e =
      ⊎_elim
      (λ applies. applying r rs e applies ∙ sym (cond-true ((case_of r).applies h s) (Some r) (first_of (rs ++ more) h s) applies))
      (λ applies_not. told_among rs more (e ∙ passing_by r rs applies_not) ∙ sym (passing_by r (rs ++ more) applies_not))
      (cases_Bool ((case_of r).applies h s))

pub passed : {p : Bool} (r : Refusal) → None ≡ cond p (Some r) None → p ≡ false
passed {p = true} r none = absurd (none_is_not_some r none)
passed {p = false} r none = refl

-- where none of some checks applies, the first one does not
pub first_passed : (r : Refusal) (rs : List Refusal) (h : Handed) (s : Standing) → None ≡ first_of (r ∷ rs) h s → (case_of r).applies h s ≡ false
first_passed r rs h s none =
    ⊎_elim (λ applies. absurd (none_is_not_some r (applying h s r rs none applies))) (λ applies_not. applies_not) (cases_Bool ((case_of r).applies h s))
