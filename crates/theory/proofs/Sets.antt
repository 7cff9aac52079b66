-- Which batches have all their holders in a set, and the union of two closed sets is closed.
use Rattle.std.proofs.Common.{◌≡◌, ℕ, ◌<◌, Bool, true, false, not, ◌||◌, refl, inl, inr}
use Rattle.std.proofs.lemmas.Bool.{or_cases, or_left, or_right, false≢true}
use Rattle.theory.specs.ShareOuts.{Demand, inside, Closed}
use Rattle.theory.proofs.Sums.{every_at, every_all}

imp_at : (h s : Bool) → (not h || s) ≡ true → h ≡ true → s ≡ true
imp_at true s e _ = e
imp_at false s e f = absurd (false≢true f)

imp_from : (h s : Bool) → (h ≡ true → s ≡ true) → (not h || s) ≡ true
imp_from true s f = f refl
imp_from false s f = refl

module _ (m : ℕ) (B : Demand) where
  pub inside_at : (S : ℕ → Bool) (b i : ℕ) → inside m B S b ≡ true → i < m → B.holds b i ≡ true → S i ≡ true
  inside_at S b i e l = imp_at (B.holds b i) (S i) (every_at m _ e i l)

  pub inside_from : (S : ℕ → Bool) (b : ℕ) → ((i : ℕ) → i < m → B.holds b i ≡ true → S i ≡ true) → inside m B S b ≡ true
  inside_from S b f = every_all m _ (λ i l. imp_from (B.holds b i) (S i) (f i l))

  pub inside_more : (S T : ℕ → Bool) (b : ℕ) → ((i : ℕ) → i < m → S i ≡ true → T i ≡ true) → inside m B S b ≡ true → inside m B T b ≡ true
  inside_more S T b up e = inside_from T b (λ i l h. up i l (inside_at S b i e l h))

  pub closed_or : (x : ℕ → ℕ → ℕ) (S T : ℕ → Bool) → Closed m B x S → Closed m B x T → Closed m B x (λ i. S i || T i)
  closed_or x S T cs ct b i lb li e pos = elim (or_cases (S i) (T i) e) [
    | inl s ↦ inside_more S (λ i. S i || T i) b (λ i _. or_left (S i) (T i)) (cs b i lb li s pos)
    | inr t ↦ inside_more T (λ i. S i || T i) b (λ i _. or_right (S i) (T i)) (ct b i lb li t pos)
  ]
