-- Demands that agree below m have the same loads, the same complete share-outs, closed sets and stable share-outs.
use Rattle.std.proofs.Common.{◌≡◌, ℕ, suc, ◌<◌, Bool, not, ◌||◌, sym, ap, ◌∙◌, arith}
use Rattle.theory.specs.Sums.{total}
use Rattle.theory.specs.ShareOuts.{Demand, Complete, Closed, Stable, load, inside}
use Rattle.theory.proofs.Sums.{every_eq}

pub record Alike (m : ℕ) (B C : Demand) : Type 0 where
  pub same_batches : B.batches ≡ C.batches
  pub same_holds : (b i : ℕ) → b < B.batches → i < m → B.holds b i ≡ C.holds b i
  pub same_blocks : (b : ℕ) → b < B.batches → B.blocks b ≡ C.blocks b

module _ {m : ℕ} {B C : Demand} (a : Alike m B C) where
  here : {b : ℕ} → b < C.batches → b < B.batches
  here lb = omega (arith, a.same_batches)

  inside_alike : (S : ℕ → Bool) (b : ℕ) → b < B.batches → inside m B S b ≡ inside m C S b
  inside_alike S b lb = every_eq m _ _ (λ i li. ap (λ h. not h || S i) (a.same_holds b i lb li))

  module _ (x : ℕ → ℕ → ℕ) where
    pub load_alike : (i : ℕ) → load B x i ≡ load C x i
    load_alike i = ap (λ n. total n (λ b. x b i)) a.same_batches

    pub complete_alike : Complete m B x → Complete m C x
    complete_alike c = record {
      nothing_elsewhere = λ b i lb li free. c.nothing_elsewhere b i (here lb) li (a.same_holds b i (here lb) li ∙ free);
      adds_up = λ b lb. c.adds_up b (here lb) ∙ a.same_blocks b (here lb);
    }

    pub closed_alike : (S : ℕ → Bool) → Closed m B x S → Closed m C x S
    closed_alike S c b i lb li s pos = sym (inside_alike S b (here lb)) ∙ c b i (here lb) li s pos

    pub stable_alike : {p p' : ℕ → ℕ → ℕ} → ((i k : ℕ) → i < m → p i k ≡ p' i k) → Stable m p B x → Stable m p' C x
    stable_alike {p} same st i li pos =
        let s = st i li (omega (arith, load_alike i)) in (
          s.0,
          s.1,
          closed_alike s.0 s.2,
          λ q lq e. omega (
            arith,
            s.3 q lq e,
            ap (p i) (load_alike i),
            ap (λ n. p q (suc n)) (load_alike q),
            same i (load C x i) li,
            same q (suc (load C x q)) lq,
          ),
        )
