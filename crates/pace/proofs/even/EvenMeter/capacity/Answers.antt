use Rattle.std.proofs.Common.{ℕ, ◌/◌, min, sym, arith}
use Rattle.pace.specs.Formulas.{capacity_times, capacity_at_no_ticks}
use Rattle.pace.proofs.even.EvenMeter.capacity.Goals as goal

pub returns-then-terms-eq0 : goal.returns-then-terms-eq0
returns-then-terms-eq0 c =
    record { counts_the_table = sym (capacity_at_no_ticks (λ k. min k 1000000) c.args.terms.ticks c.args.moment c.if-terms-eq0.true) }

pub returns : goal.returns
returns c =
    let ticks : ℕ = c.args.terms.ticks in
    let t : ℕ = c.args.moment in
    record {
      counts_the_table =
          omega (arith, capacity_times (λ k. min k 1000000) ticks t (t / ticks) (omega arith) (λ k a b le. omega arith) (λ k a b le. omega arith));
    }
