use Rattle.std.proofs.Common.{ℕ, ◌*◌, ◌/◌, min, max, sym, ap, arith}
use Rattle.pace.specs.Moments.{rounded_up}
use Rattle.pace.specs.Formulas.{capacity_lots, capacity_at_no_ticks}
use Rattle.pace.proofs.lots.LotsMeter.capacity.Goals as goal

pub returns-then-terms-eq0 : goal.returns-then-terms-eq0
returns-then-terms-eq0 c =
    record { counts_the_table = sym (capacity_at_no_ticks (λ k. rounded_up (min k 1000000) (max c.args.terms.lot 1)) c.args.terms.ticks c.args.moment c.if-terms-eq0.true) }

pub returns : goal.returns
returns c =
    let ticks : ℕ = c.args.terms.ticks in
    let t : ℕ = c.args.moment in
    record {
      counts_the_table =
          omega (arith, ap (λ (lot : ℕ). t / ticks / lot * lot) c.max-lot.ensures, capacity_lots (max c.args.terms.lot 1) (omega arith) ticks t (omega arith));
    }
