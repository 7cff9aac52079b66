use Rattle.std.proofs.Common.{ℕ, ◌*◌, min, max, ap, arith}
use Rattle.pace.specs.Formulas.{rounded_ceil}
use Rattle.pace.proofs.lots.LotsPace.moment.Goals as goal

pub returns : goal.returns
returns c =
    record {
      answers_by_the_table =
          rw (c.div_ceil-lots.ensures, c.max-lot.ensures, c.min.ensures)
          (ap (λ (n : ℕ). n * c.args.terms.ticks) (rounded_ceil (max c.args.terms.lot 1) (omega arith) (min c.args.k 1000000)));
    }
