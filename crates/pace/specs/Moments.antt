-- Tables of moments: what every pace keeps is in its trait; here are the words that its laws and answers use.
--   Fit t              the terms t fit their widths of 16, 16 and 32 bits
--   count n p          how many k from 1 to n pass the test p
--   capacity_of f t    how many k from 1 to 1,000,000 end no later than t, where f k is the moment of the k-th block
--   even_moment, lots_moment    the formulas of the two paces without backlog
--   backlog_moment f            the formula of backlog over a pace whose formula is f
use Rattle.std.specs.Prelude.{ℕ, zero, suc, ◌+◌, ◌-◌, ◌*◌, ◌/◌, ◌^◌, ◌<◌, min, max, Bool, if◌then◌else◌, ◌==◌, nat_le}
use Rattle.pace.specs.declared.terms.Terms.{Terms}

pub record Fit (t : Terms) : Type 0 where
  pub ticks : t.ticks < 2 ^ 16
  pub lot : t.lot < 2 ^ 16
  pub backlog : t.backlog < 2 ^ 32

unfoldable pub count : ℕ → (ℕ → Bool) → ℕ
count zero p = 0
count (suc n) p = count n p + (if p (suc n) then 1 else 0)

unfoldable pub capacity_of : (ℕ → ℕ) → ℕ → ℕ
capacity_of f t = count 1000000 (λ k. nat_le (f k) t)

-- k blocks take k times the ticks; above 1,000,000 as for 1,000,000
abbrev pub even_moment : Terms → ℕ → ℕ
even_moment t k = min k 1000000 * t.ticks

-- k rounded up to a multiple of the lot
abbrev pub rounded_up : ℕ → ℕ → ℕ
rounded_up k lot = (k + (lot - 1)) / lot * lot

-- a block ends with its lot, where a lot of 0 counts as 1
abbrev pub lots_moment : Terms → ℕ → ℕ
lots_moment t k = rounded_up (min k 1000000) (max t.lot 1) * t.ticks

-- from the first block on, the backlog comes on top, up to the latest moment
abbrev pub backlog_moment : (Terms → ℕ → ℕ) → Terms → ℕ → ℕ
backlog_moment f t k = if k == 0 then 0 else min 99999999999 (f t k + t.backlog)
