-- What the formulas of the paces keep, and their capacities.
use Rattle.std.specs.Prelude.{◌≡◌, ℕ, suc, ◌+◌, ◌-◌, ◌*◌, ◌/◌, ◌<◌, ◌≤◌, min, if◌then◌else◌, ◌==◌}
use Rattle.std.proofs.Common.{ap, ◌∙◌, mul-le-mul, mul-le-mul_right, le-div_iff_mul-le, div-lt_iff_lt-mul, div-mul-le_self, zero-mul, mul-zero, add-mul, lt_of_mul-lt-mul_right, arith}
use Rattle.std.specs.Int.{div_ceil}
use Rattle.std.proofs.lemmas.Grind.{div_ceil_times}
use Rattle.std.proofs.Math.Nat.{lt-div-mul-add, div-eq_of_lt}
use Rattle.std.proofs.lemmas.Bool.{ne_eqb, cond-false}
use Rattle.pace.specs.Moments.{capacity_of, rounded_up}
use Rattle.pace.specs.Counting.{capacity_upto, capacity_same}

-- counts g k of which each takes the ticks
pub capacity_times : (g : ℕ → ℕ) (ticks t c : ℕ) → 0 < ticks
    → ((k : ℕ) → 0 < k → k ≤ 1000000 → g k ≤ t / ticks → k ≤ c)
    → ((k : ℕ) → 0 < k → k ≤ 1000000 → k ≤ c → g k ≤ t / ticks)
    → capacity_of (λ k. g k * ticks) t ≡ min 1000000 c
capacity_times g ticks t c some within reached =
    capacity_upto (λ k. g k * ticks) t c
    (λ k a b in-time. within k a b ((le-div_iff_mul-le some).1 in-time))
    (λ k a b le. (le-div_iff_mul-le some).0 (reached k a b le))

pub capacity_at_no_ticks : (g : ℕ → ℕ) (ticks t : ℕ) → ticks ≡ 0 → capacity_of (λ k. g k * ticks) t ≡ 1000000
capacity_at_no_ticks g ticks t none =
    capacity_upto (λ k. g k * ticks) t 1000000 (λ k a b in-time. b)
    (λ k a b le. omega (arith, ap (λ (n : ℕ). g k * n) none, mul-zero (g k)))

pub times_within : (n m ticks : ℕ) → n ≤ m → ticks < 65536 → n * ticks ≤ m * 65535
times_within n m ticks le few = mul-le-mul le (omega arith)

module _ (lot : ℕ) (some : 0 < lot) where
  pub rounded_zero : rounded_up 0 lot ≡ 0
  rounded_zero = ap (λ (q : ℕ). q * lot) (div-eq_of_lt (omega arith)) ∙ zero-mul lot

  pub rounded_below : (k : ℕ) → rounded_up k lot ≤ k + (lot - 1)
  rounded_below k = div-mul-le_self (k + (lot - 1)) lot

  rounded_above : (k : ℕ) → k ≤ rounded_up k lot
  rounded_above k = omega (arith, lt-div-mul-add {a = k + (lot - 1)} some)

  -- a multiple of the lot that is not below k is not below k rounded up
  rounded_least : (k q : ℕ) → k ≤ q * lot → rounded_up k lot ≤ q * lot
  rounded_least k q le =
      mul-le-mul_right lot
      (let lt : (k + (lot - 1)) / lot < suc q = (div-lt_iff_lt-mul some).1 (omega (arith, add-mul q 1 lot)) in omega arith)

  pub rounded_rises : (k j : ℕ) → k ≤ j → rounded_up k lot ≤ rounded_up j lot
  rounded_rises k j le = rounded_least k ((j + (lot - 1)) / lot) (omega (arith, rounded_above j))

  -- as the machine's division with rounding up has it
  pub rounded_ceil : (k : ℕ) → div_ceil k lot * lot ≡ rounded_up k lot
  rounded_ceil k =
      let q : ℕ = (k + (lot - 1)) / lot in
      let bounds = div_ceil_times k lot some in
      let below : div_ceil k lot < q + 1 = lt_of_mul-lt-mul_right lot (omega (arith, bounds.1, rounded_above k, add-mul q 1 lot)) in
      let at_most : div_ceil k lot * lot ≤ q * lot = mul-le-mul_right lot (omega (arith, below)) in
      omega (arith, rounded_least k (div_ceil k lot) bounds.0, at_most)

  rounded_within : (k q : ℕ) → rounded_up k lot ≤ q → k ≤ q / lot * lot
  rounded_within k q le =
      omega (arith, rounded_above k, mul-le-mul_right lot ((le-div_iff_mul-le {x = (k + (lot - 1)) / lot} {y = q} some).1 le))

  rounded_reached : (k q : ℕ) → k ≤ q / lot * lot → rounded_up k lot ≤ q
  rounded_reached k q le = omega (arith, rounded_least k (q / lot) le, div-mul-le_self q lot)

  pub capacity_lots : (ticks t : ℕ) → 0 < ticks → capacity_of (λ k. rounded_up (min k 1000000) lot * ticks) t ≡ min 1000000 (t / ticks / lot * lot)
  capacity_lots ticks t moving =
      capacity_times (λ k. rounded_up (min k 1000000) lot) ticks t (t / ticks / lot * lot) moving
      (λ k a b le. rounded_within k (t / ticks) (omega (arith, few k b)))
      (λ k a b le. omega (arith, few k b, rounded_reached k (t / ticks) le))
    where
      few : (k : ℕ) → k ≤ 1000000 → rounded_up (min k 1000000) lot ≡ rounded_up k lot
      few k b = ap (λ (n : ℕ). rounded_up n lot) (omega arith)

-- the backlog b over a table f
delayed : (ℕ → ℕ) → ℕ → ℕ → ℕ
delayed f b k = if k == 0 then 0 else min 99999999999 (f k + b)

delayed_is : (f : ℕ → ℕ) (b k : ℕ) → 0 < k → delayed f b k ≡ min 99999999999 (f k + b)
unfolding delayed
delayed_is f b k some = cond-false (k == 0) 0 (min 99999999999 (f k + b)) (ne_eqb k 0 (omega arith))

module _ (f : ℕ → ℕ) (b t : ℕ) where
  pub capacity_at_the_latest : 99999999999 ≤ t → capacity_of (λ k. if k == 0 then 0 else min 99999999999 (f k + b)) t ≡ 1000000
  unfolding delayed
  capacity_at_the_latest end =
      capacity_upto (delayed f b) t 1000000 (λ k some few in-time. few) (λ k some few le. omega (arith, delayed_is f b k some))

  pub capacity_before_backlog : t < 99999999999 → t < b → capacity_of (λ k. if k == 0 then 0 else min 99999999999 (f k + b)) t ≡ 0
  unfolding delayed
  capacity_before_backlog early lt =
      capacity_upto (delayed f b) t 0 (λ k some few in-time. absurd (omega (arith, delayed_is f b k some))) (λ k some few le. absurd (omega arith))

  pub capacity_after_backlog : t < 99999999999 → b ≤ t → capacity_of (λ k. if k == 0 then 0 else min 99999999999 (f k + b)) t ≡ capacity_of f (t - b)
  unfolding delayed
  capacity_after_backlog early le =
      capacity_same (delayed f b) f t (t - b)
      (λ k some in-time. omega (arith, delayed_is f b k some)) (λ k some in-time. omega (arith, delayed_is f b k some))
