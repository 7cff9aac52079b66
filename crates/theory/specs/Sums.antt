-- Sums and tests over the numbers below n.
--   total n f     f 0 + .. + f (n - 1)
--   every n p     p passes each number below n
--   only s v      v where the test s passes, and 0 elsewhere
--   agree s t     both tests pass, or none
use Rattle.std.specs.Prelude.{ℕ, zero, suc, ◌+◌, Bool, true, if◌then◌else◌, not, ◌&&◌}

unfoldable pub total : ℕ → (ℕ → ℕ) → ℕ
total zero f = 0
total (suc n) f = total n f + f n

unfoldable pub every : ℕ → (ℕ → Bool) → Bool
every zero p = true
every (suc n) p = p n && every n p

abbrev pub only : Bool → ℕ → ℕ
only s v = if s then v else 0

abbrev pub agree : Bool → Bool → Bool
agree s t = if s then t else not t
