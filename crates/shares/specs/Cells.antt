-- Rows of numbers.
--   nth xs i    the number at the place i, and 0 past the last one
use Rattle.std.specs.Prelude.{ℕ, List, slice_index}

abbrev pub nth : List ℕ → ℕ → ℕ
nth xs i = slice_index xs i
