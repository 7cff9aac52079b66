-- The items of a list that lies in place.
use Rattle.std.specs.Prelude.{ℕ, List, take}
use Rattle.fixed.specs.declared.list.FixedVec.{FixedVec}

abbrev pub items : {T : Type 0} {N : ℕ} → FixedVec T N → List T
items v = take v.count v.slots
