-- Sets of machine places, read as the numbers of the machines at these places.
use Rattle.std.specs.Prelude.{ℕ, suc, Bool, if◌then◌else◌, List, [], ◌∷◌}
use Rattle.books.specs.declared.machine.Machine.{Machine}

-- the numbers of the machines whose places pass the test, in the order of the machines
abbrev pub numbers_at : (ℕ → Bool) → List Machine → List ℕ
numbers_at held [] = []
numbers_at held (m ∷ ms) =
    if held 0 then (m.number ∷ numbers_at (λ i. held (suc i)) ms) else numbers_at (λ i. held (suc i)) ms
