-- A machine that is missing, put at its place.
use Rattle.std.proofs.Common.{◌≡◌, ℕ, zero, suc, List, [], ◌∷◌, refl, arith}
use Rattle.std.specs.List.{insert}
use Rattle.std.proofs.lemmas.Bool.Decides.{nat_tests}
use Rattle.books.specs.declared.machine.Machine.{Machine}
use Rattle.books.specs.Numbers.{Missing}
use Rattle.books.specs.Standing.{machine_numbers, with_machine}
use Rattle.books.proofs.Records.{missing_next}

pub with_machine_inserted : (m : Machine) (ms : List Machine) (i : ℕ) → Missing m.number (machine_numbers ms) i → insert ms i m ≡ with_machine m ms
with_machine_inserted m [] zero miss = refl
with_machine_inserted m [] (suc i) miss = absurd (omega (arith, miss.within))
with_machine_inserted m (k ∷ ks) zero miss = grind (arith, nat_tests, miss.higher 0 (omega arith) (omega arith))
with_machine_inserted m (k ∷ ks) (suc i) miss = grind (arith, nat_tests, miss.lower 0 (omega arith), with_machine_inserted m ks i (missing_next m.number k.number (machine_numbers ks) i miss))
