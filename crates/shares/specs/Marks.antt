-- Marks: where blocks stand in the order of all blocks.
--   later a b                 the mark a is after the mark b: its moment is later, or the moments are equal and its number is higher
--   machine_at ms i           the machine at the place i
--   mark_of table m k         the mark of the k-th block of the machine m, by its pace's table
--   value a                   a mark as one number, which keeps the order where machine numbers are below 10,000
--   values table ms i k       the mark of the k-th block of the machine at the place i, as one number
use Rattle.std.specs.Prelude.{ℕ, ◌+◌, ◌*◌, Bool, ◌&&◌, ◌||◌, List, ◌==◌, nat_lt, slice_index_or}
use Rattle.pace.specs.declared.terms.Terms.{Terms}
use Rattle.books.specs.declared.machine.Machine.{Machine}
use Rattle.shares.specs.declared.mark.Mark.{Mark}

abbrev pub later : Mark → Mark → Bool
later a b = nat_lt b.moment a.moment || (b.moment == a.moment && nat_lt b.number a.number)

-- stands for a machine past the last one
abbrev pub no_machine : Machine
no_machine = record { number = 0; terms = record { ticks = 0; lot = 0; backlog = 0 } }

abbrev pub machine_at : List Machine → ℕ → Machine
machine_at ms i = slice_index_or ms i no_machine

abbrev pub mark_of : (Terms → ℕ → ℕ) → Machine → ℕ → Mark
mark_of table m k = record { moment = table m.terms k; number = m.number }

abbrev pub value : Mark → ℕ
value a = a.moment * 10000 + a.number

abbrev pub values : (Terms → ℕ → ℕ) → List Machine → ℕ → ℕ → ℕ
values table ms i k = value (mark_of table (machine_at ms i) k)
