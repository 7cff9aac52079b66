-- The calls that change what stands, with what they are handed, and what an accepted one makes of what stands.
use Rattle.std.specs.Prelude.{ℕ, List}
use Rattle.books.specs.declared.machine.Machine.{Machine}
use Rattle.books.specs.Standing.{Standing, with_machine, more_blocks, fewer_blocks}

pub data Call : Type 0 where
  Enlist : Machine → Call
  Open : Call
  -- a batch's number, how many blocks more, and the machine numbers of its holders
  Hold : ℕ → ℕ → List ℕ → Call
  -- a batch's number and how many blocks fewer
  Drop : ℕ → ℕ → Call

-- a machine by its number, ticks, lot and backlog
abbrev pub machine_with : ℕ → ℕ → ℕ → ℕ → Machine
machine_with n ticks lot backlog = record { number = n; terms = record { ticks = ticks; lot = lot; backlog = backlog } }

abbrev pub after : Call → Standing → Standing
after (Enlist m) s = record { machines = with_machine m s.machines; batches = s.batches }
after Open s = s
after (Hold b n hs) s = record { machines = s.machines; batches = more_blocks b n hs s.batches }
after (Drop b n) s = record { machines = s.machines; batches = fewer_blocks b n s.batches }
