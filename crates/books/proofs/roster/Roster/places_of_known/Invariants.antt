use Rattle.places.specs.Has.{has}
use Rattle.books.specs.Views.{machines_of}
use Rattle.books.proofs.Holders.{Gathered}
use Rattle.books.proofs.roster.Roster.places_of_known.Given as goal

abbrev pub invariant-loop-number : goal.invariant-loop-number
invariant-loop-number l = Gathered (machines_of l.self) l.numbers (has l.places) l.number-index
