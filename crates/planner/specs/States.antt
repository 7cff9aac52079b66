-- What the states of a book have: what stands, whatever the pace; the pace; and the share-out that a settled book lets read.
use Rattle.std.specs.Prelude.{ℕ}
use Rattle.books.specs.Standing.{Standing}
use Rattle.books.specs.Views.{mustered, standing_of}
use Rattle.shares.specs.Plans.{share}
use Rattle.planner.specs.declared.muster.Muster.{Muster}
use Rattle.planner.specs.declared.open_book.OpenBook.{OpenBook}
use Rattle.planner.specs.declared.settled_book.SettledBook.{SettledBook}

abbrev pub in_muster : {P : Type 0} → Muster P → Standing
in_muster m = mustered m.roster

abbrev pub in_book : {P : Type 0} → OpenBook P → Standing
in_book b = standing_of b.book

abbrev pub in_settled : {P : Type 0} → SettledBook P → Standing
in_settled b = standing_of b.plan.book

abbrev pub muster_pace : {P : Type 0} → Muster P → P
muster_pace m = m.pace

abbrev pub book_pace : {P : Type 0} → OpenBook P → P
book_pace b = b.pace

abbrev pub settled_pace : {P : Type 0} → SettledBook P → P
settled_pace b = b.pace

abbrev pub shares_in : {P : Type 0} → SettledBook P → ℕ → ℕ → ℕ
shares_in b = share b.plan
