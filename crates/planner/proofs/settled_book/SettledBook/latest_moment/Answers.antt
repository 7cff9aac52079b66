use Rattle.std.proofs.Common.{rules}
use Rattle.std.proofs.iter.runs.Made.{chains}
use Rattle.planner.proofs.settled_book.SettledBook.latest_moment.Goals as goal

pub returns-clause-no_machine_ends_later : goal.returns-clause-no_machine_ends_later
returns-clause-no_machine_ends_later g c = search (rules, chains)

pub returns-clause-some_machine_ends_then : goal.returns-clause-some_machine_ends_then
returns-clause-some_machine_ends_then g c = search (rules, chains)
