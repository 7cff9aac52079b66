-- What a call's answer says of what the call made of what stands.
use Rattle.std.proofs.Common.{◌≡◌, Result, Ok, Err, OnOk, OnErr, ap, sym}
use Rattle.books.specs.declared.refusal.Refusal.{Refusal}
use Rattle.books.specs.Calls.{Call, after}
use Rattle.books.specs.Refusals.{first_refusal, refusal_in}
use Rattle.books.specs.Standing.{Standing}
use Rattle.office_day.specs.Day.{tried}

pub tried_by : {S : Type 0} (view : S → Standing) (c : Call) (old new : S) (r : Result Unit Refusal)
    → refusal_in r ≡ first_refusal c (view old) → OnErr r (new ≡ old) → OnOk r (view new ≡ after c (view old)) → view new ≡ tried c (view old)
unfolding tried
tried_by view c old new (Ok _) first same made = rw (sym first) made
tried_by view c old new (Err _) first same made = rw (sym first) (ap view same)
