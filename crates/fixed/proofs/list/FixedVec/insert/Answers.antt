use Rattle.std.proofs.Common.{◌≡◌, ℕ, ◌+◌, ◌-◌, ◌<◌, ◌≤◌, length, take, drop, set, arith, length-set}
use Rattle.std.proofs.lemmas.List.{length-take, length-drop}
use Rattle.fixed.proofs.Edits.{put_there}
use Rattle.fixed.proofs.list.FixedVec.insert.Goals as goal

pub returns : goal.returns
returns g c =
    let v = c.args.self.now in
    let n : ℕ = v.count in
    let at : ℕ = c.args.at in
    let slots = set v.slots n c.args.item in
    let le : at ≤ n = omega (arith, c.requires.within, length-take n v.slots) in
    let lt : n < length v.slots = omega (arith, c.requires.room, length-take n v.slots, v.long, v.fits) in
    let part : length (take (n + 1 - at) (drop at slots)) ≡ n + 1 - at =
    omega (arith, length-take (n + 1 - at) (drop at slots), length-drop at slots, length-set v.slots n c.args.item) in
    record {
      inserts_the_item =
          put_there v.slots n at c.rotate_right.new.self c.args.item le lt (omega (arith, c.rotate_right.ensures.len, part))
          (rw part at c.rotate_right.ensures.by_index);
    }
