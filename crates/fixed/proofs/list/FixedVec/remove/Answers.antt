use Rattle.std.proofs.Common.{◌≡◌, ℕ, ◌-◌, ◌<◌, ◌≤◌, length, take, drop, arith}
use Rattle.std.proofs.lemmas.List.{length-take, length-drop}
use Rattle.fixed.proofs.Edits.{taken_out}
use Rattle.fixed.proofs.list.FixedVec.remove.Goals as goal

pub returns : goal.returns
returns g c =
    let v = c.args.self.now in
    let n : ℕ = v.count in
    let at : ℕ = c.args.at in
    let lt : at < n = omega (arith, c.requires.within, length-take n v.slots) in
    let le : n ≤ length v.slots = omega (arith, v.long, v.fits) in
    let part : length (take (n - at) (drop at v.slots)) ≡ n - at = omega (arith, length-take (n - at) (drop at v.slots), length-drop at v.slots) in
    record {
      removes_the_item =
          taken_out v.slots n at c.rotate_left.new.self lt le (omega (arith, c.rotate_left.ensures.len, part))
          (rw part at c.rotate_left.ensures.by_index);
    }
