-- Goals of `assign_in`: assigns `constant + factors` to place `x`.
use Rattle.std.proofs.{Common.arith, Common.ap, Common.refl, Common.◌≡◌, Common.◌++◌, Common.take, Common.drop, Common.length, Math.Seq.take-append_seam, lemmas.Int.to_z-of_z}
use Rattle.std.specs.Int.{w128}
use Rattle.lra_box.proofs.bounds.assign_in.Goals as goal

pub returns-in-Some : goal.returns-in-Some
returns-in-Some c =
    let is = rw (to_z-of_z w128 c.args.constant c.ranges.constant, c.as_mut_slice.ensures.value) at c.assign_bounds.ensures in
    let len : c.in-Some.intervals.len ≡ length c.assign_bounds.new.bounds =
    (let n : length c.assign_bounds.new.bounds ≡ length c.in-Some.intervals.items = is.fit (length c.in-Some.intervals.items) refl in omega
    (arith, c.as_mut_slice.ensures.len, ap length c.as_mut_slice.ensures.value)) in
    let back : take c.in-Some.intervals.len (c.assign_bounds.new.bounds ++ drop (length c.assign_bounds.new.bounds) c.in-Some.intervals.items) ≡ c.assign_bounds.new.bounds =
    rw len (take-append_seam c.assign_bounds.new.bounds _) in
    rw (back, c.in-Some.is) is
