-- Goals of `push_equals`: adds the equalities of all places.
use Rattle.std.proofs.Common.{rules, arith, suc, add-one, ◌≡◌, ◌∷◌, length}
use Rattle.lra_box.specs.Crates.lra_linear_spec.declared.ConKind.TheVariants.{Eq}
use Rattle.lra_box.specs.Parts.{box_equalities}
use Rattle.lra_box.proofs.PartLemmas.{rows_added, kinds_added}
use Rattle.lra_box.proofs.parts.push_equals.Goals as goal

pub loop-interval-preserved : goal.loop-interval-preserved
loop-interval-preserved c =
    let left : c.loop-interval.left.now ≡ c.in-Some.interval.now ∷ c.in-Some.later.now = search rules in
    let places = rw left at c.loop-interval.invariant.places in
    let sound = rw left at c.loop-interval.invariant.sound in
    let rows = rw left at c.loop-interval.invariant.rows in
    let kinds = rw left at c.loop-interval.invariant.kinds in
    record {
      places = omega arith;
      dims = search rules;
      sound = sound.1;
      rows = rw add-one (rows_added c.loop-interval.system.rows _ (box_equalities (length c.args.intervals.now) (suc c.loop-interval.k) c.in-Some.later.now) _ _ c.in_ok-push_equal.ensures.rows rows);
      kinds = rw add-one (kinds_added Eq c.loop-interval.system.kinds _ _ _ (box_equalities (length c.args.intervals.now) (suc c.loop-interval.k) c.in-Some.later.now) c.in_ok-push_equal.ensures.kinds
          kinds);
    }
