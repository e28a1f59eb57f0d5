-- Goals of `count_equalities`: how many equalities are among the constraints.
use Rattle.std.proofs.{Common.arith, Common.ap, Common.◌∙◌, Common.◌<◌, Common.◌+◌, Common.[], Common.get_or, Common.length, Common.refl, lemmas.List.get_or_default}
use Rattle.std.specs.List.{filter}
use Rattle.lra_poly_widening.specs.Crates.{lra_linear_spec.Descriptions.LinearRow, lra_linear_spec.Kinds.is_equality, lra_linear_spec.declared.ConKind.TheVariants.Ge}
use Rattle.lra_systems.proofs.FirstMembers.{front, member}
use Rattle.lra_poly_widening.proofs.Loops.{count_few, count_step, front_seen, front_step}
use Rattle.lra_poly_widening.proofs.ranking.count_equalities.Goals as goal

pub loop-place-preserved : goal.loop-place-preserved
loop-place-preserved c =
    let rows = c.args.list.now.rows in
    let kinds = c.kinds-kinds.result.now in
    let i = c.loop-place.place in
    let r = get_or rows i [] in
    let below = c.loop-place-test.true in
    let inside : i < length rows = omega (arith, below, ap length c.rows-rows.ensures.rows) in
    record {
      few = count_few c.loop-place.count c.one_if-count.result i c.is_equality.result c.loop-place.invariant.few c.one_if-count.ensures;
      counted = count_step (λ (g : LinearRow). g.equal) c.loop-place.count c.one_if-count.result (front is_equality rows kinds i) (front is_equality rows kinds (i + 1))
          (member is_equality kinds i r Ge)
          c.is_equality.result (front_step is_equality rows kinds i r Ge c.kinds-kinds.ensures.len inside (get_or_default rows i [] r inside)) c.is_equality.ensures c.loop-place.invariant.counted
          c.one_if-count.ensures;
    }

pub returns : goal.returns
returns c = c.loop-place.invariant.counted ∙ ap (λ l. length (filter (λ (g : LinearRow). g.equal) l))
    (front_seen is_equality c.args.list.now c.args.list.now.rows c.kinds-kinds.result.now c.loop-place.place refl c.kinds-kinds.ensures.kinds c.kinds-kinds.ensures.len
    (omega (arith, c.loop-place-test.false, ap length c.rows-rows.ensures.rows)))
