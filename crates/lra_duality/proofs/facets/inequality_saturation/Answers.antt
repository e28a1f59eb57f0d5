-- Goals of `inequality_saturation`: which generators the inequalities are tight at.
use Rattle.std.proofs.Common.{◌≡◌, ◌<◌, ◌≤◌, ◌∙◌, List, [], ap, arith, get_or, length, refl, subst, sym}
use Rattle.std.proofs.lemmas.List.{get_or_default}
use Rattle.lra_duality.specs.Crates.{lra_bits.Matrix.Matrix, lra_linear_spec.Descriptions.LinearRow, lra_linear_spec.Descriptions.rays_of, lra_linear_spec.Kinds.is_equality}
use Rattle.lra_duality.specs.Crates.{lra_linear_spec.declared.ConKind.ConKind, lra_linear_spec.declared.ConKind.TheVariants.Ge, lra_systems.LinearSystems.rows_by_kind}
use Rattle.lra_cone.specs.Cones.{cone_saturation as by_rays}
use Rattle.lra_duality.specs.Saturations.{saturation_of}
use Rattle.lra_duality.proofs.facets.inequality_saturation.Goals.{then-not-is_equality+in_ok-copy+in_ok-add_row, else-not-is_equality}
use Rattle.lra_duality.proofs.{FacetLemmas.tight_more, FacetLemmas.tight_left, FacetLemmas.tight_none, StartLemmas.seen_all}
use Rattle.lra_duality.proofs.facets.inequality_saturation.Goals as goal

pub loop-place-init : goal.loop-place-init
loop-place-init c = record {
  width = ap (λ (x : Matrix). x.width) c.new-matrix.ensures ∙ c.width.ensures.width;
  rows = λ generators e. tight_none (rows_by_kind is_equality c.args.list.now.rows c.kinds-kinds.result.now) generators c.args.saturation.now c.new-matrix.result c.width.result e
      c.width.ensures.width c.new-matrix.ensures;
}

pub loop-place-preserved : goal.loop-place-preserved
loop-place-preserved c =
    let rows = c.args.list.now.rows in
    let kinds = c.kinds-kinds.result.now in
    let i = c.loop-place.place in
    let r = get_or rows i [] in
    let m = c.args.saturation.now in
    let old = c.loop-place.matrix in
    let n : length kinds ≡ length rows = c.kinds-kinds.ensures.len in
    let h : i < length rows = let inside : i < length kinds = c.loop-place-test.true in omega (arith, n, inside) in
    let e : r ≡ get_or rows i r = get_or_default rows i [] r h in
    elim c.if-not-is_equality.branch [
      | then-not-is_equality+in_ok-copy+in_ok-add_row w ↦ rw (w.matrix-is) (record {
        width = ap (λ (x : Matrix). x.width) w.in_ok-add_row.ensures.added ∙ c.loop-place.invariant.width;
        rows = λ generators em. tight_more is_equality generators rows kinds i r Ge c.is_equality.result w.in_ok-copy.field-0 m old w.add_row.new.self n h e refl
            c.is_equality.ensures w.if-not-is_equality.true (w.in_ok-copy.ensures ∙ w.row.ensures.row) em w.in_ok-add_row.ensures.added (c.loop-place.invariant.rows generators em);
      })
      | else-not-is_equality w ↦ rw (w.matrix-is) (record {
        width = c.loop-place.invariant.width;
        rows = λ generators em. tight_left is_equality generators rows kinds i r Ge c.is_equality.result old n h e c.is_equality.ensures w.if-not-is_equality.false
            (c.loop-place.invariant.rows generators em);
      })
    ]

pub returns : goal.returns
returns c generators e =
    let list = c.args.list.now in
    let kinds = c.kinds-kinds.result.now in
    let m = c.args.saturation.now in
    let made = c.loop-place.matrix in
    let n : length kinds ≡ length list.rows = c.kinds-kinds.ensures.len in
    let all : length list.rows ≤ c.loop-place.place = let past = c.loop-place-test.false in omega (arith, n, past) in
    let seen : m ≡ saturation_of (rows_by_kind is_equality list.rows kinds) generators = subst (λ (k : List ConKind). m ≡ saturation_of (rows_by_kind is_equality list.rows k) generators)
    (sym c.kinds-kinds.ensures.kinds) e in
    seen_all is_equality (λ (l : List LinearRow). made ≡ by_rays generators (rays_of l)) list.rows list.rows kinds list.kinds c.loop-place.place refl c.kinds-kinds.ensures.kinds n all
    (c.loop-place.invariant.rows generators seen)
