-- Goals of `count_free`: how many inequalities saturate what none of the given do that hold.
use Rattle.std.proofs.Common.{arith, ap, map, refl, subst, sym, ◌∙◌, ◌≡◌, ◌+◌, ◌<◌, [], get_or, length, take, List, ℕ}
use Rattle.std.proofs.lemmas.List.{get_or_default, length-map, take_all}
use Rattle.std.specs.{List.filter, Prelude.slice_index_or}
use Rattle.lra_poly_widening.specs.Crates.lra_linear_spec.Kinds.{is_equality}
use Rattle.lra_poly_widening.specs.Crates.{lra_bits.Matrix.Matrix, lra_duality.Saturations.saturated, lra_linear_spec.Descriptions.LinearRow, lra_linear_spec.declared.ConKind.TheVariants.Ge}
use Rattle.lra_systems.proofs.FirstMembers.{member}
use Rattle.lra_systems.specs.LinearSystems.{constraints, rows_by_kind}
use Rattle.lra_poly_widening.proofs.Crates.lra_duality.SaturationLemmas.{given_length}
use Rattle.lra_poly_widening.specs.Rank.{held_thresholds, is_free}
use Rattle.lra_poly_widening.proofs.{AlikeLemmas.bits_at, AlikeLemmas.free_by_bits, AlikeLemmas.row_more, Loops.count_few, Loops.count_step}
use Rattle.lra_poly_widening.proofs.ranking.count_free.Goals as goal

pub row-requires : goal.row-requires
row-requires c =
    let list = c.rows-list.result.now in
    let long : length c.saturation-matrix.result.now.rows ≡ length c.rows-rows.result.now =
    ap (λ (m : Matrix). length m.rows) c.saturation-matrix.ensures ∙ length-map c.args.p.now.rows (λ (s : LinearRow). saturated c.args.p.now.generators s.row) ∙
    ap length (sym c.rows-list.ensures.rows) ∙ given_length is_equality list.rows list.kinds (ap length (sym c.kinds-kinds.ensures.kinds) ∙ c.kinds-kinds.ensures.len) ∙
    ap length (sym c.rows-rows.ensures.rows) in
    subst (λ (n : ℕ). c.loop-place.place < n) (sym long) c.loop-place-test.true

pub is_free-requires-clause-bits : goal.is_free-requires-clause-bits
is_free-requires-clause-bits c = c.row.ensures.width ∙ ap (λ (m : Matrix). m.width) c.saturation-matrix.ensures

pub loop-place-preserved : goal.loop-place-preserved
loop-place-preserved c =
    let p = c.args.p.now in
    let given = constraints c.args.given.now in
    let rows = c.rows-list.result.now.rows in
    let kinds = c.kinds-kinds.result.now in
    let i = c.loop-place.place in
    let r = get_or rows i [] in
    let g : LinearRow = member is_equality kinds i r Ge in
    let inside : i < length rows = subst (λ (n : ℕ). i < n) (ap length c.rows-rows.ensures.rows) c.loop-place-test.true in
    let is : r ≡ get_or rows i r = get_or_default rows i [] r inside in
    let own : p.rows ≡ rows_by_kind is_equality rows kinds =
    sym c.rows-list.ensures.rows ∙ ap (rows_by_kind is_equality rows) (sym c.kinds-kinds.ensures.kinds) in
    let bits : c.row.result.now ≡ saturated p.generators r =
    c.row.ensures.row ∙ ap (λ (m : Matrix). slice_index_or m.rows i []) c.saturation-matrix.ensures ∙
    ap (λ (l : List LinearRow). slice_index_or (map (λ (s : LinearRow). saturated p.generators s.row) l) i []) own
    ∙ bits_at is_equality p.generators rows kinds i r c.kinds-kinds.ensures.len inside is in
    record {
      few = count_few c.loop-place.count c.one_if-count.result i c.is_free.result c.loop-place.invariant.few c.one_if-count.ensures;
      counted = count_step (is_free p (held_thresholds p given)) c.loop-place.count c.one_if-count.result (take i p.rows) (take (i + 1) p.rows) g
          c.is_free.result
          (row_more is_equality p.rows rows kinds i r Ge own c.kinds-kinds.ensures.len inside is)
          (c.is_free.ensures ∙ free_by_bits p g c.row.result.now given g.equal bits refl) c.loop-place.invariant.counted c.one_if-count.ensures;
    }

pub returns : goal.returns
returns c =
    let list = c.rows-list.result.now in
    let long : length c.args.p.now.rows ≡ length c.rows-rows.result.now =
    ap length (sym c.rows-list.ensures.rows) ∙ given_length is_equality list.rows list.kinds (ap length (sym c.kinds-kinds.ensures.kinds) ∙ c.kinds-kinds.ensures.len) ∙
    ap length (sym c.rows-rows.ensures.rows) in
    c.loop-place.invariant.counted ∙
    ap (λ l. length (filter (is_free c.args.p.now (held_thresholds c.args.p.now (constraints c.args.given.now))) l))
    (take_all c.loop-place.place c.args.p.now.rows (omega (arith, long, c.loop-place-test.false)))
