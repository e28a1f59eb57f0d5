-- Goals of `first_improving`: the first ray along which the form grows, or line along which it changes.
use Rattle.std.proofs.Common.{◌≡◌, ◌∙◌, ap, arith, false, length, List, refl, sym, true}
use Rattle.std.specs.List.{All}
use Rattle.lra_duality.specs.Crates.{lra_linear_spec.Descriptions.LinearRow, lra_linear_spec.Kinds.is_line, lra_linear_spec.declared.GenKind.TheVariants.Point, lra_systems.FirstPlaces.FirstAt}
use Rattle.lra_duality.specs.Maxima.{DoesNotImprove, Improves, StaysInRange, directed}
use Rattle.lra_duality.proofs.Crates.lra_systems.FirstMembers.{all_gone_through, at_member, first_at, member, one_more}
use Rattle.lra_duality.proofs.{InclusionLemmas.seen_generators, MaximumLemmas.both_seen}
use Rattle.lra_duality.proofs.maximum.first_improving.Goals as goal

pub improves-requires-clause-in_range : goal.improves-requires-clause-in_range
improves-requires-clause-in_range c =
    let rows = c.rows-rows.result.now in
    let kinds = c.kinds-kinds.result.now in
    let stays = StaysInRange (directed c.args.form.now c.args.is_opposite) in
    let n : length kinds ≡ length rows = c.kinds-kinds.ensures.len ∙ ap length (sym c.rows-rows.ensures.rows) in
    at_member stays is_line rows kinds c.loop-place.place c.index-rows-place.result Point n c.loop-place-test.true
    c.index-rows-place.is
    (both_seen (All stays) c.args.list.now rows kinds c.rows-rows.ensures.rows c.kinds-kinds.ensures.kinds c.requires)

pub returns-then-improves : goal.returns-then-improves
returns-then-improves c =
    let rows = c.rows-rows.result.now in
    let kinds = c.kinds-kinds.result.now in
    let given = member is_line kinds c.loop-place.place c.index-rows-place.result Point in
    let before = DoesNotImprove (directed c.args.form.now c.args.is_opposite) in
    let here = Improves (directed c.args.form.now c.args.is_opposite) in
    let n : length kinds ≡ length rows = c.kinds-kinds.ensures.len ∙ ap length (sym c.rows-rows.ensures.rows) in
    seen_generators (λ (l : List LinearRow). FirstAt before here l c.loop-place.place) c.args.list.now rows kinds
    c.rows-rows.ensures.rows c.kinds-kinds.ensures.kinds
    (first_at before here is_line rows kinds c.loop-place.place c.index-rows-place.result Point n c.loop-place-test.true
    c.index-rows-place.is c.loop-place.invariant
    ((c.if-improves.ensures given refl
    (sym c.goes_both_ways.ensures)).0 refl))

pub loop-place-preserved : goal.loop-place-preserved
loop-place-preserved c =
    let rows = c.rows-rows.result.now in
    let kinds = c.kinds-kinds.result.now in
    let given = member is_line kinds c.loop-place.place c.index-rows-place.result Point in
    let before = DoesNotImprove (directed c.args.form.now c.args.is_opposite) in
    let n : length kinds ≡ length rows = c.kinds-kinds.ensures.len ∙ ap length (sym c.rows-rows.ensures.rows) in
    one_more before is_line rows kinds c.loop-place.place c.index-rows-place.result Point n c.loop-place-test.true
    c.index-rows-place.is c.loop-place.invariant
    (λ i. let k : false ≡ true = (c.if-improves.ensures given refl (sym c.goes_both_ways.ensures)).1 i in cc)

pub returns : goal.returns
returns c =
    let rows = c.rows-rows.result.now in
    let kinds = c.kinds-kinds.result.now in
    let before = DoesNotImprove (directed c.args.form.now c.args.is_opposite) in
    let n : length kinds ≡ length rows = c.kinds-kinds.ensures.len ∙ ap length (sym c.rows-rows.ensures.rows) in
    seen_generators (All before) c.args.list.now rows kinds c.rows-rows.ensures.rows c.kinds-kinds.ensures.kinds
    (all_gone_through before is_line rows kinds c.loop-place.place n (omega arith) c.loop-place.invariant)
