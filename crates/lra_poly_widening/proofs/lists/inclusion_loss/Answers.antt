-- Goals of `inclusion_loss`: the loss of the constraint of the second, at the place, whose product with the
-- generator of the first passes.
use Rattle.std.proofs.Common.{arith, rules, ap, suc, sym, ◌∙◌, ◌<◌, length}
use Rattle.std.proofs.lemmas.Result.{IfOk-weaker}
use Rattle.lra_poly_widening.specs.Crates.lra_linear_spec.declared.ConKind.TheVariants.{Ge}
use Rattle.lra_poly_widening.proofs.Places.{never_ok, pair_passes, wide_pair, width_at}
use Rattle.lra_poly_widening.proofs.lists.inclusion_loss.Goals as goal

pub bounds-rows-row : goal.bounds-rows-row
bounds-rows-row c =
    let w = wide_pair c.args.p.now c.args.q.now c.rows-list.result.now c.generators-generators.result.now c.rows-rows.result.now c.rows-columns.result.now c.kinds-kinds.result.now
    c.kinds-kinds-2.result.now c.args.generator c.args.row c.rows-list.ensures.rows c.generators-generators.ensures.generators c.rows-rows.ensures.rows c.kinds-kinds.ensures.kinds
    c.kinds-kinds.ensures.len c.rows-columns.ensures.rows c.kinds-kinds-2.ensures.kinds c.kinds-kinds-2.ensures.len c.requires.wide in
    w.row_below

pub offset_bounds-rows-row : goal.offset_bounds-rows-row
offset_bounds-rows-row c =
    let w = wide_pair c.args.p.now c.args.q.now c.rows-list.result.now c.generators-generators.result.now c.rows-rows.result.now c.rows-columns.result.now c.kinds-kinds.result.now
    c.kinds-kinds-2.result.now c.args.generator c.args.row c.rows-list.ensures.rows c.generators-generators.ensures.generators c.rows-rows.ensures.rows c.kinds-kinds.ensures.kinds
    c.kinds-kinds.ensures.len c.rows-columns.ensures.rows c.kinds-kinds-2.ensures.kinds c.kinds-kinds-2.ensures.len c.requires.wide in
    let l : c.args.row < length c.rows-rows.result.now = w.row_below in
    search rules

pub bounds-columns-generator : goal.bounds-columns-generator
bounds-columns-generator c =
    let w = wide_pair c.args.p.now c.args.q.now c.rows-list.result.now c.generators-generators.result.now c.rows-rows.result.now c.rows-columns.result.now c.kinds-kinds.result.now
    c.kinds-kinds-2.result.now c.args.generator c.args.row c.rows-list.ensures.rows c.generators-generators.ensures.generators c.rows-rows.ensures.rows c.kinds-kinds.ensures.kinds
    c.kinds-kinds.ensures.len c.rows-columns.ensures.rows c.kinds-kinds-2.ensures.kinds c.kinds-kinds-2.ensures.len c.requires.wide in
    w.column_below

pub offset_bounds-columns-generator : goal.offset_bounds-columns-generator
offset_bounds-columns-generator c =
    let w = wide_pair c.args.p.now c.args.q.now c.rows-list.result.now c.generators-generators.result.now c.rows-rows.result.now c.rows-columns.result.now c.kinds-kinds.result.now
    c.kinds-kinds-2.result.now c.args.generator c.args.row c.rows-list.ensures.rows c.generators-generators.ensures.generators c.rows-rows.ensures.rows c.kinds-kinds.ensures.kinds
    c.kinds-kinds.ensures.len c.rows-columns.ensures.rows c.kinds-kinds-2.ensures.kinds c.kinds-kinds-2.ensures.len c.requires.wide in
    let l : c.args.generator < length c.rows-columns.result.now = w.column_below in
    search rules

pub bounds-kinds-row : goal.bounds-kinds-row
bounds-kinds-row c =
    let w = wide_pair c.args.p.now c.args.q.now c.rows-list.result.now c.generators-generators.result.now c.rows-rows.result.now c.rows-columns.result.now c.kinds-kinds.result.now
    c.kinds-kinds-2.result.now c.args.generator c.args.row c.rows-list.ensures.rows c.generators-generators.ensures.generators c.rows-rows.ensures.rows c.kinds-kinds.ensures.kinds
    c.kinds-kinds.ensures.len c.rows-columns.ensures.rows c.kinds-kinds-2.ensures.kinds c.kinds-kinds-2.ensures.len c.requires.wide in
    let l = w.row_below in
    let e = ap length c.rows-rows.ensures.rows in
    omega (arith, l, e, c.kinds-kinds.ensures.len)

pub dot-requires : goal.dot-requires
dot-requires c =
    let w = wide_pair c.args.p.now c.args.q.now c.rows-list.result.now c.generators-generators.result.now c.rows-rows.result.now c.rows-columns.result.now c.kinds-kinds.result.now
    c.kinds-kinds-2.result.now c.args.generator c.args.row c.rows-list.ensures.rows c.generators-generators.ensures.generators c.rows-rows.ensures.rows c.kinds-kinds.ensures.kinds
    c.kinds-kinds.ensures.len c.rows-columns.ensures.rows c.kinds-kinds-2.ensures.kinds c.kinds-kinds-2.ensures.len c.requires.wide in
    width_at (suc c.rows-list.result.now.dims) c.rows-rows.result.now c.args.row c.index-rows-row.result c.rows-rows.ensures.widths w.row_below c.index-rows-row.is ∙
    ap suc (c.rows-list.ensures.dims ∙ c.requires.dims ∙ sym c.generators-generators.ensures.dims) ∙
    sym (width_at (suc c.generators-generators.result.now.dims) c.rows-columns.result.now c.args.generator c.index-columns-generator.result c.rows-columns.ensures.widths w.column_below
    c.index-columns-generator.is)

pub unreachable-requires : goal.unreachable-requires
unreachable-requires c =
    let w = wide_pair c.args.p.now c.args.q.now c.rows-list.result.now c.generators-generators.result.now c.rows-rows.result.now c.rows-columns.result.now c.kinds-kinds.result.now
    c.kinds-kinds-2.result.now c.args.generator c.args.row c.rows-list.ensures.rows c.generators-generators.ensures.generators c.rows-rows.ensures.rows c.kinds-kinds.ensures.kinds
    c.kinds-kinds.ensures.len c.rows-columns.ensures.rows c.kinds-kinds-2.ensures.kinds c.kinds-kinds-2.ensures.len c.requires.wide in
    never_ok _ c.in-Ok.field-0 (sym c.dot.ensures.exact ∙ c.in-Ok.is) (w.here c.index-rows-row.result c.index-columns-generator.result Ge c.index-rows-row.is c.index-columns-generator.is).2

pub returns : goal.returns
returns c =
    let w = wide_pair c.args.p.now c.args.q.now c.rows-list.result.now c.generators-generators.result.now c.rows-rows.result.now c.rows-columns.result.now c.kinds-kinds.result.now
    c.kinds-kinds-2.result.now c.args.generator c.args.row c.rows-list.ensures.rows c.generators-generators.ensures.generators c.rows-rows.ensures.rows c.kinds-kinds.ensures.kinds
    c.kinds-kinds.ensures.len c.rows-columns.ensures.rows c.kinds-kinds-2.ensures.kinds c.kinds-kinds-2.ensures.len c.requires.wide in
    IfOk-weaker c.product_loss.result _ _ (λ loss. pair_passes c.args.p.now c.args.q.now c.rows-rows.result.now c.rows-columns.result.now
    c.kinds-kinds.result.now c.args.generator c.args.row c.index-rows-row.result c.index-columns-generator.result
    Ge
    c.in-Err.excess loss w c.index-rows-row.is c.index-columns-generator.is c.in-Err.ensures.exact) c.product_loss.ensures
