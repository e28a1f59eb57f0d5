-- Goals of `generate`: the rows kept, their points, rays and lines, and the rows left out.
use Rattle.std.proofs.Common.{◌∙◌, ap, sym, subst, suc, ℕ, List}
use Rattle.lra_conversions.specs.Crates.{lra_linear_spec.Descriptions.LinearRow, lra_systems.LinearSystems.constraints, lra_systems.LinearSystems.generators}
use Rattle.lra_description_pair.proofs.{GeneratorLists.generated, GeneratorLists.same_points, PairLosses.behind_positivity}
use Rattle.lra_cone.proofs.Stepped.{lines_have_width, rays_have_width}
use Rattle.lra_cone.specs.Conversions.{AreTried}
use Rattle.lra_conversions.proofs.conversions.generate.Goals as goal

pub generator_list-requires-clause-lines : goal.generator_list-requires-clause-lines
generator_list-requires-clause-lines c = lines_have_width c.in_ok-conversion.conversion.cone (suc c.dims-n.result) c.lines-lines.result.now c.lines-lines.ensures.cone
    (ap suc (sym (c.in_ok-conversion.ensures.dims ∙ c.in_ok-positive_cone.ensures.dims))) c.lines-lines.ensures.lines

pub generator_list-requires-clause-rays : goal.generator_list-requires-clause-rays
generator_list-requires-clause-rays c = rays_have_width c.in_ok-conversion.conversion.cone (suc c.dims-n.result) c.rays-rays.result.now c.rays-rays.ensures.cone
    (ap suc (sym (c.in_ok-conversion.ensures.dims ∙ c.in_ok-positive_cone.ensures.dims))) c.rays-rays.ensures.rays

pub returns-clause-points : goal.returns-clause-points
returns-clause-points c = same_points c.args.rows.now.dims (constraints c.in_ok-conversion.conversion.kept) (generators c.in_ok-generators.generators)
    (generated c.in_ok-conversion.conversion.cone c.in_ok-positive_cone.field-0 c.args.rows.now.dims c.dims-n.result
    (constraints c.in_ok-conversion.conversion.kept) c.lines-lines.result.now c.rays-rays.result.now c.in_ok-generators.generators c.lines-lines.ensures.cone c.dims-n.ensures
    c.in_ok-conversion.ensures.dims c.in_ok-positive_cone.ensures.dims c.in_ok-positive_cone.ensures.taken c.in_ok-conversion.ensures.taken.taken c.lines-lines.ensures.lines c.rays-rays.ensures.rays
    c.in_ok-generators.ensures.shown).0

pub returns-clause-canonical : goal.returns-clause-canonical
returns-clause-canonical c = (generated c.in_ok-conversion.conversion.cone c.in_ok-positive_cone.field-0 c.args.rows.now.dims c.dims-n.result
    (constraints c.in_ok-conversion.conversion.kept) c.lines-lines.result.now c.rays-rays.result.now c.in_ok-generators.generators c.lines-lines.ensures.cone c.dims-n.ensures
    c.in_ok-conversion.ensures.dims c.in_ok-positive_cone.ensures.dims c.in_ok-positive_cone.ensures.taken c.in_ok-conversion.ensures.taken.taken c.lines-lines.ensures.lines c.rays-rays.ensures.rays
    c.in_ok-generators.ensures.shown).0

pub returns-clause-kinds : goal.returns-clause-kinds
returns-clause-kinds c = (generated c.in_ok-conversion.conversion.cone c.in_ok-positive_cone.field-0 c.args.rows.now.dims c.dims-n.result
    (constraints c.in_ok-conversion.conversion.kept) c.lines-lines.result.now c.rays-rays.result.now c.in_ok-generators.generators c.lines-lines.ensures.cone c.dims-n.ensures
    c.in_ok-conversion.ensures.dims c.in_ok-positive_cone.ensures.dims c.in_ok-positive_cone.ensures.taken c.in_ok-conversion.ensures.taken.taken c.lines-lines.ensures.lines c.rays-rays.ensures.rays
    c.in_ok-generators.ensures.shown).1

pub returns-clause-tried : goal.returns-clause-tried
returns-clause-tried c =
    let n = c.args.rows.now.dims in
    let conversion = c.in_ok-conversion.conversion in
    let kept = constraints conversion.kept in
    let rows = constraints c.args.rows.now in
    let losses = conversion.losses.items in
    let first = behind_positivity n c.dims-n.result c.in_ok-positive_cone.field-0.taken c.dims-n.ensures c.in_ok-positive_cone.ensures.taken in
    let dims = c.in_ok-conversion.ensures.dims ∙ c.in_ok-positive_cone.ensures.dims ∙ c.dims-n.ensures in
    subst (λ (l : List LinearRow). AreTried (suc n) l rows kept losses) first
    (subst (λ (m : ℕ). AreTried (suc m) c.in_ok-positive_cone.field-0.taken rows kept losses) dims c.in_ok-conversion.ensures.taken.tried)
