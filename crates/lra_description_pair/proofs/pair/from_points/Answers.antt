-- Goals of `from_points`: the polyhedron of generators, some of them points, and what was lost.
use Rattle.std.proofs.{Common.◌≡◌, Common.◌≢◌, Common.arith, Common.sym, Common.subst, Common.length, Common.ℕ, Common.[], lemmas.Grind.common_steps, lemmas.Result.IfOk-weaker}
use Rattle.std.specs.Vec.{vec_len}
use Rattle.lra_description_pair.specs.Crates.{lra_linear_spec.Descriptions.Gen, lra_linear_spec.Points.IsEmptySet, lra_systems.LinearSystems.generators}
use Rattle.lra_description_pair.proofs.{GeneratorPairs.all_taken, GeneratorPairs.if_both, GeneratorPairs.some_lost, OwnRows.none_of, OwnRows.some_of}
use Rattle.lra_description_pair.proofs.pair.from_points.Goals as goal

pub of_taken_generators-requires-clause-columns : goal.of_taken_generators-requires-clause-columns
of_taken_generators-requires-clause-columns c =
    let losses = c.in_ok-conversion.conversion.losses.items in
    let same : length losses ≡ vec_len c.in_ok-conversion.conversion.losses = grind (arith, common_steps) in
    let none : losses ≡ [] = none_of losses (vec_len c.in_ok-conversion.conversion.losses) c.is_empty.result same c.is_empty.ensures c.if-is_empty.true in
    c.in_ok-conversion.ensures.columns none

pub of_taken_generators-requires-clause-some : goal.of_taken_generators-requires-clause-some
of_taken_generators-requires-clause-some c =
    let cone = c.in_ok-conversion.conversion.cone in
    let losses = c.in_ok-conversion.conversion.losses.items in
    let same : length losses ≡ vec_len c.in_ok-conversion.conversion.losses = grind (arith, common_steps) in
    let none : losses ≡ [] = none_of losses (vec_len c.in_ok-conversion.conversion.losses) c.is_empty.result same c.is_empty.ensures c.if-is_empty.true in
    subst (λ (n : ℕ). ¬ (IsEmptySet n (Gen cone.taken))) (sym c.dims-n.ensures) (c.in_ok-conversion.ensures.some none)

pub returns-then-is_empty : goal.returns-then-is_empty
returns-then-is_empty c =
    let cone = c.in_ok-conversion.conversion.cone in
    let losses = c.in_ok-conversion.conversion.losses.items in
    let same : length losses ≡ vec_len c.in_ok-conversion.conversion.losses = grind (arith, common_steps) in
    let none : losses ≡ [] = none_of losses (vec_len c.in_ok-conversion.conversion.losses) c.is_empty.result same c.is_empty.ensures c.if-is_empty.true in
    IfOk-weaker c.of_taken_generators.result _ _
    (λ r h. all_taken c.args.given.now.dims c.dims-n.result (generators c.args.given.now) c.in_ok-conversion.list cone losses r.1.items r.0 c.in_ok-conversion.ensures none c.dims-n.ensures h)
    c.of_taken_generators.ensures

pub returns : goal.returns
returns c =
    let cone = c.in_ok-conversion.conversion.cone in
    let losses = c.in_ok-conversion.conversion.losses.items in
    let same : length losses ≡ vec_len c.in_ok-conversion.conversion.losses = grind (arith, common_steps) in
    let lost : losses ≢ [] = some_of losses (vec_len c.in_ok-conversion.conversion.losses) c.is_empty.result same c.is_empty.ensures c.if-is_empty.false in
    if_both c.enclose_points.result _ _ _
    (λ r e h. some_lost c.args.given.now.dims (generators c.args.given.now) c.in_ok-conversion.list cone losses r.1.items r.0 c.in_ok-conversion.ensures lost e h)
    c.enclose_points.ensures.losses c.enclose_points.ensures.first
