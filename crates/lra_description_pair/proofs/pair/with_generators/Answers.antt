-- Goals of `with_generators`: the polyhedron of the generators that were added to a cone, and of further ones
-- that are added after them, some of all of them points.
use Rattle.std.proofs.{Common.◌≡◌, Common.◌≢◌, Common.◌∙◌, Common.arith, Common.length, Common.subst, Common.sym, Common.IfSome, Common.List, Common.ℕ, Common.[], lemmas.Grind.common_steps}
use Rattle.std.specs.Vec.{vec_len}
use Rattle.lra_description_pair.specs.Crates.lra_systems.LinearSystems.{constraints, generators}
use Rattle.lra_description_pair.specs.Crates.{lra_linear_spec.Descriptions.LinearRow, lra_linear_spec.Descriptions.Gen, lra_linear_spec.Points.IsEmptySet, lra_linear_spec.Polyhedra.IsPolyhedronOf}
use Rattle.lra_description_pair.proofs.GeneratorPairs.{further_columns, further_rows, further_taken}
use Rattle.lra_description_pair.proofs.{OwnRows.none_of, OwnRows.some_of, PairLosses.if_none, PairLosses.list_strains, PairLosses.one_left_out}
use Rattle.lra_description_pair.proofs.pair.with_generators.Goals as goal

pub convert_own_list-requires-clause-columns : goal.convert_own_list-requires-clause-columns
convert_own_list-requires-clause-columns c =
    let more = c.args.more.now in
    let conversion = c.in_ok-conversion.conversion in
    let losses = conversion.losses.items in
    let same : length losses ≡ vec_len conversion.losses = grind (arith, common_steps) in
    let none : losses ≡ [] = none_of losses (vec_len conversion.losses) c.is_empty.result same c.is_empty.ensures c.if-not-is_empty.false in
    let taken = further_taken more c.in_ok-rows.rows c.args.start conversion.cone (constraints conversion.kept) losses c.in_ok-rows.ensures.rows c.in_ok-rows.ensures.kinds
    c.in_ok-conversion.ensures.taken none in
    further_columns more c.args.start.taken conversion.cone.taken c.requires.kinds c.requires.columns taken

pub convert_own_list-requires-clause-some : goal.convert_own_list-requires-clause-some
convert_own_list-requires-clause-some c =
    let more = c.args.more.now in
    let conversion = c.in_ok-conversion.conversion in
    let losses = conversion.losses.items in
    let same : length losses ≡ vec_len conversion.losses = grind (arith, common_steps) in
    let none : losses ≡ [] = none_of losses (vec_len conversion.losses) c.is_empty.result same c.is_empty.ensures c.if-not-is_empty.false in
    let taken = further_taken more c.in_ok-rows.rows c.args.start conversion.cone (constraints conversion.kept) losses c.in_ok-rows.ensures.rows c.in_ok-rows.ensures.kinds
    c.in_ok-conversion.ensures.taken none in
    subst (λ (n : ℕ). ¬ (IsEmptySet n (Gen conversion.cone.taken))) (sym c.dims-n.ensures)
    (subst (λ (l : List LinearRow). ¬ (IsEmptySet more.dims (Gen l))) (sym taken) c.requires.some)

pub returns-clause-pair : goal.returns-clause-pair
returns-clause-pair c =
    let more = c.args.more.now in
    let conversion = c.in_ok-conversion.conversion in
    let losses = conversion.losses.items in
    let same : length losses ≡ vec_len conversion.losses = grind (arith, common_steps) in
    let none : losses ≡ [] = none_of losses (vec_len conversion.losses) c.is_empty.result same c.is_empty.ensures c.if-not-is_empty.false in
    let taken = further_taken more c.in_ok-rows.rows c.args.start conversion.cone (constraints conversion.kept) losses c.in_ok-rows.ensures.rows c.in_ok-rows.ensures.kinds
    c.in_ok-conversion.ensures.taken none in
    let pair = c.in_ok-pair.pair in
    subst (λ (l : List LinearRow). IfSome pair (IsPolyhedronOf more.dims (Gen l))) taken
    (subst (λ (n : ℕ). IfSome pair (IsPolyhedronOf n (Gen conversion.cone.taken))) c.dims-n.ensures c.in_ok-pair.ensures.pair)

pub returns-then-not-is_empty-clause-none : goal.returns-then-not-is_empty-clause-none
returns-then-not-is_empty-clause-none c =
    let more = c.args.more.now in
    let conversion = c.in_ok-conversion.conversion in
    let losses = conversion.losses.items in
    let same : length losses ≡ vec_len conversion.losses = grind (arith, common_steps) in
    let some : losses ≢ [] = some_of losses (vec_len conversion.losses) c.is_empty.result same c.is_empty.ensures c.if-not-is_empty.true in
    one_left_out more.dims c.args.start.taken (generators more) (constraints conversion.kept) (constraints c.in_ok-rows.rows) conversion.cone losses
    (c.in_ok-conversion.ensures.dims ∙ c.requires.dims) (further_rows more c.in_ok-rows.rows c.in_ok-rows.ensures.rows c.in_ok-rows.ensures.kinds) c.in_ok-conversion.ensures.taken some

pub returns-clause-none : goal.returns-clause-none
returns-clause-none c =
    let more = c.args.more.now in
    let conversion = c.in_ok-conversion.conversion in
    let losses = conversion.losses.items in
    let same : length losses ≡ vec_len conversion.losses = grind (arith, common_steps) in
    let none : losses ≡ [] = none_of losses (vec_len conversion.losses) c.is_empty.result same c.is_empty.ensures c.if-not-is_empty.false in
    if_none c.in_ok-pair.pair _ _ (list_strains more.dims c.args.start.taken (generators more) (constraints conversion.kept) (constraints c.in_ok-rows.rows) conversion.cone losses
    (c.in_ok-conversion.ensures.dims ∙ c.requires.dims) (further_rows more c.in_ok-rows.rows c.in_ok-rows.ensures.rows c.in_ok-rows.ensures.kinds) c.in_ok-conversion.ensures.taken none)
    c.in_ok-pair.ensures.none
