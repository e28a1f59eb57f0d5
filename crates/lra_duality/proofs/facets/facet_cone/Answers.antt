-- Goals of `facet_cone`: the cone of what is valid on the generators, by the constraints; none if `cone_of` gives
-- none, or there are as many constraints, equalities counted with them, as a cone may have rays.
use Rattle.std.proofs.Common.{◌∙◌, ℕ, List, ap, refl, subst, sym}
use Rattle.lra_duality.specs.Crates.lra_systems.LinearSystems.{constraints, generators}
use Rattle.lra_duality.specs.Crates.{lra_linear_spec.Descriptions.LinearRow, lra_linear_spec.Kinds.is_equality, lra_linear_spec.Kinds.is_line}
use Rattle.lra_cone.specs.Cones.{ConeContent, cone_saturation as by_rays}
use Rattle.lra_duality.specs.Incremental.{MayGoOn}
use Rattle.lra_duality.proofs.{FacetLemmas.seen, FacetLemmas.taken_generators, StartLemmas.given_count, StartLemmas.no_room, StartLemmas.not_fitting, StartLemmas.not_turning, StartLemmas.some_given}
use Rattle.lra_duality.proofs.facets.facet_cone.Goals as goal

pub facets-requires-clause-some : goal.facets-requires-clause-some
facets-requires-clause-some c =
    let given = c.args.by_generators.now in
    some_given is_line given.rows c.rows-columns.result.now given.kinds c.kinds-column_kinds.result.now c.rows-columns.ensures.rows c.kinds-column_kinds.ensures.kinds
    c.kinds-column_kinds.ensures.len (c.fits.ensures.some c.if-not-fits.false)

pub of_lists-cone-requires-clause-cone : goal.of_lists-cone-requires-clause-cone
of_lists-cone-requires-clause-cone c =
    let list = c.args.list.now in
    let given = c.args.by_generators.now in
    let rays = c.in_ok-rays.rays.items in
    seen list.dims (constraints list) (generators given) c.in_ok-taken.taken c.in_ok-lines.lines.items rays rays (c.in_ok-taken.ensures.dims ∙ c.requires.dims)
    (taken_generators given c.in_ok-taken.taken c.in_ok-taken.ensures.rows c.in_ok-taken.ensures.kinds) c.in_ok-lines.ensures refl c.in_ok-rays.ensures.cone

pub of_lists-cone-requires-clause-saturation : goal.of_lists-cone-requires-clause-saturation
of_lists-cone-requires-clause-saturation c =
    let given = c.args.by_generators.now in
    c.in_ok-rays.ensures.saturation ∙
    ap (λ (l : List LinearRow). by_rays l c.in_ok-rays.rays.items) (sym (taken_generators given c.in_ok-taken.taken c.in_ok-taken.ensures.rows c.in_ok-taken.ensures.kinds))

pub returns-clause-taken : goal.returns-clause-taken
returns-clause-taken c =
    let given = c.args.by_generators.now in
    ap (λ (s : ConeContent). s.taken) c.of_lists-cone.ensures
    ∙ taken_generators given c.in_ok-taken.taken c.in_ok-taken.ensures.rows c.in_ok-taken.ensures.kinds

pub returns-clause-some : goal.returns-clause-some
returns-clause-some c =
    let given = c.args.by_generators.now in
    some_given is_line given.rows c.rows-columns.result.now given.kinds c.kinds-column_kinds.result.now c.rows-columns.ensures.rows c.kinds-column_kinds.ensures.kinds
    c.kinds-column_kinds.ensures.len (c.fits.ensures.some c.if-not-fits.false)

pub returns-then-not-fits-clause-none : goal.returns-then-not-fits-clause-none
returns-then-not-fits-clause-none c =
    let list = c.args.list.now in
    let given = c.args.by_generators.now in
    let count = given_count is_line given.rows c.rows-columns.result.now given.kinds c.kinds-column_kinds.result.now c.rows-columns.ensures.rows c.kinds-column_kinds.ensures.kinds
    c.kinds-column_kinds.ensures.len in
    not_turning list.dims (constraints list) (generators given)
    (subst (λ (n : ℕ). ¬ (MayGoOn n (generators given))) c.dims.ensures
    (not_fitting c.dims.result _ (generators given) c.fits.result c.fits.ensures.fits c.if-not-fits.true count))

pub returns-then-not-leaves_room-clause-none : goal.returns-then-not-leaves_room-clause-none
returns-then-not-leaves_room-clause-none c =
    let list = c.args.list.now in
    let count = given_count is_equality list.rows c.rows-rows.result.now list.kinds c.kinds-kinds.result.now c.rows-rows.ensures.rows c.kinds-kinds.ensures.kinds c.kinds-kinds.ensures.len in
    no_room list.dims _ (constraints list) (generators c.args.by_generators.now) c.leaves_room.result c.leaves_room.ensures.leaves c.if-not-leaves_room.true count
