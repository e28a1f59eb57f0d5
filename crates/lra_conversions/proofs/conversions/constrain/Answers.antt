-- Goals of `constrain`: the constraints of the generators, and the generators that were not added.
use Rattle.std.proofs.Common.{◌≡◌, ◌∙◌, ap, refl, sym, subst, length, List, ℕ, ◌∷◌, []}
use Rattle.std.specs.List.{Contains}
use Rattle.lra_conversions.specs.Crates.{lra_linear_spec.OperationStrain.unit_row, lra_linear_spec.Vectors.negated, lra_linear_spec.declared.GenKind.GenKind}
use Rattle.lra_conversions.specs.Crates.{lra_linear_spec.declared.GenKind.TheVariants.Point, lra_systems.LinearSystems.constraints}
use Rattle.lra_description_pair.proofs.{ConstraintLists.nothing_constrained, ConstraintLists.constrained, GeneratorPairs.taken}
use Rattle.lra_cone.specs.Cones.{whole_space}
use Rattle.lra_conversions.proofs.conversions.constrain.Goals as goal

subst_none : {xs ys : List GenKind} → xs ≡ ys → ¬ (Contains xs Point) → ¬ (Contains ys Point)
subst_none {xs} {ys} e n = subst (λ (x : List GenKind). ¬ (Contains x Point)) e n

pub returns-then-not-has_point-clause-exact : goal.returns-then-not-has_point-clause-exact
returns-then-not-has_point-clause-exact c = (nothing_constrained c.args.given.now.dims c.args.given.now c.in_ok-nothing.field-0 c.new.result.items c.requires
    (subst_none c.kinds.ensures.kinds (c.has_point.ensures.no c.if-not-has_point.true))
    (c.in_ok-nothing.ensures.rows ∙ ap (λ (n : ℕ). negated (unit_row n 0) ∷ []) c.dims-n.ensures) c.in_ok-nothing.ensures.kinds c.new.ensures.items).exact

pub returns-then-not-has_point-clause-within : goal.returns-then-not-has_point-clause-within
returns-then-not-has_point-clause-within c = (nothing_constrained c.args.given.now.dims c.args.given.now c.in_ok-nothing.field-0 c.new.result.items c.requires
    (subst_none c.kinds.ensures.kinds (c.has_point.ensures.no c.if-not-has_point.true))
    (c.in_ok-nothing.ensures.rows ∙ ap (λ (n : ℕ). negated (unit_row n 0) ∷ []) c.dims-n.ensures) c.in_ok-nothing.ensures.kinds c.new.ensures.items).within

pub returns-then-not-has_point-clause-canonical : goal.returns-then-not-has_point-clause-canonical
returns-then-not-has_point-clause-canonical c = (nothing_constrained c.args.given.now.dims c.args.given.now c.in_ok-nothing.field-0 c.new.result.items c.requires
    (subst_none c.kinds.ensures.kinds (c.has_point.ensures.no c.if-not-has_point.true))
    (c.in_ok-nothing.ensures.rows ∙ ap (λ (n : ℕ). negated (unit_row n 0) ∷ []) c.dims-n.ensures) c.in_ok-nothing.ensures.kinds c.new.ensures.items).canonical

pub returns-clause-exact : goal.returns-clause-exact
returns-clause-exact c = (constrained c.args.given.now.dims c.args.given.now c.in_ok-rows.rows c.in_ok-list.list c.in_ok-rows.conversion.cone
    (constraints c.in_ok-rows.conversion.kept) c.in_ok-rows.conversion.losses.items (ap length (sym c.kinds.ensures.kinds) ∙ c.kinds.ensures.len) c.requires
    (subst (λ (x : List GenKind). Contains x Point) c.kinds.ensures.kinds (c.has_point.ensures.yes c.if-not-has_point.false)) c.in_ok-rows.ensures.rows
    c.in_ok-rows.ensures.kinds c.in_ok-rows.ensures.dims.0 c.in_ok-rows.ensures.dims.1 c.in_ok-rows.ensures.taken c.in_ok-list.ensures.cone
    c.in_ok-list.ensures.exact c.in_ok-list.ensures.valid).exact

pub returns-clause-within : goal.returns-clause-within
returns-clause-within c = (constrained c.args.given.now.dims c.args.given.now c.in_ok-rows.rows c.in_ok-list.list c.in_ok-rows.conversion.cone
    (constraints c.in_ok-rows.conversion.kept) c.in_ok-rows.conversion.losses.items (ap length (sym c.kinds.ensures.kinds) ∙ c.kinds.ensures.len) c.requires
    (subst (λ (x : List GenKind). Contains x Point) c.kinds.ensures.kinds (c.has_point.ensures.yes c.if-not-has_point.false)) c.in_ok-rows.ensures.rows
    c.in_ok-rows.ensures.kinds c.in_ok-rows.ensures.dims.0 c.in_ok-rows.ensures.dims.1 c.in_ok-rows.ensures.taken c.in_ok-list.ensures.cone
    c.in_ok-list.ensures.exact c.in_ok-list.ensures.valid).within

pub returns-clause-strain : goal.returns-clause-strain
returns-clause-strain c = (constrained c.args.given.now.dims c.args.given.now c.in_ok-rows.rows c.in_ok-list.list c.in_ok-rows.conversion.cone
    (constraints c.in_ok-rows.conversion.kept) c.in_ok-rows.conversion.losses.items (ap length (sym c.kinds.ensures.kinds) ∙ c.kinds.ensures.len) c.requires
    (subst (λ (x : List GenKind). Contains x Point) c.kinds.ensures.kinds (c.has_point.ensures.yes c.if-not-has_point.false)) c.in_ok-rows.ensures.rows
    c.in_ok-rows.ensures.kinds c.in_ok-rows.ensures.dims.0 c.in_ok-rows.ensures.dims.1 c.in_ok-rows.ensures.taken c.in_ok-list.ensures.cone
    c.in_ok-list.ensures.exact c.in_ok-list.ensures.valid).strain

pub returns-clause-canonical : goal.returns-clause-canonical
returns-clause-canonical c = (constrained c.args.given.now.dims c.args.given.now c.in_ok-rows.rows c.in_ok-list.list c.in_ok-rows.conversion.cone
    (constraints c.in_ok-rows.conversion.kept) c.in_ok-rows.conversion.losses.items (ap length (sym c.kinds.ensures.kinds) ∙ c.kinds.ensures.len) c.requires
    (subst (λ (x : List GenKind). Contains x Point) c.kinds.ensures.kinds (c.has_point.ensures.yes c.if-not-has_point.false)) c.in_ok-rows.ensures.rows
    c.in_ok-rows.ensures.kinds c.in_ok-rows.ensures.dims.0 c.in_ok-rows.ensures.dims.1 c.in_ok-rows.ensures.taken c.in_ok-list.ensures.cone
    c.in_ok-list.ensures.exact c.in_ok-list.ensures.valid).canonical

pub returns-then-not-has_point-clause-taken : goal.returns-then-not-has_point-clause-taken
returns-then-not-has_point-clause-taken c = λ lost. absurd (lost c.new.ensures.items)

pub returns-clause-taken : goal.returns-clause-taken
returns-clause-taken c = λ _. (
  c.in_ok-rows.conversion.cone,
  taken c.args.given.now.dims c.args.given.now c.in_ok-rows.rows c.in_ok-list.list (whole_space c.args.given.now.dims) c.in_ok-rows.conversion.cone
      (constraints c.in_ok-rows.conversion.kept) c.in_ok-rows.conversion.losses.items (ap length (sym c.kinds.ensures.kinds) ∙ c.kinds.ensures.len) c.requires
      (subst (λ (x : List GenKind). Contains x Point) c.kinds.ensures.kinds (c.has_point.ensures.yes c.if-not-has_point.false)) c.in_ok-rows.ensures.rows
      c.in_ok-rows.ensures.kinds c.in_ok-rows.ensures.dims.0 refl c.in_ok-rows.ensures.dims.1 c.in_ok-rows.ensures.taken c.in_ok-list.ensures.cone c.in_ok-list.ensures.dims
      c.in_ok-list.ensures.exact c.in_ok-list.ensures.valid,
)
