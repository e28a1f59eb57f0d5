-- Goals of `from_generators`: the polyhedron of the generators, and what was lost.
use Rattle.std.proofs.{Common.◌∙◌, Common.ap, Common.subst, Common.List, Common.ℕ, Common.◌∷◌, Common.[], lemmas.Result.IfOk-weaker}
use Rattle.std.specs.List.{Contains}
use Rattle.lra_description_pair.specs.Crates.lra_linear_spec.OperationStrain.{FromGeneratorsStrains}
use Rattle.lra_description_pair.specs.Crates.{lra_linear_spec.Descriptions.Gen, lra_linear_spec.Descriptions.inequality, lra_linear_spec.Polyhedra.falsity, lra_linear_spec.declared.GenKind.GenKind}
use Rattle.lra_description_pair.specs.Crates.{lra_linear_spec.declared.GenKind.TheVariants.Point, lra_systems.LinearSystems.generators}
use Rattle.lra_description_pair.proofs.{ConstraintLists.no_point_given, MadeLemmas.points_made, MadeLemmas.whole_made, PairLists.empty_pair}
use Rattle.lra_description_pair.proofs.pair.from_generators.Goals as goal

pub returns-then-not-has_point-clause-becomes : goal.returns-then-not-has_point-clause-becomes
returns-then-not-has_point-clause-becomes c =
    let n = c.args.given.now.dims in
    let list = generators c.args.given.now in
    whole_made n (Gen list) (FromGeneratorsStrains n list) c.in_ok-pair.pair c.new.result.items c.new.ensures.items
    (empty_pair n (Gen list) c.in_ok-pair.pair (c.in_ok-pair.ensures.dims ∙ c.dims-n.ensures)
    (c.in_ok-pair.ensures.rows ∙ ap (λ (n : ℕ). inequality (falsity n) ∷ []) c.dims-n.ensures) c.in_ok-pair.ensures.generators
    (no_point_given n c.args.given.now c.requires (subst (λ (x : List GenKind). ¬ (Contains x Point)) c.kinds.ensures.kinds (c.has_point.ensures.no c.if-not-has_point.true))))

pub returns-then-not-has_point-clause-made : goal.returns-then-not-has_point-clause-made
returns-then-not-has_point-clause-made c = λ some. absurd (some c.new.ensures.items)

pub returns-clause-becomes : goal.returns-clause-becomes
returns-clause-becomes c =
    IfOk-weaker c.from_points.result _ _ (λ r h. points_made c.args.given.now.dims (generators c.args.given.now) r.0 r.1.items h) c.from_points.ensures

pub returns-clause-made : goal.returns-clause-made
returns-clause-made c = IfOk-weaker c.from_points.result _ _ (λ r h _. h) c.from_points.ensures
