-- Goals of `state_of`: the rows of a value; none if it has no point.
use Rattle.std.proofs.{Common.◌≡◌, Common.◌∙◌, Common.◌<◌, Common.List, Common.length, Common.sym, Common.ap, Common.arith, lemmas.Grind.common_steps}
use Rattle.std.specs.Prelude.{Some, option_map}
use Rattle.lra_certify_source.specs.Crates.lra_systems.LinearSystems.{LinearSystem, constraints}
use Rattle.lra_certify_source.specs.Crates.{lra_linear_spec.Descriptions.LinearRow, lra_linear_spec.declared.ConKind.ConKind}
use Rattle.lra_certify_source.proofs.TakenSteps.{rows_kept}
use Rattle.lra_certify_source.proofs.extraction.state_of.Goals as goal

pub returns-in_ok-copy-clause-state : goal.returns-in_ok-copy-clause-state
returns-in_ok-copy-clause-state c =
    let gens = c.generators.result.now in
    let long : length gens.kinds ≡ length gens.rows = sym (ap length c.kinds.ensures.kinds) ∙ c.kinds.ensures.len in
    let some : 0 < length gens.kinds = grind (arith, common_steps) in
    ap (λ (rows : List LinearRow). Some rows) (ap constraints c.in_ok-copy.ensures ∙ c.rows-rows.ensures.rows)
    ∙ sym (rows_kept gens c.args.value.now.generators c.args.value.now.rows long some c.generators.ensures.generators)

pub returns-in_ok-copy-clause-dims : goal.returns-in_ok-copy-clause-dims
returns-in_ok-copy-clause-dims c =
    let gens = c.generators.result.now in
    let long : length gens.kinds ≡ length gens.rows = sym (ap length c.kinds.ensures.kinds) ∙ c.kinds.ensures.len in
    let some : 0 < length gens.kinds = grind (arith, common_steps) in
    ap Some (ap (λ (l : LinearSystem ConKind). l.dims) c.in_ok-copy.ensures ∙ c.rows-rows.ensures.dims)
    ∙ sym (ap (option_map (λ (rows : List LinearRow). c.args.value.now.dims))
    (rows_kept gens c.args.value.now.generators c.args.value.now.rows long some c.generators.ensures.generators))
