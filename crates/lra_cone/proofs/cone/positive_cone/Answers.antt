-- Goals of `positive_cone`: the cone of the points of n dimensions.
use Rattle.std.proofs.Common.{ap, sym, subst, ◌∙◌, length, suc, false, List, ℤ}
use Rattle.lra_cone.specs.Crates.lra_linear_spec.OperationStrain.{unit_row}
use Rattle.lra_cone.specs.{Cones.ConeContent, Strains.IsConeError, Strains.IsStrain}
use Rattle.lra_cone.proofs.Crates.lra_linear_spec.UnitRows.{unit_length}
use Rattle.lra_cone.proofs.PositiveCone.{positive_strains_not}
use Rattle.lra_cone.proofs.cone.positive_cone.Goals as goal

pub add_row-requires : goal.add_row-requires
add_row-requires c = ap length c.in_ok-positivity.ensures ∙ unit_length c.args.n 0 ∙ ap (λ (s : ConeContent). suc s.dims) (sym c.in_ok-cone.ensures)

pub unreachable-requires : goal.unreachable-requires
unreachable-requires c =
    let cone = c.in_ok-cone.cone in
    let row = c.in_ok-positivity.positivity in
    let strained = c.in-Err-Strained.field-0-0 in
    positive_strains_not c.args.n strained (subst (λ (s : ConeContent). IsStrain s false (unit_row c.args.n 0) strained) c.in_ok-cone.ensures
    (subst (λ (r : List ℤ). IsStrain cone false r strained) c.in_ok-positivity.ensures
    (subst (IsConeError cone false row) c.in-Err-Strained.field-0-is c.in-Err-Strained.ensures.strained)))
