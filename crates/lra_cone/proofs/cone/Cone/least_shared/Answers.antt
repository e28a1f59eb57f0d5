-- Goals of `Cone::least_shared`: how many rows are tight at both of two adjacent rays at least.
use Rattle.std.proofs.{Common.◌≡◌, Common.◌-◌, Common.arith, Common.length, Common.subst, lemmas.Grind.common_steps}
use Rattle.lra_systems.specs.LinearSystems.{constraints}
use Rattle.lra_double_description.specs.Thirds.{FewHaveThird}
use Rattle.lra_cone.specs.Cones.{ConeContent, IsCone, saturation_rows}
use Rattle.lra_cone.proofs.FewCommon.{few_have_third}
use Rattle.lra_cone.proofs.cone.Cone.least_shared.Goals as goal

pub returns : goal.returns
returns c =
    let i = c.self.inside in
    let s : ConeContent = record { dims = i.taken.dims; taken = constraints i.taken; lines = i.lines.items; rays = i.rays.items } in
    let k : IsCone s = c.self.invariant.0 in
    let least = c.saturating_sub.result in
    let is : least ≡ i.taken.dims - length i.lines.items - 1 = grind (arith, common_steps, c.saturating_sub.ensures, c.saturating_sub-free.ensures) in
    subst (λ (z : ConeContent). FewHaveThird (saturation_rows z.taken z.rays) least) c.self.view_is (few_have_third s least k is)
