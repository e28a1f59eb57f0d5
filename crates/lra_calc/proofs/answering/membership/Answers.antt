-- Goals of `membership`: whether the point is in the set that the constraints describe, tried in order; the divisor
-- stands first.
use Rattle.std.proofs.Common.{rules, ◌≡◌, ◌-◌, ℤ, pos, List, ◌∷◌, length, get_or, take, drop, subst, FitsSigned}
use Rattle.std.proofs.lemmas.Int.{to_z-of_z}
use Rattle.std.specs.Int.{w128}
use Rattle.lra_calc.specs.Crates.lra_systems.LinearSystems.{constraints}
use Rattle.lra_calc.specs.Script as script
use Rattle.lra_calc.specs.Views.{answered}
use Rattle.lra_calc.proofs.SessionLemmas.{answer_is, point_is}
use Rattle.lra_calc.proofs.answering.membership.Goals as goal

pub returns : goal.returns
returns c =
    let x = c.args.point.now in
    let rows = constraints c.args.constraints.now in
    let fits : FitsSigned w128 (get_or x 0 (pos 0)) = search rules in
    let told = simp to_z-of_z at c.holds_at.ensures.answer in
    subst (λ (y : List ℤ). script.membership rows y ≡ answered c.holds_at.result) (point_is x c.args.constraints.now.dims c.requires.width)
    (answer_is rows (get_or x 0 (pos 0) ∷ take (length x - 1) (drop 1 x)) c.holds_at.result told)
