-- Goals of `replace_or_forget`: becomes the polyhedron of generators that give no more than what some value of the
-- coordinate x brings into it; if that is flagged, the coordinate x is forgotten.
use Rattle.std.proofs.Common.{refl, rules, suc, sym, subst}
use Rattle.lra_poly_images.specs.Crates.{lra_linear_spec.Polyhedra.Polyhedron, lra_linear_spec.Strain.Loss, lra_systems.LinearSystems.generators}
use Rattle.lra_poly.specs.Outcomes.{IsOfGenerators}
use Rattle.lra_poly.proofs.MetRows.{never}
use Rattle.lra_poly_images.specs.Forgetting.{IsForgetResult}
use Rattle.lra_poly_images.proofs.GivenUp.{flagged_anyway, forgotten_instead, not_flagged}
use Rattle.lra_poly_images.proofs.images.replace_or_forget.Goals.{then-is_exact, else-is_exact+in_ok-give_up}
use Rattle.lra_poly_images.proofs.images.replace_or_forget.Goals as goal

pub returns-clause-becomes : goal.returns-clause-becomes
returns-clause-becomes c =
    let list = c.args.list.now in
    let o = c.in_ok-made.outcome in
    let made = c.in_ok-made.ensures.becomes in
    elim c.if-is_exact.branch [
      | then-is_exact w ↦ subst (λ (q : Polyhedron). IsOfGenerators list.dims (generators list) q o) (sym w.p-is) made
      | else-is_exact+in_ok-give_up w ↦
          subst (λ (q : Polyhedron). IsOfGenerators list.dims (generators list) q o) (sym w.p-is)
          (forgotten_instead (suc c.args.x) c.args.p.now c.in_ok-made.made _ list o
          (λ e. never _ refl (w.if-is_exact.ensures.1 e)) c.requires.dims
          c.requires.within w.in_ok-give_up.ensures.forgotten made)
    ]

pub returns-clause-forgotten : goal.returns-clause-forgotten
returns-clause-forgotten c =
    let p = c.args.p.now in
    let k = suc c.args.x in
    let o = c.in_ok-made.outcome in
    elim c.if-is_exact.branch [
      | then-is_exact w ↦ not_flagged (λ (loss : Loss). IsForgetResult k p c.if-is_exact.p) o (search rules)
      | else-is_exact+in_ok-give_up w ↦ flagged_anyway (IsForgetResult k p c.if-is_exact.p) o
          (subst (λ (q : Polyhedron). IsForgetResult k p q) (sym w.p-is) w.in_ok-give_up.ensures.forgotten)
    ]
