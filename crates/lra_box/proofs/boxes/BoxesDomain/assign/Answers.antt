-- Goals of `BoxesDomain::assign`.
use Rattle.std.proofs.{Common.rules, Common.refl, Common.◌≡◌, Common.◌∙◌, Common.ℤ, Common.to_z, Common.of_z, Math.ListN.length-set}
use Rattle.std.specs.Int.{w64, w128}
use Rattle.lra_box.proofs.boxes.BoxesDomain.assign.Goals as goal

pub invariant_of-self : goal.invariant_of-self
invariant_of-self c = (c.self.invariant.0, c.assign_in.ensures.fit c.self.inside.dims c.self.invariant.1, c.assign_in.ensures.sound)

pub returns-clause-meets : goal.returns-clause-meets
returns-clause-meets c =
    let constant : to_z w128 (of_z w128 (to_z w64 (of_z w64 c.constant.result))) ≡ c.args.e.now.constant = search rules in
    let row : c.as_slice.result.now ≡ c.args.e.now.coefficients = search rules in
    let to = rw (constant, row) at c.assign_in.ensures in
    rw (← c.self.view_is) (record {
      formed = (c.assign_in.ensures.fit c.self.inside.dims c.self.invariant.1, c.assign_in.ensures.sound);
      keeps = λ s t h l. rw l (length-set {A = ℤ} s c.args.x _ ∙ h.0, to.stores s h.1);
      exact = λ e. record { table = rw (to.exact e) refl; extremes = to.extremes e };
      covers = λ v d. rw d.table (refl, to.covers);
      flagged = to.flagged;
    })
