-- Goals of `enter_at`: what comes in at the label.
use Rattle.std.proofs.{Common.◌≡◌, Common.◌∙◌, Common.ap, lemmas.Result.IfOk-weaker}
use Rattle.lra_pass_stack.specs.Crates.{lra_analysis_spec.MovesOf.number_moves, lra_analysis_spec.Operations.lossy_operations, lra_analysis_spec.Pass.Enters}
use Rattle.lra_pass_stack.specs.Crates.{lra_domain.declared.Exactness.TheVariants.Exact, lra_transfer.Changes.Does, lra_transfer.declared.splits.Kept.Kept}
use Rattle.std.specs.Prelude.{true}
use Rattle.lra_pass_stack.proofs.SelectFrames.{case_entered, default_entered}
use Rattle.lra_pass_stack.proofs.selections.enter_at.Goals as goal

pub returns-in-Default-clause-enters : goal.returns-in-Default-clause-enters
returns-in-Default-clause-enters g c base e same =
    let m = g.D.Domain.abstraction in
    let s = c.args.selecting.now in
    let l = c.args.label.now in
    IfOk-weaker c.enter_default.result (λ (k : Kept _). k ≡ record { value = s.other; exactness = Exact })
    (λ (k : Kept _). Enters (lossy_operations m) base e l s.from s.other k.exactness k.value)
    (λ k is. default_entered m base e l s.from s.other k c.in-Default.is is)
    c.enter_default.ensures

pub returns-in-Default-clause-dims : goal.returns-in-Default-clause-dims
returns-in-Default-clause-dims g c =
    let m = g.D.Domain.abstraction in
    let s = c.args.selecting.now in
    IfOk-weaker c.enter_default.result (λ (k : Kept _). k ≡ record { value = s.other; exactness = Exact }) (λ (k : Kept _). m.dims k.value ≡ m.dims s.from)
    (λ k is. ap (λ (x : Kept _). m.dims x.value) is ∙ c.requires.other) c.enter_default.ensures

pub returns-in-Case-clause-enters : goal.returns-in-Case-clause-enters
returns-in-Case-clause-enters g c base e same =
    let m = g.D.Domain.abstraction in
    let s = c.args.selecting.now in
    let l = c.args.label.now in
    let z = c.in-Case.number in
    IfOk-weaker c.enter_case.result (λ (k : Kept _). Does m (number_moves (m.dims s.from) true s.seen z) s.from k.exactness k.value)
    (λ (k : Kept _). Enters (lossy_operations m) base e l s.from s.other k.exactness k.value)
    (λ k left. case_entered m base e l z s.seen s.from s.other k.value k.exactness c.in-Case.is same left) c.enter_case.ensures.leaves
