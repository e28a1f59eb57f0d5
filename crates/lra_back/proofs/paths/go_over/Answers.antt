-- Goals of `go_over`: from the value after a path to the one before it.
use Rattle.std.proofs.Common.{◌≡◌, ◌<◌, ◌-◌, suc, length, take, arith, subst, sym}
use Rattle.std.specs.Borrow.{Bor}
use Rattle.lra_domain.specs.{Changes.action_of, Changes.dims_after_actions, declared.Exactness.Exactness, declared.changes.Change.Change}
use Rattle.lra_back.specs.Crates.lra_path_disjuncts.TableDisjuncts.{all_done}
use Rattle.lra_back.specs.Operations.{lossy_back_operations}
use Rattle.lra_back.proofs.PathSteps.{IsOverFrom, over_one, read_mapped, undo_fits}
use Rattle.lra_back.proofs.paths.go_over.Goals as goal

pub pre_of_action-requires : goal.pre_of_action-requires
pre_of_action-requires g c =
    let m = g.D.Domain.abstraction in
    let path = c.args.path.now in
    let i = c.changes.index in
    let item = c.index-path-index.result in
    let inside : i - 1 < length path = omega arith in
    let next : i ≡ suc (i - 1) = omega arith in
    undo_fits (all_done path) (m.dims c.args.forward.now) (m.dims c.args.value.now) (i - 1) (action_of item.now) (m.dims c.changes.value)
    (read_mapped (λ (x : Bor Change). action_of x.now) path (i - 1) item inside c.index-path-index.is) c.requires
    (subst (λ k. m.dims c.changes.value ≡ dims_after_actions (take k (all_done path)) (m.dims c.args.forward.now)) next c.changes.invariant.has)

pub changes-preserved : goal.changes-preserved
changes-preserved g c =
    let m = g.D.Domain.abstraction in
    let ops = lossy_back_operations m g.D.Backward.backward_abstraction in
    let path = c.args.path.now in
    let n = m.dims c.args.forward.now in
    let i = c.changes.index in
    let item = c.index-path-index.result in
    let inside : i - 1 < length path = omega arith in
    let next : i ≡ suc (i - 1) = omega arith in
    subst (λ (e : Exactness). IsOverFrom ops m.dims (all_done path) n (i - 1) c.args.value.now e c.pre_of_action.new.value) (sym c.worse-all.ensures.is)
    (over_one ops m.dims (all_done path) n c.args.value.now (m.dims c.args.value.now) i (i - 1) (action_of item.now) c.changes.value c.changes.all
    c.in_ok-one.one c.pre_of_action.new.value next
    (read_mapped (λ (x : Bor Change). action_of x.now) path (i - 1) item inside c.index-path-index.is) c.requires
    c.changes.invariant c.in_ok-one.ensures.undoes c.in_ok-one.ensures.dims)
