-- Goals of `find_own_loss`: what is reported if there is no own list.
use Rattle.std.proofs.{Common.◌∙◌, Common.arith, Common.ap, Common.sym, Common.length, Common.◌<◌, Common.◌-◌, lemmas.Result.IfOk-weaker}
use Rattle.lra_description_pair.specs.Crates.lra_linear_spec.Kinds.{is_equality}
use Rattle.lra_description_pair.specs.OwnLists.{IsOwnLoss}
use Rattle.lra_description_pair.proofs.{OwnRows.some_rows, PairLosses.own_loss_is}
use Rattle.lra_description_pair.proofs.pair.find_own_loss.Goals as goal

pub returns-clause-loss : goal.returns-clause-loss
returns-clause-loss c =
    let s = c.args.cone.now in
    let some : 0 < length c.rows-rows.result.now = some_rows is_equality c.rows-rows.result.now c.taken-taken.result.now.rows c.taken-taken.result.now.kinds s.taken c.taken-taken.ensures.taken
    c.rows-rows.ensures.rows (ap length (sym c.kinds-kinds.ensures.kinds) ∙ c.kinds-kinds.ensures.len) c.requires in
    IfOk-weaker c.new.result _ (IsOwnLoss s c.args.cause)
    (λ l e. own_loss_is is_equality s c.args.cause l c.rows-rows.result.now c.taken-taken.result.now.rows c.kinds-kinds.result.now c.taken-taken.result.now.kinds
    (length c.rows-rows.result.now - 1) c.index-rows-last.result _ c.taken-taken.ensures.taken c.rows-rows.ensures.rows c.kinds-kinds.ensures.kinds c.kinds-kinds.ensures.len
    (omega (arith, some)) c.index-rows-last.is e) c.new.ensures
