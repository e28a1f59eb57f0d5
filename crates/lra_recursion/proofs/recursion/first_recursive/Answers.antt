-- Goals of `first_recursive`: the place of the first call, in text order, whose callee reaches the function that holds
-- it.
use Rattle.std.proofs.{Common.◌≡◌, Common.◌∙◌, Common.sym, Common.length, Common.arith, lemmas.Grind.common_steps}
use Rattle.std.specs.Vec.{vec_len}
use Rattle.lra_recursion.proofs.Reaching.{resolved_first}
use Rattle.lra_recursion.proofs.recursion.first_recursive.Goals as goal

pub returns : goal.returns
returns c =
    let count : length c.args.program.now.functions.items ≡ vec_len c.args.program.now.functions = grind (arith, common_steps) in
    resolved_first c.first_back.result c.args.tree.now c.args.program.now c.args.labels.now.labels c.in_ok-index.index _ _ c.in_ok-calls.calls.items _ _ c.in_ok-rows.rows.items _ _
    c.in_ok-index.ensures c.deref.ensures.value c.deref-2.ensures.value c.deref-3.ensures.value c.deref-5.ensures.value c.deref-4.ensures.value (c.len.ensures ∙ sym count)
    c.in_ok-calls.ensures c.in_ok-rows.ensures.count c.in_ok-rows.ensures.rows c.first_back.ensures
