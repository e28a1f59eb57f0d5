-- Goals of `add_call`: adds a call to the row of its caller.
use Rattle.std.proofs.{Common.ℕ, Common.Vec, Common.Global, Common.◌++◌, Common.◌∷◌, Common.[], Common.length, Common.refl, Common.sym, Common.ap, Common.◌∙◌, lemmas.Option.slice_get_read}
use Rattle.lra_recursion.specs.Calls.{callees_of}
use Rattle.lra_recursion.proofs.Adding.{row_added}
use Rattle.lra_recursion.proofs.rows.add_call.Goals as goal

pub returns-in_ok-push-clause-added : goal.returns-in_ok-push-clause-added
returns-in_ok-push-clause-added c = λ j rest l.
    let rows = c.args.rows.now in
    row_added rows c.args.call.now.caller j c.index-rows-call.result c.push.new.self c.args.call.now.callee (callees_of j rest)
    (slice_get_read rows (length rows) c.args.call.now.caller c.index-rows-call.result refl c.if-call-rows.true c.index-rows-call.is)
    (c.in_ok-push.ensures.items ∙ ap (λ (v : Vec ℕ Global). v.items ++ c.args.call.now.callee ∷ []) (sym c.index-rows-call.is))
