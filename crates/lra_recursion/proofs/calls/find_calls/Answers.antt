-- Goals of `find_calls`: all calls of a source in text order.
use Rattle.std.proofs.{Common.◌≡◌, Common.◌++◌, Common.◌∙◌, Common.rules, Common.ap, Common.refl, Common.length, lemmas.Option.slice_get_past, lemmas.Option.slice_get_read}
use Rattle.std.specs.{Prelude.slice_get, Prelude.Vec, declared.alloc.Global.Global}
use Rattle.lra_recursion.specs.declared.calls.Call.{Call}
use Rattle.lra_scopes.specs.Calls.{functions_at}
use Rattle.lra_recursion.proofs.Reading.{own_calls, further_function, called_by_one, called_by_none}
use Rattle.lra_recursion.proofs.calls.find_calls.Goals.{then-place-len+in_ok-add_calls, else-place-len}
use Rattle.lra_recursion.proofs.calls.find_calls.Goals as goal

pub functions-preserved : goal.functions-preserved
functions-preserved c =
    let F = functions_at c.args.index.now in
    let ls = c.args.labels.now.labels in
    let functions = c.args.functions.now in
    let callers = c.in_ok-callers.callers.items in
    let f = c.index-functions-place.result in
    let grown : c.if-place-len.calls.items ≡ c.functions.calls.items ++ own_calls F ls c.functions.before f.end (slice_get callers c.functions.place) =
    elim c.if-place-len.branch [
      | then-place-len+in_ok-add_calls w ↦
          called_by_one F ls c.functions.before f.end c.functions.place _ callers c.functions.calls.items c.if-place-len.calls.items
          (slice_get_read callers (length callers) c.functions.place w.index.result.now refl (search rules) w.index.ensures)
          (ap (λ (v : Vec Call Global). v.items) w.calls-is ∙ w.in_ok-add_calls.ensures)
      | else-place-len w ↦
          ap (λ (v : Vec Call Global). v.items) w.calls-is
          ∙ called_by_none F ls c.functions.before f.end c.functions.place callers c.functions.calls.items (slice_get_past callers c.functions.place (search rules))
    ] in
    further_function F ls c.functions.before callers functions f c.functions.place c.functions.calls.items c.if-place-len.calls.items _
    (slice_get_read functions (length functions) c.functions.place f refl c.functions-test.true c.index-functions-place.is) grown c.functions.invariant
