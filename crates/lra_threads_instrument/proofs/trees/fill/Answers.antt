-- Goals of `fill`: an instrumented tree comes into the innermost place.
use Rattle.std.proofs.Common.{refl, arith}
use Rattle.lra_threads_instrument.specs.declared.stack.Selection.{Selection}
use Rattle.lra_threads_instrument.specs.{declared.stack.InstrumentFrame.TheVariants.Row, declared.stack.InstrumentFrame.TheVariants.Arm, declared.stack.Next.TheVariants.Selects}
use Rattle.lra_threads_instrument.proofs.OpenFrames.{arm_filled, place_leads, place_stands, row_filled}
use Rattle.lra_threads_instrument.proofs.trees.fill.Goals as goal

pub returns-in_ok-push-in-Row : goal.returns-in_ok-push-in-Row
returns-in_ok-push-in-Row c n =
    let r = c.in-Row.row in
    place_leads c.go_on_row.result n c.args.places.now.items c.go_on_row.new.places.items (Row r) c.args.place c.args.tree _ _ c.in-Row.is
    (row_filled n r (record { done = c.push.new.self; left = r.left; last = r.last }) c.args.tree c.in_ok-push-in-Row.ensures.items refl refl) (omega arith)
    (c.go_on_row.ensures n)

pub returns-in_ok-push-in-Arm : goal.returns-in_ok-push-in-Arm
returns-in_ok-push-in-Arm c n =
    let s = c.in-Arm.selection in
    let t : Selection = record { point = s.point; base = s.base; value = s.value; done = c.push-in-Arm.new.self; left = s.left } in
    place_stands n c.args.places.now.items (Arm s) c.args.place c.args.tree (Selects t) c.in-Arm.is
    (arm_filled n s t c.args.tree refl refl refl refl c.in_ok-push-in-Arm.ensures.items) (omega arith)
