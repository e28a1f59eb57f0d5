-- Goals of `from_cone`: the polyhedron of the constraints that were added to a cone after the positivity row,
-- and of further ones that are added after them; and what was lost of these, as by `from_rows`.
use Rattle.std.proofs.lemmas.Result.{IfOk-weaker}
use Rattle.lra_description_pair.specs.Crates.lra_systems.LinearSystems.{constraints}
use Rattle.lra_description_pair.proofs.{MadeLemmas.tried_is_made, MadeLemmas.tried_some, PairLosses.of_tried}
use Rattle.lra_description_pair.proofs.pair.from_cone.Goals as goal

pub returns-clause-becomes : goal.returns-clause-becomes
returns-clause-becomes c =
    let n = c.args.rows.now.dims in
    let rows = constraints c.args.rows.now in
    let conversion = c.in_ok-conversion.conversion in
    IfOk-weaker c.of_taken_rows.result _ _ (λ r h. tried_is_made n c.args.start.taken rows r.0 r.1.items c.requires.positive
    (of_tried n c.dims-n.result rows (constraints conversion.kept) conversion.cone c.args.start conversion.losses.items r.1.items r.0
    c.dims-n.ensures c.in_ok-conversion.ensures.dims c.requires.dims c.in_ok-conversion.ensures.taken h)) c.of_taken_rows.ensures

pub returns-clause-some : goal.returns-clause-some
returns-clause-some c =
    let n = c.args.rows.now.dims in
    let rows = constraints c.args.rows.now in
    let conversion = c.in_ok-conversion.conversion in
    IfOk-weaker c.of_taken_rows.result _ _ (λ r h. tried_some n c.args.start.taken rows r.0 r.1.items c.requires.positive
    (of_tried n c.dims-n.result rows (constraints conversion.kept) conversion.cone c.args.start conversion.losses.items r.1.items r.0
    c.dims-n.ensures c.in_ok-conversion.ensures.dims c.requires.dims c.in_ok-conversion.ensures.taken h)) c.of_taken_rows.ensures

pub returns-clause-tried : goal.returns-clause-tried
returns-clause-tried c =
    let conversion = c.in_ok-conversion.conversion in
    IfOk-weaker c.of_taken_rows.result _ _ (λ r h.
    of_tried c.args.rows.now.dims c.dims-n.result (constraints c.args.rows.now) (constraints conversion.kept) conversion.cone c.args.start conversion.losses.items r.1.items r.0
    c.dims-n.ensures c.in_ok-conversion.ensures.dims c.requires.dims c.in_ok-conversion.ensures.taken h) c.of_taken_rows.ensures
