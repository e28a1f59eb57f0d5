-- Goals of `take_path`: a path, after its own line.
use Rattle.std.proofs.Common.{◌∙◌}
use Rattle.lra_verify.specs.Crates.{lra_certificate_spec.Lines.left_at, lra_path_disjuncts.TableDisjuncts.all_done}
use Rattle.lra_certificate_lines.specs.PathCheckViews.{target_rows, lines_by}
use Rattle.lra_verify.specs.EdgeViews.{path_of}
use Rattle.lra_certificate_lines.proofs.ShowSteps.{told_as}
use Rattle.lra_verify.proofs.EdgeSteps.{edge_clean, path_some}
use Rattle.lra_verify.proofs.edges.take_path.Goals as goal

pub take_line-requires-clause-text : goal.take_line-requires-clause-text
take_line-requires-clause-text c =
    edge_clean c.args.edge.now.source c.args.edge.now.point c.as_bytes.result.now (c.as_bytes.ensures.value ∙ c.in_ok-text.ensures)

pub returns-clause-told : goal.returns-clause-told
returns-clause-told c =
    let e = c.args.edge.now in
    let bytes = c.args.bytes.now in
    let steps = all_done c.args.path.now in
    let track = c.in_ok-track-in-Some in
    let next = left_at bytes c.in_ok-next.next in
    told_as (left_at bytes) (lines_by track.track (target_rows e.to) next) (path_of e steps (left_at bytes c.args.at)) c.show_target.result
    (path_some e steps c.as_bytes.result.now (left_at bytes c.args.at) (c.as_bytes.ensures.value ∙ c.in_ok-text.ensures) next c.in-Some.rows track.track
    c.in_ok-next.ensures.told c.in-Some.is track.ensures.track) c.show_target.ensures.told
