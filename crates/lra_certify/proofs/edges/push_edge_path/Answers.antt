-- Goals of `push_edge_path`: the lines of a path from a source to a point.
use Rattle.std.proofs.Common.{Some, ap, sym, ◌∙◌, append-nil, string_bytes, arith}
use Rattle.lra_certify.specs.Crates.{lra_certificate_lines.PathCheckViews.target_rows, lra_certificate_spec.Certificates.none, lra_path_disjuncts.TableDisjuncts.all_done}
use Rattle.lra_certify.specs.Crates.{lra_path_segments.Segments.comes_to, lra_paths.Paths.path_by, lra_systems.LinearSystems.constraints}
use Rattle.lra_certify.proofs.PathSteps.{stays_on, nothing_found, adds_path, path_adds, path_strained}
use Rattle.lra_certify.proofs.edges.push_edge_path.Goals as goal

pub push_edge-requires : goal.push_edge-requires
push_edge-requires c = let m = c.requires.ways.many in let h = c.requires.point in omega (arith, m, h)

pub push_path-requires-clause-stays : goal.push_path-requires-clause-stays
push_path-requires-clause-stays c =
    let w = c.args.ways.now in
    let rows = c.in-Some.rows.now in
    stays_on w (path_by c.args.source (comes_to c.args.point) (all_done c.args.path.now)) rows.dims (Some (constraints rows)) (target_rows c.state.result)
    c.in-Some.ensures.dims (sym (ap target_rows c.in-Some.is) ∙ c.from.ensures.rows) c.state.ensures.rows c.requires.stay

pub returns-in-None-clause-adds : goal.returns-in-None-clause-adds
returns-in-None-clause-adds c =
    let w = c.args.ways.now in
    let path = path_by c.args.source (comes_to c.args.point) (all_done c.args.path.now) in
    adds_path w path none (string_bytes c.args.text.now) (string_bytes c.push_edge.new.text) (string_bytes c.push_edge.new.text)
    (nothing_found w path (sym (ap target_rows c.in-None.is) ∙ c.from.ensures.rows)) c.in_ok-push_edge.ensures
    (sym (append-nil (string_bytes c.push_edge.new.text)))

pub returns-in-Some-clause-adds : goal.returns-in-Some-clause-adds
returns-in-Some-clause-adds c =
    let w = c.args.ways.now in
    let rows = c.in-Some.rows.now in
    path_adds w (path_by c.args.source (comes_to c.args.point) (all_done c.args.path.now)) rows.dims (Some (constraints rows)) (target_rows c.state.result)
    c.in-Some.ensures.dims (sym (ap target_rows c.in-Some.is) ∙ c.from.ensures.rows) c.state.ensures.rows (string_bytes c.args.text.now)
    (string_bytes c.push_edge.new.text) (string_bytes c.push_path.new.text) c.in_ok-push_edge.ensures c.push_path.result c.push_path.ensures.found

pub returns-in-Some-clause-failure : goal.returns-in-Some-clause-failure
returns-in-Some-clause-failure c =
    let w = c.args.ways.now in
    let rows = c.in-Some.rows.now in
    path_strained w (path_by c.args.source (comes_to c.args.point) (all_done c.args.path.now)) rows.dims (Some (constraints rows)) (target_rows c.state.result)
    c.in-Some.ensures.dims (sym (ap target_rows c.in-Some.is) ∙ c.from.ensures.rows) c.state.ensures.rows c.push_path.result c.push_path.ensures.failure
