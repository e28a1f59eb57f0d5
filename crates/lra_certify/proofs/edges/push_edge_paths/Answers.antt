-- Goals of `push_edge_paths`: the lines of the paths from a source to a point.
use Rattle.std.proofs.Common.{◌+◌, ◌∷◌, [], drop, map, ap, arith, string_bytes}
use Rattle.lra_certify.specs.Crates.{lra_path_disjuncts.TableDisjuncts.all_done, lra_path_disjuncts.TableDisjuncts.lists_done, lra_path_segments.Segments.comes_to, lra_paths.Paths.path_by}
use Rattle.lra_certify.specs.WrittenPaths.{edge_lines}
use Rattle.lra_certify.proofs.PathSteps.{stay_path, list_has, paths_begin, paths_next, paths_stop, paths_end, paths_flat, no_paths}
use Rattle.lra_certify.proofs.edges.push_edge_paths.Goals as goal

pub loop-path-init : goal.loop-path-init
loop-path-init c =
    paths_begin c.args.ways.now edge_lines (map (path_by c.args.source (comes_to c.args.point)) (lists_done c.args.paths.now))
    (string_bytes c.args.text.now)

pub push_edge_path-requires-clause-stay : goal.push_edge_path-requires-clause-stay
push_edge_path-requires-clause-stay c =
    let paths = c.args.paths.now in
    let steps = all_done c.as_slice.result.now in
    stay_path c.args.ways.now (path_by c.args.source (comes_to c.args.point)) (lists_done paths) steps
    (list_has paths c.loop-path.path-index c.path-item.result steps c.loop-path-test.true c.path-item.is (ap all_done c.as_slice.ensures.value))
    c.requires.stay

pub loop-path-preserved : goal.loop-path-preserved
loop-path-preserved c =
    let f = path_by c.args.source (comes_to c.args.point) in
    let paths = c.args.paths.now in
    let i = c.loop-path.path-index in
    let steps = all_done c.as_slice.result.now in
    paths_next c.args.ways.now edge_lines (f steps ∷ []) (map f (lists_done (drop (i + 1) paths))) (map f (lists_done (drop i paths)))
    (map f (lists_done paths)) (paths_flat f paths i c.path-item.result steps c.loop-path-test.true c.path-item.is (ap all_done c.as_slice.ensures.value))
    (string_bytes c.loop-path.text) (string_bytes c.args.text.now) c.loop-path.invariant (string_bytes c.push_edge_path.new.text)
    c.in_ok-push_edge_path.ensures.adds

pub returns-in_err-push_edge_path-clause-failure : goal.returns-in_err-push_edge_path-clause-failure
returns-in_err-push_edge_path-clause-failure c =
    let f = path_by c.args.source (comes_to c.args.point) in
    let paths = c.args.paths.now in
    let i = c.loop-path.path-index in
    let steps = all_done c.as_slice.result.now in
    paths_stop c.args.ways.now edge_lines (f steps ∷ []) (map f (lists_done (drop (i + 1) paths))) (map f (lists_done (drop i paths)))
    (map f (lists_done paths)) (paths_flat f paths i c.path-item.result steps c.loop-path-test.true c.path-item.is (ap all_done c.as_slice.ensures.value))
    (string_bytes c.loop-path.text) (string_bytes c.args.text.now) c.loop-path.invariant c.from_residual.result _ c.from_residual.ensures.1
    c.in_err-push_edge_path.ensures.failure

pub returns-clause-adds : goal.returns-clause-adds
returns-clause-adds c =
    let f = path_by c.args.source (comes_to c.args.point) in
    let paths = c.args.paths.now in
    let i = c.loop-path.path-index in
    let h = c.loop-path-test.false in
    paths_end c.args.ways.now edge_lines (map f (lists_done (drop i paths))) (map f (lists_done paths)) (string_bytes c.loop-path.text)
    (string_bytes c.args.text.now) (no_paths f paths i (omega (arith, h))) c.loop-path.invariant
