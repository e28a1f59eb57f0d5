-- Goals of `push_source`: the lines of the paths from a source to all points.
use Rattle.std.proofs.Common.{◌+◌, ◌-◌, ℕ, length, arith, string_bytes}
use native.Mathlib.Numerals.{unary_clauses}
use Rattle.std.specs.List.{flat_map, range_with_len}
use Rattle.lra_certify.specs.Crates.lra_path_segments.Segments.{comes_to}
use Rattle.lra_certify.specs.WrittenPaths.{edge_lines, paths_to, paths_from}
use Rattle.lra_certify.proofs.PathSteps.{stay_to, paths_begin, paths_next, ways_stop, paths_end, numbers_flat, no_numbers}
use Rattle.lra_certify.proofs.edges.push_source.Goals as goal

pub loop-point-init : goal.loop-point-init
loop-point-init c =
    simp unary_clauses (paths_begin c.args.ways.now edge_lines (paths_from c.args.ways.now c.args.source) (string_bytes c.args.text.now))

pub push_edges-requires-clause-stay : goal.push_edges-requires-clause-stay
push_edges-requires-clause-stay c = stay_to c.args.ways.now c.args.source c.loop-point.point c.loop-point-test.true c.requires.stay

pub loop-point-preserved : goal.loop-point-preserved
loop-point-preserved c =
    let w = c.args.ways.now in
    let n = length w.sites.now in
    let i = c.loop-point.point in
    let f = λ (q : ℕ). paths_to w c.args.source (comes_to q) in
    paths_next w edge_lines (f i) (flat_map f (range_with_len (i + 1) (n - (i + 1)))) (flat_map f (range_with_len i (n - i)))
    (paths_from w c.args.source) (numbers_flat f i n c.loop-point-test.true) (string_bytes c.loop-point.text) (string_bytes c.args.text.now)
    c.loop-point.invariant (string_bytes c.push_edges.new.text) c.in_ok-push_edges.ensures.adds

pub returns-in_err-push_edges-clause-failure : goal.returns-in_err-push_edges-clause-failure
returns-in_err-push_edges-clause-failure c =
    let w = c.args.ways.now in
    let n = length w.sites.now in
    let i = c.loop-point.point in
    let f = λ (q : ℕ). paths_to w c.args.source (comes_to q) in
    ways_stop w edge_lines (f i) (flat_map f (range_with_len (i + 1) (n - (i + 1)))) (flat_map f (range_with_len i (n - i)))
    (paths_from w c.args.source) (numbers_flat f i n c.loop-point-test.true) (string_bytes c.loop-point.text) (string_bytes c.args.text.now)
    c.loop-point.invariant c.from_residual.result _ c.from_residual.ensures.1 c.in_err-push_edges.ensures.failure

pub returns-clause-adds : goal.returns-clause-adds
returns-clause-adds c =
    let w = c.args.ways.now in
    let n = length w.sites.now in
    let i = c.loop-point.point in
    let h = c.loop-point-test.false in
    let f = λ (q : ℕ). paths_to w c.args.source (comes_to q) in
    paths_end w edge_lines (flat_map f (range_with_len i (n - i))) (paths_from w c.args.source) (string_bytes c.loop-point.text)
    (string_bytes c.args.text.now) (no_numbers f i n (omega (arith, h))) c.loop-point.invariant
