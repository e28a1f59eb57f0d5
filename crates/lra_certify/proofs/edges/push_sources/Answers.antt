-- Goals of `push_sources`: the lines of the paths from all sources.
use Rattle.std.proofs.Common.{◌+◌, ◌-◌, length, arith, string_bytes}
use native.Mathlib.Numerals.{unary_clauses}
use Rattle.std.specs.List.{flat_map, range_with_len}
use Rattle.lra_certify.specs.WrittenPaths.{edge_lines, paths_from, all_paths}
use Rattle.lra_certify.proofs.PathSteps.{stay_from, paths_begin, paths_next, ways_stop, paths_end, numbers_flat, no_numbers}
use Rattle.lra_certify.proofs.edges.push_sources.Goals as goal

pub loop-source-init : goal.loop-source-init
loop-source-init c =
    simp unary_clauses (paths_begin c.args.ways.now edge_lines (all_paths c.args.ways.now) (string_bytes c.args.text.now))

pub push_source-requires-clause-stay : goal.push_source-requires-clause-stay
push_source-requires-clause-stay c = stay_from c.args.ways.now c.loop-source.source c.loop-source-test.true c.requires.stay

pub loop-source-preserved : goal.loop-source-preserved
loop-source-preserved c =
    let w = c.args.ways.now in
    let n = length w.sources.now in
    let i = c.loop-source.source in
    let f = paths_from w in
    paths_next w edge_lines (f i) (flat_map f (range_with_len (i + 1) (n - (i + 1)))) (flat_map f (range_with_len i (n - i))) (all_paths w)
    (numbers_flat f i n c.loop-source-test.true) (string_bytes c.loop-source.text) (string_bytes c.args.text.now) c.loop-source.invariant
    (string_bytes c.push_source.new.text) c.in_ok-push_source.ensures.adds

pub returns-in_err-push_source-clause-failure : goal.returns-in_err-push_source-clause-failure
returns-in_err-push_source-clause-failure c =
    let w = c.args.ways.now in
    let n = length w.sources.now in
    let i = c.loop-source.source in
    let f = paths_from w in
    ways_stop w edge_lines (f i) (flat_map f (range_with_len (i + 1) (n - (i + 1)))) (flat_map f (range_with_len i (n - i))) (all_paths w)
    (numbers_flat f i n c.loop-source-test.true) (string_bytes c.loop-source.text) (string_bytes c.args.text.now) c.loop-source.invariant
    c.from_residual.result _ c.from_residual.ensures.1 c.in_err-push_source.ensures.failure

pub returns-clause-adds : goal.returns-clause-adds
returns-clause-adds c =
    let w = c.args.ways.now in
    let n = length w.sources.now in
    let i = c.loop-source.source in
    let h = c.loop-source-test.false in
    let f = paths_from w in
    paths_end w edge_lines (flat_map f (range_with_len i (n - i))) (all_paths w) (string_bytes c.loop-source.text) (string_bytes c.args.text.now)
    (no_numbers f i n (omega (arith, h))) c.loop-source.invariant
