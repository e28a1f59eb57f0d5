-- Goals of `push_denials`: the lines of the paths to where an assertion is false.
use Rattle.std.proofs.Common.{◌+◌, ◌-◌, ℕ, length, arith, string_bytes}
use native.Mathlib.Numerals.{unary_clauses}
use Rattle.std.specs.List.{flat_map, range_with_len}
use Rattle.lra_certify.specs.Crates.lra_path_segments.Segments.{violates}
use Rattle.lra_certify.specs.WrittenPaths.{violation_lines, paths_to, violating_paths}
use Rattle.lra_certify.proofs.PathSteps.{stay_denied, paths_begin, paths_next, paths_stop, paths_end, numbers_flat, no_numbers}
use Rattle.lra_certify.proofs.listed.push_denials.Goals as goal

pub loop-source-init : goal.loop-source-init
loop-source-init c =
    simp unary_clauses (paths_begin c.args.ways.now violation_lines (violating_paths c.args.ways.now c.args.point) (string_bytes c.args.text.now))

pub push_denials_from-requires-clause-stay : goal.push_denials_from-requires-clause-stay
push_denials_from-requires-clause-stay c =
    stay_denied c.args.ways.now c.args.point c.loop-source.source c.loop-source-test.true c.requires.stay

pub loop-source-preserved : goal.loop-source-preserved
loop-source-preserved c =
    let w = c.args.ways.now in
    let n = length w.sources.now in
    let i = c.loop-source.source in
    let f = λ (p : ℕ). paths_to w p (violates c.args.point) in
    paths_next w violation_lines (f i) (flat_map f (range_with_len (i + 1) (n - (i + 1)))) (flat_map f (range_with_len i (n - i)))
    (violating_paths w c.args.point) (numbers_flat f i n c.loop-source-test.true) (string_bytes c.loop-source.text) (string_bytes c.args.text.now)
    c.loop-source.invariant (string_bytes c.push_denials_from.new.text) c.in_ok-push_denials_from.ensures.adds

pub returns-in_err-push_denials_from-clause-failure : goal.returns-in_err-push_denials_from-clause-failure
returns-in_err-push_denials_from-clause-failure c =
    let w = c.args.ways.now in
    let n = length w.sources.now in
    let i = c.loop-source.source in
    let f = λ (p : ℕ). paths_to w p (violates c.args.point) in
    paths_stop w violation_lines (f i) (flat_map f (range_with_len (i + 1) (n - (i + 1)))) (flat_map f (range_with_len i (n - i)))
    (violating_paths w c.args.point) (numbers_flat f i n c.loop-source-test.true) (string_bytes c.loop-source.text) (string_bytes c.args.text.now)
    c.loop-source.invariant c.from_residual.result _ c.from_residual.ensures.1 c.in_err-push_denials_from.ensures.failure

pub returns-clause-adds : goal.returns-clause-adds
returns-clause-adds c =
    let w = c.args.ways.now in
    let n = length w.sources.now in
    let i = c.loop-source.source in
    let h = c.loop-source-test.false in
    let f = λ (p : ℕ). paths_to w p (violates c.args.point) in
    paths_end w violation_lines (flat_map f (range_with_len i (n - i))) (violating_paths w c.args.point) (string_bytes c.loop-source.text)
    (string_bytes c.args.text.now) (no_numbers f i n (omega (arith, h))) c.loop-source.invariant
