-- Goals of `push_dead_paths`: the lines of paths along which nothing goes.
use Rattle.std.proofs.Common.{◌+◌, ap, drop, arith, string_bytes}
use Rattle.lra_certify.specs.Crates.{lra_path_disjuncts.TableDisjuncts.all_done, lra_path_disjuncts.TableDisjuncts.lists_done, lra_systems.LinearSystems.constraints}
use Rattle.lra_certify.proofs.PathSteps.{list_has, list_first, dead_begin, dead_next, dead_stop, dead_end}
use Rattle.lra_verify.proofs.EdgeSteps.{lists_end}
use Rattle.lra_certify.proofs.listed.push_dead_paths.Goals as goal

pub loop-path-init : goal.loop-path-init
loop-path-init c =
    dead_begin c.args.rows.now.dims (constraints c.args.rows.now) (lists_done c.args.paths.now) (string_bytes c.args.text.now)

pub push_path-requires-clause-stays : goal.push_path-requires-clause-stays
push_path-requires-clause-stays c =
    c.requires.stay (all_done c.as_slice.result.now)
    (list_has c.args.paths.now c.loop-path.path-index c.path-item.result (all_done c.as_slice.result.now) c.loop-path-test.true c.path-item.is
    (ap all_done c.as_slice.ensures.value))

pub loop-path-preserved : goal.loop-path-preserved
loop-path-preserved c =
    let paths = c.args.paths.now in
    let i = c.loop-path.path-index in
    let steps = all_done c.as_slice.result.now in
    dead_next c.args.rows.now.dims (constraints c.args.rows.now) steps (lists_done (drop (i + 1) paths)) (lists_done (drop i paths)) (lists_done paths)
    (list_first paths i c.path-item.result steps c.loop-path-test.true c.path-item.is (ap all_done c.as_slice.ensures.value))
    (string_bytes c.loop-path.text) (string_bytes c.args.text.now) c.loop-path.invariant (string_bytes c.push_path.new.text) c.in_ok-push_path.ensures.found

pub returns-in_err-push_path-clause-failure : goal.returns-in_err-push_path-clause-failure
returns-in_err-push_path-clause-failure c =
    let paths = c.args.paths.now in
    let i = c.loop-path.path-index in
    let steps = all_done c.as_slice.result.now in
    dead_stop c.args.rows.now.dims (constraints c.args.rows.now) steps (lists_done (drop (i + 1) paths)) (lists_done (drop i paths)) (lists_done paths)
    (list_first paths i c.path-item.result steps c.loop-path-test.true c.path-item.is (ap all_done c.as_slice.ensures.value))
    (string_bytes c.loop-path.text) (string_bytes c.args.text.now) c.loop-path.invariant c.from_residual.result _ c.from_residual.ensures.1
    c.in_err-push_path.ensures.failure

pub returns-clause-adds : goal.returns-clause-adds
returns-clause-adds c =
    let paths = c.args.paths.now in
    let i = c.loop-path.path-index in
    let h = c.loop-path-test.false in
    dead_end c.args.rows.now.dims (constraints c.args.rows.now) (lists_done (drop i paths)) (lists_done paths) (string_bytes c.loop-path.text)
    (string_bytes c.args.text.now) (lists_end paths i (omega (arith, h))) c.loop-path.invariant
