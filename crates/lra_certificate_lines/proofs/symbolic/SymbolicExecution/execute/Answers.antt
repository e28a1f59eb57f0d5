-- Goals of `execute`: what a path does to so many variables.
use Rattle.std.proofs.Common.{◌≡◌, ◌+◌, ◌∙◌, List, ℕ, arith, ap, sym, subst, drop}
use Rattle.lra_certificate_lines.specs.Crates.{lra_domain.Actions.Action, lra_domain.Changes.action_of, lra_path_disjuncts.TableDisjuncts.all_done}
use Rattle.lra_multipliers.specs.Symbols.{SymbolicState, executed_path, executed, width_of}
use Rattle.lra_certificate_lines.specs.SymbolicViews.{symbolic_view, HasWidth}
use Rattle.lra_certificate_lines.proofs.WalkChanges.{path_next, path_done, walk_begun, along_on, along_passes, free_next}
use Rattle.lra_certificate_lines.proofs.symbolic.SymbolicExecution.execute.Goals as goal

pub loop-change-init : goal.loop-change-init
loop-change-init c =
    let steps = all_done c.args.path.now in
    let is = c.in_ok-walk.ensures.is in
    let e = c.in-Some.ensures.0 in
    let f = ap (λ (w : SymbolicState). w.free) is in
    record {
      so_far = walk_begun c.args.live c.in-Some.count steps (symbolic_view c.in_ok-walk.walk) e is;
      wide = subst (λ (n : ℕ). HasWidth n c.in_ok-walk.walk)
          (let n : c.args.live + c.in-Some.count + 1 ≡ width_of c.args.live steps = omega (arith, e) in n) c.in_ok-walk.ensures.wide;
      free = omega (arith, f);
    }

pub take_change-requires-clause-small : goal.take_change-requires-clause-small
take_change-requires-clause-small c =
    let w = c.loop-change.invariant.wide.tests in
    let e = c.in-Some.ensures.0 in
    let k = c.in-Some.ensures.1 in
    let l = c.requires in
    omega (arith, w, e, k, l)

pub take_change-requires-clause-wide : goal.take_change-requires-clause-wide
take_change-requires-clause-wide c =
    subst (λ (n : ℕ). HasWidth n c.loop-change.walk) (sym c.loop-change.invariant.wide.tests) c.loop-change.invariant.wide

pub take_change-requires-clause-free : goal.take_change-requires-clause-free
take_change-requires-clause-free c =
    let next = path_next c.args.path.now c.loop-change.change-index c.change-item.result c.loop-change-test.true c.change-item.is in
    let f = free_next c.loop-change.walk.free (action_of c.change-item.result.now) (all_done (drop c.loop-change.change-index c.args.path.now))
    (all_done (drop (c.loop-change.change-index + 1) c.args.path.now)) (width_of c.args.live (all_done c.args.path.now)) next
    c.loop-change.invariant.free in
    let w = c.loop-change.invariant.wide.tests in
    omega (arith, f, w)

pub returns-in-Err-clause-excess : goal.returns-in-Err-clause-excess
returns-in-Err-clause-excess c =
    let steps = all_done c.args.path.now in
    let next = path_next c.args.path.now c.loop-change.change-index c.change-item.result c.loop-change-test.true c.change-item.is in
    along_passes (width_of c.args.live steps) c.loop-change.walk.tests.dims c.loop-change.invariant.wide.tests (action_of c.change-item.result.now)
    (all_done (drop c.loop-change.change-index c.args.path.now)) (all_done (drop (c.loop-change.change-index + 1) c.args.path.now)) next
    (symbolic_view c.loop-change.walk) (executed_path c.args.live steps) c.loop-change.invariant.so_far c.in-Err.error c.in-Err.ensures.excess

pub loop-change-preserved : goal.loop-change-preserved
loop-change-preserved c =
    let steps = all_done c.args.path.now in
    let next = path_next c.args.path.now c.loop-change.change-index c.change-item.result c.loop-change-test.true c.change-item.is in
    let w = c.loop-change.invariant.wide.tests in
    let f = free_next c.loop-change.walk.free (action_of c.change-item.result.now) (all_done (drop c.loop-change.change-index c.args.path.now))
    (all_done (drop (c.loop-change.change-index + 1) c.args.path.now)) (width_of c.args.live steps) next c.loop-change.invariant.free in
    let g = c.in-Ok.ensures.free in
    record {
      so_far = along_on (width_of c.args.live steps) c.loop-change.walk.tests.dims w (action_of c.change-item.result.now)
          (all_done (drop c.loop-change.change-index c.args.path.now)) (all_done (drop (c.loop-change.change-index + 1) c.args.path.now)) next
          (symbolic_view c.loop-change.walk) (executed_path c.args.live steps) c.loop-change.invariant.so_far (symbolic_view c.take_change.new.self)
          c.in-Ok.ensures.made;
      wide = subst (λ (n : ℕ). HasWidth n c.take_change.new.self) w c.in-Ok.ensures.wide;
      free = omega (arith, f, g);
    }

pub returns-clause-made : goal.returns-clause-made
returns-clause-made c =
    let steps = all_done c.args.path.now in
    let h = c.loop-change-test.false in
    sym c.loop-change.invariant.so_far ∙
    ap (λ (s : List Action). executed (width_of c.args.live steps) s (symbolic_view c.loop-change.walk))
    (path_done c.args.path.now c.loop-change.change-index (omega (arith, h)))

pub returns-clause-wide : goal.returns-clause-wide
returns-clause-wide c = c.loop-change.invariant.wide

pub returns-clause-small : goal.returns-clause-small
returns-clause-small c =
    let w = c.loop-change.invariant.wide.tests in
    let e = c.in-Some.ensures.0 in
    let k = c.in-Some.ensures.1 in
    let l = c.requires in
    omega (arith, w, e, k, l)
