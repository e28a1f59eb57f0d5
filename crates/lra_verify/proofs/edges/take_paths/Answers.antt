-- Goals of `take_paths`: the paths, in order.
use Rattle.std.proofs.Common.{◌+◌, ◌∷◌, ◌∙◌, List, ap, sym, drop, arith}
use Rattle.std.specs.Borrow.{Bor}
use Rattle.lra_verify.specs.Crates.lra_certificate_spec.Lines.{judged_in_turn, left_at}
use Rattle.lra_verify.specs.Crates.{lra_domain.declared.changes.Change.Change, lra_path_disjuncts.TableDisjuncts.all_done, lra_path_disjuncts.TableDisjuncts.lists_done}
use Rattle.lra_verify.specs.EdgeViews.{path_of}
use Rattle.lra_certificate_lines.proofs.ShowSteps.{turn_more, turn_fault, turn_done}
use Rattle.lra_verify.proofs.EdgeSteps.{lists_next, lists_end}
use Rattle.lra_verify.proofs.edges.take_paths.Goals as goal

pub loop-path-preserved : goal.loop-path-preserved
loop-path-preserved c =
    let i = c.loop-path.path-index in
    let paths = c.args.paths.now in
    let path = c.path-item.result in
    let item = c.as_slice.result.now in
    let first =
    lists_next paths i path c.loop-path-test.true c.path-item.is ∙
    ap (λ (xs : List (Bor Change)). all_done xs ∷ lists_done (drop (i + 1) paths)) (sym c.as_slice.ensures.value) in
    record {
      so_far = turn_more (path_of c.args.edge.now) (all_done item) (lists_done (drop (i + 1) paths)) (lists_done (drop i paths)) (left_at c.args.bytes.now c.loop-path.next)
          (judged_in_turn (path_of c.args.edge.now) (lists_done paths) (left_at c.args.bytes.now c.args.at)) first
          c.loop-path.invariant.so_far (left_at c.args.bytes.now c.in-Ok.behind) c.in-Ok.ensures.told;
      within = c.in-Ok.ensures.within;
    }

pub returns-in-Err-clause-told : goal.returns-in-Err-clause-told
returns-in-Err-clause-told c =
    let i = c.loop-path.path-index in
    let paths = c.args.paths.now in
    let path = c.path-item.result in
    let item = c.as_slice.result.now in
    let first =
    lists_next paths i path c.loop-path-test.true c.path-item.is ∙
    ap (λ (xs : List (Bor Change)). all_done xs ∷ lists_done (drop (i + 1) paths)) (sym c.as_slice.ensures.value) in
    turn_fault (path_of c.args.edge.now) (all_done item) (lists_done (drop (i + 1) paths)) (lists_done (drop i paths)) (left_at c.args.bytes.now c.loop-path.next)
    (judged_in_turn (path_of c.args.edge.now) (lists_done paths) (left_at c.args.bytes.now c.args.at)) first
    c.loop-path.invariant.so_far c.in-Err.error c.in-Err.ensures.told

pub returns-clause-told : goal.returns-clause-told
returns-clause-told c =
    let i = c.loop-path.path-index in
    let paths = c.args.paths.now in
    let h = c.loop-path-test.false in
    turn_done (path_of c.args.edge.now) (lists_done (drop i paths)) (left_at c.args.bytes.now c.loop-path.next)
    (judged_in_turn (path_of c.args.edge.now) (lists_done paths) (left_at c.args.bytes.now c.args.at)) (lists_end paths i (omega (arith, h))) c.loop-path.invariant.so_far
