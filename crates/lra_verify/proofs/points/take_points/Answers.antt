-- Goals of `take_points`: what is said of each point, in order.
use Rattle.std.proofs.Common.{◌≡◌, ◌++◌, ◌∷◌, ◌+◌, [], ℕ, List, Option, Some, length, map, drop, ap, sym, ◌∙◌, subst, arith, length-append, IfSome}
use Rattle.lra_verify.specs.Crates.{lra_certificate_spec.Judged.judged_states, lra_certificate_spec.Lines.left_at, lra_linear_spec.declared.ConKind.ConKind, lra_systems.LinearSystems.LinearSystem}
use Rattle.lra_operations.specs.TreeViews.{site_view}
use Rattle.lra_verify.specs.PointViews.{HaveDims, state_view}
use Rattle.lra_certificate_lines.proofs.JudgedLines.{states_after}
use Rattle.lra_verify.proofs.PointSteps.{dims_pushed, site_at, points_more}
use Rattle.lra_verify.proofs.points.take_points.Goals as goal

pub loop-index-preserved : goal.loop-index-preserved
loop-index-preserved c =
    let p = c.in_ok-state.field-0 in
    let bytes = c.args.bytes.now in
    let all = c.args.sites.now in
    let states = c.loop-index.states.items in
    let site = c.index-sites-index.result in
    let i = c.loop-index.index in
    let so_far = c.loop-index.invariant in
    let pushed : c.push.new.self.items ≡ states ++ p.state ∷ [] = c.in_ok-push.ensures.items in
    let len = ap (λ (xs : List (Option (LinearSystem ConKind))). length xs) pushed ∙ length-append states (p.state ∷ []) in
    let n = so_far.count in
    let whole = judged_states 1 (map site_view all) (left_at bytes 0) in
    record {
      so_far = subst (λ (xs : List (Option (LinearSystem ConKind))). states_after (map state_view xs)
          (judged_states (i + 1 + 1) (map site_view (drop (i + 1) all))
          (left_at bytes p.behind)) ≡ whole) (sym pushed)
          (points_more all i site states p.state (left_at bytes c.loop-index.at) (left_at bytes p.behind) whole c.loop-index-test.true c.index-sites-index.is
          so_far.so_far c.in_ok-state.ensures.told);
      within = c.in_ok-state.ensures.within;
      count = omega (arith, len, n);
      dims = subst (λ (xs : List (Option (LinearSystem ConKind))). HaveDims (map site_view all) xs) (sym pushed)
          (dims_pushed (map site_view all) states p.state i n so_far.dims
          (subst (λ (k : ℕ). IfSome p.state (λ rows. rows.dims ≡ k)) (sym (site_at all i site c.loop-index-test.true c.index-sites-index.is))
          c.in_ok-state.ensures.live));
    }
