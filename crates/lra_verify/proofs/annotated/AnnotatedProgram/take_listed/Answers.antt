-- Goals of `take_listed`: how many assertions are listed.
use Rattle.std.proofs.Common.{◌+◌, map, drop, arith}
use Rattle.lra_operations.specs.TreeViews.{site_view}
use Rattle.lra_verify.specs.Crates.lra_certificate_spec.Lines.{left_at}
use Rattle.lra_verify.specs.EdgeViews.{violations_by, listed_by, sites_in}
use Rattle.lra_verify.proofs.{ListedSteps.none_after, ListedSteps.listed_more, ListedSteps.listed_fault, ListedSteps.listed_done, PointSteps.sites_next, PointSteps.sites_end}
use Rattle.lra_verify.proofs.annotated.AnnotatedProgram.take_listed.Goals as goal

pub loop-point-init : goal.loop-point-init
loop-point-init c =
    let w = c.args.self.now in
    let bytes = c.args.bytes.now in
    let h = c.requires.place in
    record {
      so_far = none_after (listed_by (violations_by w) 0 (sites_in w) (left_at bytes c.args.at));
      within = h;
      few = omega arith;
    }

pub loop-point-preserved : goal.loop-point-preserved
loop-point-preserved c =
    let w = c.args.self.now in
    let bytes = c.args.bytes.now in
    let all = w.sites.now in
    let i = c.loop-point.point in
    let listed = c.loop-point.listed in
    let site = c.site-item.result in
    record {
      so_far = listed_more (violations_by w) i (site_view site) (map site_view (drop (i + 1) all)) listed.proved (map site_view (drop i all))
          (sites_next all i site c.loop-point-test.true c.site-item.is) (left_at bytes listed.behind)
          (listed_by (violations_by w) 0 (sites_in w) (left_at bytes c.args.at)) c.loop-point.invariant.so_far c.in-Ok.next.proved
          (left_at bytes c.in-Ok.next.behind) c.in-Ok.ensures.told;
      within = c.in-Ok.ensures.within;
      few = c.in-Ok.ensures.few;
    }

pub returns-in-Err-clause-told : goal.returns-in-Err-clause-told
returns-in-Err-clause-told c =
    let w = c.args.self.now in
    let bytes = c.args.bytes.now in
    let all = w.sites.now in
    let i = c.loop-point.point in
    let listed = c.loop-point.listed in
    let site = c.site-item.result in
    listed_fault (violations_by w) i (site_view site) (map site_view (drop (i + 1) all)) listed.proved (map site_view (drop i all))
    (sites_next all i site c.loop-point-test.true c.site-item.is) (left_at bytes listed.behind)
    (listed_by (violations_by w) 0 (sites_in w) (left_at bytes c.args.at)) c.loop-point.invariant.so_far c.in-Err.error c.in-Err.ensures.told

pub returns-clause-told : goal.returns-clause-told
returns-clause-told c =
    let w = c.args.self.now in
    let bytes = c.args.bytes.now in
    let i = c.loop-point.point in
    let listed = c.loop-point.listed in
    let h = c.loop-point-test.false in
    listed_done (violations_by w) i listed.proved (map site_view (drop i w.sites.now)) (left_at bytes listed.behind)
    (listed_by (violations_by w) 0 (sites_in w) (left_at bytes c.args.at)) (sites_end w.sites.now i (omega (arith, h))) c.loop-point.invariant.so_far
