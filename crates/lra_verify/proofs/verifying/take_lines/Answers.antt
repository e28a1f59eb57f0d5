-- Goals of `take_lines`: all lines after the source.
use Rattle.std.proofs.Common.{◌≡◌, List, Option, Ok, map, sym, subst}
use Rattle.lra_verify.specs.Crates.lra_certificate_spec.Judged.{judged, judged_states}
use Rattle.lra_verify.specs.Crates.{lra_certificate_spec.Lines.left_at, lra_linear_spec.declared.ConKind.ConKind, lra_systems.LinearSystems.LinearSystem}
use Rattle.lra_operations.specs.TreeViews.{site_view}
use Rattle.lra_verify.specs.{EdgeViews.rest_by, PointViews.state_view, declared.annotated.AnnotatedProgram.AnnotatedProgram}
use Rattle.lra_certificate_lines.proofs.ShowSteps.{told_as}
use Rattle.lra_verify.proofs.VerifySteps.{ways_ready, lines_are_judged}
use Rattle.lra_verify.proofs.verifying.take_lines.Goals as goal

pub returns : goal.returns
returns c =
    let bytes = c.args.bytes.now in
    let w : AnnotatedProgram = record { sites = c.args.sites; states = c.as_slice.result; start = c.args.start; sources = c.args.sources } in
    let said = c.as_slice.ensures.value in
    let read = c.in_ok-points in
    let l = left_at bytes read.points.behind in
    let ways = ways_ready w read.points.states.items c.requires.start c.requires.dims said read.ensures.count read.ensures.dims c.requires.sources
    c.requires.many c.requires.live in
    let took = subst (λ (x : List (Option (LinearSystem ConKind))). judged_states 1 (map site_view c.args.sites.now) (left_at bytes 0)
    ≡ Ok (map state_view x, l))
    (sym said) read.ensures.told in
    record {
      told = λ P g same lead. told_as (λ r. r) (rest_by w l) (judged P g bytes) c.take_rest.result (lines_are_judged P g w ways same lead bytes l took)
          c.take_rest.ensures;
    }
