-- Goals of `certify_source`: the certificate of a source, with the report of its analysis without narrowing.
use Rattle.std.proofs.Common.{◌∙◌, ◌++◌, List, ℕ, map, ap, string_bytes}
use Rattle.lra_certify_source.specs.Crates.{lra_certificate_spec.CertificateText.head_text, lra_operations.TreeViews.node_view, lra_operations.TreeViews.site_view, lra_syntax.Views.tree_view}
use Rattle.lra_report.specs.View.{report_of}
use Rattle.lra_certify.proofs.PathSteps.{exit_with}
use Rattle.lra_certify_source.specs.Certified.{HasSmallPoint, IsCertifyRefusalOf}
use Rattle.lra_certify_source.specs.{Extraction.state_by, Extraction.proved_in, Refusals.IfRefusal, declared.refusals.CertifyError.TheVariants.Memory}
use Rattle.lra_certify_source.proofs.Answered.{answered, written, refused, counts, listed}
use Rattle.lra_certify_source.proofs.certify_report.certify_source.Goals as goal

pub returns-in_err-body-clause-refused : goal.returns-in_err-body-clause-refused
returns-in_err-body-clause-refused c =
    let front = c.in_ok-front.front in
    let t = tree_view front.tree in
    let g = node_view front.graph.tree in
    let sites = map site_view front.graph.sites.items in
    let read = c.in_ok-front.ensures.tree in
    let has = c.in_ok-front.ensures.graph in
    let solution = c.in_ok-solution.solution in
    let r = report_of c.in_ok-report.report in
    exit_with (IfRefusal (IsCertifyRefusalOf c.args.bytes.now)) c.from_residual-in_err-body.result _ c.from_residual-in_err-body.ensures.1
    (refused c.args.bytes.now t g sites read has solution.values.items solution.verdicts.items r
    (rw c.certify_options.ensures at c.in_ok-report.ensures.own) _
    (answered c.args.bytes.now t g sites read has front.constants.items r c.in_ok-front.ensures.constants
    (rw c.certify_options.ensures at c.in_ok-report.ensures.told))
    c.in_err-body.ensures.failure)

pub returns-in_err-body-clause-counted : goal.returns-in_err-body-clause-counted
returns-in_err-body-clause-counted c =
    let front = c.in_ok-front.front in
    let t = tree_view front.tree in
    let g = node_view front.graph.tree in
    let sites = map site_view front.graph.sites.items in
    let read = c.in_ok-front.ensures.tree in
    let has = c.in_ok-front.ensures.graph in
    let solution = c.in_ok-solution.solution in
    exit_with (IfRefusal HasSmallPoint) c.from_residual-in_err-body.result _ c.from_residual-in_err-body.ensures.1
    (counts c.args.bytes.now t g sites read has (map state_by solution.values.items) (proved_in solution.verdicts.items) _
    (listed t g sites has front.constants.items solution.values.items solution.verdicts.items solution.flagged c.in_ok-solution.ensures)
    c.in_err-body.ensures.failure)

pub returns-in_err-text-clause-refused : goal.returns-in_err-text-clause-refused
returns-in_err-text-clause-refused c =
    exit_with (IfRefusal (IsCertifyRefusalOf c.args.bytes.now)) c.from_residual-in_err-text.result Memory c.from_residual-in_err-text.ensures.1 tt

pub returns-in_err-text-clause-counted : goal.returns-in_err-text-clause-counted
returns-in_err-text-clause-counted c =
    exit_with (IfRefusal HasSmallPoint) c.from_residual-in_err-text.result Memory c.from_residual-in_err-text.ensures.1 tt

pub returns-clause-answered : goal.returns-clause-answered
returns-clause-answered c =
    let front = c.in_ok-front.front in
    answered c.args.bytes.now (tree_view front.tree) (node_view front.graph.tree) (map site_view front.graph.sites.items) c.in_ok-front.ensures.tree
    c.in_ok-front.ensures.graph front.constants.items (report_of c.in_ok-report.report) c.in_ok-front.ensures.constants
    (rw c.certify_options.ensures at c.in_ok-report.ensures.told)

pub returns-clause-certified : goal.returns-clause-certified
returns-clause-certified c =
    let front = c.in_ok-front.front in
    let solution = c.in_ok-solution.solution in
    written c.args.bytes.now (tree_view front.tree) (node_view front.graph.tree) (map site_view front.graph.sites.items) c.in_ok-front.ensures.tree
    c.in_ok-front.ensures.graph solution.values.items solution.verdicts.items (report_of c.in_ok-report.report)
    (rw c.certify_options.ensures at c.in_ok-report.ensures.own) (string_bytes c.in_ok-body.body) c.in_ok-text.text.items c.in_ok-body.ensures.few
    c.in_ok-body.ensures.certified
    (c.in_ok-text.ensures ∙ ap (λ (body : List ℕ). head_text c.args.bytes.now ++ body) c.as_str.ensures.value)
