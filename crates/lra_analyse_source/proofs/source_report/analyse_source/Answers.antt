-- Goals of `analyse_source`: the report of a source over the domain and the number of parts that the options name,
-- or its one refusal; memory may run out.
use Rattle.std.proofs.lemmas.Result.{IfOk-weaker}
use Rattle.lra_options.specs.declared.options.Domain.TheVariants.{Poly, Box, Oct}
use Rattle.lra_analyse_source.specs.Crates.{lra_box.Abstraction.box_abstraction, lra_octagon.Abstraction.octagon_abstraction, lra_report.View.report_of}
use Rattle.lra_poly_domain.specs.Abstraction.{polyhedron_abstraction}
use Rattle.lra_report_build.specs.{Polyhedra.shown_polyhedron, Shown.shown_state}
use Rattle.lra_analyse_source.proofs.Sayings.{over_domain}
use Rattle.lra_analyse_source.proofs.source_report.analyse_source.Goals as goal

pub returns-in-Poly-clause-answered : goal.returns-in-Poly-clause-answered
returns-in-Poly-clause-answered c =
    IfOk-weaker c.analyse_parts.result _ _ (λ r. over_domain Poly c.args.options c.args.bytes.now polyhedron_abstraction shown_polyhedron c.in-Poly.is (λ say h. h) (report_of r))
    c.analyse_parts.ensures.answered

pub returns-in-Box-clause-answered : goal.returns-in-Box-clause-answered
returns-in-Box-clause-answered c =
    IfOk-weaker c.analyse_parts-in-Box.result _ _ (λ r. over_domain Box c.args.options c.args.bytes.now box_abstraction (shown_state box_abstraction) c.in-Box.is (λ say h. h) (report_of r))
    c.analyse_parts-in-Box.ensures.answered

pub returns-in-Oct-clause-answered : goal.returns-in-Oct-clause-answered
returns-in-Oct-clause-answered c =
    IfOk-weaker c.analyse_parts-in-Oct.result _ _ (λ r. over_domain Oct c.args.options c.args.bytes.now octagon_abstraction (shown_state octagon_abstraction) c.in-Oct.is (λ say h. h) (report_of r))
    c.analyse_parts-in-Oct.ensures.answered
