-- Goals of `push_path`: what is said of a path from a source with rows.
use Rattle.std.proofs.Common.{string_bytes}
use Rattle.lra_certify.specs.Crates.{lra_certificate_lines.PathCheckViews.target_rows, lra_path_disjuncts.TableDisjuncts.all_done}
use Rattle.lra_certify.proofs.{EdgeFound.walk_strained, EdgeFound.grounds_lead, EdgeFound.evidence_told, EdgeFound.evidence_failed, EdgeFound.grounds_are, FarkasLaws.laws}
use Rattle.lra_certify.proofs.edges.push_path.Goals as goal

pub push_evidence-requires-clause-are : goal.push_evidence-requires-clause-are
push_evidence-requires-clause-are c = grounds_are c.in_ok-track.track c.in-Some.grounds c.in_ok-track.ensures.whole c.in-Some.is

pub push_evidence-requires-clause-lead : goal.push_evidence-requires-clause-lead
push_evidence-requires-clause-lead c =
    grounds_lead c.args.rows.now (all_done c.args.path.now) c.in_ok-track.track c.in_ok-track.ensures.track (target_rows c.args.target) c.in-Some.grounds
    c.in-Some.is c.rows-rows.result.now c.rows-rows.ensures.rows c.rows-rows.ensures.widths c.requires.stays

pub returns-in-None-clause-failure : goal.returns-in-None-clause-failure
returns-in-None-clause-failure c =
    walk_strained c.args.rows.now (all_done c.args.path.now) c.in_ok-track.track c.in_ok-track.ensures.track (target_rows c.args.target) c.in-None.is

pub returns-clause-found : goal.returns-clause-found
returns-clause-found c =
    evidence_told c.args.rows.now (all_done c.args.path.now) c.in_ok-track.track c.in_ok-track.ensures.track (target_rows c.args.target) c.in-Some.grounds
    c.in-Some.is laws (string_bytes c.args.text.now) (string_bytes c.push_evidence.new.text) c.push_evidence.result c.push_evidence.ensures.evidence

pub returns-clause-failure : goal.returns-clause-failure
returns-clause-failure c =
    evidence_failed c.args.rows.now (all_done c.args.path.now) c.in_ok-track.track c.in_ok-track.ensures.track (target_rows c.args.target)
    c.in-Some.grounds c.in-Some.is laws c.push_evidence.result c.push_evidence.ensures.failure
