-- Goals of `take_denial`: the paths from a source to where an assertion is false.
use Rattle.std.proofs.{Common.Some, Common.length, Common.ap, Common.sym, Common.◌∙◌, Common.refl, Common.arith, lemmas.Option.slice_get_read}
use Rattle.lra_verify.specs.Crates.lra_certificate_spec.Lines.{judged_in_turn, left_at}
use Rattle.lra_verify.specs.Crates.{lra_path_disjuncts.TableDisjuncts.lists_done, lra_path_segments.Segments.violates, lra_systems.LinearSystems.constraints}
use Rattle.lra_paths.specs.{Sources.to_goal, declared.sources.Source.Source}
use Rattle.lra_verify.specs.EdgeViews.{dead_by, violation_by}
use Rattle.lra_certificate_lines.proofs.ShowSteps.{told_as}
use Rattle.lra_verify.proofs.EdgeSteps.{denial_none, denial_same}
use Rattle.lra_verify.proofs.annotated.AnnotatedProgram.take_denial.Goals as goal

pub returns-in-None-clause-told : goal.returns-in-None-clause-told
returns-in-None-clause-told c =
    denial_none c.args.self.now c.args.source c.args.point c.from.result c.from.ensures.rows (left_at c.args.bytes.now c.args.at) c.in-None.is

pub returns-in_ok-paths-in-Some-clause-told : goal.returns-in_ok-paths-in-Some-clause-told
returns-in_ok-paths-in-Some-clause-told c =
    let w = c.args.self.now in
    let l = left_at c.args.bytes.now c.args.at in
    let r = c.in-Some.rows in
    let lists = lists_done c.as_slice.result.now in
    let h = c.requires.source in
    let n = c.requires.ways.sources in
    told_as (left_at c.args.bytes.now) (judged_in_turn (dead_by r.now.dims (Some (constraints r.now))) lists l) (violation_by w c.args.point c.args.source l)
    c.take_all_dead.result
    (denial_same w c.args.source c.args.point c.from.result c.from.ensures.rows c.index-self-source.result r lists l c.in-Some.is
    (slice_get_read w.sources.now (length w.sources.now) c.args.source c.index-self-source.result refl (omega (arith, h, n)) c.index-self-source.is)
    (ap lists_done c.as_slice.ensures.value ∙ c.in_ok-paths-in-Some.ensures ∙
    ap (λ (s : Source). to_goal s.entries.items s.segments.items (violates c.args.point)) (sym c.index-self-source.is)) c.in-Some.ensures.dims) c.take_all_dead.ensures.told
