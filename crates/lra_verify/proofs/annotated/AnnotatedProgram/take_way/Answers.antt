-- Goals of `take_way`: the paths from a source to a point.
use Rattle.std.proofs.{Common.length, Common.ap, Common.sym, Common.◌∙◌, Common.refl, Common.arith, lemmas.Option.slice_get_read}
use Rattle.lra_verify.specs.Crates.{lra_certificate_spec.Lines.judged_in_turn, lra_certificate_spec.Lines.left_at, lra_path_disjuncts.TableDisjuncts.lists_done, lra_path_segments.Segments.comes_to}
use Rattle.lra_paths.specs.{Sources.to_goal, declared.sources.Source.Source}
use Rattle.lra_verify.specs.{EdgeViews.path_of, EdgeViews.paths_to_by, declared.edges.Edge.Edge}
use Rattle.lra_certificate_lines.proofs.ShowSteps.{told_as}
use Rattle.lra_verify.proofs.EdgeSteps.{way_same}
use Rattle.lra_verify.proofs.annotated.AnnotatedProgram.take_way.Goals as goal

pub returns-clause-told : goal.returns-clause-told
returns-clause-told c =
    let w = c.args.self.now in
    let p = c.args.source in
    let q = c.args.point in
    let l = left_at c.args.bytes.now c.args.at in
    let lists = lists_done c.as_slice.result.now in
    let h = c.requires.source in
    let n = c.requires.ways.sources in
    let e : Edge = record { source = p; point = q; from = c.from.result; to = c.state.result } in
    told_as (left_at c.args.bytes.now) (judged_in_turn (path_of e) lists l) (paths_to_by w p q l) c.take_paths.result
    (way_same c.from.result c.state.result p q w c.index-self-source.result lists
    (slice_get_read w.sources.now (length w.sources.now) p c.index-self-source.result refl (omega (arith, h, n)) c.index-self-source.is)
    (ap lists_done c.as_slice.ensures.value ∙ c.in_ok-paths.ensures ∙
    ap (λ (s : Source). to_goal s.entries.items s.segments.items (comes_to q)) (sym c.index-self-source.is)) c.from.ensures.rows c.state.ensures.rows c.from.ensures.dims l)
    c.take_paths.ensures.told
