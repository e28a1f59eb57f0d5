-- Goals of `push_edges`: the lines of all paths from a source to a point.
use Rattle.std.proofs.{Common.length, Common.ap, Common.sym, Common.◌∙◌, Common.refl, Common.arith, Common.map, Common.List, Common.subst, Common.string_bytes, lemmas.Option.slice_get_read}
use Rattle.lra_certify.specs.Crates.lra_path_disjuncts.TableDisjuncts.{lists_done}
use Rattle.lra_certify.specs.Crates.{lra_domain.Actions.Action, lra_path_segments.Segments.comes_to, lra_paths.Paths.path_by, lra_paths.Sources.to_goal, lra_paths.declared.sources.Source.Source}
use Rattle.lra_certify.specs.WrittenPaths.{AllAreInductive, AddsPaths, SomePathStops, SomeStops, IfStopped, edge_lines, paths_to}
use Rattle.lra_certify.specs.{PathFactViews.IfStrained, declared.failures.CertifyFailure.CertifyFailure}
use Rattle.lra_certify.proofs.PathSteps.{led_lists, failed_edge}
use Rattle.lra_certify.proofs.edges.push_edges.Goals as goal

pub push_edge_paths-requires-clause-stay : goal.push_edge_paths-requires-clause-stay
push_edge_paths-requires-clause-stay c =
    let w = c.args.ways.now in
    let p = c.args.source in
    let h = c.requires.source in
    let n = c.requires.ways.sources in
    let led = led_lists w p (comes_to c.args.point) c.index-ways-source.result (lists_done c.as_slice.result.now)
    (slice_get_read w.sources.now (length w.sources.now) p c.index-ways-source.result refl (omega (arith, h, n)) c.index-ways-source.is)
    (ap lists_done c.as_slice.ensures.value ∙ c.in_ok-paths.ensures ∙
    ap (λ (s : Source). to_goal s.entries.items s.segments.items (comes_to c.args.point)) (sym c.index-ways-source.is)) in
    subst (λ (l : List (List Action)). AllAreInductive w (map (path_by p (comes_to c.args.point)) l)) (sym led) c.requires.stay

pub returns-in-Ok-clause-adds : goal.returns-in-Ok-clause-adds
returns-in-Ok-clause-adds c =
    let w = c.args.ways.now in
    let p = c.args.source in
    let h = c.requires.source in
    let n = c.requires.ways.sources in
    let led = led_lists w p (comes_to c.args.point) c.index-ways-source.result (lists_done c.as_slice.result.now)
    (slice_get_read w.sources.now (length w.sources.now) p c.index-ways-source.result refl (omega (arith, h, n)) c.index-ways-source.is)
    (ap lists_done c.as_slice.ensures.value ∙ c.in_ok-paths.ensures ∙
    ap (λ (s : Source). to_goal s.entries.items s.segments.items (comes_to c.args.point)) (sym c.index-ways-source.is)) in
    subst (λ (l : List (List Action)). AddsPaths w edge_lines (map (path_by p (comes_to c.args.point)) l) (string_bytes c.args.text.now)
    (string_bytes c.push_edge_paths.new.text)) led c.in-Ok.ensures.adds

pub returns-clause-failure : goal.returns-clause-failure
returns-clause-failure c =
    let w = c.args.ways.now in
    let p = c.args.source in
    let h = c.requires.source in
    let n = c.requires.ways.sources in
    let led = led_lists w p (comes_to c.args.point) c.index-ways-source.result (lists_done c.as_slice.result.now)
    (slice_get_read w.sources.now (length w.sources.now) p c.index-ways-source.result refl (omega (arith, h, n)) c.index-ways-source.is)
    (ap lists_done c.as_slice.ensures.value ∙ c.in_ok-paths.ensures ∙
    ap (λ (s : Source). to_goal s.entries.items s.segments.items (comes_to c.args.point)) (sym c.index-ways-source.is)) in
    subst (λ (e : CertifyFailure). IfStopped (SomeStops w (paths_to w p (comes_to c.args.point))) e) (sym c.at.ensures)
    (failed_edge w p c.args.point c.in-Err.failure
    (subst (λ (l : List (List Action)). IfStrained (SomePathStops w (map (path_by p (comes_to c.args.point)) l)) c.in-Err.failure) led
    c.in-Err.ensures.failure))
