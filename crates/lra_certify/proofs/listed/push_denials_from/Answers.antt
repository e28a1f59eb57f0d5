-- Goals of `push_denials_from`: the paths from a source to where an assertion is false.
use Rattle.std.proofs.{Common.length, Common.ap, Common.sym, Common.◌∙◌, Common.refl, Common.arith, Common.string_bytes, lemmas.Option.slice_get_read}
use Rattle.lra_certify.specs.Crates.{lra_certificate_lines.PathCheckViews.target_rows, lra_path_disjuncts.TableDisjuncts.lists_done, lra_path_segments.Segments.violates, lra_paths.Sources.to_goal}
use Rattle.lra_certify.specs.Crates.{lra_paths.declared.sources.Source.Source, lra_systems.LinearSystems.constraints}
use Rattle.lra_certify.proofs.PathSteps.{led_lists, none_denied, denied_told, denied_failed, denied_stay}
use Rattle.lra_certify.proofs.listed.push_denials_from.Goals as goal

pub returns-in-None-clause-adds : goal.returns-in-None-clause-adds
returns-in-None-clause-adds c =
    none_denied c.args.ways.now c.args.source c.args.point (string_bytes c.args.text.now) (sym (ap target_rows c.in-None.is) ∙ c.from.ensures.rows)

pub push_dead_paths-requires-clause-stay : goal.push_dead_paths-requires-clause-stay
push_dead_paths-requires-clause-stay c =
    let w = c.args.ways.now in
    let p = c.args.source in
    let h = c.requires.source in
    let n = c.requires.ways.sources in
    denied_stay w p c.args.point c.in-Some.rows.now.dims (constraints c.in-Some.rows.now) c.in-Some.ensures.dims
    (sym (ap target_rows c.in-Some.is) ∙ c.from.ensures.rows) (lists_done c.as_slice.result.now)
    (led_lists w p (violates c.args.point) c.index-ways-source.result (lists_done c.as_slice.result.now)
    (slice_get_read w.sources.now (length w.sources.now) p c.index-ways-source.result refl (omega (arith, h, n)) c.index-ways-source.is)
    (ap lists_done c.as_slice.ensures.value ∙ c.in_ok-paths-in-Some.ensures ∙
    ap (λ (s : Source). to_goal s.entries.items s.segments.items (violates c.args.point)) (sym c.index-ways-source.is))) c.requires.stay

pub returns-in_ok-paths-in-Some-clause-adds : goal.returns-in_ok-paths-in-Some-clause-adds
returns-in_ok-paths-in-Some-clause-adds c =
    let w = c.args.ways.now in
    let p = c.args.source in
    let h = c.requires.source in
    let n = c.requires.ways.sources in
    denied_told w p c.args.point c.in-Some.rows.now.dims (constraints c.in-Some.rows.now) c.in-Some.ensures.dims
    (sym (ap target_rows c.in-Some.is) ∙ c.from.ensures.rows) (lists_done c.as_slice.result.now)
    (led_lists w p (violates c.args.point) c.index-ways-source.result (lists_done c.as_slice.result.now)
    (slice_get_read w.sources.now (length w.sources.now) p c.index-ways-source.result refl (omega (arith, h, n)) c.index-ways-source.is)
    (ap lists_done c.as_slice.ensures.value ∙ c.in_ok-paths-in-Some.ensures ∙
    ap (λ (s : Source). to_goal s.entries.items s.segments.items (violates c.args.point)) (sym c.index-ways-source.is)))
    (string_bytes c.args.text.now) (string_bytes c.push_dead_paths.new.text) c.push_dead_paths.result c.push_dead_paths.ensures.adds

pub returns-in_ok-paths-in-Some-clause-failure : goal.returns-in_ok-paths-in-Some-clause-failure
returns-in_ok-paths-in-Some-clause-failure c =
    let w = c.args.ways.now in
    let p = c.args.source in
    let h = c.requires.source in
    let n = c.requires.ways.sources in
    denied_failed w p c.args.point c.in-Some.rows.now.dims (constraints c.in-Some.rows.now) c.in-Some.ensures.dims
    (sym (ap target_rows c.in-Some.is) ∙ c.from.ensures.rows) (lists_done c.as_slice.result.now)
    (led_lists w p (violates c.args.point) c.index-ways-source.result (lists_done c.as_slice.result.now)
    (slice_get_read w.sources.now (length w.sources.now) p c.index-ways-source.result refl (omega (arith, h, n)) c.index-ways-source.is)
    (ap lists_done c.as_slice.ensures.value ∙ c.in_ok-paths-in-Some.ensures ∙
    ap (λ (s : Source). to_goal s.entries.items s.segments.items (violates c.args.point)) (sym c.index-ways-source.is)))
    c.push_dead_paths.result c.push_dead_paths.ensures.failure
