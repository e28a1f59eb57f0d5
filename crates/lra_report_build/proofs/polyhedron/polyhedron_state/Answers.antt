-- Goals of `polyhedron_state`: the state of a polyhedron, given by its canonical lists.
use Rattle.std.proofs.Common.{◌≡◌, ◌∙◌, ◌<◌, ℤ, suc, List, [], ◌∷◌, ◌++◌, length, sym, ap, subst, arith}
use Rattle.std.proofs.lemmas.Grind.{common_steps}
use Rattle.std.specs.List.{All}
use Rattle.lra_report_build.specs.Crates.{lra_linear_spec.Range.InRange, lra_linear_spec.declared.ConKind.ConKind, lra_linear_spec.declared.GenKind.GenKind, lra_systems.LinearSystems.LinearSystem}
use Rattle.lra_row_text.specs.{Lists.shown_rows, Lists.shown_generators, Part.Part}
use Rattle.lra_report_build.specs.Polyhedra.{shown_polyhedron, polyhedron_of}
use Rattle.lra_report_build.proofs.{CanonicalLemmas.shown_canonical, PolyhedronShown.none_shown, PolyhedronShown.some_shown, PolyhedronShown.told_so, PolyhedronShown.spelled_so}
use Rattle.lra_report_build.proofs.polyhedron.polyhedron_state.Goals as goal

pub returns-then-is_empty-clause-told : goal.returns-then-is_empty-clause-told
returns-then-is_empty-clause-told c =
    let rows = c.args.rows.now in
    let gens = c.args.generators.now in
    let none : length gens.kinds ≡ 0 = grind (arith, common_steps) in
    let shown : c.new.result.items ≡ shown_polyhedron (polyhedron_of rows gens) = c.new.ensures.items ∙ none_shown rows gens none in
    told_so rows gens c.requires.canonical c.requires.dims
    (subst (All (λ (r : List ℤ). length r ≡ suc rows.dims)) c.rows-rows.ensures.rows c.rows-rows.ensures.widths)
    (subst (All (λ (r : List ℤ). length r ≡ suc gens.dims)) c.rows-generators.ensures.rows c.rows-generators.ensures.widths)
    (subst (All (All InRange)) c.rows-rows.ensures.rows c.rows-rows.ensures.in_range)
    (subst (All (All InRange)) c.rows-generators.ensures.rows c.rows-generators.ensures.in_range) c.new.result.items shown

pub returns-clause-shown : goal.returns-clause-shown
returns-clause-shown c =
    let rows = c.args.rows.now in
    let gens = c.args.generators.now in
    let part = c.new-2.result in
    let long : length gens.kinds ≡ length gens.rows = sym (ap length c.kinds.ensures.kinds) ∙ c.kinds.ensures.len in
    let some : 0 < length gens.kinds = grind (arith, common_steps) in
    c.in_ok-push.ensures.items ∙ ap (λ (l : List Part). l ++ part ∷ []) c.new-state.ensures.items
    ∙ some_shown rows gens part c.requires.fit long some
    (c.new-2.ensures.rows ∙ ap (λ (l : LinearSystem ConKind). shown_rows l.rows l.kinds) c.in_ok-copy.ensures)
    (c.new-2.ensures.generators ∙ ap (λ (l : LinearSystem GenKind). shown_generators l.rows l.kinds) c.in_ok-copy-2.ensures)

pub returns-clause-told : goal.returns-clause-told
returns-clause-told c =
    let rows = c.args.rows.now in
    let gens = c.args.generators.now in
    told_so rows gens c.requires.canonical c.requires.dims
    (subst (All (λ (r : List ℤ). length r ≡ suc rows.dims)) c.rows-rows.ensures.rows c.rows-rows.ensures.widths)
    (subst (All (λ (r : List ℤ). length r ≡ suc gens.dims)) c.rows-generators.ensures.rows c.rows-generators.ensures.widths)
    (subst (All (All InRange)) c.rows-rows.ensures.rows c.rows-rows.ensures.in_range)
    (subst (All (All InRange)) c.rows-generators.ensures.rows c.rows-generators.ensures.in_range) c.push.new.self.items (returns-clause-shown c)

pub returns-clause-spelled : goal.returns-clause-spelled
returns-clause-spelled c =
    let rows = c.args.rows.now in
    let gens = c.args.generators.now in
    spelled_so rows gens c.requires.canonical c.requires.dims
    (subst (All (λ (r : List ℤ). length r ≡ suc rows.dims)) c.rows-rows.ensures.rows c.rows-rows.ensures.widths)
    (subst (All (λ (r : List ℤ). length r ≡ suc gens.dims)) c.rows-generators.ensures.rows c.rows-generators.ensures.widths)
    (subst (All (All InRange)) c.rows-rows.ensures.rows c.rows-rows.ensures.in_range)
    (subst (All (All InRange)) c.rows-generators.ensures.rows c.rows-generators.ensures.in_range) c.push.new.self.items (returns-clause-shown c)

pub returns-clause-canonical : goal.returns-clause-canonical
returns-clause-canonical c =
    let rows = c.args.rows.now in
    let gens = c.args.generators.now in
    let part = c.new-2.result in
    let long : length gens.kinds ≡ length gens.rows = sym (ap length c.kinds.ensures.kinds) ∙ c.kinds.ensures.len in
    let some : 0 < length gens.kinds = grind (arith, common_steps) in
    shown_canonical (polyhedron_of rows gens) _ c.requires.formed (c.in_ok-push.ensures.items ∙ ap (λ (l : List Part). l ++ part ∷ []) c.new-state.ensures.items
    ∙ some_shown rows gens part c.requires.fit long some
    (c.new-2.ensures.rows ∙ ap (λ (l : LinearSystem ConKind). shown_rows l.rows l.kinds) c.in_ok-copy.ensures)
    (c.new-2.ensures.generators ∙ ap (λ (l : LinearSystem GenKind). shown_generators l.rows l.kinds) c.in_ok-copy-2.ensures))
