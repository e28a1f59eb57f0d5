-- Goals of `all_generators`: the generator that each part says, if each says one.
use Rattle.std.proofs.Common.{[], ◌∙◌, sym, ap, refl, map, get_or, option_map, List, ℕ, Bor, arith}
use Rattle.lra_script.specs.{LineForms.generator_of, Views.texts}
use Rattle.lra_script.specs.Views as view
use Rattle.lra_script.proofs.AllOf.{all_done, none_here}
use Rattle.lra_script.proofs.rows.all_generators.Goals as goal

pub returns-clause-generators : goal.returns-clause-generators
returns-clause-generators c =
    all_done (λ (p : Bor (List (Bor (List ℕ)))). texts p.now) generator_of c.args.parts.now c.loop-part.part-index (map view.generator_view c.loop-part.generators.items) _
    (omega (arith, c.loop-part-test.false)) c.loop-part.invariant.so_far

pub returns-in_default-clause-generators : goal.returns-in_default-clause-generators
returns-in_default-clause-generators c =
    let ref : Bor (List (Bor (List ℕ))) = record { ref_ptr = (0, 0); now = [] } in
    none_here (λ (p : Bor (List (Bor (List ℕ)))). texts p.now) generator_of c.args.parts.now c.loop-part.part-index ref (get_or c.args.parts.now c.loop-part.part-index ref)
    (map view.generator_view c.loop-part.generators.items) _ c.loop-part-test.true refl (sym c.in_ok-generator.ensures.generator ∙ ap (option_map view.generator_view) c.in_default.is)
    c.loop-part.invariant.so_far
