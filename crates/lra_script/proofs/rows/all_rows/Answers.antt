-- Goals of `all_rows`: the row that each part says, if each says one.
use Rattle.std.proofs.Common.{[], ◌∙◌, sym, ap, refl, map, get_or, option_map, List, ℕ, Bor, arith}
use Rattle.lra_script.specs.{LineForms.row_of, Views.texts, Views.constraint_of}
use Rattle.lra_script.proofs.AllOf.{all_done, none_here}
use Rattle.lra_script.proofs.rows.all_rows.Goals as goal

pub returns : goal.returns
returns c =
    all_done (λ (p : Bor (List (Bor (List ℕ)))). texts p.now) row_of c.args.parts.now c.loop-part.part-index (map constraint_of c.loop-part.rows.items) _ (omega (arith, c.loop-part-test.false))
    c.loop-part.invariant

pub returns-in_default : goal.returns-in_default
returns-in_default c =
    let ref : Bor (List (Bor (List ℕ))) = record { ref_ptr = (0, 0); now = [] } in
    none_here (λ (p : Bor (List (Bor (List ℕ)))). texts p.now) row_of c.args.parts.now c.loop-part.part-index ref (get_or c.args.parts.now c.loop-part.part-index ref)
    (map constraint_of c.loop-part.rows.items) _ c.loop-part-test.true refl (sym c.in_ok-row.ensures ∙ ap (option_map constraint_of) c.in_default.is) c.loop-part.invariant
