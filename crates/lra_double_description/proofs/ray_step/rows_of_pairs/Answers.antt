-- Goals of `rows_of_pairs`: for each pair the rows that are tight at both.
use Rattle.std.proofs.{Common.◌∙◌, Common.◌++◌, Common.◌∷◌, Common.[], Common.List, Common.Bool, Common.ap, Common.sym, lemmas.List.map-append}
use Rattle.lra_bits.specs.Matrix.{Matrix}
use Rattle.lra_double_description.specs.declared.pairs.Pair.{Pair}
use Rattle.lra_double_description.proofs.ray_step.rows_of_pairs.Goals as goal

pub each-preserved : goal.each-preserved
each-preserved c =
    let p = c.in-Some.pair in
    c.in_ok-add_row.ensures.added ∙ ap (λ (m : Matrix). record m { rows = m.rows ++ p.tight ∷ [] }) c.each.invariant ∙
    ap (λ (l : List (List Bool)). (let x : Matrix = record { width = c.args.width; rows = l } in x))
    (sym (map-append (λ (q : Pair). q.tight) c.each.yielded (p ∷ [])))
