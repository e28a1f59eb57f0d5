use Rattle.std.proofs.Common.{◌≡◌, drop, map}
use Rattle.lra_script.specs.{LineForms.all_of, LineForms.row_of, Views.texts, Views.constraint_of}
use Rattle.lra_script.proofs.AllOf.{onto}
use Rattle.lra_script.proofs.rows.all_rows.Given as goal

abbrev pub invariant-loop-part : goal.invariant-loop-part
invariant-loop-part l =
    onto (map constraint_of l.rows.items) (all_of row_of (map (λ p. texts p.now) (drop l.part-index l.parts))) ≡ all_of row_of (map (λ p. texts p.now) l.parts)
