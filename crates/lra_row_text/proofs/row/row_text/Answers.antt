-- Goals of `row_text`.
use Rattle.std.proofs.{Common.◌≡◌, Common.ap, Common.ap₂, Common.sym, Common.◌∙◌, Common.arith, Common.rules, Common.string_bytes, Common.FitsSigned, lemmas.Int.to_z-of_z}
use Rattle.std.specs.Int.{w128, cast_signed}
use Rattle.lra_row_text.specs.Crates.{lra_linear_spec.Vectors.entry, lra_linear_spec.declared.ConKind.ConKind}
use Rattle.lra_row_text.specs.Texts.{relation_text}
use Rattle.lra_row_text.proofs.RowTexts.{no_entry, pieces_make}
use Rattle.lra_row_text.proofs.row.row_text.Goals.{in-Eq-default, in-Ge-true, in-Ge-false, then-width-gt0, else-width-gt0}
use Rattle.lra_row_text.proofs.row.row_text.Goals as goal

relation_is : (c : goal.In_ok-write) → c.match-kind.relation.now ≡ relation_text c.args.kind c.is_negated-is_negated.result
relation_is c = elim c.match-kind.branch [
  | in-Eq-default w ↦ ap (λ s. s.now) w.relation-is ∙ sym (ap (λ (k : ConKind). relation_text k c.is_negated-is_negated.result) w.in-Eq-default.is-0)
  | in-Ge-true w ↦ ap (λ s. s.now) w.relation-is ∙ sym (ap₂ relation_text w.in-Ge-true.is-0 w.in-Ge-true.if-this-true)
  | in-Ge-false w ↦ ap (λ s. s.now) w.relation-is ∙ sym (ap₂ relation_text w.in-Ge-false.is-0 w.in-Ge-false.if-this-false)
]

constant_is : (c : goal.In_ok-write) → cast_signed w128 c.if-width-gt0.constant-bits ≡ entry c.args.row.now 0
constant_is c = elim c.if-width-gt0.branch [
  | then-width-gt0 w ↦
      let fits : FitsSigned w128 w.get-constant.result = search rules in w.constant-is ∙ to_z-of_z w128 w.get-constant.result fits ∙ w.get-constant.ensures.entry
  | else-width-gt0 w ↦ w.constant-is ∙ sym (no_entry c.args.row.now (omega (arith, c.width.ensures, w.if-width-gt0.false)))
]

pub returns : goal.returns
returns c =
    let fits : FitsSigned w128 c.negated_if-bound.result = search rules in
    pieces_make c.args.names.now c.args.row.now c.args.kind c.is_negated-is_negated.result (cast_signed w128 c.if-width-gt0.constant-bits) _ c.match-kind.relation.now
    (string_bytes c.new-text.result) (string_bytes c.push_form.new.text) (string_bytes c.write.new.self) _ c.new-text.ensures.bytes c.texts.ensures
    c.is_negated-is_negated.ensures c.in_ok-push_form.ensures (relation_is c) (constant_is c)
    (to_z-of_z w128 c.negated_if-bound.result fits ∙ c.negated_if-bound.ensures.value) c.in_ok-write.ensures.bytes
