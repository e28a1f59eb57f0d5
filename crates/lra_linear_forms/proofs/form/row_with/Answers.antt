-- Goals of `row_with`: the row with a number in column 0, then the coefficients.
use Rattle.std.proofs.{Common.rules, Common.◌≡◌, Common.[], Common.◌∷◌, Common.◌++◌, Common.◌∙◌, Common.append_assoc, lemmas.List.Elements.All-push}
use Rattle.lra_linear_forms.specs.Crates.lra_linear_spec.Range.{InRange}
use Rattle.lra_linear_forms.proofs.form.row_with.Goals as goal

pub loop-coefficient-preserved : goal.loop-coefficient-preserved
loop-coefficient-preserved c =
    let left : c.loop-coefficient.left.now ≡ c.in-Some.coefficient.now ∷ c.in-Some.behind.now = search rules in
    let items = rw left at c.loop-coefficient.invariant.items in
    let range : InRange c.in-Some.coefficient.now = search rules in
    let p : c.push-in-Some.new.self.items ≡ c.loop-coefficient.numbers.items ++ c.in-Some.coefficient.now ∷ [] = search rules in
    record {
      items = rw p (append_assoc c.loop-coefficient.numbers.items (c.in-Some.coefficient.now ∷ []) c.in-Some.behind.now ∙ items);
      range = rw p (All-push InRange c.loop-coefficient.numbers.items c.in-Some.coefficient.now c.loop-coefficient.invariant.range range);
    }
