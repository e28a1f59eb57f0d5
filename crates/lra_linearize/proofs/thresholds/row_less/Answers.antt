-- Goals of `row_less`: the row `form - less >= 0`.
use Rattle.std.proofs.{Common.rules, Common.◌≡◌, Common.[], Common.◌∷◌, Common.◌++◌, Common.◌∙◌, Common.append_assoc, lemmas.List.Elements.All-push}
use Rattle.lra_linearize.specs.Crates.lra_linear_spec.Range.{InRange}
use Rattle.lra_linearize.proofs.thresholds.row_less.Goals as goal

pub loop-coefficient-preserved : goal.loop-coefficient-preserved
loop-coefficient-preserved c =
    let left : c.loop-coefficient.left.now ≡ c.in-Some.coefficient.now ∷ c.in-Some.behind.now = search rules in
    let items = rw left at c.loop-coefficient.invariant.items in
    let range : InRange c.in-Some.coefficient.now = c.push_number.ensures.range in
    let p : c.push_number.new.numbers.items ≡ c.loop-coefficient.numbers.items ++ c.in-Some.coefficient.now ∷ [] = search rules in
    record {
      items = rw p (append_assoc c.loop-coefficient.numbers.items (c.in-Some.coefficient.now ∷ []) c.in-Some.behind.now ∙ items);
      range = rw p (All-push InRange c.loop-coefficient.numbers.items c.in-Some.coefficient.now c.loop-coefficient.invariant.range range);
    }
