-- Goals of `wide_row`: the form's coefficients, as wider numbers.
use Rattle.std.proofs.Common.{rules, ◌≡◌, [], ◌∷◌, ◌++◌, ◌∙◌, List, ℤ, pos, get_or, sym, ap, FitsSigned}
use Rattle.std.proofs.{lemmas.List.take_more, lemmas.List.Elements.All-push}
use Rattle.std.specs.Int.{w64}
use Rattle.lra_box.specs.Crates.lra_linear_spec.Range.{InRange}
use Rattle.lra_box.proofs.bounds.wide_row.Goals as goal

pub loop-factor-preserved : goal.loop-factor-preserved
loop-factor-preserved c =
    let items = c.coefficients-factor-items.result.now in
    let at = c.loop-factor.factor-index in
    let fit : FitsSigned w64 (get_or c.coefficients-factor-items.result.now c.loop-factor.factor-index (pos 0)) = search rules in
    let range : InRange (get_or c.coefficients-factor-items.result.now c.loop-factor.factor-index (pos 0)) = search rules in
    let p : c.push.new.self.items ≡ c.loop-factor.row.items
    ++ get_or c.coefficients-factor-items.result.now c.loop-factor.factor-index (pos 0) ∷ [] = search rules in
    record {
      items = p ∙ ap (λ (xs : List ℤ). xs ++ get_or items at (pos 0) ∷ []) c.loop-factor.invariant.items
          ∙ sym (take_more items at (pos 0) c.loop-factor-test.true);
      range = rw p (All-push InRange c.loop-factor.row.items (get_or items at (pos 0)) c.loop-factor.invariant.range range);
    }
