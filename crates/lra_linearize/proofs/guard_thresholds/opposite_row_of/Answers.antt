-- Goals of `opposite_row_of`: the row `-form >= 0`.
use Rattle.std.proofs.{Common.rules, Common.map, Common.◌≡◌, Common.[], Common.◌∷◌, Common.◌++◌, Common.◌∙◌, Common.append_assoc, lemmas.List.Elements.All-push}
use Rattle.std.specs.Prelude.{neg_ℤ}
use Rattle.lra_linearize.specs.Crates.lra_linear_spec.Range.{InRange}
use Rattle.lra_linearize.proofs.guard_thresholds.opposite_row_of.Goals as goal

pub loop-coefficient-preserved : goal.loop-coefficient-preserved
loop-coefficient-preserved c =
    let left : c.loop-coefficient.left.now ≡ c.in-Some.coefficient.now ∷ c.in-Some.behind.now = search rules in
    let items = rw left at c.loop-coefficient.invariant.items in
    let range : InRange (neg_ℤ c.in-Some.coefficient.now) = c.push_negated-in-Some.ensures.range in
    let p : c.push_negated-in-Some.new.numbers.items ≡ c.loop-coefficient.numbers.items ++ neg_ℤ c.in-Some.coefficient.now ∷ [] = search rules in
    record {
      items = rw p (append_assoc c.loop-coefficient.numbers.items (neg_ℤ c.in-Some.coefficient.now ∷ []) (map neg_ℤ c.in-Some.behind.now) ∙ items);
      range = rw p (All-push InRange c.loop-coefficient.numbers.items (neg_ℤ c.in-Some.coefficient.now) c.loop-coefficient.invariant.range range);
    }
