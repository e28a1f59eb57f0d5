-- Goals of `opposite_row`: the same times -1.
use Rattle.std.proofs.{Common.rules, Common.map, Common.◌≡◌, Common.[], Common.◌∷◌, Common.◌++◌, Common.◌∙◌, Common.append_assoc, Common.FitsSigned, lemmas.List.Elements.All-push}
use Rattle.std.specs.{Int.w128, Prelude.neg_ℤ}
use Rattle.lra_box.specs.Crates.lra_linear_spec.Range.{InRange}
use Rattle.lra_box.proofs.bounds.opposite_row.Goals as goal

pub loop-factor-preserved : goal.loop-factor-preserved
loop-factor-preserved c =
    let left : c.loop-factor.left.now ≡ c.in-Some.factor.now ∷ c.in-Some.later.now = search rules in
    let items = rw left at c.loop-factor.invariant.items in
    let fit : FitsSigned w128 (neg_ℤ c.in-Some.factor.now) = search rules in
    let range : InRange (neg_ℤ c.in-Some.factor.now) = search rules in
    let p : c.push.new.self.items ≡ c.loop-factor.row.items ++ neg_ℤ c.in-Some.factor.now ∷ [] = search rules in
    record {
      items = rw p (append_assoc c.loop-factor.row.items (neg_ℤ c.in-Some.factor.now ∷ []) (map neg_ℤ c.in-Some.later.now) ∙ items);
      range = rw p (All-push InRange c.loop-factor.row.items (neg_ℤ c.in-Some.factor.now) c.loop-factor.invariant.range range);
    }
