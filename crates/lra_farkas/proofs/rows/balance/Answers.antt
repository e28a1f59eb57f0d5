-- Goals of `balance`: the equality of a column.
use Rattle.std.proofs.Common.{rules, ◌≡◌, ◌++◌, ◌∷◌, [], ℤ, neg_ℤ, List, FitsSigned, refl, ap, sym, ◌∙◌, subst}
use Rattle.std.proofs.lemmas.Result.{IfOk-weaker}
use Rattle.std.proofs.{lemmas.Int.to_z-of_z, lemmas.List.Elements.All-cons, lemmas.List.Elements.All-nil}
use Rattle.std.specs.{Int.w128, List.All}
use Rattle.lra_farkas.specs.Crates.lra_linear_spec.Range.{InRange}
use Rattle.lra_farkas.proofs.ListedRows.{balance_made}
use Rattle.lra_farkas.proofs.rows.balance.Goals as goal

pub push_column-requires-clause-in_range : goal.push_column-requires-clause-in_range
push_column-requires-clause-in_range c =
    let z = c.opposite.result in
    let one = c.one_at.result in
    let fz : FitsSigned w128 z = search rules in
    let fo : FitsSigned w128 one = search rules in
    let pushed : c.push.new.self.items ≡ c.new-numbers.result.items ++ z ∷ [] = simp to_z-of_z at c.in_ok-push.ensures.items in
    let e1 : c.push.new.self.items ≡ z ∷ [] = pushed ∙ ap (λ (x : List ℤ). x ++ z ∷ []) c.new-numbers.ensures.items in
    let e2 : c.push-2.new.self.items ≡ c.push.new.self.items ++ one ∷ [] = simp to_z-of_z at c.in_ok-push-2.ensures.items in
    subst (All InRange) (sym (e2 ∙ subst (λ (x : List ℤ). x ++ one ∷ [] ≡ z ∷ one ∷ []) (sym e1) refl))
    (All-cons InRange z (one ∷ []) c.opposite.ensures.in_range (All-cons InRange one [] c.one_at.ensures.in_range (All-nil InRange)))

pub returns : goal.returns
returns c =
    let z = c.opposite.result in
    let one = c.one_at.result in
    let fg : FitsSigned w128 c.get.result = search rules in
    let fz : FitsSigned w128 z = search rules in
    let turned : z ≡ neg_ℤ c.get.result = simp to_z-of_z at c.opposite.ensures.value in
    let fo : FitsSigned w128 one = search rules in
    let pushed : c.push.new.self.items ≡ c.new-numbers.result.items ++ z ∷ [] = simp to_z-of_z at c.in_ok-push.ensures.items in
    let e1 : c.push.new.self.items ≡ z ∷ [] = pushed ∙ ap (λ (x : List ℤ). x ++ z ∷ []) c.new-numbers.ensures.items in
    let e2 : c.push-2.new.self.items ≡ c.push.new.self.items ++ one ∷ [] = simp to_z-of_z at c.in_ok-push-2.ensures.items in
    IfOk-weaker c.from_slice.result _ _ (λ row is. balance_made c.push.new.self.items c.push-2.new.self.items c.push_column.new.numbers.items row c.args.premises.now c.args.claim.now
    c.args.column z one e1 e2 c.in_ok-push_column.ensures.numbers (is ∙ c.as_slice.ensures.value)
    (turned ∙ ap neg_ℤ c.get.ensures.entry) c.one_at.ensures.value) c.from_slice.ensures
