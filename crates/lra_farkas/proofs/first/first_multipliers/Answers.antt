-- Goals of `first_multipliers`: the first generator, as multipliers.
use Rattle.std.proofs.Common.{rules, ◌≡◌, ◌≤◌, ◌∙◌, ap, sym, subst, length, drop, List, ℤ, arith}
use Rattle.std.proofs.{lemmas.Int.to_z-of_z, lemmas.List.Elements.All-drop}
use Rattle.std.specs.{Int.w128, List.All}
use Rattle.lra_farkas.specs.Crates.lra_linear_spec.Range.{InRange}
use Rattle.lra_farkas.proofs.{Crates.lra_description_pair.GeneratorPairs.if_both, FirstPoints.some_rows, FirstPoints.first_listed}
use Rattle.lra_farkas.proofs.first.first_multipliers.Goals as goal

pub at-kind-requires : goal.at-kind-requires
at-kind-requires c = some_rows c.args.all.now c.generators.result.now c.generators.ensures.canonical c.requires.some c.generators.ensures.generators

pub returns-clause-first : goal.returns-clause-first
returns-clause-first c =
    let point = c.at-kind.result.0.now in
    let divisor_fits = to_z-of_z w128 c.get.result (search rules) in
    let constant_fits = to_z-of_z w128 c.get-2.result (search rules) in
    let w = c.at-kind.ensures.width in
    let n = c.generators.ensures.dims in
    let some = c.requires.dims in
    let long : 2 ≤ length point = omega (arith, w, n, some) in
    if_both c.new.result _ _ _ (λ made numbers factors.
    first_listed c.args.all.now c.generators.result.now point made.factors.items c.at-kind.result.1 made.divisor made.constant
    c.generators.ensures.canonical c.requires.some c.generators.ensures.generators c.at-kind.ensures.row c.at-kind.ensures.kind long
    (numbers.0 ∙ c.get.ensures.entry) (numbers.1 ∙ c.get-2.ensures.entry)
    (factors ∙ c.in_ok-factors.ensures.items ∙ c.split_at.ensures.back ∙ ap (λ (r : List ℤ). drop 2 r) c.entries.ensures.entries))
    (if_both c.new.result _ _ (λ made. (made.divisor ≡ c.get.result) × (made.constant ≡ c.get-2.result)) (λ made divisor constant. (divisor ∙ divisor_fits, constant ∙ constant_fits))
    c.new.ensures.divisor c.new.ensures.constant) c.new.ensures.factors

pub returns-clause-numbers : goal.returns-clause-numbers
returns-clause-numbers c =
    let divisor_fits = to_z-of_z w128 c.get.result (search rules) in
    let constant_fits = to_z-of_z w128 c.get-2.result (search rules) in
    if_both c.new.result _ _ _ (λ made numbers factors. record {
      divisor = subst (λ z. InRange z) (sym numbers.0) c.get.ensures.in_range;
      constant = subst (λ z. InRange z) (sym numbers.1) c.get-2.ensures.in_range;
      factors = subst (λ zs. All InRange zs) (sym (factors ∙ c.in_ok-factors.ensures.items ∙ c.split_at.ensures.back))
          (All-drop (λ z. InRange z) 2 c.entries.result.now c.entries.ensures.in_range);
    })
    (if_both c.new.result _ _ (λ made. (made.divisor ≡ c.get.result) × (made.constant ≡ c.get-2.result)) (λ made divisor constant. (divisor ∙ divisor_fits, constant ∙ constant_fits))
    c.new.ensures.divisor c.new.ensures.constant) c.new.ensures.factors
