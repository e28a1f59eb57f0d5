-- Goals of `tighten_row`: the constraint of the same stores, its coefficients in lowest terms.
use Rattle.std.proofs.Common.{rules, arith, FitsSigned, ap, get_or, pos, ◌∙◌, ◌<ℤ◌, ℤ, ◌∷◌, ◌-◌, map, int_div, take, drop, length}
use Rattle.std.proofs.lemmas.Int.{ints, to_z-of_z}
use Rattle.std.specs.Int.{int_rem_euclid, w128}
use Rattle.lra_poly_queries.specs.Crates.lra_linear_spec.Kinds.{is_equality}
use Rattle.lra_poly_queries.proofs.TightenedExits.{exact_else, falsity_width, rest_in_range, row_nowhere, row_rounded, row_tight}
use Rattle.lra_poly_queries.proofs.rounding.tighten_row.Goals as goal

pub returns-then-divisor-le1-clause-tightened : goal.returns-then-divisor-le1-clause-tightened
returns-then-divisor-le1-clause-tightened c =
    let small = c.if-divisor-le1.true in
    row_tight c.args.dims c.args.row.now c.entries-numbers.result.now c.in_ok-same.same c.divisor_of-divisor.result
    (is_equality c.args.kind) c.entries-numbers.ensures.entries c.requires.width c.divisor_of-divisor.ensures.divisor
    c.divisor_of-divisor.ensures.nonnegative (λ big. omega (arith, ints, small, big)) c.in_ok-same.ensures

pub returns-then-has_no_store-clause-width : goal.returns-then-has_no_store-clause-width
returns-then-has_no_store-clause-width c = falsity_width c.args.dims c.in_ok-none.none c.in_ok-none.ensures

pub returns-then-has_no_store-clause-tightened : goal.returns-then-has_no_store-clause-tightened
returns-then-has_no_store-clause-tightened c =
    let constant = get_or c.entries-numbers.result.now 0 (pos 0) in
    let divisor = c.divisor_of-divisor.result in
    let fits_constant : FitsSigned w128 constant = search rules in
    let fits_divisor : FitsSigned w128 divisor = search rules in
    let tells = simp to_z-of_z at c.has_no_store.ensures in
    let both = tells.0 c.if-has_no_store.true in
    let big : pos 1 <ℤ divisor = let b = c.if-divisor-le1.false in omega (arith, ints, b) in
    row_nowhere c.args.dims c.args.row.now c.entries-numbers.result.now c.in_ok-none.none divisor
    (is_equality c.args.kind) c.entries-numbers.ensures.entries c.requires.width c.divisor_of-divisor.ensures.divisor
    big both.0 both.1 c.in_ok-none.ensures

pub divide_behind-requires-clause-others : goal.divide_behind-requires-clause-others
divide_behind-requires-clause-others c =
    rest_in_range c.entries-numbers.result.now c.entries-numbers.ensures.in_range

pub returns-clause-tightened : goal.returns-clause-tightened
returns-clause-tightened c =
    let constant = get_or c.entries-numbers.result.now 0 (pos 0) in
    let divisor = c.divisor_of-divisor.result in
    let fits_constant : FitsSigned w128 constant = search rules in
    let fits_divisor : FitsSigned w128 divisor = search rules in
    let tells = simp to_z-of_z at c.has_no_store.ensures in
    let fits_quotient : FitsSigned w128 c.div_euclid.result = search rules in
    let value = simp to_z-of_z at c.div_euclid.ensures in
    let told = c.in_ok-made.ensures {u = tt} in
    let made = simp to_z-of_z at told in
    let rest = c.entries-numbers.result.now in
    let big : pos 1 <ℤ divisor = let b = c.if-divisor-le1.false in omega (arith, ints, b) in
    row_rounded c.args.dims c.args.row.now c.entries-numbers.result.now c.in_ok-made.made divisor
    (is_equality c.args.kind) c.entries-numbers.ensures.entries c.requires.width c.divisor_of-divisor.ensures.divisor
    big (exact_else c.has_no_store.result (is_equality c.args.kind) (int_rem_euclid constant divisor)
    c.if-has_no_store.false tells)
    (made ∙ ap (λ (q : ℤ). q ∷ map (λ z. int_div z divisor) (take (length rest - 1) (drop 1 rest))) value)
