-- Goals of `floor_div`: `a / b` rounded down, or `None` exactly if `b` is 0 or the quotient passes the range.
use Rattle.std.proofs.Common.{rules, arith, ◌≡◌, ◌<◌, pos, ℤ, ◌-ℤ◌, FitsSigned, to_z, of_z, sym, ◌∙◌, ap, subst, ◌<ℤ◌}
use Rattle.std.proofs.lemmas.Int.{ints, to_z-of_z}
use Rattle.std.specs.Int.{w128}
use Rattle.lra_linear_spec.specs.Range.{InRange}
use Rattle.lra_row.specs.Division.{floor_quotient}
use Rattle.lra_row.proofs.Division.{floor_law, floor_above, floor_exact, floor_below, in_range_bits, lower_fits}
use Rattle.lra_row.proofs.number.floor_div.Goals.{then-b-lt0+then-rem_euclid-ne0, else-b-lt0, else-b-lt0-via-then-b-lt0+else-rem_euclid-ne0, else-b-lt0-via-else-b-lt0}
use Rattle.lra_row.proofs.number.floor_div.Goals as goal

nonzero : (b : ℤ) → 0 < of_z w128 b → ¬ (b ≡ pos 0)
nonzero b h e = let k : of_z w128 b ≡ 0 = ap (of_z w128) e in omega (arith, h, k)

pub returns-else-floor-clause-exact : goal.returns-else-floor-clause-exact
returns-else-floor-clause-exact c =
    let a = c.args.a in
    let b = c.args.b in
    let fa = c.ranges.a in
    let fb = c.ranges.b in
    let fq : FitsSigned w128 c.in_ok-quotient.quotient = search rules in
    let ok = simp to_z-of_z at c.in_ok-quotient.ensures in
    let z = nonzero b ok.0.0 in
    let e : to_z w128 c.if-b-lt0.floor-bits ≡ floor_quotient a b = elim c.if-b-lt0.branch [
      | then-b-lt0+then-rem_euclid-ne0 w ↦
          let n : b <ℤ pos 0 = omega (arith, ints, w.if-b-lt0.true) in
          let fr : FitsSigned w128 w.rem_euclid.result = record { sfits = w.rem_euclid.type_inv } in
          let r = simp to_z-of_z at w.rem_euclid.ensures.value in
          let fl : FitsSigned w128 (c.in_ok-quotient.quotient -ℤ pos 1) = subst (λ (x : ℤ). FitsSigned w128 (x -ℤ pos 1)) (sym ok.1) (lower_fits a b fa n) in
          simp to_z-of_z at w.floor-is ∙ ap (λ x. x -ℤ pos 1) ok.1 ∙ floor_below a b n (λ k. w.if-rem_euclid-ne0.true (ap (of_z w128) (r ∙ k)))
      | else-b-lt0 w ↦ simp to_z-of_z at w.floor-is ∙ ok.1 ∙ elim w.else-b-lt0.branch [
        | else-b-lt0-via-then-b-lt0+else-rem_euclid-ne0 w' ↦
            let n : b <ℤ pos 0 = omega (arith, ints, w'.if-b-lt0.true) in
            let fr : FitsSigned w128 w'.rem_euclid.result = record { sfits = w'.rem_euclid.type_inv } in
            let r = simp to_z-of_z at w'.rem_euclid.ensures.value in
            floor_exact a b n (sym r ∙ omega (arith, ints, w'.if-rem_euclid-ne0.false))
        | else-b-lt0-via-else-b-lt0 w' ↦ floor_above a b z (λ n. omega (arith, ints, n, w'.if-b-lt0.false))
      ]
    ] in
    ((z, subst InRange e (in_range_bits _ c.if-floor.false)), e)

pub returns-else-floor-clause-floor : goal.returns-else-floor-clause-floor
returns-else-floor-clause-floor c = floor_law c.args.a c.args.b
