-- Goals of the functions that call each other around `ratio_cmp`: `returns`, `ratio_cmp`.
use Rattle.std.proofs.Common.{arith, ◌∙◌, sym, inl, inr, ℤ, pos, ◌*ℤ◌, ◌≡◌, ap, FitsSigned, to_z, of_z, ◌⊎◌}
use Rattle.std.proofs.lemmas.Int.{ints, to_z-of_z}
use Rattle.std.specs.{Int.int_div_euclid, Int.int_rem_euclid, Int.w128, Ordering.int_cmp}
use Rattle.lra_row.proofs.Ratio.{ratio_apart, ratio_same, ratio_end, rem_bounds}
use Rattle.lra_row.proofs.number.+ratio_cmp.Goals as goal
use Rattle.lra_row.proofs.number.+ratio_cmp.Goals.{then-r-eq0-via-then-r-eq0, then-r-eq0-via-else-r-eq0+then-s-eq0}

pub returns-then-p-q : goal.returns-then-p-q
returns-then-p-q t c =
    let f1 = c.ranges.n1 in
    let f2 = c.ranges.d1 in
    let f3 = c.ranges.n2 in
    let f4 = c.ranges.d2 in
    let fp : FitsSigned w128 c.div_euclid-p.result = record { sfits = c.div_euclid-p.type_inv } in
    let fq : FitsSigned w128 c.div_euclid-q.result = record { sfits = c.div_euclid-q.type_inv } in
    let p = simp to_z-of_z at c.div_euclid-p.ensures in
    let q = simp to_z-of_z at c.div_euclid-q.ensures in
    let e = simp to_z-of_z at c.cmp.ensures in
    e ∙ ap (λ x. int_cmp x c.div_euclid-q.result) p ∙ ap (λ x. int_cmp (int_div_euclid c.args.n1 c.args.d1) x) q ∙
    ratio_apart c.args.n1 c.args.d1 c.args.n2 c.args.d2 c.requires.d1_positive c.requires.d2_positive
    (λ s. c.if-p-q.true (ap (of_z w128) (p ∙ s ∙ sym q)))

-- the quotients are equal
same : (a b : ℤ) → FitsSigned w128 a → FitsSigned w128 b → of_z w128 a ≡ of_z w128 b → a ≡ b
same a b f g e = sym (to_z-of_z w128 a f) ∙ ap (to_z w128) e ∙ to_z-of_z w128 b g

pub returns-then-r-eq0 : goal.returns-then-r-eq0
returns-then-r-eq0 t c =
    let f1 = c.ranges.n1 in
    let f2 = c.ranges.d1 in
    let f3 = c.ranges.n2 in
    let f4 = c.ranges.d2 in
    let fp : FitsSigned w128 c.div_euclid-p.result = record { sfits = c.div_euclid-p.type_inv } in
    let fq : FitsSigned w128 c.div_euclid-q.result = record { sfits = c.div_euclid-q.type_inv } in
    let fr : FitsSigned w128 c.rem_euclid-r.result = record { sfits = c.rem_euclid-r.type_inv } in
    let fs : FitsSigned w128 c.rem_euclid-s.result = record { sfits = c.rem_euclid-s.type_inv } in
    let p = simp to_z-of_z at c.div_euclid-p.ensures in
    let q = simp to_z-of_z at c.div_euclid-q.ensures in
    let r = simp to_z-of_z at c.rem_euclid-r.ensures.value in
    let s = simp to_z-of_z at c.rem_euclid-s.ensures.value in
    let e = simp to_z-of_z at c.cmp-then-r-eq0.ensures in
    let b1 = rem_bounds c.args.n1 c.args.d1 c.requires.d1_positive in
    let b2 = rem_bounds c.args.n2 c.args.d2 c.requires.d2_positive in
    let z : (int_rem_euclid c.args.n1 c.args.d1 ≡ pos 0) ⊎ (int_rem_euclid c.args.n2 c.args.d2 ≡ pos 0) =
    elim c.then-r-eq0.branch [
      | then-r-eq0-via-then-r-eq0 w ↦ inl (sym r ∙ (omega (arith, ints)))
      | then-r-eq0-via-else-r-eq0+then-s-eq0 w ↦ inr (sym s ∙ (omega (arith, ints)))
    ] in
    e ∙ ap (λ x. int_cmp x c.rem_euclid-s.result) r ∙ ap (λ x. int_cmp (int_rem_euclid c.args.n1 c.args.d1) x) s ∙
    ratio_end (int_rem_euclid c.args.n1 c.args.d1) (int_rem_euclid c.args.n2 c.args.d2) c.args.d1 c.args.d2 c.requires.d1_positive c.requires.d2_positive b1.0 b2.0 z ∙
    ratio_same c.args.n1 c.args.d1 c.args.n2 c.args.d2 c.requires.d1_positive c.requires.d2_positive (sym p ∙ same _ _ fp fq c.if-p-q.false ∙ q)

pub ratio_cmp-requires : goal.ratio_cmp-requires
ratio_cmp-requires t c =
    let f1 = c.ranges.n1 in
    let f2 = c.ranges.d1 in
    let f3 = c.ranges.n2 in
    let f4 = c.ranges.d2 in
    (omega (arith, ints), omega (arith, ints))

pub returns : goal.returns
returns t c =
    let f1 = c.ranges.n1 in
    let f2 = c.ranges.d1 in
    let f3 = c.ranges.n2 in
    let f4 = c.ranges.d2 in
    let fp : FitsSigned w128 c.div_euclid-p.result = record { sfits = c.div_euclid-p.type_inv } in
    let fq : FitsSigned w128 c.div_euclid-q.result = record { sfits = c.div_euclid-q.type_inv } in
    let fr : FitsSigned w128 c.rem_euclid-r.result = record { sfits = c.rem_euclid-r.type_inv } in
    let fs : FitsSigned w128 c.rem_euclid-s.result = record { sfits = c.rem_euclid-s.type_inv } in
    let p = simp to_z-of_z at c.div_euclid-p.ensures in
    let q = simp to_z-of_z at c.div_euclid-q.ensures in
    let r = simp to_z-of_z at c.rem_euclid-r.ensures.value in
    let s = simp to_z-of_z at c.rem_euclid-s.ensures.value in
    let e = simp to_z-of_z at c.ratio_cmp.ensures in
    e ∙ ap (λ x. int_cmp (c.args.d2 *ℤ x) (c.args.d1 *ℤ c.rem_euclid-s.result)) r ∙ ap (λ x. int_cmp (c.args.d2 *ℤ int_rem_euclid c.args.n1 c.args.d1) (c.args.d1 *ℤ x)) s ∙
    ratio_same c.args.n1 c.args.d1 c.args.n2 c.args.d2 c.requires.d1_positive c.requires.d2_positive (sym p ∙ same _ _ fp fq c.if-p-q.false ∙ q)
