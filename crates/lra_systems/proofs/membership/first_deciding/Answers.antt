-- Goals of `first_deciding`.
use Rattle.std.proofs.{Common.rules, Common.arith, Common.FitsSigned, Common.◌∷◌, Common.refl, lemmas.Int.to_z-of_z}
use Rattle.std.specs.Int.{w128}
use Rattle.lra_linear_spec.specs.{Kinds.is_equality, declared.ConKind.TheVariants.Ge}
use Rattle.lra_systems.specs.Membership.{HoldsInRange, FailsInRange, IsWide}
use Rattle.lra_systems.proofs.{FirstMembers.member, FirstMembers.first_at, FirstMembers.one_more, FirstMembers.all_gone_through, FirstMembers.err_of, Places.holds_here, Places.fails_here}
use Rattle.lra_systems.proofs.membership.first_deciding.Goals as goal

pub returns-in-Err : goal.returns-in-Err
returns-in-Err c =
    let fd = c.ranges.den in
    let x = c.args.den ∷ c.args.num.now in
    first_at (HoldsInRange x) (IsWide x) is_equality c.args.rows.now c.args.kinds.now c.loop-place.place c.index-rows-place.result Ge c.requires.kinds c.loop-place-test.true c.index-rows-place.is
    (simp to_z-of_z at c.loop-place.invariant) (err_of c.in-Err.field-0 _ (simp to_z-of_z at c.in-Err.ensures.exact))

pub returns-then-not-accepts : goal.returns-then-not-accepts
returns-then-not-accepts c =
    let fd = c.ranges.den in
    let fp : FitsSigned w128 c.in-Ok.product = search rules in
    let x = c.args.den ∷ c.args.num.now in
    let a = simp to_z-of_z at c.if-not-accepts.ensures in
    first_at (HoldsInRange x) (FailsInRange x) is_equality c.args.rows.now c.args.kinds.now c.loop-place.place c.index-rows-place.result Ge c.requires.kinds c.loop-place-test.true
    c.index-rows-place.is
    (simp to_z-of_z at c.loop-place.invariant)
    (fails_here (member is_equality c.args.kinds.now c.loop-place.place c.index-rows-place.result Ge) x c.in-Ok.product
    (simp to_z-of_z at c.in-Ok.ensures.exact) (simp to_z-of_z at c.in-Ok.ensures.value) (λ h. let t = a.1 h in cc))

pub loop-place-preserved : goal.loop-place-preserved
loop-place-preserved c =
    let fd = c.ranges.den in
    let fp : FitsSigned w128 c.in-Ok.product = search rules in
    let x = c.args.den ∷ c.args.num.now in
    let a = simp to_z-of_z at c.if-not-accepts.ensures in
    simp to_z-of_z
    (one_more (HoldsInRange x) is_equality c.args.rows.now c.args.kinds.now c.loop-place.place c.index-rows-place.result Ge c.requires.kinds c.loop-place-test.true c.index-rows-place.is
    (simp to_z-of_z at c.loop-place.invariant)
    (holds_here (member is_equality c.args.kinds.now c.loop-place.place c.index-rows-place.result Ge) x c.in-Ok.product
    (simp to_z-of_z at c.in-Ok.ensures.exact) (simp to_z-of_z at c.in-Ok.ensures.value) (a.0 refl)))

pub returns : goal.returns
returns c =
    let fd = c.ranges.den in
    let x = c.args.den ∷ c.args.num.now in
    all_gone_through (HoldsInRange x) is_equality c.args.rows.now c.args.kinds.now c.loop-place.place c.requires.kinds (omega arith) (simp to_z-of_z at c.loop-place.invariant)
