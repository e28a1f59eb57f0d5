-- Goals of `reply`: whether each row holds with the generator.
use Rattle.std.proofs.{Common.rules, Common.arith, Common.refl, Common.FitsSigned, lemmas.Int.to_z-of_z}
use Rattle.std.specs.Int.{w128}
use Rattle.lra_duality.specs.Crates.{lra_linear_spec.Descriptions.LinearRow, lra_linear_spec.Kinds.is_equality, lra_linear_spec.declared.ConKind.TheVariants.Ge}
use Rattle.lra_duality.specs.Inclusions.{Satisfies, Violates, Passes}
use Rattle.lra_duality.proofs.Crates.lra_systems.FirstMembers.{member, first_at, one_more, all_gone_through, ok_of, err_of}
use Rattle.lra_duality.proofs.inclusion.reply.Goals as goal

pub returns-then-not-accepts : goal.returns-then-not-accepts
returns-then-not-accepts c =
    let fp : FitsSigned w128 c.in-Ok.product = search rules in
    let g : LinearRow = record { row = c.args.generator.now; equal = c.args.line } in
    let said = simp to_z-of_z at c.if-not-accepts.ensures in
    first_at (Satisfies g) (Violates g) is_equality c.args.rows.now c.args.kinds.now c.loop-place.place c.index-rows-place.result Ge c.requires.kinds c.loop-place-test.true c.index-rows-place.is
    c.loop-place.invariant (
      ok_of c.in-Ok.product _ c.in-Ok.ensures.exact,
      said (member is_equality c.args.kinds.now c.loop-place.place c.index-rows-place.result Ge) g refl refl c.in-Ok.ensures.value,
    )

pub returns-in-Err : goal.returns-in-Err
returns-in-Err c =
    let g : LinearRow = record { row = c.args.generator.now; equal = c.args.line } in
    first_at (Satisfies g) (Passes g) is_equality c.args.rows.now c.args.kinds.now c.loop-place.place c.index-rows-place.result Ge c.requires.kinds c.loop-place-test.true c.index-rows-place.is
    c.loop-place.invariant (err_of c.in-Err.field-0 _ c.in-Err.ensures.exact)

pub loop-place-preserved : goal.loop-place-preserved
loop-place-preserved c =
    let fp : FitsSigned w128 c.in-Ok.product = search rules in
    let g : LinearRow = record { row = c.args.generator.now; equal = c.args.line } in
    let said = simp to_z-of_z at c.if-not-accepts.ensures in
    one_more (Satisfies g) is_equality c.args.rows.now c.args.kinds.now c.loop-place.place c.index-rows-place.result Ge c.requires.kinds c.loop-place-test.true c.index-rows-place.is
    c.loop-place.invariant (
      ok_of c.in-Ok.product _ c.in-Ok.ensures.exact,
      said (member is_equality c.args.kinds.now c.loop-place.place c.index-rows-place.result Ge) g refl refl c.in-Ok.ensures.value,
    )

pub returns : goal.returns
returns c =
    let g : LinearRow = record { row = c.args.generator.now; equal = c.args.line } in
    all_gone_through (Satisfies g) is_equality c.args.rows.now c.args.kinds.now c.loop-place.place c.requires.kinds (omega arith) c.loop-place.invariant
