-- Goals of `is_valid`: whether the product of the row with each of these is in the range and as both kinds ask.
use Rattle.std.proofs.{Common.rules, Common.FitsSigned, Common.arith, Common.refl, lemmas.Int.to_z-of_z}
use Rattle.std.specs.Int.{w128}
use Rattle.lra_descriptions.specs.Crates.{lra_linear_spec.Kinds.is_equality, lra_linear_spec.declared.ConKind.TheVariants.Ge}
use Rattle.lra_systems.proofs.FirstMembers.{ok_of}
use Rattle.lra_descriptions.proofs.Validity.{not_accepted, passes_not, refuses, valid_next, valid_all}
use Rattle.lra_descriptions.proofs.lists.is_valid.Goals.{then-not-accepts-via-then-not-accepts, then-not-accepts-via-else-not-accepts+then-not-accepts-2}
use Rattle.lra_descriptions.proofs.lists.is_valid.Goals as goal

pub loop-place-preserved : goal.loop-place-preserved
loop-place-preserved c =
    let fits : FitsSigned w128 c.in-Ok.product = search rules in
    let first = simp to_z-of_z at c.accepts.ensures in
    let second = simp to_z-of_z at c.accepts-else-not-accepts.ensures in
    valid_next is_equality (is_equality c.args.kind) c.args.row.now c.rows-listed.result.now c.kinds-kinds.result.now c.loop-place.place c.args.list.now.rows c.rows-listed.ensures.rows
    c.kinds-kinds.ensures.len (omega (arith, c.loop-place-test.true, c.loop-place.auto.place-end))
    c.index-listed-place.result _ c.in-Ok.product c.index-listed-place.is c.in-Ok.ensures.value (ok_of c.in-Ok.product _ c.in-Ok.ensures.exact)
    (first.0 c.if-not-accepts.false) (second.0 c.if-not-accepts-2.false) c.loop-place.invariant

pub returns : goal.returns
returns c = (
  λ _. valid_all is_equality (is_equality c.args.kind) c.args.row.now c.rows-listed.result.now c.args.list.now.rows c.kinds-kinds.result.now c.args.list.now.kinds c.loop-place.place
      c.rows-listed.ensures.rows c.kinds-kinds.ensures.kinds c.kinds-kinds.ensures.len (omega (arith, c.loop-place-test.false, c.loop-place.auto.place-end)) c.loop-place.invariant,
  λ _. refl,
)

pub returns-then-not-accepts : goal.returns-then-not-accepts
returns-then-not-accepts c =
    let fits : FitsSigned w128 c.in-Ok.product = search rules in
    let first = simp to_z-of_z at c.accepts.ensures in
    let value = c.in-Ok.ensures.value in
    refuses is_equality (is_equality c.args.kind) c.args.row.now c.rows-listed.result.now c.args.list.now.rows c.kinds-kinds.result.now c.args.list.now.kinds c.loop-place.place
    c.index-listed-place.result Ge c.rows-listed.ensures.rows c.kinds-kinds.ensures.kinds c.kinds-kinds.ensures.len c.loop-place-test.true c.index-listed-place.is
    (elim c.then-not-accepts.branch [
      | then-not-accepts-via-then-not-accepts w ↦ λ seen. not_accepted (is_equality c.args.kind) c.accepts.result c.in-Ok.product _ value first w.if-not-accepts.true seen.1
      | then-not-accepts-via-else-not-accepts+then-not-accepts-2 w ↦ λ seen.
          let second = simp to_z-of_z at w.accepts-else-not-accepts.ensures in
          not_accepted _ w.accepts-else-not-accepts.result c.in-Ok.product _ value second w.if-not-accepts-2.true seen.2
    ])

pub returns-in-Err : goal.returns-in-Err
returns-in-Err c =
    refuses is_equality (is_equality c.args.kind) c.args.row.now c.rows-listed.result.now c.args.list.now.rows c.kinds-kinds.result.now c.args.list.now.kinds c.loop-place.place
    c.index-listed-place.result Ge c.rows-listed.ensures.rows c.kinds-kinds.ensures.kinds c.kinds-kinds.ensures.len c.loop-place-test.true c.index-listed-place.is
    (λ seen. passes_not c.in-Err.field-0 _ c.in-Err.ensures.exact seen.0)
