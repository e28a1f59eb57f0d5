-- Goals of `push_signs`: that the multipliers of inequalities are not below 0 comes last.
use Rattle.std.proofs.Common.{ap, sym, ◌∙◌, ℕ, ◌+◌, ◌++◌, ◌∷◌, [], map, arith}
use Rattle.lra_systems.specs.LinearSystems.{constraints}
use Rattle.lra_farkas.specs.{MultiplierRows.sign_row, RowsByKinds.columns_by_kinds}
use Rattle.lra_farkas.proofs.{ListedRows.signs_more, ListedRows.signs_not, ListedRows.signs_end, rows.push_signs.Goals.then-not-is_equality+in_ok-push_sign, rows.push_signs.Goals.else-not-is_equality}
use Rattle.lra_farkas.proofs.rows.push_signs.Goals as goal

pub loop-place-preserved : goal.loop-place-preserved
loop-place-preserved c =
    let dims = c.args.rows.now.dims in
    let kinds = c.args.kinds.now in
    let place = c.loop-place.place in
    let all = constraints c.args.rows.now ++ map (sign_row dims) (columns_by_kinds 2 kinds) in
    elim c.if-not-is_equality.branch [
      | then-not-is_equality+in_ok-push_sign w ↦ rw w.rows-is (record {
        so_far = signs_more dims place kinds (constraints c.loop-place.rows) (constraints w.push_sign.new.rows) all c.loop-place-test.true
            (sym c.is_equality.ensures ∙ w.if-not-is_equality.true)
            (w.in_ok-push_sign.ensures.rows ∙ ap (λ (n : ℕ). constraints c.loop-place.rows ++ sign_row n (place + 2) ∷ []) c.loop-place.invariant.dims)
            c.loop-place.invariant.so_far;
        dims = w.in_ok-push_sign.ensures.dims ∙ c.loop-place.invariant.dims;
        kinds = w.in_ok-push_sign.ensures.kinds;
      })
      | else-not-is_equality w ↦ rw w.rows-is (record {
        so_far = signs_not dims place kinds (constraints c.loop-place.rows) all c.loop-place-test.true
            (sym c.is_equality.ensures ∙ w.if-not-is_equality.false) c.loop-place.invariant.so_far;
        dims = c.loop-place.invariant.dims;
        kinds = c.loop-place.invariant.kinds;
      })
    ]

pub returns-clause-rows : goal.returns-clause-rows
returns-clause-rows c =
    sym (signs_end c.args.rows.now.dims c.loop-place.place c.args.kinds.now (constraints c.loop-place.rows) (omega (arith, c.loop-place-test.false))) ∙
    c.loop-place.invariant.so_far
