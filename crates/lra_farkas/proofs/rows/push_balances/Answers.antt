-- Goals of `push_balances`: the equalities of all columns come last.
use Rattle.std.proofs.Common.{ap, sym, ◌∙◌, arith, suc, ℕ, ◌++◌, map}
use Rattle.std.specs.List.{range_with_len}
use Rattle.lra_farkas.specs.Crates.{lra_linear_spec.Descriptions.equality, lra_linear_spec.declared.ConKind.TheVariants.Eq}
use Rattle.lra_systems.specs.LinearSystems.{constraints}
use Rattle.lra_farkas.specs.MultiplierRows.{balance_row}
use Rattle.lra_multipliers.proofs.ListedKinds.{kinds_pushed}
use Rattle.lra_farkas.proofs.ListedRows.{balances_more, balance_width}
use Rattle.lra_farkas.proofs.rows.push_balances.Goals as goal

pub loop-column-preserved : goal.loop-column-preserved
loop-column-preserved c = record {
  so_far = balances_more c.args.premises.now c.args.claim.now c.in_ok-row.row c.args.rows.now c.loop-column.rows c.push.new.self c.loop-column.column
      c.loop-column.invariant.kinds c.in_ok-push.ensures.rows c.in_ok-push.ensures.kinds c.in_ok-row.ensures c.loop-column.invariant.so_far;
  dims = c.push.ensures.dims ∙ c.loop-column.invariant.dims;
  kinds = kinds_pushed c.loop-column.rows c.push.new.self c.in_ok-row.row Eq c.loop-column.invariant.kinds c.in_ok-push.ensures.rows
      c.in_ok-push.ensures.kinds;
}

pub push-requires : goal.push-requires
push-requires c =
    balance_width c.args.premises.now c.args.claim.now c.in_ok-row.row c.loop-column.column c.in_ok-row.ensures ∙
    ap suc (sym (c.loop-column.invariant.dims ∙ c.requires.dims))

pub balance-requires-clause-widths : goal.balance-requires-clause-widths
balance-requires-clause-widths c = λ k d h.
    let w = c.requires.widths k d h in
    let less = c.loop-column-test.true in
    let end = c.width-column-end.ensures in
    omega (arith, w, less, end)

pub returns-clause-rows : goal.returns-clause-rows
returns-clause-rows c =
    let last = c.width-column-end.ensures in
    let past = c.loop-column-test.false in
    let before = c.loop-column.auto.column-end in
    c.loop-column.invariant.so_far ∙
    ap (λ (n : ℕ). constraints c.args.rows.now ++ map (λ j. equality (balance_row c.args.premises.now c.args.claim.now j)) (range_with_len 0 n))
    (omega (arith, last, past, before))
