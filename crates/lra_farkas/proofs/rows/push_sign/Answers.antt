-- Goals of `push_sign`: that a multiplier is not below 0 comes last.
use Rattle.std.proofs.Common.{ap, ◌∙◌, suc, length, List, ℤ}
use Rattle.lra_farkas.specs.Crates.lra_linear_spec.declared.ConKind.TheVariants.{Ge}
use Rattle.lra_farkas.proofs.Crates.lra_linear_spec.UnitRows.{unit_length}
use Rattle.lra_multipliers.proofs.ListedKinds.{kinds_pushed}
use Rattle.lra_farkas.proofs.ListedRows.{sign_pushed}
use Rattle.lra_farkas.proofs.rows.push_sign.Goals as goal

pub push-requires : goal.push-requires
push-requires c = ap (λ (x : List ℤ). length x) c.in_ok-row.ensures ∙ unit_length c.dims.result c.args.column ∙ ap suc c.dims.ensures

pub returns-clause-rows : goal.returns-clause-rows
returns-clause-rows c =
    sign_pushed c.args.rows.now c.push.new.self c.in_ok-row.row c.dims.result c.args.column c.requires.kinds c.in_ok-push.ensures.rows
    c.in_ok-push.ensures.kinds c.in_ok-row.ensures c.dims.ensures

pub returns-clause-kinds : goal.returns-clause-kinds
returns-clause-kinds c =
    kinds_pushed c.args.rows.now c.push.new.self c.in_ok-row.row Ge c.requires.kinds c.in_ok-push.ensures.rows c.in_ok-push.ensures.kinds
