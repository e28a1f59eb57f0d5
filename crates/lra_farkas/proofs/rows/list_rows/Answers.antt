-- Goals of `list_rows`: the rows of the polyhedron of all multipliers.
use Rattle.std.proofs.Common.{◌≡◌, ◌+◌, suc, length, refl, sym, ◌∙◌, arith}
use Rattle.lra_farkas.specs.Crates.lra_linear_spec.Kinds.{is_equality}
use Rattle.lra_systems.specs.LinearSystems.{constraints}
use Rattle.lra_farkas.proofs.Crates.lra_duality.SaturationLemmas.{given_length}
use Rattle.lra_farkas.proofs.ListedRows.{rows_listed}
use Rattle.lra_farkas.proofs.rows.list_rows.Goals as goal

pub push_balances-requires-clause-widths : goal.push_balances-requires-clause-widths
push_balances-requires-clause-widths c = λ k d h. c.rows.ensures.widths k d h ∙ sym c.requires.width

pub returns-clause-dims : goal.returns-clause-dims
returns-clause-dims c =
    let premises = c.args.premises.now in
    let count = c.len-count.ensures.rows in
    let many = given_length is_equality premises.rows premises.kinds (sym c.len-count.ensures.kinds ∙ count) in
    let all : c.len-count.result + 1 ≡ suc (length (constraints premises)) = omega (arith, many, count) in
    c.in_ok-push_signs.ensures.dims ∙ c.in_ok-push_sign.ensures.dims ∙ c.in_ok-push_balances.ensures.dims ∙ c.new-rows.ensures.dims ∙ all

pub returns-clause-rows : goal.returns-clause-rows
returns-clause-rows c =
    let premises = c.args.premises.now in
    let count = c.len-count.ensures.rows in
    let kinds = sym c.len-count.ensures.kinds ∙ count in
    let many = given_length is_equality premises.rows premises.kinds kinds in
    let all : c.len-count.result + 1 ≡ suc (length (constraints premises)) = omega (arith, many, count) in
    rows_listed premises c.new-rows.result c.push_balances.new.rows c.push_sign.new.rows c.push_signs.new.rows c.rows.result.now c.kinds.result.now
    c.args.claim.now (length c.args.claim.now) c.new-rows.ensures.rows c.in_ok-push_balances.ensures.rows c.in_ok-push_sign.ensures.rows
    c.in_ok-push_signs.ensures.rows c.rows.ensures.rows c.kinds.ensures.kinds kinds (c.in_ok-push_balances.ensures.dims ∙ c.new-rows.ensures.dims ∙ all)
    c.in_ok-push_sign.ensures.dims refl
