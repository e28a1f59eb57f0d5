-- Goals of `Conversion::take_row`: takes a row in, or leaves it out if it exceeds a limit of the cone.
use Rattle.std.proofs.Common.{length, ◌∙◌, ap, sym, subst}
use Rattle.lra_cone.specs.Crates.{lra_linear_spec.Descriptions.LinearRow, lra_linear_spec.Kinds.is_equality}
use Rattle.lra_systems.specs.LinearSystems.{constraints}
use Rattle.lra_cone.specs.Strains.{IsConeError}
use Rattle.lra_cone.proofs.RowsTaken.{conversion_more, conversion_left_out}
use Rattle.lra_systems.proofs.LinearRows.{constraints_pushed}
use Rattle.lra_cone.proofs.conversions.Conversion.take_row.Goals as goal

pub returns-in_ok-push_copy-in-Ok-clause-taken : goal.returns-in_ok-push_copy-in-Ok-clause-taken
returns-in_ok-push_copy-in-Ok-clause-taken c = λ first all x.
    let old = c.args.self.now in
    let g : LinearRow = record { row = c.args.row.now; equal = is_equality c.args.kind } in
    conversion_more first all (constraints old.kept) old.cone c.add_row.new.self old.losses.items (constraints c.push_copy.new.self) g c.in-Ok.ensures.dims c.in-Ok.ensures.taken
    (constraints_pushed old.kept c.push_copy.new.self c.args.row.now c.args.kind
    (sym (ap length c.kinds-kinds.ensures.kinds) ∙ c.kinds-kinds.ensures.len) c.in_ok-push_copy-in-Ok.ensures.rows c.in_ok-push_copy-in-Ok.ensures.kinds) x

pub returns-in_ok-push-in-Err-Strained-clause-taken :
    goal.returns-in_ok-push-in-Err-Strained-clause-taken
returns-in_ok-push-in-Err-Strained-clause-taken c = λ first all x.
    let old = c.args.self.now in
    let g : LinearRow = record { row = c.args.row.now; equal = is_equality c.args.kind } in
    conversion_left_out first all (constraints old.kept) old.cone c.add_row.new.self old.losses.items c.push.new.self.items c.in_ok-loss-in-Err-Strained.loss g
    c.in-Err-Strained.strained _ (constraints c.taken.result.now) c.taken.ensures.cone c.in-Err-Strained.ensures.unchanged c.taken.ensures.taken c.in_ok-loss-in-Err-Strained.ensures
    c.cause.ensures c.in_ok-push-in-Err-Strained.ensures.items
    (subst (IsConeError old.cone g.equal g.row) c.in-Err-Strained.field-0-is c.in-Err-Strained.ensures.strained) x
