-- Goals of `valid_rows`: those of the rows that are valid on each of the list.
use Rattle.std.proofs.Common.{refl, suc}
use Rattle.lra_systems.specs.LinearSystems.{constraints}
use Rattle.lra_descriptions.specs.Crates.lra_linear_spec.Kinds.{is_equality}
use Rattle.lra_descriptions.proofs.Validity.{kept_widths, seen_all, seen_kept, not_told, seen_passed}
use Rattle.lra_descriptions.proofs.lists.valid_rows.Goals.{then-is_valid+in_ok-copy+in_ok-push, else-is_valid}
use Rattle.lra_descriptions.proofs.lists.valid_rows.Goals as goal

pub loop-row-preserved : goal.loop-row-preserved
loop-row-preserved c =
    let e = is_equality c.args.kind in
    let list = constraints c.args.list.now in
    let rows = c.args.rows.now in
    elim c.if-is_valid.branch [
      | then-is_valid+in_ok-copy+in_ok-push w ↦ rw w.valid-is (seen_kept e list rows c.loop-row.valid.items w.push.new.self.items c.loop-row.row-index c.row-item.result w.in_ok-copy.field-0
          c.loop-row-test.true c.row-item.is (c.is_valid.ensures.0 w.if-is_valid.true) w.in_ok-copy.ensures w.in_ok-push.ensures.items c.loop-row.invariant)
      | else-is_valid w ↦ rw w.valid-is (seen_passed e list rows c.loop-row.valid.items c.loop-row.valid.items c.loop-row.row-index c.row-item.result c.loop-row-test.true c.row-item.is
          (λ seen. not_told c.is_valid.result w.if-is_valid.false (c.is_valid.ensures.1 seen)) refl c.loop-row.invariant)
    ]

pub returns-clause-valid : goal.returns-clause-valid
returns-clause-valid c =
    seen_all (is_equality c.args.kind) (constraints c.args.list.now) c.args.rows.now c.loop-row.valid.items c.loop-row.row-index c.loop-row-test.false c.loop-row.invariant

pub returns-clause-widths : goal.returns-clause-widths
returns-clause-widths c =
    kept_widths (suc c.args.list.now.dims) (is_equality c.args.kind) (constraints c.args.list.now) c.args.rows.now c.loop-row.valid.items c.requires
    (seen_all (is_equality c.args.kind) (constraints c.args.list.now) c.args.rows.now c.loop-row.valid.items c.loop-row.row-index c.loop-row-test.false c.loop-row.invariant)
