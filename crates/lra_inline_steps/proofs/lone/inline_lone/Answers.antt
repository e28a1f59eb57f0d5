-- Goals of `inline_lone`: a statement without parts, which makes no call.
use Rattle.std.proofs.Common.{ap, ◌∙◌, subst}
use Rattle.lra_program.specs.{Program.nothing, Program.break, Program.continue, Program.assert, Program.assume, ProgramViews.cond_view, ProgramViews.stmt_view}
use Rattle.lra_operations.specs.TreeViews.{node_view}
use Rattle.lra_inline_steps.specs.{Building.StmtStands, Inlining.points_in, Inlining.program_around}
use Rattle.lra_inline_steps.proofs.Handed.{stmt_limit, break_handed, continue_handed, any_handed}
use Rattle.lra_inline_steps.proofs.Shown.{shown_empty, shown_absent, shown_nothing, shown_break, shown_continue, shown_assert, shown_assume}
use Rattle.lra_inline_steps.proofs.{LoneStatements.no_other, Standing.break_stands, Standing.continue_stands, Writing.stmt_as, Writing.absent_written}
use Rattle.lra_inline_steps.proofs.lone.inline_lone.Goals as goal

pub returns-in-Absent-clause-written : goal.returns-in-Absent-clause-written
returns-in-Absent-clause-written c =
    let here = c.args.around.now in
    stmt_as (program_around here) here.path.now here.frame _ _ _ _ _ _ (ap stmt_view c.in-Absent.is ∙ shown_absent) shown_empty (absent_written (program_around here) here.path.now here.frame
    _)

pub returns-in-Nothing-clause-written : goal.returns-in-Nothing-clause-written
returns-in-Nothing-clause-written c =
    let here = c.args.around.now in
    any_handed (program_around here) here.path.now here.frame (points_in c.args.sites.now) c.lone_point.result node_view _ (stmt_view c.args.stmt.now) (nothing c.in-Nothing.label) (ap
    stmt_view c.in-Nothing.is ∙ shown_nothing c.in-Nothing.label) c.lone_point.ensures.written

pub returns-in-Nothing-clause-limit : goal.returns-in-Nothing-clause-limit
returns-in-Nothing-clause-limit c =
    let here = c.args.around.now in
    stmt_limit (program_around here) here.path.now here.frame (points_in c.args.sites.now) c.lone_point.result (stmt_view c.args.stmt.now) (nothing c.in-Nothing.label) (ap stmt_view
    c.in-Nothing.is ∙ shown_nothing c.in-Nothing.label) c.lone_point.ensures.limit

pub leave_loop-requires : goal.leave_loop-requires
leave_loop-requires c =
    let here = c.args.around.now in
    break_stands (program_around here) here.frame c.in-Break.label (subst (StmtStands (program_around here) here.frame) (ap stmt_view c.in-Break.is ∙ shown_break c.in-Break.label)
    c.requires.stands)

pub returns-in-Break-clause-written : goal.returns-in-Break-clause-written
returns-in-Break-clause-written c =
    let here = c.args.around.now in
    break_handed (program_around here) here.path.now here.frame (points_in c.args.sites.now) c.leave_loop.result node_view _ (stmt_view c.args.stmt.now) c.in-Break.label (ap stmt_view
    c.in-Break.is ∙ shown_break c.in-Break.label) c.requires.stands.break_low c.leave_loop.ensures.written

pub returns-in-Break-clause-limit : goal.returns-in-Break-clause-limit
returns-in-Break-clause-limit c =
    let here = c.args.around.now in
    stmt_limit (program_around here) here.path.now here.frame (points_in c.args.sites.now) c.leave_loop.result (stmt_view c.args.stmt.now) (break c.in-Break.label) (ap stmt_view
    c.in-Break.is ∙ shown_break c.in-Break.label) c.leave_loop.ensures.limit

pub leave_loop-requires-in-Continue : goal.leave_loop-requires-in-Continue
leave_loop-requires-in-Continue c =
    let here = c.args.around.now in
    continue_stands (program_around here) here.frame c.in-Continue.label (subst (StmtStands (program_around here) here.frame) (ap stmt_view c.in-Continue.is ∙ shown_continue
    c.in-Continue.label) c.requires.stands)

pub returns-in-Continue-clause-written : goal.returns-in-Continue-clause-written
returns-in-Continue-clause-written c =
    let here = c.args.around.now in
    continue_handed (program_around here) here.path.now here.frame (points_in c.args.sites.now) c.leave_loop-in-Continue.result node_view _ (stmt_view c.args.stmt.now) c.in-Continue.label
    (ap stmt_view c.in-Continue.is ∙ shown_continue c.in-Continue.label) c.requires.stands.continue_low c.leave_loop-in-Continue.ensures.written

pub returns-in-Continue-clause-limit : goal.returns-in-Continue-clause-limit
returns-in-Continue-clause-limit c =
    let here = c.args.around.now in
    stmt_limit (program_around here) here.path.now here.frame (points_in c.args.sites.now) c.leave_loop-in-Continue.result (stmt_view c.args.stmt.now) (continue c.in-Continue.label) (ap
    stmt_view c.in-Continue.is ∙ shown_continue c.in-Continue.label) c.leave_loop-in-Continue.ensures.limit

pub returns-in-Assert-clause-written : goal.returns-in-Assert-clause-written
returns-in-Assert-clause-written c =
    let here = c.args.around.now in
    any_handed (program_around here) here.path.now here.frame (points_in c.args.sites.now) c.inline_assertion.result node_view _ (stmt_view c.args.stmt.now) (assert c.in-Assert.label (cond_view
    c.in-Assert.cond)) (ap stmt_view c.in-Assert.is ∙ shown_assert c.in-Assert.label c.in-Assert.cond) c.inline_assertion.ensures.written

pub returns-in-Assert-clause-limit : goal.returns-in-Assert-clause-limit
returns-in-Assert-clause-limit c =
    let here = c.args.around.now in
    stmt_limit (program_around here) here.path.now here.frame (points_in c.args.sites.now) c.inline_assertion.result (stmt_view c.args.stmt.now) (assert c.in-Assert.label (cond_view
    c.in-Assert.cond)) (ap stmt_view c.in-Assert.is ∙ shown_assert c.in-Assert.label c.in-Assert.cond) c.inline_assertion.ensures.limit

pub returns-in-Assume-clause-written : goal.returns-in-Assume-clause-written
returns-in-Assume-clause-written c =
    let here = c.args.around.now in
    any_handed (program_around here) here.path.now here.frame (points_in c.args.sites.now) c.assumption_of.result node_view _ (stmt_view c.args.stmt.now) (assume c.in-Assume.label (cond_view
    c.in-Assume.cond)) (ap stmt_view c.in-Assume.is ∙ shown_assume c.in-Assume.label c.in-Assume.cond) c.assumption_of.ensures.written

pub returns-in-Assume-clause-limit : goal.returns-in-Assume-clause-limit
returns-in-Assume-clause-limit c =
    let here = c.args.around.now in
    stmt_limit (program_around here) here.path.now here.frame (points_in c.args.sites.now) c.assumption_of.result (stmt_view c.args.stmt.now) (assume c.in-Assume.label (cond_view
    c.in-Assume.cond)) (ap stmt_view c.in-Assume.is ∙ shown_assume c.in-Assume.label c.in-Assume.cond) c.assumption_of.ensures.limit

pub unreachable-requires : goal.unreachable-requires
unreachable-requires c =
    no_other c.args.stmt.now c.requires.lone c.in_default.not-Absent c.in_default.not-Nothing c.in_default.not-Break c.in_default.not-Continue c.in_default.not-Assert c.in_default.not-Assume

pub unreachable-unreachable : goal.unreachable-unreachable
unreachable-unreachable c =
    no_other c.args.stmt.now c.requires.lone c.in_default.not-Absent c.in_default.not-Nothing c.in_default.not-Break c.in_default.not-Continue c.in_default.not-Assert c.in_default.not-Assume
