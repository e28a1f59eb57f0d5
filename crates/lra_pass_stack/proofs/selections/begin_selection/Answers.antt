-- Goals of `begin_selection`: what is seen of the value, and what no label matches.
use Rattle.std.proofs.Common.{◌≡◌, ◌∙◌, ap, arith, map, refl}
use Rattle.lra_operations.specs.TreeViews.{arm_view, arms_of}
use Rattle.lra_pass_stack.specs.Crates.{lra_analysis_spec.Linearization.linearized, lra_program.ProgramViews.expr_view}
use Rattle.lra_pass_stack.specs.declared.stack.Selecting.{Selecting}
use Rattle.lra_pass_stack.proofs.SelectFrames.{begun_selecting, seen_wide, selection_begins}
use Rattle.lra_pass_stack.proofs.selections.begin_selection.Goals as goal

pub linearize-requires : goal.linearize-requires
linearize-requires g c =
    let few = c.requires in
    let same = c.dims.ensures in
    omega (arith, few, same)

pub match_none-requires-clause-width : goal.match_none-requires-clause-width
match_none-requires-clause-width g c =
    seen_wide g.D.Domain.abstraction c.in_ok-seen.seen c.args.value c.args.value c.dims.result c.args.selection.base
    (expr_view c.args.selection.value.now) c.in_ok-seen.ensures c.dims.ensures refl

pub returns : goal.returns
returns g c others set whole plan is first flagged may =
    let o = g.F.Interfere.interference others in
    let m = g.D.Domain.abstraction in
    let base = c.args.selection.base in
    let e = expr_view c.args.selection.value.now in
    let none = c.in_ok-none.none in
    let s : Selecting g.row.D.Denot = record {
      selection = c.args.selection;
      seen = c.in_ok-seen.seen;
      has_default = c.any_default.result;
      from = c.args.value;
      other = none.value;
    } in
    let begun = c.nothing.ensures in
    let same : c.in_ok-seen.seen ≡ linearized (m.dims c.args.value) base e = c.in_ok-seen.ensures ∙ ap (λ n. linearized n base e) c.dims.ensures in (
      begun_selecting o m set s whole c.args.value c.dims.result plan refl first c.in_ok-seen.ensures c.dims.ensures,
      selection_begins o m set s whole (arms_of (map arm_view c.args.selection.arms.now)) c.args.value c.args.flag none.exactness c.nothing.result is
          first flagged may (c.in_ok-none.ensures.leaves base e same) c.in_ok-none.ensures.dims c.any_default.ensures begun.found begun.normal
          (begun.flag ∙ c.note-flagged.ensures),
    )
