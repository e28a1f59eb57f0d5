-- Goals of `end_callee`: the call after its callee's body, on the caller's path.
use Rattle.std.proofs.Common.{◌∷◌, ap, sym, ◌∙◌}
use Rattle.lra_program.specs.ProgramViews.{program_view}
use Rattle.lra_operations.specs.TreeViews.{node_view}
use Rattle.lra_inline_steps.specs.{Inlining.points_in, Stack.Stops}
use Rattle.lra_inline_steps.proofs.{OpenFrames.callee_few, OpenFrames.callee_stands, OpenFrames.callee_within, OpenFrames.callee_closes, OpenFrames.callee_stops, Stopping.err_stopped}
use Rattle.lra_inline.proofs.inlining.going_on.end_callee.Goals as goal

pub end_call-requires : goal.end_call-requires
end_call-requires c =
    let P = program_view c.args.source.program.now in
    let whole = c.requires.0 in
    let under = c.requires.1 in
    let o = c.requires.2.0 in
    let w = c.requires.2.1 in
    record {
      few = callee_few P whole under c.args.frame c.args.path.now c.args.body.live (points_in c.args.sites.now) c.args.from (node_view c.args.body.node) o w;
      stands = callee_stands P whole under c.args.frame c.args.path.now c.args.body.live (points_in c.args.sites.now) c.args.from (node_view c.args.body.node) o w;
      within = c.replace-inside.ensures.value ∙ callee_within P whole under c.args.frame c.args.path.now c.args.body.live (points_in c.args.sites.now) c.args.from (node_view
          c.args.body.node) o w c.requires.2.2
          ∙ ap (λ z. c.args.from.call.now.label ∷ z) (sym c.replace-inside.ensures.after);
    }

pub returns-in_err-node-clause-limit : goal.returns-in_err-node-clause-limit
returns-in_err-node-clause-limit c = λ whole under b.
    let P = program_view c.args.source.program.now in
    err_stopped c.from_residual.result _ _ (Stops P whole) c.from_residual.ensures.1 (λ l h. callee_stops P whole under c.args.frame c.args.path.now c.args.body.live (points_in
    c.args.sites.now) c.args.from (node_view c.args.body.node) b.0 b.1 l h)
    (rw c.replace-inside.ensures.after at c.in_err-node.ensures.limit)

pub returns-clause-leads : goal.returns-clause-leads
returns-clause-leads c = λ whole under b.
    let P = program_view c.args.source.program.now in
    callee_closes P whole under c.args.frame c.args.path.now c.args.body.live (points_in c.args.sites.now) c.args.from (node_view c.args.body.node) b.0 b.1 c.in_ok-node.node
    c.replace-inside.new.dest (points_in c.end_call.new.sites) c.replace-inside.ensures.after
    (rw c.replace-inside.ensures.after at c.in_ok-node.ensures.written)
