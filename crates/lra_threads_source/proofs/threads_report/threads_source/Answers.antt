-- Goals of `threads_source`: what is found of the threads of a source.
use Rattle.std.proofs.Common.{◌∙◌, ℕ, ℤ, List, ap₂, subst}
use Rattle.std.specs.List.{AllZip}
use Rattle.lra_threads_source.specs.Crates.{lra_analysis_spec.Plan.plan_of, lra_front_end.ThreadsStages.IsThreadInlined, lra_options.declared.options.Options.Options, lra_syntax.Views.tree_view}
use Rattle.lra_threads_source.proofs.threads_report.threads_source.Goals as goal

pub report_threads-requires-clause-planned : goal.report_threads-requires-clause-planned
report_threads-requires-clause-planned c =
    c.in_ok-plan.ensures ∙ ap₂ (λ (o : Options) (cs : List ℤ). plan_of o cs) c.threads_options.ensures c.deref.ensures.value

pub report_threads-requires-clause-read : goal.report_threads-requires-clause-read
report_threads-requires-clause-read c = (
  c.args.bytes.now,
  record {
    accepted = c.in_ok-front.ensures.accepted;
    constants = c.in_ok-front.ensures.constants;
    program = c.in_ok-front.ensures.program;
    labels = c.in_ok-front.ensures.labels;
    graphs = subst (λ (ps : List ℕ). AllZip (IsThreadInlined (tree_view c.in_ok-front.front.tree)) ps c.in_ok-front.front.graphs.items)
        c.in_ok-front.ensures.threads c.in_ok-front.ensures.graphs;
  },
)

pub returns-clause-answered : goal.returns-clause-answered
returns-clause-answered c =
    c.in_ok-report.ensures c.args.bytes.now (record {
      accepted = c.in_ok-front.ensures.accepted;
      constants = c.in_ok-front.ensures.constants;
      program = c.in_ok-front.ensures.program;
      labels = c.in_ok-front.ensures.labels;
      graphs = subst (λ (ps : List ℕ). AllZip (IsThreadInlined (tree_view c.in_ok-front.front.tree)) ps c.in_ok-front.front.graphs.items)
          c.in_ok-front.ensures.threads c.in_ok-front.ensures.graphs;
    })
