-- Goals of `build_thread`: the program's points after others, and its own tree.
use Rattle.std.proofs.{Common.◌≡◌, Common.◌++◌, Common.List, Common.map, Common.length, Common.Some, Common.None, Common.sym, Common.◌∙◌, Common.arith, lemmas.Option.none-some}
use Rattle.lra_inline.specs.Crates.{lra_resolution_spec.Refuse.limit_fault, lra_syntax.Labels.Labelled}
use Rattle.lra_program.specs.{ProgramViews.program_view, Sites.events_of, Sites.sites_of}
use Rattle.lra_operations.specs.{Agree.IsInlinedTree, TreeViews.node_view, TreeViews.site_view}
use Rattle.lra_inline_steps.specs.Limits.{add_points, stopped, refusal_of}
use Rattle.std.proofs.lemmas.Result.{IfOk-weaker}
use Rattle.lra_inline_steps.proofs.Stopping.{err_stopped, limit_through}
use Rattle.lra_inline.proofs.Totals.{walk_sites, made_within, made_refused, fewer_within}
use Rattle.lra_inline.proofs.inlining.whole.build_thread.Goals as goal

pub returns-in_err-write_program-clause-limit : goal.returns-in_err-write_program-clause-limit
returns-in_err-write_program-clause-limit c =
    let P = program_view c.args.program.now in
    let S = map site_view c.args.before.now.items in
    err_stopped c.from_residual.result _ (λ x. add_points S (events_of P) ≡ stopped x)
    (λ x. (ls : List Labelled) → limit_fault ls (length S) (events_of P) ≡ Some (refusal_of ls x)) c.from_residual.ensures.1
    (λ x e ls. made_refused P S x ls e) c.in_err-write_program.ensures.limit

pub returns-clause-behind : goal.returns-clause-behind
returns-clause-behind c =
    let P = program_view c.args.program.now in
    let S = map site_view c.args.before.now.items in
    let U = map site_view c.write_program.new.sites.items in
    IfOk-weaker c.build.result (λ g. IsInlinedTree P (node_view g.tree)) (λ _. U ≡ S ++ sites_of P)
    (λ g h. walk_sites S (events_of P) U c.in_ok-write_program.ensures.walked) c.build.ensures.graph

pub returns-clause-within : goal.returns-clause-within
returns-clause-within c =
    let P = program_view c.args.program.now in
    let S = map site_view c.args.before.now.items in
    IfOk-weaker c.build.result (λ g. IsInlinedTree P (node_view g.tree)) (λ _. (ls : List Labelled) → limit_fault ls (length S) (events_of P) ≡ None)
    (λ g h. made_within P S (map site_view c.write_program.new.sites.items) c.in_ok-write_program.ensures.walked) c.build.ensures.graph

-- alone it passes no limit that it doesn't pass after others
pub returns-clause-limit : goal.returns-clause-limit
returns-clause-limit c =
    let P = program_view c.args.program.now in
    let S = map site_view c.args.before.now.items in
    limit_through c.build.result (λ x. (ls : List Labelled) → limit_fault ls 0 (events_of P) ≡ Some (refusal_of ls x))
    (λ x. (ls : List Labelled) → limit_fault ls (length S) (events_of P) ≡ Some (refusal_of ls x))
    (λ x h ls. absurd (none-some _ (sym (fewer_within ls 0 (length S) (events_of P) (omega arith)
    (made_within P S (map site_view c.write_program.new.sites.items) c.in_ok-write_program.ensures.walked ls)) ∙ h ls))) c.build.ensures.limit
