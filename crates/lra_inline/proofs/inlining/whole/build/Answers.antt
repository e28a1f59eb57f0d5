-- Goals of `build`: a program that is written out with no points before it has its own tree and its own points.
use Rattle.std.proofs.Common.{◌≡◌, List, map, length, Some, None, ap, subst}
use Rattle.lra_inline.specs.Crates.{lra_resolution_spec.Refuse.limit_fault, lra_syntax.Labels.Labelled}
use Rattle.lra_program.specs.{ProgramViews.program_view, Sites.events_of}
use Rattle.lra_operations.specs.TreeViews.{node_view, site_view}
use Rattle.lra_inline.proofs.Crates.{lra_inline_sound.Agreement.trees_agree, lra_inline_sound.CheckedOperations.trees_agree_on_accesses, lra_inline_sound.DistinctSites.distinct_sites}
use Rattle.lra_inline_steps.specs.Limits.{add_points, stopped, refusal_of}
use Rattle.lra_inline_steps.proofs.Stopping.{err_stopped}
use Rattle.lra_inline.proofs.Totals.{made_sites, made_few, made_within, made_refused}
use Rattle.lra_inline.proofs.inlining.whole.build.Goals as goal

pub returns-in_err-tree-clause-limit : goal.returns-in_err-tree-clause-limit
returns-in_err-tree-clause-limit c =
    let P = program_view c.args.program.now in
    let S = map site_view c.new-sites.result.items in
    err_stopped c.from_residual.result _ (λ x. add_points S (events_of P) ≡ stopped x)
    (λ x. (ls : List Labelled) → limit_fault ls 0 (events_of P) ≡ Some (refusal_of ls x)) c.from_residual.ensures.1
    (λ x e ls. subst (λ n. limit_fault ls n (events_of P) ≡ Some (refusal_of ls x)) (ap (λ z. length (map site_view z)) c.new-sites.ensures.items)
    (made_refused P S x ls e)) c.in_err-tree.ensures.limit

pub returns-clause-graph : goal.returns-clause-graph
returns-clause-graph c = c.in_ok-tree.ensures.graph (ap (λ z. map site_view z) c.new-sites.ensures.items)

pub returns-clause-agrees : goal.returns-clause-agrees
returns-clause-agrees c =
    let P = program_view c.args.program.now in
    trees_agree P (node_view c.in_ok-tree.tree) (distinct_sites P c.requires) (returns-clause-graph c)

pub returns-clause-accesses : goal.returns-clause-accesses
returns-clause-accesses c =
    let P = program_view c.args.program.now in
    trees_agree_on_accesses P (node_view c.in_ok-tree.tree) (distinct_sites P c.requires) (returns-clause-graph c)

pub returns-clause-sites : goal.returns-clause-sites
returns-clause-sites c =
    made_sites (program_view c.args.program.now) (map site_view c.new-sites.result.items) (map site_view c.write_program.new.sites.items)
    c.in_ok-tree.ensures.walked (ap (λ z. map site_view z) c.new-sites.ensures.items)

pub returns-clause-few : goal.returns-clause-few
returns-clause-few c =
    made_few (program_view c.args.program.now) (map site_view c.new-sites.result.items) (map site_view c.write_program.new.sites.items)
    c.in_ok-tree.ensures.walked

pub returns-clause-within : goal.returns-clause-within
returns-clause-within c = λ ls.
    let P = program_view c.args.program.now in
    subst (λ n. limit_fault ls n (events_of P) ≡ None) (ap (λ z. length (map site_view z)) c.new-sites.ensures.items)
    (made_within P (map site_view c.new-sites.result.items) (map site_view c.write_program.new.sites.items) c.in_ok-tree.ensures.walked ls)
