-- Goals of `certify_solution`: the lines after the source, by what the iteration found of its program.
use Rattle.std.proofs.{Common.◌≡◌, Common.◌∙◌, Common.List, Common.length, Common.map, Common.ap, Common.subst, lemmas.List.length-map}
use Rattle.lra_certify_source.specs.Crates.lra_linear_spec.Polyhedra.{Polyhedron, IsPolyhedron}
use Rattle.lra_certify_source.specs.Crates.{lra_operations.TreeViews.node_view, lra_operations.TreeViews.site_view, lra_program.ProgramViews.program_view, lra_program.Sites.sites_of}
use Rattle.lra_certify_source.specs.Crates.{lra_resolution_spec.Resolve.resolve, lra_syntax.Views.tree_view, lra_verify.PointViews.state_view}
use Rattle.std.specs.List.{AllByRecursion}
use Rattle.lra_certify_source.specs.Extraction.{state_by, dims_by, proved_in}
use Rattle.lra_certify.specs.{Certified.AreListable, InductiveRows.AreInductiveRows}
use Rattle.lra_certify_source.proofs.Answered.{live_small, many_small, sites_are, states_many, listed, stay, have_dims, asked_so, written_so, failed_so, few_so}
use Rattle.lra_certify_source.proofs.certify_report.certify_solution.Goals as goal

pub certify-requires-clause-sites : goal.certify-requires-clause-sites
certify-requires-clause-sites c =
    sites_are (tree_view c.args.front.now.tree) (node_view c.args.front.now.graph.tree) (map site_view c.args.front.now.graph.sites.items)
    (program_view c.args.front.now.resolution.program) c.requires.graph c.requires.program

pub certify-requires-clause-many : goal.certify-requires-clause-many
certify-requires-clause-many c = many_small (tree_view c.args.front.now.tree) (node_view c.args.front.now.graph.tree) c.args.front.now.graph.sites.items
    c.requires.graph

pub certify-requires-clause-live : goal.certify-requires-clause-live
certify-requires-clause-live c = live_small (tree_view c.args.front.now.tree) (node_view c.args.front.now.graph.tree) c.args.front.now.graph.sites.items
    c.requires.graph

pub certify-requires-clause-states : goal.certify-requires-clause-states
certify-requires-clause-states c =
    let values = c.args.solution.now.values.items in
    let same : map state_view c.in_ok-states.states.items ≡ map state_by values =
    c.in_ok-states.ensures.states ∙ ap (map state_by) c.deref.ensures.value in
    ap length c.deref-3.ensures.value
    ∙ states_many (tree_view c.args.front.now.tree) (node_view c.args.front.now.graph.tree) (map site_view c.args.front.now.graph.sites.items)
    c.requires.graph c.args.front.now.constants.items values c.args.solution.now.verdicts.items c.args.solution.now.flagged c.requires.solved
    c.in_ok-states.states.items same
    ∙ length-map c.args.front.now.graph.sites.items site_view

pub certify-requires-clause-dims : goal.certify-requires-clause-dims
certify-requires-clause-dims c =
    let values = c.args.solution.now.values.items in
    rw c.deref-3.ensures.value
    (have_dims (tree_view c.args.front.now.tree) (node_view c.args.front.now.graph.tree) (map site_view c.args.front.now.graph.sites.items) c.requires.graph
    c.args.front.now.constants.items values c.args.solution.now.verdicts.items c.args.solution.now.flagged c.requires.solved c.in_ok-states.states.items
    (c.in_ok-states.ensures.dims ∙ ap (map dims_by) c.deref.ensures.value))

pub certify-requires-clause-proved : goal.certify-requires-clause-proved
certify-requires-clause-proved c =
    asked_so (program_view c.args.front.now.resolution.program) (resolve (tree_view c.args.front.now.tree)) (node_view c.args.front.now.graph.tree)
    (map state_view c.deref-3.result.now) (map state_by c.args.solution.now.values.items) c.deref-4.result.now
    (proved_in c.args.solution.now.verdicts.items) c.requires.program
    (ap (map state_view) c.deref-3.ensures.value ∙ c.in_ok-states.ensures.states ∙ ap (map state_by) c.deref.ensures.value)
    (c.deref-4.ensures.value ∙ c.in_ok-proved.ensures ∙ ap proved_in c.deref-2.ensures.value)
    (λ P states proved. AreListable (sites_of P) proved)
    (listed (tree_view c.args.front.now.tree) (node_view c.args.front.now.graph.tree) (map site_view c.args.front.now.graph.sites.items) c.requires.graph
    c.args.front.now.constants.items c.args.solution.now.values.items c.args.solution.now.verdicts.items c.args.solution.now.flagged c.requires.solved)

pub certify-requires-clause-stay : goal.certify-requires-clause-stay
certify-requires-clause-stay c =
    asked_so (program_view c.args.front.now.resolution.program) (resolve (tree_view c.args.front.now.tree)) (node_view c.args.front.now.graph.tree)
    (map state_view c.deref-3.result.now) (map state_by c.args.solution.now.values.items) c.deref-4.result.now
    (proved_in c.args.solution.now.verdicts.items) c.requires.program
    (ap (map state_view) c.deref-3.ensures.value ∙ c.in_ok-states.ensures.states ∙ ap (map state_by) c.deref.ensures.value)
    (c.deref-4.ensures.value ∙ c.in_ok-proved.ensures ∙ ap proved_in c.deref-2.ensures.value)
    (λ P states proved. AreInductiveRows P (node_view c.args.front.now.graph.tree) states proved)
    (stay (tree_view c.args.front.now.tree) (node_view c.args.front.now.graph.tree) (map site_view c.args.front.now.graph.sites.items) c.requires.graph
    c.args.front.now.constants.items c.args.solution.now.values.items c.args.solution.now.verdicts.items c.args.solution.now.flagged c.requires.solved
    (subst (λ (vs : List Polyhedron). AllByRecursion IsPolyhedron vs) c.deref.ensures.value c.in_ok-states.ensures.canonical))

pub returns-clause-few : goal.returns-clause-few
returns-clause-few c = few_so (program_view c.args.front.now.resolution.program) (resolve (tree_view c.args.front.now.tree))
    (node_view c.args.front.now.graph.tree) c.requires.program c.certify.result c.certify.ensures.few

pub returns-clause-certified : goal.returns-clause-certified
returns-clause-certified c =
    written_so (program_view c.args.front.now.resolution.program) (resolve (tree_view c.args.front.now.tree)) (node_view c.args.front.now.graph.tree)
    (map state_view c.deref-3.result.now) (map state_by c.args.solution.now.values.items) c.deref-4.result.now
    (proved_in c.args.solution.now.verdicts.items) c.requires.program
    (ap (map state_view) c.deref-3.ensures.value ∙ c.in_ok-states.ensures.states ∙ ap (map state_by) c.deref.ensures.value)
    (c.deref-4.ensures.value ∙ c.in_ok-proved.ensures ∙ ap proved_in c.deref-2.ensures.value) c.certify.result c.certify.ensures.certified

pub returns-clause-failure : goal.returns-clause-failure
returns-clause-failure c =
    failed_so (program_view c.args.front.now.resolution.program) (resolve (tree_view c.args.front.now.tree)) (node_view c.args.front.now.graph.tree)
    (map state_view c.deref-3.result.now) (map state_by c.args.solution.now.values.items) c.deref-4.result.now
    (proved_in c.args.solution.now.verdicts.items) c.requires.program
    (ap (map state_view) c.deref-3.ensures.value ∙ c.in_ok-states.ensures.states ∙ ap (map state_by) c.deref.ensures.value)
    (c.deref-4.ensures.value ∙ c.in_ok-proved.ensures ∙ ap proved_in c.deref-2.ensures.value) c.certify.result c.certify.ensures.failure
