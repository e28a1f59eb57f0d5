-- Goals of `report_threads`: what rounds find of the threads of what was read.
use Rattle.std.proofs.Common.{◌≡◌, ℕ, List, length, sym, subst}
use Rattle.std.specs.List.{AllZip}
use Rattle.lra_threads_source.specs.Crates.{lra_front_end.declared.threads_front.AcceptedThreads.AcceptedThreads, lra_operations.declared.tree.InlinedProgram.InlinedProgram}
use Rattle.lra_threads_source.specs.Crates.{lra_program.declared.program.GlobalVariable.GlobalVariable, lra_syntax.Views.tree_view, lra_threads_fixpoint.Found.fixpoint_view}
use Rattle.lra_threads_source.specs.{Stages.AreThreadsInstrumented, Stages.IsInstrumented, Stages.IsReadOf, ThreadsView.threads_report_of}
use Rattle.lra_threads_source.proofs.Answered.{answered, flag_handed, found_handed, globals_seen, graphs_handed, ready}
use Rattle.lra_threads_source.proofs.threads_report.report_threads.Goals as goal

-- all but the graphs is as it was read
is_read : (source : List ℕ) (front other : AcceptedThreads) → AreThreadsInstrumented front other → IsReadOf source front
    → IsReadOf source (record other { graphs = front.graphs })
is_read source front other o = subst (IsReadOf source) o.rest

-- the graphs, as they are handed on
are_opened : (front other : AcceptedThreads) → AreThreadsInstrumented front other → (globals : List GlobalVariable) →
    globals ≡ other.resolution.program.globals.items
    → (graphs : List InlinedProgram) → graphs ≡ other.graphs.items → AllZip (IsInstrumented (length globals)) front.graphs.items graphs
are_opened front other o globals same graphs also =
    subst (λ (gs : List GlobalVariable). AllZip (IsInstrumented (length gs)) front.graphs.items graphs) (sym same)
    (subst (λ (hs : List InlinedProgram). AllZip (IsInstrumented (length other.resolution.program.globals.items)) front.graphs.items hs) (sym also) o.graphs)

pub analyse_threads-requires : goal.analyse_threads-requires
analyse_threads-requires c =
    let t = tree_view c.in_ok-opened.opened.tree in
    let graphs = c.as_slice-graphs.result.now in
    let globals = c.as_slice-globals.result.now in
    let is = is_read c.requires.read.0 c.args.front c.in_ok-opened.opened c.in_ok-opened.ensures c.requires.read.1 in
    let same = globals_seen t c.in_ok-opened.opened.resolution.program globals is.program c.as_slice-globals.ensures.value in
    let opens = are_opened c.args.front c.in_ok-opened.opened c.in_ok-opened.ensures globals c.as_slice-globals.ensures.value
    graphs c.as_slice-graphs.ensures.value in
    ready c.requires.read.0 t is.accepted c.args.front.graphs.items graphs is.graphs globals same opens
    c.args.delay c.args.narrow c.args.front.constants.items c.args.plan.now c.requires.planned

pub list-requires-clause-graphs : goal.list-requires-clause-graphs
list-requires-clause-graphs c =
    let t = tree_view c.in_ok-opened.opened.tree in
    let graphs = c.as_slice-graphs.result.now in
    let globals = c.as_slice-globals.result.now in
    let is = is_read c.requires.read.0 c.args.front c.in_ok-opened.opened c.in_ok-opened.ensures c.requires.read.1 in
    let same = globals_seen t c.in_ok-opened.opened.resolution.program globals is.program c.as_slice-globals.ensures.value in
    let opens = are_opened c.args.front c.in_ok-opened.opened c.in_ok-opened.ensures globals c.as_slice-globals.ensures.value
    graphs c.as_slice-graphs.ensures.value in
    graphs_handed c.requires.read.0 t is.accepted c.args.front.graphs.items graphs is.graphs globals same opens

pub list-requires-clause-labels : goal.list-requires-clause-labels
list-requires-clause-labels c =
    (is_read c.requires.read.0 c.args.front c.in_ok-opened.opened c.in_ok-opened.ensures c.requires.read.1).labels

pub list-requires-clause-found : goal.list-requires-clause-found
list-requires-clause-found c =
    let t = tree_view c.in_ok-opened.opened.tree in
    let graphs = c.as_slice-graphs.result.now in
    let globals = c.as_slice-globals.result.now in
    let is = is_read c.requires.read.0 c.args.front c.in_ok-opened.opened c.in_ok-opened.ensures c.requires.read.1 in
    let same = globals_seen t c.in_ok-opened.opened.resolution.program globals is.program c.as_slice-globals.ensures.value in
    let opens = are_opened c.args.front c.in_ok-opened.opened c.in_ok-opened.ensures globals c.as_slice-globals.ensures.value
    graphs c.as_slice-graphs.ensures.value in
    found_handed c.requires.read.0 t is.accepted c.args.front.graphs.items graphs is.graphs globals same opens
    c.args.plan.now (fixpoint_view c.in_ok-end.end) c.in_ok-end.ensures.rounds c.in_ok-end.ensures.flagged c.in_ok-end.ensures.holds

pub list-requires-clause-flag : goal.list-requires-clause-flag
list-requires-clause-flag c =
    let t = tree_view c.in_ok-opened.opened.tree in
    let graphs = c.as_slice-graphs.result.now in
    let globals = c.as_slice-globals.result.now in
    let is = is_read c.requires.read.0 c.args.front c.in_ok-opened.opened c.in_ok-opened.ensures c.requires.read.1 in
    let same = globals_seen t c.in_ok-opened.opened.resolution.program globals is.program c.as_slice-globals.ensures.value in
    let opens = are_opened c.args.front c.in_ok-opened.opened c.in_ok-opened.ensures globals c.as_slice-globals.ensures.value
    graphs c.as_slice-graphs.ensures.value in
    flag_handed c.requires.read.0 t is.accepted c.args.front.graphs.items graphs is.graphs globals same opens
    c.args.plan.now (fixpoint_view c.in_ok-end.end) c.in_ok-end.ensures.rounds c.in_ok-end.ensures.flagged c.in_ok-end.ensures.holds

pub returns : goal.returns
returns c source read =
    let t = tree_view c.in_ok-opened.opened.tree in
    let graphs = c.as_slice-graphs.result.now in
    let globals = c.as_slice-globals.result.now in
    let is = is_read source c.args.front c.in_ok-opened.opened c.in_ok-opened.ensures read in
    let same = globals_seen t c.in_ok-opened.opened.resolution.program globals is.program c.as_slice-globals.ensures.value in
    let opens = are_opened c.args.front c.in_ok-opened.opened c.in_ok-opened.ensures globals c.as_slice-globals.ensures.value
    graphs c.as_slice-graphs.ensures.value in
    answered source t is.accepted c.args.front.graphs.items graphs is.graphs globals same opens
    c.args.plan.now (fixpoint_view c.in_ok-end.end) c.in_ok-end.ensures.rounds c.in_ok-end.ensures.flagged c.in_ok-end.ensures.holds
    c.args.delay c.args.narrow c.args.front.constants.items (threads_report_of c.in_ok-report.report) c.threads_hold.ensures c.requires.planned
    read.constants c.in_ok-report.ensures.delay c.in_ok-report.ensures.narrow c.in_ok-report.ensures.shows
