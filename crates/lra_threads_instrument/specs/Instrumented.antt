-- What a tree becomes that is being instrumented, by the places that are open in it.
use Rattle.std.specs.Prelude.{ℕ, List, [], ◌∷◌, map, reverse}
use Rattle.lra_program.specs.ProgramViews.{cond_view, expr_view}
use Rattle.lra_operations.specs.TreeViews.{arm_view, arms_before, arms_of, exit_view, node_view, row}
use Rattle.lra_operations.specs.declared.probes.Probe.TheVariants.{InterferencePoint}
use Rattle.lra_operations.specs.{declared.tree.Arm.Arm, declared.tree.Node.Node}
use Rattle.lra_operations.specs.Tree as graph
use Rattle.lra_threads_instrument.specs.Crates.lra_analysis_spec.Instrumented.{with_interference, instrumented}
use Rattle.lra_threads_instrument.specs.Crates.lra_analysis_spec.Instrumented.{instrumented_arms}
use Rattle.lra_threads_instrument.specs.declared.stack.Row as of_row
use Rattle.lra_threads_instrument.specs.declared.stack.Selection as of_select
use Rattle.lra_threads_instrument.specs.declared.stack.Next as next
use Rattle.lra_threads_instrument.specs.declared.stack.InstrumentFrame.TheVariants.{Row, Last, First, Second, Body}
use Rattle.lra_threads_instrument.specs.declared.stack.InstrumentFrame.TheVariants.{Catch, Arm as arm_place}
use Rattle.lra_threads_instrument.specs.declared.stack.Next.TheVariants.{Opens, Gives, Selects}
use Rattle.lra_threads_instrument.specs.declared.stack.InstrumentFrame as place

-- the trees that are left in a row, the first of them last, and the row's last tree
abbrev pub row_of_left : ℕ → List Node → Node → graph.Node
row_of_left n left last = instrumented n (row (map node_view (reverse left)) (node_view last))

abbrev pub arms_of_left : ℕ → List Arm → graph.Arms
arms_of_left n left = instrumented_arms n (arms_of (map arm_view (reverse left)))

-- a row, and a `switch`, of which something is instrumented and the rest is left
abbrev pub row_whole : ℕ → of_row.Row → graph.Node
row_whole n r = row (map node_view r.done.items) (row_of_left n r.left.items r.last.value)

abbrev pub select_around : of_select.Selection → graph.Arms → graph.Node
select_around s arms = graph.select s.point s.base (expr_view s.value) (arms_before (map arm_view s.done.items) arms)

abbrev pub selection_whole : ℕ → of_select.Selection → graph.Node
selection_whole n s = select_around s (arms_of_left n s.left.items)

-- with this tree, which is instrumented, in the place
abbrev pub around : ℕ → place.InstrumentFrame → graph.Node → graph.Node
around n (Row r) g = row (map node_view r.done.items) (graph.seq g (row_of_left n r.left.items r.last.value))
around n (Last done) g = row (map node_view done.items) g
around n (First q base c b) g = graph.choose q base (cond_view c) g (instrumented n (node_view b.value))
around n (Second q base c a) g = graph.choose q base (cond_view c) (node_view a.value) g
around n (Body q base c) g =
    with_interference q (graph.iterate q base (cond_view c) (graph.seq g (graph.probe q InterferencePoint)))
around n (Catch q k) g = graph.catch q (exit_view k) g
around n (arm_place s) g = select_around s (graph.arm g (arms_of_left n s.left.items))

-- of places in each other the outermost is the first
abbrev pub all_around : ℕ → List place.InstrumentFrame → graph.Node → graph.Node
all_around n [] g = g
all_around n (p ∷ ps) g = around n p (all_around n ps g)

-- what the next thing becomes
abbrev pub standing : ℕ → next.Next → graph.Node
standing n (Opens g) = instrumented n (node_view g)
standing n (Gives g) = node_view g
standing n (Selects s) = selection_whole n s
