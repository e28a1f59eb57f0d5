-- How many steps the instrumenting of a tree may still take: so it ends.
use Rattle.std.specs.List.{sum_by}
use Rattle.std.specs.Prelude.{◌≡◌, ◌<◌, ◌+◌, ◌*◌, ℕ, List, map}
use Rattle.lra_operations.specs.Sizes.{arm_sizes, arms_tree_sizes, whole_size}
use Rattle.lra_operations.specs.{TreeViews.node_view, declared.tree.Node.Node}
use Rattle.lra_operations.specs.Tree as graph
use Rattle.lra_threads_instrument.specs.declared.stack.Row as of_row
use Rattle.lra_threads_instrument.specs.declared.stack.Selection as of_select
use Rattle.lra_threads_instrument.specs.declared.stack.Next as next
use Rattle.lra_threads_instrument.specs.Instrumented.{all_around, standing}
use Rattle.lra_threads_instrument.specs.declared.stack.InstrumentFrame.TheVariants.{Row, Last, First, Second, Body}
use Rattle.lra_threads_instrument.specs.declared.stack.InstrumentFrame.TheVariants.{Catch, Arm as arm_place}
use Rattle.lra_threads_instrument.specs.declared.stack.Next.TheVariants.{Opens, Gives, Selects}
use Rattle.lra_threads_instrument.specs.declared.stack.Step.TheVariants.{Ended, Goes}
use Rattle.lra_threads_instrument.specs.declared.stack.InstrumentFrame as place
use Rattle.lra_threads_instrument.specs.declared.stack.Step as step

-- of a tree that is to be instrumented
abbrev pub tree_left : Node → ℕ
tree_left g = 2 * whole_size g

abbrev pub row_left : of_row.Row → ℕ
row_left r = 2 + 2 * (sum_by whole_size r.left.items + whole_size r.last.value)

abbrev pub selection_left : of_select.Selection → ℕ
selection_left s = 2 + 2 * arms_tree_sizes (map arm_sizes s.left.items)

-- at a place, after the tree that is being instrumented there
abbrev pub place_left : place.InstrumentFrame → ℕ
place_left (Row r) = row_left r
place_left (Last done) = 1
place_left (First q base c b) = 1 + tree_left b.value
place_left (Second q base c a) = 1
place_left (Body q base c) = 1
place_left (Catch q k) = 1
place_left (arm_place s) = selection_left s

abbrev pub next_left : next.Next → ℕ
next_left (Opens g) = tree_left g
next_left (Gives g) = 1
next_left (Selects s) = selection_left s

abbrev pub all_left : List place.InstrumentFrame → ℕ
all_left places = sum_by place_left places

-- in these places this tree was to be made, in less than so many steps: now they are those, and that is next
pub record InstrumentStepLeads (n : ℕ) (before : List place.InstrumentFrame) (whole : graph.Node) (steps : ℕ)
    (after : List place.InstrumentFrame)
    (more : next.Next) : Type 0 where
  pub same : all_around n after (standing n more) ≡ all_around n before whole
  pub falls : all_left after + next_left more < all_left before + steps

abbrev pub InstrumentStepReaches : ℕ → List place.InstrumentFrame → next.Next → List place.InstrumentFrame → step.Step →
    Type 0
InstrumentStepReaches n before given after (Ended g) = node_view g ≡ all_around n before (standing n given)
InstrumentStepReaches n before given after (Goes more) =
    InstrumentStepLeads n before (standing n given) (next_left given) after more
