-- What a tree is seen as, and how large it is, by what it is made of.
use Rattle.std.proofs.Common.{rules, Box, Vec, Global, ◌≡◌, ◌∙◌, ℕ, ◌+◌, ◌*◌, ◌<◌, map, ap, sym, subst, arith}
use Rattle.std.specs.List.{sum_by}
use Rattle.lra_program.specs.ProgramViews.{cond_view, expr_view}
use Rattle.lra_operations.specs.Tree as graph
use Rattle.lra_operations.specs.{Parts.whole_of, Sizes.arm_sizes, Sizes.arms_tree_sizes, Sizes.sizes, Sizes.whole_size, TreeViews.arm_view, TreeViews.arms_of, TreeViews.exit_view, TreeViews.node_view}
use Rattle.lra_operations.specs.{TreeViews.op_view, TreeViews.row, declared.tree.Node.Node, declared.tree.Node.the_lemmas as node_lemmas, declared.tree.Parts.Parts}
use Rattle.lra_operations.specs.declared.tree.Arm.TheVariants as armed
use Rattle.lra_operations.specs.declared.tree.Node.TheVariants as at
use Rattle.lra_operations.specs.declared.tree.Parts.TheVariants as parts
use Rattle.lra_threads_instrument.specs.StepsLeft.{tree_left}
use Rattle.lra_threads_instrument.proofs.Sums.{same_wholes}

abbrev pub parts_view : Parts → graph.Node
parts_view parts.Empty = graph.empty
parts_view (parts.Point q) = graph.point q
parts_view (parts.Probe q what) = graph.probe q what
parts_view (parts.Act q o) = graph.act q (op_view o)
parts_view (parts.Check q base c) = graph.check q base (cond_view c)
parts_view (parts.Seq gs last) = row (map node_view gs.items) (node_view last.value)
parts_view (parts.Choose q base c a b) = graph.choose q base (cond_view c) (node_view a.value) (node_view b.value)
parts_view (parts.Iterate q base c a) = graph.iterate q base (cond_view c) (node_view a.value)
parts_view (parts.Catch q k a) = graph.catch q (exit_view k) (node_view a.value)
parts_view (parts.Leave n k) = graph.leave n (exit_view k)
parts_view (parts.Select q base e arms) = graph.select q base (expr_view e) (arms_of (map arm_view arms.items))

pub view_of : (p : Parts) → node_view (whole_of p) ≡ parts_view p
view_of parts.Empty = search (rules, node_lemmas)
view_of (parts.Point q) = search (rules, node_lemmas)
view_of (parts.Probe q what) = search (rules, node_lemmas)
view_of (parts.Act q o) = search (rules, node_lemmas)
view_of (parts.Check q base c) = search (rules, node_lemmas)
view_of (parts.Seq gs last) = search (rules, node_lemmas)
view_of (parts.Choose q base c a b) = search (rules, node_lemmas)
view_of (parts.Iterate q base c a) = search (rules, node_lemmas)
view_of (parts.Catch q k a) = search (rules, node_lemmas)
view_of (parts.Leave n k) = search (rules, node_lemmas)
view_of (parts.Select q base e arms) = search (rules, node_lemmas)

abbrev pub parts_size : Parts → ℕ
parts_size parts.Empty = 1
parts_size (parts.Point q) = 1
parts_size (parts.Probe q what) = 1
parts_size (parts.Act q o) = 1
parts_size (parts.Check q base c) = 1
parts_size (parts.Seq gs last) = 2 + (sum_by whole_size gs.items + whole_size last.value)
parts_size (parts.Choose q base c a b) = 2 + (whole_size a.value + whole_size b.value)
parts_size (parts.Iterate q base c a) = 2 + whole_size a.value
parts_size (parts.Catch q k a) = 2 + whole_size a.value
parts_size (parts.Leave n k) = 1
parts_size (parts.Select q base e arms) = 2 + arms_tree_sizes (map arm_sizes arms.items)

whole_of_seq : (gs : Vec Node Global) (b : Box Node Global) → whole_size (at.Seq gs b) ≡ 2 +
    (sum_by (λ (g : ℕ × ℕ). g.0) (map sizes gs.items) + whole_size b.value)
whole_of_seq gs b = search (rules, node_lemmas)

size_of : (p : Parts) → whole_size (whole_of p) ≡ parts_size p
size_of parts.Empty = search (rules, node_lemmas)
size_of (parts.Point q) = search (rules, node_lemmas)
size_of (parts.Probe q what) = search (rules, node_lemmas)
size_of (parts.Act q o) = search (rules, node_lemmas)
size_of (parts.Check q base c) = search (rules, node_lemmas)
size_of (parts.Seq gs last) = whole_of_seq gs last ∙ ap (λ k. 2 + (k + whole_size last.value)) (same_wholes gs.items)
size_of (parts.Choose q base c a b) = search (rules, node_lemmas)
size_of (parts.Iterate q base c a) = search (rules, node_lemmas)
size_of (parts.Catch q k a) = search (rules, node_lemmas)
size_of (parts.Leave n k) = search (rules, node_lemmas)
size_of (parts.Select q base e arms) = search (rules, node_lemmas)

-- of a tree that is made of these
pub seen_as : (p : Parts) (g : Node) → whole_of p ≡ g → node_view g ≡ parts_view p
seen_as p g is = ap node_view (sym is) ∙ view_of p

pub left_of : (p : Parts) (g : Node) → whole_of p ≡ g → tree_left g ≡ 2 * parts_size p
left_of p g is = ap tree_left (sym is) ∙ ap (λ k. 2 * k) (size_of p)

more_than_one : (p : Parts) → 1 < 2 * parts_size p
more_than_one parts.Empty = omega arith
more_than_one (parts.Point q) = omega arith
more_than_one (parts.Probe q what) = omega arith
more_than_one (parts.Act q o) = omega arith
more_than_one (parts.Check q base c) = omega arith
more_than_one (parts.Seq gs last) = omega arith
more_than_one (parts.Choose q base c a b) = omega arith
more_than_one (parts.Iterate q base c a) = omega arith
more_than_one (parts.Catch q k a) = omega arith
more_than_one (parts.Leave n k) = omega arith
more_than_one (parts.Select q base e arms) = omega arith

pub some_left : (p : Parts) (g : Node) → whole_of p ≡ g → 1 < tree_left g
some_left p g is = subst (λ k. 1 < k) (sym (left_of p g is)) (more_than_one p)

pub arm_size_of : (g : Node) → arm_sizes (armed.Tree g) ≡ sizes g
arm_size_of g = search (rules, node_lemmas)
