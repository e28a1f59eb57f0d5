-- The equations of the sizes that drops go by, and what a tree that is taken apart leaves.
use Rattle.std.proofs.Common.{◌≡◌, ℕ, ◌+◌, ◌<◌, List, [], ◌∷◌, ◌++◌, Box, Global, Vec, map, rules, arith, ap, ◌∙◌, refl}
use Rattle.std.specs.{Box.with_value, List.sum_by}
use Rattle.lra_operations.specs.Sizes.{sizes, whole_size, hung_size, arm_sizes, arms_tree_sizes, hung_arms_size}
use Rattle.lra_operations.specs.{declared.tree.Arm.Arm, declared.tree.Node.Node, declared.tree.Node.the_lemmas as node_lemmas}
use Rattle.lra_operations.specs.declared.tree.Node.TheVariants as at
use Rattle.lra_operations.specs.declared.tree.Arm.TheVariants as of
use Rattle.lra_program.specs.{declared.program.Cond.Cond, declared.program.Expr.Expr}
use Rattle.lra_operations.specs.Crates.lra_base.declared.case_labels.CaseLabel.{CaseLabel}

abbrev wholes : Vec Node Global → ℕ
wholes gs = sum_by (λ (g : ℕ × ℕ). g.0) (map sizes gs.items)

whole_of_seq : (gs : Vec Node Global) (b : Box Node Global) → whole_size (at.Seq gs b) ≡ 2 + (wholes gs + whole_size b.value)
whole_of_seq gs b = search (rules, node_lemmas)

hung_of_seq : (gs : Vec Node Global) (b : Box Node Global) → hung_size (at.Seq gs b) ≡ 1 + (wholes gs + hung_size b.value)
hung_of_seq gs b = search (rules, node_lemmas)

whole_of_choose : (q base : ℕ) (c : Cond) (a b : Box Node Global) → whole_size (at.Choose q base c a b) ≡ 2 + (whole_size a.value + whole_size b.value)
whole_of_choose q base c a b = search (rules, node_lemmas)

hung_of_choose : (q base : ℕ) (c : Cond) (a b : Box Node Global) → hung_size (at.Choose q base c a b) ≡ 1 + (hung_size a.value + whole_size b.value)
hung_of_choose q base c a b = search (rules, node_lemmas)

-- the last tree of a row is removed, and the rest hangs in its box
pub seq_smaller : (gs : Vec Node Global) (b : Box Node Global) (rest : Node) →
    whole_size b.value + hung_size (at.Seq gs (with_value b rest)) < whole_size (at.Seq gs b) + hung_size rest
seq_smaller gs b rest = omega (arith, whole_of_seq gs b, hung_of_seq gs (with_value b rest))

-- the first branch of a choice likewise
pub choose_smaller : (q base : ℕ) (c : Cond) (a b : Box Node Global) (rest : Node) →
    whole_size a.value + hung_size (at.Choose q base c (with_value a rest) b) < whole_size (at.Choose q base c a b) + hung_size rest
choose_smaller q base c a b rest = omega (arith, whole_of_choose q base c a b, hung_of_choose q base c (with_value a rest) b)

-- arms -------------------------------------------------------------------------------------------------------------

size_behind : (xs : List (ℕ × ℕ)) (a : ℕ × ℕ) → arms_tree_sizes (xs ++ a ∷ []) ≡ arms_tree_sizes xs + (1 + a.0)
size_behind [] a = omega arith
size_behind (x ∷ xs) a = omega (arith, size_behind xs a)

hung_behind : (xs : List (ℕ × ℕ)) (a : ℕ × ℕ) → hung_arms_size (xs ++ a ∷ []) ≡ arms_tree_sizes xs + a.1
hung_behind [] a = omega arith
hung_behind (x ∷ []) a = omega arith
hung_behind (x ∷ y ∷ xs) a = omega (arith, hung_behind (y ∷ xs) a)

abbrev sizes_of : List Arm → List (ℕ × ℕ)
sizes_of arms = map arm_sizes arms

sizes_behind : (arms : List Arm) (a : Arm) → sizes_of (arms ++ a ∷ []) ≡ sizes_of arms ++ arm_sizes a ∷ []
sizes_behind [] a = refl
sizes_behind (b ∷ arms) a = ap (λ xs. arm_sizes b ∷ xs) (sizes_behind arms a)

whole_of_select : (q base : ℕ) (e : Expr) (arms : Vec Arm Global) → whole_size (at.Select q base e arms) ≡ 2 + arms_tree_sizes (sizes_of arms.items)
whole_of_select q base e arms = search (rules, node_lemmas)

hung_of_select : (q base : ℕ) (e : Expr) (arms : Vec Arm Global) → hung_size (at.Select q base e arms) ≡ 2 + hung_arms_size (sizes_of arms.items)
hung_of_select q base e arms = search (rules, node_lemmas)

size_of_tree : (g : Node) → arm_sizes (of.Tree g) ≡ sizes g
size_of_tree g = search (rules, node_lemmas)

size_of_entry : (l : CaseLabel) → arm_sizes (of.Entry l) ≡ (0, 0)
size_of_entry l = search (rules, node_lemmas)

hung_of_empty : hung_size at.Empty ≡ 0
hung_of_empty = search (rules, node_lemmas)

-- with a further arm
whole_with : (q base : ℕ) (e : Expr) (arms more : Vec Arm Global) (a : Arm) → more.items ≡ arms.items ++ a ∷ []
    → whole_size (at.Select q base e more) ≡ whole_size (at.Select q base e arms) + (1 + (arm_sizes a).0)
whole_with q base e arms more a is = omega (
  arith,
  whole_of_select q base e arms,
  whole_of_select q base e more ∙ ap (λ xs. 2 + arms_tree_sizes (sizes_of xs)) is ∙ ap (λ xs. 2 + arms_tree_sizes xs) (sizes_behind arms.items a),
  size_behind (sizes_of arms.items) (arm_sizes a),
)

hung_with : (q base : ℕ) (e : Expr) (arms more : Vec Arm Global) (a : Arm) → more.items ≡ arms.items ++ a ∷ []
    → hung_size (at.Select q base e more) ≡ whole_size (at.Select q base e arms) + (arm_sizes a).1
hung_with q base e arms more a is = omega (
  arith,
  whole_of_select q base e arms,
  hung_of_select q base e more ∙ ap (λ xs. 2 + hung_arms_size (sizes_of xs)) is ∙ ap (λ xs. 2 + hung_arms_size xs) (sizes_behind arms.items a),
  hung_behind (sizes_of arms.items) (arm_sizes a),
)

-- the last arm's tree is removed, and the rest hangs in its place
pub tree_smaller : (q base : ℕ) (e : Expr) (arms left hung : Vec Arm Global) (tree rest : Node) → arms.items ≡ left.items ++ of.Tree tree ∷ []
    → hung.items ≡ left.items ++ of.Tree rest ∷ []
    → whole_size tree + hung_size (at.Select q base e hung) < whole_size (at.Select q base e arms) + hung_size rest
tree_smaller q base e arms left hung tree rest before after = omega (
  arith,
  whole_with q base e left arms (of.Tree tree) before,
  hung_with q base e left hung (of.Tree rest) after,
  ap (λ (p : ℕ × ℕ). p.0) (size_of_tree tree),
  ap (λ (p : ℕ × ℕ). p.1) (size_of_tree rest),
)

-- an entry goes
pub entry_smaller : (q base : ℕ) (e : Expr) (arms left : Vec Arm Global) (l : CaseLabel) (rest : Node) → arms.items ≡ left.items ++ of.Entry l ∷ []
    → whole_size (at.Select q base e left) + hung_size rest < whole_size (at.Select q base e arms) + hung_size rest
entry_smaller q base e arms left l rest before =
    omega (arith, whole_with q base e left arms (of.Entry l) before, ap (λ (p : ℕ × ℕ). p.0) (size_of_entry l))

-- arms whose last one is the rest
pub hung_tree_smaller : (q base : ℕ) (e : Expr) (arms left : Vec Arm Global) (rest : Node) → arms.items ≡ left.items ++ of.Tree rest ∷ []
    → whole_size (at.Select q base e left) + hung_size rest < 1 + hung_size (at.Select q base e arms)
hung_tree_smaller q base e arms left rest before =
    omega (arith, hung_with q base e left arms (of.Tree rest) before, ap (λ (p : ℕ × ℕ). p.1) (size_of_tree rest))

pub hung_entry_smaller : (q base : ℕ) (e : Expr) (arms left : Vec Arm Global) (l : CaseLabel) → arms.items ≡ left.items ++ of.Entry l ∷ []
    → whole_size (at.Select q base e left) + hung_size at.Empty < 1 + hung_size (at.Select q base e arms)
hung_entry_smaller q base e arms left l before = omega (
  arith,
  hung_with q base e left arms (of.Entry l) before,
  ap (λ (p : ℕ × ℕ). p.1) (size_of_entry l),
  hung_of_empty,
)
