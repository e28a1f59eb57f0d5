-- Arms of a `switch` as they are seen: each is a label or a tree, before those after it.
use Rattle.std.proofs.Common.{rules, ◌≡◌, ◌∙◌, ◌∷◌, [], List, Bool, false, map, ap, sym}
use Rattle.std.specs.{List.list_any, Prelude.◌||◌}
use Rattle.lra_operations.specs.Crates.{lra_base.CaseLabels.is_same_case, lra_base.declared.case_labels.CaseLabel.CaseLabel, lra_base.declared.case_labels.CaseLabel.TheVariants.Default}
use Rattle.lra_operations.specs.{Tree.Arms, Tree.no_arms, Tree.entry, Tree.arm, Tree.entries_of, TreeViews.ArmPart, TreeViews.node_view, TreeViews.arm_view, TreeViews.arms_of, declared.tree.Arm.Arm}
use Rattle.lra_operations.specs.{declared.tree.Arm.TheVariants.Entry, declared.tree.Arm.TheVariants.Tree, declared.tree.Node.Node, declared.tree.Node.the_lemmas}

pub entry_view : (l : CaseLabel) → arm_view (Entry l) ≡ entry l
entry_view l = search (rules, the_lemmas)

pub tree_view : (g : Node) → arm_view (Tree g) ≡ arm (node_view g)
tree_view g = search (rules, the_lemmas)

pub entry_seen : (a : Arm) (l : CaseLabel) (h : Arms) → a ≡ Entry l → arm_view a h ≡ entry l h
entry_seen a l h is = ap (λ (x : Arm). arm_view x h) is ∙ ap (λ (f : ArmPart). f h) (entry_view l)

pub tree_seen : (a : Arm) (g : Node) (h : Arms) → a ≡ Tree g → arm_view a h ≡ arm (node_view g) h
tree_seen a g h is = ap (λ (x : Arm). arm_view x h) is ∙ ap (λ (f : ArmPart). f h) (tree_view g)

-- the first, and those after it
pub arms_first : (arms behind : List Arm) (a : Arm) → arms ≡ a ∷ behind → arms_of (map arm_view arms) ≡ arm_view a (arms_of (map arm_view behind))
arms_first arms behind a is = ap (λ (xs : List Arm). arms_of (map arm_view xs)) is

pub entry_first : (arms behind : List Arm) (a : Arm) (l : CaseLabel) → arms ≡ a ∷ behind → a ≡ Entry l
    → arms_of (map arm_view arms) ≡ entry l (arms_of (map arm_view behind))
entry_first arms behind a l is here = arms_first arms behind a is ∙ entry_seen a l (arms_of (map arm_view behind)) here

pub tree_first : (arms behind : List Arm) (a : Arm) (g : Node) → arms ≡ a ∷ behind → a ≡ Tree g
    → arms_of (map arm_view arms) ≡ arm (node_view g) (arms_of (map arm_view behind))
tree_first arms behind a g is here = arms_first arms behind a is ∙ tree_seen a g (arms_of (map arm_view behind)) here

pub arms_none : (arms : List Arm) → arms ≡ [] → arms_of (map arm_view arms) ≡ no_arms
arms_none arms is = ap (λ (xs : List Arm). arms_of (map arm_view xs)) is

-- whether a label is `default` ----------------------------------------------------------------------------------------

abbrev pub default_in : Arms → Bool
default_in h = list_any (is_same_case Default) (entries_of h)

pub entry_default : (a : Arm) (l : CaseLabel) (b : Bool) (h : Arms) → a ≡ Entry l → b ≡ is_same_case Default l → default_in (arm_view a h) ≡ (b || default_in h)
entry_default a l b h is same = ap default_in (entry_seen a l h is) ∙ ap (λ (c : Bool). c || default_in h) (sym same)

pub tree_default : (a : Arm) (g : Node) (h : Arms) → a ≡ Tree g → default_in (arm_view a h) ≡ (false || default_in h)
tree_default a g h is = ap default_in (tree_seen a g h is)

pub default_first : (arms behind : List Arm) (a : Arm) (b : Bool) → arms ≡ a ∷ behind → ((h : Arms) → default_in (arm_view a h) ≡ (b || default_in h))
    → default_in (arms_of (map arm_view arms)) ≡ (b || default_in (arms_of (map arm_view behind)))
default_first arms behind a b is first = ap default_in (arms_first arms behind a is) ∙ first (arms_of (map arm_view behind))
