-- Arms of a `switch`: each is a label or a tree; the labels among them.
use Rattle.std.proofs.Common.{◌≡◌, List, [], ◌∷◌, ◌++◌, map, refl, sym, ap, ◌∙◌, subst, append_assoc}
use Rattle.lra_path_segments.specs.Crates.lra_base.declared.case_labels.CaseLabel.{CaseLabel}
use Rattle.lra_operations.specs.TreeViews.{ArmPart, arm_view, arms_before, arms_of}
use Rattle.lra_operations.specs.declared.tree.Arm.{Arm, Arm-F, out-Arm, roll-Arm, roll-out-Arm}
use Rattle.lra_operations.specs.{Tree.Arms, Tree.no_arms, Tree.entries_of, declared.tree.Arm.TheVariants.Entry, declared.tree.Arm.TheVariants.Tree, declared.tree.Node.Node}
use Rattle.lra_operations.proofs.ArmViews.{entry_view, tree_view}
use Rattle.lra_path_segments.specs.Labels.{label_at, labels_in}

-- arms -------------------------------------------------------------------------------------------------------------------

-- each is a label or a tree
module _ (P : Arm → Type 0) (on_entry : (l : CaseLabel) → P (Entry l)) (on_tree : (g : Node) → P (Tree g)) where
  opened_arm : (a : Arm) (o : Arm-F Arm Node) → a ≡ roll-Arm o → P a
  unfolding roll-Arm denote.Hole.Carrier.roll
  opened_arm a (Arm-F.Entry l) e = subst P (sym e) (on_entry l)
  opened_arm a (Arm-F.Tree g) e = subst P (sym e) (on_tree g)

  pub each_arm : (a : Arm) → P a
  each_arm a = opened_arm a (out-Arm a) (sym (roll-out-Arm a))

before_last : (xs : List Arm) (a : Arm) (h : Arms) → arms_before (map arm_view (xs ++ a ∷ [])) h ≡ arms_before (map arm_view xs) (arm_view a h)
before_last [] a h = refl
before_last (b ∷ xs) a h = ap (arm_view b) (before_last xs a h)

pub view_last : (xs ys : List Arm) (a : Arm) → xs ≡ ys ++ a ∷ [] → arms_of (map arm_view xs) ≡ arms_before (map arm_view ys) (arm_view a no_arms)
view_last xs ys a is = ap (λ xs. arms_of (map arm_view xs)) is ∙ before_last ys a no_arms

-- labels -----------------------------------------------------------------------------------------------------------------

pub label_of_entry : (a : Arm) (l : CaseLabel) → a ≡ Entry l → label_at a ≡ l ∷ []
label_of_entry a l is = ap label_at is ∙ ap (λ (f : ArmPart). entries_of (f no_arms)) (entry_view l)

pub label_of_tree : (a : Arm) (g : Node) → a ≡ Tree g → label_at a ≡ []
label_of_tree a g is = ap label_at is ∙ ap (λ (f : ArmPart). entries_of (f no_arms)) (tree_view g)

label_before : (a : Arm) (h : Arms) → entries_of (arm_view a h) ≡ label_at a ++ entries_of h
label_before a h = each_arm (λ b. entries_of (arm_view b h) ≡ label_at b ++ entries_of h)
    (λ l. ap (λ (f : ArmPart). entries_of (f h)) (entry_view l) ∙ sym (ap (λ ls. ls ++ entries_of h) (label_of_entry (Entry l) l refl)))
    (λ g. ap (λ (f : ArmPart). entries_of (f h)) (tree_view g) ∙ sym (ap (λ ls. ls ++ entries_of h) (label_of_tree (Tree g) g refl))) a

pub labels_first : (xs ys : List Arm) (a : Arm) → xs ≡ a ∷ ys → labels_in xs ≡ label_at a ++ labels_in ys
labels_first xs ys a is = ap labels_in is ∙ label_before a (arms_of (map arm_view ys))

labels_more : (xs : List Arm) (a : Arm) → labels_in (xs ++ a ∷ []) ≡ labels_in xs ++ label_at a
labels_more [] a = refl
labels_more (b ∷ xs) a =
    label_before b (arms_of (map arm_view (xs ++ a ∷ []))) ∙ ap (λ ls. label_at b ++ ls) (labels_more xs a)
    ∙ sym (append_assoc (label_at b) (labels_in xs) (label_at a)) ∙ sym (ap (λ ls. ls ++ label_at a) (label_before b (arms_of (map arm_view xs))))

pub labels_last : (xs ys : List Arm) (a : Arm) → xs ≡ ys ++ a ∷ [] → labels_in xs ≡ labels_in ys ++ label_at a
labels_last xs ys a is = ap labels_in is ∙ labels_more ys a
