-- The labels of a source while it is resolved: what each part adds.
use Rattle.std.specs.Prelude.{◌≡◌, ℕ, List, [], ◌∷◌, ◌++◌, Option, flat_map}
use Rattle.lra_base.specs.{TextOrder.before_body, declared.refusals.Place.Place}
use Rattle.lra_syntax.specs.Labels.{Labelled, plain_label, with_names, declarator_labels, init_labels, step_labels}
use Rattle.lra_syntax.specs.Labels.{items_labels, live_in_for, function_labels}
use Rattle.lra_syntax.specs.Trees.{AssignTree, DeclaratorTree, InitTree, ItemsTree, FunctionTree}

pub record LabelsSoFar : Type 0 where
  -- the function's scalars that live now, oldest first
  pub live : List (List ℕ)
  pub labels : List Labelled
  -- the label that comes next
  pub next : ℕ

-- further labels; what lives stays
pub record Adds (old new : LabelsSoFar) (more : List Labelled) : Type 0 where
  pub labels : new.labels ≡ old.labels ++ more
  pub live : new.live ≡ old.live

-- the labels of declarators, whose scalars live from then on
pub record Declares (old new : LabelsSoFar) (ds : List DeclaratorTree) : Type 0 where
  pub labels : new.labels ≡ old.labels ++ declarator_labels old.live ds
  pub live : new.live ≡ with_names old.live ds

-- further scalars
pub record ExtendsNames (old new : List (List ℕ)) : Type 0 where
  pub more : List (List ℕ)
  pub is : new ≡ old ++ more

-- the labels of items, so that those of any others can follow
pub record Follows (old new : LabelsSoFar) (all : ItemsTree → ItemsTree) : Type 0 where
  pub labels : (rest : ItemsTree) (end : Place)
      → new.labels ++ items_labels new.live rest end ≡ old.labels ++ items_labels old.live (all rest) end
  pub live : ExtendsNames old.live new.live

-- the labels of a block's items, so that its end can follow
pub record Fills (old new : LabelsSoFar) (items : ItemsTree) : Type 0 where
  pub labels : (end : Place) → new.labels ++ plain_label end new.live ∷ [] ≡
      old.labels ++ items_labels old.live items end
  pub live : ExtendsNames old.live new.live

-- a `for` without its body: its own label, how it begins, its step
abbrev pub for_front : Place → List (List ℕ) → InitTree → Option AssignTree → List Labelled
for_front at live i e = before_body (plain_label at (live_in_for live i)) (init_labels live i)
    (step_labels (live_in_for live i) e)

abbrev pub labels_of_functions : List FunctionTree → List Labelled
labels_of_functions fs = flat_map function_labels fs
