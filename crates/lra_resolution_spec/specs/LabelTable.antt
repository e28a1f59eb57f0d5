-- Lists of names that share their prefixes, and the labels of a source with numbers of such lists.
use Rattle.std.specs.Prelude.{◌≡◌, ◌≤◌, ◌<◌, ℕ, List, [], ◌∷◌, ◌++◌, slice_get, slice_index_or, Some}
use Rattle.lra_syntax.specs.Labels.{Labelled}
use Rattle.lra_resolution_spec.specs.{declared.labels.Label.Label, declared.labels.SymbolEntry.SymbolEntry}

-- the list of a number
abbrev pub list_at : List (List (List ℕ)) → ℕ → List (List ℕ)
list_at lists n = slice_index_or lists n []

-- an entry is a further list: that of its number with a name after it
abbrev pub lists_behind : List (List (List ℕ)) → List SymbolEntry → List (List (List ℕ))
lists_behind lists [] = lists
lists_behind lists (e ∷ es) = lists_behind (lists ++ (list_at lists e.outer ++ e.name ∷ []) ∷ []) es

-- the list 0 has no name
abbrev pub lists_of : List SymbolEntry → List (List (List ℕ))
lists_of es = lists_behind ([] ∷ []) es

-- each entry goes on from a list before its own
abbrev pub AreOrdered : List SymbolEntry → Type 0
AreOrdered es = (i : ℕ) (e : SymbolEntry) → slice_get es i ≡ Some e → e.outer ≤ i

-- the label that numbers of lists stand for
abbrev pub label_in : List (List (List ℕ)) → Label → Labelled
label_in lists l = record {
  place = l.place;
  called = l.called;
  live = list_at lists l.live;
  live_in_call = list_at lists l.live_in_call;
}

-- each label's lists are there
abbrev pub HaveLists : ℕ → List Label → Type 0
HaveLists count ls = (i : ℕ) (l : Label) → slice_get ls i ≡ Some l → (l.live < count) × (l.live_in_call < count)

-- the lists so far, and the labels so far
pub record LabelLists : Type 0 where
  pub lists : List (List (List ℕ))
  pub labels : List Labelled

-- the label with other names
abbrev pub with_live : Labelled → List (List ℕ) → Labelled
with_live l names = record { place = l.place; called = l.called; live = names; live_in_call = names }
