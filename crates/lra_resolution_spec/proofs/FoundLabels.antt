-- The label of a number, if there is one.
use Rattle.std.proofs.Common.{◌≡◌, ◌∙◌, sym, ap, refl, ◌+◌, ◌≤◌, ◌<◌, ℕ, suc, List, length, map, Option, Some, None, get_or, arith, subst, add-one, MatchOption, IfSome, option_map}
use Rattle.std.proofs.lemmas.Option.{slice_get_read, slice_get_past, slice_get-map}
use Rattle.std.specs.Prelude.{slice_get}
use Rattle.lra_syntax.specs.Labels.{label_at}
use Rattle.lra_resolution_spec.specs.{LabelTable.LabelLists, LabelTable.lists_of, LabelTable.label_in, LabelTable.HaveLists, declared.labels.Label.Label, declared.labels.SymbolEntry.SymbolEntry}
use Rattle.lra_resolution_spec.proofs.NameLists.{lists_length}

-- what is reported about it
abbrev pub Told : {B : Type 0} → (B → Label) → LabelLists → ℕ → Option B → Type 0
Told now v n r =
    MatchOption r (label_at v.labels n ≡ None)
    (λ x. (label_at v.labels n ≡ Some (label_in v.lists (now x))) × ((now x).live < length v.lists) × ((now x).live_in_call < length v.lists))

abbrev table : List SymbolEntry → List Label → LabelLists
table es ls = record { lists = lists_of es; labels = map (label_in (lists_of es)) ls }

told_label : {B : Type 0} (now : B → Label) (es : List SymbolEntry) (ls : List Label) (i : ℕ) (r : Option B) (Q : B → Type 0) → HaveLists (length es + 1) ls
    → IfSome r (λ x. now x ≡ get_or ls i (now x)) → MatchOption r (length ls ≤ i) (λ x. (i < length ls) × Q x) → Told now (table es ls) (suc i) r
told_label now es ls i None Q have is m = slice_get-map (label_in (lists_of es)) ls i ∙ ap (option_map (label_in (lists_of es))) (slice_get_past ls i m)
told_label now es ls i (Some x) Q have is m =
    let at : slice_get ls i ≡ Some (now x) = slice_get_read ls (length ls) i (now x) refl m.0 is in
    let both = have i (now x) at in
    let n = lists_length es in
    (slice_get-map (label_in (lists_of es)) ls i ∙ ap (option_map (label_in (lists_of es))) at, omega (arith, both.0, n), omega (arith, both.1, n))

pub found_label : {B : Type 0} (now : B → Label) (es : List SymbolEntry) (v : LabelLists) (ls inside : List Label) (n i : ℕ) (r : Option B) (Q : B → Type 0)
    → record { lists = lists_of es; labels = map (label_in (lists_of es)) inside } ≡ v → ls ≡ inside → HaveLists (length es + 1) inside → n ≡ i + 1
    → IfSome r (λ x. now x ≡ get_or ls i (now x)) → MatchOption r (length ls ≤ i) (λ x. (i < length ls) × Q x) → Told now v n r
found_label now es v ls inside n i r Q view same have number is m =
    subst (λ (w : LabelLists). Told now w n r) view
    (subst (λ (xs : List Label). Told now (table es xs) n r) same
    (subst (λ (k : ℕ). Told now (table es ls) k r) (sym (number ∙ add-one i))
    (told_label now es ls i r Q (subst (HaveLists (length es + 1)) (sym same) have) is m)))
