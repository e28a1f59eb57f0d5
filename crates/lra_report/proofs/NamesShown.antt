-- Names as a report shows them, one at a time.
use Rattle.std.proofs.Common.{codes, count_by, bytes_eq, ◌≡◌, ◌<◌, ◌≤◌, ◌+◌, ℕ, zero, suc, List, [], ◌∷◌, ◌++◌, length, drop, take, ◌-◌, map, get_or, refl, ap, sym, ◌∙◌, append_assoc, append-nil}
use Rattle.std.proofs.{Math.Seq.take-length, lemmas.List.drop_all, lemmas.List.length-drop}
use Rattle.std.specs.Fmt.{decimal}
use Rattle.lra_resolution_spec.specs.ShownNames.{shown_name, shown_names}
use Rattle.lra_row_text.proofs.Lists.{drop_front}

pub hidden_name : (k : ℕ) (name : List ℕ) → ¬ (k ≡ 0) → name ++ (codes "~" ++ decimal k) ≡ shown_name k name
hidden_name zero name h = absurd (h refl)
hidden_name (suc k) name h = sym (append_assoc name (codes "~") (decimal (suc k)))

-- a rest is sliced by its own length
pub rest_whole : {A : Type 0} (names : List A) (d : ℕ) → take (length names - d) (drop d names) ≡ drop d names
rest_whole names d = ap (λ n. take n (drop d names)) (sym (length-drop d names)) ∙ take-length (drop d names)

pub name_step : {A : Type 0} (f : A → List ℕ) (before after all : List (List ℕ)) (names : List A) (j k : ℕ) (x : A) →
    before ++ shown_names (map f (drop j names)) ≡ all → x ≡ get_or names j x → j < length names →
    k ≡ count_by (bytes_eq (f x)) (map f (drop (j + 1) names)) → after ≡ before ++ shown_name k (f x) ∷ [] →
    after ++ shown_names (map f (drop (j + 1) names)) ≡ all
name_step f before after all names j k x invariant is inside count pushed =
    let later = map f (drop (j + 1) names) in
    ap (λ ns. ns ++ shown_names later) pushed
    ∙ ap (λ n. (before ++ shown_name n (f x) ∷ []) ++ shown_names later) count
    ∙ append_assoc before (shown_name (count_by (bytes_eq (f x)) later) (f x) ∷ []) (shown_names later)
    ∙ ap (λ ns. before ++ shown_names (map f ns)) (sym (drop_front names j x is inside))
    ∙ invariant

pub names_end : {A : Type 0} (f : A → List ℕ) (before all : List (List ℕ)) (names : List A) (j : ℕ) →
    before ++ shown_names (map f (drop j names)) ≡ all → length names ≤ j → before ≡ all
names_end f before all names j invariant end = sym (append-nil before) ∙ ap (λ ns. before ++ shown_names (map f ns)) (sym (drop_all j names end)) ∙ invariant
