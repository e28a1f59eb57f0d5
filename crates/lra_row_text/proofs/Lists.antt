-- Lines of lists, one at a time.
use Rattle.std.proofs.Common.{◌≡◌, ◌<◌, ◌≤◌, ◌+◌, ℕ, suc, ℤ, List, ◌∷◌, ◌++◌, length, drop, get_or, add-one, ap, sym, ◌∙◌, subst, append_assoc, append-nil}
use Rattle.std.proofs.{Math.Seq.drop-cons, lemmas.List.drop_all}
use Rattle.std.specs.List.{flat_map}
use Rattle.lra_row_text.specs.Crates.lra_linear_spec.declared.GenKind.{GenKind}
use Rattle.lra_systems.specs.LinearSystems.{FitsKind, FitKinds}
use Rattle.lra_row_text.specs.Lists.{shown_by}

pub drop_front : {A : Type 0} (names : List A) (j : ℕ) (x : A) → x ≡ get_or names j x → j < length names → drop j names ≡ x ∷ drop (j + 1) names
drop_front names j x is h = drop-cons names j x h ∙ ap (λ y. y ∷ drop (suc j) names) (sym is) ∙ ap (λ k. x ∷ drop k names) (sym (add-one j))

pub drop_at : {A : Type 0} (xs : List A) (j : ℕ) (d : A) → j < length xs → drop j xs ≡ get_or xs j d ∷ drop (j + 1) xs
drop_at xs j d h = drop-cons xs j d h ∙ ap (λ k. get_or xs j d ∷ drop k xs) (sym (add-one j))

pub row_step : {K R : Type 0} (show : List ℤ → K → R) (line : R → List ℕ) (t0 t1 all : List ℕ) (rows : List (List ℤ)) (kinds : List K) (j : ℕ) (r : List ℤ) (k : K) →
    t0 ++ flat_map line (shown_by show (drop j rows) (drop j kinds)) ≡ all → drop j rows ≡ r ∷ drop (j + 1) rows → drop j kinds ≡ k ∷ drop (j + 1) kinds → t1 ≡ t0 ++ line (show r k) →
    t1 ++ flat_map line (shown_by show (drop (j + 1) rows) (drop (j + 1) kinds)) ≡ all
row_step show line t0 t1 all rows kinds j r k before row kind written =
    let later = flat_map line (shown_by show (drop (j + 1) rows) (drop (j + 1) kinds)) in
    ap (λ t. t ++ later) written
    ∙ append_assoc t0 (line (show r k)) later
    ∙ ap (λ rs. t0 ++ flat_map line (shown_by show rs (k ∷ drop (j + 1) kinds))) (sym row)
    ∙ ap (λ ks. t0 ++ flat_map line (shown_by show (drop j rows) ks)) (sym kind)
    ∙ before

pub rows_end : {K R : Type 0} (show : List ℤ → K → R) (line : R → List ℕ) (t all : List ℕ) (rows : List (List ℤ)) (kinds : List K) (j : ℕ) →
    t ++ flat_map line (shown_by show (drop j rows) (drop j kinds)) ≡ all → length rows ≤ j → t ≡ all
rows_end show line t all rows kinds j before end = sym (append-nil t) ∙ ap (λ rs. t ++ flat_map line (shown_by show rs (drop j kinds))) (sym (drop_all j rows end)) ∙ before

-- of generators that are left, the first and the further ones fit their kinds
both_fit : {rows : List (List ℤ)} {kinds : List GenKind} (rs : List (List ℤ)) (ks : List GenKind) (r : List ℤ) (k : GenKind) → FitKinds rs ks → rs ≡ r ∷ rows → ks ≡ k ∷ kinds → FitsKind k r ×
    FitKinds rows kinds
both_fit {rows} {kinds} rs ks r k fit row kind = subst (λ x. FitKinds (r ∷ rows) x) kind (subst (λ x. FitKinds x ks) row fit)

pub first_fits : (rows : List (List ℤ)) (kinds : List GenKind) (j : ℕ) (r : List ℤ) (k : GenKind) → FitKinds (drop j rows) (drop j kinds) → drop j rows ≡ r ∷ drop (j + 1) rows →
    drop j kinds ≡ k ∷ drop (j + 1) kinds → FitsKind k r
first_fits rows kinds j r k fit row kind = (both_fit (drop j rows) (drop j kinds) r k fit row kind).0

pub further_fit : (rows : List (List ℤ)) (kinds : List GenKind) (j : ℕ) (r : List ℤ) (k : GenKind) → FitKinds (drop j rows) (drop j kinds) → drop j rows ≡ r ∷ drop (j + 1) rows →
    drop j kinds ≡ k ∷ drop (j + 1) kinds → FitKinds (drop (j + 1) rows) (drop (j + 1) kinds)
further_fit rows kinds j r k fit row kind = (both_fit (drop j rows) (drop j kinds) r k fit row kind).1
