-- The values of a generator's variables, one at a time.
use Rattle.std.proofs.Common.{codes, min, ◌≡◌, ◌<◌, ◌≤◌, ◌+◌, ◌-◌, ℕ, ℤ, List, [], ◌∷◌, ◌++◌, length, drop, map, get_or, refl, ap, sym, ◌∙◌, append_assoc, append-nil, ◌⊎◌, inl, inr}
use Rattle.std.proofs.lemmas.List.{drop_all}
use Rattle.lra_row_text.specs.Crates.lra_linear_spec.Vectors.{entry}
use Rattle.lra_row_text.specs.Texts.{values_text}
use Rattle.lra_row_text.proofs.{Lists.drop_front, Terms.drop_entry, Terms.min_cases}

pub value_step : {A : Type 0} (f : A → List ℕ) (value : ℤ → List ℕ) (t0 t1 t2 all : List ℕ) (zs : List ℤ) (names : List A) (j : ℕ) (x : A) →
    t0 ++ values_text value (map f (drop j names)) (drop (j + 1) zs) ≡ all → x ≡ get_or names j x → j < length names → j + 1 < length zs →
    t1 ≡ t0 ++ (codes " " ++ f x ++ codes "=") → t2 ≡ t1 ++ value (entry zs (j + 1)) →
    t2 ++ values_text value (map f (drop (j + 1) names)) (drop (j + 1 + 1) zs) ≡ all
value_step f value t0 t1 t2 all zs names j x before is named inside name_written value_written =
    let later = values_text value (map f (drop (j + 1) names)) (drop (j + 1 + 1) zs) in
    let here = value (entry zs (j + 1)) in
    let name = codes " " ++ f x ++ codes "=" in
    ap (λ t. t ++ later) (value_written ∙ ap (λ t. t ++ here) name_written ∙ append_assoc t0 name here)
    ∙ append_assoc t0 (name ++ here) later
    ∙ ap (λ ns. t0 ++ values_text value (map f ns) (entry zs (j + 1) ∷ drop (j + 1 + 1) zs)) (sym (drop_front names j x is named))
    ∙ ap (λ ys. t0 ++ values_text value (map f (drop j names)) ys) (sym (drop_entry zs (j + 1) inside))
    ∙ before

values_none : (value : ℤ → List ℕ) (names : List (List ℕ)) → values_text value names [] ≡ []
values_none value [] = refl
values_none value (n ∷ ns) = refl

pub values_end : {A : Type 0} (f : A → List ℕ) (value : ℤ → List ℕ) (t all : List ℕ) (zs : List ℤ) (names : List A) (j : ℕ) →
    t ++ values_text value (map f (drop j names)) (drop (j + 1) zs) ≡ all → min (length names) (length zs - 1) ≤ j → t ≡ all
values_end f value t all zs names j before end =
    ends (min_cases (length names) (length zs) j end)
  where
    ends : (length names ≤ j) ⊎ (length zs ≤ j + 1) → t ≡ all
    ends (inl cut) = sym (append-nil t) ∙ ap (λ ns. t ++ values_text value (map f ns) (drop (j + 1) zs)) (sym (drop_all j names cut)) ∙ before
    ends (inr cut) = sym (append-nil t) ∙ ap (λ ys. t ++ ys) (sym (values_none value (map f (drop j names)))) ∙
        ap (λ ys. t ++ values_text value (map f (drop j names)) ys) (sym (drop_all (j + 1) zs cut)) ∙ before
