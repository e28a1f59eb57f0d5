-- A call is added to the row of its caller, and to no other.
use Rattle.std.proofs.Common.{◌≡◌, ℕ, zero, suc, Bool, List, [], ◌∷◌, ◌++◌, map, if◌then◌else◌, get_or, set, Some, slice_get, append_assoc, inl, inr, refl, sym, ap, ◌∙◌}
use Rattle.std.proofs.{lemmas.Bool.Decides.eqb_tells, lemmas.Option.none-some, lemmas.Option.same_Some}
use Rattle.std.specs.{Prelude.Vec, Prelude.nat_eq, declared.alloc.Global.Global}

abbrev row_at : List (Vec ℕ Global) → ℕ → List ℕ
row_at rows j = get_or (map (λ row. row.items) rows) j []

own_row : (rows : List (Vec ℕ Global)) (i : ℕ) (old new : Vec ℕ Global) (x : ℕ) → slice_get rows i ≡ Some old → new.items ≡ old.items ++ x ∷ []
    → row_at (set rows i new) i ≡ row_at rows i ++ x ∷ []
own_row [] i old new x at e = absurd (none-some old at)
own_row (r ∷ rows) zero old new x at e = e ∙ ap (λ (v : Vec ℕ Global). v.items ++ x ∷ []) (sym (same_Some r old at))
own_row (r ∷ rows) (suc i) old new x at e = own_row rows i old new x at e

other_row : (rows : List (Vec ℕ Global)) (i j : ℕ) (new : Vec ℕ Global) → (i ≡ j → ⊥) → row_at (set rows i new) j ≡ row_at rows j
other_row [] zero j new apart = refl
other_row [] (suc i) j new apart = refl
other_row (r ∷ rows) zero zero new apart = absurd (apart refl)
other_row (r ∷ rows) zero (suc j) new apart = refl
other_row (r ∷ rows) (suc i) zero new apart = refl
other_row (r ∷ rows) (suc i) (suc j) new apart = other_row rows i j new (λ e. apart (ap suc e))

pub row_added : (rows : List (Vec ℕ Global)) (i j : ℕ) (old new : Vec ℕ Global) (x : ℕ) (rest : List ℕ) → slice_get rows i ≡ Some old → new.items ≡ old.items ++ x ∷ []
    → row_at (set rows i new) j ++ rest ≡ row_at rows j ++ (if nat_eq i j then x ∷ rest else rest)
row_added rows i j old new x rest at e = elim (eqb_tells i j) [
  | inl (same, is) ↦
      ap (λ n. row_at (set rows i new) n ++ rest) (sym is) ∙ ap (λ ks. ks ++ rest) (own_row rows i old new x at e) ∙ append_assoc (row_at rows i) (x ∷ []) rest
      ∙ ap (λ n. row_at rows n ++ x ∷ rest) is ∙ ap (λ (b : Bool). row_at rows j ++ (if b then x ∷ rest else rest)) (sym same)
  | inr (differ, apart) ↦
      ap (λ ks. ks ++ rest) (other_row rows i j new apart) ∙ ap (λ (b : Bool). row_at rows j ++ (if b then x ∷ rest else rest)) (sym differ)
]
