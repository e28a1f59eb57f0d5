-- Rows with their kinds, and one more of them.
use Rattle.std.proofs.Common.{◌≡◌, ℕ, ◌<◌, ◌+◌, Bool, List, [], ◌∷◌, ◌++◌, length, get_or, take, refl, ap, sym, ◌∙◌, arith, ℤ}
use Rattle.std.proofs.lemmas.List.{take_more, length-take-le, take_all, get_or_default}
use Rattle.lra_linear_spec.specs.{Descriptions.LinearRow, Kinds.is_equality, declared.ConKind.ConKind}
use Rattle.lra_systems.specs.LinearSystems.{LinearSystem, constraints, rows_by_kind}

pub constraints_push : {K : Type 0} (equal : K → Bool) (rows : List (List ℤ)) (kinds : List K) (r : List ℤ) (x : K) → length rows ≡ length kinds →
    rows_by_kind equal (rows ++ r ∷ []) (kinds ++ x ∷ []) ≡ rows_by_kind equal rows kinds ++ record { row = r; equal = equal x } ∷ []
constraints_push equal [] [] r x e = refl
constraints_push equal [] (y ∷ kinds) r x e = absurd (omega (arith, e))
constraints_push equal (q ∷ rows) [] r x e = absurd (omega (arith, e))
constraints_push equal (q ∷ rows) (y ∷ kinds) r x e = ap (λ (z : List LinearRow). record { row = q; equal = equal y } ∷ z) (constraints_push equal rows kinds r x (omega (arith, e)))

pub given_more : {K : Type 0} (equal : K → Bool) (rows : List (List ℤ)) (kinds : List K) (i : ℕ) (r : List ℤ) (k : K) → length rows ≡ length kinds → i < length rows → r ≡ get_or rows i r →
    k ≡ get_or kinds i k →
    rows_by_kind equal (take (i + 1) rows) (take (i + 1) kinds) ≡ rows_by_kind equal (take i rows) (take i kinds) ++ record { row = r; equal = equal k } ∷ []
given_more {K = K} equal rows kinds i r k n h er ek =
    ap (λ (x : List (List ℤ)). rows_by_kind equal x (take (i + 1) kinds)) (take_more rows i r h ∙ ap (λ (y : List ℤ). take i rows ++ y ∷ []) (sym er)) ∙
    ap (rows_by_kind equal (take i rows ++ r ∷ [])) (take_more kinds i k (omega (arith, n, h)) ∙ ap (λ (y : K). take i kinds ++ y ∷ []) (sym ek)) ∙
    constraints_push equal (take i rows) (take i kinds) r k (length-take-le i rows (omega (arith, h)) ∙ sym (length-take-le i kinds (omega (arith, n, h))))

pub all_given : {K : Type 0} (equal : K → Bool) (rows : List (List ℤ)) (kinds : List K) (i : ℕ) → length rows ≡ length kinds → i ≡ length rows →
    rows_by_kind equal (take i rows) (take i kinds) ≡ rows_by_kind equal rows kinds
all_given equal rows kinds i n e =
    ap (λ (x : List (List ℤ)). rows_by_kind equal x (take i kinds)) (take_all i rows (omega (arith, e))) ∙ ap (rows_by_kind equal rows) (take_all i kinds (omega (arith, e, n)))

-- a row that is put after the others
pub given_pushed : {K : Type 0} (equal : K → Bool) (rows : List (List ℤ)) (kinds : List K) (i : ℕ) (own : List (List ℤ)) → rows ≡ own → length kinds ≡ length own → i < length rows →
    (before after : List LinearRow) (g : LinearRow) (r : List ℤ) (d : K) → r ≡ get_or rows i r → after ≡ before ++ g ∷ [] → g ≡ record { row = r; equal = equal (get_or kinds i d) } →
    before ≡ rows_by_kind equal (take i rows) (take i kinds) →
    after ≡ rows_by_kind equal (take (i + 1) rows) (take (i + 1) kinds)
given_pushed {K = K} equal rows kinds i own eo n h before after g r d er ea eg eb =
    let n' : length rows ≡ length kinds = ap length eo ∙ sym n in
    ea ∙ ap (λ (l : List LinearRow). l ++ g ∷ []) eb ∙ ap (λ (x : LinearRow). rows_by_kind equal (take i rows) (take i kinds) ++ x ∷ []) eg ∙
    sym (given_more equal rows kinds i r (get_or kinds i d) n' h er (get_or_default kinds i d (get_or kinds i d) (omega (arith, h, n'))))

-- a constraint that is put after the others
pub constraints_pushed : (old new : LinearSystem ConKind) (r : List ℤ) (k : ConKind) → length old.kinds ≡ length old.rows → new.rows ≡ old.rows ++ r ∷ [] →
    new.kinds ≡ old.kinds ++ k ∷ [] → constraints new ≡ constraints old ++ record { row = r; equal = is_equality k } ∷ []
constraints_pushed old new r k n er ek =
    ap (λ (x : List (List ℤ)). rows_by_kind is_equality x new.kinds) er ∙ ap (rows_by_kind is_equality (old.rows ++ r ∷ [])) ek ∙ constraints_push is_equality old.rows old.kinds r k (sym n)
