-- Steps of the proofs on what is listed of accesses.
use Rattle.std.proofs.Common.{◌≡◌, ◌∙◌, ◌+◌, ◌<◌, ℕ, List, [], ◌∷◌, ◌++◌, length, map, drop, get_or, sym, ap, Ok, Err, Result, OnOk, append_assoc, append-nil}
use Rattle.std.proofs.lemmas.List.{drop_more, map-append}
use Rattle.lra_bounds_checks.specs.Crates.lra_base.Operators.{Operator}
use Rattle.lra_program.specs.ProgramViews.{all_of, any_of, chained, expr_view, operation_view}
use Rattle.lra_program.specs.{Accesses.expr_accesses, Accesses.cond_accesses, Program.Expr, Program.Element, Program.binary, Program.Cond, declared.program.Operation.Operation}
use Rattle.lra_bounds_checks.proofs.Crates.lra_linearize.FormSteps.{operation_is}
use Rattle.lra_bounds_checks.specs.{Listed.access_view, Listed.operand_accesses, Listed.side_accesses, declared.listing.Access.Access}

-- chains ---------------------------------------------------------------------------------------------------------------

-- a chain's accesses are its first operand's, then those of the others
pub chained_accesses : (e : Expr) (os : List (Operator × Expr)) → expr_accesses (chained e os) ≡ expr_accesses e ++ operand_accesses os
chained_accesses e [] = sym (append-nil (expr_accesses e))
chained_accesses e (o ∷ os) = chained_accesses (binary o.0 e o.1) os ∙ append_assoc (expr_accesses e) (expr_accesses o.1) (operand_accesses os)

pub all_accesses : (c : Cond) (ds : List Cond) → cond_accesses (all_of c ds) ≡ cond_accesses c ++ side_accesses ds
all_accesses c [] = sym (append-nil (cond_accesses c))
all_accesses c (d ∷ ds) = ap (λ (xs : List Element). cond_accesses c ++ xs) (all_accesses d ds)

pub any_accesses : (c : Cond) (ds : List Cond) → cond_accesses (any_of c ds) ≡ cond_accesses c ++ side_accesses ds
any_accesses c [] = sym (append-nil (cond_accesses c))
any_accesses c (d ∷ ds) = ap (λ (xs : List Element). cond_accesses c ++ xs) (any_accesses d ds)

-- after others --------------------------------------------------------------------------------------------------------

-- the one after them, and then the other
pub both_behind : (old mid new xs ys zs : List Element) → mid ≡ old ++ xs → new ≡ mid ++ ys → zs ≡ xs ++ ys → new ≡ old ++ zs
both_behind old mid new xs ys zs one two is =
    two ∙ ap (λ (us : List Element). us ++ ys) one ∙ append_assoc old xs ys ∙ ap (λ (us : List Element). old ++ us) (sym is)

-- if there was memory for the other
pub ok_behind : {T E : Type 0} (r : Result T E) (old mid new xs ys zs : List Element) → mid ≡ old ++ xs → OnOk r (new ≡ mid ++ ys) → zs ≡ xs ++ ys
    → OnOk r (new ≡ old ++ zs)
ok_behind (Ok x) old mid new xs ys zs one two is = both_behind old mid new xs ys zs one two is
ok_behind (Err x) old mid new xs ys zs one two is = tt

-- one more in the list of the code
pub one_behind : (before : List Element) (old new : List Access) (x : Access) (y : Element) (xs zs : List Element) → map access_view old ≡ before ++ xs →
    new ≡ old ++ x ∷ [] → access_view x ≡ y → zs ≡ xs ++ y ∷ [] → map access_view new ≡ before ++ zs
one_behind before old new x y xs zs so_far is same all =
    both_behind before (map access_view old) (map access_view new) xs (y ∷ []) zs so_far
    (ap (map access_view) is ∙ map-append access_view old (x ∷ []) ∙ ap (λ (z : Element). map access_view old ++ z ∷ []) same) all

-- rows -----------------------------------------------------------------------------------------------------------------

-- what is listed so far, with what the rest has, is the whole; the next of the row comes after
pub next_behind : {A : Type 0} (own : A → List Element) (rest : List A → List Element) → ((x : A) (xs : List A) → rest (x ∷ xs) ≡ own x ++ rest xs)
    → (so_far new whole : List Element) (row : List A) (i : ℕ) (x : A) → i < length row → x ≡ get_or row i x → so_far ++ rest (drop i row) ≡ whole →
    new ≡ so_far ++ own x → new ++ rest (drop (i + 1) row) ≡ whole
next_behind {A} own rest splits so_far new whole row i x inside is before one =
    let split : drop i row ≡ x ∷ drop (i + 1) row = drop_more row i x inside ∙ ap (λ (y : A). y ∷ drop (i + 1) row) (sym is) in
    ap (λ (us : List Element). us ++ rest (drop (i + 1) row)) one ∙ append_assoc so_far (own x) (rest (drop (i + 1) row)) ∙
    ap (λ (us : List Element). so_far ++ us) (sym (ap rest split ∙ splits x (drop (i + 1) row))) ∙ before

-- a chain's operands
abbrev pub operand_own : Operation → List Element
operand_own o = expr_accesses (expr_view o.operand)

abbrev pub operand_rest : List Operation → List Element
operand_rest os = operand_accesses (map operation_view os)

pub operand_splits : (o : Operation) (os : List Operation) → operand_rest (o ∷ os) ≡ operand_own o ++ operand_rest os
operand_splits o os = ap (λ (p : Operator × Expr). expr_accesses p.1 ++ operand_rest os) (operation_is o)
