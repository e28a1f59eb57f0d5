-- What a call gives, one argument after the other.
use Rattle.std.proofs.Common.{◌≡◌, ◌⊎◌, suc, List, [], ◌∷◌, ◌++◌, length, map, arith, refl, sym, ap, ◌∙◌, append_assoc, inl, inr}
use Rattle.std.proofs.lemmas.List.{map-append, append-nil}
use Rattle.lra_base.specs.declared.number_types.NumberType.{NumberType}
use Rattle.lra_program.specs.{ProgramViews.argument_view, ProgramViews.expr_view, Step.arguments_for, declared.program.Argument.Argument, declared.program.Expr.Expr}
use Rattle.lra_program.specs.Value as value
use Rattle.lra_program.specs.Program as program

abbrev argument_of : NumberType → program.Expr → value.Argument
argument_of t e = record { number_type = t; value = e }

-- the copy after those so far is that of the first one left
pub pair_taken : (given now : List Argument) (t : NumberType) (ts : List NumberType) (e : Expr) (es : List Expr) (copy : Expr) (all : List value.Argument)
    (types : List NumberType) (left : List Expr) → types ≡ t ∷ ts → left ≡ e ∷ es → expr_view copy ≡ expr_view e → now ≡ given ++ record { number_type = t; value = copy } ∷ []
    → map argument_view given ++ arguments_for types (map expr_view left) ≡ all → map argument_view now ++ arguments_for ts (map expr_view es) ≡ all
pair_taken given now t ts e es copy all types left a b same pushed so =
    let here : List Argument = record { number_type = t; value = copy } ∷ [] in
    ap (λ xs. map argument_view xs ++ arguments_for ts (map expr_view es)) pushed ∙
    ap (λ xs. xs ++ arguments_for ts (map expr_view es)) (map-append argument_view given here) ∙
    append_assoc (map argument_view given) (map argument_view here) (arguments_for ts (map expr_view es)) ∙
    ap (λ x. map argument_view given ++ argument_of t x ∷ arguments_for ts (map expr_view es)) same ∙
    sym (ap (λ xs. map argument_view given ++ arguments_for xs (map expr_view left)) a ∙
    ap (λ xs. map argument_view given ++ arguments_for (t ∷ ts) (map expr_view xs)) b) ∙ so

none_left : (types : List NumberType) (left : List program.Expr) → (types ≡ []) ⊎ (left ≡ []) → arguments_for types left ≡ []
none_left [] left either = refl
none_left (t ∷ ts) [] either = refl
none_left (t ∷ ts) (e ∷ es) (inl same) = absurd cc
none_left (t ∷ ts) (e ∷ es) (inr same) = absurd cc

no_views : (left : List Expr) → left ≡ [] → map expr_view left ≡ []
no_views left e = ap (map expr_view) e

-- if one of the two lists ends
pub pairs_end : (given : List Argument) (all : List value.Argument) (types : List NumberType) (left : List Expr) → (types ≡ []) ⊎ (left ≡ [])
    → map argument_view given ++ arguments_for types (map expr_view left) ≡ all → map argument_view given ≡ all
pairs_end given all types left (inl none) so =
    sym (append-nil (map argument_view given)) ∙ ap (λ xs. map argument_view given ++ xs) (sym (none_left types (map expr_view left) (inl none))) ∙ so
pairs_end given all types left (inr none) so =
    sym (append-nil (map argument_view given)) ∙ ap (λ xs. map argument_view given ++ xs) (sym (none_left types (map expr_view left) (inr (no_views left none)))) ∙ so

-- as many as there are parameters
pub given_width : (ts : List NumberType) (es : List program.Expr) → length es ≡ length ts → length (arguments_for ts es) ≡ length ts
given_width [] es e = refl
given_width (t ∷ ts) [] e = absurd cc
given_width (t ∷ ts) (a ∷ es) e = ap suc (given_width ts es (omega (arith, e)))
