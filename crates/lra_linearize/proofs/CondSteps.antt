-- Steps of the proofs on tests and conditions.
use Rattle.std.proofs.Common.{rules, Box, Vec, Global, ◌≡◌, ℕ, ℤ, pos, List, [], ◌∷◌, Option, Some, None, true, false, length, map, refl, sym, ap, ◌∙◌, subst, arith}
use Rattle.std.proofs.lemmas.Int.{ints}
use Rattle.std.specs.Prelude.{◌-ℤ◌, replicate}
use Rattle.lra_linearize.specs.Crates.lra_program.declared.program.Cond.{All, Any, the_lemmas}
use Rattle.lra_linearize.specs.Crates.{lra_domain.Moves.Moves, lra_domain.Moves.first_then, lra_domain.Moves.join_of, lra_linear_forms.Form.Form, lra_program.Program.Expr, lra_program.Program.binary}
use Rattle.lra_linearize.specs.Crates.{lra_program.Program.Cond, lra_program.ProgramViews.all_of, lra_program.ProgramViews.any_of, lra_program.ProgramViews.cond_view}
use Rattle.lra_base.specs.Operators.{minus}
use Rattle.lra_linearize.specs.Crates.lra_program.declared.program.Cond as declared_cond
use Rattle.lra_analysis_spec.specs.{Linear.entrywise, Linear.combined_forms, Linear.fitting, Linear.constant_form, Linear.less_by, Linear.form_of, Linear.difference_form, MovesOf.guard}
use Rattle.lra_analysis_spec.proofs.FormLemmas.{form_wide}
use Rattle.lra_linearize.specs.Conditions.{in_turn_of}
use Rattle.lra_linearize.specs.Conditions as chains

-- forms and one -----------------------------------------------------------------------------------------------------------

minus_zeros : (cs : List ℤ) → entrywise (λ x y. x -ℤ y) cs (replicate (length cs) (pos 0)) ≡ cs
minus_zeros [] = refl
minus_zeros (c ∷ cs) = let e : c -ℤ pos 0 ≡ c = omega (arith, ints) in ap (λ (x : ℤ). x ∷ entrywise (λ x y. x -ℤ y) cs (replicate (length cs) (pos 0))) e ∙
    ap (λ (xs : List ℤ). c ∷ xs) (minus_zeros cs)

-- d - n
pub less_by_is : (n : ℕ) (d constant : Form) (o : Option Form) → constant ≡ constant_form (length d.coefficients) (pos n) → o ≡ combined_forms (λ x y. x -ℤ y) d constant
    → o ≡ less_by n d
less_by_is n d constant o is h =
    h ∙ ap (combined_forms (λ x y. x -ℤ y) d) is ∙ ap (λ (cs : List ℤ). fitting (record { constant = d.constant -ℤ pos n; coefficients = cs })) (minus_zeros d.coefficients)

-- differences -------------------------------------------------------------------------------------------------------------

pub difference_none : (live base : ℕ) (a b : Expr) → None ≡ form_of live base a → None ≡ difference_form live base a b
difference_none live base a b h = rw (← h) refl

pub difference_no_right : (live base : ℕ) (a b : Expr) (f : Form) → Some f ≡ form_of live base a → None ≡ form_of live base b → None ≡ difference_form live base a b
difference_no_right live base a b f h k = rw (← h, ← k) refl

pub difference_is : (live base : ℕ) (a b : Expr) (f g : Form) (o : Option Form) → Some f ≡ form_of live base a → Some g ≡ form_of live base b
    → o ≡ combined_forms (λ x y. x -ℤ y) f g → o ≡ difference_form live base a b
difference_is live base a b f g o h k is = rw (← h, ← k) is

-- chains --------------------------------------------------------------------------------------------------------------------

module _ (live base : ℕ) where
  pub all_true : (c : Cond) (cs : List Cond) → guard live base true (all_of c cs) ≡ in_turn_of live base true c cs
  all_true c [] = refl
  all_true c (d ∷ ds) = ap (first_then (guard live base true c)) (all_true d ds)

  pub any_false : (c : Cond) (cs : List Cond) → guard live base false (any_of c cs) ≡ in_turn_of live base false c cs
  any_false c [] = refl
  any_false c (d ∷ ds) = ap (first_then (guard live base false c)) (any_false d ds)

  pub all_false : (c : Cond) (cs : List Cond) → guard live base false (all_of c cs) ≡ chains.either_of live base false c cs
  all_false c [] = refl
  all_false c (d ∷ ds) = ap (λ (p : Moves). join_of (guard live base false c) (first_then (guard live base true c) p)) (all_false d ds)

  pub any_true : (c : Cond) (cs : List Cond) → guard live base true (any_of c cs) ≡ chains.either_of live base true c cs
  any_true c [] = refl
  any_true c (d ∷ ds) = ap (λ (p : Moves). join_of (guard live base true c) (first_then (guard live base false c) p)) (any_true d ds)

-- a difference has a coefficient for each live variable
pub difference_wide : (live base : ℕ) (a b : Expr) (d : Form) → Some d ≡ difference_form live base a b → length d.coefficients ≡ live
difference_wide live base a b d h = (form_wide live base (binary minus a b) d (sym h)).width

pub all_view : (first : Box declared_cond.Cond Global) (rest : Vec declared_cond.Cond Global) → cond_view (All first rest) ≡ all_of (cond_view first.value) (map cond_view rest.items)
all_view first rest = search (rules, the_lemmas)

pub any_view : (first : Box declared_cond.Cond Global) (rest : Vec declared_cond.Cond Global) → cond_view (Any first rest) ≡ any_of (cond_view first.value) (map cond_view rest.items)
any_view first rest = search (rules, the_lemmas)

pub difference_there : (live n base : ℕ) (a b : Expr) (o : Option Form) (d : Form) → live ≡ n → o ≡ Some d → o ≡ difference_form live base a b → Some d ≡ difference_form n base a b
difference_there live n base a b o d e is h = subst (λ (k : ℕ). Some d ≡ difference_form k base a b) e (subst (λ (x : Option Form). x ≡ difference_form live base a b) is h)
