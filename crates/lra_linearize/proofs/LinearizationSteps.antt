-- Steps of the proofs on what is seen of expressions.
use Rattle.std.proofs.Common.{◌≡◌, ◌++◌, ℕ, ℤ, pos, negsuc, List, [], ◌∷◌, Option, Some, None, Bool, true, false, length, map, refl, sym, ap, subst, ◌∙◌, append_assoc}
use Rattle.std.proofs.lemmas.List.{map-append}
use Rattle.std.specs.Prelude.{◌-ℤ◌, ◌&&◌, if◌then◌else◌, int_le, IfOk}
use Rattle.std.specs.Prelude as handed
use Rattle.lra_linearize.specs.Crates.{lra_linear_forms.Form.Form, lra_linear_forms.Form.opposite_form, lra_program.Program.Expr, lra_program.Program.binary, lra_program.ProgramViews.chained}
use Rattle.lra_linearize.specs.Crates.{lra_program.ProgramViews.expr_view, lra_program.ProgramViews.operation_view, lra_program.Value.◌>>=◌, lra_program.declared.program.Operation.Operation}
use Rattle.lra_base.specs.{OperatorViews.operator_view, Operators.Operator}
use Rattle.lra_analysis_spec.specs.Linear.{fitting, combined_forms, is_constant, constant_form, form_of}
use Rattle.lra_analysis_spec.specs.Linearization.{extended, form_plus_one, division, share_form, share_of, linearized_from, linearized, linear_if, divided_if, subtracted, linearized_difference}
use Rattle.lra_analysis_spec.specs.declared.linearization.Linearized.TheVariants.{Linear, Divided, Unseen}
use Rattle.lra_analysis_spec.specs.{declared.linearization.Division.Division, declared.linearization.Linearized.Linearized}
use Rattle.lra_linearize.specs.Forms.{rest_form, share_by}
use Rattle.lra_linearize.proofs.FormSteps.{operation_is, chain_form, chain_none}

-- forms over two variables more ---------------------------------------------------------------------------------------------

-- two numbers after those that are there
two_pushed : (xs ys zs : List ℤ) (a b : ℤ) → ys ≡ xs ++ a ∷ [] → zs ≡ ys ++ b ∷ [] → zs ≡ xs ++ a ∷ b ∷ []
two_pushed xs ys zs a b one two = two ∙ ap (λ (ws : List ℤ). ws ++ b ∷ []) one ∙ append_assoc xs (a ∷ []) (b ∷ [])

pub extended_is : (f g : Form) (ys zs : List ℤ) (a b : ℤ) → g ≡ record { constant = f.constant; coefficients = zs } → ys ≡ f.coefficients ++ a ∷ []
    → zs ≡ ys ++ b ∷ [] → g ≡ extended f a b
extended_is f g ys zs a b is one two =
    is ∙ ap (λ (ws : List ℤ). record { constant = f.constant; coefficients = ws }) (two_pushed f.coefficients ys zs a b one two)

-- divisions -----------------------------------------------------------------------------------------------------------------

pub one_more_is : (f less_one : Form) (o : Option Form) → less_one ≡ constant_form (length f.coefficients) (negsuc 0) →
    o ≡ combined_forms (λ x y. x -ℤ y) f less_one
    → o ≡ form_plus_one f
one_more_is f less_one o is h = h ∙ ap (combined_forms (λ x y. x -ℤ y) f) is

module _ (f g : Form) where
  abbrev divides : Bool
  divides = is_constant g && int_le (pos 1) g.constant

  abbrev divided_by : Form → Division
  divided_by less = record { numerator = f; opposite = less; divisor = g.constant }

  abbrev by_opposite : Option Form → Option Division
  by_opposite o = o >>= λ less. Some (divided_by less)

  abbrev by_more : Option Form → Option Division
  by_more o = o >>= λ more. by_opposite (fitting (opposite_form f))

  abbrev if_divides : Bool → Option Division
  if_divides b = if b then by_more (form_plus_one f) else None

  -- the divisor is no number above 0; or a form of a case doesn't fit; or there is the division
  pub no_divisor : divides ≡ false → None ≡ division f g
  no_divisor is = ap if_divides (sym is)

  pub no_more : divides ≡ true → None ≡ form_plus_one f → None ≡ division f g
  no_more is none = ap by_more none ∙ ap if_divides (sym is)

  pub no_opposite : (more : Form) → divides ≡ true → Some more ≡ form_plus_one f → None ≡ fitting (opposite_form f) → None ≡ division f g
  no_opposite more is some none = ap by_opposite none ∙ ap by_more some ∙ ap if_divides (sym is)

  pub division_is : (more less : Form) → divides ≡ true → Some more ≡ form_plus_one f → Some less ≡ fitting (opposite_form f) →
      Some (divided_by less) ≡ division f g
  division_is more less is some also = ap by_opposite also ∙ ap by_more some ∙ ap if_divides (sym is)

-- chains --------------------------------------------------------------------------------------------------------------------

-- the last operation of a chain
pub chained_last : (e : Expr) (os : List (Operator × Expr)) (o : Operator × Expr) → chained e (os ++ o ∷ []) ≡ binary o.0 (chained e os) o.1
chained_last e [] o = refl
chained_last e (p ∷ os) o = chained_last (binary p.0 e p.1) os o

pub chain_cut : (e : Expr) (os front : List Operation) (last : Operation) → os ≡ front ++ last ∷ []
    → chained e (map operation_view os) ≡ binary (operator_view last.operator) (chained e (map operation_view front)) (expr_view last.operand)
chain_cut e os front last cut =
    ap (λ (ps : List Operation). chained e (map operation_view ps)) cut ∙ ap (chained e) (map-append operation_view front (last ∷ [])) ∙
    chained_last e (map operation_view front) (operation_view last) ∙
    ap (λ (p : Operator × Expr). binary p.0 (chained e (map operation_view front)) p.1) (operation_is last)

module _ (live base : ℕ) (e : Expr) (os : List (Operator × Expr)) where
  abbrev from_first : Option Form → Option Form
  from_first o = rest_form live base o os

  pub front_none : None ≡ form_of live base e → None ≡ form_of live base (chained e os)
  front_none none = sym (chain_none live base os) ∙ ap from_first none ∙ sym (chain_form live base e os)

  pub front_is : (f : Form) → Some f ≡ form_of live base e → rest_form live base (Some f) os ≡ form_of live base (chained e os)
  front_is f some = ap from_first some ∙ sym (chain_form live base e os)

-- what is seen of a division --------------------------------------------------------------------------------------------------

module _ (live base : ℕ) (h f : Form) (e : Expr) where
  abbrev with_form : Option Division → Option (Division × Form)
  with_form o = o >>= λ d. Some (d, h)

  abbrev seen_by : Option Form → Linearized
  seen_by o = linearized_from None (o >>= λ g. with_form (division f g))

  pub by_none : None ≡ form_of live base e → Unseen ≡ linearized_from None (share_by live base h f e)
  by_none none = ap seen_by none

  pub by_unseen : (g : Form) → Some g ≡ form_of live base e → None ≡ division f g → Unseen ≡ linearized_from None (share_by live base h f e)
  by_unseen g some none = ap (λ (o : Option Division). linearized_from None (with_form o)) none ∙ ap seen_by some

  pub by_seen : (g : Form) (d : Division) → Some g ≡ form_of live base e → Some d ≡ division f g → Divided d h ≡ linearized_from None (share_by live base h f e)
  by_seen g d some also = ap (λ (o : Option Division). linearized_from None (with_form o)) also ∙ ap seen_by some

module _ (live base : ℕ) (op : Operator) (a b : Expr) where
  abbrev seen_over : Form → Option Form → Linearized
  seen_over h o = linearized_from None (o >>= λ f. share_by live base h f b)

  abbrev seen_with : Option Form → Linearized
  seen_with o = linearized_from None (o >>= λ h. form_of live base a >>= λ f. share_by live base h f b)

  -- the parts of a division, as they are found
  pub share_none : None ≡ share_form live op → Unseen ≡ linearized_from None (share_of live base (binary op a b))
  share_none none = ap seen_with none

  pub share_no_front : (h : Form) → Some h ≡ share_form live op → None ≡ form_of live base a →
      Unseen ≡ linearized_from None (share_of live base (binary op a b))
  share_no_front h some none = ap (seen_over h) none ∙ ap seen_with some

  pub share_is : (h f : Form) → Some h ≡ share_form live op → Some f ≡ form_of live base a
      → linearized_from None (share_by live base h f b) ≡ linearized_from None (share_of live base (binary op a b))
  share_is h f some also = ap (seen_over h) also ∙ ap seen_with some

-- an expression with a linear form, or without one
pub seen_linear : (live base : ℕ) (e : Expr) (f : Form) → Some f ≡ form_of live base e → Linear f ≡ linearized live base e
seen_linear live base e f some = ap (λ (o : Option Form). linearized_from o (share_of live base e)) some

pub seen_share : (live base : ℕ) (e : Expr) → None ≡ form_of live base e → linearized_from None (share_of live base e) ≡ linearized live base e
seen_share live base e none = ap (λ (o : Option Form). linearized_from o (share_of live base e)) none

-- differences ---------------------------------------------------------------------------------------------------------------

pub linear_differs : (f g : Form) (o : Option Form) (s : Linearized) → o ≡ combined_forms (λ x y. x -ℤ y) f g → s ≡ linear_if o →
    s ≡ subtracted (Linear f) (Linear g)
linear_differs f g o s is seen = seen ∙ ap linear_if is

pub divided_right : (d : Division) (f g wide : Form) (o : Option Form) → wide ≡ extended f (pos 0) (pos 0) → o ≡ combined_forms (λ x y. x -ℤ y) wide g
    → divided_if d o ≡ subtracted (Linear f) (Divided d g)
divided_right d f g wide o more is = ap (divided_if d) (is ∙ ap (λ (w : Form). combined_forms (λ x y. x -ℤ y) w g) more)

pub divided_left : (d : Division) (f g wide : Form) (o : Option Form) → wide ≡ extended g (pos 0) (pos 0) → o ≡ combined_forms (λ x y. x -ℤ y) f wide
    → divided_if d o ≡ subtracted (Divided d f) (Linear g)
divided_left d f g wide o more is = ap (divided_if d) (is ∙ ap (combined_forms (λ x y. x -ℤ y) f) more)

pub difference_is_seen : (live base : ℕ) (a b : Expr) (s t : Linearized) → s ≡ linearized live base a → t ≡ linearized live base b
    → subtracted s t ≡ linearized_difference live base a b
difference_is_seen live base a b s t one two = ap (λ (u : Linearized). subtracted u t) one ∙ ap (subtracted (linearized live base a)) two

-- what is handed on, by an equal one
pub handed_on : {A E : Type 0} (R : handed.Result A E) (x y : A) → x ≡ y → IfOk R (λ z. z ≡ x) → IfOk R (λ z. z ≡ y)
handed_on {A} R x y same h = subst (λ (w : A). IfOk R (λ z. z ≡ w)) same h
