-- Steps of the proofs on linear forms.
use Rattle.std.proofs.Common.{rules, ◌≡◌, ◌+◌, ◌<◌, map, drop, drop-cons, get_or, length, ℕ, zero, suc, ℤ, pos, ◌++◌, List, [], ◌∷◌, Option, Some, None, Bool, true, false, refl, sym, ap, subst, ◌∙◌}
use Rattle.std.proofs.lemmas.Option.{same_Some}
use Rattle.std.proofs.{Common.append_assoc, Common.FitsSigned, Common.arith, Common.◌≤◌, Common.◌^◌, Common.inl, Common.inr, Common.le-ltb, Common.lt-ltb, lemmas.Bool.and_from, lemmas.Bool.and_parts}
use Rattle.std.proofs.{lemmas.Int.ints, lemmas.List.Elements.All-nil, lemmas.List.Elements.All-cons, lemmas.List.Elements.All-head, lemmas.List.Elements.All-tail}
use Rattle.std.specs.{Int.w64, List.All, List.list_all, Option.SomeIff, Prelude.◌&&◌, Prelude.◌⊎◌, Prelude.if◌then◌else◌, Prelude.replicate}
use Rattle.lra_base.specs.{OperatorViews.operator_view, Operators.Operator, declared.number_types.NumberType.TheVariants.Long}
use Rattle.lra_linearize.specs.Crates.lra_program.ProgramViews.{chained, expr_view, operation_view}
use Rattle.lra_linearize.specs.Crates.{lra_linear_forms.Form.Form, lra_linear_forms.Form.FormFits, lra_program.Program.Expr, lra_program.Program.binary, lra_program.Value.◌>>=◌}
use Rattle.lra_linearize.specs.Crates.{lra_program.Value.number, lra_program.Value.is_word, lra_program.declared.program.Expr.the_lemmas, lra_program.declared.program.Operation.Operation}
use Rattle.lra_analysis_spec.specs.Linear as linear
use Rattle.lra_analysis_spec.specs.Linear.{live_form, variable_form}
use Rattle.lra_linearize.specs.Forms.{rest_form}

-- of all numbers these are there, and these come; those that are there have 64 bits
pub record SoFar (all there left : List ℤ) : Type 0 where
  pub is : all ≡ there ++ left
  pub words : list_all is_word all ≡ list_all is_word left

word_is : (z x : ℤ) (b : Bool) → is_word z ≡ b → Some x ≡ (if b then Some z else None) → (x ≡ z) × (b ≡ true)
word_is z x true is e = (same_Some x z e, refl)
word_is z x false is e = cc

-- one more of them
pub so_far_next : (all there left : List ℤ) (z x : ℤ) → SoFar all there (z ∷ left) → Some x ≡ number Long z → SoFar all (there ++ x ∷ []) left
so_far_next all there left z x so_far e =
    let fits = word_is z x (is_word z) refl e in
    record {
      is = so_far.is ∙ ap (λ (y : ℤ). there ++ y ∷ left) (sym fits.0) ∙ sym (append_assoc there (x ∷ []) left);
      words = so_far.words ∙ ap (λ (b : Bool). b && list_all is_word left) fits.1;
    }

zeros_words : (n : ℕ) → list_all is_word (replicate n (pos 0)) ≡ true
zeros_words zero = refl
zeros_words (suc n) = zeros_words n

word_fits : (z : ℤ) → FitsSigned w64 z → is_word z ≡ true
word_fits z h = grind (arith, ints)

fits_word : (z : ℤ) → is_word z ≡ true → FitsSigned w64 z
fits_word z h = grind (arith, ints)

-- a list of words, by test and by what it says
all_words : (cs : List ℤ) → list_all is_word cs ≡ true → All (FitsSigned w64) cs
all_words [] h = All-nil (FitsSigned w64)
all_words (c ∷ cs) h = let both = and_parts (is_word c) (list_all is_word cs) h in All-cons (FitsSigned w64) c cs (fits_word c both.0) (all_words cs both.1)

words_all : (cs : List ℤ) → All (FitsSigned w64) cs → list_all is_word cs ≡ true
words_all [] h = refl
words_all (c ∷ cs) h = and_from (is_word c) (list_all is_word cs) (word_fits c (All-head (FitsSigned w64) c cs h)) (words_all cs (All-tail (FitsSigned w64) c cs h))

-- a form that is given exactly if its numbers have 64 bits
pub fitting_is : (f : Form) (o : Option Form) → SomeIff o (FormFits f) f → o ≡ linear.fitting f
fitting_is f None unfit = decide (is_word f.constant && list_all is_word f.coefficients) refl
  where
    decide : (b : Bool) → is_word f.constant && list_all is_word f.coefficients ≡ b → None ≡ linear.fitting f
    decide false e = rw e refl
    decide true e =
        let both = and_parts (is_word f.constant) (list_all is_word f.coefficients) e in
        absurd (unfit (record { constant_fits = fits_word f.constant both.0; coefficients_fit = all_words f.coefficients both.1 }))
fitting_is f (Some g) (fits, same) =
    rw (and_from (is_word f.constant) (list_all is_word f.coefficients) (word_fits f.constant fits.constant_fits) (words_all f.coefficients fits.coefficients_fit)) (ap Some same)

form_if : (b : Bool) (f : Form) → b ≡ true → Some f ≡ (if b then Some f else None)
form_if true f e = refl
form_if false f e = absurd (let no : false ≡ true = e in cc)

-- a literal of 64 bits
pub literal_form : (live n : ℕ) (k : ℤ) (f : Form) → k ≡ pos n → FitsSigned w64 k → f ≡ linear.constant_form live k → Some f ≡ linear.fitting (linear.constant_form live (pos n))
literal_form live n k f same fits is =
    let word_n : is_word (pos n) ≡ true = subst (λ (z : ℤ). is_word z ≡ true) same (word_fits k fits) in
    let all : (is_word (pos n) && list_all is_word (replicate live (pos 0))) ≡ true = rw (word_n, zeros_words live) refl in
    ap (λ (g : Form). Some g) is ∙ ap (λ (z : ℤ). Some (linear.constant_form live z)) same ∙
    form_if (is_word (pos n) && list_all is_word (replicate live (pos 0))) (linear.constant_form live (pos n)) all

-- a chain goes on from what is there
pub chain_form : (live base : ℕ) (e : Expr) (os : List (Operator × Expr)) → linear.form_of live base (chained e os) ≡ rest_form live base (linear.form_of live base e) os
chain_form live base e [] = refl
chain_form live base e (o ∷ os) = chain_form live base (binary o.0 e o.1) os

pub chain_none : (live base : ℕ) (os : List (Operator × Expr)) → rest_form live base None os ≡ None
chain_none live base [] = refl
chain_none live base (o ∷ os) = chain_none live base os

pub operation_is : (o : Operation) → operation_view o ≡ (operator_view o.operator, expr_view o.operand)
operation_is o = search (rules, the_lemmas)

-- the chain as far as operation i, with the form f
module _ (live base : ℕ) (first : Option Form) (f : Form) (os : List Operation) (i : ℕ) (o : Operation) where
  abbrev pub ChainAt : Form → ℕ → Type 0
  ChainAt g n = rest_form live base (Some g) (map operation_view (drop n os)) ≡ rest_form live base first (map operation_view os)

  behind_is : i < length os → o ≡ get_or os i o → ChainAt f i
      → rest_form live base (linear.form_of live base (expr_view o.operand) >>= λ y. linear.operator_form (operator_view o.operator) f y) (map operation_view (drop (i + 1) os)) ≡
      rest_form live base first (map operation_view os)
  behind_is below is so_far =
      let split : drop i os ≡ o ∷ drop (i + 1) os = drop-cons os i o below ∙ ap (λ (x : Operation). x ∷ drop (suc i) os) (sym is) ∙
      ap (λ (n : ℕ). o ∷ drop n os) (let one : suc i ≡ i + 1 = omega arith in one) in
      let here = subst (λ (xs : List Operation). rest_form live base (Some f) (map operation_view xs) ≡ rest_form live base first (map operation_view os)) split so_far in
      subst (λ (p : Operator × Expr). rest_form live base (linear.form_of live base p.1 >>= λ y. linear.operator_form p.0 f y) (map operation_view (drop (i + 1) os)) ≡
      rest_form live base first (map operation_view os))
      (operation_is o) here

  -- an operand without a form
  pub chain_stops : i < length os → o ≡ get_or os i o → ChainAt f i → None ≡ linear.form_of live base (expr_view o.operand) → None ≡ rest_form live base first (map operation_view os)
  chain_stops below is so_far none =
      let whole = behind_is below is so_far in
      let it = rw (← none) at whole in
      sym (chain_none live base (map operation_view (drop (i + 1) os))) ∙ it

  -- an operand with which the operator makes no form
  pub chain_fails : (y : Form) → i < length os → o ≡ get_or os i o → ChainAt f i → Some y ≡ linear.form_of live base (expr_view o.operand)
      → None ≡ linear.operator_form (operator_view o.operator) f y → None ≡ rest_form live base first (map operation_view os)
  chain_fails y below is so_far some none =
      let whole = behind_is below is so_far in
      let it = rw (← some, ← none) at whole in
      sym (chain_none live base (map operation_view (drop (i + 1) os))) ∙ it

  pub chain_next : (y z : Form) → i < length os → o ≡ get_or os i o → ChainAt f i → Some y ≡ linear.form_of live base (expr_view o.operand)
      → Some z ≡ linear.operator_form (operator_view o.operator) f y → ChainAt z (i + 1)
  chain_next y z below is so_far some also =
      let whole = behind_is below is so_far in
      rw (← some, ← also) at whole

-- ---- variables by their place in the store; one that is past all that may live is given by another such place
live_past : (live k : ℕ) → live ≤ k → None ≡ live_form live k
live_past live k h = ap (λ (b : Bool). if b then Some (variable_form live k) else None) (sym (le-ltb k live h))

pub live_none : (live n k : ℕ) → live < 2 ^ 62 → (n ≡ k) ⊎ ((2 ^ 62 ≤ n) × (2 ^ 62 ≤ k)) → live ≤ n → None ≡ live_form live k
live_none live n k few (inl same) past = subst (λ (j : ℕ). None ≡ live_form live j) same (live_past live n past)
live_none live n k few (inr (far, further)) past = live_past live k (omega (arith, few, further))

pub live_some : (live n k : ℕ) (f : Form) → live < 2 ^ 62 → (n ≡ k) ⊎ ((2 ^ 62 ≤ n) × (2 ^ 62 ≤ k)) → n < live → f ≡ variable_form live n → Some f ≡ live_form live k
live_some live n k f few (inl same) lives is =
    ap Some is ∙ ap (λ (b : Bool). if b then Some (variable_form live n) else None) (sym (lt-ltb n live lives)) ∙ ap (live_form live) same
live_some live n k f few (inr (far, further)) lives is = absurd (omega (arith, few, far, lives))
