-- The linear form of an expression has the expression's value wherever there is one, and the test of a comparison passes exactly if
-- the comparison is true.
use Rattle.std.proofs.Common.{◌≡◌, ℕ, zero, suc, ℤ, pos, negsuc, ◌+ℤ◌, ◌*ℤ◌, List, [], ◌∷◌, Option, Some, None, Bool, true, false, length, refl, sym, ap, subst, ◌∙◌, arith, inl, inr}
use Rattle.std.proofs.{lemmas.Bool.and_parts, lemmas.Int.ints, lemmas.List.length-set}
use Rattle.std.specs.List.{list_all}
use Rattle.std.specs.Prelude.{◌-ℤ◌, ◌≤ℤ◌, map, replicate, slice_set, slice_get, if◌then◌else◌, ◌&&◌, IsTrue, ◌↔◌, ◌⊎◌, int_lt, int_le, nat_lt, not, neg_ℤ}
use Rattle.lra_analysis_spec.specs.Crates.lra_base.Operators.{Operator, plus, minus, times, over, modulo, Comparison, below, at_most, above, at_least, equal, differs}
use Rattle.lra_analysis_spec.specs.Crates.lra_linear_forms.Form.{Form, form_value, opposite_form}
use Rattle.lra_analysis_spec.specs.Crates.lra_program.Program.{Expr, literal, read, input, negate, binary, element, type_of, compare}
use Rattle.lra_analysis_spec.specs.Crates.lra_program.Value.{◌>>=◌, number, is_word, is_zero, index_of, Environment, apply, compares, value_of, truth_of}
use Rattle.lra_analysis_spec.specs.Crates.{lra_base.NumberTypes.fits, lra_base.NumberTypes.wider, lra_base.declared.number_types.NumberType.NumberType, lra_linear_forms.declared.test.Test.Test}
use Rattle.lra_analysis_spec.specs.Crates.{lra_linear_spec.Vectors.product, lra_linear_spec.declared.ConKind.TheVariants.Ge, lra_linear_spec.declared.ConKind.TheVariants.Eq}
use Rattle.lra_analysis_spec.proofs.Crates.lra_linear_spec.Ring.{ring, v, ⊖, ◌⊕◌, ◌⊗◌}
use Rattle.lra_analysis_spec.proofs.Crates.{lra_linear_forms.FormLemmas.product_negated, lra_linear_spec.Products.product_none, lra_program.TypeLaws.bind_some}
use Rattle.lra_analysis_spec.specs.Linear.{fitting, entrywise, combined_forms, scaled, is_constant, operator_form, constant_form, live_form, variable_form, form_of, form_in, exactly}
use Rattle.lra_analysis_spec.specs.Linear.{OperatorFormsAreExact, FormsAreRight, TestHolds, negated_form, less_by, less_one, at_least_zero, comparison_test, difference_in, TestsAreRight}
use Rattle.lra_analysis_spec.specs.Linear.{DiffersIsRight}

-- of two pairs that are there
pub some_first : {A B : Type 0} (x y : A) (u w : B) → (let p : A × B = (x, u) in Some p) ≡ (let q : A × B = (y, w) in Some q) → x ≡ y
some_first {A} {B} x y u w e =
    let p : A × B = (x, u) in
    let q : A × B = (y, w) in
    let same : p ≡ q = cc in
    ap (λ (r : A × B). r.0) same

pub pair_first : {A B : Type 0} (p q : A × B) → Some p ≡ Some q → p.0 ≡ q.0
pair_first {A} {B} p q e =
    let same : p ≡ q = cc in
    ap (λ (r : A × B). r.0) same

pub if_some : {A : Type 0} (b : Bool) (x y : A) → (if b then Some x else None) ≡ Some y → x ≡ y
if_some true x y e = cc
if_some false x y e = cc

pub fitting_same : (f g : Form) → fitting f ≡ Some g → f ≡ g
fitting_same f g e = if_some (is_word f.constant && list_all is_word f.coefficients) f g e

pub number_same : (t : NumberType) (x y : ℤ) → number t x ≡ Some y → x ≡ y
number_same t x y e = if_some (fits t x) x y e

-- the forms before they are held to 64 bits
abbrev combination : (ℤ → ℤ → ℤ) → Form → Form → Form
combination op f g = record { constant = op f.constant g.constant; coefficients = entrywise op f.coefficients g.coefficients }

abbrev multiple : ℤ → Form → Form
multiple k f = record { constant = k *ℤ f.constant; coefficients = map (λ c. k *ℤ c) f.coefficients }

-- products with lists of one length -----------------------------------------------------------------------------------

product_zeros : (n : ℕ) (xs : List ℤ) → product (replicate n (pos 0)) xs ≡ pos 0
product_zeros zero xs = refl
product_zeros (suc n) [] = product_none (pos 0 ∷ replicate n (pos 0))
product_zeros (suc n) (x ∷ xs) = let e = product_zeros n xs in ring (v (pos 0) ⊗ v x ⊕ v (product (replicate n (pos 0)) xs)) (v (product (replicate n (pos 0)) xs)) (omega arith) ∙ e

-- with one number at a place, and if the place isn't there
pub product_at : (c : ℤ) (n place : ℕ) (xs : List ℤ) (z : ℤ) → n ≡ length xs → slice_get xs place ≡ Some z → product (slice_set (replicate n (pos 0)) place c) xs ≡ c *ℤ z
product_at c n place [] z e is = cc
product_at c zero place (x ∷ xs) z e is = absurd (omega (arith, e))
product_at c (suc n) zero (x ∷ xs) z e is =
    let same : x ≡ z = cc in
    ap (λ (y : ℤ). (c *ℤ x) +ℤ y) (product_zeros n xs) ∙ ring (v c ⊗ v x ⊕ v (pos 0)) (v c ⊗ v x) (omega arith) ∙ ap (λ (y : ℤ). c *ℤ y) same
product_at c (suc n) (suc place) (x ∷ xs) z e is =
    let rest = product (slice_set (replicate n (pos 0)) place c) xs in
    ring (v (pos 0) ⊗ v x ⊕ v rest) (v rest) (omega arith) ∙ product_at c n place xs z (omega (arith, e)) is

pub product_out : (c : ℤ) (n place : ℕ) (xs : List ℤ) → slice_get xs place ≡ None → product (slice_set (replicate n (pos 0)) place c) xs ≡ pos 0
product_out c n place [] is = product_none (slice_set (replicate n (pos 0)) place c)
product_out c zero place (x ∷ xs) is = refl
product_out c (suc n) zero (x ∷ xs) is = cc
product_out c (suc n) (suc place) (x ∷ xs) is =
    let rest = product (slice_set (replicate n (pos 0)) place c) xs in
    ring (v (pos 0) ⊗ v x ⊕ v rest) (v rest) (omega arith) ∙ product_out c n place xs is

product_unit : (n place : ℕ) (xs : List ℤ) (z : ℤ) → n ≡ length xs → slice_get xs place ≡ Some z → product (slice_set (replicate n (pos 0)) place (pos 1)) xs ≡ z
product_unit n place xs z e is = product_at (pos 1) n place xs z e is ∙ ring (v (pos 1) ⊗ v z) (v z) (omega arith)

product_sum : (fs gs xs : List ℤ) → length fs ≡ length xs → length gs ≡ length xs → product (entrywise (λ x y. x +ℤ y) fs gs) xs ≡ product fs xs +ℤ product gs xs
product_sum [] [] [] e h = refl
product_sum [] gs (x ∷ xs) e h = absurd (omega (arith, e))
product_sum [] (g ∷ gs) [] e h = absurd (omega (arith, h))
product_sum (f ∷ fs) gs [] e h = absurd (omega (arith, e))
product_sum (f ∷ fs) [] (x ∷ xs) e h = absurd (omega (arith, h))
product_sum (f ∷ fs) (g ∷ gs) (x ∷ xs) e h =
    ap (λ (y : ℤ). ((f +ℤ g) *ℤ x) +ℤ y) (product_sum fs gs xs (omega (arith, e)) (omega (arith, h))) ∙
    ring ((v f ⊕ v g) ⊗ v x ⊕ (v (product fs xs) ⊕ v (product gs xs))) ((v f ⊗ v x ⊕ v (product fs xs)) ⊕ (v g ⊗ v x ⊕ v (product gs xs))) (omega arith)

pub minus_is : (x y : ℤ) → x -ℤ y ≡ x +ℤ (negsuc 0 *ℤ y)
minus_is x y = omega (arith, ints, ring (v (negsuc 0) ⊗ v y) (⊖ (v y)) (omega arith))

product_difference : (fs gs xs : List ℤ) → length fs ≡ length xs → length gs ≡ length xs → product (entrywise (λ x y. x -ℤ y) fs gs) xs ≡ product fs xs -ℤ product gs xs
product_difference [] [] [] e h = refl
product_difference [] gs (x ∷ xs) e h = absurd (omega (arith, e))
product_difference [] (g ∷ gs) [] e h = absurd (omega (arith, h))
product_difference (f ∷ fs) gs [] e h = absurd (omega (arith, e))
product_difference (f ∷ fs) [] (x ∷ xs) e h = absurd (omega (arith, h))
product_difference (f ∷ fs) (g ∷ gs) (x ∷ xs) e h =
    ap (λ (y : ℤ). ((f -ℤ g) *ℤ x) +ℤ y) (product_difference fs gs xs (omega (arith, e)) (omega (arith, h))) ∙
    ap (λ (y : ℤ). (y *ℤ x) +ℤ (product fs xs -ℤ product gs xs)) (minus_is f g) ∙
    ap (λ (y : ℤ). ((f +ℤ (negsuc 0 *ℤ g)) *ℤ x) +ℤ y) (minus_is (product fs xs) (product gs xs)) ∙
    ring ((v f ⊕ v (negsuc 0) ⊗ v g) ⊗ v x ⊕ (v (product fs xs) ⊕ v (negsuc 0) ⊗ v (product gs xs))) ((v f ⊗ v x ⊕ v (product fs xs)) ⊕ v (negsuc 0) ⊗ (v g ⊗ v x ⊕ v (product gs xs))) (omega arith) ∙
    sym (minus_is ((f *ℤ x) +ℤ product fs xs) ((g *ℤ x) +ℤ product gs xs))

product_scaled : (k : ℤ) (fs xs : List ℤ) → product (map (λ c. k *ℤ c) fs) xs ≡ k *ℤ product fs xs
product_scaled k [] xs = ring (v (pos 0)) (v k ⊗ v (pos 0)) (omega arith)
product_scaled k (f ∷ fs) [] =
    product_none (map (λ c. k *ℤ c) (f ∷ fs)) ∙ ring (v (pos 0)) (v k ⊗ v (pos 0)) (omega arith) ∙ ap (λ (y : ℤ). k *ℤ y) (sym (product_none (f ∷ fs)))
product_scaled k (f ∷ fs) (x ∷ xs) =
    ap (λ (y : ℤ). ((k *ℤ f) *ℤ x) +ℤ y) (product_scaled k fs xs) ∙ ring (v k ⊗ v f ⊗ v x ⊕ v k ⊗ v (product fs xs)) (v k ⊗ (v f ⊗ v x ⊕ v (product fs xs))) (omega arith)

zero_is : (z : ℤ) → is_zero z ≡ true → z ≡ pos 0
zero_is (pos zero) e = refl
zero_is (pos (suc n)) e = cc
zero_is (negsuc n) e = cc

product_constant : (fs xs : List ℤ) → list_all is_zero fs ≡ true → product fs xs ≡ pos 0
product_constant [] xs e = refl
product_constant (f ∷ fs) [] e = product_none (f ∷ fs)
product_constant (f ∷ fs) (x ∷ xs) e =
    let both = and_parts (is_zero f) (list_all is_zero fs) e in
    ap (λ (y : ℤ). (y *ℤ x) +ℤ product fs xs) (zero_is f both.0) ∙ ring (v (pos 0) ⊗ v x ⊕ v (product fs xs)) (v (product fs xs)) (omega arith) ∙ product_constant fs xs both.1

-- lengths --------------------------------------------------------------------------------------------------------------

entrywise_length : (op : ℤ → ℤ → ℤ) (fs gs : List ℤ) → length fs ≡ length gs → length (entrywise op fs gs) ≡ length fs
entrywise_length op [] gs e = refl
entrywise_length op (f ∷ fs) [] e = absurd (omega (arith, e))
entrywise_length op (f ∷ fs) (g ∷ gs) e = ap suc (entrywise_length op fs gs (omega (arith, e)))

pub map_length : (f : ℤ → ℤ) (xs : List ℤ) → length (map f xs) ≡ length xs
map_length f [] = refl
map_length f (x ∷ xs) = ap suc (map_length f xs)

pub copies_length : (n : ℕ) (z : ℤ) → length (replicate n z) ≡ n
copies_length zero z = refl
copies_length (suc n) z = ap suc (copies_length n z)

-- the form has a coefficient for each live variable
pub record Wide (live : ℕ) (f : Form) : Type 0 where
  pub width : length f.coefficients ≡ live

wide_same : (live : ℕ) (f g : Form) → f ≡ g → Wide live f → Wide live g
wide_same live f g e w = record { width = sym (ap (λ (x : Form). length x.coefficients) e) ∙ w.width }

pub combined_wide : (live : ℕ) (op : ℤ → ℤ → ℤ) (f g h : Form) → combined_forms op f g ≡ Some h → Wide live f → Wide live g → Wide live h
combined_wide live op f g h e a b =
    wide_same live _ h (fitting_same (combination op f g) h e) (record { width = entrywise_length op f.coefficients g.coefficients (a.width ∙ sym b.width) ∙ a.width })

pub scaled_wide : (live : ℕ) (k : ℤ) (f h : Form) → scaled k f ≡ Some h → Wide live f → Wide live h
scaled_wide live k f h e a = wide_same live _ h (fitting_same (multiple k f) h e) (record { width = map_length (λ c. k *ℤ c) f.coefficients ∙ a.width })

product_wide : (live : ℕ) (f g h : Form) (p q : Bool) → (if p then scaled f.constant g else (if q then scaled g.constant f else None)) ≡ Some h → Wide live f → Wide live g → Wide live h
product_wide live f g h true q e a b = scaled_wide live f.constant g h e b
product_wide live f g h false true e a b = scaled_wide live g.constant f h e a
product_wide live f g h false false e a b = cc

pub operator_wide : (live : ℕ) (op : Operator) (f g h : Form) → operator_form op f g ≡ Some h → Wide live f → Wide live g → Wide live h
operator_wide live plus f g h e a b = combined_wide live (λ x y. x +ℤ y) f g h e a b
operator_wide live minus f g h e a b = combined_wide live (λ x y. x -ℤ y) f g h e a b
operator_wide live times f g h e a b = product_wide live f g h (is_constant f) (is_constant g) e a b
operator_wide live over f g h e a b = cc
operator_wide live modulo f g h e a b = cc

-- a variable that has a form lives, and has its own
live_same : (live place : ℕ) (f : Form) → live_form live place ≡ Some f → variable_form live place ≡ f
live_same live place f is = by_test (nat_lt place live) is
  where
    by_test : (b : Bool) → (if b then Some (variable_form live place) else None) ≡ Some f → variable_form live place ≡ f
    by_test true e = cc
    by_test false e = cc

pub form_wide : (live base : ℕ) (e : Expr) (f : Form) → form_of live base e ≡ Some f → Wide live f
form_wide live base (literal t n) f is = wide_same live _ f (fitting_same (constant_form live (pos n)) f is) (record { width = copies_length live (pos 0) })
form_wide live base (read x) f is =
    let same = live_same live (index_of base x.slot) f is in
    wide_same live _ f same (record { width = length-set (replicate live (pos 0)) (index_of base x.slot) (pos 1) ∙ copies_length live (pos 0) })
form_wide live base input f is = cc
form_wide live base (negate e) f is =
    let (g, of, to) = bind_some (form_of live base e) (λ h. scaled (negsuc 0) h) f is in
    scaled_wide live (negsuc 0) g f to (form_wide live base e g of)
form_wide live base (binary op a b) f is =
    let (g, of, to) = bind_some (form_of live base a) (λ x. form_of live base b >>= λ y. operator_form op x y) f is in
    let (h, of_too, result) = bind_some (form_of live base b) (λ y. operator_form op g y) f to in
    operator_wide live op g h f result (form_wide live base a g of) (form_wide live base b h of_too)
form_wide live base (element a at e) f is = cc

-- values ---------------------------------------------------------------------------------------------------------------

value_same : (f g : Form) (store : List ℤ) → f ≡ g → form_value g store ≡ form_value f store
value_same f g store e = sym (ap (λ (x : Form). form_value x store) e)

pub scaled_value : (k : ℤ) (f h : Form) (store : List ℤ) → scaled k f ≡ Some h → form_value h store ≡ k *ℤ form_value f store
scaled_value k f h store e =
    value_same _ h store (fitting_same (multiple k f) h e) ∙ ap (λ (y : ℤ). (k *ℤ f.constant) +ℤ y) (product_scaled k f.coefficients store) ∙
    ring (v k ⊗ v f.constant ⊕ v k ⊗ v (product f.coefficients store)) (v k ⊗ (v f.constant ⊕ v (product f.coefficients store))) (omega arith)

pub constant_form_value : (n : ℕ) (z : ℤ) (store : List ℤ) → form_value (constant_form n z) store ≡ z
constant_form_value n z store = ap (λ (y : ℤ). z +ℤ y) (product_zeros n store) ∙ ring (v z ⊕ v (pos 0)) (v z) (omega arith)

sum_value : (f g h : Form) (store : List ℤ) → Wide (length store) f → Wide (length store) g → combined_forms (λ x y. x +ℤ y) f g ≡ Some h →
    form_value h store ≡ form_value f store +ℤ form_value g store
sum_value f g h store a b e =
    value_same _ h store (fitting_same (combination (λ x y. x +ℤ y) f g) h e) ∙ ap (λ (y : ℤ). (f.constant +ℤ g.constant) +ℤ y) (product_sum f.coefficients g.coefficients store a.width b.width) ∙
    ring ((v f.constant ⊕ v g.constant) ⊕ (v (product f.coefficients store) ⊕ v (product g.coefficients store)))
    ((v f.constant ⊕ v (product f.coefficients store)) ⊕ (v g.constant ⊕ v (product g.coefficients store))) (omega arith)

pub difference_value : (f g h : Form) (store : List ℤ) → Wide (length store) f → Wide (length store) g → combined_forms (λ x y. x -ℤ y) f g ≡ Some h →
    form_value h store ≡ form_value f store -ℤ form_value g store
difference_value f g h store a b e =
    let p = product f.coefficients store in
    let q = product g.coefficients store in
    value_same _ h store (fitting_same (combination (λ x y. x -ℤ y) f g) h e) ∙ ap (λ (y : ℤ). (f.constant -ℤ g.constant) +ℤ y)
    (product_difference f.coefficients g.coefficients store a.width b.width) ∙
    ap (λ (y : ℤ). y +ℤ (p -ℤ q)) (minus_is f.constant g.constant) ∙ ap (λ (y : ℤ). (f.constant +ℤ (negsuc 0 *ℤ g.constant)) +ℤ y) (minus_is p q) ∙
    ring ((v f.constant ⊕ v (negsuc 0) ⊗ v g.constant) ⊕ (v p ⊕ v (negsuc 0) ⊗ v q)) ((v f.constant ⊕ v p) ⊕ v (negsuc 0) ⊗ (v g.constant ⊕ v q)) (omega arith) ∙
    sym (minus_is (f.constant +ℤ p) (g.constant +ℤ q))

-- if no variable occurs the value is the constant
pub constant_value : (f : Form) (store : List ℤ) → is_constant f ≡ true → form_value f store ≡ f.constant
constant_value f store e = ap (λ (y : ℤ). f.constant +ℤ y) (product_constant f.coefficients store e) ∙ ring (v f.constant ⊕ v (pos 0)) (v f.constant) (omega arith)

product_value : (f g h : Form) (store : List ℤ) (p q : Bool) → is_constant f ≡ p → is_constant g ≡ q
    → (if p then scaled f.constant g else (if q then scaled g.constant f else None)) ≡ Some h → form_value h store ≡ form_value f store *ℤ form_value g store
product_value f g h store true q is also e = scaled_value f.constant g h store e ∙ ap (λ (y : ℤ). y *ℤ form_value g store) (sym (constant_value f store is))
product_value f g h store false true is also e =
    scaled_value g.constant f h store e ∙ ap (λ (y : ℤ). y *ℤ form_value f store) (sym (constant_value g store also)) ∙
    ring (v (form_value g store) ⊗ v (form_value f store)) (v (form_value f store) ⊗ v (form_value g store)) (omega arith)
product_value f g h store false false is also e = cc

-- an operator's form has the exact sum, difference or product of the values, whatever fits
operator_value : (op : Operator) (f g h : Form) (store : List ℤ) (x y : ℤ) → Wide (length store) f → Wide (length store) g → operator_form op f g ≡ Some h
    → form_value f store ≡ x → form_value g store ≡ y → form_value h store ≡ exactly op x y
operator_value plus f g h store x y a b e is also = sum_value f g h store a b e ∙ (let sum : form_value f store +ℤ form_value g store ≡ x +ℤ y = cc in sum)
operator_value minus f g h store x y a b e is also = difference_value f g h store a b e ∙ (let less : form_value f store -ℤ form_value g store ≡ x -ℤ y = cc in less)
operator_value times f g h store x y a b e is also =
    product_value f g h store (is_constant f) (is_constant g) refl refl e ∙ (let times : form_value f store *ℤ form_value g store ≡ x *ℤ y = cc in times)
operator_value over f g h store x y a b e is also = cc
operator_value modulo f g h store x y a b e is also = cc

pub exact_forms : OperatorFormsAreExact
exact_forms op f g h s a b e = operator_value op f g h s (form_value f s) (form_value g s) (record { width = a }) (record { width = b }) e refl refl

-- if the operator has a value in a type, that is it
exactly_is : (t : NumberType) (op : Operator) (f g h : Form) (x y z : ℤ) → operator_form op f g ≡ Some h → apply t op x y ≡ Some z → exactly op x y ≡ z
exactly_is t plus f g h x y z e to = number_same t (x +ℤ y) z to
exactly_is t minus f g h x y z e to = number_same t (x -ℤ y) z to
exactly_is t times f g h x y z e to = number_same t (x *ℤ y) z to
exactly_is t over f g h x y z e to = cc
exactly_is t modulo f g h x y z e to = cc

pub negated_value : (g f : Form) (store : List ℤ) (x : ℤ) → scaled (negsuc 0) g ≡ Some f → form_value g store ≡ x → form_value f store ≡ pos 0 -ℤ x
negated_value g f store x to is =
    scaled_value (negsuc 0) g f store to ∙ ap (λ (y : ℤ). negsuc 0 *ℤ y) is ∙ ring (v (negsuc 0) ⊗ v x) (v (pos 0) ⊕ v (negsuc 0) ⊗ v x) (omega arith) ∙ sym (minus_is (pos 0) x)

pub forms_are_right : FormsAreRight
forms_are_right s (literal t n) f draws left z is ran =
    let (y, got, to) = bind_some (number t (pos n)) (λ r. Some (r, draws)) (z, left) ran in
    let is_z : y ≡ z = some_first y z draws left to in
    value_same _ f s.store (fitting_same (constant_form (length s.store) (pos n)) f is) ∙ ap (λ (y : ℤ). pos n +ℤ y) (product_zeros (length s.store) s.store) ∙
    ring (v (pos n) ⊕ v (pos 0)) (v (pos n)) (omega arith) ∙ number_same t (pos n) y got ∙ is_z
forms_are_right s (read x) f draws left z is ran =
    let same = live_same (length s.store) (index_of s.base x.slot) f is in
    let (y, there, on) = bind_some (slice_get s.store (index_of s.base x.slot)) (λ y. number x.number_type y >>= λ r. Some (r, draws)) (z, left) ran in
    let (u, got, to) = bind_some (number x.number_type y) (λ r. Some (r, draws)) (z, left) on in
    let is_z : u ≡ z = some_first u z draws left to in
    value_same _ f s.store same ∙ ap (λ (r : ℤ). pos 0 +ℤ r) (product_unit (length s.store) (index_of s.base x.slot) s.store y refl there) ∙ ring (v (pos 0) ⊕ v y) (v y) (omega arith) ∙
    number_same x.number_type y u got ∙ is_z
forms_are_right s input f draws left z is ran = cc
forms_are_right s (negate e) f draws left z is ran =
    let (g, of, to) = bind_some (form_in s e) (λ h. scaled (negsuc 0) h) f is in
    let (r, got, on) = bind_some (value_of e s draws) (λ r. number (type_of e) (pos 0 -ℤ r.0) >>= λ z. Some (z, r.1)) (z, left) ran in
    let (y, fit, last) = bind_some (number (type_of e) (pos 0 -ℤ r.0)) (λ z. Some (z, r.1)) (z, left) on in
    let same : y ≡ z = some_first y z r.1 left last in
    negated_value g f s.store r.0 to (forms_are_right s e g draws r.1 r.0 of got) ∙ number_same (type_of e) (pos 0 -ℤ r.0) y fit ∙ same
forms_are_right s (binary op a b) f draws left z is ran =
    let t = wider (type_of a) (type_of b) in
    let (g, of, to) = bind_some (form_in s a) (λ x. form_in s b >>= λ y. operator_form op x y) f is in
    let (h, of_too, result) = bind_some (form_in s b) (λ y. operator_form op g y) f to in
    let (r, got, on) = bind_some (value_of a s draws) (λ r. value_of b s r.1 >>= λ q. apply (wider (type_of a) (type_of b)) op r.0 q.0 >>= λ z. Some (z, q.1)) (z, left) ran in
    let (q, got_too, last) = bind_some (value_of b s r.1) (λ q. apply (wider (type_of a) (type_of b)) op r.0 q.0 >>= λ z. Some (z, q.1)) (z, left) on in
    let (y, fit, end) = bind_some (apply (wider (type_of a) (type_of b)) op r.0 q.0) (λ z. Some (z, q.1)) (z, left) last in
    let same : y ≡ z = some_first y z q.1 left end in
    operator_value op g h f s.store r.0 q.0 (form_wide (length s.store) s.base a g of) (form_wide (length s.store) s.base b h of_too) result
    (forms_are_right s a g draws r.1 r.0 of got) (forms_are_right s b h r.1 q.1 q.0 of_too got_too) ∙ exactly_is t op g h f r.0 q.0 y result fit ∙ same
forms_are_right s (element a at e) f draws left z is ran = cc

-- tests ----------------------------------------------------------------------------------------------------------------

pub opposite_value : (d f : Form) (store : List ℤ) → fitting (opposite_form d) ≡ Some f → form_value f store ≡ (pos 0 -ℤ form_value d store) -ℤ pos 1
opposite_value d f store e =
    let p = product d.coefficients store in
    value_same (opposite_form d) f store (fitting_same (opposite_form d) f e) ∙ ap (λ (y : ℤ). (neg_ℤ d.constant +ℤ negsuc 0) +ℤ y) (product_negated d.coefficients store) ∙
    (let last : (neg_ℤ d.constant +ℤ negsuc 0) +ℤ neg_ℤ p ≡ (pos 0 -ℤ (d.constant +ℤ p)) -ℤ pos 1 = omega (arith, ints) in last)

pub less_by_value : (n : ℕ) (d f : Form) (store : List ℤ) → less_by n d ≡ Some f → form_value f store ≡ form_value d store -ℤ pos n
less_by_value n d f store e =
    let p = product d.coefficients store in
    value_same _ f store (fitting_same (record { constant = d.constant -ℤ pos n; coefficients = d.coefficients }) f e) ∙
    (let last : (d.constant -ℤ pos n) +ℤ p ≡ (d.constant +ℤ p) -ℤ pos n = omega (arith, ints) in last)

-- the inequality of a form
abbrev pub inequality_of : Form → Test
inequality_of f = record { expr = f; kind = Ge }

pub from_form : (o : Option Form) (t : Test) → at_least_zero o ≡ Some t → (f : Form) × (o ≡ Some f) × (inequality_of f ≡ t)
from_form None t e = cc
from_form (Some f) t e = (f, refl, cc)

pub passes_same : (f : Form) (t : Test) (store : List ℤ) (z : ℤ) → inequality_of f ≡ t → form_value f store ≡ z → (pos 0 ≤ℤ z) ↔ TestHolds t store
passes_same f t store z e is =
    (λ h. subst (λ (x : Test). TestHolds x store) e (subst (λ (y : ℤ). pos 0 ≤ℤ y) (sym is) h), λ h. subst (λ (y : ℤ). pos 0 ≤ℤ y) is (subst (λ (x : Test). TestHolds x store) (sym e) h))

-- over whole numbers
pub lt_decides : (x y w : ℤ) → w ≡ x -ℤ y → IsTrue (int_lt x y) ↔ (pos 0 ≤ℤ ((pos 0 -ℤ w) -ℤ pos 1))
lt_decides x y w e = (λ h. grind (arith, ints), λ h. grind (arith, ints))

le_decides : (x y w : ℤ) → w ≡ x -ℤ y → IsTrue (int_le x y) ↔ (pos 0 ≤ℤ (pos 0 -ℤ w))
le_decides x y w e = (λ h. grind (arith, ints), λ h. grind (arith, ints))

pub gt_decides : (x y w : ℤ) → w ≡ x -ℤ y → IsTrue (int_lt y x) ↔ (pos 0 ≤ℤ (w -ℤ pos 1))
gt_decides x y w e = (λ h. grind (arith, ints), λ h. grind (arith, ints))

ge_decides : (x y w : ℤ) → w ≡ x -ℤ y → IsTrue (int_le y x) ↔ (pos 0 ≤ℤ w)
ge_decides x y w e = (λ h. grind (arith, ints), λ h. grind (arith, ints))

eq_decides : (x y w : ℤ) → w ≡ x -ℤ y → IsTrue (if int_le x y then int_le y x else false) ↔ (w ≡ pos 0)
eq_decides x y w e = (λ h. grind (arith, ints), λ h. grind (arith, ints))

pub ne_decides : (x y w : ℤ) → w ≡ x -ℤ y → IsTrue (not (if int_le x y then int_le y x else false))
    ↔ ((pos 0 ≤ℤ ((pos 0 -ℤ w) -ℤ pos 1)) ⊎ (pos 0 ≤ℤ (w -ℤ pos 1)))
ne_decides x y w e = (λ h. grind (arith, ints), λ h. grind (arith, ints))

both_ways : {A B C : Type 0} → A ↔ B → B ↔ C → A ↔ C
both_ways f g = (λ h. g.0 (f.0 h), λ h. f.1 (g.1 h))

-- of a difference d that has the value of x - y
pub test_is_right : (op : Comparison) (d : Form) (t : Test) (store : List ℤ) (x y : ℤ) → form_value d store ≡ x -ℤ y → comparison_test op d ≡ Some t → IsTrue (compares op x y) ↔ TestHolds t store
test_is_right below d t store x y e is =
    let (f, of, same) = from_form (fitting (opposite_form d)) t is in
    both_ways (lt_decides x y (form_value d store) e) (passes_same f t store _ same (opposite_value d f store of))
test_is_right at_most d t store x y e is =
    let (f, of, same) = from_form (negated_form d) t is in
    let less : form_value f store ≡ pos 0 -ℤ form_value d store = scaled_value (negsuc 0) d f store of ∙
    (let last : negsuc 0 *ℤ form_value d store ≡ pos 0 -ℤ form_value d store = omega (arith, ints, minus_is (pos 0) (form_value d store)) in last) in
    both_ways (le_decides x y (form_value d store) e) (passes_same f t store _ same less)
test_is_right above d t store x y e is =
    let (f, of, same) = from_form (less_one d) t is in
    both_ways (gt_decides x y (form_value d store) e) (passes_same f t store _ same (less_by_value 1 d f store of))
test_is_right at_least d t store x y e is =
    let (f, of, same) = from_form (Some d) t is in
    let it : d ≡ f = cc in
    both_ways (ge_decides x y (form_value d store) e) (passes_same d t store _ (rw it same) refl)
test_is_right equal d t store x y e is =
    let same : record { expr = d; kind = Eq } ≡ t = cc in
    both_ways (eq_decides x y (form_value d store) e) (λ h. subst (λ (z : Test). TestHolds z store) same h, λ h. subst (λ (z : Test). TestHolds z store) (sym same) h)
test_is_right differs d t store x y e is = cc

pub differs_by_tests : (d : Form) (less more : Test) (store : List ℤ) (x y : ℤ) → form_value d store ≡ x -ℤ y → comparison_test below d ≡ Some less → comparison_test above d ≡ Some more
    → IsTrue (compares differs x y) ↔ (TestHolds less store ⊎ TestHolds more store)
differs_by_tests d less more store x y e is also =
    let one = test_is_right below d less store x y e is in
    let two = test_is_right above d more store x y e also in
    let both = ne_decides x y (form_value d store) e in (
      λ h. elim (both.0 h) [ inl a ↦ inl (one.0 ((lt_decides x y (form_value d store) e).1 a)) | inr b ↦ inr (two.0 ((gt_decides x y (form_value d store) e).1 b)) ],
      λ h. both.1 (elim h [ inl a ↦ inl ((lt_decides x y (form_value d store) e).0 (one.1 a)) | inr b ↦ inr ((gt_decides x y (form_value d store) e).0 (two.1 b)) ]),
    )

-- what a comparison with a value evaluates
pub record Compared (s : Environment) (op : Comparison) (a b : Expr) (draws left : List ℤ) (so : Bool) : Type 0 where
  pub x : ℤ
  pub y : ℤ
  pub middle : List ℤ
  pub last : List ℤ
  pub has_x : value_of a s draws ≡ Some (x, middle)
  pub has_y : value_of b s middle ≡ Some (y, last)
  pub is : compares op x y ≡ so

pub compared : (s : Environment) (op : Comparison) (a b : Expr) (draws left : List ℤ) (so : Bool) → truth_of (compare op a b) s draws ≡ Some (so, left) →
    Compared s op a b draws left so
compared s op a b draws left so e =
    let (r, got, on) = bind_some (value_of a s draws) (λ r. value_of b s r.1 >>= λ q. Some (compares op r.0 q.0, q.1)) (so, left) e in
    let (q, got_too, end) = bind_some (value_of b s r.1) (λ q. Some (compares op r.0 q.0, q.1)) (so, left) on in
    record { x = r.0; y = q.0; middle = r.1; last = q.1; has_x = got; has_y = got_too; is = some_first (compares op r.0 q.0) so q.1 left end }

-- the difference of two expressions has the difference of their values, also if that passes 64 bits
pub difference_is_right : (s : Environment) (a b : Expr) (d : Form) (draws middle last : List ℤ) (x y : ℤ) → difference_in s a b ≡ Some d
    → value_of a s draws ≡ Some (x, middle) → value_of b s middle ≡ Some (y, last) → form_value d s.store ≡ x -ℤ y
difference_is_right s a b d draws middle last x y is ran ran_too =
    let (g, of, to) = bind_some (form_in s a) (λ x. form_in s b >>= λ y. operator_form minus x y) d is in
    let (h, of_too, result) = bind_some (form_in s b) (λ y. operator_form minus g y) d to in
    let left : form_value g s.store ≡ x = forms_are_right s a g draws middle x of ran in
    let right : form_value h s.store ≡ y = forms_are_right s b h middle last y of_too ran_too in
    difference_value g h d s.store (form_wide (length s.store) s.base a g of) (form_wide (length s.store) s.base b h of_too) result ∙
    (let less : form_value g s.store -ℤ form_value h s.store ≡ x -ℤ y = cc in less)

pub tests_are_right : TestsAreRight
tests_are_right s op a b d t draws left so is test ran =
    let c = compared s op a b draws left so ran in
    let right = test_is_right op d t s.store c.x c.y (difference_is_right s a b d draws c.middle c.last c.x c.y is c.has_x c.has_y) test in
    subst (λ (w : Bool). IsTrue w ↔ TestHolds t s.store) c.is right

pub differs_is_right : DiffersIsRight
differs_is_right s a b d less more draws left so is one two ran =
    let c = compared s differs a b draws left so ran in
    let right = differs_by_tests d less more s.store c.x c.y (difference_is_right s a b d draws c.middle c.last c.x c.y is c.has_x c.has_y) one two in
    subst (λ (w : Bool). IsTrue w ↔ (TestHolds less s.store ⊎ TestHolds more s.store)) c.is right
