-- What an analysis sees of a number is right: in each run one of a division's two cases leads where the run does, by A = k*(A / k) + A % k
-- and the sign of what is left.
use Rattle.std.proofs.Common.{◌≡◌, ℕ, zero, suc, ◌+◌, ◌-◌, ◌≤◌, ◌^◌, ℤ, pos, negsuc, ◌+ℤ◌, ◌*ℤ◌, List, [], ◌∷◌, ◌++◌, Option, Some, None, Bool, true, false, length, take, refl, sym, ap, subst, ◌∙◌}
use Rattle.std.proofs.lemmas.List.{length-set}
use Rattle.std.proofs.{Common.arith, Common.inl, Common.inr, Common.length-append, lemmas.Bool.and_parts, lemmas.Int.ints, lemmas.Int.quot-rem, lemmas.Int.rem_below}
use Rattle.std.specs.Prelude.{◌-ℤ◌, ◌≤ℤ◌, ◌⊎◌, ◌&&◌, if◌then◌else◌, neg_ℤ, slice_set, int_div, int_rem, int_le}
use Rattle.lra_analysis_spec.specs.Crates.lra_base.Operators.{Operator, plus, minus, times, over, modulo}
use Rattle.lra_analysis_spec.specs.Crates.lra_linear_forms.Form.{Form, form_value, opposite_form}
use Rattle.lra_analysis_spec.specs.Crates.lra_program.Program.{Expr, literal, read, input, negate, binary, element, type_of}
use Rattle.lra_analysis_spec.specs.Crates.lra_program.Value.{◌>>=◌, number, is_zero, Environment, quotient, apply, value_of}
use Rattle.lra_analysis_spec.specs.Crates.{lra_base.NumberTypes.wider, lra_base.declared.number_types.NumberType.NumberType, lra_linear_spec.Vectors.product}
use Rattle.lra_analysis_spec.proofs.Crates.lra_linear_spec.Ring.{ring, v, ⊖, ◌⊕◌, ◌⊗◌}
use Rattle.lra_analysis_spec.proofs.Crates.{lra_linear_forms.FormLemmas.product_negated, lra_program.TypeLaws.bind_some}
use Rattle.lra_domain.specs.{Actions.Action, Actions.assign, Actions.Leads, Moves.MayLead}
use Rattle.lra_analysis_spec.specs.Linear.{fitting, combined_forms, is_constant, constant_form, form_of}
use Rattle.lra_analysis_spec.specs.Linearization.{Divides, LinearizedFits, with_both, HasValue, LinearizationIsRight, extended, behind_form, quotient_form, remainder_form, form_plus_one, division}
use Rattle.lra_analysis_spec.specs.Linearization.{left_over, share_form, share_of, linearized_from, linearized, linear_if, divided_if, subtracted}
use Rattle.lra_analysis_spec.specs.declared.linearization.Linearized.TheVariants.{Linear, Divided, Unseen}
use Rattle.lra_analysis_spec.specs.{LiveLimit.most_live, MovesOf.in_cases, MovesOf.set_to, declared.linearization.Division.Division, declared.linearization.Linearized.Linearized}
use Rattle.lra_analysis_spec.proofs.FormLemmas.{some_first, fitting_same, number_same, Wide, combined_wide, map_length, copies_length, form_wide, constant_form_value, constant_value, difference_value}
use Rattle.lra_analysis_spec.proofs.FormLemmas.{forms_are_right}

-- the quotient and what it leaves ---------------------------------------------------------------------------------------

abbrev First : ℤ → ℤ → ℤ → ℤ → Type 0
First a k t r = (pos 0 ≤ℤ a) × (pos 0 ≤ℤ r) × (pos 0 ≤ℤ ((k -ℤ pos 1) -ℤ r)) × ((a -ℤ (k *ℤ t)) -ℤ r ≡ pos 0)

abbrev Second : ℤ → ℤ → ℤ → ℤ → Type 0
Second a k t r = (pos 0 ≤ℤ ((pos 0 -ℤ a) -ℤ pos 1)) × (pos 0 ≤ℤ ((k -ℤ pos 1) +ℤ r)) × (pos 0 ≤ℤ (pos 0 -ℤ r)) × ((a -ℤ (k *ℤ t)) -ℤ r ≡ pos 0)

one_case : (a k : ℤ) → pos 1 ≤ℤ k → First a k (int_div a k) (int_rem a k) ⊎ Second a k (int_div a k) (int_rem a k)
one_case (pos a) (pos zero) p = absurd (omega (arith, ints, p))
one_case (pos a) (negsuc k) p = absurd (omega (arith, ints, p))
one_case (negsuc a) (pos zero) p = absurd (omega (arith, ints, p))
one_case (negsuc a) (negsuc k) p = absurd (omega (arith, ints, p))
one_case (pos a) (pos (suc k)) p = inl (
  omega (arith, ints),
  omega (arith, ints),
  omega (arith, ints, rem_below (pos a) (pos (suc k))),
  omega (arith, ints, quot-rem (pos a) (pos (suc k))),
)
one_case (negsuc a) (pos (suc k)) p = inr (
  omega (arith, ints),
  omega (arith, ints, rem_below (negsuc a) (pos (suc k))),
  omega (arith, ints),
  omega (arith, ints, quot-rem (negsuc a) (pos (suc k))),
)

-- forms over two variables more -----------------------------------------------------------------------------------------

two_more : (cs s : List ℤ) (a b t r : ℤ) → length cs ≡ length s → product (cs ++ a ∷ b ∷ []) (s ++ t ∷ r ∷ []) ≡ product cs s +ℤ ((a *ℤ t) +ℤ (b *ℤ r))
two_more [] [] a b t r e = ring (v a ⊗ v t ⊕ (v b ⊗ v r ⊕ v (pos 0))) (v (pos 0) ⊕ (v a ⊗ v t ⊕ v b ⊗ v r)) (omega arith)
two_more [] (x ∷ s) a b t r e = absurd (omega (arith, e))
two_more (c ∷ cs) [] a b t r e = absurd (omega (arith, e))
two_more (c ∷ cs) (x ∷ s) a b t r e =
    ap (λ (y : ℤ). (c *ℤ x) +ℤ y) (two_more cs s a b t r (omega (arith, e))) ∙
    ring (v c ⊗ v x ⊕ (v (product cs s) ⊕ (v a ⊗ v t ⊕ v b ⊗ v r))) ((v c ⊗ v x ⊕ v (product cs s)) ⊕ (v a ⊗ v t ⊕ v b ⊗ v r)) (omega arith)

extended_value : (f : Form) (s : List ℤ) (a b t r : ℤ) → Wide (length s) f
    → form_value (extended f a b) (s ++ t ∷ r ∷ []) ≡ form_value f s +ℤ ((a *ℤ t) +ℤ (b *ℤ r))
extended_value f s a b t r w =
    ap (λ (y : ℤ). f.constant +ℤ y) (two_more f.coefficients s a b t r w.width) ∙
    ring (v f.constant ⊕ (v (product f.coefficients s) ⊕ (v a ⊗ v t ⊕ v b ⊗ v r)))
    ((v f.constant ⊕ v (product f.coefficients s)) ⊕ (v a ⊗ v t ⊕ v b ⊗ v r)) (omega arith)

two_wide : (cs : List ℤ) (a b : ℤ) (n : ℕ) → length cs ≡ n → length (cs ++ a ∷ b ∷ []) ≡ n + 2
two_wide cs a b n e = length-append cs (a ∷ b ∷ []) ∙ ap (λ (i : ℕ). i + 2) e

pub extended_wide : (f : Form) (a b : ℤ) (n : ℕ) → Wide n f → Wide (n + 2) (extended f a b)
extended_wide f a b n w = record { width = two_wide f.coefficients a b n w.width }

-- as far as the store itself
same_value : (f : Form) (s : List ℤ) (t r : ℤ) → Wide (length s) f → form_value (extended f (pos 0) (pos 0)) (s ++ t ∷ r ∷ []) ≡ form_value f s
same_value f s t r w =
    extended_value f s (pos 0) (pos 0) t r w ∙ ring (v (form_value f s) ⊕ (v (pos 0) ⊗ v t ⊕ v (pos 0) ⊗ v r)) (v (form_value f s)) (omega arith)

pub constant_form_wide : (n : ℕ) (k : ℤ) → Wide n (constant_form n k)
constant_form_wide n k = record { width = copies_length n (pos 0) }

behind_value : (s : List ℤ) (c a b t r : ℤ) → form_value (behind_form (length s) c a b) (s ++ t ∷ r ∷ []) ≡ c +ℤ ((a *ℤ t) +ℤ (b *ℤ r))
behind_value s c a b t r =
    extended_value (constant_form (length s) c) s a b t r (constant_form_wide (length s) c) ∙
    ap (λ (y : ℤ). y +ℤ ((a *ℤ t) +ℤ (b *ℤ r))) (constant_form_value (length s) c s)

-- the two go again ------------------------------------------------------------------------------------------------------

front_of : (s : List ℤ) (t r : ℤ) → take (length s) (s ++ t ∷ r ∷ []) ≡ s
front_of [] t r = refl
front_of (y ∷ s) t r = ap (λ (ys : List ℤ). y ∷ ys) (front_of s t r)

front_set : (s : List ℤ) (x : ℕ) (z t r : ℤ) → take (length s) (slice_set (s ++ t ∷ r ∷ []) x z) ≡ slice_set s x z
front_set [] x z t r = refl
front_set (y ∷ s) zero z t r = ap (λ (ys : List ℤ). z ∷ ys) (front_of s t r)
front_set (y ∷ s) (suc x) z t r = ap (λ (ys : List ℤ). y ∷ ys) (front_set s x z t r)

two_gone : (s : List ℤ) (t r : ℤ) → s ≡ take (length (s ++ t ∷ r ∷ []) - 2) (s ++ t ∷ r ∷ [])
two_gone s t r =
    let long = length-append s (t ∷ r ∷ []) in
    let left : length (s ++ t ∷ r ∷ []) - 2 ≡ length s = omega (arith, long) in
    sym (ap (λ (n : ℕ). take n (s ++ t ∷ r ∷ [])) left ∙ front_of s t r)

set_gone : (s : List ℤ) (x : ℕ) (z t r : ℤ) → slice_set s x z ≡ take (length (slice_set (s ++ t ∷ r ∷ []) x z) - 2) (slice_set (s ++ t ∷ r ∷ []) x z)
set_gone s x z t r =
    let long : length (slice_set (s ++ t ∷ r ∷ []) x z) ≡ length s + 2 = length-set (s ++ t ∷ r ∷ []) x z ∙ length-append s (t ∷ r ∷ []) in
    let left : length (slice_set (s ++ t ∷ r ∷ []) x z) - 2 ≡ length s = omega (arith, long) in
    sym (ap (λ (n : ℕ). take n (slice_set (s ++ t ∷ r ∷ []) x z)) left ∙ front_set s x z t r)

-- one of the cases leads where the division does --------------------------------------------------------------------------

abbrev pub quotient_at : Division → List ℤ → ℤ
quotient_at d s = int_div (form_value d.numerator s) d.divisor

abbrev pub remainder_at : Division → List ℤ → ℤ
remainder_at d s = int_rem (form_value d.numerator s) d.divisor

opposite_is : (d : Division) (s : List ℤ) → Divides d (length s) → form_value d.opposite s ≡ (pos 0 -ℤ form_value d.numerator s) -ℤ pos 1
opposite_is d s h =
    let f = d.numerator in
    let p = product f.coefficients s in
    ap (λ (g : Form). form_value g s) (sym h.opposite) ∙ ap (λ (y : ℤ). (neg_ℤ f.constant +ℤ negsuc 0) +ℤ y) (product_negated f.coefficients s) ∙
    (let last : (neg_ℤ f.constant +ℤ negsuc 0) +ℤ neg_ℤ p ≡ (pos 0 -ℤ (f.constant +ℤ p)) -ℤ pos 1 = omega (arith, ints) in last)

left_value : (d : Division) (s : List ℤ) (t r : ℤ) → Wide (length s) d.numerator
    → form_value (left_over d) (s ++ t ∷ r ∷ []) ≡ (form_value d.numerator s -ℤ (d.divisor *ℤ t)) -ℤ r
left_value d s t r w =
    let k = d.divisor in
    let a = form_value d.numerator s in
    extended_value d.numerator s (neg_ℤ k) (negsuc 0) t r w ∙
    (let opposed : neg_ℤ k *ℤ t ≡ neg_ℤ (k *ℤ t) = ring (⊖ (v k) ⊗ v t) (⊖ (v k ⊗ v t)) (omega arith) in
    let less : negsuc 0 *ℤ r ≡ neg_ℤ r = ring (v (negsuc 0) ⊗ v r) (⊖ (v r)) (omega arith) in
    let last : a +ℤ ((neg_ℤ k *ℤ t) +ℤ (negsuc 0 *ℤ r)) ≡ (a -ℤ (k *ℤ t)) -ℤ r = omega (arith, ints, opposed, less) in last)

-- r, k - 1 - r, k - 1 + r and -r
rest_value : (s : List ℤ) (t r : ℤ) → form_value (remainder_form (length s)) (s ++ t ∷ r ∷ []) ≡ r
rest_value s t r = behind_value s (pos 0) (pos 0) (pos 1) t r ∙ ring (v (pos 0) ⊕ (v (pos 0) ⊗ v t ⊕ v (pos 1) ⊗ v r)) (v r) (omega arith)

pub share_value : (s : List ℤ) (t r : ℤ) → form_value (quotient_form (length s)) (s ++ t ∷ r ∷ []) ≡ t
share_value s t r = behind_value s (pos 0) (pos 1) (pos 0) t r ∙ ring (v (pos 0) ⊕ (v (pos 1) ⊗ v t ⊕ v (pos 0) ⊗ v r)) (v t) (omega arith)

less_value : (s : List ℤ) (c t r : ℤ) → form_value (behind_form (length s) c (pos 0) (negsuc 0)) (s ++ t ∷ r ∷ []) ≡ c -ℤ r
less_value s c t r =
    behind_value s c (pos 0) (negsuc 0) t r ∙
    (let e : (pos 0 *ℤ t) +ℤ (negsuc 0 *ℤ r) ≡ neg_ℤ r = ring (v (pos 0) ⊗ v t ⊕ v (negsuc 0) ⊗ v r) (⊖ (v r)) (omega arith) in
    let last : c +ℤ ((pos 0 *ℤ t) +ℤ (negsuc 0 *ℤ r)) ≡ c -ℤ r = omega (arith, ints, e) in last)

more_value : (s : List ℤ) (c t r : ℤ) → form_value (behind_form (length s) c (pos 0) (pos 1)) (s ++ t ∷ r ∷ []) ≡ c +ℤ r
more_value s c t r = behind_value s c (pos 0) (pos 1) t r ∙ ring (v c ⊕ (v (pos 0) ⊗ v t ⊕ v (pos 1) ⊗ v r)) (v c ⊕ v r) (omega arith)

not_below : (x y : ℤ) → x ≡ y → pos 0 ≤ℤ y → pos 0 ≤ℤ x
not_below x y e h = subst (λ (z : ℤ). pos 0 ≤ℤ z) (sym e) h

module _ (d : Division) (step : Action) (s next u : List ℤ) (h : Divides d (length s)) (led : Leads step (with_both d s) next)
    (gone : u ≡ take (length next - 2) next) where
  abbrev a : ℤ
  a = form_value d.numerator s

  abbrev k : ℤ
  k = d.divisor

  abbrev t : ℤ
  t = quotient_at d s

  abbrev r : ℤ
  r = remainder_at d s

  abbrev both : List ℤ
  both = s ++ t ∷ r ∷ []

  in_one : First a k t r ⊎ Second a k t r → MayLead (in_cases (length s) d step) s u
  in_one (inl (one, two, three, four)) = inl (
    both,
    (
      s,
      (one, refl),
      (
        both,
        (t ∷ r ∷ [], refl, refl),
        (
          both,
          (not_below _ _ (rest_value s t r) two, refl),
          (
            both,
            (not_below _ _ (less_value s (k -ℤ pos 1) t r) three, refl),
            (both, (left_value d s t r (record { width = h.wide }) ∙ four, refl), refl),
          ),
        ),
      ),
    ),
    (next, led, gone),
  )
  in_one (inr (one, two, three, four)) = inr (
    both,
    (
      s,
      (not_below _ _ (opposite_is d s h) one, refl),
      (
        both,
        (t ∷ r ∷ [], refl, refl),
        (
          both,
          (not_below _ _ (more_value s (k -ℤ pos 1) t r) two, refl),
          (both, (not_below _ _ (less_value s (pos 0) t r) three, refl), (both, (left_value d s t r (record { width = h.wide }) ∙ four, refl), refl)),
        ),
      ),
    ),
    (next, led, gone),
  )

  -- what the action does after the store with both, without the two
  pub cases_lead : MayLead (in_cases (length s) d step) s u
  cases_lead = in_one (one_case a k h.some)

-- what is seen ----------------------------------------------------------------------------------------------------------

abbrev pub SeenIs : Linearized → List ℤ → ℤ → Type 0
SeenIs w s z = LinearizedFits w (length s) × HasValue w s z

-- a variable that gets it
pub seen_set : (w : Linearized) (s : List ℤ) (x : ℕ) (z : ℤ) → SeenIs w s z → MayLead (set_to (length s) x w) s (slice_set s x z)
seen_set (Linear f) s x z is = ap (λ (y : ℤ). slice_set s x y) (sym is.1)
seen_set (Divided d f) s x z is =
    let both = with_both d s in
    cases_lead d (assign x f) s (slice_set both x z) (slice_set s x z) is.0.0 (ap (λ (y : ℤ). slice_set both x y) (sym is.1)) (set_gone s x
    z (quotient_at d s) (remainder_at d s))
seen_set Unseen s x z is = (z, refl)

-- what is tested where it is seen leaves the store
pub seen_tested : (d : Division) (step : Action) (s : List ℤ) → Divides d (length s) → Leads step (with_both d s) (with_both d s)
    → MayLead (in_cases (length s) d step) s s
seen_tested d step s h led = cases_lead d step s (with_both d s) s h led (two_gone s (quotient_at d s) (remainder_at d s))

-- differences
linear_if_fits : (o : Option Form) (n : ℕ) → ((h : Form) → o ≡ Some h → length h.coefficients ≡ n) → LinearizedFits (linear_if o) n
linear_if_fits None n h = tt
linear_if_fits (Some f) n h = h f refl

divided_if_fits : (d : Division) (o : Option Form) (n : ℕ) → Divides d n → ((h : Form) → o ≡ Some h → length h.coefficients ≡ n + 2)
    → LinearizedFits (divided_if d o) n
divided_if_fits d None n one h = tt
divided_if_fits d (Some f) n one h = (one, h f refl)

pub subtracted_fits : (f g : Linearized) (n : ℕ) → LinearizedFits f n → LinearizedFits g n → LinearizedFits (subtracted f g) n
subtracted_fits (Linear f) (Linear g) n one two =
    linear_if_fits (combined_forms (λ x y. x -ℤ y) f g) n
    (λ h e. (combined_wide n (λ x y. x -ℤ y) f g h e (record { width = one }) (record { width = two })).width)
subtracted_fits (Linear f) (Divided d g) n one two =
    let more = extended f (pos 0) (pos 0) in
    divided_if_fits d (combined_forms (λ x y. x -ℤ y) more g) n two.0
    (λ h e. (combined_wide (n + 2) (λ x y. x -ℤ y) more g h e (extended_wide f (pos 0) (pos 0) n (record { width = one })) (record { width = two.1 })).width)
subtracted_fits (Linear f) Unseen n one two = tt
subtracted_fits (Divided d f) (Linear g) n one two =
    let more = extended g (pos 0) (pos 0) in
    divided_if_fits d (combined_forms (λ x y. x -ℤ y) f more) n one.0
    (λ h e. (combined_wide (n + 2) (λ x y. x -ℤ y) f more h e (record { width = one.1 }) (extended_wide g (pos 0) (pos 0) n (record { width = two }))).width)
subtracted_fits (Divided d f) (Divided c g) n one two = tt
subtracted_fits (Divided d f) Unseen n one two = tt
subtracted_fits Unseen g n one two = tt

minus_same : (x y x' y' : ℤ) → x ≡ x' → y ≡ y' → x -ℤ y ≡ x' -ℤ y'
minus_same x y x' y' e h = ap (λ (z : ℤ). z -ℤ y) e ∙ ap (λ (z : ℤ). x' -ℤ z) h

linear_if_has : (o : Option Form) (s : List ℤ) (z : ℤ) → ((f : Form) → o ≡ Some f → form_value f s ≡ z) → HasValue (linear_if o) s z
linear_if_has None s z h = tt
linear_if_has (Some f) s z h = h f refl

divided_if_has : (d : Division) (o : Option Form) (s : List ℤ) (z : ℤ) → ((f : Form) → o ≡ Some f → form_value f (with_both d s) ≡ z)
    → HasValue (divided_if d o) s z
divided_if_has d None s z h = tt
divided_if_has d (Some f) s z h = h f refl

both_wide : (d : Division) (s : List ℤ) (f : Form) → length f.coefficients ≡ length s + 2 → Wide (length (with_both d s)) f
both_wide d s f w = record { width = w ∙ sym (length-append s (quotient_at d s ∷ remainder_at d s ∷ [])) }

subtracted_has : (f g : Linearized) (s : List ℤ) (x y : ℤ) → SeenIs f s x → SeenIs g s y → HasValue (subtracted f g) s (x -ℤ y)
subtracted_has (Linear f) (Linear g) s x y one two = linear_if_has (combined_forms (λ x y. x -ℤ y) f g) s (x -ℤ y) (λ h e.
    difference_value f g h s (record { width = one.0 }) (record { width = two.0 }) e ∙ minus_same (form_value f s) (form_value g s) x y one.1 two.1)
subtracted_has (Linear f) (Divided d g) s x y one two =
    let more = extended f (pos 0) (pos 0) in
    let wide = both_wide d s more (extended_wide f (pos 0) (pos 0) (length s) (record { width = one.0 })).width in
    let is = same_value f s (quotient_at d s) (remainder_at d s) (record { width = one.0 }) ∙ one.1 in
    divided_if_has d (combined_forms (λ x y. x -ℤ y) more g) s (x -ℤ y) (λ h e.
    difference_value more g h (with_both d s) wide (both_wide d s g two.0.1) e ∙ minus_same (form_value more (with_both d s)) (form_value g (with_both d s)) x
    y is two.1)
subtracted_has (Linear f) Unseen s x y one two = tt
subtracted_has (Divided d f) (Linear g) s x y one two =
    let more = extended g (pos 0) (pos 0) in
    let wide = both_wide d s more (extended_wide g (pos 0) (pos 0) (length s) (record { width = two.0 })).width in
    let is = same_value g s (quotient_at d s) (remainder_at d s) (record { width = two.0 }) ∙ two.1 in
    divided_if_has d (combined_forms (λ x y. x -ℤ y) f more) s (x -ℤ y) (λ h e.
    difference_value f more h (with_both d s) (both_wide d s f one.0.1) wide e ∙ minus_same (form_value f (with_both d s)) (form_value more (with_both d s)) x
    y one.1 is)
subtracted_has (Divided d f) (Divided c g) s x y one two = tt
subtracted_has (Divided d f) Unseen s x y one two = tt
subtracted_has Unseen g s x y one two = tt

pub subtracted_is : (f g : Linearized) (s : List ℤ) (x y : ℤ) → SeenIs f s x → SeenIs g s y → SeenIs (subtracted f g) s (x -ℤ y)
subtracted_is f g s x y one two = (subtracted_fits f g (length s) one.0 two.0, subtracted_has f g s x y one two)

-- divisions of a program --------------------------------------------------------------------------------------------------

if_there : {A : Type 0} (b : Bool) (o : Option A) (x : A) → (if b then o else None) ≡ Some x → (b ≡ true) × (o ≡ Some x)
if_there true o x e = (refl, e)
if_there false o x e = cc

-- the divisor of a division is the second form's value
pub record IsDivision (f g : Form) (d : Division) : Type 0 where
  pub numerator : d.numerator ≡ f
  pub opposite : opposite_form f ≡ d.opposite
  pub divisor : d.divisor ≡ g.constant
  pub constant : is_constant g ≡ true
  pub some : pos 1 ≤ℤ g.constant

one_at_most : (z : ℤ) → int_le (pos 1) z ≡ true → pos 1 ≤ℤ z
one_at_most z h = grind (arith, ints)

pub division_is : (f g : Form) (d : Division) → division f g ≡ Some d → IsDivision f g d
division_is f g d e =
    let (holds, there) = if_there (is_constant g && int_le (pos 1) g.constant)
    (form_plus_one f >>= λ more. fitting (opposite_form f) >>= λ less. Some (record { numerator = f; opposite = less; divisor = g.constant })) d e in
    let tests = and_parts (is_constant g) (int_le (pos 1) g.constant) holds in
    let (more, fits_one, on) = bind_some (form_plus_one f) (λ more. fitting (opposite_form f) >>= λ less.
    Some (record { numerator = f; opposite = less; divisor = g.constant })) d there in
    let (less, fits_too, last) = bind_some (fitting (opposite_form f)) (λ less. Some (record { numerator = f; opposite = less; divisor = g.constant })) d on in
    let made : Division = record { numerator = f; opposite = less; divisor = g.constant } in
    let same : made ≡ d = some_same made d last in
    record {
      numerator = sym (ap (λ (c : Division). c.numerator) same);
      opposite = fitting_same (opposite_form f) less fits_too ∙ ap (λ (c : Division). c.opposite) same;
      divisor = sym (ap (λ (c : Division). c.divisor) same);
      constant = tests.0;
      some = one_at_most g.constant tests.1;
    }
  where
    some_same : (c d : Division) → Some c ≡ Some d → c ≡ d
    some_same c d e = cc

-- what `/` and `%` give, if they give a number
abbrev ShareIs : Operator → ℤ → ℤ → ℤ → Type 0
ShareIs over x y z = int_div x y ≡ z
ShareIs modulo x y z = int_rem x y ≡ z
ShareIs plus x y z = Unit {0}
ShareIs minus x y z = Unit {0}
ShareIs times x y z = Unit {0}

quotient_gives : (t : NumberType) (f : ℤ → ℤ → ℤ) (x y z : ℤ) → quotient t f x y ≡ Some z → f x y ≡ z
quotient_gives t f x y z e = by (is_zero y) e
  where
    by : (b : Bool) → (if b then None else (number t (int_div x y) >>= λ q. number t (f x y))) ≡ Some z → f x y ≡ z
    by true h = cc
    by false h =
        let (q, fit, to) = bind_some (number t (int_div x y)) (λ q. number t (f x y)) z h in
        number_same t (f x y) z to

share_is : (t : NumberType) (op : Operator) (x y z : ℤ) → apply t op x y ≡ Some z → ShareIs op x y z
share_is t over x y z e = quotient_gives t int_div x y z e
share_is t modulo x y z e = quotient_gives t int_rem x y z e
share_is t plus x y z e = tt
share_is t minus x y z e = tt
share_is t times x y z e = tt

form_same : (f g : Form) → Some f ≡ Some g → f ≡ g
form_same f g e = cc

pair_same : (i j : Division × Form) → Some i ≡ Some j → i ≡ j
pair_same i j e = cc

share_wide : (n : ℕ) (op : Operator) (h : Form) → share_form n op ≡ Some h → Wide (n + 2) h
share_wide n over h e = subst (Wide (n + 2)) (form_same (quotient_form n) h e) (extended_wide (constant_form n (pos 0)) (pos 1) (pos 0)
    n (constant_form_wide n (pos 0)))
share_wide n modulo h e = subst (Wide (n + 2)) (form_same (remainder_form n) h e) (extended_wide (constant_form n (pos 0)) (pos 0) (pos 1)
    n (constant_form_wide n (pos 0)))
share_wide n plus h e = cc
share_wide n minus h e = cc
share_wide n times h e = cc

share_has : (op : Operator) (h : Form) (d : Division) (s : List ℤ) (x y z : ℤ) → share_form (length s) op ≡ Some h → form_value d.numerator s ≡ x
    → d.divisor ≡ y → ShareIs op x y z
    → form_value h (with_both d s) ≡ z
share_has over h d s x y z e one two is =
    subst (λ (f : Form). form_value f (with_both d s) ≡ z) (form_same (quotient_form (length s)) h e)
    (share_value s (quotient_at d s) (remainder_at d s) ∙ ap (λ (i : ℤ). int_div i d.divisor) one ∙ ap (λ (i : ℤ). int_div x i) two ∙ is)
share_has modulo h d s x y z e one two is =
    subst (λ (f : Form). form_value f (with_both d s) ≡ z) (form_same (remainder_form (length s)) h e)
    (rest_value s (quotient_at d s) (remainder_at d s) ∙ ap (λ (i : ℤ). int_rem i d.divisor) one ∙ ap (λ (i : ℤ). int_rem x i) two ∙ is)
share_has plus h d s x y z e one two is = cc
share_has minus h d s x y z e one two is = cc
share_has times h d s x y z e one two is = cc

-- what a division of an expression is made of
record IsShare (n base : ℕ) (op : Operator) (a b : Expr) (p : Division × Form) : Type 0 where
  f : Form
  g : Form
  of : form_of n base a ≡ Some f
  of_too : form_of n base b ≡ Some g
  divides : IsDivision f g p.0
  share : share_form n op ≡ Some p.1

share_parts : (n base : ℕ) (op : Operator) (a b : Expr) (p : Division × Form) → share_of n base (binary op a b) ≡ Some p → IsShare n base op a b p
share_parts n base op a b p is =
    let (h, share, on) = bind_some (share_form n op) (λ h. form_of n base a >>= λ f. form_of n base b >>= λ g. division f g >>= λ d. Some (d, h)) p is in
    let (f, of, more) = bind_some (form_of n base a) (λ f. form_of n base b >>= λ g. division f g >>= λ d. Some (d, h)) p on in
    let (g, of_too, rest) = bind_some (form_of n base b) (λ g. division f g >>= λ d. Some (d, h)) p more in
    let (d, divides, last) = bind_some (division f g) (λ d. Some (d, h)) p rest in
    let pair : Division × Form = (d, h) in
    let same : pair ≡ p = pair_same pair p last in
    record {
      f = f;
      g = g;
      of = of;
      of_too = of_too;
      divides = subst (λ (i : Division × Form). IsDivision f g i.0) same (division_is f g d divides);
      share = subst (λ (i : Division × Form). share_form n op ≡ Some i.1) same share;
    }

share_fits : (n base : ℕ) (e : Expr) (p : Division × Form) → share_of n base e ≡ Some p → LinearizedFits (Divided p.0 p.1) n
share_fits n base (literal t i) p is = cc
share_fits n base (read x) p is = cc
share_fits n base input p is = cc
share_fits n base (negate e) p is = cc
share_fits n base (element a at e) p is = cc
share_fits n base (binary op a b) p is =
    let k = share_parts n base op a b p is in (
      record {
        wide = ap (λ (i : Form). length i.coefficients) k.divides.numerator ∙ (form_wide n base a k.f k.of).width;
        some = subst (λ (i : ℤ). pos 1 ≤ℤ i) (sym k.divides.divisor) k.divides.some;
        opposite = ap opposite_form k.divides.numerator ∙ k.divides.opposite;
      },
      (share_wide n op p.1 k.share).width,
    )

share_right : (s : Environment) (e : Expr) (p : Division × Form) (draws left : List ℤ) (z : ℤ) → share_of (length s.store) s.base e ≡ Some p
    → value_of e s draws ≡ Some (z, left)
    → HasValue (Divided p.0 p.1) s.store z
share_right s (literal t n) p draws left z is ran = cc
share_right s (read x) p draws left z is ran = cc
share_right s input p draws left z is ran = cc
share_right s (negate e) p draws left z is ran = cc
share_right s (element a at e) p draws left z is ran = cc
share_right s (binary op a b) p draws left z is ran =
    let k = share_parts (length s.store) s.base op a b p is in
    let t = wider (type_of a) (type_of b) in
    let (q, got, run) =
    bind_some (value_of a s draws) (λ q. value_of b s q.1 >>= λ r. apply (wider (type_of a) (type_of b)) op q.0 r.0 >>= λ y. Some (y, r.1)) (z, left) ran in
    let (r, got_too, went) = bind_some (value_of b s q.1) (λ r. apply (wider (type_of a) (type_of b)) op q.0 r.0 >>= λ y. Some (y, r.1)) (z, left) run in
    let (y, gave, end) = bind_some (apply (wider (type_of a) (type_of b)) op q.0 r.0) (λ y. Some (y, r.1)) (z, left) went in
    let is_z : y ≡ z = some_first y z r.1 left end in
    let top : form_value p.0.numerator s.store ≡ q.0 =
    ap (λ (i : Form). form_value i s.store) k.divides.numerator ∙ forms_are_right s a k.f draws q.1 q.0 k.of got in
    let bottom : p.0.divisor ≡ r.0 =
    k.divides.divisor ∙ sym (constant_value k.g s.store k.divides.constant) ∙ forms_are_right s b k.g q.1 r.1 r.0 k.of_too got_too in
    share_has op p.1 p.0 s.store q.0 r.0 z k.share top bottom (subst (λ (i : ℤ). ShareIs op q.0 r.0 i) is_z (share_is t op q.0 r.0 y gave))

pub seen_fits : (n base : ℕ) (e : Expr) → LinearizedFits (linearized n base e) n
seen_fits n base e = by (form_of n base e) (share_of n base e) refl refl
  where
    by : (o : Option Form) (p : Option (Division × Form)) → form_of n base e ≡ o → share_of n base e ≡ p → LinearizedFits (linearized_from o p) n
    by (Some f) p is also = (form_wide n base e f is).width
    by None (Some p) is also = share_fits n base e p also
    by None None is also = tt

-- wherever the expression has a value
pub seen_right : (s : Environment) (e : Expr) (draws left : List ℤ) (z : ℤ) → value_of e s draws ≡ Some (z, left)
    → SeenIs (linearized (length s.store) s.base e) s.store z
seen_right s e draws left z ran = (seen_fits (length s.store) s.base e, by (form_of (length s.store) s.base e) (share_of (length s.store) s.base e) refl refl)
  where
    by : (o : Option Form) (p : Option (Division × Form)) → form_of (length s.store) s.base e ≡ o → share_of (length s.store) s.base e ≡ p
        → HasValue (linearized_from o p) s.store z
    by (Some f) p is also = forms_are_right s e f draws left z is ran
    by None (Some p) is also = share_right s e p draws left z also ran
    by None None is also = tt

pub seen_is_right : LinearizationIsRight
seen_is_right s e draws left z ran = (seen_right s e draws left z ran).1

-- forms of divisions, and dimensions -------------------------------------------------------------------------------------

pub constant_length : (n : ℕ) (k : ℤ) → length (constant_form n k).coefficients ≡ n
constant_length n k = copies_length n (pos 0)

pub extended_length : (f : Form) (a b : ℤ) (n : ℕ) → length f.coefficients ≡ n → length (extended f a b).coefficients ≡ n + 2
extended_length f a b n e = two_wide f.coefficients a b n e

pub opposite_length : (d : Division) (n : ℕ) → Divides d n → length d.opposite.coefficients ≡ n
opposite_length d n h = ap (λ (f : Form). length f.coefficients) (sym h.opposite) ∙ map_length neg_ℤ d.numerator.coefficients ∙ h.wide

-- two dimensions more are there wherever moves are made
pub room : (n : ℕ) → n ≤ most_live → n + 2 ≤ 2 ^ 30
room n few = omega (arith, few)
