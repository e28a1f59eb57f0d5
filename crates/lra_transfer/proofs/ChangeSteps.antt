-- Steps of the proofs on changes of values.
use Rattle.std.proofs.Common.{◌≡◌, ℕ, suc, ◌+◌, ◌-◌, ◌≤◌, ◌<◌, List, ◌∷◌, Some, length, refl, sym, ap, ◌∙◌, subst, arith}
use Rattle.std.proofs.lemmas.List.{length-replicate, length-set}
use Rattle.lra_transfer.specs.Crates.lra_analysis_spec.Linear.{constant_form, comparison_test}
use Rattle.lra_transfer.specs.Crates.lra_analysis_spec.Linearization.{Divides, LinearizedFits, linearized, subtracted, linearized_difference}
use Rattle.lra_transfer.specs.Crates.lra_analysis_spec.MovesOf.{test_action, in_turn, in_case, first_case, second_case, in_cases, above_least, below_greatest, within_type, set_to, append_set}
use Rattle.lra_transfer.specs.Crates.lra_analysis_spec.MovesOf.{set_cell, set_target}
use Rattle.lra_transfer.specs.Crates.lra_analysis_spec.declared.linearization.Linearized.TheVariants.{Linear, Divided, Unseen}
use Rattle.lra_transfer.specs.Crates.lra_domain.Abstraction.{Abstraction, TransfersTo, worse}
use Rattle.lra_transfer.specs.Crates.lra_domain.Actions.{Action, assign, embed, remove_last, dims_after, test}
use Rattle.lra_transfer.specs.Crates.lra_domain.Moves.{Moves, stay, make, dims_moved}
use Rattle.lra_transfer.specs.Crates.{lra_analysis_spec.LiveLimit.most_live, lra_analysis_spec.Operations.lossy_operations, lra_analysis_spec.declared.linearization.Division.Division}
use Rattle.lra_transfer.specs.Crates.{lra_analysis_spec.declared.linearization.Linearized.Linearized, lra_base.OperatorViews.comparison_view, lra_base.declared.number_types.NumberType.NumberType}
use Rattle.lra_transfer.specs.Crates.{lra_base.declared.number_types.NumberType.TheVariants.Int, lra_base.declared.operators.Comparison.Comparison, lra_domain.Changes.AllCanBeMade}
use Rattle.lra_transfer.specs.Crates.{lra_domain.Parts.CapsWithin, lra_domain.declared.Exactness.Exactness, lra_domain.declared.Exactness.TheVariants.Exact, lra_linear_forms.Form.Form}
use Rattle.lra_transfer.specs.Crates.{lra_linear_forms.declared.test.Test.Test, lra_linear_spec.declared.ConKind.TheVariants.Ge}
use Rattle.lra_program.specs.{Program.Expr, declared.receivers.Cell.Cell, declared.receivers.Cell.TheVariants.Variable, declared.receivers.Target.Target}
use Rattle.lra_linearize.proofs.GuardThresholdSteps.{test_wide}
use Rattle.std.specs.Prelude.{ℤ, pos, negsuc, neg_ℤ, ◌-ℤ◌, replicate, slice_set}
use Rattle.lra_transfer.proofs.Crates.lra_analysis_spec.DivisionLemmas.{constant_form_wide, constant_length, extended_length, opposite_length, room, seen_fits, subtracted_fits}
use Rattle.lra_transfer.specs.Changes.{Does, Stays, CellFits}

-- one change alone
pub done_one : {V H : Type 0} (m : Abstraction V H) (step : Action) (v : V) (e : Exactness) (w : V) → TransfersTo m step v e w → m.dims w ≡ dims_after step (m.dims v) →
    CapsWithin (m.capped v) (m.capped w)
    → Does m (make step) v e w
done_one m step v e w meets dims caps = (meets, dims, caps)

pub done_none : {V H : Type 0} (m : Abstraction V H) (v : V) → Does m stay v Exact v
done_none m v = (refl, refl)

-- changes in turn ----------------------------------------------------------------------------------------------------

-- an action that keeps the number of dimensions, in both cases of a division
pub cases_dims : (live : ℕ) (d : Division) (step : Action) (n : ℕ) → dims_after step (n + 2) ≡ n + 2 → dims_moved (in_cases live d step) n ≡ n
cases_dims live d step n same = ap (λ (k : ℕ). k - 2) same ∙ omega arith

pub set_dims : (live x : ℕ) (s : Linearized) (n : ℕ) → dims_moved (set_to live x s) n ≡ n
set_dims live x (Linear f) n = refl
set_dims live x (Divided d f) n = cases_dims live d (assign x f) n refl
set_dims live x Unseen n = refl

-- how a division's cases begin can be made if two dimensions more are there
pub first_made : (d : Division) (n : ℕ) → Divides d n → n ≤ most_live → AllCanBeMade (first_case n d) n
first_made d n h few = (
  h.wide,
  (
    room n few,
    (
      extended_length (constant_form n (pos 0)) (pos 0) (pos 1) n (constant_length n (pos 0)),
      (
        extended_length (constant_form n (d.divisor -ℤ pos 1)) (pos 0) (negsuc 0) n (constant_length n (d.divisor -ℤ pos 1)),
        (extended_length d.numerator (neg_ℤ d.divisor) (negsuc 0) n h.wide, tt),
      ),
    ),
  ),
)

pub second_made : (d : Division) (n : ℕ) → Divides d n → n ≤ most_live → AllCanBeMade (second_case n d) n
second_made d n h few = (
  opposite_length d n h,
  (
    room n few,
    (
      extended_length (constant_form n (d.divisor -ℤ pos 1)) (pos 0) (pos 1) n (constant_length n (d.divisor -ℤ pos 1)),
      (
        extended_length (constant_form n (pos 0)) (pos 0) (negsuc 0) n (constant_length n (pos 0)),
        (extended_length d.numerator (neg_ℤ d.divisor) (negsuc 0) n h.wide, tt),
      ),
    ),
  ),
)

-- one after the other
pub turn_more : {V H : Type 0} (m : Abstraction V H) (step : Action) (steps all : List Action) (v x w : V) (c d : Exactness) → all ≡ step ∷ steps
    → Does m (make step) v c x
    → Does m (in_turn steps) x d w → Does m (in_turn all) v (worse c d) w
turn_more m step steps all v x w c d is one others = subst (λ (xs : List Action). Does m (in_turn xs) v (worse c d) w) (sym is) (x, c, d, one, others, refl)

pub case_made : {V H : Type 0} (m : Abstraction V H) (begun : List Action) (step : Action) (v x y w : V) (c d e : Exactness) → Does m (in_turn begun) v c x
    → Does m (make step) x d y
    → Does m (make (remove_last 2)) y e w → Does m (in_case begun step) v (worse c (worse d e)) w
case_made m begun step v x y w c d e one two three = (x, c, worse d e, one, (y, d, e, two, three, refl), refl)

pub cases_made : {V H : Type 0} (m : Abstraction V H) (live : ℕ) (d : Division) (step : Action) (v x y w : V) (c e i : Exactness)
    → Does m (in_case (first_case live d) step) v c x
    → Does m (in_case (second_case live d) step) v e y → (lossy_operations m).joined x y i w → Does m (in_cases live d step) v (worse (worse c e) i) w
cases_made m live d step v x y w c e i one two joined = (x, y, c, e, i, one, two, joined, refl)

-- what is seen of an expression fits
seen_there : (live n base : ℕ) (e : Expr) (s t : Linearized) → live ≡ n → s ≡ t → s ≡ linearized live base e → LinearizedFits t n
seen_there live n base e s t same is h =
    let fits : LinearizedFits (linearized n base e) n = seen_fits n base e in
    let found : t ≡ linearized n base e = sym is ∙ h ∙ ap (λ (k : ℕ). linearized k base e) same in
    subst (λ (r : Linearized). LinearizedFits r n) (sym found) fits

pub seen_width : (live n base : ℕ) (e : Expr) (s : Linearized) (f : Form) → live ≡ n → s ≡ Linear f → s ≡ linearized live base e → length f.coefficients ≡ n
seen_width live n base e s f same is h = seen_there live n base e s (Linear f) same is h

pub seen_divides : (live n base : ℕ) (e : Expr) (s : Linearized) (d : Division) (f : Form) → live ≡ n → s ≡ Divided d f → s ≡ linearized live base e →
    Divides d n
    × (length f.coefficients ≡ n + 2)
seen_divides live n base e s d f same is h = seen_there live n base e s (Divided d f) same is h

pub assign_stays : (x : ℕ) (f : Form) (n : ℕ) → x < n → length f.coefficients ≡ n + 2 → Stays (assign x f) (n + 2)
assign_stays x f n lives wide = (((let further : x < n + 2 = omega (arith, lives) in further), wide), refl)

-- and so does what is seen of a difference
pub difference_fits : (live n base : ℕ) (a b : Expr) (s : Linearized) → live ≡ n → s ≡ linearized_difference live base a b → LinearizedFits s n
difference_fits live n base a b s same is =
    let fits = subtracted_fits (linearized n base a) (linearized n base b) n (seen_fits n base a) (seen_fits n base b) in
    subst (λ (r : Linearized). LinearizedFits r n) (sym (is ∙ ap (λ (k : ℕ). linearized_difference k base a b) same)) fits

-- and what is seen of a value minus a number
pub number_fits : (live n : ℕ) (s d : Linearized) (z : ℤ) → live ≡ n → LinearizedFits s n → d ≡ subtracted s (Linear (constant_form live z)) →
    LinearizedFits d n
number_fits live n s d z same fits is =
    let wide = subtracted_fits s (Linear (constant_form n z)) n fits (constant_form_wide n z).width in
    subst (λ (r : Linearized). LinearizedFits r n) (sym (is ∙ ap (λ (k : ℕ). subtracted s (Linear (constant_form k z))) same)) wide

-- a test of a form that is as wide keeps the dimensions
pub test_stays : (op : Comparison) (d : Form) (t : Test) (n : ℕ) → length d.coefficients ≡ n + 2 → comparison_test (comparison_view op) d ≡ Some t
    → Stays (test_action t) (n + 2)
test_stays op d t n wide is = (test_wide op d t (sym is) ∙ wide, refl)

-- what is seen, by how it was found
pub set_as : {V H : Type 0} (m : Abstraction V H) (live x : ℕ) (s t : Linearized) (v : V) (e : Exactness) (w : V) → t ≡ s → Does m (set_to live x t) v e w
    → Does m (set_to live x s) v e w
set_as m live x s t v e w is made = subst (λ (r : Linearized). Does m (set_to live x r) v e w) is made

-- a target's variable, or its element
pub variable_below : (c : Cell) (x n : ℕ) → c ≡ Variable x → CellFits c n → x < n
variable_below c x n is fits = subst (λ (k : Cell). CellFits k n) is fits

pub cell_as : {V H : Type 0} (m : Abstraction V H) (live : ℕ) (t : Target) (c : Cell) (s : Linearized) (v : V) (e : Exactness) (w : V) → t.cell ≡ c
    → Does m (set_cell live t.number_type c s) v e w → Does m (set_target live (Some t) s) v e w
cell_as m live t c s v e w is made = subst (λ (k : Cell). Does m (set_cell live t.number_type k s) v e w) (sym is) made

-- a new variable and its value
pub done_append : {V H : Type 0} (m : Abstraction V H) (base : ℕ) (e : Expr) (v x w : V) (c d : Exactness) → TransfersTo m (embed 1) v c x →
    m.dims x ≡ m.dims v + 1
    → CapsWithin (m.capped v) (m.capped x) → suc (m.dims v) ≡ m.dims v + 1
    → Does m (set_to (m.dims x) (m.dims v) (linearized (m.dims x) base e)) x d w
    → Does m (append_set (m.dims v) (linearized (suc (m.dims v)) base e)) v (worse c d) w
done_append m base e v x w c d first dims caps one second =
    let live : m.dims x ≡ suc (m.dims v) = dims ∙ sym one in
    (x, c, d, (first, dims, caps), subst (λ (n : ℕ). Does m (set_to n (m.dims v) (linearized n base e)) x d w) live second, refl)

-- a form of one variable alone has a coefficient for each variable
pub one_wide : (f : Form) (n x : ℕ) (c k : ℤ) → f ≡ record { constant = k; coefficients = slice_set (replicate n (pos 0)) x c } → length f.coefficients ≡ n
one_wide f n x c k is = ap (λ (g : Form). length g.coefficients) is ∙ length-set (replicate n (pos 0)) x c ∙ length-replicate n (pos 0)

-- a variable within its type, over so many, at this place
pub held_as : {V H : Type 0} (m : Abstraction V H) (t : NumberType) (p : Moves) (n k x y : ℕ) (v : V) (e : Exactness) (w : V) → n ≡ k → x ≡ y → Does m
    (within_type t n x p) v e w
    → Does m (within_type t k y p) v e w
held_as m t p n k x y v e w a b made = subst (λ (z : ℕ). Does m (within_type t z y p) v e w) a (subst (λ (z : ℕ). Does m (within_type t n z p) v e w) b made)

-- both tests of an `int`
pub done_int : {V H : Type 0} (m : Abstraction V H) (p : Moves) (x : ℕ) (v u y w : V) (before c d : Exactness) (f g : Form) → f ≡ above_least Int (m.dims u) x →
    g
    ≡ below_greatest Int (m.dims u) x
    → Does m p v before u → TransfersTo m (test Ge f) u c y → m.dims y ≡ m.dims u → CapsWithin (m.capped u) (m.capped y) → TransfersTo m (test Ge g) y d w →
    m.dims w ≡
    m.dims y
    → CapsWithin (m.capped y) (m.capped w) → Does m (within_type Int (m.dims u) x p) v (worse before (worse c d)) w
done_int m p x v u y w before c d f g low high made one same caps two also more = (
  u,
  before,
  worse c d,
  made,
  (
    y,
    c,
    d,
    done_one m (test Ge (above_least Int (m.dims u) x)) u c y (subst (λ (h : Form). TransfersTo m (test Ge h) u c y) low one) same caps,
    done_one m (test Ge (below_greatest Int (m.dims u) x)) y d w (subst (λ (h : Form). TransfersTo m (test Ge h) y d w) high two) also more,
    refl,
  ),
  refl,
)
