-- Moves say what four definitions said apart: lists of steps for the least changes, each an action or a division's two cases, conditions
-- with `!` pushed to their comparisons, tests and joins of pairs of a value and the exactness of what led to it, and the rows that a
-- loop's condition gives. Both say the same, so a pass by the ones is a pass by the others.
use Rattle.std.proofs.Common.{◌≡◌, ℕ, zero, suc, ◌-◌, ℤ, List, [], ◌∷◌, ◌++◌, Option, None, Some, Bool, true, false, refl, sym, ap, subst, ◌∙◌}
use Rattle.std.specs.Prelude.{◌↔◌, not}
use Rattle.lra_analysis_spec.specs.Crates.lra_base.Operators.{Comparison, below, at_most, above, at_least, equal, differs}
use Rattle.lra_analysis_spec.specs.Crates.lra_base.declared.number_types.NumberType.TheVariants.{Int, Long}
use Rattle.lra_analysis_spec.specs.Crates.lra_program.Program.{Expr, literal, Cond, compare, nonzero, opposite, both_of, either_of}
use Rattle.lra_analysis_spec.specs.Crates.lra_program.Step.{Op, append, fill, store_value, store_element, havoc, push, push_for, truncate_to, test}
use Rattle.lra_analysis_spec.specs.Crates.lra_program.declared.program.GlobalVariable.{GlobalVariable}
use Rattle.lra_analysis_spec.specs.Crates.lra_program.declared.receivers.Cell.TheVariants.{Variable, Waiting}
use Rattle.lra_analysis_spec.specs.Crates.{lra_base.declared.number_types.NumberType.NumberType, lra_linear_forms.declared.test.Test.Test, lra_linear_spec.declared.ConKind.TheVariants.Ge}
use Rattle.lra_analysis_spec.specs.Crates.{lra_program.Value.Argument, lra_program.declared.receivers.Cell.Cell, lra_program.declared.receivers.Target.Target}
use Rattle.lra_domain.specs.Actions as action
use Rattle.lra_domain.specs.Actions.{Action, assign, forget, embed, remove_last}
use Rattle.lra_domain.specs.{Abstraction.worse, Moves.Moves, Moves.stay, Moves.make, Moves.first_then, Moves.join_of, declared.Exactness.Exactness, declared.Exactness.TheVariants.Exact}
use Rattle.lra_analysis_spec.specs.Linear as linear
use Rattle.lra_analysis_spec.specs.GuardThresholds.{comparison_rows, inequalities, guard_thresholds, guard_rows}
use Rattle.lra_analysis_spec.specs.MovesOf.{opposite_comparison, comparison_as, test_action, first_case, second_case, in_case, in_cases, test_moves, case_moves, linearized_moves, split_moves}
use Rattle.lra_analysis_spec.specs.MovesOf.{comparison_moves, guard, above_least, below_greatest, within_type, set_to, append_set, push_all, set_cell, set_target, drop_last, first_values}
use Rattle.lra_analysis_spec.specs.declared.linearization.Linearized.TheVariants.{Linear, Divided, Unseen}
use Rattle.lra_analysis_spec.specs.{Linear.comparison_test, Linear.difference_form, Linearization.linearized, Linearization.linearized_difference, Moves.AreMade, Moves.Takes, Operations.Operations}
use Rattle.lra_analysis_spec.specs.{Pass.Filters, Pass.OpTransfer, declared.linearization.Division.Division, declared.linearization.Linearized.Linearized}
use Rattle.lra_analysis_spec.proofs.Takes.{worse_exact, worse_worse, stay_takes, then_takes, join_takes, takes_made}

-- as it was said -------------------------------------------------------------------------------------------------------

-- an action, or one list of actions and another one, whose values are joined
pub data Step : Type 0 where
  act : Action → Step
  two_cases : List Action → List Action → Step

-- an action as a division's cases have it
abbrev pub in_both : ℕ → Division → Action → Step
in_both live d step = two_cases (first_case live d ++ step ∷ remove_last 2 ∷ []) (second_case live d ++ step ∷ remove_last 2 ∷ [])

abbrev pub set_step : ℕ → ℕ → Linearized → Step
set_step live x (Linear f) = act (assign x f)
set_step live x (Divided d f) = in_both live d (assign x f)
set_step live x Unseen = act (forget x)

-- a least change other than a condition, as a list of steps; after what gives an `int` its value two tests
abbrev pub within_steps : NumberType → ℕ → ℕ → List Step → List Step
within_steps Long live x steps = steps
within_steps Int live x steps = steps ++ act (action.test Ge (above_least Int live x)) ∷ act (action.test Ge (below_greatest Int live x)) ∷ []

abbrev pub set_last : ℕ → Linearized → List Step
set_last live w = act (embed 1) ∷ set_step (suc live) live w ∷ []

abbrev pub all_pushed : ℕ → ℕ → List Argument → List Step
all_pushed live base [] = []
all_pushed live base (a ∷ rest) = within_steps a.number_type (suc live) live (set_last live (linearized (suc live) base a.value)) ++
    all_pushed (suc live) base rest

abbrev pub last_dropped : ℕ → List Step
last_dropped zero = []
last_dropped (suc k) = act (remove_last (suc k)) ∷ []

abbrev pub cell_steps : ℕ → NumberType → Cell → Linearized → List Step
cell_steps live t (Variable x) w = within_steps t live x (set_step live x w ∷ [])
cell_steps live t (Waiting p) w = []

abbrev pub target_steps : ℕ → Option Target → Linearized → List Step
target_steps live None w = []
target_steps live (Some t) w = cell_steps live t.number_type t.cell w

abbrev pub steps_of : ℕ → Op → List Step
steps_of live (append t) = within_steps t (suc live) live (act (embed 1) ∷ [])
steps_of live (fill a) = []
steps_of live (store_value base x e) = target_steps live x.target (linearized live base e)
steps_of live (store_element base x e) = []
steps_of live (havoc x) = target_steps live x.target Unseen
steps_of live (push base given) = all_pushed live base given
steps_of live (push_for base x given) = all_pushed live base given
steps_of live (truncate_to n) = last_dropped (live - n)
steps_of live (test base c wanted) = []

abbrev pub values_first : ℕ → List GlobalVariable → List Step
values_first live [] = []
values_first live (g ∷ gs) = within_steps g.number_type (suc live) live (set_last live (Linear (linear.constant_form (suc live) g.value))) ++
    values_first (suc live) gs

-- a condition without `!`
pub data Pushed : Type 0 where
  atom : Comparison → Expr → Expr → Pushed
  jumps_caught : Pushed → Pushed → Pushed
  -- the left side; or its opposite, and then the right side
  one_or : Pushed → Pushed → Pushed → Pushed

abbrev pub atom_of : Bool → Comparison → Expr → Expr → Pushed
atom_of true op a b = atom op a b
atom_of false op a b = atom (opposite_comparison op) a b

abbrev pub pushed : Bool → Cond → Pushed
pushed wanted (compare op a b) = atom_of wanted op a b
pushed wanted (nonzero e) = atom_of wanted differs e (literal Int 0)
pushed wanted (opposite c) = pushed (not wanted) c
pushed true (both_of a b) = jumps_caught (pushed true a) (pushed true b)
pushed false (both_of a b) = one_or (pushed false a) (pushed true a) (pushed false b)
pushed true (either_of a b) = one_or (pushed true a) (pushed false a) (pushed true b)
pushed false (either_of a b) = jumps_caught (pushed false a) (pushed false b)

abbrev pub pushed_rows : ℕ → ℕ → Pushed → List (List ℤ)
pushed_rows live base (atom op a b) = comparison_rows op (difference_form live base a b)
pushed_rows live base (jumps_caught a b) = pushed_rows live base a ++ pushed_rows live base b
pushed_rows live base (one_or a opposed b) = pushed_rows live base a ++ pushed_rows live base b

module _ (V H : Type 0) (ops : Operations V H) where
  -- one action after the other
  abbrev pub AreActed : List Action → V → Exactness → V → Type 0
  AreActed [] v e w = (w ≡ v) × (e ≡ Exact)
  AreActed (step ∷ steps) v e w = (x : V) × (c d : Exactness) × ops.changed step v c x × AreActed steps x d w × (e ≡ worse c d)

  abbrev pub IsDone : Step → V → Exactness → V → Type 0
  IsDone (act step) v e w = ops.changed step v e w
  IsDone (two_cases xs ys) v e w =
      (one two : V) × (c d i : Exactness) × AreActed xs v c one × AreActed ys v d two × ops.joined one two i w × (e ≡ worse (worse c d) i)

  -- one step after the other
  abbrev pub AreDone : List Step → V → Exactness → V → Type 0
  AreDone [] v e w = (w ≡ v) × (e ≡ Exact)
  AreDone (step ∷ steps) v e w = (x : V) × (c d : Exactness) × IsDone step v c x × AreDone steps x d w × (e ≡ worse c d)

  -- a value with the exactness of what led to it
  abbrev pub Told : Type 0
  Told = V × Exactness

  abbrev pub IsJoined : Told → Told → Told → Type 0
  IsJoined u v w = (e : Exactness) × ops.joined u.0 v.0 e w.0 × (w.1 ≡ worse (worse u.1 v.1) e)

  abbrev pub IsTestedBy : Option Test → Told → Told → Type 0
  IsTestedBy None v w = w ≡ v
  IsTestedBy (Some t) v w = (e : Exactness) × ops.changed (test_action t) v.0 e w.0 × (w.1 ≡ worse v.1 e)

  -- in a division's cases
  abbrev pub IsTestedIn : ℕ → Division → Option Test → Told → Told → Type 0
  IsTestedIn live c None v w = w ≡ v
  IsTestedIn live c (Some t) v w = (e : Exactness) × IsDone (in_both live c (test_action t)) v.0 e w.0 × (w.1 ≡ worse v.1 e)

  abbrev pub IsSeenTo : ℕ → Comparison → Linearized → Told → Told → Type 0
  IsSeenTo live op (Linear d) v w = IsTestedBy (comparison_test op d) v w
  IsSeenTo live op (Divided c d) v w = IsTestedIn live c (comparison_test op d) v w
  IsSeenTo live op Unseen v w = w ≡ v

  abbrev pub IsSplit : ℕ → Comparison → Linearized → Told → Told → Type 0
  IsSplit live differs d v w = (less : Told) × (more : Told) × IsSeenTo live below d v less × IsSeenTo live above d v more × IsJoined less more w
  IsSplit live op d v w = IsSeenTo live op d v w

  abbrev pub IsAtom : ℕ → Comparison → Linearized → Told → Told → Type 0
  IsAtom live op (Linear d) v w = IsSplit live op (Linear d) v w
  IsAtom live op (Divided c d) v w = IsSplit live op (Divided c d) v w
  IsAtom live op Unseen v w = w ≡ v

  abbrev pub IsPushed : ℕ → ℕ → Pushed → Told → Told → Type 0
  IsPushed live base (atom op a b) v w = IsAtom live op (linearized_difference live base a b) v w
  IsPushed live base (jumps_caught a b) v w = (m : Told) × IsPushed live base a v m × IsPushed live base b m w
  IsPushed live base (one_or a opposed b) v w = (left : Told) × (m : Told) × (right : Told) × IsPushed live base a v left ×
      IsPushed live base opposed v m × IsPushed live base b m right × IsJoined left right w

  abbrev pub DoesChange : Op → V → Exactness → V → Type 0
  DoesChange (test base c wanted) v e w = IsPushed (ops.dims v) base (pushed wanted c) (v, Exact) (w, e)
  DoesChange op v e w = AreDone (steps_of (ops.dims v) op) v e w

-- lists of steps -------------------------------------------------------------------------------------------------------

module _ (V H : Type 0) (ops : Operations V H) where
  abbrev Done : List Step → V → Exactness → V → Type 0
  Done = AreDone V H ops

  acted : (begun : List Action) (step : Action) (v : V) (e : Exactness) (w : V)
      → AreMade ops (in_case begun step) v e w ↔ AreActed V H ops (begun ++ step ∷ remove_last 2 ∷ []) v e w
  acted [] step v e w = (
    λ (x, c, d, (same, exact), (y, f, g, one, two, inner), is). (
      y,
      f,
      g,
      subst (λ (z : V). ops.changed step z f y) same one,
      (w, g, Exact, two, (refl, refl), sym (worse_exact g)),
      is ∙ ap (λ (i : Exactness). worse i d) exact ∙ inner,
    ),
    λ (y, f, g, one, (x, c, d, two, (same, exact), inner), is). (
      v,
      Exact,
      worse f c,
      (refl, refl),
      (y, f, c, one, subst (λ (z : V). ops.changed (remove_last 2) y c z) (sym same) two, refl),
      is ∙ ap (worse f) (inner ∙ ap (worse c) exact ∙ worse_exact c),
    ),
  )
  acted (first ∷ begun) step v e w = (
    λ (x, c, d, (y, f, g, one, others, inner), last, is). (
      y,
      f,
      worse g d,
      one,
      (acted begun step y (worse g d) w).0 (x, g, d, others, last, refl),
      is ∙ ap (λ (i : Exactness). worse i d) inner ∙ worse_worse f g d,
    ),
    λ (y, f, h, one, rest, is).
        let (x, g, d, others, last, inner) = (acted begun step y h w).1 rest in
        (x, worse f g, d, (y, f, g, one, others, refl), last, is ∙ ap (worse f) inner ∙ sym (worse_worse f g d)),
  )

  cases_made : (live : ℕ) (d : Division) (step : Action) (v : V) (e : Exactness) (w : V)
      → AreMade ops (in_cases live d step) v e w ↔ IsDone V H ops (in_both live d step) v e w
  cases_made live d step v e w = (
    λ (x, y, c, f, i, one, two, joined, is). (
      x,
      y,
      c,
      f,
      i,
      (acted (first_case live d) step v c x).0 one,
      (acted (second_case live d) step v f y).0 two,
      joined,
      is,
    ),
    λ (x, y, c, f, i, one, two, joined, is). (
      x,
      y,
      c,
      f,
      i,
      (acted (first_case live d) step v c x).1 one,
      (acted (second_case live d) step v f y).1 two,
      joined,
      is,
    ),
  )

  one_done : (step : Step) (v : V) (e : Exactness) (w : V) → IsDone V H ops step v e w ↔ Done (step ∷ []) v e w
  one_done step v e w = (
    λ h. (w, e, Exact, h, (refl, refl), sym (worse_exact e)),
    λ (x, c, d, one, (same, exact), worst).
        let so : e ≡ c = worst ∙ ap (worse c) exact ∙ worse_exact c in
        subst (λ (y : V). IsDone V H ops step v e y) (sym same) (subst (λ (a : Exactness). IsDone V H ops step v a x) (sym so) one),
  )

  one_made : (step : Action) (v : V) (e : Exactness) (w : V) → ops.changed step v e w ↔ Done (act step ∷ []) v e w
  one_made step v e w = one_done (act step) v e w

  set_made : (live x : ℕ) (s : Linearized) (v : V) (e : Exactness) (w : V) → AreMade ops (set_to live x s) v e w ↔ Done (set_step live x s ∷ []) v e w
  set_made live x (Linear f) v e w = one_made (assign x f) v e w
  set_made live x (Divided d f) v e w =
      let c = cases_made live d (assign x f) v e w in
      let o = one_done (in_both live d (assign x f)) v e w in
      (λ h. o.0 (c.0 h), λ h. c.1 (o.1 h))
  set_made live x Unseen v e w = one_made (forget x) v e w

  -- one list after the other
  split : (before later : List Step) (v : V) (e : Exactness) (w : V) → Done (before ++ later) v e w ↔
      ((x : V) × (c d : Exactness) × Done before v c x × Done later x d w × (e ≡ worse c d))
  split [] later v e w = (
    λ h. (v, Exact, e, (refl, refl), h, refl),
    λ (x, c, d, (same, exact), rest, is).
        let so : d ≡ e = sym (is ∙ ap (λ (z : Exactness). worse z d) exact) in
        subst (λ (y : V). Done later y e w) same (subst (λ (z : Exactness). Done later x z w) so rest),
  )
  split (step ∷ before) later v e w = (
    λ (x, c, d, one, rest, is).
        let (y, f, g, most, last, inner) = (split before later x d w).0 rest in
        (y, worse c f, g, (x, c, f, one, most, refl), last, is ∙ ap (worse c) inner ∙ sym (worse_worse c f g)),
    λ (y, h, g, (x, c, f, one, most, inner), last, is).
        (x, c, worse f g, one, (split before later x (worse f g) w).1 (y, f, g, most, last, refl), is ∙ ap (λ (z : Exactness). worse z g) inner ∙ worse_worse c f g),
  )

  -- the moves are made where the actions are done
  abbrev Agree : Moves → List Step → Type 0
  Agree p steps = (v : V) (e : Exactness) (w : V) → AreMade ops p v e w ↔ Done steps v e w

  then_agree : (p q : Moves) (before later : List Step) → Agree p before → Agree q later → Agree (first_then p q) (before ++ later)
  then_agree p q before later a b v e w = (
    λ (x, c, d, one, two, is). (split before later v e w).1 (x, c, d, (a v c x).0 one, (b x d w).0 two, is),
    λ h.
        let (x, c, d, one, two, is) = (split before later v e w).0 h in
        (x, c, d, (a v c x).1 one, (b x d w).1 two, is),
  )

  within_agree : (t : NumberType) (live x : ℕ) (p : Moves) (steps : List Step) → Agree p steps → Agree (within_type t live x p) (within_steps t live x steps)
  within_agree Long live x p steps a = a
  within_agree Int live x p steps a =
      let low = action.test Ge (above_least Int live x) in
      let high = action.test Ge (below_greatest Int live x) in
      then_agree p (first_then (make low) (make high)) steps (act low ∷ act high ∷ []) a
      (then_agree (make low) (make high) (act low ∷ []) (act high ∷ []) (one_made low) (one_made high))

  -- a new variable with its value
  set_agrees : (live : ℕ) (w : Linearized) → Agree (append_set live w) (set_last live w)
  set_agrees live w =
      then_agree (make (embed 1)) (set_to (suc live) live w) (act (embed 1) ∷ []) (set_step (suc live) live w ∷ []) (one_made (embed 1))
      (set_made (suc live) live w)

  push_agrees : (live base : ℕ) (given : List Argument) → Agree (push_all live base given) (all_pushed live base given)
  push_agrees live base [] v e w = (λ h. h, λ h. h)
  push_agrees live base (a ∷ rest) v e w =
      let f = linearized (suc live) base a.value in
      then_agree (within_type a.number_type (suc live) live (append_set live f)) (push_all (suc live) base rest) (within_steps a.number_type (suc live) live (set_last live f))
      (all_pushed (suc live) base rest) (within_agree a.number_type (suc live) live (append_set live f) (set_last live f) (set_agrees live f)) (push_agrees (suc live) base rest) v e w

  cell_agrees : (live : ℕ) (t : NumberType) (c : Cell) (s : Linearized) → Agree (set_cell live t c s) (cell_steps live t c s)
  cell_agrees live t (Variable x) s v e w = within_agree t live x (set_to live x s) (set_step live x s ∷ []) (set_made live x s) v e w
  cell_agrees live t (Waiting p) s v e w = (λ h. h, λ h. h)

  target_agrees : (live : ℕ) (o : Option Target) (s : Linearized) → Agree (set_target live o s) (target_steps live o s)
  target_agrees live None s v e w = (λ h. h, λ h. h)
  target_agrees live (Some t) s v e w = cell_agrees live t.number_type t.cell s v e w

  pub first_agrees : (live : ℕ) (gs : List GlobalVariable) → Agree (first_values live gs) (values_first live gs)
  first_agrees live [] v e w = (λ h. h, λ h. h)
  first_agrees live (g ∷ gs) v e w =
      let f = Linear (linear.constant_form (suc live) g.value) in
      then_agree (within_type g.number_type (suc live) live (append_set live f)) (first_values (suc live) gs) (within_steps g.number_type (suc live) live (set_last live f))
      (values_first (suc live) gs) (within_agree g.number_type (suc live) live (append_set live f) (set_last live f) (set_agrees live f)) (first_agrees (suc live) gs) v e w

  drop_agrees : (k : ℕ) (v : V) (e : Exactness) (w : V) → AreMade ops (drop_last k) v e w ↔ Done (last_dropped k) v e w
  drop_agrees zero v e w = (λ h. h, λ h. h)
  drop_agrees (suc k) v e w = one_made (remove_last (suc k)) v e w

-- conditions -----------------------------------------------------------------------------------------------------------

module _ (V H : Type 0) (ops : Operations V H) where
  abbrev Leads : Moves → V × Exactness → V × Exactness → Type 0
  Leads p v w = Takes ops p v.0 v.1 w.0 w.1

  stay_agrees : (v w : V × Exactness) → (w ≡ v) ↔ Leads stay v w
  stay_agrees v w =
      let t = stay_takes ops v.0 v.1 w.0 w.1 in (
        λ same. t.0 (ap (λ (x : V × Exactness). x.0) same, ap (λ (x : V × Exactness). x.1) same),
        λ h. let (same, flags) = t.1 h in let both : (w.0, w.1) ≡ (v.0, v.1) = rw (same, flags) refl in both,
      )

  test_agrees : (o : Option Test) (v w : V × Exactness) → IsTestedBy V H ops o v w ↔ Leads (test_moves o) v w
  test_agrees None v w = stay_agrees v w
  test_agrees (Some t) v w = (λ h. h, λ h. h)

  case_agrees : (live : ℕ) (c : Division) (o : Option Test) (v w : V × Exactness) → IsTestedIn V H ops live c o v w ↔ Leads (case_moves live c o) v w
  case_agrees live c None v w = stay_agrees v w
  case_agrees live c (Some t) v w = (
    λ (e, done, is). (e, (cases_made V H ops live c (test_action t) v.0 e w.0).1 done, is),
    λ (e, made, is). (e, (cases_made V H ops live c (test_action t) v.0 e w.0).0 made, is),
  )

  seen_agrees : (live : ℕ) (op : Comparison) (s : Linearized) (v w : V × Exactness) → IsSeenTo V H ops live op s v w ↔ Leads (linearized_moves live op s) v w
  seen_agrees live op (Linear d) v w = test_agrees (comparison_test op d) v w
  seen_agrees live op (Divided c d) v w = case_agrees live c (comparison_test op d) v w
  seen_agrees live op Unseen v w = stay_agrees v w

  split_agrees : (live : ℕ) (op : Comparison) (s : Linearized) (v w : V × Exactness) → IsSplit V H ops live op s v w ↔ Leads (split_moves live op s) v w
  split_agrees live differs s v w =
      let j = join_takes ops v.0 v.1 w.0 w.1 (linearized_moves live below s) (linearized_moves live above s) in (
        λ (l, r, one, two, (i, join, is)). j.0 (l.0, r.0, l.1, r.1, i, (seen_agrees live below s v l).0 one, (seen_agrees live above s v r).0 two, join, is),
        λ h.
            let (x, y, a, b, i, one, two, join, is) = j.1 h in
            ((x, a), (y, b), (seen_agrees live below s v (x, a)).1 one, (seen_agrees live above s v (y, b)).1 two, (i, join, is)),
      )
  split_agrees live below s v w = seen_agrees live below s v w
  split_agrees live at_most s v w = seen_agrees live at_most s v w
  split_agrees live above s v w = seen_agrees live above s v w
  split_agrees live at_least s v w = seen_agrees live at_least s v w
  split_agrees live equal s v w = seen_agrees live equal s v w

  comparison_agrees : (live : ℕ) (op : Comparison) (s : Linearized) (v w : V × Exactness) →
      IsAtom V H ops live op s v w ↔ Leads (comparison_moves live op s) v w
  comparison_agrees live op (Linear d) v w = split_agrees live op (Linear d) v w
  comparison_agrees live op (Divided c d) v w = split_agrees live op (Divided c d) v w
  comparison_agrees live op Unseen v w = stay_agrees v w

  module _ (live base : ℕ) where
    abbrev Agrees : Pushed → Moves → Type 0
    Agrees old p = (v w : V × Exactness) → IsPushed V H ops live base old v w ↔ Leads p v w

    atom_agrees : (wanted : Bool) (op : Comparison) (a b : Expr)
        → Agrees (atom_of wanted op a b) (comparison_moves live (comparison_as wanted op) (linearized_difference live base a b))
    atom_agrees true op a b v w = comparison_agrees live op (linearized_difference live base a b) v w
    atom_agrees false op a b v w = comparison_agrees live (opposite_comparison op) (linearized_difference live base a b) v w

    abbrev AgreesAt : Bool → Cond → Type 0
    AgreesAt wanted c = Agrees (pushed wanted c) (guard live base wanted c)

    both_agree : (wanted : Bool) (a b : Cond) → AgreesAt wanted a → AgreesAt wanted b
        → Agrees (jumps_caught (pushed wanted a) (pushed wanted b)) (first_then (guard live base wanted a) (guard live base wanted b))
    both_agree wanted a b one two v w =
        let t = then_takes ops v.0 v.1 w.0 w.1 (guard live base wanted a) (guard live base wanted b) in (
          λ (m, x, y). t.0 (m.0, m.1, (one v m).0 x, (two m w).0 y),
          λ h. let (n, c, x, y) = t.1 h in ((n, c), (one v (n, c)).1 x, (two (n, c) w).1 y),
        )

    one_agrees : (wanted : Bool) (a b : Cond) → AgreesAt wanted a → AgreesAt (not wanted) a → AgreesAt wanted b
        → Agrees (one_or (pushed wanted a) (pushed (not wanted) a) (pushed wanted b))
        (join_of (guard live base wanted a) (first_then (guard live base (not wanted) a) (guard live base wanted b)))
    one_agrees wanted a b one off two v w =
        let off_then = first_then (guard live base (not wanted) a) (guard live base wanted b) in
        let j = join_takes ops v.0 v.1 w.0 w.1 (guard live base wanted a) off_then in
        let t = λ (right : V × Exactness). then_takes ops v.0 v.1 right.0 right.1 (guard live base (not wanted) a) (guard live base wanted b) in (
          λ (left, m, right, x, y, z, (i, join, is)).
              j.0 (left.0, right.0, left.1, right.1, i, (one v left).0 x, (t right).0 (m.0, m.1, (off v m).0 y, (two m right).0 z), join, is),
          λ h.
              let (l, r, c, d, i, x, rest, join, is) = j.1 h in
              let (n, k, y, z) = (t (r, d)).1 rest in
              ((l, c), (n, k), (r, d), (one v (l, c)).1 x, (off v (n, k)).1 y, (two (n, k) (r, d)).1 z, (i, join, is)),
        )

    guard_agrees : (c : Cond) (wanted : Bool) → Agrees (pushed wanted c) (guard live base wanted c)
    guard_agrees (compare op a b) wanted = atom_agrees wanted op a b
    guard_agrees (nonzero e) wanted = atom_agrees wanted differs e (literal Int 0)
    guard_agrees (opposite c) wanted = guard_agrees c (not wanted)
    guard_agrees (both_of a b) true = both_agree true a b (guard_agrees a true) (guard_agrees b true)
    guard_agrees (both_of a b) false = one_agrees false a b (guard_agrees a false) (guard_agrees a true) (guard_agrees b false)
    guard_agrees (either_of a b) true = one_agrees true a b (guard_agrees a true) (guard_agrees a false) (guard_agrees b true)
    guard_agrees (either_of a b) false = both_agree false a b (guard_agrees a false) (guard_agrees b false)

module _ (live base : ℕ) where
  rows_agree : (c : Cond) (wanted : Bool) → guard_rows live base wanted c ≡ pushed_rows live base (pushed wanted c)
  rows_agree (compare op a b) true = refl
  rows_agree (compare op a b) false = refl
  rows_agree (nonzero e) true = refl
  rows_agree (nonzero e) false = refl
  rows_agree (opposite c) wanted = rows_agree c (not wanted)
  rows_agree (both_of a b) true = rw (rows_agree a true, rows_agree b true) refl
  rows_agree (both_of a b) false = rw (rows_agree a false, rows_agree b false) refl
  rows_agree (either_of a b) true = rw (rows_agree a true, rows_agree b true) refl
  rows_agree (either_of a b) false = rw (rows_agree a false, rows_agree b false) refl

-- what is said now, and what was said ------------------------------------------------------------------------------------

module _ (V H : Type 0) (ops : Operations V H) where
  pub leaves_agree : (base : ℕ) (c : Cond) (wanted : Bool) (v : V) (e : Exactness) (w : V)
      → Filters ops base c wanted v e w ↔ IsPushed V H ops (ops.dims v) base (pushed wanted c) (v, Exact) (w, e)
  leaves_agree base c wanted v e w =
      let agree = guard_agrees V H ops (ops.dims v) base c wanted (v, Exact) (w, e) in
      (λ h. agree.1 (e, h, refl), λ h. takes_made ops (guard (ops.dims v) base wanted c) v w e (agree.0 h))

  pub changes_agree : (op : Op) (v : V) (e : Exactness) (w : V) → OpTransfer ops op v e w ↔ DoesChange V H ops op v e w
  changes_agree (append t) v e w =
      within_agree V H ops t (suc (ops.dims v)) (ops.dims v) (make (embed 1)) (act (embed 1) ∷ []) (one_made V H ops (embed 1)) v e w
  changes_agree (fill a) v e w = (λ h. h, λ h. h)
  changes_agree (store_value base x y) v e w = target_agrees V H ops (ops.dims v) x.target (linearized (ops.dims v) base y) v e w
  changes_agree (store_element base x y) v e w = (λ h. h, λ h. h)
  changes_agree (havoc x) v e w = target_agrees V H ops (ops.dims v) x.target Unseen v e w
  changes_agree (push base given) v e w = push_agrees V H ops (ops.dims v) base given v e w
  changes_agree (push_for base x given) v e w = push_agrees V H ops (ops.dims v) base given v e w
  changes_agree (truncate_to n) v e w = drop_agrees V H ops (ops.dims v - n) v e w
  changes_agree (test base c wanted) v e w = leaves_agree base c wanted v e w

pub given_agree : (live base : ℕ) (c : Cond) → guard_thresholds live base c ≡ inequalities live (pushed_rows live base (pushed true c))
given_agree live base c = ap (inequalities live) (rows_agree live base c true)
