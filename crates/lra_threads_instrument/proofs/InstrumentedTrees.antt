-- What others do in a tree leaves alone what is required of it, by induction over the tree.
use Rattle.std.proofs.Common.{◌≡◌, ◌∙◌, ℕ, ◌+◌, ◌≤◌, ◌<◌, List, ◌++◌, Option, None, Some, Bool, true, false, inl, inr, refl, ap, sym, subst, arith, append-nil}
use Rattle.std.specs.Prelude.{if◌then◌else◌, nat_lt}
use Rattle.lra_threads_instrument.specs.Crates.lra_analysis_spec.Instrumented.{with_recording, instrumented, instrumented_arms}
use Rattle.lra_threads_instrument.specs.Crates.lra_pass_results.Dimensions.{ArmsFit, ArmsJumpWith, JumpsWith, TreeFits}
use Rattle.lra_threads_instrument.specs.Crates.{lra_analysis_spec.Live.live_after_op, lra_analysis_spec.Live.live_after, lra_analysis_spec.LiveLimit.most_live}
use Rattle.lra_threads_instrument.specs.Crates.{lra_base.declared.number_types.NumberType.NumberType, lra_transfer.Changes.CellFits, lra_transfer.Changes.OpFitsDims, lra_transfer.Changes.PlaceFits}
use Rattle.lra_program.specs.Step.{Op, append, fill, store_value, store_element, havoc, push, push_for, truncate_to, test}
use Rattle.lra_program.specs.{Receivers.nobody, Sites.Site, WrittenVariables.written_variable, WrittenVariables.cell_variable, WrittenVariables.target_variable, declared.receivers.Cell.Cell}
use Rattle.lra_program.specs.{declared.receivers.Cell.TheVariants.Variable, declared.receivers.Cell.TheVariants.Waiting, declared.receivers.Target.Target}
use Rattle.lra_operations.specs.CheckedOperations.{ops_where, ops_where_in_arms, op_where, fresh_after}
use Rattle.lra_operations.specs.Tree.{Exit, Node, empty, probe, point, act, check, seq, choose, iterate, catch, leave, select, Arms, no_arms, entry, arm}
use Rattle.lra_operations.specs.declared.probes.Probe.TheVariants.{RecordWrite}
use Rattle.lra_fixpoint.specs.{Lives.ArmsHave, Lives.PointsHave, Numbers.IsNumbered, Numbers.checks_in, Numbers.checks_in_arms, Numbers.values_in, Numbers.values_in_arms}

-- the operation alone, or noted
abbrev If : Bool → ℕ → ℕ → Node → Node
If t q place g = if t then seq g (probe q (RecordWrite place)) else g

-- how many variables live ---------------------------------------------------------------------------------------------------

live_if : (t : Bool) (q place : ℕ) (g : Node) (k : ℕ) → live_after (If t q place g) k ≡ live_after g k
live_if true q place g k = refl
live_if false q place g k = refl

live_noted : (n q : ℕ) (x : Option ℕ) (g : Node) (k : ℕ) → live_after (with_recording n q x g) k ≡ live_after g k
live_noted n q None g k = refl
live_noted n q (Some place) g k = live_if (nat_lt place n) q place g k

pub live_opened : (n : ℕ) (g : Node) (k : ℕ) → live_after (instrumented n g) k ≡ live_after g k
live_opened n empty k = refl
live_opened n (probe q what) k = refl
live_opened n (point q) k = refl
live_opened n (act q op) k = live_noted n q (written_variable op) (act q op) k
live_opened n (check q base c) k = refl
live_opened n (seq a b) k = live_opened n b (live_after (instrumented n a) k) ∙ ap (live_after b) (live_opened n a k)
live_opened n (choose q base c a b) k = live_opened n a k
live_opened n (iterate q base c a) k = refl
live_opened n (catch q j a) k = live_opened n a k
live_opened n (leave m j) k = refl
live_opened n (select q base e arms) k = refl

-- jumps ---------------------------------------------------------------------------------------------------------------------

no_jump_if : (t : Bool) (q place : ℕ) (op : Op) (k : ℕ) (j : Exit) (m : ℕ) → JumpsWith (If t q place (act q op)) k j m → ⊥
no_jump_if true q place op k j m (inl h) = h
no_jump_if true q place op k j m (inr h) = h
no_jump_if false q place op k j m h = h

no_jump_noted : (n q : ℕ) (x : Option ℕ) (op : Op) (k : ℕ) (j : Exit) (m : ℕ) → JumpsWith (with_recording n q x (act q op)) k j m → ⊥
no_jump_noted n q None op k j m h = h
no_jump_noted n q (Some place) op k j m h = no_jump_if (nat_lt place n) q place op k j m h

mutual
  pub jumps_of : (n : ℕ) (g : Node) (k : ℕ) (j : Exit) (m : ℕ) → JumpsWith (instrumented n g) k j m → JumpsWith g k j m
  jumps_of n empty k j m h = h
  jumps_of n (probe q what) k j m h = h
  jumps_of n (point q) k j m (inl h) = h
  jumps_of n (point q) k j m (inr h) = h
  jumps_of n (act q op) k j m h = no_jump_noted n q (written_variable op) op k j m h
  jumps_of n (check q base c) k j m h = h
  jumps_of n (seq a b) k j m (inl h) = inl (jumps_of n a k j m h)
  jumps_of n (seq a b) k j m (inr h) = inr (jumps_of n b (live_after a k) j m (subst (λ (l : ℕ). JumpsWith (instrumented n b) l j m) (live_opened n a k) h))
  jumps_of n (choose q base c a b) k j m (inl h) = inl (jumps_of n a k j m h)
  jumps_of n (choose q base c a b) k j m (inr h) = inr (jumps_of n b k j m h)
  jumps_of n (iterate q base c a) k j m (inl h) = absurd h
  jumps_of n (iterate q base c a) k j m (inr (inl h)) = jumps_of n a k j m h
  jumps_of n (iterate q base c a) k j m (inr (inr h)) = absurd h
  jumps_of n (catch q i a) k j m (other, h) = (other, jumps_of n a k j m h)
  jumps_of n (leave l i) k j m h = h
  jumps_of n (select q base e arms) k j m h = arms_jump_of n arms k j m h

  arms_jump_of : (n : ℕ) (arms : Arms) (k : ℕ) (j : Exit) (m : ℕ) → ArmsJumpWith (instrumented_arms n arms) k j m → ArmsJumpWith arms k j m
  arms_jump_of n no_arms k j m h = h
  arms_jump_of n (entry l arms) k j m h = arms_jump_of n arms k j m h
  arms_jump_of n (arm a arms) k j m (inl h) = inl (jumps_of n a k j m h)
  arms_jump_of n (arm a arms) k j m (inr h) = inr (arms_jump_of n arms k j m h)

mutual
  pub of_jumps : (n : ℕ) (g : Node) (k : ℕ) (j : Exit) (m : ℕ) → JumpsWith g k j m → JumpsWith (instrumented n g) k j m
  of_jumps n empty k j m h = h
  of_jumps n (probe q what) k j m h = h
  of_jumps n (point q) k j m h = absurd h
  of_jumps n (act q op) k j m h = absurd h
  of_jumps n (check q base c) k j m h = h
  of_jumps n (seq a b) k j m (inl h) = inl (of_jumps n a k j m h)
  of_jumps n (seq a b) k j m (inr h) =
      inr (subst (λ (l : ℕ). JumpsWith (instrumented n b) l j m) (sym (live_opened n a k)) (of_jumps n b (live_after a k) j m h))
  of_jumps n (choose q base c a b) k j m (inl h) = inl (of_jumps n a k j m h)
  of_jumps n (choose q base c a b) k j m (inr h) = inr (of_jumps n b k j m h)
  of_jumps n (iterate q base c a) k j m h = inr (inl (of_jumps n a k j m h))
  of_jumps n (catch q i a) k j m (other, h) = (other, of_jumps n a k j m h)
  of_jumps n (leave l i) k j m h = h
  of_jumps n (select q base e arms) k j m h = arms_of_jumps n arms k j m h

  arms_of_jumps : (n : ℕ) (arms : Arms) (k : ℕ) (j : Exit) (m : ℕ) → ArmsJumpWith arms k j m → ArmsJumpWith (instrumented_arms n arms) k j m
  arms_of_jumps n no_arms k j m h = h
  arms_of_jumps n (entry l arms) k j m h = arms_of_jumps n arms k j m h
  arms_of_jumps n (arm a arms) k j m (inl h) = inl (of_jumps n a k j m h)
  arms_of_jumps n (arm a arms) k j m (inr h) = inr (arms_of_jumps n arms k j m h)

-- what fits -----------------------------------------------------------------------------------------------------------------

fits_if : (t : Bool) (q place : ℕ) (g : Node) (k : ℕ) → live_after g k ≤ most_live → TreeFits g k → TreeFits (If t q place g) k
fits_if true q place g k few fits = (fits, few, tt)
fits_if false q place g k few fits = fits

fits_noted : (n q : ℕ) (x : Option ℕ) (g : Node) (k : ℕ) → live_after g k ≤ most_live → TreeFits g k → TreeFits (with_recording n q x g) k
fits_noted n q None g k few fits = fits
fits_noted n q (Some place) g k few fits = fits_if (nat_lt place n) q place g k few fits

-- what gives a value leaves as many
act_fits : (n q : ℕ) (op : Op) (k : ℕ) → k ≤ most_live → OpFitsDims op k → TreeFits (with_recording n q (written_variable op) (act q op)) k
act_fits n q (append t) k few fits = fits
act_fits n q (fill a) k few fits = fits
act_fits n q (store_value base x e) k few fits = fits_noted n q (written_variable (store_value base x e)) (act q (store_value base x e)) k few fits
act_fits n q (store_element base x e) k few fits = fits
act_fits n q (havoc x) k few fits = fits_noted n q (written_variable (havoc x)) (act q (havoc x)) k few fits
act_fits n q (push base given) k few fits = fits
act_fits n q (push_for base x given) k few fits = fits
act_fits n q (truncate_to m) k few fits = fits
act_fits n q (test base c wanted) k few fits = fits

mutual
  pub fits_of : (n : ℕ) (g : Node) (k : ℕ) → k ≤ most_live → TreeFits g k → TreeFits (instrumented n g) k
  fits_of n empty k few h = h
  fits_of n (probe q what) k few h = h
  fits_of n (point q) k few h = (tt, few, tt)
  fits_of n (act q op) k few h = act_fits n q op k few h
  fits_of n (check q base c) k few h = h
  fits_of n (seq a b) k few (x, fewer, y) = (
    fits_of n a k few x,
    subst (λ (l : ℕ). l ≤ most_live) (sym (live_opened n a k)) fewer,
    subst (TreeFits (instrumented n b)) (sym (live_opened n a k)) (fits_of n b (live_after a k) fewer y),
  )
  fits_of n (choose q base c a b) k few (x, y, same) =
      (fits_of n a k few x, fits_of n b k few y, live_opened n b k ∙ same ∙ sym (live_opened n a k))
  fits_of n (iterate q base c a) k few (x, same) =
      let back = live_opened n a k ∙ same in
      (tt, few, ((fits_of n a k few x, subst (λ (l : ℕ). l ≤ most_live) (sym back) few, tt), back))
  fits_of n (catch q j a) k few (x, jumps) = (fits_of n a k few x, λ m h. jumps m (jumps_of n a k j m h) ∙ sym (live_opened n a k))
  fits_of n (leave m j) k few h = h
  fits_of n (select q base e arms) k few h = arms_fit_of n arms k few h

  arms_fit_of : (n : ℕ) (arms : Arms) (k : ℕ) → k ≤ most_live → ArmsFit arms k → ArmsFit (instrumented_arms n arms) k
  arms_fit_of n no_arms k few h = h
  arms_fit_of n (entry l arms) k few h = arms_fit_of n arms k few h
  arms_fit_of n (arm a arms) k few (x, same, y) = (fits_of n a k few x, live_opened n a k ∙ same, arms_fit_of n arms k few y)

-- numbers -------------------------------------------------------------------------------------------------------------------

values_if : (t : Bool) (q place : ℕ) (op : Op) (k : ℕ) → values_in (If t q place (act q op)) k ≡ 0
values_if true q place op k = refl
values_if false q place op k = refl

values_noted : (n q : ℕ) (x : Option ℕ) (op : Op) (k : ℕ) → values_in (with_recording n q x (act q op)) k ≡ 0
values_noted n q None op k = refl
values_noted n q (Some place) op k = values_if (nat_lt place n) q place op k

mutual
  values_opened : (n : ℕ) (g : Node) (k : ℕ) → values_in (instrumented n g) k ≡ values_in g k
  values_opened n empty k = refl
  values_opened n (probe q what) k = refl
  values_opened n (point q) k = omega arith
  values_opened n (act q op) k = values_noted n q (written_variable op) op k
  values_opened n (check q base c) k = refl
  values_opened n (seq a b) k = omega (arith, values_opened n a k, values_opened n b k)
  values_opened n (choose q base c a b) k = omega (arith, values_opened n a k, values_opened n b k)
  values_opened n (iterate q base c a) k = omega (arith, values_opened n a k)
  values_opened n (catch q j a) k = values_opened n a k
  values_opened n (leave m j) k = refl
  values_opened n (select q base e arms) k = arms_values_opened n arms k

  arms_values_opened : (n : ℕ) (arms : Arms) (k : ℕ) → values_in_arms (instrumented_arms n arms) k ≡ values_in_arms arms k
  arms_values_opened n no_arms k = refl
  arms_values_opened n (entry l arms) k = arms_values_opened n arms k
  arms_values_opened n (arm a arms) k = omega (arith, values_opened n a k, arms_values_opened n arms k)

checks_if : (t : Bool) (q place : ℕ) (op : Op) (k : ℕ) → checks_in (If t q place (act q op)) k ≡ 0
checks_if true q place op k = refl
checks_if false q place op k = refl

checks_noted : (n q : ℕ) (x : Option ℕ) (op : Op) (k : ℕ) → checks_in (with_recording n q x (act q op)) k ≡ 0
checks_noted n q None op k = refl
checks_noted n q (Some place) op k = checks_if (nat_lt place n) q place op k

mutual
  checks_opened : (n : ℕ) (g : Node) (k : ℕ) → checks_in (instrumented n g) k ≡ checks_in g k
  checks_opened n empty k = refl
  checks_opened n (probe q what) k = refl
  checks_opened n (point q) k = refl
  checks_opened n (act q op) k = checks_noted n q (written_variable op) op k
  checks_opened n (check q base c) k = refl
  checks_opened n (seq a b) k = omega (arith, checks_opened n a k, checks_opened n b k)
  checks_opened n (choose q base c a b) k = omega (arith, checks_opened n a k, checks_opened n b k)
  checks_opened n (iterate q base c a) k = omega (arith, checks_opened n a k)
  checks_opened n (catch q j a) k = checks_opened n a k
  checks_opened n (leave m j) k = refl
  checks_opened n (select q base e arms) k = arms_checks_opened n arms k

  arms_checks_opened : (n : ℕ) (arms : Arms) (k : ℕ) → checks_in_arms (instrumented_arms n arms) k ≡ checks_in_arms arms k
  arms_checks_opened n no_arms k = refl
  arms_checks_opened n (entry l arms) k = arms_checks_opened n arms k
  arms_checks_opened n (arm a arms) k = omega (arith, checks_opened n a k, arms_checks_opened n arms k)

pub numbered_of : (T : List Site) (n : ℕ) (g : Node) → IsNumbered T g → IsNumbered T (instrumented n g)
numbered_of T n g numbered = record {
  values = λ k s is. values_opened n g k ∙ numbered.values k s is;
  no_values = λ k none. values_opened n g k ∙ numbered.no_values k none;
  checks = λ k. checks_opened n g k ∙ numbered.checks k;
}

-- how many live at points ---------------------------------------------------------------------------------------------------

points_if : (T : List Site) (t : Bool) (q place : ℕ) (op : Op) (k : ℕ) → place < live_after_op op k → PointsHave T (If t q place (act q op)) k
points_if T true q place op k lives = (tt, lives)
points_if T false q place op k lives = tt

points_in : (T : List Site) (n q : ℕ) (op : Op) (c : Cell) (k : ℕ) → CellFits c (live_after_op op k) →
    PointsHave T (with_recording n q (cell_variable c) (act q op)) k
points_in T n q op (Variable place) k fits = points_if T (nat_lt place n) q place op k fits
points_in T n q op (Waiting p) k fits = tt

points_to : (T : List Site) (n q : ℕ) (op : Op) (o : Option Target) (k : ℕ) → PlaceFits o (live_after_op op k)
    → PointsHave T (with_recording n q (target_variable o) (act q op)) k
points_to T n q op None k fits = tt
points_to T n q op (Some target) k fits = points_in T n q op target.cell k fits

-- what is noted is a variable that lives, if the operation can be made
points_noted : (T : List Site) (n q : ℕ) (op : Op) (k : ℕ) → OpFitsDims op k → PointsHave T (with_recording n q (written_variable op) (act q op)) k
points_noted T n q (append t) k fits = tt
points_noted T n q (fill a) k fits = tt
points_noted T n q (store_value base x e) k fits = points_to T n q (store_value base x e) x.target k fits
points_noted T n q (store_element base x e) k fits = tt
points_noted T n q (havoc x) k fits = points_to T n q (havoc x) x.target k fits
points_noted T n q (push base given) k fits = tt
points_noted T n q (push_for base x given) k fits = tt
points_noted T n q (truncate_to m) k fits = tt
points_noted T n q (test base c wanted) k fits = tt

mutual
  pub points_of : (T : List Site) (n : ℕ) (g : Node) (k : ℕ) → TreeFits g k → PointsHave T g k → PointsHave T (instrumented n g) k
  points_of T n empty k f h = h
  points_of T n (probe q what) k f h = h
  points_of T n (point q) k f h = (tt, h)
  points_of T n (act q op) k f h = points_noted T n q op k f
  points_of T n (check q base c) k f h = h
  points_of T n (seq a b) k f (x, y) =
      (points_of T n a k f.0 x, subst (PointsHave T (instrumented n b)) (sym (live_opened n a k)) (points_of T n b (live_after a k) f.2 y))
  points_of T n (choose q base c a b) k f (x, y) = (points_of T n a k f.0 x, points_of T n b k f.1 y)
  points_of T n (iterate q base c a) k f (here, x, same) = (tt, (here, (points_of T n a k f.0 x, tt), live_opened n a k ∙ same))
  points_of T n (catch q j a) k f h = points_of T n a k f.0 h
  points_of T n (leave m j) k f h = h
  points_of T n (select q base e arms) k f h = arms_have_of T n arms k f h

  arms_have_of : (T : List Site) (n : ℕ) (arms : Arms) (k : ℕ) → ArmsFit arms k → ArmsHave T arms k → ArmsHave T (instrumented_arms n arms) k
  arms_have_of T n no_arms k f h = h
  arms_have_of T n (entry l arms) k f h = arms_have_of T n arms k f h
  arms_have_of T n (arm a arms) k f (x, same, y) = (points_of T n a k f.0 x, live_opened n a k ∙ same, arms_have_of T n arms k f.2 y)

-- what is asked -------------------------------------------------------------------------------------------------------------

fresh_if : (fresh : Option NumberType) (t : Bool) (q place : ℕ) (g : Node) → fresh_after fresh (If t q place g) ≡ fresh_after fresh g
fresh_if fresh true q place g = refl
fresh_if fresh false q place g = refl

fresh_noted : (fresh : Option NumberType) (n q : ℕ) (x : Option ℕ) (g : Node) → fresh_after fresh (with_recording n q x g) ≡ fresh_after fresh g
fresh_noted fresh n q None g = refl
fresh_noted fresh n q (Some place) g = fresh_if fresh (nat_lt place n) q place g

fresh_opened : (fresh : Option NumberType) (n : ℕ) (g : Node) → fresh_after fresh (instrumented n g) ≡ fresh_after fresh g
fresh_opened fresh n empty = refl
fresh_opened fresh n (probe q what) = refl
fresh_opened fresh n (point q) = refl
fresh_opened fresh n (act q op) = fresh_noted fresh n q (written_variable op) (act q op)
fresh_opened fresh n (check q base c) = refl
fresh_opened fresh n (seq a b) =
    fresh_opened (fresh_after fresh (instrumented n a)) n b ∙ ap (λ (f : Option NumberType). fresh_after f b) (fresh_opened fresh n a)
fresh_opened fresh n (choose q base c a b) = refl
fresh_opened fresh n (iterate q base c a) = refl
fresh_opened fresh n (catch q j a) = refl
fresh_opened fresh n (leave m j) = refl
fresh_opened fresh n (select q base e arms) = refl

module _ (asks : Op → Bool) where
  asks_if : (fresh : Option NumberType) (t : Bool) (q place : ℕ) (g : Node) → ops_where asks fresh (If t q place g) ≡ ops_where asks fresh g
  asks_if fresh true q place g = append-nil (ops_where asks fresh g)
  asks_if fresh false q place g = refl

  asks_noted : (fresh : Option NumberType) (n q : ℕ) (x : Option ℕ) (g : Node) → ops_where asks fresh (with_recording n q x g) ≡ ops_where asks fresh g
  asks_noted fresh n q None g = refl
  asks_noted fresh n q (Some place) g = asks_if fresh (nat_lt place n) q place g

  mutual
    pub asks_opened : (fresh : Option NumberType) (n : ℕ) (g : Node) → ops_where asks fresh (instrumented n g) ≡ ops_where asks fresh g
    asks_opened fresh n empty = refl
    asks_opened fresh n (probe q what) = refl
    asks_opened fresh n (point q) = refl
    asks_opened fresh n (act q op) = asks_noted fresh n q (written_variable op) (act q op)
    asks_opened fresh n (check q base c) = refl
    asks_opened fresh n (seq a b) =
        ap (λ xs. xs ++ ops_where asks (fresh_after fresh (instrumented n a)) (instrumented n b)) (asks_opened fresh n a) ∙
        ap (λ xs. ops_where asks fresh a ++ xs) (asks_opened (fresh_after fresh (instrumented n a)) n b ∙
        ap (λ (f : Option NumberType). ops_where asks f b) (fresh_opened fresh n a))
    asks_opened fresh n (choose q base c a b) =
        ap (λ xs. (op_where asks q None (test base c true) ++ xs) ++ ops_where asks None (instrumented n b)) (asks_opened None n a) ∙
        ap (λ xs. (op_where asks q None (test base c true) ++ ops_where asks None a) ++ xs) (asks_opened None n b)
    asks_opened fresh n (iterate q base c a) =
        ap (λ xs. op_where asks q None (test base c true) ++ xs) (append-nil (ops_where asks None (instrumented n a)) ∙ asks_opened None n a)
    asks_opened fresh n (catch q j a) = asks_opened None n a
    asks_opened fresh n (leave m j) = refl
    asks_opened fresh n (select q base e arms) = ap (λ xs. op_where asks q None (store_value base nobody e) ++ xs) (arms_ask_opened None n arms)

    arms_ask_opened : (fresh : Option NumberType) (n : ℕ) (arms : Arms) →
        ops_where_in_arms asks fresh (instrumented_arms n arms) ≡ ops_where_in_arms asks fresh arms
    arms_ask_opened fresh n no_arms = refl
    arms_ask_opened fresh n (entry l arms) = arms_ask_opened fresh n arms
    arms_ask_opened fresh n (arm a arms) =
        ap (λ xs. xs ++ ops_where_in_arms asks (fresh_after fresh (instrumented n a)) (instrumented_arms n arms)) (asks_opened fresh n a) ∙
        ap (λ xs. ops_where asks fresh a ++ xs) (arms_ask_opened (fresh_after fresh (instrumented n a)) n arms ∙
        ap (λ (f : Option NumberType). ops_where_in_arms asks f arms) (fresh_opened fresh n a))
