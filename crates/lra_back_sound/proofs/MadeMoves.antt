-- Moves of which each disjunct can be made of a value with so many dimensions, and leaves so many: those of what is
-- done on a segment, if it fits.
use Rattle.std.proofs.Common.{◌≡◌, ℕ, ℤ, pos, negsuc, zero, suc, ◌+◌, ◌-◌, ◌≤◌, ◌<◌, List, [], ◌∷◌, ◌++◌, length, Option, Some, None, Bool, true, false, refl, sym, ◌∙◌, subst, arith}
use Rattle.std.proofs.lemmas.List.{length-set}
use Rattle.std.proofs.{lemmas.List.length-replicate, lemmas.List.Elements.All-append}
use Rattle.std.specs.{List.All, Prelude.⊤, Prelude.not, Prelude.replicate, Prelude.slice_set}
use Rattle.lra_back_sound.specs.Crates.lra_analysis_spec.Linearization.{Divides, LinearizedFits, linearized, subtracted, linearized_difference}
use Rattle.lra_back_sound.specs.Crates.lra_analysis_spec.MovesOf.{in_turn, first_case, second_case, in_case, in_cases, test_action, test_moves, case_moves, linearized_moves, split_moves}
use Rattle.lra_back_sound.specs.Crates.lra_analysis_spec.MovesOf.{comparison_as, comparison_moves, guard, number_moves, within_type, set_to, append_set, push_all, set_cell, above_least}
use Rattle.lra_back_sound.specs.Crates.lra_analysis_spec.MovesOf.{below_greatest, set_target, drop_last, moves_of}
use Rattle.lra_back_sound.specs.Crates.lra_analysis_spec.declared.linearization.Linearized.TheVariants.{Linear, Divided, Unseen}
use Rattle.lra_back_sound.specs.Crates.lra_base.Operators.{Comparison, below, at_most, above, at_least, equal, differs}
use Rattle.lra_back_sound.specs.Crates.lra_base.declared.case_labels.CaseLabel.TheVariants.{Case, Default}
use Rattle.lra_back_sound.specs.Crates.lra_base.declared.number_types.NumberType.TheVariants.{Int, Long}
use Rattle.lra_back_sound.specs.Crates.lra_base.declared.operators.Comparison.TheVariants.{Below, AtMost, Above, AtLeast, Equal, Differs}
use Rattle.lra_back_sound.specs.Crates.lra_domain.Actions.{Action, assign, forget, embed, remove_last, dims_after}
use Rattle.lra_back_sound.specs.Crates.lra_domain.Moves.{Moves, stay, make, first_then, join_of}
use Rattle.lra_back_sound.specs.Crates.lra_path_disjuncts.StepMoves.{unmatched_moves, label_moves, step_moves, dims_after_step}
use Rattle.lra_back_sound.specs.Crates.lra_path_segments.Segments.{SegmentStep, does, goes}
use Rattle.lra_back_sound.specs.Crates.lra_program.Program.{Cond, literal, compare, nonzero, opposite, both_of, either_of}
use Rattle.lra_back_sound.specs.Crates.lra_program.Step.{Op, append, fill, store_value, store_element, havoc, push_for, truncate_to}
use Rattle.lra_back_sound.specs.Crates.lra_transfer.Changes.{Stays, CellFits, PlaceFits, OpFitsDims}
use Rattle.lra_back_sound.specs.Crates.{lra_analysis_spec.Linear.constant_form, lra_analysis_spec.Linear.comparison_test, lra_analysis_spec.Live.live_after_op, lra_analysis_spec.LiveLimit.most_live}
use Rattle.lra_back_sound.specs.Crates.{lra_analysis_spec.declared.linearization.Division.Division, lra_analysis_spec.declared.linearization.Linearized.Linearized}
use Rattle.lra_back_sound.specs.Crates.{lra_base.declared.case_labels.CaseLabel.CaseLabel, lra_base.declared.number_types.NumberType.NumberType, lra_domain.Changes.CanBeMade}
use Rattle.lra_back_sound.specs.Crates.{lra_domain.Changes.AllCanBeMade, lra_linear_forms.Form.Form, lra_linear_forms.declared.test.Test.Test, lra_linear_spec.declared.ConKind.TheVariants.Ge}
use Rattle.lra_back_sound.specs.Crates.{lra_path_disjuncts.Disjuncts.disjuncts, lra_path_disjuncts.Disjuncts.written, lra_program.Value.Argument, lra_program.declared.receivers.Cell.Cell}
use Rattle.lra_back_sound.specs.Crates.{lra_program.declared.receivers.Cell.TheVariants.Variable, lra_program.declared.receivers.Cell.TheVariants.Waiting, lra_program.declared.receivers.Target.Target}
use Rattle.lra_back_sound.specs.Crates.lra_program.Step as step
use Rattle.lra_back_sound.specs.Crates.lra_domain.Actions as action
use Rattle.lra_back_sound.specs.Crates.lra_domain.Changes as changes
use Rattle.lra_back_sound.proofs.Crates.lra_analysis_spec.DivisionLemmas.{constant_length, room, seen_fits, subtracted_fits}
use Rattle.lra_back_sound.proofs.Crates.{lra_linearize.GuardThresholdSteps.test_wide, lra_transfer.ChangeSteps.assign_stays, lra_transfer.ChangeSteps.first_made, lra_transfer.ChangeSteps.second_made}
use Rattle.lra_back_sound.proofs.MadeLists.{all_one, all_pairs}

-- lists of actions -----------------------------------------------------------------------------------------------------

-- they can be made of a value of n dimensions, and leave m
abbrev pub LeadOn : ℕ → ℕ → List Action → Type 0
LeadOn n m path = AllCanBeMade path n × (changes.dims_after_actions path n ≡ m)

lead_then : (i j : List Action) (n k m : ℕ) → LeadOn n k i → LeadOn k m j → LeadOn n m (i ++ j)
lead_then [] j n k m one two = subst (λ z. LeadOn z m j) (sym one.1) two
lead_then (s ∷ i) j n k m one two =
    let more = lead_then i j (dims_after s n) k m (one.0.1, one.1) two in
    ((one.0.0, more.0), more.1)

-- moves ----------------------------------------------------------------------------------------------------------------

-- each side does
abbrev pub SidesLeadOn : Moves → ℕ → ℕ → Type 0
SidesLeadOn p n m = All (LeadOn n m) (disjuncts p)

stay_leads : (n m : ℕ) → n ≡ m → SidesLeadOn stay n m
stay_leads n m e = all_one (LeadOn n m) [] (tt, e)

make_leads : (s : Action) (n m : ℕ) → CanBeMade s n → dims_after s n ≡ m → SidesLeadOn (make s) n m
make_leads s n m can e = all_one (LeadOn n m) (s ∷ []) ((can, tt), e)

then_leads : (p q : Moves) (n k m : ℕ) → SidesLeadOn p n k → SidesLeadOn q k m → SidesLeadOn (first_then p q) n m
then_leads p q n k m one two =
    all_pairs (LeadOn n k) (LeadOn k m) (LeadOn n m) (λ y x. x ++ y) (λ x y i j. lead_then x y n k m i j) (disjuncts p) (disjuncts q) one two

join_leads : (p q : Moves) (n m : ℕ) → SidesLeadOn p n m → SidesLeadOn q n m → SidesLeadOn (join_of p q) n m
join_leads p q n m one two = All-append (LeadOn n m) (disjuncts p) (disjuncts q) one two

turn_leads : (steps : List Action) (n m : ℕ) → LeadOn n m steps → SidesLeadOn (in_turn steps) n m
turn_leads [] n m h = stay_leads n m h.1
turn_leads (s ∷ steps) n m h =
    then_leads (make s) (in_turn steps) n (dims_after s n) m (make_leads s n (dims_after s n) h.0.0 refl)
    (turn_leads steps (dims_after s n) m (h.0.1, h.1))

-- divisions ------------------------------------------------------------------------------------------------------------

case_leads : (begun : List Action) (s : Action) (n : ℕ) → LeadOn n (n + 2) begun → Stays s (n + 2) → SidesLeadOn (in_case begun s) n n
case_leads begun s n h still =
    then_leads (in_turn begun) (first_then (make s) (make (remove_last 2))) n (n + 2) n (turn_leads begun n (n + 2) h)
    (then_leads (make s) (make (remove_last 2)) (n + 2) (n + 2) n (make_leads s (n + 2) (n + 2) still.0 still.1)
    (make_leads (remove_last 2) (n + 2) n (let both : 2 ≤ n + 2 = omega arith in both) (let back : n + 2 - 2 ≡ n = omega arith in back)))

cases_lead : (d : Division) (s : Action) (n : ℕ) → Divides d n → n ≤ most_live → Stays s (n + 2) → SidesLeadOn (in_cases n d s) n n
cases_lead d s n h few still =
    join_leads (in_case (first_case n d) s) (in_case (second_case n d) s) n n
    (case_leads (first_case n d) s n (first_made d n h few, refl) still) (case_leads (second_case n d) s n (second_made d n h few, refl) still)

-- conditions -----------------------------------------------------------------------------------------------------------

test_width : (op : Comparison) (d : Form) (t : Test) (n : ℕ) → length d.coefficients ≡ n → comparison_test op d ≡ Some t → length t.expr.coefficients ≡ n
test_width below d t n wide is = test_wide Below d t (sym is) ∙ wide
test_width at_most d t n wide is = test_wide AtMost d t (sym is) ∙ wide
test_width above d t n wide is = test_wide Above d t (sym is) ∙ wide
test_width at_least d t n wide is = test_wide AtLeast d t (sym is) ∙ wide
test_width equal d t n wide is = test_wide Equal d t (sym is) ∙ wide
test_width differs d t n wide is = test_wide Differs d t (sym is) ∙ wide

test_leads : (o : Option Test) (n : ℕ) → ((t : Test) → o ≡ Some t → length t.expr.coefficients ≡ n) → SidesLeadOn (test_moves o) n n
test_leads None n h = stay_leads n n refl
test_leads (Some t) n h = make_leads (test_action t) n n (h t refl) refl

divided_leads : (d : Division) (o : Option Test) (n : ℕ) → Divides d n → n ≤ most_live → ((t : Test) → o ≡ Some t → length t.expr.coefficients ≡ n + 2)
    → SidesLeadOn (case_moves n d o) n n
divided_leads d None n fits few h = stay_leads n n refl
divided_leads d (Some t) n fits few h = cases_lead d (test_action t) n fits few (h t refl, refl)

module _ (n : ℕ) (few : n ≤ most_live) where
  seen_leads : (op : Comparison) (w : Linearized) → LinearizedFits w n → SidesLeadOn (linearized_moves n op w) n n
  seen_leads op (Linear d) fits = test_leads (comparison_test op d) n (λ t is. test_width op d t n fits is)
  seen_leads op (Divided c d) fits = divided_leads c (comparison_test op d) n fits.0 few (λ t is. test_width op d t (n + 2) fits.1 is)
  seen_leads op Unseen fits = stay_leads n n refl

  split_leads : (op : Comparison) (w : Linearized) → LinearizedFits w n → SidesLeadOn (split_moves n op w) n n
  split_leads differs w fits = join_leads (linearized_moves n below w) (linearized_moves n above w) n n (seen_leads below w fits) (seen_leads above w fits)
  split_leads below w fits = seen_leads below w fits
  split_leads at_most w fits = seen_leads at_most w fits
  split_leads above w fits = seen_leads above w fits
  split_leads at_least w fits = seen_leads at_least w fits
  split_leads equal w fits = seen_leads equal w fits

  compared_lead : (op : Comparison) (w : Linearized) → LinearizedFits w n → SidesLeadOn (comparison_moves n op w) n n
  compared_lead op (Linear d) fits = split_leads op (Linear d) fits
  compared_lead op (Divided c d) fits = split_leads op (Divided c d) fits
  compared_lead op Unseen fits = stay_leads n n refl

  guard_leads : (base : ℕ) (wanted : Bool) (c : Cond) → SidesLeadOn (guard n base wanted c) n n
  guard_leads base wanted (compare op a b) = compared_lead (comparison_as wanted op) (linearized_difference n base a b)
      (subtracted_fits (linearized n base a) (linearized n base b) n (seen_fits n base a) (seen_fits n base b))
  guard_leads base wanted (nonzero e) = compared_lead (comparison_as wanted differs) (linearized_difference n base e (literal Int 0))
      (subtracted_fits (linearized n base e) (linearized n base (literal Int 0)) n (seen_fits n base e) (seen_fits n base (literal Int 0)))
  guard_leads base wanted (opposite c) = guard_leads base (not wanted) c
  guard_leads base true (both_of a b) =
      then_leads (guard n base true a) (guard n base true b) n n n (guard_leads base true a) (guard_leads base true b)
  guard_leads base false (both_of a b) =
      join_leads (guard n base false a) (first_then (guard n base true a) (guard n base false b)) n n (guard_leads base false a)
      (then_leads (guard n base true a) (guard n base false b) n n n (guard_leads base true a) (guard_leads base false b))
  guard_leads base true (either_of a b) =
      join_leads (guard n base true a) (first_then (guard n base false a) (guard n base true b)) n n (guard_leads base true a)
      (then_leads (guard n base false a) (guard n base true b) n n n (guard_leads base false a) (guard_leads base true b))
  guard_leads base false (either_of a b) =
      then_leads (guard n base false a) (guard n base false b) n n n (guard_leads base false a) (guard_leads base false b)

  number_leads : (wanted : Bool) (s : Linearized) (z : ℤ) → LinearizedFits s n → SidesLeadOn (number_moves n wanted s z) n n
  number_leads wanted s z fits = compared_lead (comparison_as wanted equal) (subtracted s (Linear (constant_form n z)))
      (subtracted_fits s (Linear (constant_form n z)) n fits (constant_length n z))

  unmatched_lead : (s : Linearized) (labels : List CaseLabel) → LinearizedFits s n → SidesLeadOn (unmatched_moves n s labels) n n
  unmatched_lead s [] fits = stay_leads n n refl
  unmatched_lead s (Case z ∷ labels) fits =
      then_leads (number_moves n false s z) (unmatched_moves n s labels) n n n (number_leads false s z fits) (unmatched_lead s labels fits)
  unmatched_lead s (Default ∷ labels) fits = unmatched_lead s labels fits

  label_leads : (s : Linearized) (labels : List CaseLabel) (l : CaseLabel) → LinearizedFits s n → SidesLeadOn (label_moves n s labels l) n n
  label_leads s labels (Case z) fits = number_leads true s z fits
  label_leads s labels Default fits = unmatched_lead s labels fits

  set_leads : (x : ℕ) (s : Linearized) → x < n → LinearizedFits s n → SidesLeadOn (set_to n x s) n n
  set_leads x (Linear f) lives fits = make_leads (assign x f) n n (lives, fits) refl
  set_leads x (Divided d f) lives fits = cases_lead d (assign x f) n fits.0 few (assign_stays x f n lives fits.1)
  set_leads x Unseen lives fits = make_leads (forget x) n n lives refl

-- least changes --------------------------------------------------------------------------------------------------------

one_wide : (n x : ℕ) (c : ℤ) → length (slice_set (replicate n (pos 0)) x c) ≡ n
one_wide n x c = length-set (replicate n (pos 0)) x c ∙ length-replicate n (pos 0)

within_leads : (t : NumberType) (x : ℕ) (p : Moves) (n m : ℕ) → SidesLeadOn p n m → SidesLeadOn (within_type t m x p) n m
within_leads Long x p n m h = h
within_leads Int x p n m h =
    let low = action.test Ge (above_least Int m x) in
    let high = action.test Ge (below_greatest Int m x) in
    then_leads p (first_then (make low) (make high)) n m m h
    (then_leads (make low) (make high) m m m (make_leads low m m (one_wide m x (pos 1)) refl) (make_leads high m m (one_wide m x (negsuc 0)) refl))

append_leads : (n : ℕ) (s : Linearized) → n < most_live → LinearizedFits s (suc n) → SidesLeadOn (append_set n s) n (suc n)
append_leads n s less fits =
    let last : n < suc n = omega arith in
    then_leads (make (embed 1)) (set_to (suc n) n s) n (suc n) (suc n) (embed_leads n less) (set_leads (suc n) less n s last fits)
  where
    embed_leads : (n : ℕ) → n < most_live → SidesLeadOn (make (embed 1)) n (suc n)
    embed_leads n less = make_leads (embed 1) n (suc n) (omega (arith, less)) (let one : n + 1 ≡ suc n = omega arith in one)

push_leads : (base : ℕ) (given : List Argument) (n : ℕ) → n + length given ≤ most_live → SidesLeadOn (push_all n base given) n (n + length given)
push_leads base [] n room = stay_leads n (n + 0) (omega arith)
push_leads base (a ∷ rest) n room =
    let w = linearized (suc n) base a.value in
    let one = within_leads a.number_type n (append_set n w) n (suc n) (append_leads n w (omega (arith, room)) (seen_fits (suc n) base a.value)) in
    let rest_leads = push_leads base rest (suc n) (omega (arith, room)) in
    let same : suc n + length rest ≡ n + length (a ∷ rest) = omega arith in
    then_leads (within_type a.number_type (suc n) n (append_set n w)) (push_all (suc n) base rest) n (suc n) (n + length (a ∷ rest)) one
    (subst (SidesLeadOn (push_all (suc n) base rest) (suc n)) same rest_leads)

drop_leads : (k n : ℕ) → k ≤ n → SidesLeadOn (drop_last k) n (n - k)
drop_leads zero n less = stay_leads n (n - 0) (omega arith)
drop_leads (suc k) n less = make_leads (remove_last (suc k)) n (n - suc k) less refl

cell_leads : (t : NumberType) (c : Cell) (w : Linearized) (n : ℕ) → n ≤ most_live → CellFits c n → LinearizedFits w n → SidesLeadOn (set_cell n t c w) n n
cell_leads t (Variable x) w n few lives fits = within_leads t x (set_to n x w) n n (set_leads n few x w lives fits)
cell_leads t (Waiting p) w n few lives fits = stay_leads n n refl

target_leads : (o : Option Target) (w : Linearized) (n : ℕ) → n ≤ most_live → PlaceFits o n → LinearizedFits w n → SidesLeadOn (set_target n o w) n n
target_leads None w n few lives fits = stay_leads n n refl
target_leads (Some t) w n few lives fits = cell_leads t.number_type t.cell w n few lives fits

op_leads : (op : Op) (n : ℕ) → n ≤ most_live → OpFitsDims op n → SidesLeadOn (moves_of n op) n (live_after_op op n)
op_leads (append t) n few fits = within_leads t n (make (embed 1)) n (suc n)
    (make_leads (embed 1) n (suc n) (omega (arith, fits)) (let one : n + 1 ≡ suc n = omega arith in one))
op_leads (fill a) n few fits = stay_leads n n refl
op_leads (store_value base x y) n few fits = target_leads x.target (linearized n base y) n few fits (seen_fits n base y)
op_leads (store_element base x y) n few fits = stay_leads n n refl
op_leads (havoc x) n few fits = target_leads x.target Unseen n few fits tt
op_leads (step.push base given) n few fits = push_leads base given n fits
op_leads (push_for base x given) n few fits = push_leads base given n fits
op_leads (truncate_to k) n few fits = drop_leads (n - k) n (omega arith)
op_leads (step.test base c wanted) n few fits = guard_leads n few base wanted c

-- what is done on a segment -------------------------------------------------------------------------------------------

-- it can be done if n variables live
abbrev pub StepFits : ℕ → SegmentStep → Type 0
StepFits n (does op) = OpFitsDims op n
StepFits n (goes base e labels l) = ⊤

step_leads : (s : SegmentStep) (n : ℕ) → n ≤ most_live → StepFits n s → SidesLeadOn (step_moves n s) n (dims_after_step s n)
step_leads (does op) n few fits = op_leads op n few fits
step_leads (goes base e labels l) n few fits = label_leads n few (linearized n base e) labels l (seen_fits n base e)

-- all of it can be done if n variables live, and leaves m
abbrev pub StepsFit : ℕ → ℕ → List SegmentStep → Type 0
StepsFit n m [] = n ≡ m
StepsFit n m (s ∷ ops) = StepFits n s × (n ≤ most_live) × StepsFit (dims_after_step s n) m ops

pub steps_then : (i j : List SegmentStep) (n k m : ℕ) → StepsFit n k i → StepsFit k m j → StepsFit n m (i ++ j)
steps_then [] j n k m one two = subst (λ z. StepsFit z m j) (sym one) two
steps_then (s ∷ i) j n k m one two = (one.0, one.1, steps_then i j (dims_after_step s n) k m one.2 two)

pub written_lead : (ops : List SegmentStep) (n m : ℕ) → StepsFit n m ops → All (LeadOn n m) (written n ops)
written_lead [] n m e = all_one (LeadOn n m) [] (tt, e)
written_lead (s ∷ ops) n m fits =
    let k = dims_after_step s n in
    all_pairs (LeadOn n k) (LeadOn k m) (LeadOn n m) (λ y x. x ++ y) (λ x y i j. lead_then x y n k m i j) (disjuncts (step_moves n s)) (written k ops)
    (step_leads s n fits.1 fits.0) (written_lead ops k m fits.2)
