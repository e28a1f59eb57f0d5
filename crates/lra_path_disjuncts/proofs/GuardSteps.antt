-- Moves that are put into a table, one after the other: what stands there stays, and is found where it was.
use Rattle.std.proofs.Common.{◌≡◌, ◌<◌, ℕ, zero, suc, List, [], ◌∷◌, ◌++◌, length, Some, refl, sym, ap, ◌∙◌, subst, arith, append-nil, append_assoc}
use Rattle.std.proofs.lemmas.List.{map-append}
use Rattle.std.specs.Prelude as outcome
use Rattle.std.specs.Prelude.{slice_get, IfOk, OnOk}
use Rattle.lra_path_disjuncts.specs.Crates.{lra_analysis_spec.MovesOf.in_turn, lra_domain.Actions.Action, lra_domain.Changes.action_of, lra_domain.Changes.actions_of, lra_domain.Moves.Moves}
use Rattle.lra_path_disjuncts.specs.Crates.{lra_domain.Moves.stay, lra_domain.Moves.make, lra_domain.Moves.first_then, lra_domain.Moves.join_of, lra_domain.declared.changes.Change.Change}
use Rattle.lra_path_disjuncts.specs.{Conditions.IsTurned, Tables.or_stay, Tables.all_moves, Tables.moves_at, Tables.Has, Tables.Grows, declared.tables.MovesEntry.MovesEntry}
use Rattle.lra_path_disjuncts.proofs.TableSteps.{as_long, has_at, within}

some_there : (ms : List Moves) (i : ℕ) → i < length ms → slice_get ms i ≡ Some (or_stay (slice_get ms i))
some_there [] i less = absurd (omega (arith, less))
some_there (m ∷ ms) zero less = refl
some_there (m ∷ ms) (suc i) less = some_there ms i (omega (arith, less))

pub there_at : (es : List MovesEntry) (i : ℕ) → i < length es → Has es i (moves_at es i)
there_at es i less = some_there (all_moves es) i (subst (λ n. i < n) (sym (as_long es)) less)

module _ (es fs : List MovesEntry) (grows : Grows es fs) where
  pub still_in : (i : ℕ) → i < length es → i < length fs
  still_in i less = within fs i (moves_at es i) (grows i (moves_at es i) (there_at es i less))

  pub still_at : (i : ℕ) → i < length es → moves_at fs i ≡ moves_at es i
  still_at i less = has_at fs i (moves_at es i) (grows i (moves_at es i) (there_at es i less))

pub grows_on : (es fs gs : List MovesEntry) → Grows es fs → Grows fs gs → Grows es gs
grows_on es fs gs one two i p has = two i p (one i p has)

-- of moves that stand at their places
pub then_has : (es fs : List MovesEntry) (i a b : ℕ) (p q : Moves) → Has es a p → Has es b q → Has fs i (first_then (moves_at es a) (moves_at es b))
    → Has fs i (first_then p q)
then_has es fs i a b p q one two has =
    has ∙ ap (λ m. Some (first_then m (moves_at es b))) (has_at es a p one) ∙ ap (λ m. Some (first_then p m)) (has_at es b q two)

pub join_has : (es fs : List MovesEntry) (i a b : ℕ) (p q : Moves) → Has es a p → Has es b q → Has fs i (join_of (moves_at es a) (moves_at es b))
    → Has fs i (join_of p q)
join_has es fs i a b p q one two has =
    has ∙ ap (λ m. Some (join_of m (moves_at es b))) (has_at es a p one) ∙ ap (λ m. Some (join_of p m)) (has_at es b q two)

-- changes, one after the other
pub turned_first : (es : List MovesEntry) (place : ℕ) (whole : List Change) → Has es place stay → IsTurned es place (actions_of whole) whole
turned_first es place whole has = ([], sym (append-nil (actions_of whole)), has)

pub turned_in : (es fs : List MovesEntry) (place : ℕ) (whole : List Action) (left : List Change) → IsTurned es place whole left → Grows es fs →
    place < length fs
turned_in es fs place whole left (more, is, has) grows = within fs place (in_turn more) (grows place (in_turn more) has)

pub turned_next : (whole : List Action) (all left : List Change) (change : Change) (es fs gs : List MovesEntry) (place first next : ℕ) →
    all ≡ left ++ change ∷ []
    → IsTurned es place whole all → Grows es fs → Has fs first (make (action_of change))
    → Has gs next (first_then (moves_at fs first) (moves_at fs place)) → IsTurned gs next whole left
turned_next whole all left change es fs gs place first next is (more, same, has) grows made led = (
  action_of change ∷ more,
  same ∙ ap (λ w. actions_of w ++ more) is ∙ ap (λ w. w ++ more) (map-append action_of left (change ∷ []))
      ∙ append_assoc (actions_of left) (action_of change ∷ []) more,
  then_has fs gs next first place (make (action_of change)) (in_turn more) made (grows place (in_turn more) has) led,
)

pub turned_last : (es : List MovesEntry) (place : ℕ) (whole : List Action) (left : List Change) → length left ≡ 0 → IsTurned es place whole left
    → Has es place (in_turn whole)
turned_last es place whole [] none (more, is, has) = subst (λ w. Has es place (in_turn w)) (sym is) has
turned_last es place whole (c ∷ cs) none (more, is, has) = absurd (omega (arith, none))

-- of moves that come, and of those that stood there
pub case_has : {E : Type 0} (r : outcome.Result ℕ E) (es fs gs : List MovesEntry) (first end : ℕ) (p : Moves) → Grows es fs → end < length es → Has fs first p
    → IfOk r (λ i. Has gs i (first_then (moves_at fs first) (moves_at fs end))) → IfOk r (λ i. Has gs i (first_then p (moves_at es end)))
case_has r es fs gs first end p grows less has led =
    subst (λ (m : Moves). IfOk r (λ i. Has gs i (first_then p m))) (still_at es fs grows end less)
    (subst (λ (m : Moves). IfOk r (λ i. Has gs i (first_then m (moves_at fs end)))) (has_at fs first p has) led)

pub both_has : {E : Type 0} (r : outcome.Result ℕ E) (es fs : List MovesEntry) (a b : ℕ) (p q : Moves) → Has es a p → Has es b q
    → IfOk r (λ i. Has fs i (first_then (moves_at es a) (moves_at es b))) → IfOk r (λ i. Has fs i (first_then p q))
both_has r es fs a b p q one two led =
    subst (λ (m : Moves). IfOk r (λ i. Has fs i (first_then p m))) (has_at es b q two)
    (subst (λ (m : Moves). IfOk r (λ i. Has fs i (first_then m (moves_at es b)))) (has_at es a p one) led)

pub grows_to : {T E : Type 0} (r : outcome.Result T E) (es fs gs : List MovesEntry) → Grows es fs → OnOk r (Grows fs gs) → OnOk r (Grows es gs)
grows_to (outcome.Ok v) es fs gs one two = grows_on es fs gs one two
grows_to (outcome.Err e) es fs gs one two = tt

-- two cases with one end
pub cases_have : {E : Type 0} (r : outcome.Result ℕ E) (es fs gs hs : List MovesEntry) (end one two : ℕ) (p a b : Moves) → Has es end p → Grows es fs →
    Grows fs gs
    → Has fs one (first_then a (moves_at es end)) → Has gs two (first_then b (moves_at fs end))
    → IfOk r (λ i. Has hs i (join_of (moves_at gs one) (moves_at gs two))) → IfOk r (λ i. Has hs i (join_of (first_then a p) (first_then b p)))
cases_have r es fs gs hs end one two p a b has grows later first second led =
    let left = has_at gs one (first_then a (moves_at es end)) (later one (first_then a (moves_at es end)) first)
    ∙ ap (λ m. first_then a m) (has_at es end p has) in
    let right = has_at gs two (first_then b (moves_at fs end)) second ∙ ap (λ m. first_then b m) (has_at fs end p (grows end p has)) in
    subst (λ (m : Moves). IfOk r (λ i. Has hs i (join_of (first_then a p) m))) right
    (subst (λ (m : Moves). IfOk r (λ i. Has hs i (join_of m (moves_at gs two)))) left led)
