-- Moves written out: one list of actions for each side of their joins.
use Rattle.std.specs.List.Sorted.{IsPermutation}
use Rattle.std.specs.Prelude.{◌≡◌, ◌↔◌, ℕ, ℤ, List, [], ◌∷◌, ◌++◌, map, length}
use Rattle.lra_path_disjuncts.specs.Crates.lra_domain.Moves.{Moves, stay, make, first_then, join_of, MayLead, SomeLeads}
use Rattle.lra_path_disjuncts.specs.Crates.lra_domain.Moves.{cases}
use Rattle.lra_path_disjuncts.specs.Crates.{lra_analysis_spec.Moves.AreMade, lra_analysis_spec.Operations.Operations}
use Rattle.lra_path_disjuncts.specs.Crates.{lra_domain.Actions.Action, lra_domain.declared.Exactness.Exactness}
use Rattle.lra_path_disjuncts.specs.Crates.{lra_domain.declared.Exactness.TheVariants.Exact}
use Rattle.lra_program.specs.Step.{State}
use Rattle.lra_path_segments.specs.Segments.{SegmentStep, each_then, RunsOps}
use Rattle.lra_path_disjuncts.specs.StepMoves.{step_moves, dims_after_step}

-- of one after the other the disjuncts of the later are the outer ones; a join's stand one after the other
abbrev pub disjuncts : Moves → List (List Action)
disjuncts stay = [] ∷ []
disjuncts (make step) = (step ∷ []) ∷ []
disjuncts (first_then a b) = each_then (disjuncts a) (disjuncts b)
disjuncts (join_of a b) = disjuncts a ++ disjuncts b

-- the operations of a segment, if so many variables live at its beginning
abbrev pub written : ℕ → List SegmentStep → List (List Action)
written live [] = [] ∷ []
written live (step ∷ ops) = each_then (disjuncts (step_moves live step)) (written (dims_after_step step live) ops)

-- no more of them are written out for one source and one goal
abbrev pub greatest_paths : ℕ
greatest_paths = 1024

-- the operations of an iteration whose values are lists of paths: an action is done at the end of each path, and a join
-- has the paths of the one and then those of the other; there are no heads of loops
abbrev pub on_paths : Operations (List (List Action)) (Unit {0})
on_paths = record {
  dims = λ paths. 0;
  top = λ n cap paths. paths ≡ [] ∷ [];
  bottom = λ n cap paths. paths ≡ [];
  changed = λ step paths e more. (e ≡ Exact) × (more ≡ map (λ path. path ++ step ∷ []) paths);
  joined = λ one other e both. (e ≡ Exact) × (both ≡ one ++ other);
  started = λ paths rows h. ⊥;
  stays = λ h paths mode. ⊥;
  grown = λ h paths mode e next. ⊥;
  valued = λ h e paths. ⊥;
}

-- what an iteration makes of a list of paths by these moves: the disjuncts, each after each of the paths
abbrev pub DisjunctsAreMade : Type 0
DisjunctsAreMade = (p : Moves) (paths : List (List Action)) (e : Exactness) (more : List (List Action)) →
    AreMade on_paths p paths e more ↔ ((more ≡ each_then paths (disjuncts p)) × (e ≡ Exact))

-- the disjuncts are the cases of the moves, in another order: there those of the earlier are the outer ones
abbrev pub DisjunctsAreCases : Type 0
DisjunctsAreCases = (p : Moves) → IsPermutation (cases p) (disjuncts p)

-- moves may lead where one of their disjuncts leads
abbrev pub DisjunctsLead : Type 0
DisjunctsLead = (p : Moves) (s t : List ℤ) → MayLead p s t ↔ SomeLeads (disjuncts p) s t

-- operations lead a state to another one only if one of their lists of actions may lead the one's store to the
-- other's
abbrev pub WrittenLead : Type 0
WrittenLead = (ops : List SegmentStep) (s t : State) → RunsOps ops s t →
    SomeLeads (written (length s.store) ops) s.store t.store
