-- What the stages after the reading answer, as answers of the tree.
use Rattle.std.proofs.Common.{◌≡◌, ℕ, List, [], ◌∷◌, map, Some, None, refl, sym, ap, ◌∙◌, subst, append-nil}
use Rattle.std.specs.{List.AllByRecursion, Prelude.Option, Prelude.Result, Prelude.MatchOption, Result.IsErrAnd}
use Rattle.lra_base.specs.{Refused.IfRefusal, Refused.IfRefused, declared.error.SourceError.SourceError, declared.error.SourceError.TheVariants.Refused, declared.error.SourceError.TheVariants.Memory}
use Rattle.lra_base.specs.{declared.refusals.Cause.Cause, declared.refusals.Cause.TheVariants.Recursive, declared.refusals.Place.Place, declared.refusals.Refusal.Refusal}
use Rattle.lra_base.proofs.Refusing.{exit_refused, refusal_by}
use Rattle.lra_front_end.specs.Crates.lra_program.Sites.{Site, events_of, sites_of}
use Rattle.lra_front_end.specs.Crates.lra_resolution_spec.Refuse.{limit_fault, RefusesTree, bad_name, recursive, past_limit, Accepts}
use Rattle.lra_front_end.specs.Crates.lra_resolution_spec.EntryPoint.{EntryPoint, at_main, at_threads, faults_of, programs_of, points_of}
use Rattle.lra_front_end.specs.Crates.lra_resolution_spec.Threads.{thread_faults, thread_places, thread_program}
use Rattle.lra_front_end.specs.Crates.lra_syntax.Reach.{IsFirstRecursive, NotRecursive}
use Rattle.lra_front_end.specs.Crates.{lra_inline_steps.Limits.refusal_of, lra_inline_steps.Limits.OnError, lra_inline_steps.declared.points.InlineError.InlineError}
use Rattle.lra_front_end.specs.Crates.{lra_inline_steps.declared.points.InlineError.TheVariants.Passed, lra_inline_steps.declared.points.Limit.Limit, lra_operations.Agree.IsInlinedTree}
use Rattle.lra_front_end.specs.Crates.{lra_operations.Agree.Agrees, lra_operations.Tree.Node, lra_program.Program.Function, lra_program.Program.Program, lra_program.WellFormed.IsWellFormed}
use Rattle.lra_front_end.specs.Crates.{lra_resolution_spec.NameFaults.name_faults, lra_resolution_spec.Resolve.resolve, lra_resolution_spec.Resolve.resolved_functions, lra_scopes.Outcome.first_fault}
use Rattle.lra_front_end.specs.Crates.{lra_scopes.Outcome.IsFirstFault, lra_syntax.Grammar.Spells, lra_syntax.Labels.Labelled, lra_syntax.Labels.labels_of, lra_syntax.Trees.FileTree}
use Rattle.lra_front_end.proofs.{Spelled.spelled_are_small, Whole.threads_formed, Whole.well_formed}
use Rattle.lra_front_end.specs.{Claims.AreFew, Stages.HasTree, Stages.IsFaultless, Stages.HasInlinedTree, Stages.IsRecursionRefusal}

-- names --------------------------------------------------------------------------------------------------------------

pub first_is : (fs : List Refusal) (r : Refusal) → first_fault fs ≡ Some r → (further : List Refusal) × (fs ≡ r ∷ further)
first_is [] r e = let wrong : ⊥ = cc in absurd wrong
first_is (f ∷ fs) r e = (fs, cc)

-- a tree whose names have a fault, by an error that reports the first of them
first_refused_names : (entry : EntryPoint) (t : FileTree) (e : SourceError) → IsFirstFault (faults_of entry t) e
    → IfRefusal (λ r. RefusesTree entry t r.cause r.place) e
first_refused_names entry t (Refused r) told = let (further, is) = first_is (faults_of entry t) r told in bad_name r further is
first_refused_names entry t Memory told = tt

pub exit_named : (entry : EntryPoint) {X : Type 0} (t : FileTree) (x : Result X SourceError) (e : SourceError) → IsErrAnd x (λ y. y ≡ e)
    → IsFirstFault (faults_of entry t) e
    → IfRefused x (λ r. RefusesTree entry t r.cause r.place)
exit_named entry t x e is told = exit_refused (λ r. RefusesTree entry t r.cause r.place) x e is (first_refused_names entry t e told)

-- recursion ----------------------------------------------------------------------------------------------------------

-- what a search for the first recursive call answers, of the functions of a source and the table of its labels
module _ (t : FileTree) (functions : List Function) (labels : List Labelled) (x : Option Place) (resolved : functions ≡ resolved_functions t)
    (labelled : labels ≡ labels_of t)
    (h : functions ≡ resolved_functions t → labels ≡ labels_of t → MatchOption x (NotRecursive t) (IsFirstRecursive t)) where
  pub none_recursive : x ≡ None → NotRecursive t
  none_recursive is = subst (λ (y : Option Place). MatchOption y (NotRecursive t) (IsFirstRecursive t)) is (h resolved labelled)

  pub first_refused : (at : Place) → x ≡ Some at → IsRecursionRefusal t (record { cause = Recursive; place = at })
  first_refused at is = (refl, subst (λ (y : Option Place). MatchOption y (NotRecursive t) (IsFirstRecursive t)) is (h resolved labelled))

-- it refuses the tree
pub exit_recursive : (entry : EntryPoint) {X : Type 0} (t : FileTree) (x : Result X SourceError) (e : SourceError) → faults_of entry t ≡ []
    → IsErrAnd x (λ y. y ≡ e) → IfRefusal (IsRecursionRefusal t) e → IfRefused x (λ r. RefusesTree entry t r.cause r.place)
exit_recursive entry t x e names is fault =
    exit_refused (λ r. RefusesTree entry t r.cause r.place) x e is
    (refusal_by (IsRecursionRefusal t) _ (λ r h. subst (λ (c : Cause). RefusesTree entry t c r.place) (sym h.0) (recursive r.place names h.1)) e fault)

-- trees of operations ------------------------------------------------------------------------------------------------

pub has_graph : (t : FileTree) (P : Program) (g : Node) (sites : List Site) → P ≡ resolve t → name_faults t ≡ [] → NotRecursive t → IsWellFormed (resolve t) → IsInlinedTree P g → Agrees P g →
    sites ≡ sites_of P
    → AreFew (sites_of P) → ((ls : List Labelled) → limit_fault ls 0 (events_of P) ≡ None) → HasInlinedTree t g sites
has_graph t P g sites is names straight well graph agrees points few within = record {
  names = names;
  straight = straight;
  well = well;
  within = subst (λ (Q : Program). limit_fault (labels_of t) 0 (events_of Q) ≡ None) is (within (labels_of t));
  few = subst (λ (Q : Program). AreFew (sites_of Q)) is few;
  is_graph = subst (λ (Q : Program). IsInlinedTree Q g) is graph;
  agrees = subst (λ (Q : Program). Agrees Q g) is agrees;
  points = subst (λ (Q : Program). sites ≡ sites_of Q) is points;
}

-- the limit that is passed, if that is the answer
pub limit_passed : (P : Limit → Type 0) (e : InlineError) (x : Limit) → e ≡ Passed x → OnError e P → P x
limit_passed P e x is h = subst (λ (y : InlineError). OnError y P) is h

-- the points of a source's one program
pub points_at_main : (t : FileTree) → points_of at_main t ≡ events_of (resolve t)
points_at_main t = append-nil (events_of (resolve t))

-- a tree whose program passes a limit
pub limit_refused : (t : FileTree) (P : Program) (x : Limit) (r : Refusal) (labels : List Labelled) → P ≡ resolve t → name_faults t ≡ [] → NotRecursive t
    → ((ls : List Labelled) → limit_fault ls 0 (events_of P) ≡ Some (refusal_of ls x)) → labels ≡ labels_of t → r ≡ refusal_of labels x → RefusesTree at_main t r.cause r.place
limit_refused t P x r labels is names straight passed table told_by =
    let same : r ≡ refusal_of (labels_of t) x = told_by ∙ ap (λ (ls : List Labelled). refusal_of ls x) table in
    let there : limit_fault (labels_of t) 0 (events_of (resolve t)) ≡ Some (refusal_of (labels_of t) x) =
    subst (λ (Q : Program). limit_fault (labels_of t) 0 (events_of Q) ≡ Some (refusal_of (labels_of t) x)) is (passed (labels_of t)) in
    past_limit r names straight (ap (limit_fault (labels_of t) 0) (points_at_main t) ∙ there ∙ ap Some (sym same))

-- sources ------------------------------------------------------------------------------------------------------------

-- without faults of names the program of a source's tree is well-formed
pub well : (source : List ℕ) (t : FileTree) → HasTree source t → name_faults t ≡ [] → IsWellFormed (resolve t)
well source t has names = well_formed t (spelled_are_small source has.tokens t has.parsed.0 has.lexed has.parsed.1 has.parsed.2) names

-- and each program that an entry point makes of it
all_mapped : {A B : Type 0} (P : B → Type 0) (f : A → B) (xs : List A) → AllByRecursion (λ x. P (f x)) xs → AllByRecursion P (map f xs)
all_mapped P f [] h = tt
all_mapped P f (x ∷ xs) h = (h.0, all_mapped P f xs h.1)

pub threads_well : (source : List ℕ) (t : FileTree) → HasTree source t → thread_faults t ≡ []
    → AllByRecursion (λ place. IsWellFormed (thread_program t place)) (thread_places t)
threads_well source t has names = threads_formed t (spelled_are_small source has.tokens t has.parsed.0 has.lexed has.parsed.1 has.parsed.2) names

pub all_well : (entry : EntryPoint) (source : List ℕ) (t : FileTree) → HasTree source t → faults_of entry t ≡ []
    → AllByRecursion IsWellFormed (programs_of entry t)
all_well at_main source t has names = (well source t has names, tt)
all_well at_threads source t has names = all_mapped IsWellFormed (thread_program t) (thread_places t) (threads_well source t has names)

-- without a further fault it is accepted with its tree
pub accepted : (entry : EntryPoint) (source : List ℕ) (t : FileTree) → HasTree source t → IsFaultless entry t → Accepts entry Spells source t
accepted entry source t has none = record {
  tokens = has.tokens;
  not_long = has.not_long;
  lexed = has.lexed;
  parsed = has.parsed;
  names = none.names;
  not_recursive = none.straight;
  within = none.within;
}

pub faultless_main : (t : FileTree) → name_faults t ≡ [] → NotRecursive t → limit_fault (labels_of t) 0 (events_of (resolve t)) ≡ None → IsFaultless at_main t
faultless_main t names straight within =
    record { names = names; straight = straight; within = ap (limit_fault (labels_of t) 0) (points_at_main t) ∙ within }
