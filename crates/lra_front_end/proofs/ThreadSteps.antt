-- What the stages after the reading answer, as answers of the tree of a source of several threads.
use Rattle.std.proofs.Common.{◌≡◌, ℕ, zero, suc, ◌+◌, ◌<◌, List, [], ◌∷◌, ◌++◌, length, map, drop, take, get_or, Some, None, Result, sym, ap, ◌∙◌, subst, arith, length-append, add-one}
use Rattle.std.proofs.{Math.Seq.take-suc, lemmas.List.at_drop_more}
use Rattle.std.specs.{List.AllByRecursion, List.AllZip, Prelude.flat_map, Prelude.slice_get, Result.IsErrAnd}
use Rattle.lra_base.specs.{Refused.IfRefusal, Refused.IfRefused, declared.error.SourceError.SourceError, declared.error.SourceError.TheVariants.Refused, declared.error.SourceError.TheVariants.Memory}
use Rattle.lra_base.specs.{declared.refusals.Cause.Cause, declared.refusals.Place.Place, declared.refusals.Refusal.Refusal}
use Rattle.lra_base.proofs.Refusing.{exit_refused, refusal_by}
use Rattle.lra_front_end.specs.Crates.lra_program.Sites.{Event, events_of, sites_of}
use Rattle.lra_front_end.specs.Crates.lra_resolution_spec.Refuse.{RefusesTree, past_limit}
use Rattle.lra_front_end.specs.Crates.lra_resolution_spec.EntryPoint.{at_threads, points_of}
use Rattle.lra_front_end.specs.Crates.lra_resolution_spec.Threads.{thread_faults, thread_program}
use Rattle.lra_front_end.specs.Crates.{lra_program.ProgramViews.function_or, lra_program.ProgramViews.program_view, lra_program.WellFormed.IsWellFormed, lra_program.declared.program.Program.Program}
use Rattle.lra_front_end.specs.Crates.{lra_resolution_spec.Refuse.limit_fault, lra_scopes.Outcome.first_fault, lra_scopes.Outcome.IsFirstFault, lra_syntax.Grammar.Spells, lra_syntax.Labels.Labelled}
use Rattle.lra_front_end.specs.Crates.{lra_syntax.Labels.labels_of, lra_syntax.Reach.NotRecursive, lra_syntax.Trees.FileTree}
use Rattle.lra_front_end.specs.Crates.lra_program.Program as resolved
use Rattle.lra_front_end.proofs.{Limits.fault_behind, Limits.fault_stays}

-- threads ------------------------------------------------------------------------------------------------------------

-- the source's program with another function in the place of `main`
pub placed : (t : FileTree) (p : Program) (place : ℕ) → program_view p ≡ thread_program t p.main
    → program_view (record p { main = place }) ≡ thread_program t place
placed t p place e = ap (λ (P : resolved.Program). record P { main = function_or (slice_get P.functions place) }) e

-- the points of the threads at these places
abbrev pub events_at : FileTree → List ℕ → List Event
events_at t places = flat_map events_of (map (thread_program t) places)

module _ (t : FileTree) (n m place : ℕ) (places : List ℕ) where
  -- those after a thread that passes no limit
  pub events_behind : limit_fault (labels_of t) n (events_of (thread_program t place)) ≡ None → m ≡ n + length (sites_of (thread_program t place))
      → limit_fault (labels_of t) n (events_at t (place ∷ places)) ≡ limit_fault (labels_of t) m (events_at t places)
  events_behind passed same =
      fault_behind (labels_of t) n (events_of (thread_program t place)) (events_at t places) passed
      ∙ ap (λ k. limit_fault (labels_of t) k (events_at t places)) (sym same)

  -- a limit that a thread passes refuses the source
  pub limit_refused : (r : Refusal) → thread_faults t ≡ [] → NotRecursive t
      → limit_fault (labels_of t) 0 (points_of at_threads t) ≡ limit_fault (labels_of t) n (events_at t (place ∷ places))
      → limit_fault (labels_of t) n (events_of (thread_program t place)) ≡ Some r → RefusesTree at_threads t r.cause r.place
  limit_refused r names straight whole e =
      past_limit r names straight (whole ∙ fault_stays (labels_of t) n (events_of (thread_program t place)) (events_at t places) r e)

  -- and so with an error that reports it
  pub exit_limit : {X : Type 0} (labels : List Labelled) (P : resolved.Program) (x : Result X SourceError) (e : SourceError) → thread_faults t ≡ []
      → NotRecursive t
      → limit_fault (labels_of t) 0 (points_of at_threads t) ≡ limit_fault (labels_of t) n (events_at t (place ∷ places)) → labels ≡ labels_of t
      → P ≡ thread_program t place
      → IsErrAnd x (λ y. y ≡ e) → IfRefusal (λ r. limit_fault labels n (events_of P) ≡ Some r) e → IfRefused x (λ r. RefusesTree at_threads t r.cause r.place)
  exit_limit labels P x e names straight whole table is stops fault =
      exit_refused (λ r. RefusesTree at_threads t r.cause r.place) x e stops
      (refusal_by (λ r. limit_fault labels n (events_of P) ≡ Some r) _
      (λ r h. limit_refused r names straight whole
      (subst (λ (ls : List Labelled). limit_fault ls n (events_of (thread_program t place)) ≡ Some r) table
      (subst (λ (Q : resolved.Program). limit_fault labels n (events_of Q) ≡ Some r) is h))) e fault)

-- what holds of each holds of one
pub each_at : {A : Type 0} (P : A → Type 0) (xs : List A) (i : ℕ) (x : A) → AllByRecursion P xs → i < length xs → x ≡ get_or xs i x → P x
each_at P [] i x h l is = absurd (omega (arith, l))
each_at P (y ∷ xs) zero x h l is = subst P (sym is) h.0
each_at P (y ∷ xs) (suc i) x h l is = each_at P xs i x h.1 (omega (arith, l)) is

-- of a list without its first elements, one more
pub next_at : {A B : Type 0} (f : List A → B) (xs : List A) (i : ℕ) (x : A) → i < length xs → x ≡ get_or xs i x → f (drop i xs) ≡ f (x ∷ drop (i + 1) xs)
next_at f xs i x l is = at_drop_more f xs i x l ∙ ap (λ y. f (y ∷ drop (i + 1) xs)) (sym is)

-- the program as it stands then
pub stays_placed : (t : FileTree) (old new : Program) (place : ℕ) → new ≡ record old { main = place }
    → program_view (record old { main = place }) ≡ thread_program t place
    → program_view new ≡ thread_program t new.main
stays_placed t old new place e h = subst (λ (p : Program). program_view p ≡ thread_program t p.main) (sym e) h

-- more points
pub more_points : {A B : Type 0} (view : A → B) (old : List A) (sites new : List B) → new ≡ map view old ++ sites
    → length new ≡ length (map view old) + length sites
more_points view old sites new e = ap length e ∙ length-append (map view old) sites

-- one thing more for each
pub zip_push : {A B : Type 0} (R : A → B → Type 0) (xs : List A) (ys : List B) (x : A) (y : B) → AllZip R xs ys → R x y → AllZip R (xs ++ x ∷ []) (ys ++ y ∷ [])
zip_push R [] [] x y h r = (r, tt)
zip_push R [] (b ∷ ys) x y h r = absurd h
zip_push R (a ∷ xs) [] x y h r = absurd h
zip_push R (a ∷ xs) (b ∷ ys) x y h r = (h.0, zip_push R xs ys x y h.1 r)

pub zip_more : {A B : Type 0} (R : A → B → Type 0) (xs : List A) (ys zs : List B) (i : ℕ) (x : A) (y : B) → AllZip R (take i xs) ys → i < length xs
    → x ≡ get_or xs i x
    → zs ≡ ys ++ y ∷ [] → R x y → AllZip R (take (i + 1) xs) zs
zip_more {A} {B} R xs ys zs i x y h l is same r =
    let taken : take (i + 1) xs ≡ take i xs ++ x ∷ [] =
    ap (λ k. take k xs) (add-one i) ∙ take-suc xs i x l ∙ ap (λ z. take i xs ++ z ∷ []) (sym is) in
    subst (λ (lefts : List A). AllZip R lefts zs) (sym taken) (subst (λ (rights : List B). AllZip R (take i xs ++ x ∷ []) rights) (sym same)
    (zip_push R (take i xs) ys x y h r))
