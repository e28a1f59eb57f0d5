-- Settled points: a turn keeps what the marks say.
use Rattle.std.proofs.Common.{◌≡◌, ◌≢◌, ◌+◌, ℕ, zero, suc, List, [], ◌∷◌, Option, None, Some, Bool, true, false, inl, inr, refl, sym, ap, subst, ◌∙◌, arith, slice_get, slice_set}
use Rattle.std.proofs.{lemmas.List.set-get_or, lemmas.Option.get_or_from_slice_get}
use Rattle.lra_domain.specs.declared.Exactness.TheVariants.{Exact, Flagged}
use Rattle.lra_domain.specs.{Actions.Action, declared.Exactness.Exactness, declared.Mode.Mode, declared.Mode.TheVariants.Widen}
use Rattle.lra_back.specs.Crates.lra_analysis_spec.Pass.{noted}
use Rattle.lra_back.proofs.Crates.lra_analysis_spec.FlagLaws.{noted_exact}
use Rattle.lra_back.specs.Preconditions.{PreOfPaths, PreOfAllPoints, IsNext}
use Rattle.lra_back.specs.{Operations.BackwardOperations, Rounds.IsUpdated, Rounds.Task, Rounds.seed_at, Settled.AreSettled, Settled.IsSettled, Settled.Settles}
use Rattle.lra_back.proofs.HeadSteps.{get_set_other}

-- flags ----------------------------------------------------------------------------------------------------------------

-- what adds no flag adds none after another
still_noted : (q p : ℕ) (d e : Exactness) (f : Option ℕ) → noted q d f ≡ f → noted q d (noted p e f) ≡ noted p e f
still_noted q p Exact e f is = noted_exact q (noted p e f)
still_noted q p Flagged e (Some r) is = refl
still_noted q p Flagged e None is = cc

noted_twice : (p : ℕ) (d : Exactness) (f : Option ℕ) → noted p d (noted p d f) ≡ noted p d f
noted_twice p Exact f = noted_exact p (noted p Exact f)
noted_twice p Flagged None = refl
noted_twice p Flagged (Some r) = refl

-- the same list --------------------------------------------------------------------------------------------------------

pub set_same : {A : Type 0} (xs : List A) (p : ℕ) (x : A) → slice_get xs p ≡ Some x → slice_set xs p x ≡ xs
set_same xs p x at = ap (slice_set xs p) (sym (get_or_from_slice_get xs p x x at)) ∙ set-get_or xs p x

-- a head to which no paths lead ----------------------------------------------------------------------------------------

module _ {V H : Type 0} (ops : BackwardOperations V H) (forward : V) (paths : ℕ → List (List Action)) where
  from_set : (heads : List H) (q p : ℕ) (k : H) (r : ℕ) → r ≡ q + p → paths r ≡ [] → (so : Option V) (e : Exactness) (all : Option V)
      → PreOfAllPoints ops paths forward q heads so e all → PreOfAllPoints ops paths forward q (slice_set heads p k) so e all
  from_set [] q p k r at none so e all come = come
  from_set (target ∷ heads) q zero k r at none so e all (some, c, d, back, come, is) =
      let here : r ≡ q = omega arith in
      let nothing : paths q ≡ [] = ap paths (sym here) ∙ none in (
        some,
        c,
        d,
        subst (λ (xs : List (List Action)). PreOfPaths ops forward k xs so c some) (sym nothing)
            (subst (λ (xs : List (List Action)). PreOfPaths ops forward target xs so c some) nothing back),
        come,
        is,
      )
  from_set (target ∷ heads) q (suc p) k r at none so e all (some, c, d, back, come, is) =
      let next : r ≡ suc q + p = omega arith in
      (some, c, d, back, from_set heads (suc q) p k r next none some d all come, is)

  next_set : (seed : Option V) (heads : List H) (p : ℕ) (k : H) → paths p ≡ [] → (e : Exactness) (w : V)
      → IsNext ops paths forward seed heads e w → IsNext ops paths forward seed (slice_set heads p k) e w
  next_set seed heads p k none e w (so, all, c, d, come, joins, runs, is) =
      let here : p ≡ 0 + p = omega arith in
      (so, all, c, d, from_set heads 0 p k p here none None c so come, joins, runs, is)

-- settled points -------------------------------------------------------------------------------------------------------

module _ {V H : Type 0} (ops : BackwardOperations V H) (task : Task V) where
  -- a settled point needs no turn
  pub skipped : (mode : Mode) (p : ℕ) (f : Option ℕ) (heads : List H) → mode ≡ Widen → IsSettled ops task heads f p
      → (k : H) × IsUpdated ops task mode p f heads f true k × (heads ≡ slice_set heads p k)
  skipped mode p f heads widens is =
      let next = is.is_next in (
        is.head,
        (
          next.0,
          is.next,
          is.head,
          is.exactness,
          Exact,
          next.1,
          is.is_there,
          next.2,
          (subst (λ (z : Mode). ops.forward.stays is.head is.next z) (sym widens) is.stays, refl, refl),
          sym (noted_exact p (noted p is.exactness f) ∙ is.noted_before),
        ),
        sym (set_same heads p is.head is.is_there),
      )

  -- another point stays settled after a turn, if the head is the same, or no paths lead to it
  other_same : (q p : ℕ) (e : Exactness) (heads : List H) (f : Option ℕ) → IsSettled ops task heads f q → IsSettled ops task heads (noted p e f) q
  other_same q p e heads f is = record {
    head = is.head;
    is_there = is.is_there;
    exactness = is.exactness;
    next = is.next;
    is_next = is.is_next;
    stays = is.stays;
    noted_before = still_noted q p is.exactness e f is.noted_before;
  }

  other_set : (q p : ℕ) (heads : List H) (k : H) (f : Option ℕ) → q ≢ p → task.paths q p ≡ [] → IsSettled ops task heads f q
      → IsSettled ops task (slice_set heads p k) f q
  other_set q p heads k f apart none is =
      let next = is.is_next in record {
        head = is.head;
        is_there = get_set_other heads p q k apart ∙ is.is_there;
        exactness = is.exactness;
        next = is.next;
        is_next = (next.0, next.1, next_set ops next.0 (task.paths q) (seed_at task q) heads p k none is.exactness is.next next.2);
        stays = is.stays;
        noted_before = is.noted_before;
      }

  -- what a turn that left the head stable says of its point
  own_settled : (p : ℕ) (f : Option ℕ) (heads : List H) (x next : V) (h : H) (d e : Exactness) → slice_get task.forward p ≡ Some x → slice_get heads p ≡ Some h
      → IsNext ops (task.paths p) x (seed_at task p) heads d next → ops.forward.stays h next Widen → e ≡ Exact
      → IsSettled ops task heads (noted p e (noted p d f)) p
  own_settled p f heads x next h d e at there is stays exact = record {
    head = h;
    is_there = there;
    exactness = d;
    next = next;
    is_next = (x, at, is);
    stays = stays;
    noted_before =
        let same : noted p e (noted p d f) ≡ noted p d f = ap (λ (z : Exactness). noted p z (noted p d f)) exact ∙ noted_exact p (noted p d f) in
        subst (λ (g : Option ℕ). noted p d g ≡ g) (sym same) (noted_twice p d f);
  }

  same_settled : (heads others : List H) (f g : Option ℕ) (q : ℕ) → heads ≡ others → f ≡ g → IsSettled ops task heads f q → IsSettled ops task others g q
  same_settled heads others f g q one two is =
      subst (λ (hs : List H). IsSettled ops task hs g q) one (subst (λ (z : Option ℕ). IsSettled ops task heads z q) two is)

  pub turned_settled : (mode : Mode) (p : ℕ) (f : Option ℕ) (heads : List H) (g : Option ℕ) (stable : Bool) (k : H) (later : List H) (old new : List Bool)
      → AreSettled ops task heads f old → IsUpdated ops task mode p f heads g stable k → later ≡ slice_set heads p k → Settles task mode p stable old new
      → AreSettled ops task later g new
  turned_settled mode p f heads g true k later old new so (x, next, h, d, e, at, there, is, (stays, stood, exact), flags) set settles =
      let same : heads ≡ later = sym (set ∙ ap (slice_set heads p) stood ∙ set_same heads p h there) in
      record {
        count = settles.0 ∙ so.count;
        each = λ q marked. elim (settles.1 q marked) [
          | inl before ↦ same_settled heads later (noted p e (noted p d f)) g q same (sym flags)
              (other_same q p e heads (noted p d f) (other_same q p d heads f (so.each q before)))
          | inr now ↦ same_settled heads later (noted p e (noted p d f)) g q same (sym flags)
              (subst (λ r. IsSettled ops task heads (noted p e (noted p d f)) r) (sym now.0)
              (own_settled p f heads x next h d e at there is (subst (λ (z : Mode). ops.forward.stays h next z) now.1 stays) exact))
        ];
      }
  turned_settled mode p f heads g false k later old new so (x, next, h, d, e, at, there, is, grown, flags) set settles = record {
    count = settles.0 ∙ so.count;
    each = λ q marked.
        let was = settles.1 q marked in
        same_settled (slice_set heads p k) later (noted p e (noted p d f)) g q (sym set) (sym flags)
        (other_set q p heads k (noted p e (noted p d f)) was.1 was.2 (other_same q p e heads (noted p d f) (other_same q p d heads f (so.each q was.0))));
  }
