-- What paths bring back, joined one by one: what is still to come comes to what is joined so far.
use Rattle.std.proofs.Common.{◌≡◌, ◌≤◌, ℕ, suc, List, [], ◌∷◌, length, drop, Option, None, Some, refl, sym, ap, subst, ◌∙◌, slice_get}
use Rattle.std.proofs.lemmas.List.{drop_all}
use Rattle.lra_domain.specs.{Abstraction.worse, Actions.Action, declared.Exactness.Exactness, declared.Exactness.TheVariants.Exact}
use Rattle.lra_back.specs.Crates.lra_analysis_spec.Pass.{JoinsRunning, RunsFrom}
use Rattle.lra_back.proofs.Crates.lra_analysis_spec.Takes.{worse_exact, worse_worse}
use Rattle.lra_back.specs.{Operations.BackwardOperations, Preconditions.PreOfPaths, Preconditions.PreOfPath, Preconditions.PreOfAllPoints, Preconditions.IsNext, Preconditions.JoinsSeed}
use Rattle.lra_back.proofs.PathSteps.{drop_at}

module _ {V H : Type 0} (ops : BackwardOperations V H) (forward : V) where
  -- of one target ----------------------------------------------------------------------------------------------------

  -- whatever comes of the paths from this number on, comes of all
  abbrev pub StillComes : H → List (List Action) → Option V → Exactness → ℕ → Option V → Exactness → Type 0
  StillComes target paths so before i running after =
      (e : Exactness) (all : Option V) → PreOfPaths ops forward target (drop i paths) running e all
      → (f : Exactness) × PreOfPaths ops forward target paths so f all × (worse after e ≡ worse before f)

  pub first_comes : (target : H) (paths : List (List Action)) (so : Option V) (before : Exactness) → StillComes target paths so before 0 so before
  first_comes target paths so before e all come = (e, come, refl)

  pub next_comes : (target : H) (paths : List (List Action)) (so : Option V) (before : Exactness) (i j : ℕ) (path : List Action) (running : Option V)
      (a after : Exactness) (some : Option V) → j ≡ suc i → slice_get paths i ≡ Some path → StillComes target paths so before i running a
      → ((u w : V) × (c d : Exactness) × PreOfPath ops forward target path c u × JoinsRunning ops.forward running u d w × (some ≡ Some w)
      × (after ≡ worse a (worse c d))) → StillComes target paths so before j some after
  next_comes target paths so before i j path running a after some next at still (u, w, c, d, back, joins, made, is) =
      subst (λ k. StillComes target paths so before k some after) (sym next) (λ e all come.
      let later = subst (λ (o : Option V). PreOfPaths ops forward target (drop (suc i) paths) o e all) made come in
      let rest : PreOfPaths ops forward target (path ∷ drop (suc i) paths) running (worse (worse c d) e) all = (u, w, c, d, e, back, joins, later, refl) in
      let r = still (worse (worse c d) e) all (subst (λ (xs : List (List Action)). PreOfPaths ops forward target xs running (worse (worse c d) e) all)
      (sym (drop_at paths i path at)) rest) in
      (r.0, r.1, ap (λ (z : Exactness). worse z e) is ∙ worse_worse a (worse c d) e ∙ r.2))

  pub last_comes : (target : H) (paths : List (List Action)) (so : Option V) (before : Exactness) (i : ℕ) (all : Option V) (after : Exactness)
      → length paths ≤ i → StillComes target paths so before i all after
      → (f : Exactness) × PreOfPaths ops forward target paths so f all × (after ≡ worse before f)
  last_comes target paths so before i all after end still =
      let none : drop i paths ≡ [] = drop_all i paths end in
      let r = still Exact all (subst (λ (xs : List (List Action)). PreOfPaths ops forward target xs all Exact all) (sym none) (refl, refl)) in
      (r.0, r.1, sym (worse_exact after) ∙ r.2)

  -- of all targets -----------------------------------------------------------------------------------------------------

  abbrev pub StillFrom : (ℕ → List (List Action)) → List H → ℕ → Option V → Exactness → Type 0
  StillFrom paths heads i running after =
      (e : Exactness) (all : Option V) → PreOfAllPoints ops paths forward i (drop i heads) running e all
      → (f : Exactness) × PreOfAllPoints ops paths forward 0 heads None f all × (worse after e ≡ f)

  pub first_from : (paths : ℕ → List (List Action)) (heads : List H) → StillFrom paths heads 0 None Exact
  first_from paths heads e all come = (e, come, refl)

  pub next_from : (paths : ℕ → List (List Action)) (heads : List H) (i j : ℕ) (target : H) (running : Option V) (a after : Exactness) (some : Option V)
      → j ≡ suc i → slice_get heads i ≡ Some target → StillFrom paths heads i running a
      → ((c : Exactness) × PreOfPaths ops forward target (paths i) running c some × (after ≡ worse a c)) → StillFrom paths heads j some after
  next_from paths heads i j target running a after some next at still (c, back, is) =
      subst (λ k. StillFrom paths heads k some after) (sym next) (λ e all come.
      let rest : PreOfAllPoints ops paths forward i (target ∷ drop (suc i) heads) running (worse c e) all = (some, c, e, back, come, refl) in
      let r = still (worse c e) all (subst (λ (xs : List H). PreOfAllPoints ops paths forward i xs running (worse c e) all)
      (sym (drop_at heads i target at)) rest) in
      (r.0, r.1, ap (λ (z : Exactness). worse z e) is ∙ worse_worse a c e ∙ r.2))

  pub last_from : (paths : ℕ → List (List Action)) (heads : List H) (i : ℕ) (all : Option V) (after : Exactness) → length heads ≤ i
      → StillFrom paths heads i all after → PreOfAllPoints ops paths forward 0 heads None after all
  last_from paths heads i all after end still =
      let none : drop i heads ≡ [] = drop_all i heads end in
      let r = still Exact all (subst (λ (xs : List H). PreOfAllPoints ops paths forward i xs all Exact all) (sym none) (refl, refl)) in
      subst (λ (z : Exactness). PreOfAllPoints ops paths forward 0 heads None z all) (sym r.2 ∙ worse_exact after) r.1

  -- the next value -----------------------------------------------------------------------------------------------------

  pub next_value : (paths : ℕ → List (List Action)) (seed : Option V) (heads : List H) (so all : Option V) (c e : Exactness) (w : V)
      → PreOfAllPoints ops paths forward 0 heads None c so → ((d : Exactness) × JoinsSeed ops seed so d all × (e ≡ worse c d))
      → RunsFrom ops.forward (ops.forward.dims forward) 1 all w → IsNext ops paths forward seed heads e w
  next_value paths seed heads so all c e w come (d, joins, is) runs = (so, all, c, d, come, joins, runs, is)

  -- the same paths bring back the same
  pub same_from : (paths others : ℕ → List (List Action)) → ((q : ℕ) → paths q ≡ others q) → (q : ℕ) (heads : List H) (so : Option V) (e : Exactness)
      (all : Option V) → PreOfAllPoints ops paths forward q heads so e all → PreOfAllPoints ops others forward q heads so e all
  same_from paths others same q [] so e all come = come
  same_from paths others same q (target ∷ heads) so e all (some, c, d, back, come, is) = (
    some,
    c,
    d,
    subst (λ (xs : List (List Action)). PreOfPaths ops forward target xs so c some) (same q) back,
    same_from paths others same (suc q) heads some d all come,
    is,
  )

  pub same_next : (paths others : ℕ → List (List Action)) → ((q : ℕ) → paths q ≡ others q) → (seed : Option V) (heads : List H) (e : Exactness) (w : V)
      → IsNext ops paths forward seed heads e w → IsNext ops others forward seed heads e w
  same_next paths others same seed heads e w (so, all, c, d, come, joins, runs, is) =
      (so, all, c, d, same_from paths others same 0 heads None c so come, joins, runs, is)
