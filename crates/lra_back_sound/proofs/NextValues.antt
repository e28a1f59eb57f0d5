-- The next value of a point has each store of its forward value from which a path leads to a store of a head, and each
-- store of the seed.
use Rattle.std.proofs.Common.{◌≡◌, ℕ, zero, suc, ◌+◌, ℤ, List, [], ◌∷◌, Option, None, Some, length, inl, inr, sym, subst, arith}
use Rattle.std.proofs.lemmas.Option.{same_Some, none-some}
use Rattle.std.specs.Prelude.{slice_get, Contains}
use Rattle.lra_back_sound.proofs.Crates.{lra_analysis_spec.Covers.covered_has, lra_linear_spec.Membership.contains_none, lra_linear_spec.Membership.contains_cases}
use Rattle.lra_back_sound.specs.Crates.lra_analysis_spec.Pass.{JoinsRunning, RunsFrom}
use Rattle.lra_back_sound.specs.Crates.{lra_domain.Abstraction.Abstraction, lra_domain.Actions.Action, lra_domain.Backward.BackwardAbstraction, lra_domain.Changes.AllCanBeMade}
use Rattle.lra_back_sound.specs.Crates.{lra_domain.Gammas.InGamma, lra_domain.Gammas.InHeadGamma, lra_domain.Laws.Laws, lra_domain.Moves.LeadsAll, lra_domain.declared.Exactness.Exactness}
use Rattle.lra_back_sound.specs.Crates.lra_analysis_spec.Operations as forward
use Rattle.lra_back.specs.{Operations.lossy_back_operations, Preconditions.PreOfPaths, Preconditions.PreOfPath, Preconditions.PreOfAllPoints, Preconditions.IsNext, Preconditions.JoinsSeed}
use Rattle.lra_back_sound.proofs.Retraced.{gone_over}

-- the list is a store of the value that is there
abbrev pub SomeHas : {V H : Type 0} → Abstraction V H → Option V → List ℤ → Type 0
SomeHas m None s = ⊥
SomeHas m (Some v) s = InGamma m v s

module _ {V H : Type 0} (m : Abstraction V H) (b : BackwardAbstraction V) (laws : Laws m) where
  -- joins ---------------------------------------------------------------------------------------------------------------

  joins_so : (so : Option V) (u : V) (e : Exactness) (w : V) → JoinsRunning (forward.lossy_operations m) so u e w → (s : List ℤ) → SomeHas m so s →
      InGamma m w s
  joins_so None u e w joins s own = absurd own
  joins_so (Some v) u e w joins s own = covered_has m laws v w joins.0.formed joins.0.left s own

  joins_new : (so : Option V) (u : V) (e : Exactness) (w : V) → JoinsRunning (forward.lossy_operations m) so u e w → (s : List ℤ) → InGamma m u s →
      InGamma m w s
  joins_new None u e w (same, exact) s own = subst (λ x. InGamma m x s) (sym same) own
  joins_new (Some v) u e w joins s own = covered_has m laws u w joins.0.formed joins.0.right s own

  -- paths ---------------------------------------------------------------------------------------------------------------

  comes_back : (x : V) (target : H) (path : List Action) (e : Exactness) (w : V) → PreOfPath (lossy_back_operations m b) x target path e w → (s t : List ℤ)
      → AllCanBeMade path (length s) → LeadsAll path s t → InHeadGamma m target t → InGamma m x s → InGamma m w s
  comes_back x target path e w (v, u, c, d, i, valued, over, met, worst) s t fits led own ahead =
      let behind : InGamma m v t = (valued.0.formed, valued.0.stores t own.1) in
      (met.0.formed, met.0.stores s (gone_over m b laws path v d u over s t fits led behind).1 ahead.1)

  -- what was so stays, and what a path brings is there
  pub record Keeps (so all : Option V) (brings : List ℤ → Type 0) : Type 0 where
    pub stays : (s : List ℤ) → SomeHas m so s → SomeHas m all s
    pub comes : (s : List ℤ) → brings s → SomeHas m all s

  -- some path leads from the store to one of the head
  abbrev pub LeadTo : List (List Action) → H → List ℤ → Type 0
  LeadTo paths target s = (path : List Action) × (t : List ℤ) × Contains paths path × AllCanBeMade path (length s) × LeadsAll path s t × InHeadGamma m target t

  abbrev pub LeadFrom : V → List (List Action) → H → List ℤ → Type 0
  LeadFrom x paths target s = InGamma m x s × LeadTo paths target s

  all_come_back : (x : V) (target : H) (paths : List (List Action)) (so : Option V) (e : Exactness) (all : Option V)
      → PreOfPaths (lossy_back_operations m b) x target paths so e all
      → Keeps so all (LeadFrom x paths target)
  all_come_back x target [] so e all (same, exact) = record {
    stays = λ s own. subst (λ o. SomeHas m o s) (sym same) own;
    comes = λ s brings. absurd (contains_none brings.1.0 brings.1.2);
  }
  all_come_back x target (path ∷ paths) so e all (u, w, c, d, i, back, joins, later, worst) =
      let rest = all_come_back x target paths (Some w) i all later in record {
        stays = λ s own. rest.stays s (joins_so so u d w joins s own);
        comes = λ s brings. let (ahead, (way, t, there, fits, led, own)) = brings in elim (contains_cases path way paths there) [
          | inl same ↦ rest.stays s (joins_new so u d w joins s (comes_back x target path c u back s t (subst (λ y. AllCanBeMade y (length s)) (sym same) fits)
              (subst (λ y. LeadsAll y s t) (sym same) led) own ahead))
          | inr among ↦ rest.comes s (ahead, (way, t, among, fits, led, own))
        ];
      }

  -- to one of these heads, the first of which has this number
  abbrev pub LeadToAny : (ℕ → List (List Action)) → V → ℕ → List H → List ℤ → Type 0
  LeadToAny paths x q heads s = (i n : ℕ) × (h : H) × (n ≡ q + i) × (slice_get heads i ≡ Some h) × LeadFrom x (paths n) h s

  come_from_all : (paths : ℕ → List (List Action)) (x : V) (q : ℕ) (heads : List H) (so : Option V) (e : Exactness) (all : Option V)
      → PreOfAllPoints (lossy_back_operations m b) paths x q heads so e all → Keeps so all (LeadToAny paths x q heads)
  come_from_all paths x q [] so e all (same, exact) = record {
    stays = λ s own. subst (λ o. SomeHas m o s) (sym same) own;
    comes = λ s brings. absurd (none-some brings.2 brings.4);
  }
  come_from_all paths x q (target ∷ heads) so e all (some, c, d, back, later, worst) =
      let one = all_come_back x target (paths q) so c some back in
      let rest = come_from_all paths x (suc q) heads some d all later in record {
        stays = λ s own. rest.stays s (one.stays s own);
        comes = λ s brings. by one rest s brings.0 brings.1 brings.2 brings.3 brings.4 brings.5;
      }
    where
      by : Keeps so some (LeadFrom x (paths q) target) → Keeps some all (LeadToAny paths x (suc q) heads) → (s : List ℤ) (i n : ℕ) (h : H) → n ≡ q + i
          → slice_get (target ∷ heads) i ≡ Some h → LeadFrom x (paths n) h s → SomeHas m all s
      by one rest s zero n h number at led =
          let here : n ≡ q = omega (arith, number) in
          rest.stays s (one.comes s (subst (λ y. LeadFrom x (paths q) y s) (sym (same_Some target h at)) (subst (λ k. LeadFrom x (paths k) h s) here led)))
      by one rest s (suc i) n h number at led = rest.comes s (i, n, h, omega (arith, number), at, led)

  -- the seed, and the whole -----------------------------------------------------------------------------------------------

  joins_seed : (seed so : Option V) (e : Exactness) (all : Option V) → JoinsSeed (lossy_back_operations m b) seed so e all → Keeps so all (SomeHas m seed)
  joins_seed None so e all (same, exact) = record { stays = λ s own. subst (λ o. SomeHas m o s) (sym same) own; comes = λ s own. absurd own }
  joins_seed (Some seed) so e all (w, joins, same) = record {
    stays = λ s own. subst (λ o. SomeHas m o s) (sym same) (joins_so so seed e w joins s own);
    comes = λ s own. subst (λ o. SomeHas m o s) (sym same) (joins_new so seed e w joins s own);
  }

  runs_from : (live cap : ℕ) (all : Option V) (w : V) → RunsFrom (forward.lossy_operations m) live cap all w → (s : List ℤ) → SomeHas m all s → InGamma m w s
  runs_from live cap None w runs s own = absurd own
  runs_from live cap (Some v) w same s own = subst (λ x. InGamma m x s) (sym same) own

  pub record NextHas (paths : ℕ → List (List Action)) (x : V) (seed : Option V) (heads : List H) (next : V) : Type 0 where
    pub led : (q : ℕ) (h : H) (s : List ℤ) → slice_get heads q ≡ Some h → LeadFrom x (paths q) h s → InGamma m next s
    pub seeded : (s : List ℤ) → SomeHas m seed s → InGamma m next s

  pub next_has : (paths : ℕ → List (List Action)) (x : V) (seed : Option V) (heads : List H) (e : Exactness) (w : V)
      → IsNext (lossy_back_operations m b) paths x seed heads e w → NextHas paths x seed heads w
  next_has paths x seed heads e w (so, all, c, d, back, joins, runs, worst) =
      let ones = come_from_all paths x 0 heads None c so back in
      let ends = joins_seed seed so d all joins in record {
        led = λ q h s at led. runs_from (m.dims x) 1 all w runs s (ends.stays s (ones.comes s (q, q, h, omega arith, at, led)));
        seeded = λ s own. runs_from (m.dims x) 1 all w runs s (ends.comes s own);
      }
