-- Trees with no tree in them, that are passed after what was found before them.
use Rattle.std.proofs.Common.{Vec, Global, map, ◌≡◌, ℕ, List, [], ◌∷◌, ◌++◌, Option, refl, sym, ap, subst, ◌∙◌}
use Rattle.std.proofs.lemmas.List.{append-nil, map-append}
use Rattle.std.specs.Prelude.{OnOk}
use Rattle.std.specs.Prelude as outcome_or
use Rattle.lra_pass_results.specs.Crates.lra_analysis_spec.Pass.{PassEntry, PassResult, goes_on, in_turn, jumps, noted}
use Rattle.lra_pass_results.specs.Crates.{lra_analysis_spec.Live.live_after, lra_analysis_spec.Operations.lossy_operations, lra_analysis_spec.Plan.Plan, lra_analysis_spec.UnderInterference.LossyPass}
use Rattle.lra_pass_results.specs.Crates.{lra_domain.Abstraction.Abstraction, lra_domain.Interference.Interference, lra_domain.declared.Exactness.Exactness}
use Rattle.lra_operations.specs.Tree.{Exit}
use Rattle.lra_operations.specs.Tree as graph
use Rattle.lra_pass_results.proofs.Crates.lra_analysis_spec.Transfer.{jump_flag}
use Rattle.lra_pass_results.specs.declared.outcome.PassEntry as entry
use Rattle.lra_pass_results.specs.{Flat.Follows, Outcome.ended, Outcome.entry_view, Outcome.outcome_view, Outcome.IsPassed, declared.outcome.PassOutcome.PassOutcome}
use Rattle.lra_pass_results.proofs.{PassRows.same_lists, PassSteps.going_on_fits, PassSteps.jump_dims, PassSteps.jump_fits, PassSteps.jump_normal}

-- one entry more
pub entry_more : {V : Type 0} (es more : List (entry.PassEntry V)) (x : entry.PassEntry V) (y : PassEntry V) → more ≡ es ++ x ∷ [] →
    entry_view x ≡ y → map (entry_view {V = V}) more ≡ map (entry_view {V = V}) es ++ y ∷ []
entry_more {V} es more x y is one = ap (λ (xs : List (entry.PassEntry V)). map (entry_view {V = V}) xs) is
    ∙ map-append (entry_view {V = V}) es (x ∷ []) ∙ ap (λ (z : PassEntry V). map (entry_view {V = V}) es ++ z ∷ []) one

-- the same flag
pub flagged_so : {V : Type 0} (xs : List (PassEntry V)) (w : V) (f g : Option ℕ) → f ≡ g → goes_on xs w f ≡ goes_on xs w g
flagged_so xs w f g is = ap (λ (x : Option ℕ). goes_on xs w x) is

-- flagged by one and then by the other
pub flagged_twice : (q : ℕ) (d e : Exactness) (f g h : Option ℕ) → g ≡ noted q d f → h ≡ noted q e g →
    h ≡ noted q e (noted q d f)
flagged_twice q d e f g h one two = two ∙ ap (λ (x : Option ℕ). noted q e x) one

module _ {V H : Type 0} (o : Interference V) (m : Abstraction V H) (set : Plan) (so_far : PassOutcome V) where
  -- without a jump
  pub goes_further : (g : graph.Node) (es : Vec (entry.PassEntry V) Global) (xs : List (PassEntry V)) (w : V) (f : Option ℕ) →
      map (entry_view {V = V}) es.items ≡ map (entry_view {V = V}) so_far.found.entries.items ++ xs →
      LossyPass o m set g so_far.flag so_far.normal (goes_on xs w f) →
      m.dims w ≡ live_after g (m.dims so_far.normal) →
      Follows o m set g so_far (record { found = record so_far.found { entries = es }; normal = w; flag = f })
  goes_further g es xs w f more pass dims = (
    goes_on xs w f,
    record { pass = pass; dims = dims; jumps = going_on_fits m g (m.dims so_far.normal) xs w f },
    λ v d. same_lists v d _ _ _ _ _ _ _ _ more (sym (append-nil so_far.found.breaks.items))
        (sym (append-nil so_far.found.continues.items)) (sym (append-nil so_far.found.returns.items)),
    refl,
    refl,
  )

  -- nothing is done
  pub goes_nowhere : (g : graph.Node) → g ≡ graph.empty → Follows o m set g so_far so_far
  goes_nowhere g is = subst (λ x. Follows o m set x so_far so_far) (sym is)
      (goes_further graph.empty so_far.found.entries [] so_far.normal so_far.flag
      (sym (append-nil (map (entry_view {V = V}) so_far.found.entries.items))) refl refl)

  -- a jump
  pub jumps_further : (l : ℕ) (k : Exit) (w : V) (r : PassOutcome V) → (lossy_operations m).bottom l set.parts w → m.dims w ≡ l →
      outcome_view r ≡ in_turn (outcome_view so_far) (jumps k so_far.normal w so_far.flag) w so_far.flag →
      Follows o m set (graph.leave l k) so_far r
  jumps_further l k w r void dims is = (
    jumps k so_far.normal w so_far.flag,
    record {
      pass = (w, void, refl);
      dims = jump_dims m l k so_far.normal w so_far.flag _ refl dims;
      jumps = jump_fits m l k so_far.normal w so_far.flag _ refl;
    },
    λ v d. ap (λ (x : PassResult V). record x { normal = v; flag = d }) is,
    ap (λ (x : PassResult V). x.normal) is ∙ sym (jump_normal m k so_far.normal w so_far.flag),
    ap (λ (x : PassResult V). x.flag) is ∙ sym (jump_flag k so_far.normal w so_far.flag),
  )

  -- the same tree
  pub followed_given : {T E : Type 0} (g g' : graph.Node) (r : PassOutcome V) (R : outcome_or.Result T E) → g ≡ g' →
      OnOk R (Follows o m set g' so_far r) → OnOk R (Follows o m set g so_far r)
  followed_given g g' r R same h = subst (λ x. OnOk R (Follows o m set x so_far r)) (sym same) h

  -- after nothing
  pub passed_alone : (g : graph.Node) (r : PassOutcome V) (f : Option ℕ) (v : V) →
      ((u : V) (d : Option ℕ) → ended so_far.found u d ≡ goes_on [] u d) → so_far.normal ≡ v → so_far.flag ≡ f →
      Follows o m set g so_far r → IsPassed o m set g f v (outcome_view r)
  passed_alone g r f v none value flag (t, passed, turn, normal, flagged) =
      let from : IsPassed o m set g f v t = subst (λ (x : V). IsPassed o m set g f x t) value
      (subst (λ (x : Option ℕ). IsPassed o m set g x so_far.normal t) flag passed) in
      let is : outcome_view r ≡ t = turn r.normal r.flag
      ∙ ap (λ (x : PassResult V). in_turn x t r.normal r.flag) (none so_far.normal so_far.flag)
      ∙ ap (λ (x : V). record t { normal = x; flag = r.flag }) normal
      ∙ ap (λ (x : Option ℕ). record t { flag = x }) flagged in
      subst (λ (x : PassResult V). IsPassed o m set g f v x) (sym is) from
