-- What is done beside a program's own operations is passed as it is defined.
use Rattle.std.proofs.Common.{Vec, Global, map, ◌≡◌, ℕ, List, [], ◌∷◌, ◌++◌, Option, refl, sym, ap, subst, ◌∙◌}
use Rattle.std.proofs.lemmas.List.{map-append}
use Rattle.lra_fixpoint.specs.Crates.lra_analysis_spec.Pass.{PassEntry, recorded, PassResult, goes_on, noted}
use Rattle.lra_fixpoint.specs.Crates.lra_domain.Interference.{Interference}
use Rattle.lra_fixpoint.specs.Crates.{lra_analysis_spec.Plan.Plan, lra_analysis_spec.UnderInterference.absorbed, lra_domain.Abstraction.Abstraction, lra_domain.declared.Exactness.Exactness}
use Rattle.lra_operations.specs.{Tree.probe, declared.probes.Probe.TheVariants.InterferencePoint, declared.probes.Probe.TheVariants.RecordWrite}
use Rattle.lra_pass_results.specs.declared.outcome.PassEntry as entry
use Rattle.lra_pass_results.specs.{Outcome.ended, Outcome.entry_view, Outcome.outcome_view, Outcome.IsPassed, declared.outcome.PassEntry.TheVariants.Recorded, declared.outcome.PassOutcome.PassOutcome}
use Rattle.lra_pass_results.proofs.PassSteps.{going_on_fits}

module _ {V : Type 0} (begun : PassOutcome V) (v : V) (f : Option ℕ)
    (found : (u : V) (d : Option ℕ) → ended begun.found u d ≡ goes_on [] u d) (normal : begun.normal ≡ v) (flag : begun.flag ≡ f) where
  -- nothing is found yet
  pub begun_seen : outcome_view begun ≡ goes_on [] v f
  begun_seen = found begun.normal begun.flag ∙ ap (λ (x : V). goes_on [] x begun.flag) normal ∙ ap (λ (x : Option ℕ). goes_on [] v x) flag

  -- and then what the variable got
  pub gift_seen : (q place : ℕ) (u : V) (es : Vec (entry.PassEntry V) Global) → u ≡ begun.normal →
      es.items ≡ begun.found.entries.items ++ Recorded q place u ∷ [] →
      outcome_view (record begun { found = record begun.found { entries = es } }) ≡ goes_on (recorded q place v ∷ []) v f
  gift_seen q place u es same more =
      let none : map (entry_view {V = V}) begun.found.entries.items ≡ [] = ap (λ (x : PassResult V). x.entries) (found v f) in
      let all : map (entry_view {V = V}) es.items ≡ recorded q place v ∷ [] =
      ap (λ (xs : List (entry.PassEntry V)). map (entry_view {V = V}) xs) more
      ∙ map-append (entry_view {V = V}) begun.found.entries.items (Recorded q place u ∷ [])
      ∙ ap (λ (xs : List (PassEntry V)). xs ++ recorded q place u ∷ []) none ∙ ap (λ (x : V). recorded q place x ∷ []) (same ∙ normal) in
      ap (λ (xs : List (PassEntry V)). record (outcome_view begun) { entries = xs }) all
      ∙ ap (λ (x : PassResult V). record x { entries = recorded q place v ∷ [] }) begun_seen

module _ {V H : Type 0} (o : Interference V) (m : Abstraction V H) (set : Plan) (q : ℕ) (f : Option ℕ) (v : V) where
  pub entering_passed : (w : V) (e : Exactness) (r : PassResult V) → absorbed o m v e w → r ≡ goes_on [] w (noted q e f) →
      IsPassed o m set (probe q InterferencePoint) f v r
  entering_passed w e r admits is = subst (λ (x : PassResult V). IsPassed o m set (probe q InterferencePoint) f v x) (sym is) (record {
    pass = (w, e, admits, refl);
    dims = admits.1;
    jumps = going_on_fits m (probe q InterferencePoint) (m.dims v) [] w (noted q e f);
  })

  pub noting_passed : (place : ℕ) (r : PassResult V) → r ≡ goes_on (recorded q place v ∷ []) v f → IsPassed o m set (probe q (RecordWrite place)) f v r
  noting_passed place r is = subst (λ (x : PassResult V). IsPassed o m set (probe q (RecordWrite place)) f v x) (sym is) (record {
    pass = refl;
    dims = refl;
    jumps = going_on_fits m (probe q (RecordWrite place)) (m.dims v) (recorded q place v ∷ []) v f;
  })
