-- Rows with no tree in their trees, that are passed along after what was found before them.
use Rattle.std.proofs.Common.{◌≡◌, ℕ, suc, ◌+◌, ◌≤◌, List, ◌∷◌, Option, refl, sym, ap, subst, ◌∙◌, arith}
use Rattle.lra_pass_results.specs.Crates.lra_analysis_spec.Pass.{PassResult, in_turn}
use Rattle.lra_pass_results.specs.Crates.{lra_analysis_spec.LiveLimit.most_live, lra_analysis_spec.Plan.Plan, lra_domain.Abstraction.Abstraction, lra_domain.Interference.Interference}
use Rattle.lra_operations.specs.Tree as graph
use Rattle.lra_operations.specs.declared.tree.Node as node
use Rattle.lra_pass_results.specs.{Dimensions.TreeFits, Flat.AllLeaves, Flat.Follows, Flat.IsLeaf, Outcome.outcome_view, Outcome.IsPassed, declared.outcome.PassOutcome.PassOutcome}
use Rattle.lra_pass_results.proofs.PassRows.{seq_passed, turns}

-- one tree less is left
pub first_leaf : (gs gs' : List node.Node) (g : node.Node) → gs ≡ g ∷ gs' → AllLeaves gs → IsLeaf g × AllLeaves gs'
first_leaf gs gs' g first leaves = subst AllLeaves first leaves

-- another tree takes more than one step
pub row_takes : (k s l : ℕ) → k ≡ 1 → k ≡ 1 + (s + suc l) → ⊥
row_takes k s l one more = omega (arith, one, more)

pub choice_takes : (k a : ℕ) → k ≡ 1 → k ≡ 3 + a → ⊥
choice_takes k a one more = omega (arith, one, more)

pub other_takes : (k a : ℕ) → k ≡ 1 → k ≡ 2 + a → ⊥
other_takes k a one more = omega (arith, one, more)

module _ {V H : Type 0} (o : Interference V) (m : Abstraction V H) (set : Plan) where
  -- whatever a pass of the rest finds, the whole finds that, after what was found before the row
  pub record FlatLoop (g rest : graph.Node) (begun so_far : PassOutcome V) : Type 0 where
    pub few : m.dims so_far.normal ≤ most_live
    pub fits : TreeFits rest (m.dims so_far.normal)
    pub passes : (t : PassResult V) → IsPassed o m set rest so_far.flag so_far.normal t → (s : PassResult V) ×
        IsPassed o m set g begun.flag begun.normal s × (s.normal ≡ t.normal) × (s.flag ≡ t.flag) ×
        ((v : V) (f : Option ℕ) → in_turn (outcome_view begun) s v f ≡ in_turn (outcome_view so_far) t v f)

  pub flat_begins : (g : graph.Node) (begun : PassOutcome V) → m.dims begun.normal ≤ most_live →
      TreeFits g (m.dims begun.normal) → FlatLoop g g begun begun
  flat_begins g begun few fits = record {
    few = few;
    fits = fits;
    passes = λ t one. (t, one, refl, refl, λ v f. refl);
  }

  pub flat_next : (g rest next others : graph.Node) (begun so_far r : PassOutcome V) → rest ≡ graph.seq next others →
      Follows o m set next so_far r → FlatLoop g rest begun so_far → FlatLoop g others begun r
  flat_next g rest next others begun so_far r is followed loop =
      let p = followed.0 in
      let one = followed.1 in
      let turn = followed.2 in
      let fits : TreeFits (graph.seq next others) (m.dims so_far.normal) =
      subst (λ x. TreeFits x (m.dims so_far.normal)) is loop.fits in
      record {
        few = subst (λ (v : V). m.dims v ≤ most_live) (sym followed.3) (subst (λ (n : ℕ). n ≤ most_live) (sym one.dims) fits.1);
        fits = subst (λ (v : V). TreeFits others (m.dims v)) (sym followed.3)
            (subst (λ (n : ℕ). TreeFits others n) (sym one.dims) fits.2);
        passes = λ t two.
            let after : IsPassed o m set others p.flag p.normal t =
            subst (λ (v : V). IsPassed o m set others p.flag v t) followed.3
            (subst (λ (f : Option ℕ). IsPassed o m set others f r.normal t) followed.4 two) in
            let both = subst (λ x. IsPassed o m set x so_far.flag so_far.normal (in_turn p t t.normal t.flag)) (sym is)
            (seq_passed o m set next others so_far.flag so_far.normal p t one after) in
            let here = loop.passes (in_turn p t t.normal t.flag) both in (
              here.0,
              here.1,
              here.2,
              here.3,
              λ v f. here.4 v f
                  ∙ turns (outcome_view so_far) p t t.normal p.normal v t.flag p.flag f
                  ∙ ap (λ x. in_turn x t v f) (sym (turn p.normal p.flag)),
            );
      }

  pub flat_ends : (g rest last : graph.Node) (begun so_far r : PassOutcome V) → rest ≡ last → Follows o m set last so_far r →
      FlatLoop g rest begun so_far → Follows o m set g begun r
  flat_ends g rest last begun so_far r is followed loop =
      let p = followed.0 in
      let here = loop.passes p (subst (λ x. IsPassed o m set x so_far.flag so_far.normal p) (sym is) followed.1) in
      (here.0, here.1, λ v f. followed.2 v f ∙ sym (here.4 v f), followed.3 ∙ sym here.2, followed.4 ∙ sym here.3)
