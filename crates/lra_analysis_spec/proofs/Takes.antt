-- Moves after what came before, with the exactness of all of it.
use Rattle.std.proofs.Common.{◌≡◌, refl, sym, ap, subst, ◌∙◌}
use Rattle.std.specs.Prelude.{◌↔◌}
use Rattle.lra_domain.specs.Moves.{Moves, stay, first_then, join_of}
use Rattle.lra_domain.specs.{Abstraction.worse, declared.Exactness.Exactness, declared.Exactness.TheVariants.Exact, declared.Exactness.TheVariants.Flagged}
use Rattle.lra_analysis_spec.specs.{Moves.AreMade, Moves.Takes, Operations.Operations}

pub worse_exact : (d : Exactness) → worse d Exact ≡ d
worse_exact Exact = refl
worse_exact Flagged = refl

pub worse_worse : (a b c : Exactness) → worse (worse a b) c ≡ worse a (worse b c)
worse_worse Exact b c = refl
worse_worse Flagged b c = refl

-- what led to both is counted once
worse_both : (d a b i : Exactness) → worse (worse (worse d a) (worse d b)) i ≡ worse d (worse (worse a b) i)
worse_both Exact a b i = refl
worse_both Flagged a b i = refl

module _ {V H : Type 0} (ops : Operations V H) (v : V) (d : Exactness) (w : V) (e : Exactness) where
  pub stay_takes : ((w ≡ v) × (e ≡ d)) ↔ Takes ops stay v d w e
  stay_takes = (
    λ (same, flags). (Exact, (same, refl), flags ∙ sym (worse_exact d)),
    λ (c, (same, exact), worst). (same, worst ∙ ap (worse d) exact ∙ worse_exact d),
  )

  pub then_takes : (p q : Moves) → ((x : V) × (c : Exactness) × Takes ops p v d x c × Takes ops q x c w e) ↔ Takes ops (first_then p q) v d w e
  then_takes p q = (
    λ (x, c, (a, one, first), (b, two, last)). (worse a b, (x, a, b, one, two, refl), last ∙ ap (λ (z : Exactness). worse z b) first ∙ worse_worse d a b),
    λ (c, (x, a, b, one, two, worst), is). (x, worse d a, (a, one, refl), (b, two, is ∙ ap (worse d) worst ∙ sym (worse_worse d a b))),
  )

  pub join_takes : (p q : Moves) → ((x y : V) × (a b i : Exactness) × Takes ops p v d x a × Takes ops q v d y b × ops.joined x y i w × (e ≡ worse (worse a b) i))
      ↔ Takes ops (join_of p q) v d w e
  join_takes p q = (
    λ (x, y, k, l, i, (a, one, left), (b, two, right), joined, is). (
      worse (worse a b) i,
      (x, y, a, b, i, one, two, joined, refl),
      is ∙ ap (λ (z : Exactness). worse (worse z l) i) left ∙ ap (λ (z : Exactness). worse (worse (worse d a) z) i) right ∙ worse_both d a b i,
    ),
    λ (c, (x, y, a, b, i, one, two, joined, worst), is).
        (x, y, worse d a, worse d b, i, (a, one, refl), (b, two, refl), joined, is ∙ ap (worse d) worst ∙ sym (worse_both d a b i)),
  )

-- after nothing that is flagged
pub takes_made : {V H : Type 0} (ops : Operations V H) (p : Moves) (v : V) (w : V) (e : Exactness) → Takes ops p v Exact w e → AreMade ops p v e w
takes_made ops p v w e (c, made, is) = subst (λ (a : Exactness). AreMade ops p v a w) (sym is) made
