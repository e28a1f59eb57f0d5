-- If there are no others a store stays, and a value is as it was.
use Rattle.std.proofs.Common.{◌≡◌, ℤ, List, refl, sym, subst}
use Rattle.lra_domain.specs.Interference.{RelyClosure, none, more, no_interference, Absorbs}
use Rattle.lra_domain.specs.{Abstraction.Abstraction, declared.Exactness.TheVariants.Exact}

-- no change, so any number of them is none
pub none_of_many : (s t : List ℤ) → RelyClosure (λ s t. ⊥) s t → t ≡ s
none_of_many s _ (none _) = refl
none_of_many s t (more _ r _ before never) = absurd never

pub nobody_admits : {V H : Type 0} (m : Abstraction V H) (v : V) → m.well_formed v → Absorbs no_interference m v Exact v
nobody_admits m v formed = record {
  formed = formed;
  stores = λ s t own many. subst (m.gamma v) (sym (none_of_many s t many)) own;
  exact = λ same. refl;
  covers = λ no. absurd cc;
  flagged = λ no. cc;
}
