-- What the calls of a domain that never exceeds a limit must guarantee, from the content that each gives.
use Rattle.std.proofs.Common.{◌≡◌, ℕ, List, ℤ, subst, sym, ◌∙◌, length, ◌↔◌}
use Rattle.lra_domain.specs.Abstraction.{TransfersTo, Joins, Grew, Values}
use Rattle.lra_domain.specs.{Actions.Action, Actions.ActionFits, ExactDomains.ExactDomain, ExactDomains.Facts, ExactDomains.abstraction_of, declared.Exactness.TheVariants.Exact, declared.Mode.Mode}

covered_same : {V : Type 0} (u : ExactDomain V) → Facts u → (a b : V) → a ≡ b → u.leq a b
covered_same u f a b e = subst (λ x. u.leq a x) e (f.reflexive a)

pub meets : {V : Type 0} (u : ExactDomain V) → Facts u → (step : Action) (old new : V) → ActionFits step (u.dims old) → new ≡ u.transfer step old
    → TransfersTo (abstraction_of u) step old Exact new
meets u f step old new fits is = record {
  formed = tt;
  keeps = λ s t h led. subst (λ x. u.gamma x t) (sym is) (f.moved step old s t fits h led);
  covers = λ v done. covered_same u f v new (done ∙ sym is);
  exact = λ same. is;
  flagged = λ same. cc;
}

pub joins : {V : Type 0} (u : ExactDomain V) → Facts u → (a b new : V) → u.dims a ≡ u.dims b → new ≡ u.joined a b → Joins (abstraction_of u) a b Exact new
joins u f a b new wide is = record {
  formed = tt;
  left = subst (λ x. u.leq a x) (sym is) (f.left a b wide);
  right = subst (λ x. u.leq b x) (sym is) (f.right a b wide);
  covers = λ v done. covered_same u f v new (done ∙ sym is);
  exact = λ same. is;
  flagged = λ same. cc;
}

pub grew : {V : Type 0} (u : ExactDomain V) → Facts u → (old next new : V) (mode : Mode) → u.dims old ≡ u.dims next → ¬ u.leq next old
    → new ≡ u.joined old next → Grew (abstraction_of u) old next mode Exact new
grew u f old next new mode wide apart is = record {
  formed = tt;
  both = (
    λ s h. subst (λ x. u.gamma x s) (sym is) (f.leq_stores old (u.joined old next) (f.left old next wide) s h),
    λ s h. subst (λ x. u.gamma x s) (sym is) (f.leq_stores next (u.joined old next) (f.right old next wide) s h),
  );
  left = tt;
  covers = λ v done. covered_same u f v new (done ∙ sym is);
  moved = λ same. apart;
  exact = λ same. is;
  flagged = λ same. cc;
}

pub valued : {V : Type 0} (u : ExactDomain V) → Facts u → (head new : V) → new ≡ head → Values (abstraction_of u) head Exact new
valued u f head new is = record {
  formed = tt;
  stores = λ s h. subst (λ x. u.gamma x s) (sym is) h;
  covers = λ v done. covered_same u f v new (done ∙ sym is);
  exact = λ same. is;
  flagged = λ same. cc;
}

pub whole_has : {V : Type 0} (u : ExactDomain V) → Facts u → (n : ℕ) (v : V) → v ≡ u.top n → (s : List ℤ) → u.gamma v s ↔ (length s ≡ n)
whole_has u f n v is s = (
  λ h. f.sized (u.top n) s (subst (λ x. u.gamma x s) is h) ∙ f.top_dims n,
  λ long. subst (λ x. u.gamma x s) (sym is) (f.top_stores n s long),
)
