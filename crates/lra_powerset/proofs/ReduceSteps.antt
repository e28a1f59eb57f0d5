-- What the reduction of a set keeps, and what it gives, whether it ends or memory runs out.
use Rattle.std.proofs.Common.{◌≡◌, ℕ, ◌≤◌, List, length, sym, ap, subst, arith}
use Rattle.std.specs.Prelude.{Result, Ok, Err, IfOk, OnOk, OnErr}
use Rattle.lra_domain.specs.{Abstraction.Abstraction, Laws.BaseLaws, declared.Exactness.Exactness, declared.Exactness.TheVariants.Exact, declared.Exactness.TheVariants.Flagged}
use Rattle.lra_powerset.specs.{Content.PartFits, Lists.EachPart, Outcomes.IsReduced, Reduction.Reduces, Reduction.ReduceStrains, Values.PartsIncluded}
use Rattle.lra_powerset.proofs.ReductionLemmas.{reduced_covers, reduced_exact, reduced_strains, reduced_each, reduced_fewer}

module _ {V H E : Type 0} (m : Abstraction V H) (ps qs : List V) where
  pub still_fits : (n cap : ℕ) (x : Result Exactness E) → IfOk x (λ e. IsReduced m ps e qs) → OnErr x (qs ≡ ps)
      → length ps ≤ cap → EachPart (PartFits m n) ps → (length qs ≤ cap) × EachPart (PartFits m n) qs
  still_fits n cap (Ok e) r same few fit =
      let fewer = reduced_fewer m ps e qs r in
      (omega (arith, fewer, few), reduced_each m (PartFits m n) ps e qs r fit)
  still_fits n cap (Err e) r same few fit =
      let alike = ap length same in
      (omega (arith, alike, few), subst (λ (xs : List V). EachPart (PartFits m n) xs) (sym same) fit)

  pub still_covers : BaseLaws m → (old : List V) (x : Result Exactness E) → ps ≡ old → IfOk x (λ e. IsReduced m ps e qs)
      → OnOk x (PartsIncluded m.leq old qs)
  still_covers pl old (Ok e) is r = subst (λ (xs : List V). PartsIncluded m.leq xs qs) is (reduced_covers m pl ps e qs r)
  still_covers pl old (Err e) is r = tt

  pub reduces_exactly : (old : List V) (x : Result Exactness E) → ps ≡ old → IfOk x (λ e. IsReduced m ps e qs)
      → IfOk x (λ e. e ≡ Exact → Reduces m old qs)
  reduces_exactly old (Ok e) is r = λ exact. subst (λ (xs : List V). Reduces m xs qs) is (reduced_exact m ps e qs r exact)
  reduces_exactly old (Err e) is r = tt

  pub reduces_flagged : (old : List V) (x : Result Exactness E) → ps ≡ old → IfOk x (λ e. IsReduced m ps e qs)
      → IfOk x (λ e. e ≡ Flagged → ReduceStrains m old)
  reduces_flagged old (Ok e) is r = λ flagged. subst (λ (xs : List V). ReduceStrains m xs) is (reduced_strains m ps e qs r flagged)
  reduces_flagged old (Err e) is r = tt

-- a list that is as it was has the items that it had
pub same_items : {E W V : Type 0} (items : W → List V) (old new : W) (x : Result Exactness E) → OnErr x (new ≡ old)
    → OnErr x (items new ≡ items old)
same_items items old new (Ok e) same = tt
same_items items old new (Err e) same = ap items same
