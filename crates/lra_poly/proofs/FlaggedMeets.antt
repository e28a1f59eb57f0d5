-- A meet that goes on from the lists at hand is flagged only if these exceed a limit.
use Rattle.std.proofs.Common.{◌≡◌, ◌∙◌, ℕ, suc, List, [], ◌∷◌, ◌++◌, ap, refl, subst, sym, inl, inr}
use Rattle.std.proofs.lemmas.List.{append-nil, append_assoc}
use Rattle.std.specs.List.{Contains}
use Rattle.lra_poly.specs.Crates.{lra_cone.Cones.ConeContent, lra_cone.Conversions.AreTried, lra_cone.Conversions.IsConversion, lra_linear_spec.Descriptions.LinearRow}
use Rattle.lra_poly.specs.Crates.{lra_linear_spec.OperationStrain.with_positivity, lra_linear_spec.Polyhedra.Polyhedron, lra_linear_spec.Strain.Loss, lra_linear_spec.Strain.Strains}
use Rattle.lra_poly.proofs.Crates.lra_linear_spec.Membership.{contains_cases, contains_head, contains_none, contains_tail}
use Rattle.lra_duality.specs.Incremental.{MayGoOn}
use Rattle.lra_description_pair.specs.TriedRows.{IsOfTried, OwnListStrains}
use Rattle.lra_description_pair.proofs.PairLosses.{own_strain}
use Rattle.lra_poly.specs.Restricted.{IsRestricted, IsTried}
use Rattle.lra_poly.specs.{Outcomes.first_loss, StrainsAfter.StrainsAfter, declared.outcome.Outcome.TheVariants.Exact, declared.outcome.Outcome.TheVariants.Flagged}

same_head : {A : Type 0} {x y : A} {xs ys : List A} → x ∷ xs ≡ y ∷ ys → x ≡ y
same_head e = cc

nothing_told : {A : Type 0} {x : A} {xs : List A} → [] ≡ x ∷ xs → ⊥
nothing_told e = cc

-- the first that was left out
first_left : (n : ℕ) (taken all kept : List LinearRow) (left later : List Loss) (loss : Loss) → AreTried (suc n) taken all kept left → left ≡ loss ∷ later →
    StrainsAfter n taken all loss
first_left n taken [] kept left later loss t e = absurd (nothing_told (sym t.1 ∙ e))
first_left n taken (g ∷ all) kept left later loss (inl t) e =
    let h = first_left n (taken ++ g ∷ []) all t.0 left later loss t.2 e in
    record {
      before = g ∷ h.before;
      chosen = h.chosen ∙ append_assoc taken (g ∷ []) h.before;
      among = λ x has. elim (contains_cases g x h.before has) [
        | inl s ↦ subst (Contains (g ∷ all)) s (contains_head g all)
        | inr b ↦ contains_tail g x all (h.among x b)
      ];
      strains = h.strains;
    }
first_left n taken (g ∷ all) kept left later loss (inr t) e =
    let is : t.0 ≡ loss = same_head (sym t.2 ∙ e) in
    let chosen : loss.chosen ≡ taken = subst (λ (l : Loss). l.chosen ≡ taken) is t.3 in
    let further : loss.further ≡ g = subst (λ (l : Loss). l.further ≡ g) is t.4 in
    let strains : Strains (suc n) (taken ++ g ∷ []) loss = subst (Strains (suc n) (taken ++ g ∷ [])) is t.5 in
    record {
      before = [];
      chosen = chosen ∙ sym (append-nil taken);
      among = λ x has. absurd (contains_none x has);
      strains = inl (subst (λ (l : List LinearRow). Strains (suc n) (l ++ loss.further ∷ []) loss) (sym chosen)
          (subst (λ (f : LinearRow). Strains (suc n) (taken ++ f ∷ []) loss) (sym further) strains));
    }

own_strains : (n : ℕ) (first all kept : List LinearRow) (s : ConeContent) (left losses later : List Loss) (loss : Loss) → IsConversion first all kept s left → s.dims ≡ n →
    AreTried (suc n) first all kept left → OwnListStrains s left losses → losses ≡ loss ∷ later → StrainsAfter n first all loss
own_strains n first all kept s [] losses later loss c d t o e =
    let told : Loss = o.told.loss in
    let is : told ≡ loss = same_head (sym o.told.told ∙ e) in
    let strains : Strains (suc s.dims) s.taken told = own_strain s s.taken o.cause told o.is_cone refl o.told.own o.is_cause in
    record {
      before = kept;
      chosen = subst (λ (l : Loss). l.chosen ≡ first ++ kept) is (o.told.own.chosen ∙ c.taken);
      among = c.among;
      strains = inr (subst (λ (l : Loss). Strains (suc n) l.chosen l) is (subst (λ (m : ℕ). Strains (suc m) told.chosen told) d
          (subst (λ (g : List LinearRow). Strains (suc s.dims) g told) (sym o.told.own.chosen) strains)));
    }
own_strains n first all kept s (x ∷ left) losses later loss c d t o e =
    let is : x ≡ loss = same_head (sym o.told.told ∙ e) in first_left n first all kept (x ∷ left) left loss t (ap (λ (l : Loss). l ∷ left) is)

tried_strains : (n : ℕ) (first all : List LinearRow) (made : Polyhedron) (losses later : List Loss) (loss : Loss) → IsOfTried n first all made losses → losses ≡ loss ∷ later →
    StrainsAfter n first all loss
tried_strains n first all made losses later loss t e =
    let tried : AreTried (suc n) first all t.kept t.left = subst (λ (d : ℕ). AreTried (suc d) first all t.kept t.left) t.dims t.conversion.tried in
    elim t.made [
      | inl m ↦ first_left n first all t.kept t.left later loss tried (sym m.told ∙ e)
      | inr m ↦ own_strains n first all t.kept t.cone t.left losses later loss t.conversion t.dims tried m.0 e
    ]

same_loss : {x y : Loss} → Flagged x ≡ Flagged y → x ≡ y
same_loss e = cc

never_exact : {x : Loss} → Flagged x ≡ Exact → ⊥
never_exact e = cc

told_strains : (n : ℕ) (first all : List LinearRow) (made : Polyhedron) (loss : Loss) → IsTried n first all made (Flagged loss) → StrainsAfter n first all loss
told_strains n first all made loss t = by_losses t.losses t.told t.of
  where
    by_losses : (losses : List Loss) → Flagged loss ≡ first_loss losses → IsOfTried n first all made losses → StrainsAfter n first all loss
    by_losses [] e of = absurd (never_exact e)
    by_losses (x ∷ later) e of = tried_strains n first all made (x ∷ later) later loss of (ap (λ (l : Loss). l ∷ later) (same_loss (sym e)))

pub flagged_onward : (p q : Polyhedron) (more : List LinearRow) (loss : Loss) → MayGoOn p.dims p.generators → IsRestricted p more q (Flagged loss) →
    StrainsAfter p.dims (with_positivity p.dims p.rows) more loss
flagged_onward p q more loss may (inl same) = absurd (never_exact same.2)
flagged_onward p q more loss may (inr n) = elim n.is_met [
  | inl m ↦ told_strains p.dims (with_positivity p.dims p.rows) more n.made loss m.1
  | inr m ↦ absurd (m.0 may)
]
