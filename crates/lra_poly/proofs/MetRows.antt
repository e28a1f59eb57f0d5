-- Inclusions that are answered by Yes, and what is kept of rows that are met with a polyhedron.
use Rattle.std.proofs.Common.{◌≡◌, ◌∙◌, ◌↔◌, ℕ, List, ◌∷◌, ◌++◌, ap, refl, subst, sym, Bool, true, false, drop, IsTrue, inl, inr, []}
use Rattle.std.proofs.lemmas.List.Elements.{All-contains, Contains-append_right}
use Rattle.std.specs.List.{Contains}
use Rattle.lra_poly.specs.Crates.lra_linear_spec.Descriptions.{Con, LinearRow, inequality}
use Rattle.lra_poly.specs.Crates.lra_linear_spec.OperationStrain.{FromRowsStrains, with_positivity}
use Rattle.lra_poly.specs.Crates.{lra_linear_spec.Polyhedra.Polyhedron, lra_linear_spec.Polyhedra.positivity, lra_linear_spec.Strain.Loss, lra_systems.FirstPlaces.FirstAt}
use Rattle.lra_poly.proofs.Crates.lra_linear_spec.Membership.{contains_head}
use Rattle.lra_duality.specs.Inclusions.{IsInclusion, Satisfies, SatisfiesAll, Passes, ViolatesFirst, Violates}
use Rattle.lra_duality.specs.declared.inclusion.Inclusion.TheVariants.{Yes, No, Wide}
use Rattle.lra_duality.specs.{Incremental.MayGoOn, declared.inclusion.Inclusion.Inclusion}
use Rattle.lra_duality.proofs.MaximumLemmas.{never_both}
use Rattle.lra_description_pair.specs.{OwnLists.IsPositive, TriedRows.IsOfTried}
use Rattle.lra_description_pair.proofs.MadeLemmas.{tried_is_made}
use Rattle.lra_poly.specs.Restricted.{IsMetWith, IsSeenWithin, IsSettled, IsTried}
use Rattle.lra_poly.specs.{Outcomes.IsOfRows, Outcomes.first_loss, declared.outcome.Outcome.Outcome, declared.outcome.Outcome.TheVariants.Exact, declared.outcome.Outcome.TheVariants.Flagged}
use Rattle.lra_poly.proofs.PolyLemmas.{becomes_told}

at_place : {A : Type 0} (P Q R : A → Type 0) (list : List A) (place : ℕ) (f : FirstAt P Q list place) → ((x : A) → Contains list x → R x) → R f.member
at_place P Q R list place f h = h f.member (subst (λ l. Contains l f.member) (sym f.is) (Contains-append_right f.earlier (f.member ∷ f.later) f.member (contains_head f.member f.later)))

pub only_yes : (rows generators : List LinearRow) (answer : Inclusion) → IsInclusion rows generators answer → IsInclusion rows generators Yes → answer ≡ Yes
only_yes rows generators Yes told seen = refl
only_yes rows generators (No place) told seen =
    let g = told.member in
    let meets : SatisfiesAll rows g = at_place (SatisfiesAll rows) (ViolatesFirst rows) (SatisfiesAll rows) generators place told (λ x has. All-contains (SatisfiesAll rows) generators x seen has) in
    let first = told.here.first in
    let met : Satisfies g first.member =
    at_place (Satisfies g) (Violates g) (Satisfies g) rows told.here.place first (λ x has. All-contains (Satisfies g) rows x meets has) in
    let holds = met.1 in
    let refuted = first.here.1 in
    let wrong : ⊥ = cc in absurd wrong
only_yes rows generators (Wide place row) told seen =
    let g = told.member in
    let meets : SatisfiesAll rows g = at_place (SatisfiesAll rows) (λ x. FirstAt (Satisfies x) (Passes x) rows row) (SatisfiesAll rows) generators place told
    (λ x has. All-contains (SatisfiesAll rows) generators x seen has) in
    let met : Satisfies g told.here.member =
    at_place (Satisfies g) (Passes g) (Satisfies g) rows row told.here (λ x has. All-contains (Satisfies g) rows x meets has) in
    absurd (never_both _ told.here.here met.0)

pub never : (b : Bool) → b ≡ false → IsTrue b → ⊥
never b f t = cc

-- what the code answers by the first pair that decides
pub is_yes : (rows generators : List LinearRow) (answer : Inclusion) (told : IsInclusion rows generators answer) → answer ≡ Yes →
    (IsTrue true ↔ IsInclusion rows generators Yes)
is_yes rows generators answer told e = (λ _. subst (IsInclusion rows generators) e told, λ _. refl)

pub is_other : (rows generators : List LinearRow) (answer other : Inclusion) → IsInclusion rows generators answer → answer ≡ other → (other ≡ Yes → ⊥) →
    (IsTrue false ↔ IsInclusion rows generators Yes)
is_other rows generators answer other told e apart = (
  λ t. absurd (never false refl t),
  λ seen. absurd (apart (sym e ∙ only_yes rows generators answer told seen)),
)

pub no_is_not_yes : (place : ℕ) → No place ≡ Yes → ⊥
no_is_not_yes place e = cc

pub wide_is_not_yes : (place row : ℕ) → Wide place row ≡ Yes → ⊥
wide_is_not_yes place row e = cc

-- ---- rows that were tried
pub tried_of : (n : ℕ) (first all : List LinearRow) (made pair : Polyhedron) (o : Outcome) (losses : List Loss) → made ≡ pair → o ≡ first_loss losses → IsOfTried n first all pair losses →
    IsTried n first all made o
tried_of n first all made pair o losses e told of = record { losses = losses; told = told; of = subst (λ (p : Polyhedron). IsOfTried n first all p losses) (sym e) of }

pub met_onward : (p view : Polyhedron) (taken more : List LinearRow) (d : ℕ) (made : Polyhedron) (o : Outcome) → view ≡ p → MayGoOn view.dims view.generators →
    taken ≡ inequality (positivity view.dims) ∷ view.rows → d ≡ p.dims → IsTried d taken more made o → IsMetWith p more made o
met_onward p view taken more d made o e may et ed t = inl (
  subst (λ (q : Polyhedron). MayGoOn q.dims q.generators) e may,
  subst (λ (n : ℕ). IsTried n (with_positivity p.dims p.rows) more made o) ed
      (subst (λ (l : List LinearRow). IsTried d l more made o) (et ∙ ap (λ (q : Polyhedron). with_positivity q.dims q.rows) e) t),
)

pub met_anew : (p view : Polyhedron) (more : List LinearRow) (made : Polyhedron) (o : Outcome) → view ≡ p → ¬ (MayGoOn view.dims view.generators) →
    IsTried p.dims (with_positivity p.dims []) (p.rows ++ more) made o → IsMetWith p more made o
met_anew p view more made o e fails t = inr (subst (λ (q : Polyhedron). ¬ (MayGoOn q.dims q.generators)) e fails, t)

-- what was tried says what is made
tried_becomes : (n : ℕ) (first all : List LinearRow) (made : Polyhedron) (o : Outcome) → IsPositive n first → IsTried n first all made o → IsOfRows n (drop 1 first ++ all) made o
tried_becomes n first all made o positive t =
    let rows = drop 1 first ++ all in
    becomes_told n (Con rows) (FromRowsStrains n rows) made made o t.losses refl t.told (tried_is_made n first all made t.losses positive t.of)

pub met_becomes : (p made : Polyhedron) (more : List LinearRow) (o : Outcome) → IsMetWith p more made o → IsOfRows p.dims (p.rows ++ more) made o
met_becomes p made more o (inl x) = tried_becomes p.dims (with_positivity p.dims p.rows) more made o (p.rows, refl) x.1
met_becomes p made more o (inr x) = tried_becomes p.dims (with_positivity p.dims []) (p.rows ++ more) made o ([], refl) x.1

-- ---- the new value
pub settled_exact : (old made new : Polyhedron) (o : Outcome) → o ≡ Exact → new ≡ made → IsSettled old made o new
settled_exact old made new o e same = subst (λ (x : Outcome). IsSettled old made x new) (sym e) same

pub settled_made : (old made new : Polyhedron) (o : Outcome) (loss : Loss) → o ≡ Flagged loss → IsSeenWithin made old.rows → new ≡ made → IsSettled old made o new
settled_made old made new o loss e seen same = subst (λ (x : Outcome). IsSettled old made x new) (sym e) (inl (seen, same))

pub settled_old : (old made new : Polyhedron) (o : Outcome) (loss : Loss) → o ≡ Flagged loss → ¬ (IsSeenWithin made old.rows) → new ≡ old → IsSettled old made o new
settled_old old made new o loss e unseen same = subst (λ (x : Outcome). IsSettled old made x new) (sym e) (inr (unseen, same))
