-- Domains whose calls never exceed a limit, whose values have one part at most and are their own heads, and whose heads
-- grow by joins alone: what the author gives, and the meaning and the laws that follow from it.
use Rattle.std.specs.Prelude.{◌≡◌, ◌≤◌, ℕ, ℤ, List, [], length, None, ⊤}
use Rattle.std.proofs.Common.{refl, subst, sym, ◌∙◌, arith}
use Rattle.lra_linear_forms.specs.Form.{form_value}
use Rattle.lra_domain.specs.Crates.lra_linear_spec.declared.ConKind.{ConKind}
use Rattle.lra_systems.specs.LinearSystems.{LinearSystem}
use Rattle.lra_domain.specs.Actions.{Action, ActionFits, Leads, Within, KeepsStores, HoldsStores}
use Rattle.lra_domain.specs.declared.Included.TheVariants.{Yes, No, Wide}
use Rattle.lra_domain.specs.{Abstraction.Abstraction, Bounds.IsBetween, Laws.Laws, declared.Included.Included}

-- of a content: its stores, its dimensions, its parts, and which content covers it; the content of n dimensions with
-- all stores, and that with none; what a change makes of a content; the join of two; the last number of a head's rank
pub record ExactDomain (V : Type 0) : Type 1 where
  pub gamma : V → List ℤ → Type 0
  pub dims : V → ℕ
  pub parts : V → List (LinearSystem ConKind)
  pub leq : V → V → Type 0
  pub top : ℕ → V
  pub bottom : ℕ → V
  pub transfer : Action → V → V
  pub joined : V → V → V
  pub number : V → ℕ

-- what the inclusion of the second in the first answers
abbrev pub ExactAnswers : {V : Type 0} → (V → V → Type 0) → V → V → Included → Type 0
ExactAnswers covered h v Yes = covered v h
ExactAnswers covered h v No = ¬ covered v h
ExactAnswers covered h v Wide = ⊥

abbrev pub abstraction_of : {V : Type 0} → ExactDomain V → Abstraction V V
abstraction_of u = record {
  well_formed = λ v. ⊤;
  gamma = u.gamma;
  dims = u.dims;
  parts = u.parts;
  capped = λ v c. 1 ≤ c;
  bounded = λ v f l h. (l ≡ None) × (h ≡ None);
  leq = u.leq;
  top = λ n cap v. v ≡ u.top n;
  bottom = λ n cap v. v ≡ u.bottom n;
  keeps = KeepsStores u.gamma;
  transferred = λ step a b. b ≡ u.transfer step a;
  strains = λ step a. ⊥;
  joined = λ a b c. c ≡ u.joined a b;
  join_strains = λ a b. ⊥;
  included = u.leq;
  inclusion_strains = λ a b. ⊥;
  head_well_formed = λ h. ⊤;
  head_gamma = u.gamma;
  head_dims = u.dims;
  head_capped = λ h c. 1 ≤ c;
  rank = λ h. record { first = 1; second = 0; third = 0; fourth = u.number h };
  head_leq = u.leq;
  started = λ v given h. h ≡ v;
  stays = λ h v mode. u.leq v h;
  answers = λ h v mode i. ExactAnswers u.leq h v i;
  holds_both = HoldsStores u.gamma u.gamma;
  left = λ old mode new. ⊤;
  given_up = λ old mode new. ⊥;
  grown = λ h v mode g. g ≡ u.joined h v;
  grow_strains = λ h v mode. ⊥;
  valued = λ h v. v ≡ h;
  value_strains = λ h. ⊥;
}

-- what the author proves of it
pub record Facts {V : Type 0} (u : ExactDomain V) : Type 0 where
  -- a store has as many numbers as there are dimensions
  pub sized : (v : V) (s : List ℤ) → u.gamma v s → length s ≡ u.dims v
  pub top_dims : (n : ℕ) → u.dims (u.top n) ≡ n
  pub top_stores : (n : ℕ) (s : List ℤ) → length s ≡ n → u.gamma (u.top n) s
  pub bottom_dims : (n : ℕ) → u.dims (u.bottom n) ≡ n
  pub bottom_stores : (n : ℕ) (s : List ℤ) → ¬ u.gamma (u.bottom n) s
  pub one_part : (v : V) → length (u.parts v) ≤ 1
  pub partless : (v : V) → u.parts v ≡ [] → (s : List ℤ) → ¬ u.gamma v s
  pub reflexive : (v : V) → u.leq v v
  pub leq_stores : (a b : V) → u.leq a b → Within (u.gamma a) (u.gamma b)
  -- each store to which a change leads is kept; a join covers both sides
  pub moved : (step : Action) (v : V) (s t : List ℤ) → ActionFits step (u.dims v) → u.gamma v s → Leads step s t
      → u.gamma (u.transfer step v) t
  pub left : (a b : V) → u.dims a ≡ u.dims b → u.leq a (u.joined a b)
  pub right : (a b : V) → u.dims a ≡ u.dims b → u.leq b (u.joined a b)

same_dims : {V : Type 0} (u : ExactDomain V) (v w : V) → v ≡ w → u.dims v ≡ u.dims w
same_dims u v w e = subst (λ x. u.dims v ≡ u.dims x) e refl

pub laws_of : {V : Type 0} (u : ExactDomain V) → Facts u → Laws (abstraction_of u)
laws_of u f = record {
  sized = λ v s fine h. f.sized v s h;
  head_sized = λ h s fine own. f.sized h s own;
  top_dims = λ n cap v is. same_dims u v (u.top n) is ∙ f.top_dims n;
  top_stores = λ n cap v fine is s long. subst (λ w. u.gamma w s) (sym is) (f.top_stores n s long);
  bottom_dims = λ n cap v is. same_dims u v (u.bottom n) is ∙ f.bottom_dims n;
  bottom_stores = λ n cap v fine is s h. f.bottom_stores n s (subst (λ w. u.gamma w s) is h);
  capped_parts = λ v c some. let one = f.one_part v in omega arith;
  top_capped = λ n cap v some is. some;
  bottom_capped = λ n cap v some is. some;
  partless = λ v fine e s h. f.partless v e s h;
  bounded_stores = λ v g l h s fine wide is has. subst (λ x. IsBetween x h (form_value g s)) (sym is.0)
      (subst (λ x. IsBetween None x (form_value g s)) (sym is.1) (tt, tt));
  one_bounded = λ v g l h j k fine is so. (is.0 ∙ sym so.0, is.1 ∙ sym so.1);
  bounded_partless = λ v g l h fine e is. is;
  leq_stores = λ a b fine too c. f.leq_stores a b c;
  head_leq_stores = λ a b fine too c. f.leq_stores a b c;
  kept_stores = λ step v w fine too k. k;
  old_stores = λ old next new fine too k. k.0;
  next_stores = λ old next new fine too k. k.1;
  stays_stores = λ h v mode fine too c. f.leq_stores v h c;
  answers_yes = λ h v mode c. c;
  answers_no = λ h v mode c. c;
  given_up_stores = λ old mode new fine too is s long. absurd is;
  given_up_valued = λ old mode new fine too is. absurd is;
  given_up_value = λ old mode new v fine too is e. absurd is;
}
