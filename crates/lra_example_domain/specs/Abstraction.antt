-- The meaning of gauges: a value has all stores of its dimensions or none, and bounds a number beside them that no
-- change touches.
use Rattle.std.specs.Prelude.{◌≡◌, ℕ, zero, suc, ◌-◌, ◌<◌, ◌≤◌, max, ℤ, List, [], ◌∷◌, length, None, ⊤}
use Rattle.lra_example_domain.specs.Crates.lra_linear_spec.declared.ConKind.{ConKind}
use Rattle.lra_example_domain.specs.Crates.lra_systems.LinearSystems.{LinearSystem}
use Rattle.lra_domain.specs.Actions.{dims_after, HoldsStores, KeepsStores}
use Rattle.lra_domain.specs.declared.Included.TheVariants.{Yes, No, Wide}
use Rattle.lra_domain.specs.{Abstraction.Abstraction, declared.Included.Included}
use Rattle.lra_example_domain.specs.Bounds.{unbounded, Passes, grown_bound, GrowthPasses}
use Rattle.lra_example_domain.specs.declared.example.ExampleDomain.{ExampleDomain}

abbrev pub ExampleGamma : ExampleDomain → List ℤ → Type 0
ExampleGamma v s = (length s ≡ v.dims) × (0 < v.bound)

-- of the same dimensions, with a lesser bound
abbrev pub Under : ExampleDomain → ExampleDomain → Type 0
Under a b = (a.dims ≡ b.dims) × (a.bound ≤ b.bound)

-- so many dimensions, this bound
abbrev pub IsExample : ℕ → ℕ → ExampleDomain → Type 0
IsExample n bound v = (v.dims ≡ n) × (v.bound ≡ bound)

-- what the inclusion of the second in the first may answer
abbrev pub ExampleAnswers : ExampleDomain → ExampleDomain → Included → Type 0
ExampleAnswers h a Yes = Under a h
ExampleAnswers h a No = ¬ Under a h
ExampleAnswers h a Wide = Passes 100 h.bound a.bound

-- no part, or one without rows
abbrev pub example_parts : ℕ → ℕ → List (LinearSystem ConKind)
example_parts n zero = []
example_parts n (suc bound) = record { dims = n; rows = []; kinds = [] } ∷ []

abbrev pub example_abstraction : Abstraction ExampleDomain ExampleDomain
example_abstraction = record {
  well_formed = λ v. ⊤;
  gamma = ExampleGamma;
  dims = λ v. v.dims;
  parts = λ v. example_parts v.dims v.bound;
  capped = λ v c. 1 ≤ c;
  bounded = λ v f l h. (l ≡ None) × (h ≡ None);
  leq = Under;
  top = λ n cap v. IsExample n unbounded v;
  bottom = λ n cap v. IsExample n 0 v;
  keeps = KeepsStores ExampleGamma;
  transferred = λ step a b. IsExample (dims_after step a.dims) a.bound b;
  strains = λ step a. ⊥;
  joined = λ a b c. IsExample a.dims (max a.bound b.bound) c;
  join_strains = λ a b. Passes 60 a.bound b.bound;
  included = Under;
  inclusion_strains = λ a b. Passes 100 b.bound a.bound;
  head_well_formed = λ h. ⊤;
  head_gamma = ExampleGamma;
  head_dims = λ h. h.dims;
  head_capped = λ h c. 1 ≤ c;
  rank = λ h. record { first = 1; second = 0; third = 0; fourth = unbounded - h.bound };
  head_leq = Under;
  started = λ v given h. h ≡ v;
  stays = λ h a mode. Under a h;
  answers = λ h a mode i. ExampleAnswers h a i;
  holds_both = HoldsStores ExampleGamma ExampleGamma;
  left = λ old mode new. ⊤;
  given_up = λ old mode new. IsExample old.dims unbounded new;
  grown = λ h a mode g. IsExample h.dims (grown_bound mode h.bound a.bound) g;
  grow_strains = λ h a mode. GrowthPasses mode h.bound a.bound;
  valued = λ h v. v ≡ h;
  value_strains = λ h. ⊥;
}
