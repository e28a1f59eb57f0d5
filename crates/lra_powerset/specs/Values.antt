-- What each call on sets of parts gives, and when it may be flagged.
use Rattle.std.specs.Prelude.{◌≡◌, ◌≤◌, ℕ, ℤ, Option, None, List, [], ◌∷◌, ◌++◌, length, ◌⊎◌}
use Rattle.lra_domain.specs.Bounds.{greater, lesser_low}
use Rattle.lra_domain.specs.{Abstraction.Abstraction, Actions.Action, Actions.dims_after}
use Rattle.lra_powerset.specs.Crates.lra_linear_forms.Form.{Form}
use Rattle.lra_powerset.specs.{Content.PartFits, Content.SetContent, Content.nonempty_parts, Joins.CollapsesTo}
use Rattle.lra_powerset.specs.{Joins.CollapseStrains, Lists.EachPart, Lists.SomePart, Lists.PartByPart}

-- a set that is held: each of its parts is held with its dimensions, and there are no more than its cap
abbrev pub WellFormedSet : {V H : Type 0} → Abstraction V H → SetContent V → Type 0
WellFormedSet m v = EachPart (PartFits m v.dims) v.parts × (length v.parts ≤ v.cap)

-- a store of some part, with a number for each dimension
abbrev pub SetGamma : {V H : Type 0} → Abstraction V H → SetContent V → List ℤ → Type 0
SetGamma m v s = (length s ≡ v.dims) × SomePart (λ p. m.gamma p s) v.parts

-- no more parts than its cap
abbrev pub SetCapped : {V : Type 0} → SetContent V → ℕ → Type 0
SetCapped v c = (v.cap ≡ c) × (length v.parts ≤ c)

-- each part is in some part of the other
abbrev pub PartsIncluded : {V : Type 0} → (V → V → Type 0) → List V → List V → Type 0
PartsIncluded R ps qs = EachPart (λ p. SomePart (R p) qs) ps

abbrev pub SetIncluded : {V H : Type 0} → Abstraction V H → SetContent V → SetContent V → Type 0
SetIncluded m a b = (a.dims ≡ b.dims) × PartsIncluded m.included a.parts b.parts

-- of the part it isn't reported whether it lies in one of the others: that exceeds a limit with one of them, and with
-- each of them exceeds a limit or isn't so
abbrev pub IsUndecided : {V H : Type 0} → Abstraction V H → List V → V → Type 0
IsUndecided m qs p = SomePart (m.inclusion_strains p) qs × EachPart (λ q. m.inclusion_strains p q ⊎ ¬ m.included p q) qs

-- of some part it isn't reported, and each of the others lies in one, or of it it isn't reported either
abbrev pub AreUndecided : {V H : Type 0} → Abstraction V H → List V → List V → Type 0
AreUndecided m ps qs =
    SomePart (IsUndecided m qs) ps × EachPart (λ p. SomePart (m.included p) qs ⊎ IsUndecided m qs p) ps

abbrev pub SetInclusionStrains : {V H : Type 0} → Abstraction V H → SetContent V → SetContent V → Type 0
SetInclusionStrains m a b = AreUndecided m a.parts b.parts

abbrev pub SetLeq : {V H : Type 0} → Abstraction V H → SetContent V → SetContent V → Type 0
SetLeq m a b = (a.dims ≡ b.dims) × PartsIncluded m.leq a.parts b.parts

-- the part that has all stores, alone
abbrev pub IsTopPart : {V H : Type 0} → Abstraction V H → ℕ → V → Type 0
IsTopPart m n p = (c : ℕ) × m.top n c p

pub record SetTop {V H : Type 0} (m : Abstraction V H) (n cap : ℕ) (v : SetContent V) : Type 0 where
  pub dims : v.dims ≡ n
  pub cap_is : v.cap ≡ cap
  pub part : V
  pub whole : IsTopPart m n part
  pub alone : v.parts ≡ part ∷ []

-- no part
abbrev pub SetBottom : {V : Type 0} → ℕ → ℕ → SetContent V → Type 0
SetBottom n cap v = v ≡ record { dims = n; cap = cap; parts = [] }

-- the action is done part by part, parts that became empty are left out, and the list is reduced and kept within its
-- cap
pub record SetTransferred {V H : Type 0} (m : Abstraction V H) (step : Action) (old new : SetContent V) : Type 0 where
  pub dims : new.dims ≡ dims_after step old.dims
  pub cap : new.cap ≡ old.cap
  pub changed : List V
  pub done : PartByPart (m.transferred step) old.parts changed
  pub joins : ℕ
  pub settled : CollapsesTo m old.cap joins (nonempty_parts m changed) new.parts

-- the part has all points to which the action leads from the other, and is held with the dimensions after it
pub record IsKept {V H : Type 0} (m : Abstraction V H) (step : Action) (p q : V) : Type 0 where
  pub keeps : m.keeps step p q
  pub dims : m.dims q ≡ dims_after step (m.dims p)
  pub formed : m.well_formed q

-- each part has, in its place, one with all points to which the action leads from it; these, but for those that are
-- empty, are covered by the new parts
pub record SetKeeps {V H : Type 0} (m : Abstraction V H) (step : Action) (old new : SetContent V) : Type 0 where
  pub dims : new.dims ≡ dims_after step old.dims
  pub changed : List V
  pub kept : PartByPart (IsKept m step) old.parts changed
  pub covered : PartsIncluded m.leq (nonempty_parts m changed) new.parts

-- the action exceeds a limit on a part, or what comes after it exceeds a limit on the parts that it gives
abbrev pub SetStrains : {V H : Type 0} → Abstraction V H → Action → SetContent V → Type 0
SetStrains {V} m step old =
    SomePart (m.strains step) old.parts
    ⊎ ((changed : List V) × (joins : ℕ) × PartByPart (m.transferred step) old.parts changed
    × CollapseStrains m old.cap joins (nonempty_parts m changed))

-- the other's parts are appended, and the list is reduced and kept within its cap
pub record SetJoined {V H : Type 0} (m : Abstraction V H) (one two new : SetContent V) : Type 0 where
  pub dims : new.dims ≡ one.dims
  pub cap : new.cap ≡ one.cap
  pub joins : ℕ
  pub settled : CollapsesTo m one.cap joins (one.parts ++ two.parts) new.parts

abbrev pub SetJoinStrains : {V H : Type 0} → Abstraction V H → SetContent V → SetContent V → Type 0
SetJoinStrains m one two = (joins : ℕ) × CollapseStrains m one.cap joins (one.parts ++ two.parts)

-- the lowest of what the parts report from below and the highest from above: none if a part says none, and nothing
-- of no parts
abbrev pub PartsBounded : {V H : Type 0} → Abstraction V H → List V → Form → Option ℤ → Option ℤ → Type 0
PartsBounded m [] f l h = (l ≡ None) × (h ≡ None)
PartsBounded m (p ∷ []) f l h = m.bounded p f l h
PartsBounded m (p ∷ q ∷ ps) f l h = (j k i g : Option ℤ) × m.bounded p f j k × PartsBounded m (q ∷ ps) f i g
    × (l ≡ lesser_low j i) × (h ≡ greater k g)
