-- What comes after the head of a set, and what is so of every head.
use Rattle.std.specs.Prelude.{◌≡◌, ◌≢◌, ◌≤◌, ◌<◌, ◌^◌, ℕ, length}
use Rattle.lra_domain.specs.{Abstraction.Abstraction, Rank.RankFits}
use Rattle.lra_powerset.specs.Content.{HeadForm, many, one, whole, SetHead, PartFits}
use Rattle.lra_powerset.specs.declared.growth.Held.TheVariants.{Many, One, Whole}
use Rattle.lra_powerset.specs.{Lists.EachPart, Values.IsTopPart, declared.growth.Held.Held}

abbrev pub form_of : {V H : Type 0} → Held V H → HeadForm V H
form_of (Many ps) = many ps.items
form_of (One h) = one h
form_of (Whole p) = whole p

-- the form of a head: parts held with its dimensions, no more than its cap, and not one; or the head of a single part,
-- held with its dimensions
abbrev pub HeadFormFits : {V H : Type 0} → Abstraction V H → ℕ → ℕ → HeadForm V H → Type 0
HeadFormFits m n cap (many ps) = EachPart (PartFits m n) ps × (length ps ≤ cap) × (length ps ≢ 1)
HeadFormFits m n cap (one h) = (m.head_dims h ≡ n) × RankFits (m.rank h) × m.head_well_formed h
HeadFormFits m n cap (whole p) = IsTopPart m n p × PartFits m n p

-- what is so of every head
pub record HeadFits {V H : Type 0} (m : Abstraction V H) (h : SetHead V H) : Type 0 where
  pub small : h.dims ≤ 2 ^ 30
  pub some : 1 ≤ h.cap
  pub few : h.cap < 2 ^ 32
  pub rows : h.thresholds.dims ≡ h.dims
  pub form : HeadFormFits m h.dims h.cap h.form
