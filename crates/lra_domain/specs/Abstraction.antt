-- What a domain's values and heads mean.
-- The value that contracts see is the content of a value or a head: so equal contents are equal values.
use Rattle.std.specs.Prelude.{◌≡◌, ℕ, ℤ, List, Option, ◌⊎◌}
use Rattle.lra_linear_forms.specs.Form.{Form}
use Rattle.lra_systems.specs.LinearSystems.{LinearSystem}
use Rattle.lra_domain.specs.Crates.lra_linear_spec.declared.ConKind.{ConKind}
use Rattle.lra_domain.specs.Actions.{Action, Within}
use Rattle.lra_domain.specs.declared.Exactness.TheVariants.{Exact, Flagged}
use Rattle.lra_domain.specs.{declared.Exactness.Exactness, declared.Included.Included, declared.Included.TheVariants.No}
use Rattle.lra_domain.specs.{declared.Included.TheVariants.Wide, declared.Mode.Mode, declared.Rank.Rank}

-- several answers in a row are flagged if one of them is
abbrev pub worse : Exactness → Exactness → Exactness
worse Exact e = e
worse Flagged e = Flagged

-- V: contents of values; H: contents of heads
pub record Abstraction (V H : Type 0) : Type 1 where
  -- a value that is held has such a content
  pub well_formed : V → Type 0
  -- the list is a store of the value
  pub gamma : V → List ℤ → Type 0
  -- how many dimensions it has
  pub dims : V → ℕ
  -- the lists of rows that say of the value, part by part; it may have so many
  pub parts : V → List (LinearSystem ConKind)
  pub capped : V → ℕ → Type 0
  -- what the content says of a form's values: a lower and an upper bound, each of them or none
  pub bounded : V → Form → Option ℤ → Option ℤ → Type 0
  -- the first is covered by the second
  pub leq : V → V → Type 0
  -- the value of n dimensions and this cap that has all stores; that has none
  pub top : ℕ → ℕ → V → Type 0
  pub bottom : ℕ → ℕ → V → Type 0
  -- the second value has all points to which the change leads from those of the first
  pub keeps : Action → V → V → Type 0
  -- the defined result of a change of the value; when the change may be flagged
  pub transferred : Action → V → V → Type 0
  pub strains : Action → V → Type 0
  -- the defined join of the first two; when it may be flagged
  pub joined : V → V → V → Type 0
  pub join_strains : V → V → Type 0
  -- the first is included in the second; when the answer may be Wide
  pub included : V → V → Type 0
  pub inclusion_strains : V → V → Type 0
  -- a head that is held has such a content
  pub head_well_formed : H → Type 0
  -- the list is a store of the head
  pub head_gamma : H → List ℤ → Type 0
  pub head_dims : H → ℕ
  -- the head's values may have so many parts
  pub head_capped : H → ℕ → Type 0
  pub rank : H → Rank
  pub head_leq : H → H → Type 0
  -- the head that starts with the value, for the widening thresholds
  pub started : V → LinearSystem ConKind → H → Type 0
  -- next is included in the head; what the inclusion may answer: Wide only if it exceeds a limit
  pub stays : H → V → Mode → Type 0
  pub answers : H → V → Mode → Included → Type 0
  -- the second head has all points of the first one and of next
  pub holds_both : H → V → H → Type 0
  -- of the first head's widening thresholds the second has those that are left, as far as the domain uses them: a row
  -- that was struck isn't given again
  pub left : H → Mode → H → Type 0
  -- what a head may become if the inclusion answers Wide: a head with all stores, as a content
  pub given_up : H → Mode → H → Type 0
  -- the defined growth of the head by next; when its join or its widening may be flagged
  pub grown : H → V → Mode → H → Type 0
  pub grow_strains : H → V → Mode → Type 0
  -- the defined value of the head; when it may be flagged
  pub valued : H → V → Type 0
  pub value_strains : H → Type 0

-- a change of the old value to the new one, with this exactness
pub record TransfersTo {V H : Type 0} (m : Abstraction V H) (step : Action) (old : V) (exactness : Exactness) (new : V)
    : Type 0 where
  pub formed : m.well_formed new
  -- each point to which the change may lead is kept
  pub keeps : m.keeps step old new
  -- the result covers the defined one; an exact one is it, a flagged one comes only from a strain
  pub covers : (v : V) → m.transferred step old v → m.leq v new
  pub exact : exactness ≡ Exact → m.transferred step old new
  pub flagged : exactness ≡ Flagged → m.strains step old

-- a join of two values
pub record Joins {V H : Type 0} (m : Abstraction V H) (one two : V) (exactness : Exactness) (new : V) : Type 0 where
  pub formed : m.well_formed new
  -- the result covers both operands, and the defined join
  pub left : m.leq one new
  pub right : m.leq two new
  pub covers : (v : V) → m.joined one two v → m.leq v new
  pub exact : exactness ≡ Exact → m.joined one two new
  pub flagged : exactness ≡ Flagged → m.join_strains one two

-- a head that starts with a value
pub record Starts {V H : Type 0} (m : Abstraction V H) (first : V) (given : LinearSystem ConKind) (head : H) : Type 0
  where
    pub formed : m.head_well_formed head
    pub stores : Within (m.gamma first) (m.head_gamma head)
    pub started : m.started first given head

-- a growth by next may be flagged: its inclusion exceeds a limit, or answers that next isn't in the head, and then the
-- join or the widening exceeds a limit
abbrev pub GrowthStrains : {V H : Type 0} → Abstraction V H → H → V → Mode → Type 0
GrowthStrains m old next mode =
    m.answers old next mode Wide
    ⊎ (m.answers old next mode No × m.grow_strains old next mode)

-- a head that grew by next
pub record Grew {V H : Type 0} (m : Abstraction V H) (old : H) (next : V) (mode : Mode) (exactness : Exactness)
    (new : H)
    : Type 0 where
  pub formed : m.head_well_formed new
  -- it has the points of the old head and of next, and the widening thresholds that are left, flagged or not
  pub both : m.holds_both old next new
  pub left : m.left old mode new
  -- the head covers the defined growth
  pub covers : (h : H) → m.grown old next mode h → m.head_leq h new
  -- an exact growth is the defined one, if the inclusion answers No
  pub moved : exactness ≡ Exact → m.answers old next mode No
  pub exact : exactness ≡ Exact → m.grown old next mode new
  -- a flagged one comes from an inclusion that exceeds a limit, and then the head is given up; or from a join or a
  -- widening that exceeds a limit, if the inclusion answers No
  pub flagged : exactness ≡ Flagged
      → (m.answers old next mode Wide × m.given_up old mode new) ⊎
      (m.answers old next mode No × m.grow_strains old next mode)

-- the value of a head
pub record Values {V H : Type 0} (m : Abstraction V H) (head : H) (exactness : Exactness) (new : V) : Type 0 where
  pub formed : m.well_formed new
  pub stores : Within (m.head_gamma head) (m.gamma new)
  -- the value covers the defined one; an exact one is it, a flagged one comes only from a strain
  pub covers : (v : V) → m.valued head v → m.leq v new
  pub exact : exactness ≡ Exact → m.valued head new
  pub flagged : exactness ≡ Flagged → m.value_strains head
