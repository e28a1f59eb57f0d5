-- What the steps of the code answer and leave, for their contracts.
use Rattle.lra_domain.specs.Abstraction.{worse, Abstraction, Joins, TransfersTo}
use Rattle.lra_domain.specs.Actions.{Action, dims_after}
use Rattle.lra_domain.specs.declared.Exactness.TheVariants.{Exact, Flagged}
use Rattle.lra_domain.specs.declared.Included.TheVariants.{Yes, No, Wide}
use Rattle.lra_domain.specs.{declared.Exactness.Exactness, declared.Included.Included}
use Rattle.std.specs.Prelude.{◌≡◌, ◌≤◌, ◌<◌, ◌⊎◌, ℕ, List, [], ◌∷◌, ◌++◌, length}
use Rattle.lra_powerset.specs.Joins.{JoinsOn, JoinsOnStrains, CollapsesTo, CollapseStrains}
use Rattle.lra_powerset.specs.Lists.{EachPart, SomePart, PartByPart}
use Rattle.lra_powerset.specs.declared.joins.Collapsing.TheVariants.{Within, Strained, Further}
use Rattle.lra_powerset.specs.{Content.PartFits, Content.nonempty_parts, Reduction.IsDropped, Reduction.DropStrains}
use Rattle.lra_powerset.specs.{Values.IsKept, Values.PartsIncluded, declared.joins.Collapsing.Collapsing}

-- an answer is right: it is so, it isn't, or something exceeds a limit
abbrev pub AnswersWhether : Type 0 → Type 0 → Included → Type 0
AnswersWhether so strains Yes = so
AnswersWhether so strains No = ¬ so
AnswersWhether so strains Wide = strains

-- whether one of two is so
abbrev pub either : Included → Included → Included
either Yes j = Yes
either No j = j
either Wide Yes = Yes
either Wide No = Wide
either Wide Wide = Wide

-- whether both are so
abbrev pub both : Included → Included → Included
both No j = No
both Yes j = j
both Wide No = No
both Wide Yes = Wide
both Wide Wide = Wide

-- flagged if an answer strained
abbrev pub decided : Included → Exactness
decided Yes = Exact
decided No = Exact
decided Wide = Flagged

abbrev pub all_decided : List Included → Exactness
all_decided [] = Exact
all_decided (i ∷ is) = worse (decided i) (all_decided is)

-- of so many dimensions each
abbrev pub HaveDims : {V H : Type 0} → Abstraction V H → ℕ → List V → Type 0
HaveDims m n ps = EachPart (λ p. m.dims p ≡ n) ps

-- of each part it is reported whether it goes
abbrev pub AnswerDropped : {V H : Type 0} → Abstraction V H → List V → List V → List Included → Type 0
AnswerDropped m before [] [] = Unit {0}
AnswerDropped m before [] (i ∷ is) = ⊥
AnswerDropped m before (p ∷ ps) [] = ⊥
AnswerDropped m before (p ∷ ps) (i ∷ is) = AnswersWhether (IsDropped m before p ps) (DropStrains m before p ps) i ×
    AnswerDropped m (before ++ p ∷ []) ps is

-- without the parts that go
abbrev pub kept : {V : Type 0} → List V → List Included → List V
kept [] is = []
kept (p ∷ ps) [] = p ∷ ps
kept (p ∷ ps) (Yes ∷ is) = kept ps is
kept (p ∷ ps) (No ∷ is) = p ∷ kept ps is
kept (p ∷ ps) (Wide ∷ is) = p ∷ kept ps is

-- a reduction in which a part of which it isn't reported whether it goes stays
pub record IsReduced {V H : Type 0} (m : Abstraction V H) (ps : List V) (e : Exactness) (qs : List V) : Type 0 where
  pub answers : List Included
  pub told : AnswerDropped m [] ps answers
  pub left : qs ≡ kept ps answers
  pub exactness : e ≡ all_decided answers

-- the part, joined with the others in order
pub record IsMerged {V H : Type 0} (m : Abstraction V H) (a : V) (ps : List V) (e : Exactness) (j : V) : Type 0 where
  pub formed : m.well_formed j
  pub first : m.leq a j
  pub others : EachPart (λ p. m.leq p j) ps
  pub exact : e ≡ Exact → JoinsOn m a ps j
  pub flagged : e ≡ Flagged → JoinsOnStrains m a ps

-- the join of the parts in order
abbrev pub AreMerged : {V H : Type 0} → Abstraction V H → List V → Exactness → V → Type 0
AreMerged m [] e j = ⊥
AreMerged m (p ∷ ps) e j = IsMerged m p ps e j

-- one part that covers all
pub record BecameOne {V H : Type 0} (m : Abstraction V H) (ps qs : List V) : Type 0 where
  pub part : V
  pub alone : qs ≡ part ∷ []
  pub covers : EachPart (λ p. m.leq p part) ps
  pub fits : (n : ℕ) → EachPart (PartFits m n) ps → PartFits m n part

-- the last two parts became their join, in the last place
pub record LastTwoBecomeJoin {V H : Type 0} (m : Abstraction V H) (ps : List V) (e : Exactness) (qs : List V) : Type 0
  where
    pub front : List V
    pub one : V
    pub two : V
    pub both : V
    pub old : ps ≡ (front ++ one ∷ []) ++ two ∷ []
    pub joined : Joins m one two e both
    pub dims : m.dims both ≡ m.dims one
    pub new : qs ≡ front ++ both ∷ []

-- a list after a round of settling: reduced and within the cap; or with more parts and flagged; or the last two joined
abbrev pub CollapsesOnce : {V H : Type 0} → Abstraction V H → ℕ → List V → Collapsing → List V → Type 0
CollapsesOnce m cap ps (Within e) qs = IsReduced m ps e qs × (length qs ≤ cap)
CollapsesOnce {V} m cap ps Strained qs = (IsReduced m ps Flagged qs × (cap < length qs))
    ⊎ ((left : List V) × IsReduced m ps Exact left × (cap < length left) × LastTwoBecomeJoin m left Flagged qs)
CollapsesOnce {V} m cap ps Further qs =
    (left : List V) × IsReduced m ps Exact left × (cap < length left) × LastTwoBecomeJoin m left Exact qs

-- a list that was reduced and kept within its cap
pub record IsCollapsed {V H : Type 0} (m : Abstraction V H) (n cap : ℕ) (ps : List V) (e : Exactness) (qs : List V)
    : Type 0 where
  -- it covers all parts, and what is defined
  pub parts : PartsIncluded m.leq ps qs
  pub covers : (joins : ℕ) (zs : List V) → CollapsesTo m cap joins ps zs → PartsIncluded m.leq zs qs
  pub exact : e ≡ Exact → (joins : ℕ) × CollapsesTo m cap joins ps qs
  pub flagged : e ≡ Flagged → (joins : ℕ) × CollapseStrains m cap joins ps
  pub few : length qs ≤ cap
  pub fit : EachPart (PartFits m n) qs

-- after the parts that were there comes the part, changed, unless it became empty
pub record IsAppended {V H : Type 0} (m : Abstraction V H) (step : Action) (p : V) (e : Exactness)
    (before after : List V)
    : Type 0 where
  pub part : V
  pub meets : TransfersTo m step p e part
  pub dims : m.dims part ≡ dims_after step (m.dims p)
  pub appended : after ≡ before ++ nonempty_parts m (part ∷ [])

-- each part is changed, and those that became empty are left out
pub record AreChanged {V H : Type 0} (m : Abstraction V H) (step : Action) (ps : List V) (e : Exactness) (qs : List V)
    : Type 0 where
  pub changed : List V
  pub left : qs ≡ nonempty_parts m changed
  -- each part has all points to which the change may lead
  pub keeps : PartByPart (IsKept m step) ps changed
  -- what is defined is covered
  pub covers : (vs : List V) → PartByPart (m.transferred step) ps vs → PartsIncluded m.leq (nonempty_parts m vs) qs
  pub exact : e ≡ Exact → PartByPart (m.transferred step) ps changed
  pub flagged : e ≡ Flagged → SomePart (m.strains step) ps
  pub few : length qs ≤ length ps
  pub fit : (n : ℕ) → HaveDims m n ps → EachPart (PartFits m (dims_after step n)) qs
