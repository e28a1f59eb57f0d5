-- How a list of parts is reduced: a part that is included in another goes; of two that include each other the first
-- stays.
use Rattle.std.specs.Prelude.{◌≡◌, List, [], ◌∷◌, ◌++◌, ◌⊎◌}
use Rattle.lra_domain.specs.Abstraction.{Abstraction}
use Rattle.lra_powerset.specs.Lists.{EachPart, SomePart}

-- the part, with these before it and these after it, goes: it lies in an earlier one, or in a later one that doesn't
-- lie in it
abbrev pub IsDropped : {V H : Type 0} → Abstraction V H → List V → V → List V → Type 0
IsDropped m before p behind = SomePart (m.included p) before ⊎ SomePart (λ q. m.included p q × ¬ m.included q p) behind

-- these are left of the parts that come after others
abbrev pub ReducesAfter : {V H : Type 0} → Abstraction V H → List V → List V → List V → Type 0
ReducesAfter m before [] left = left ≡ []
ReducesAfter {V} m before (p ∷ ps) left =
    (IsDropped m before p ps × ReducesAfter m (before ++ p ∷ []) ps left)
    ⊎ ((rest : List V) × (¬ IsDropped m before p ps) × (left ≡ p ∷ rest) × ReducesAfter m (before ++ p ∷ []) ps rest)

abbrev pub Reduces : {V H : Type 0} → Abstraction V H → List V → List V → Type 0
Reduces m ps left = ReducesAfter m [] ps left

-- whether it lies in the other, which doesn't lie in it, exceeds a limit
abbrev pub BelowStrains : {V H : Type 0} → Abstraction V H → V → V → Type 0
BelowStrains m p q = m.inclusion_strains p q ⊎ (m.included p q × m.inclusion_strains q p)

-- of the part it isn't reported whether it goes: an inclusion exceeds a limit that reports it, and each other one of
-- them exceeds a limit or doesn't say that it goes
abbrev pub DropStrains : {V H : Type 0} → Abstraction V H → List V → V → List V → Type 0
DropStrains m before p behind =
    (SomePart (m.inclusion_strains p) before ⊎ SomePart (BelowStrains m p) behind)
    × EachPart (λ q. m.inclusion_strains p q ⊎ ¬ m.included p q) before
    × EachPart (λ q. BelowStrains m p q ⊎ ¬ (m.included p q × ¬ m.included q p)) behind

abbrev pub ReducesAfterStrains : {V H : Type 0} → Abstraction V H → List V → List V → Type 0
ReducesAfterStrains m before [] = ⊥
ReducesAfterStrains m before (p ∷ ps) = DropStrains m before p ps ⊎ ReducesAfterStrains m (before ++ p ∷ []) ps

abbrev pub ReduceStrains : {V H : Type 0} → Abstraction V H → List V → Type 0
ReduceStrains m ps = ReducesAfterStrains m [] ps
