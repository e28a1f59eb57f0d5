-- How parts become one, and how a list of parts is kept within its cap.
use Rattle.std.specs.Prelude.{◌≡◌, ◌≤◌, ◌<◌, ℕ, zero, suc, List, [], ◌∷◌, ◌++◌, length, ◌⊎◌}
use Rattle.lra_domain.specs.Abstraction.{Abstraction}
use Rattle.lra_powerset.specs.Reduction.{Reduces, ReduceStrains}

-- the part, joined with the others in order
abbrev pub JoinsOn : {V H : Type 0} → Abstraction V H → V → List V → V → Type 0
JoinsOn m a [] j = j ≡ a
JoinsOn {V} m a (p ∷ ps) j = (b : V) × m.joined a p b × JoinsOn m b ps j

-- one of these joins exceeds a limit, and those before it don't lose anything
abbrev pub JoinsOnStrains : {V H : Type 0} → Abstraction V H → V → List V → Type 0
JoinsOnStrains m a [] = ⊥
JoinsOnStrains {V} m a (p ∷ ps) = m.join_strains a p ⊎ ((b : V) × m.joined a p b × JoinsOnStrains m b ps)

-- the join of the parts in order; there is none of no parts
abbrev pub Merges : {V H : Type 0} → Abstraction V H → List V → V → Type 0
Merges m [] j = ⊥
Merges m (p ∷ ps) j = JoinsOn m p ps j

abbrev pub MergeStrains : {V H : Type 0} → Abstraction V H → List V → Type 0
MergeStrains m [] = ⊥
MergeStrains m (p ∷ ps) = JoinsOnStrains m p ps

-- the last two parts become their join, in the last place
pub record LastTwoJoin {V H : Type 0} (m : Abstraction V H) (ps qs : List V) : Type 0 where
  pub front : List V
  pub one : V
  pub two : V
  pub both : V
  pub old : ps ≡ (front ++ one ∷ []) ++ two ∷ []
  pub joined : m.joined one two both
  pub new : qs ≡ front ++ both ∷ []

-- their join exceeds a limit
pub record LastTwoStrain {V H : Type 0} (m : Abstraction V H) (ps : List V) : Type 0 where
  pub front : List V
  pub one : V
  pub two : V
  pub old : ps ≡ (front ++ one ∷ []) ++ two ∷ []
  pub strains : m.join_strains one two

-- the list is reduced; while it has more parts than the cap, the last two become their join, and it is reduced again:
-- after so many joins
abbrev pub CollapsesTo : {V H : Type 0} → Abstraction V H → ℕ → ℕ → List V → List V → Type 0
CollapsesTo m cap zero ps qs = Reduces m ps qs × (length qs ≤ cap)
CollapsesTo {V} m cap (suc n) ps qs = (left next : List V) × Reduces m ps left × (cap < length left)
    × LastTwoJoin m left next × CollapsesTo m cap n next qs

-- an operation on the way exceeds a limit, after so many joins
abbrev pub CollapseStrains : {V H : Type 0} → Abstraction V H → ℕ → ℕ → List V → Type 0
CollapseStrains {V} m cap zero ps =
    ReduceStrains m ps ⊎ ((left : List V) × Reduces m ps left × (cap < length left) × LastTwoStrain m left)
CollapseStrains {V} m cap (suc n) ps = (left next : List V) × Reduces m ps left × (cap < length left)
    × LastTwoJoin m left next × CollapseStrains m cap n next
