-- What is said of lists of parts.
use Rattle.std.specs.Prelude.{List, [], ◌∷◌, ◌⊎◌}

-- P holds of each part
abbrev pub EachPart : {V : Type 0} → (V → Type 0) → List V → Type 0
EachPart P [] = Unit {0}
EachPart P (p ∷ ps) = P p × EachPart P ps

-- P holds of some part
abbrev pub SomePart : {V : Type 0} → (V → Type 0) → List V → Type 0
SomePart P [] = ⊥
SomePart P (p ∷ ps) = P p ⊎ SomePart P ps

-- R holds of each part and the one in its place in the other list
abbrev pub PartByPart : {V : Type 0} → (V → V → Type 0) → List V → List V → Type 0
PartByPart R [] [] = Unit {0}
PartByPart R [] (q ∷ qs) = ⊥
PartByPart R (p ∷ ps) [] = ⊥
PartByPart R (p ∷ ps) (q ∷ qs) = R p q × PartByPart R ps qs
