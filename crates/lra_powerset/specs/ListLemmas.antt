-- Lemmas on what holds of each or of some part.
use Rattle.std.proofs.Common.{List, [], ◌∷◌, inl, inr}
use Rattle.lra_powerset.specs.Lists.{EachPart, SomePart}

pub each_map : {V : Type 0} (P Q : V → Type 0) → ((p : V) → P p → Q p) → (ps : List V) → EachPart P ps → EachPart Q ps
each_map P Q f [] h = tt
each_map P Q f (p ∷ ps) h = (f p h.0, each_map P Q f ps h.1)

pub some_map : {V : Type 0} (P Q : V → Type 0) → ((p : V) → P p → Q p) → (ps : List V) → SomePart P ps → SomePart Q ps
some_map P Q f [] h = absurd h
some_map P Q f (p ∷ ps) (inl h) = inl (f p h)
some_map P Q f (p ∷ ps) (inr h) = inr (some_map P Q f ps h)

-- a part of which something holds, among parts of which each something else holds
pub some_of_each : {V : Type 0} (P Q : V → Type 0) (X : Type 0) → ((p : V) → P p → Q p → X) → (ps : List V)
    → EachPart P ps → SomePart Q ps → X
some_of_each P Q X f [] e h = absurd h
some_of_each P Q X f (p ∷ ps) e (inl h) = f p e.0 h
some_of_each P Q X f (p ∷ ps) e (inr h) = some_of_each P Q X f ps e.1 h

-- if something holds of each of the others too
pub some_with_each : {V : Type 0} (R P Q : V → Type 0) → ((p : V) → R p → P p → Q p) → (ps : List V)
    → EachPart R ps → SomePart P ps → SomePart Q ps
some_with_each R P Q f [] e h = absurd h
some_with_each R P Q f (p ∷ ps) e (inl h) = inl (f p e.0 h)
some_with_each R P Q f (p ∷ ps) e (inr h) = inr (some_with_each R P Q f ps e.1 h)
