-- What holds of each or of some part of one list after another.
use Rattle.std.proofs.Common.{List, [], ◌∷◌, ◌++◌, inl, inr}
use Rattle.lra_powerset.specs.Lists.{EachPart, SomePart}

pub each_append : {V : Type 0} (P : V → Type 0) (ps qs : List V) → EachPart P ps → EachPart P qs → EachPart P (ps ++ qs)
each_append P [] qs a b = b
each_append P (p ∷ ps) qs a b = (a.0, each_append P ps qs a.1 b)

pub each_left : {V : Type 0} (P : V → Type 0) (ps qs : List V) → EachPart P (ps ++ qs) → EachPart P ps
each_left P [] qs h = tt
each_left P (p ∷ ps) qs h = (h.0, each_left P ps qs h.1)

pub each_right : {V : Type 0} (P : V → Type 0) (ps qs : List V) → EachPart P (ps ++ qs) → EachPart P qs
each_right P [] qs h = h
each_right P (p ∷ ps) qs h = each_right P ps qs h.1

pub some_left : {V : Type 0} (P : V → Type 0) (ps qs : List V) → SomePart P ps → SomePart P (ps ++ qs)
some_left P [] qs h = absurd h
some_left P (p ∷ ps) qs (inl h) = inl h
some_left P (p ∷ ps) qs (inr h) = inr (some_left P ps qs h)

pub some_right : {V : Type 0} (P : V → Type 0) (ps qs : List V) → SomePart P qs → SomePart P (ps ++ qs)
some_right P [] qs h = h
some_right P (p ∷ ps) qs h = inr (some_right P ps qs h)
