-- What arrays hold. An array is given by the place where the source declares it, and what it holds stays until its
-- declarator fills it again: in an accepted source calls are written out and nothing recurs, so a declarator has one
-- array at a time.
use Rattle.std.specs.Prelude.{ℕ, ℤ, pos, negsuc, Bool, ◌&&◌, if◌then◌else◌, nat_eq, nat_lt, List, [], ◌∷◌, Option, Some}
use Rattle.std.specs.Prelude.{None, slice_set}
use Rattle.lra_base.specs.declared.refusals.Place.{Place}

-- the elements of arrays, with the place where each array is declared; of one place the first entry counts
abbrev pub Contents : Type 0
Contents = List (Place × List ℤ)

abbrev pub is_same_place : Place → Place → Bool
is_same_place p q = nat_eq p.line q.line && nat_eq p.column q.column

-- of the array that is declared there
abbrev pub elements_of : Place → Contents → List ℤ
elements_of p [] = []
elements_of p (c ∷ cs) = if is_same_place p c.0 then c.1 else elements_of p cs

-- where the element of this index stands, among so many; none if the index is outside
abbrev pub place_among : ℕ → ℤ → Option ℕ
place_among n (pos k) = if nat_lt k n then Some k else None
place_among n (negsuc k) = None

-- with the number at that place of the array
abbrev pub with_element : Place → ℕ → ℤ → Contents → Contents
with_element p k z cs = (p, slice_set (elements_of p cs) k z) ∷ cs
