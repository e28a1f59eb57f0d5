-- What holds of all elements of two lists holds of those of the one after the other, and back.
use Rattle.std.proofs.Common.{List, [], ◌∷◌, ◌++◌}
use Rattle.std.specs.List.{AllByRecursion}

module _ {X : Type 0} (P : X → Type 0) where
  pub every_append : (xs ys : List X) → AllByRecursion P xs → AllByRecursion P ys → AllByRecursion P (xs ++ ys)
  every_append [] ys h k = k
  every_append (x ∷ xs) ys h k = (h.0, every_append xs ys h.1 k)

  pub every_front : (xs ys : List X) → AllByRecursion P (xs ++ ys) → AllByRecursion P xs
  every_front [] ys h = tt
  every_front (x ∷ xs) ys h = (h.0, every_front xs ys h.1)

  pub every_back : (xs ys : List X) → AllByRecursion P (xs ++ ys) → AllByRecursion P ys
  every_back [] ys h = h
  every_back (x ∷ xs) ys h = every_back xs ys h.1
