-- Names of variables as they are printed. Which slip an example would catch stands beside it.
use Rattle.std.proofs.Common.{◌≡◌, [], ◌∷◌, refl}
use Rattle.std.specs.{Fmt.digits, Prelude.codes}
use Rattle.lra_resolution_spec.specs.ShownNames.{shown_names}

-- main's x is older than inc's: catches a mark on the newer one
hidden_name : shown_names (codes "x" ∷ codes "x" ∷ []) ≡ codes "x~1" ∷ codes "x" ∷ []
unfolding digits
hidden_name = refl

hidden_twice : shown_names (codes "x" ∷ codes "y" ∷ codes "x" ∷ codes "x" ∷ []) ≡ codes "x~2" ∷ codes "y" ∷ codes "x~1" ∷ codes "x" ∷ []
unfolding digits
hidden_twice = refl
