-- Where actions lead rational points.
use Rattle.std.proofs.{Common.pos, Common.[], Common.◌∷◌, Common.refl, Common.arith, lemmas.Int.ints}
use Rattle.lra_inductive_sound.specs.Crates.lra_domain.Actions.{assign, embed}
use Rattle.lra_inductive_sound.specs.RationalPoints.{LeadsPoint}

-- x + 1 leads from a half to three halves, in whichever row these stand
halves_led : LeadsPoint (assign 0 (record { constant = pos 1; coefficients = pos 1 ∷ [] })) (pos 2 ∷ pos 1 ∷ []) (pos 2 ∷ pos 3 ∷ [])
halves_led = (record { width = refl; divisor = omega (arith, ints) }, λ j. refl)

-- a new variable may have any value, with the divisor of the point
embedded_led : LeadsPoint (embed 1) (pos 2 ∷ pos 1 ∷ []) (pos 2 ∷ pos 1 ∷ pos 5 ∷ [])
embedded_led = (record { width = refl; divisor = omega (arith, ints) }, refl)
