-- A gas burner: the time, how long it leaked in all, how long ago it last did, in seconds.
use Rattle.std.specs.Prelude.{ℕ, ℤ, pos, negsuc, List, [], ◌∷◌}
use Rattle.guzhtarel.specs.Domains.Actions.{Action, assign, test}
use Rattle.guzhtarel.specs.{Forms.Form.Form, Forms.Form.HoldsAt, Linear.ConKind.TheVariants.Ge}

-- constant + a*time + b*leak + c*pause
abbrev pub form : ℤ → ℤ → ℤ → ℤ → Form
form constant a b c = record { constant = constant; coefficients = a ∷ b ∷ c ∷ [] }

-- nothing has leaked yet, and it may at once
abbrev pub beginning : List Action
beginning =
    assign 0 (form (pos 0) (pos 0) (pos 0) (pos 0))
    ∷ assign 1 (form (pos 0) (pos 0) (pos 0) (pos 0))
    ∷ assign 2 (form (pos 30) (pos 0) (pos 0) (pos 0)) ∷ []

-- a second of leak, if the last is 30 seconds ago
abbrev pub leaking : List Action
leaking =
    test Ge (form (negsuc 29) (pos 0) (pos 0) (pos 1))
    ∷ assign 0 (form (pos 1) (pos 1) (pos 0) (pos 0))
    ∷ assign 1 (form (pos 1) (pos 0) (pos 1) (pos 0))
    ∷ assign 2 (form (pos 0) (pos 0) (pos 0) (pos 0)) ∷ []

-- a second without
abbrev pub pausing : List Action
pausing =
    assign 0 (form (pos 1) (pos 1) (pos 0) (pos 0))
    ∷ assign 2 (form (pos 1) (pos 0) (pos 0) (pos 1)) ∷ []

-- from a minute on, more than a twentieth of the time
abbrev pub too_much : List Action
too_much =
    test Ge (form (negsuc 59) (pos 1) (pos 0) (pos 0))
    ∷ test Ge (form (negsuc 0) (negsuc 0) (pos 20) (pos 0)) ∷ []
