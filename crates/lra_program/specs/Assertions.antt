-- The assertions among a program's points.
use Rattle.std.specs.Prelude.{◌≡◌, ℕ, suc, List, [], ◌∷◌, Some, slice_get, IsTrue, if◌then◌else◌}
use Rattle.lra_program.specs.Sites.{Site}

-- the point of this number, from 0, is an assertion
abbrev pub IsAssertion : List Site → ℕ → Type 0
IsAssertion sites q = (s : Site) × (slice_get sites q ≡ Some s) × IsTrue s.asserts

-- the assertions among these sites, with their numbers
abbrev pub assertions_from : ℕ → List Site → List (ℕ × Site)
assertions_from number [] = []
assertions_from number (s ∷ ss) = if s.asserts then (number, s) ∷ assertions_from (suc number) ss
    else assertions_from (suc number) ss
