-- The abstract domains: which there are, their names in words and in reports, and what is reported about their parts.
use Rattle.std.specs.Prelude.{ℕ, List, [], ◌∷◌, Bool, true, false, codes}
use Rattle.lra_options.specs.declared.options.Domain.{Domain}
use Rattle.lra_options.specs.declared.options.Domain.TheVariants.{Poly, Box, Oct}

-- in the order in which words offer them
abbrev pub domains : List Domain
domains = Poly ∷ Box ∷ Oct ∷ []

abbrev pub domain_name : Domain → List ℕ
domain_name Poly = codes "poly"
domain_name Box = codes "box"
domain_name Oct = codes "oct"

-- a part is given by its generators too
abbrev pub shows_generators : Domain → Bool
shows_generators Poly = true
shows_generators Box = false
shows_generators Oct = false

-- a loop's head can stop at rows that are given to it
abbrev pub supports_thresholds : Domain → Bool
supports_thresholds Poly = true
supports_thresholds Box = false
supports_thresholds Oct = false
