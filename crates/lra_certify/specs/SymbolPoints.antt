-- From values of a path's symbols back to points.
use Rattle.std.specs.Prelude.{◌≡◌, ℕ, suc, ℤ, List, ◌∷◌, length, take, Ok, map}
use Rattle.lra_certify.specs.Crates.lra_linear_spec.Vectors.{entry, product}
use Rattle.lra_certify.specs.Crates.lra_multipliers.Symbols.{SymbolicState, width_of, executed_path}
use Rattle.lra_certify.specs.Crates.{lra_domain.Actions.Action, lra_linear_spec.Descriptions.Con}
use Rattle.lra_certify.specs.PointMoves.{PointLeadsAll}

-- if the tests hold
abbrev pub SymbolsGivePoints : Type 0
SymbolsGivePoints = (live : ℕ) (steps : List Action) (w : SymbolicState) (u : List ℤ) →
    executed_path live steps ≡ Ok w →
    length u ≡ width_of live steps → Con w.tests u →
    PointLeadsAll steps (take (suc live) u) (entry u 0 ∷ map (λ f. product f u) w.forms)
