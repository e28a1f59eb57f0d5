-- Lists gone through place by place.
use Rattle.std.proofs.Common.{◌≡◌, ℤ, Bool, List, [], ◌∷◌, length, ap, refl, arith}
use Rattle.std.specs.{List.list_any, Prelude.◌||◌}
use Rattle.lra_linear_spec.specs.Descriptions.{LinearRow}
use Rattle.lra_poly_domain.specs.Crates.lra_systems.LinearSystems.{rows_by_kind}

-- a test of the rows alone
pub any_given : {K : Type 0} (equal : K → Bool) (f : List ℤ → Bool) (rows : List (List ℤ)) (kinds : List K) → length kinds ≡ length rows →
    list_any f rows ≡ list_any (λ (g : LinearRow). f g.row) (rows_by_kind equal rows kinds)
any_given equal f [] kinds e = refl
any_given equal f (r ∷ rows) [] e = let wrong : ⊥ = cc in absurd wrong
any_given equal f (r ∷ rows) (k ∷ kinds) e = ap (λ (b : Bool). f r || b) (any_given equal f rows kinds (omega (arith, e)))
