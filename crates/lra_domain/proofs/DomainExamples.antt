-- Worked examples of changes, rows and ranks.
use Rattle.std.specs.Prelude.{pos, negsuc, [], ◌∷◌, refl}
use Rattle.std.proofs.Common.{inr, inl, lit<}
use Rattle.lra_domain.specs.{Actions.Leads, Actions.assign, Actions.embed, Actions.remove_last, Rank.RankBelow}
use Rattle.lra_domain.specs.Crates.lra_linear_spec.Descriptions.{Holds, equality}

-- y = x + 1 at x = 4, y = 0
pub assign_example : Leads (assign 1 (record { constant = pos 1; coefficients = pos 1 ∷ pos 0 ∷ [] }))
    (pos 4 ∷ pos 0 ∷ []) (pos 4 ∷ pos 5 ∷ [])
assign_example = refl

-- the last variable goes
pub remove_example : Leads (remove_last 1) (pos 4 ∷ pos 5 ∷ []) (pos 4 ∷ [])
remove_example = refl

-- a new variable comes last, with any number
pub embed_example : Leads (embed 1) (pos 4 ∷ []) (pos 4 ∷ negsuc 6 ∷ [])
embed_example = (negsuc 6 ∷ [], refl, refl)

-- 4 - x = 0 holds at x = 4
pub row_example : Holds (equality (pos 4 ∷ negsuc 0 ∷ [])) (pos 1 ∷ pos 4 ∷ [])
row_example = refl

-- an earlier number decides
pub rank_example : RankBelow (record { first = 1; second = 2; third = 9; fourth = 9 })
    (record { first = 1; second = 3; third = 0; fourth = 0 })
rank_example = inr (inl (refl, lit< tt))
