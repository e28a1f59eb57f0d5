-- Goals of `empty_table`: a table of so many empty places.
use Rattle.std.proofs.Common.{◌≡◌, ◌+◌, ◌∷◌, ◌++◌, [], ℕ, suc, List, Option, None, ap, ◌∙◌, arith}
use Rattle.std.specs.Prelude.{replicate}
use Rattle.lra_fixpoint.proofs.Tabled.{replicate_push}
use Rattle.lra_fixpoint.proofs.tables.empty_table.Goals as goal

pub places-preserved : goal.places-preserved
places-preserved g c =
    let one : suc c.places._place ≡ c.places._place + 1 = omega arith in
    c.in_ok-push.ensures.items ∙ ap (λ (places : List (Option g.row.T.Denot)). places ++ None ∷ []) c.places.invariant
    ∙ replicate_push {A = Option g.row.T.Denot} c.places._place None
    ∙ ap (λ (n : ℕ). replicate {A = Option g.row.T.Denot} n None) one
