-- Lists of rows of one kind, at a point.
use Rattle.std.proofs.Common.{List, [], ◌∷◌, ◌++◌, length, replicate, ◌↔◌, ℤ}
use Rattle.guzhtarel.specs.Crates.{lra_linear_spec.Descriptions.LinearRow, lra_linear_spec.Descriptions.Con, lra_linear_spec.Kinds.is_equality, lra_linear_spec.declared.ConKind.ConKind}
use Rattle.lra_linear_spec.proofs.Descriptions.{con_none, con_cons, con_head, con_tail}
use Rattle.lra_systems.specs.LinearSystems.{rows_by_kind}
use Rattle.guzhtarel.specs.Entries.{AllHold}

pub rows_hold : (kind : ConKind) (rows : List (List ℤ)) (x : List ℤ) →
    Con (rows_by_kind is_equality rows (replicate (length rows) kind)) x ↔ AllHold kind rows x
rows_hold kind [] x = (λ h. tt, λ h. con_none x)
rows_hold kind (r ∷ rows) x =
    let e = rows_hold kind rows x in
    let first : LinearRow = record { row = r; equal = is_equality kind } in
    let later = rows_by_kind is_equality rows (replicate (length rows) kind) in
    (λ h. (con_head first later x h, e.0 (con_tail first later x h)), λ h. con_cons first later x h.0 (e.1 h.1))

pub hold_append : (kind : ConKind) (xs ys : List (List ℤ)) (x : List ℤ) → AllHold kind (xs ++ ys) x ↔ (AllHold kind xs x × AllHold kind ys x)
hold_append kind [] ys x = (λ h. (tt, h), λ h. h.1)
hold_append kind (r ∷ rows) ys x = let e = hold_append kind rows ys x in (λ h. ((h.0, (e.0 h.1).0), (e.0 h.1).1), λ h. (h.0.0, e.1 (h.0.1, h.1)))
