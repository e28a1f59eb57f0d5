-- The least changes that a set is asked for.
use Rattle.std.specs.Prelude.{◌≡◌, ◌≤◌, ◌<◌, ◌+◌, ◌^◌, ℕ, length}
use Rattle.lra_domain.specs.Actions.{Action, assign, forget, test, embed, remove_last}
use Rattle.lra_powerset.specs.declared.changes.BorrowedChange.{BorrowedChange}
use Rattle.lra_powerset.specs.declared.changes.BorrowedChange.TheVariants.{Assign, Forget, Test, Embed, RemoveLast}

abbrev pub borrowed_action : BorrowedChange → Action
borrowed_action (Assign x e) = assign x e.now
borrowed_action (Forget x) = forget x
borrowed_action (Test t) = test t.now.kind t.now.expr
borrowed_action (Embed k) = embed k
borrowed_action (RemoveLast k) = remove_last k

-- the change is one of values of n dimensions
abbrev pub ChangeFits : BorrowedChange → ℕ → Type 0
ChangeFits (Assign x e) n = (x < n) × (length e.now.coefficients ≡ n)
ChangeFits (Forget x) n = x < n
ChangeFits (Test t) n = length t.now.expr.coefficients ≡ n
ChangeFits (Embed k) n = n + k ≤ 2 ^ 30
ChangeFits (RemoveLast k) n = k ≤ n
