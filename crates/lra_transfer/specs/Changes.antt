-- Changes of values, in the derivation with drops.
use Rattle.std.specs.Prelude.{◌≡◌, ℕ, ◌+◌, ◌<◌, ◌≤◌, ⊤, length, Option, None, Some}
use Rattle.lra_transfer.specs.Crates.lra_domain.Actions.{Action, dims_after}
use Rattle.lra_transfer.specs.Crates.{lra_analysis_spec.LiveLimit.most_live, lra_analysis_spec.Moves.AreMade}
use Rattle.lra_transfer.specs.Crates.{lra_analysis_spec.Operations.lossy_operations, lra_analysis_spec.Pass.OpTransfer}
use Rattle.lra_transfer.specs.Crates.{lra_domain.Abstraction.Abstraction, lra_domain.Changes.CanBeMade}
use Rattle.lra_transfer.specs.Crates.{lra_domain.Moves.Moves, lra_domain.declared.Exactness.Exactness}
use Rattle.lra_program.specs.Step.{Op, append, fill, store_value, store_element, havoc, push, push_for, truncate_to}
use Rattle.lra_program.specs.declared.receivers.Cell.TheVariants.{Variable, Waiting}
use Rattle.lra_program.specs.{Step.test, declared.receivers.Cell.Cell, declared.receivers.Target.Target}

-- the moves lead from the first value to the second one, with this exactness
abbrev pub Does : {V H : Type 0} → Abstraction V H → Moves → V → Exactness → V → Type 0
Does m moves v e w = AreMade (lossy_operations m) moves v e w

-- an operation leads from the first value to the second, with this exactness
abbrev pub OpTransfersTo : {V H : Type 0} → Abstraction V H → Op → V → Exactness → V → Type 0
OpTransfersTo m op v e w = OpTransfer (lossy_operations m) op v e w

-- an action that can be made of a value of so many dimensions, and leaves as many
abbrev pub Stays : Action → ℕ → Type 0
Stays step n = CanBeMade step n × (dims_after step n ≡ n)

-- if a variable is set, it is one of so many
abbrev pub CellFits : Cell → ℕ → Type 0
CellFits (Variable x) n = x < n
CellFits (Waiting p) n = ⊤

abbrev pub PlaceFits : Option Target → ℕ → Type 0
PlaceFits None n = ⊤
PlaceFits (Some t) n = CellFits t.cell n

-- the change can be made of a store of so many variables, and leaves no more than may live
abbrev pub OpFitsDims : Op → ℕ → Type 0
OpFitsDims (append t) n = n < most_live
OpFitsDims (fill a) n = ⊤
OpFitsDims (store_value base x e) n = PlaceFits x.target n
OpFitsDims (store_element base x e) n = ⊤
OpFitsDims (havoc x) n = PlaceFits x.target n
OpFitsDims (push base given) n = n + length given ≤ most_live
OpFitsDims (push_for base x given) n = n + length given ≤ most_live
OpFitsDims (truncate_to k) n = ⊤
OpFitsDims (test base c wanted) n = ⊤
