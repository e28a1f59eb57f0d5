-- Where the moves of conditions stand in a table.
use Rattle.std.specs.Prelude.{◌≡◌, ◌<◌, ℕ, Bool, true, false, List, ◌++◌, length}
use Rattle.lra_path_disjuncts.specs.Crates.lra_analysis_spec.MovesOf.{guard, in_turn}
use Rattle.lra_path_disjuncts.specs.Crates.lra_domain.Changes.{actions_of}
use Rattle.lra_path_disjuncts.specs.Crates.{lra_domain.Actions.Action, lra_domain.declared.changes.Change.Change}
use Rattle.lra_program.specs.Program.{Cond, both_of, either_of}
use Rattle.lra_program.specs.ProgramViews.{all_of, any_of}
use Rattle.lra_path_disjuncts.specs.{Tables.Has, declared.conditions.Both.Both, declared.tables.MovesEntry.MovesEntry}

-- both if the condition is true and if it is false
abbrev pub HasBoth : List MovesEntry → ℕ → ℕ → Cond → Both → Type 0
HasBoth es live base c b = Has es b.so (guard live base true c) × Has es b.not (guard live base false c)

abbrev pub AreIn : List MovesEntry → Both → Type 0
AreIn es b = (b.so < length es) × (b.not < length es)

-- the last of these changes are made, one after the other
abbrev pub IsTurned : List MovesEntry → ℕ → List Action → List Change → Type 0
IsTurned es place whole left = (more : List Action) × (whole ≡ actions_of left ++ more) × Has es place (in_turn more)

-- of `||`, or of `&&`
abbrev pub joined_conditions : Bool → Cond → Cond → Cond
joined_conditions true c d = either_of c d
joined_conditions false c d = both_of c d

abbrev pub chain_of : Bool → Cond → List Cond → Cond
chain_of true c cs = any_of c cs
chain_of false c cs = all_of c cs

-- whichever the two operands are
abbrev pub JoinsAlways : List MovesEntry → List MovesEntry → Bool → Both → Both → Both → Type 0
JoinsAlways es fs any one other b = (live base : ℕ) (c d : Cond) → HasBoth es live base c one →
    HasBoth es live base d other → HasBoth fs live base (joined_conditions any c d) b

-- the operand in front of whichever the later ones are
abbrev pub Prepends : List MovesEntry → List MovesEntry → ℕ → ℕ → Bool → Cond → Both → Both → Type 0
Prepends es fs live base any c later b = (d : Cond) → HasBoth es live base d later →
    HasBoth fs live base (joined_conditions any c d) b
