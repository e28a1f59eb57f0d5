-- Changes that are kept as values: the action that each is, of which values it can be made, and lists of them.
use Rattle.std.specs.Prelude.{◌≡◌, ◌≤◌, ◌<◌, ◌^◌, ℕ, ◌+◌, List, [], ◌∷◌, length, map}
use Rattle.lra_domain.specs.Abstraction.{Abstraction, TransfersTo, worse}
use Rattle.lra_domain.specs.Actions.{Action, assign, forget, test, embed, remove_last, dims_after}
use Rattle.lra_domain.specs.declared.changes.Change.TheVariants.{Assign, Forget, Test, Embed, RemoveLast}
use Rattle.lra_domain.specs.{declared.Exactness.Exactness, declared.changes.Change.Change}
use Rattle.lra_domain.specs.declared.Exactness.TheVariants as exactness

abbrev pub action_of : Change → Action
action_of (Assign x e) = assign x e
action_of (Forget x) = forget x
action_of (Test t) = test t.kind t.expr
action_of (Embed k) = embed k
action_of (RemoveLast k) = remove_last k

-- the action can be made of a value of n dimensions: it fits, and leaves at most 2^30 if it appends some
abbrev pub CanBeMade : Action → ℕ → Type 0
CanBeMade (assign x e) n = (x < n) × (length e.coefficients ≡ n)
CanBeMade (forget x) n = x < n
CanBeMade (test kind e) n = length e.coefficients ≡ n
CanBeMade (embed k) n = n + k ≤ 2 ^ 30
CanBeMade (remove_last k) n = k ≤ n

-- lists of them, one after the other -----------------------------------------------------------------------------

abbrev pub actions_of : List Change → List Action
actions_of changes = map action_of changes

-- how many dimensions there are after all of them
abbrev pub dims_after_actions : List Action → ℕ → ℕ
dims_after_actions [] n = n
dims_after_actions (step ∷ steps) n = dims_after_actions steps (dims_after step n)

abbrev pub AllCanBeMade : List Action → ℕ → Type 0
AllCanBeMade [] n = Unit {0}
AllCanBeMade (step ∷ steps) n = CanBeMade step n × AllCanBeMade steps (dims_after step n)

-- from the old value to the new one, flagged if one of them is
abbrev pub TransfersAllTo : {V H : Type 0} → Abstraction V H → List Action → V → Exactness → V → Type 0
TransfersAllTo m [] old a new = (new ≡ old) × (a ≡ exactness.Exact)
TransfersAllTo {V} m (step ∷ steps) old a new =
    (between : V) × (b c : Exactness) × TransfersTo m step old b between × TransfersAllTo m steps between c new
    × (a ≡ worse b c)

-- systems of steps, each of them a list of changes ----------------------------------------------------------------

abbrev pub actions_of_steps : List (List Change) → List (List Action)
actions_of_steps steps = map actions_of steps

-- each step can be made of a value of n dimensions, and leaves as many
abbrev pub AllReturn : ℕ → List (List Action) → Type 0
AllReturn n [] = Unit {0}
AllReturn n (way ∷ more) = AllCanBeMade way n × (dims_after_actions way n ≡ n) × AllReturn n more
