-- Both sides of a condition at once, each with the exactness of what led to it.
use Rattle.std.specs.Prelude.{◌≡◌, ℕ, Bool, not, List, [], ◌∷◌}
use Rattle.lra_transfer.specs.Crates.lra_analysis_spec.Operations.{lossy_operations}
use Rattle.lra_transfer.specs.Crates.lra_domain.Abstraction.{Abstraction, worse}
use Rattle.lra_transfer.specs.Crates.{lra_analysis_spec.Moves.Takes, lra_analysis_spec.MovesOf.guard}
use Rattle.lra_transfer.specs.Crates.{lra_domain.Moves.Moves, lra_domain.declared.Exactness.Exactness}
use Rattle.lra_program.specs.Program.{Cond}
use Rattle.lra_linearize.specs.Conditions.{either_of}
use Rattle.lra_transfer.specs.{declared.splits.ConditionSplit.ConditionSplit, declared.splits.Kept.Kept}

-- the moves lead from the one to the other, each with the exactness of what led to it
abbrev pub TakesTo : {V H : Type 0} → Abstraction V H → Moves → Kept V → Kept V → Type 0
TakesTo m moves from to = Takes (lossy_operations m) moves from.value from.exactness to.value to.exactness

-- from this the one moves lead to the one side, and the others to the other one, over so many live variables
pub record Splits {V H : Type 0} (m : Abstraction V H) (yes no : ℕ → Moves) (from : Kept V)
    (sides : ConditionSplit V) : Type 0 where
  pub on : TakesTo m (yes (m.dims from.value)) from sides.on
  pub off : TakesTo m (no (m.dims from.value)) from sides.off
  pub on_dims : m.dims sides.on.value ≡ m.dims from.value
  pub off_dims : m.dims sides.off.value ≡ m.dims from.value

-- a condition, as wanted and not so
abbrev pub SplitsBy : {V H : Type 0} → Abstraction V H → ℕ → Bool → Cond → Kept V → ConditionSplit V → Type 0
SplitsBy m base wanted c from sides =
    Splits m (λ n. guard n base wanted c) (λ n. guard n base (not wanted) c) from sides

-- the first joined with the second
pub record AreJoinedTo {V H : Type 0} (m : Abstraction V H) (one two joined : Kept V) : Type 0 where
  pub is_joined : (e : Exactness) × (lossy_operations m).joined one.value two.value e joined.value ×
      (joined.exactness ≡ worse (worse one.exactness two.exactness) e)
  pub same_dims : m.dims joined.value ≡ m.dims one.value

-- each of them joined with what those after it give, the last with this one
abbrev pub AreJoinedBack : {V H : Type 0} → Abstraction V H → List (Kept V) → Kept V → Kept V → Type 0
AreJoinedBack m [] last joined = joined ≡ last
AreJoinedBack {V} m (one ∷ more) last joined = (behind : Kept V) × AreJoinedBack m more last behind ×
    AreJoinedTo m one behind joined

-- each value has so many dimensions
abbrev pub AllKeptHave : {V H : Type 0} → Abstraction V H → ℕ → List (Kept V) → Type 0
AllKeptHave m n [] = Unit {0}
AllKeptHave m n (one ∷ more) = (m.dims one.value ≡ n) × AllKeptHave m n more

-- a chain of which one operand is to be so, and of which some are divided: what the next one and those after it leave
-- of what is left, joined with what the divided ones left, is what the whole chain leaves
pub record IsEitherSoFar {V H : Type 0} (m : Abstraction V H) (base : ℕ) (wanted : Bool) (c : Cond) (cs : List Cond)
    (from : Kept V) (lefts : List (Kept V)) (off : Kept V) (d : Cond) (ds : List Cond) : Type 0 where
  pub whole : (right joined : Kept V) → TakesTo m (either_of (m.dims off.value) base wanted d ds) off right →
      AreJoinedBack m lefts right joined → TakesTo m (either_of (m.dims from.value) base wanted c cs) from joined
  pub have : AllKeptHave m (m.dims from.value) lefts
  pub same : m.dims off.value ≡ m.dims from.value
