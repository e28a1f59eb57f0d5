-- The iteration among others: whenever they may act, what they may do to stores is added.
use Rattle.std.specs.Prelude.{◌≡◌, ℕ, None, Some}
use Rattle.lra_domain.specs.Interference.{Interference, Absorbs}
use Rattle.lra_domain.specs.declared.Exactness.TheVariants.{Exact, Flagged}
use Rattle.lra_domain.specs.{Abstraction.Abstraction, Parts.CapsWithin, declared.Exactness.Exactness}
use Rattle.lra_analysis_spec.specs.Crates.lra_program.Program.{Program}
use Rattle.lra_operations.specs.Tree.{Node}
use Rattle.lra_analysis_spec.specs.Operations.{Operations, exact_operations, lossy_operations, straining_operations}
use Rattle.lra_analysis_spec.specs.Pass.{Absorption, PassResult, noted, PassUnder, Transformer}
use Rattle.lra_analysis_spec.specs.{Moves.AreMade, MovesOf.first_values, Plan.Plan}

-- exactly, as it is defined
abbrev pub absorbed_exactly : {V : Type 0} → Interference V → Absorption V
absorbed_exactly o v e w = (e ≡ Exact) × o.done v w

-- with drops, if it exceeds a limit; the result has the dimensions and the caps of the value
abbrev pub absorbed : {V H : Type 0} → Interference V → Abstraction V H → Absorption V
absorbed o m v e w = Absorbs o m v e w × (m.dims w ≡ m.dims v) × CapsWithin (m.capped v) (m.capped w)

-- flagged, with anything, if it exceeds a limit
abbrev pub absorbed_straining : {V : Type 0} → Interference V → Absorption V
absorbed_straining o v e w = (e ≡ Exact → o.done v w) × (e ≡ Flagged → o.strains v)

-- the pass among others of an iteration in which what exceeds a limit may have dropped something
abbrev pub LossyPass : {V H : Type 0} → Interference V → Abstraction V H → Plan → Node → Transformer V
LossyPass {V} {H} o m = PassUnder V H (lossy_operations m) (absorbed o m)

-- from the globals at their first values, which are set at the first point, through the tree
abbrev pub IterationUnder : {V H : Type 0} → Operations V H → Absorption V → Plan → Program → Node → PassResult V →
    Type 0
IterationUnder {V} {H} ops admission set P g r =
    (none first : V) × (e : Exactness) × ops.top 0 set.parts none ×
    AreMade ops (first_values 0 P.globals) none e first
    × PassUnder V H ops admission set g (noted 0 e None) first r

-- the written iteration, and one in which what exceeds a limit may have dropped something
abbrev pub ExactIterationUnder : {V H : Type 0} → Interference V → Abstraction V H → Plan → Program → Node →
    PassResult V → Type 0
ExactIterationUnder o m set P g r = IterationUnder (exact_operations m) (absorbed_exactly o) set P g r

abbrev pub LossyIterationUnder : {V H : Type 0} → Interference V → Abstraction V H → Plan → Program → Node →
    PassResult V → Type 0
LossyIterationUnder o m set P g r = IterationUnder (lossy_operations m) (absorbed o m) set P g r

-- an operation of this point, or others there, exceeds a limit on what the written iteration has there
abbrev pub StrainsUnder : {V H : Type 0} → Interference V → Abstraction V H → Plan → Program → Node → ℕ → Type 0
StrainsUnder {V} o m set P g q =
    (r : PassResult V) × IterationUnder (straining_operations m) (absorbed_straining o) set P g r ×
    (r.flag ≡ Some q)
