-- What a pass in code gives, as the result of a pass.
use Rattle.std.specs.List.{Contains}
use Rattle.std.specs.Prelude.{◌≡◌, ℕ, true, false, List, [], ◌∷◌, map, Option, None, Some, ⊤}
use Rattle.lra_pass_results.specs.Crates.lra_analysis_spec.Operations.{lossy_operations}
use Rattle.lra_pass_results.specs.Crates.lra_analysis_spec.Pass.{PassEntry, value, failing, recorded, PassResult, noted}
use Rattle.lra_pass_results.specs.Crates.lra_analysis_spec.Pass.{in_turn, jumps_of, values_behind, jumps_caught}
use Rattle.lra_pass_results.specs.Crates.lra_analysis_spec.Pass.{AreJoined, Filters, LoopRoundFrom, AscendingIteration}
use Rattle.lra_pass_results.specs.Crates.lra_analysis_spec.Thresholds.{loop_thresholds}
use Rattle.lra_pass_results.specs.Crates.{lra_analysis_spec.Live.live_after, lra_analysis_spec.Pass.DescendingIteration}
use Rattle.lra_pass_results.specs.Crates.{lra_analysis_spec.Plan.Plan, lra_analysis_spec.UnderInterference.LossyPass}
use Rattle.lra_pass_results.specs.Crates.{lra_domain.Abstraction.Abstraction, lra_domain.Interference.Interference}
use Rattle.lra_pass_results.specs.Crates.{lra_domain.declared.Exactness.Exactness, lra_program.Program.Cond}
use Rattle.lra_pass_results.specs.declared.outcome.PassEntry as entry
use Rattle.lra_pass_results.specs.declared.outcome.Entered.TheVariants.{Again, Anew}
use Rattle.lra_pass_results.specs.declared.outcome.PassEntry.TheVariants.{Value, Failing, Recorded}
use Rattle.lra_pass_results.specs.declared.outcome.PassFindings.{PassFindings}
use Rattle.lra_pass_results.specs.declared.outcome.PassOutcome.{PassOutcome}
use Rattle.lra_pass_results.specs.{Dimensions.JumpsWith, declared.outcome.Entered.Entered}
use Rattle.lra_pass_results.specs.{declared.outcome.LoopRound.LoopRound, declared.outcome.Running.Running}
use Rattle.lra_operations.specs.Tree.{Exit, Node}

abbrev pub entry_view : {V : Type 0} → entry.PassEntry V → PassEntry V
entry_view (Value q v) = value q v
entry_view (Failing q v) = failing q v
entry_view (Recorded q place v) = recorded q place v

-- what is found on the way, with this value and flag at its end
abbrev pub ended : {V : Type 0} → PassFindings V → V → Option ℕ → PassResult V
ended x v f = record {
  entries = map entry_view x.entries.items;
  normal = v;
  breaks = x.breaks.items;
  continues = x.continues.items;
  returns = x.returns.items;
  flag = f;
}

abbrev pub outcome_view : {V : Type 0} → PassOutcome V → PassResult V
outcome_view r = ended r.found r.normal r.flag

-- what a tree gave, as it runs on in a `switch`
abbrev pub running_on : {V : Type 0} → PassOutcome V → Running V
running_on r = record { found = r.found; normal = Some r.normal; flag = r.flag }

-- the value at a loop's point comes before what its body found
abbrev pub headed : {V : Type 0} → ℕ → V → PassResult V → PassResult V
headed q v s = record s { entries = value q v ∷ s.entries }

-- what the first two found, one after the other, is the third, whatever their ends
abbrev pub AreInTurn : {V : Type 0} → PassFindings V → PassFindings V → PassFindings V → Type 0
AreInTurn {V} x y z = (u v w : V) (d e f : Option ℕ) → ended z w f ≡ in_turn (ended x u d) (ended y v e) w f

-- each value has so many dimensions
abbrev pub AllHave : {V H : Type 0} → Abstraction V H → ℕ → List V → Type 0
AllHave m n [] = Unit {0}
AllHave m n (v ∷ vs) = (m.dims v ≡ n) × AllHave m n vs

-- the jumps of this kind come out and are joined at this point
abbrev pub Catches : {V H : Type 0} → Abstraction V H → ℕ → Exit → PassResult V → PassResult V → Type 0
Catches {V} m q k s r = (w : V) × (e : Exactness)
    × AreJoined (lossy_operations m) (values_behind k s).0 (values_behind k s).1 e w ×
    (r ≡ jumps_caught k s w (noted q e s.flag))

-- both branches of a choice, whose ends are joined at this point
abbrev pub AreBranchesJoined : {V H : Type 0} → Abstraction V H → ℕ → PassResult V → PassResult V → PassResult V →
    Type 0
AreBranchesJoined {V} m q s t r = (w : V) × (e : Exactness) × (lossy_operations m).joined s.normal t.normal e w ×
    (r ≡ in_turn s t w (noted q e t.flag))

-- each value with which the tree is left by a jump has as many dimensions as live there
abbrev pub JumpsFit : {V H : Type 0} → Abstraction V H → Node → ℕ → PassResult V → Type 0
JumpsFit {V} m g n r = (k : Exit) (u : V) → Contains (jumps_of k r) u → JumpsWith g n k (m.dims u)

-- a loop is left with the value at its head, what its last round found after it, and that value where the condition is
-- false
abbrev pub LeavesWith : {V H : Type 0} → Abstraction V H → ℕ → ℕ → Cond → V → PassResult V → PassResult V → Type 0
LeavesWith {V} m q base c top s r = (out : V) × (e : Exactness) × Filters (lossy_operations m) base c false top e out ×
    (r ≡ record (headed q top s) { normal = out; flag = noted q e s.flag })

-- a pass over the tree, after which, and at whose jumps, values have as many dimensions as live there
pub record IsPassed {V H : Type 0} (o : Interference V) (m : Abstraction V H) (set : Plan) (g : Node) (f : Option ℕ)
    (v : V)
    (r : PassResult V) : Type 0 where
  pub pass : LossyPass o m set g f v r
  pub dims : m.dims r.normal ≡ live_after g (m.dims v)
  pub jumps : JumpsFit m g (m.dims v) r

-- a loop's head that starts with a value grows until it is stable, with this value and round at last
abbrev pub HasGrown : {V H : Type 0} → Interference V → Abstraction V H → Plan → ℕ → ℕ → Cond → Node → V → Option ℕ →
    V →
    PassResult V → Type 0
HasGrown {V} {H} o m set q base c a first f u s =
    (h : H) × (later : List H)
    × (lossy_operations m).started first (loop_thresholds set.widening (m.dims first) base c a) h
    × AscendingIteration V H (lossy_operations m) q base c (LossyPass o m set a) set.widening set.delay f h later u s

-- the value at a stable head and its round, narrowed as often as the plan says
abbrev pub NarrowsTo : {V H : Type 0} → Interference V → Abstraction V H → Plan → ℕ → ℕ → Cond → Node → V → V →
    PassResult V → V →
    PassResult V → Type 0
NarrowsTo {V} {H} o m set q base c a first u s v r =
    DescendingIteration V H (lossy_operations m) q base c (LossyPass o m set a) set.narrow first u s v r

-- a result that may be given again for this value: that of a pass from it, whatever was flagged before that. If nothing
-- is flagged so far, nothing was flagged then
pub record IsKept {V H : Type 0} (o : Interference V) (m : Abstraction V H) (set : Plan) (g : Node) (f : Option ℕ)
    (v : V)
    (r : PassResult V) : Type 0 where
  pub before : Option ℕ
  pub passed : IsPassed o m set g before v r
  pub unflagged : f ≡ None → r.flag ≡ None

-- a kept round of a loop's body, if there is one, may be given again
abbrev pub AreKept : {V H : Type 0} → Interference V → Abstraction V H → Plan → Node → Option ℕ → Option (LoopRound V) →
    Type 0
AreKept o m set g f None = ⊤
AreKept o m set g f (Some turn) = IsKept o m set g f turn.entered (outcome_view turn.outcome)

-- a turn that is given, if one is, is that of a pass from this value
abbrev pub AreGiven : {V H : Type 0} → Interference V → Abstraction V H → Plan → Node → Option ℕ → V →
    Option (LoopRound V) → Type 0
AreGiven o m set g f v None = ⊤
AreGiven o m set g f v (Some turn) = (turn.entered ≡ v) × IsPassed o m set g f v (outcome_view turn.outcome)

-- what enters a body with this value: a turn that was kept, or the value
abbrev pub EntersWith : {V H : Type 0} → Interference V → Abstraction V H → Plan → Node → Option ℕ → V → Entered V →
    Type 0
EntersWith o m set g f v (Again turn) = (turn.entered ≡ v) × IsPassed o m set g f v (outcome_view turn.outcome)
EntersWith o m set g f v (Anew entered on inside) = (entered ≡ v) × (on ≡ v) × (inside ≡ f)

-- once round a loop from this value at its head: what entered the body, and what its pass gave
pub record IsLoopRound {V H : Type 0} (o : Interference V) (m : Abstraction V H) (set : Plan) (q base : ℕ) (c : Cond)
    (a : Node)
    (f : Option ℕ) (v : V) (turn : LoopRound V) : Type 0 where
  pub round : LoopRoundFrom V H (lossy_operations m) q base c (LossyPass o m set a) f v
      (headed q v (outcome_view turn.outcome))
  pub dims : m.dims turn.outcome.normal ≡ m.dims v
  pub jumps : JumpsFit m a (m.dims v) (outcome_view turn.outcome)
  pub kept : IsKept o m set a turn.outcome.flag turn.entered (outcome_view turn.outcome)

-- what comes into a loop's body from this value at its head: a turn that was kept, or what the condition leaves
abbrev pub IsEntered : {V H : Type 0} → Interference V → Abstraction V H → Plan → ℕ → ℕ → Cond → Node → Option ℕ → V →
    Entered V → Type 0
IsEntered o m set q base c a f v (Again turn) =
    (e : Exactness) × Filters (lossy_operations m) base c true v e turn.entered ×
    IsPassed o m set a (noted q e f) turn.entered (outcome_view turn.outcome) × (m.dims turn.entered ≡ m.dims v)
IsEntered o m set q base c a f v (Anew entered on inside) =
    (e : Exactness) × Filters (lossy_operations m) base c true v e on ×
    (inside ≡ noted q e f) × (m.dims on ≡ m.dims v) × (entered ≡ on)
