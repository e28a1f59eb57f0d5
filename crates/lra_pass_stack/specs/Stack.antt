-- What must hold when a pass is under way along a list of open places: in each of them a tree is under way, and with
-- that the pass of the place's own tree is to be made.
use Rattle.std.specs.List.{Contains}
use Rattle.std.specs.Prelude.{◌≡◌, ℕ, ◌≤◌, Bool, true, false, List, [], ◌∷◌, map, Option, None, Some, ⊤}
use Rattle.lra_pass_stack.specs.Crates.lra_analysis_spec.Linearization.{linearized}
use Rattle.lra_pass_stack.specs.Crates.lra_analysis_spec.Operations.{lossy_operations}
use Rattle.lra_pass_stack.specs.Crates.lra_analysis_spec.Pass.{Filters, PassResult, noted, in_turn, jumps_of}
use Rattle.lra_pass_stack.specs.Crates.lra_analysis_spec.Pass.{AscendingIteration, DescendingIteration, ArmsPassUnder}
use Rattle.lra_pass_stack.specs.Crates.lra_analysis_spec.Pass.{MatchesNone, Enters, JoinsRunning, ComesOut, RunsFrom}
use Rattle.lra_pass_stack.specs.Crates.lra_analysis_spec.UnderInterference.{absorbed, LossyPass}
use Rattle.lra_pass_stack.specs.Crates.lra_domain.Abstraction.{Abstraction, worse}
use Rattle.lra_pass_stack.specs.Crates.lra_domain.Interference.{Interference}
use Rattle.lra_pass_stack.specs.Crates.lra_program.Program.{Expr, Cond}
use Rattle.lra_pass_stack.specs.Crates.lra_program.ProgramViews.{cond_view, expr_view}
use Rattle.lra_pass_stack.specs.Crates.{lra_analysis_spec.LiveLimit.most_live, lra_analysis_spec.Plan.Plan}
use Rattle.lra_pass_stack.specs.Crates.{lra_base.declared.case_labels.CaseLabel.CaseLabel, lra_domain.Rank.RankFits}
use Rattle.lra_pass_stack.specs.Crates.{lra_domain.declared.Exactness.Exactness, lra_transfer.declared.splits.Kept.Kept}
use Rattle.lra_operations.specs.Tree.{Exit, Node, seq, choose, iterate, catch, Arms, arm}
use Rattle.lra_operations.specs.TreeViews.{exit_view, node_view, row, arm_view, arms_of}
use Rattle.lra_pass_results.specs.LoopCache.{ArmsHaveLoops, HasLoops, MayRecall, Remembers, StaysKept}
use Rattle.lra_pass_results.specs.Outcome.{ended, headed, outcome_view, AreKept, HasGrown, IsKept, IsPassed}
use Rattle.lra_pass_results.specs.Outcome.{IsLoopRound, JumpsFit, NarrowsTo}
use Rattle.lra_pass_results.specs.{Dimensions.ArmsFit, Dimensions.ArmsJumpWith, Dimensions.TreeFits, Heads.IsValued}
use Rattle.lra_pass_results.specs.{declared.heads.Growing.Growing, declared.loop_cache.LoopCache.LoopCache}
use Rattle.lra_pass_results.specs.{declared.outcome.HeadRound.HeadRound, declared.outcome.LoopRound.LoopRound}
use Rattle.lra_pass_results.specs.{declared.outcome.PassFindings.PassFindings, declared.outcome.PassOutcome.PassOutcome}
use Rattle.lra_pass_results.specs.{declared.outcome.Running.Running, declared.tree_forms.Loop.Loop}
use Rattle.lra_pass_stack.specs.declared.stack.NarrowingFrame.{NarrowingFrame}
use Rattle.lra_pass_stack.specs.declared.stack.Next.TheVariants.{Passed, Opens, Again}
use Rattle.lra_pass_stack.specs.declared.stack.PassFrame.TheVariants.{Row, Last, Choice, Branch, Growing as GrowingAt}
use Rattle.lra_pass_stack.specs.declared.stack.PassFrame.TheVariants.{Narrowing as NarrowingAt, Catch, Select}
use Rattle.lra_pass_stack.specs.declared.stack.Step.TheVariants.{Ended, Goes}
use Rattle.lra_pass_stack.specs.{declared.stack.BranchFrame.BranchFrame, declared.stack.ChoiceFrame.ChoiceFrame}
use Rattle.lra_pass_stack.specs.{declared.stack.Entering.Entering, declared.stack.GrowingFrame.GrowingFrame}
use Rattle.lra_pass_stack.specs.{declared.stack.Narrowing.Narrowing, declared.stack.RowFrame.RowFrame}
use Rattle.lra_pass_stack.specs.{declared.stack.SelectFrame.SelectFrame, declared.stack.Selecting.Selecting}
use Rattle.lra_pass_stack.specs.declared.stack.Next as next
use Rattle.lra_pass_stack.specs.declared.stack.PassFrame as place
use Rattle.lra_pass_stack.specs.declared.stack.Step as step

-- a pass that is due: of this tree, from this value, after what is flagged so far and with what is kept
pub record PassTask (V : Type 0) : Type 0 where
  pub tree : Node
  pub value : V
  pub flag : Option ℕ
  pub memory : LoopCache V

abbrev pub pass_task : {V : Type 0} → Entering V → LoopCache V → PassTask V
pass_task e memory = record { tree = node_view e.node.now; value = e.value; flag = e.flag; memory = memory }

-- trees one after the other: what comes after what was found so far fits, and whatever its pass finds comes after,
-- as a pass of the whole
pub record RowLoop {V H : Type 0} (o : Interference V) (m : Abstraction V H) (set : Plan) (g : Node) (f : Option ℕ)
    (v : V)
    (rest : Node) (found : PassFindings V) (behind : V) (so_far : Option ℕ) (old memory : LoopCache V) : Type 0 where
  pub few : m.dims behind ≤ most_live
  pub fits : TreeFits rest (m.dims behind)
  pub stays : (loops : ℕ → Node) → HasLoops loops g → MayRecall o m set loops f old → HasLoops loops rest ×
      MayRecall o m set loops so_far memory
  pub passes : (t : PassResult V) → IsPassed o m set rest so_far behind t →
      IsPassed o m set g f v (in_turn (ended found behind so_far) t t.normal t.flag)

-- the head grew from the first value: however it grows on, it is a growth of that; the last turn may be given again
pub record GrowLoop {V H : Type 0} (o : Interference V) (m : Abstraction V H) (set : Plan) (q base : ℕ) (c : Cond)
    (a : Node)
    (first : V) (f : Option ℕ) (left : ℕ) (so_far : Option ℕ) (head : H)
    (turn : Option (LoopRound V)) (old memory : LoopCache V) : Type 0 where
  pub dims : m.head_dims head ≡ m.dims first
  pub fits : RankFits (m.rank head)
  pub kept : AreKept o m set a so_far turn
  pub stays : StaysKept o m set a f old so_far memory
  pub grows : (later : List H) (v : V) (r : PassResult V) →
      AscendingIteration V H (lossy_operations m) q base c (LossyPass o m set a) set.widening left so_far head later v
      r →
      HasGrown o m set q base c a first f v r

-- so it did up to this head, whose value is there
pub record HeadLoop {V H : Type 0} (o : Interference V) (m : Abstraction V H) (set : Plan) (q base : ℕ) (c : Cond)
    (a : Node)
    (first : V) (f : Option ℕ) (growing : Growing V H) (turn : Option (LoopRound V)) (old memory : LoopCache V) : Type 0
  where
    pub so_far : Option ℕ
    pub valued : IsValued m q so_far growing.head growing.value growing.flag
    pub loop : GrowLoop o m set q base c a first f growing.left so_far growing.head turn old memory

-- what is narrowed on is a narrowing from the round with which the head was stable; `entered` came into the body last
pub record NarrowLoop {V H : Type 0} (o : Interference V) (m : Abstraction V H) (set : Plan) (q base : ℕ) (c : Cond)
    (a : Node)
    (first start : V) (round : PassResult V) (left : ℕ) (top entered : V) (last : PassResult V)
    (old memory : LoopCache V) : Type 0 where
  pub dims : m.dims top ≡ m.dims first
  pub behind : m.dims last.normal ≡ m.dims first
  pub jumps : JumpsFit m a (m.dims first) last
  pub kept : IsKept o m set a last.flag entered last
  pub stays : StaysKept o m set a round.flag old last.flag memory
  pub narrows : (v : V) (r : PassResult V) →
      DescendingIteration V H (lossy_operations m) q base c (LossyPass o m set a) left first top
      (headed q top last) v r → NarrowsTo o m set q base c a first start (headed q start round) v r

-- if something runs in a `switch`, it has so many dimensions
abbrev pub RunHas : {V H : Type 0} → Abstraction V H → ℕ → Option V → Type 0
RunHas m n None = ⊤
RunHas m n (Some v) = m.dims v ≡ n

-- each value with which arms are left by a jump has as many dimensions as live there
abbrev pub ArmJumpsFit : {V H : Type 0} → Abstraction V H → Arms → ℕ → PassResult V → Type 0
ArmJumpsFit {V} m arms n r = (k : Exit) (u : V) → Contains (jumps_of k r) u → ArmsJumpWith arms n k (m.dims u)

-- the arms of a `switch` at point q: whatever those that are left find, from what runs there, comes after what was
-- found so far, as a pass of the whole
pub record SelectLoop {V H : Type 0} (o : Interference V) (m : Abstraction V H) (set : Plan) (g : Node) (f : Option ℕ)
    (v : V)
    (q base : ℕ) (e : Expr) (has_default : Bool) (other : V) (arms : Arms) (found : PassFindings V) (running : Option V)
    (so_far : Option ℕ) (old memory : LoopCache V) : Type 0 where
  pub few : m.dims v ≤ most_live
  pub other_dims : m.dims other ≡ m.dims v
  pub running_dims : RunHas m (m.dims v) running
  pub fits : ArmsFit arms (m.dims v)
  pub stays : (loops : ℕ → Node) → HasLoops loops g → MayRecall o m set loops f old → ArmsHaveLoops loops arms ×
      MayRecall o m set loops so_far memory
  pub passes : (t : PassResult V) →
      ArmsPassUnder V H (lossy_operations m) (absorbed o m) set q base e has_default v other arms so_far running t →
      m.dims t.normal ≡ m.dims v → ArmJumpsFit m arms (m.dims v) t →
      IsPassed o m set g f v (in_turn (ended found v so_far) t t.normal t.flag)

-- after what led to v with this exactness, what is left of it if none of the labels is the expression's value
abbrev pub NoneSoFar : {V H : Type 0} → Abstraction V H → ℕ → Expr → List CaseLabel → V → Exactness → V → Exactness →
    Type 0
NoneSoFar m base e labels v before w all = (x : Exactness) × MatchesNone (lossy_operations m) base e labels v x w ×
    (all ≡ worse before x)

-- what came in at a label joins what ran before
pub record JoinsAt {V H : Type 0} (m : Abstraction V H) (q : ℕ) (entered : Kept V) (old new : Running V) : Type 0 where
  pub runs : V
  pub exactness : Exactness
  pub joins : JoinsRunning (lossy_operations m) old.normal entered.value exactness runs
  pub normal : new.normal ≡ Some runs
  pub flag : new.flag ≡ noted q exactness (noted q entered.exactness old.flag)
  pub found : new.found ≡ old.found
  pub dims : m.dims runs ≡ m.dims entered.value

-- what comes in at a label from v, joined to what ran there before
pub record EntersAt {V H : Type 0} (m : Abstraction V H) (q base : ℕ) (e : Expr) (l : CaseLabel) (v other : V)
    (old new : Running V) : Type 0 where
  pub entered : V
  pub runs : V
  pub entered_exactness : Exactness
  pub joined_exactness : Exactness
  pub enters : Enters (lossy_operations m) base e l v other entered_exactness entered
  pub joins : JoinsRunning (lossy_operations m) old.normal entered joined_exactness runs
  pub normal : new.normal ≡ Some runs
  pub flag : new.flag ≡ noted q joined_exactness (noted q entered_exactness old.flag)
  pub found : new.found ≡ old.found
  pub dims : m.dims runs ≡ m.dims v

-- what comes out after the last arm
pub record ComesOutAt {V H : Type 0} (m : Abstraction V H) (q : ℕ) (has_default : Bool) (other : V) (old : Running V)
    (r : PassOutcome V) : Type 0 where
  pub exactness : Exactness
  pub out : ComesOut (lossy_operations m) has_default old.normal other exactness r.normal
  pub flag : r.flag ≡ noted q exactness old.flag
  pub found : r.found ≡ old.found
  pub dims : m.dims r.normal ≡ m.dims other

module _ {V H : Type 0} (o : Interference V) (m : Abstraction V H) (set : Plan) where
  -- the pass can be made
  pub record MayBePassed (d : PassTask V) : Type 0 where
    pub few : m.dims d.value ≤ most_live
    pub fits : TreeFits d.tree (m.dims d.value)
    pub remembers : Remembers o m set d.tree d.flag d.memory

  -- it is made, with this result; this is kept then
  pub record IsMade (d : PassTask V) (r : PassResult V) (memory : LoopCache V) : Type 0 where
    pub passed : IsPassed o m set d.tree d.flag d.value r
    pub stays : StaysKept o m set d.tree d.flag d.memory r.flag memory

  -- a row of trees of which one is under way
  pub record IsRow (r : RowFrame V) (whole part : PassTask V) : Type 0 where
    pub plan : r.behind.plan.now ≡ set
    pub loop : RowLoop o m set whole.tree whole.flag whole.value
        (seq part.tree (row (map node_view r.behind.trees.now) (node_view r.behind.last.now)))
        r.found part.value part.flag whole.memory part.memory

  -- a choice whose first branch is under way: what is left for the second
  pub record IsChoice (k : ChoiceFrame V) (whole part : PassTask V) : Type 0 where
    pub plan : k.choice.plan.now ≡ set
    pub is : whole.tree ≡ choose k.choice.point k.choice.base (cond_view k.choice.condition.now) part.tree
        (node_view k.choice.no.now)
    pub exactness : Exactness
    pub on : Filters (lossy_operations m) k.choice.base (cond_view k.choice.condition.now) true whole.value exactness
        part.value
    pub on_dims : m.dims part.value ≡ m.dims whole.value
    pub flagged : part.flag ≡ noted k.choice.point exactness whole.flag
    pub off : Filters (lossy_operations m) k.choice.base (cond_view k.choice.condition.now) false whole.value
        k.off.exactness
        k.off.value
    pub off_dims : m.dims k.off.value ≡ m.dims whole.value
    pub kept : part.memory ≡ whole.memory

  -- a choice whose second branch is under way: the first one's pass is made
  pub record IsBranch (b : BranchFrame V) (whole part : PassTask V) : Type 0 where
    pub base : ℕ
    pub condition : Cond
    pub first : PassTask V
    pub is : whole.tree ≡ choose b.point base condition first.tree part.tree
    pub kept : first.memory ≡ whole.memory
    pub on_exactness : Exactness
    pub on : Filters (lossy_operations m) base condition true whole.value on_exactness first.value
    pub on_dims : m.dims first.value ≡ m.dims whole.value
    pub on_flagged : first.flag ≡ noted b.point on_exactness whole.flag
    pub made : IsMade first (outcome_view b.first) part.memory
    pub off_exactness : Exactness
    pub off : Filters (lossy_operations m) base condition false whole.value off_exactness part.value
    pub off_dims : m.dims part.value ≡ m.dims whole.value
    pub off_flagged : part.flag ≡ noted b.point off_exactness b.first.flag

  -- a loop of the whole's tree, from the whole's value; it is under way from `begun` on
  pub record IsLoop (l : Loop) (whole : PassTask V) (first : V) (begun : LoopCache V) : Type 0 where
    pub plan : l.plan.now ≡ set
    pub is : whole.tree ≡ iterate l.point l.base (cond_view l.condition.now) (node_view l.body.now)
    pub first_is : first ≡ whole.value
    pub kept : begun.kept ≡ whole.memory.kept

  -- a loop that is due
  pub record IsLoopDue (l : Loop) (whole : PassTask V) (first : V) (flag : Option ℕ) (memory : LoopCache V) : Type 0
    where
      pub plan : l.plan.now ≡ set
      pub is : whole.tree ≡ iterate l.point l.base (cond_view l.condition.now) (node_view l.body.now)
      pub first_is : whole.value ≡ first
      pub flagged : whole.flag ≡ flag
      pub kept : whole.memory ≡ memory
      pub may : MayBePassed whole

  -- what entered a loop's body, from a value at its head and what was flagged then
  pub record HasEntered (l : Loop) (top : V) (flag : Option ℕ) (entered : V) (part : PassTask V) : Type 0 where
    pub body : part.tree ≡ node_view l.body.now
    pub exactness : Exactness
    pub on : Filters (lossy_operations m) l.base (cond_view l.condition.now) true top exactness part.value
    pub flagged : part.flag ≡ noted l.point exactness flag
    pub dims : m.dims part.value ≡ m.dims top
    pub same : entered ≡ part.value

  -- a head that grows, before a round: the last turn may be given again
  pub record IsHead (l : Loop) (whole : PassTask V) (first : V) (growing : Growing V H) (turn : Option (LoopRound V))
      (memory : LoopCache V) : Type 0 where
    pub begun : LoopCache V
    pub loop : IsLoop l whole first begun
    pub head : HeadLoop o m set l.point l.base (cond_view l.condition.now) (node_view l.body.now) whole.value whole.flag
        growing turn begun memory

  pub record IsGrowing (g : GrowingFrame V H) (whole part : PassTask V) : Type 0 where
    pub head : IsHead g.the_loop whole g.first g.growing None part.memory
    pub entered : HasEntered g.the_loop g.growing.value g.growing.flag g.entered part

  -- a stable head, narrowed so far: so many rounds are left after this turn
  pub record IsNarrowed (l : Loop) (whole : PassTask V) (first : V) (last : HeadRound V) (left : ℕ)
      (memory : LoopCache V)
      : Type 0 where
    pub begun : LoopCache V
    pub loop : IsLoop l whole first begun
    pub start : V
    pub round : PassResult V
    pub grown : HasGrown o m set l.point l.base (cond_view l.condition.now) (node_view l.body.now) whole.value
        whole.flag start (headed l.point start round)
    pub between : LoopCache V
    pub grown_stays : StaysKept o m set (node_view l.body.now) whole.flag begun round.flag between
    pub narrowed : NarrowLoop o m set l.point l.base (cond_view l.condition.now) (node_view l.body.now) whole.value
        start round left last.value last.turn.entered (outcome_view last.turn.outcome) between memory

  -- a round of narrowing that is next: with whatever turn it ends, it is narrowed that far
  pub record IsWaiting (n : Narrowing V) (whole : PassTask V) (flag : Option ℕ) (memory : LoopCache V) : Type 0 where
    pub begun : LoopCache V
    pub loop : IsLoop n.the_loop whole n.first begun
    pub dims : m.dims n.top ≡ m.dims whole.value
    pub remembers : Remembers o m set (node_view n.the_loop.body.now) flag memory
    pub narrows : (turn : LoopRound V) (new : LoopCache V) →
        IsLoopRound o m set n.the_loop.point n.the_loop.base (cond_view n.the_loop.condition.now)
        (node_view n.the_loop.body.now) flag n.top turn
        → StaysKept o m set (node_view n.the_loop.body.now) flag memory turn.outcome.flag new
        → IsNarrowed n.the_loop whole n.first (record { value = n.top; turn = turn }) n.left new

  -- it is under way
  pub record IsNarrowing (n : NarrowingFrame V) (whole part : PassTask V) : Type 0 where
    pub flag : Option ℕ
    pub waiting : IsWaiting n.narrowing whole flag part.memory
    pub entered : HasEntered n.narrowing.the_loop n.narrowing.top flag n.entered part

  -- what is known of a `switch` while its arms are gone through
  pub record IsSelecting (s : Selecting V) (whole : PassTask V) : Type 0 where
    pub plan : s.selection.plan.now ≡ set
    pub from : s.from ≡ whole.value
    pub seen : s.seen ≡ linearized (m.dims whole.value) s.selection.base (expr_view s.selection.value.now)

  -- it goes on along these arms
  abbrev pub SelectsOn : Selecting V → PassTask V → Arms → PassFindings V → Option V → Option ℕ → LoopCache V → Type 0
  SelectsOn s whole arms found running flag memory = SelectLoop o m set whole.tree whole.flag whole.value
      s.selection.point s.selection.base (expr_view s.selection.value.now) s.has_default s.other arms found running
      flag whole.memory memory

  -- the tree of an arm is under way
  pub record IsSelect (p : SelectFrame V) (whole part : PassTask V) : Type 0 where
    pub here : IsSelecting p.selecting whole
    pub running : Option V
    pub from : RunsFrom (lossy_operations m) (m.dims whole.value) set.parts running part.value
    pub dims : m.dims part.value ≡ m.dims whole.value
    pub loop : SelectsOn p.selecting whole (arm part.tree (arms_of (map arm_view p.behind.now)))
        p.found running part.flag part.memory

  -- in the place the part is under way, and with that the whole is to be made: one case for each kind of place
  abbrev pub IsPassFrame : place.PassFrame V H → PassTask V → PassTask V → Type 0
  IsPassFrame (Row r) whole part = IsRow r whole part
  IsPassFrame (Last x) whole part = RowLoop o m set whole.tree whole.flag whole.value part.tree x part.value part.flag
      whole.memory part.memory
  IsPassFrame (Choice k) whole part = IsChoice k whole part
  IsPassFrame (Branch b) whole part = IsBranch b.value whole part
  IsPassFrame (GrowingAt g) whole part = IsGrowing g.value whole part
  IsPassFrame (NarrowingAt n) whole part = IsNarrowing n.value whole part
  IsPassFrame (Catch q k) whole part = (whole.tree ≡ catch q (exit_view k) part.tree) × (part.value ≡ whole.value) ×
      (part.flag ≡ whole.flag) × (part.memory ≡ whole.memory)
  IsPassFrame (Select s) whole part = IsSelect s.value whole part

  -- the places from the outermost on: what each has under way is what the next one must guarantee; the innermost has
  -- this
  abbrev pub ArePassFrames : List (place.PassFrame V H) → PassTask V → PassTask V → Type 0
  ArePassFrames [] whole part = part ≡ whole
  ArePassFrames (p ∷ ps) whole part =
      (inner : PassTask V) × MayBePassed whole × IsPassFrame p whole inner × ArePassFrames ps inner part

  -- what a step towards the whole leads to, with what is kept then
  abbrev pub PassStepLeads : PassTask V → next.Next V H → LoopCache V → Type 0
  PassStepLeads whole (Passed r) memory = IsMade whole (outcome_view r) memory
  PassStepLeads whole (Opens p tree) memory =
      IsPassFrame p whole (pass_task tree memory) × MayBePassed (pass_task tree memory)
  PassStepLeads whole (Again p r) memory =
      (part : PassTask V) × IsPassFrame p.value whole part × IsMade part (outcome_view r) memory

  -- the loop: places are open, and what comes next leads to what the innermost has under way
  pub record PassIsUnderWay (places : List (place.PassFrame V H)) (whole : PassTask V) (n : next.Next V H)
      (memory : LoopCache V)
      : Type 0 where
    pub part : PassTask V
    pub begun : MayBePassed part
    pub owed : ArePassFrames places whole part
    pub leads : PassStepLeads part n memory

  -- what a step leads to
  abbrev pub PassStepReaches : List (place.PassFrame V H) → PassTask V → step.Step V H → LoopCache V → Type 0
  PassStepReaches places whole (Ended r) memory = IsMade whole (outcome_view r) memory
  PassStepReaches places whole (Goes n) memory = PassIsUnderWay places whole n memory
