-- A `switch` whose arms are gone through: what is left if no label matches, what comes in at labels, what its trees
-- find, and what comes out after the last arm.
use Rattle.std.proofs.Common.{Bor, Box, Global, ◌≡◌, ◌≤◌, ℕ, ℤ, List, [], ◌∷◌, map, Option, None, Some, Bool, true, false, refl, sym, ap, subst, ◌∙◌, append-nil}
use Rattle.std.specs.{List.Contains, List.list_any, Prelude.IfOk}
use Rattle.std.specs.Prelude as outcome_or
use Rattle.lra_pass_stack.specs.Crates.lra_analysis_spec.Linearization.{LinearizedFits, linearized}
use Rattle.lra_pass_stack.specs.Crates.lra_analysis_spec.Pass.{PassResult, noted, goes_on, in_turn, jumps_of, ArmsPassUnder, MatchesNone, Enters, JoinsRunning, ComesOut, RunsFrom}
use Rattle.lra_pass_stack.specs.Crates.lra_base.declared.case_labels.CaseLabel.TheVariants.{Case, Default}
use Rattle.lra_pass_stack.specs.Crates.{lra_analysis_spec.Live.live_after, lra_analysis_spec.LiveLimit.most_live, lra_analysis_spec.MovesOf.number_moves, lra_analysis_spec.Operations.lossy_operations}
use Rattle.lra_pass_stack.specs.Crates.{lra_analysis_spec.Plan.Plan, lra_analysis_spec.UnderInterference.absorbed, lra_analysis_spec.declared.linearization.Linearized.Linearized}
use Rattle.lra_pass_stack.specs.Crates.{lra_base.CaseLabels.is_same_case, lra_base.declared.case_labels.CaseLabel.CaseLabel, lra_domain.Abstraction.Abstraction, lra_domain.Abstraction.worse}
use Rattle.lra_pass_stack.specs.Crates.{lra_domain.Interference.Interference, lra_domain.declared.Exactness.Exactness, lra_domain.declared.Exactness.TheVariants.Exact, lra_program.Program.Expr}
use Rattle.lra_pass_stack.specs.Crates.{lra_program.ProgramViews.expr_view, lra_transfer.Changes.Does, lra_transfer.declared.splits.Kept.Kept}
use Rattle.lra_operations.specs.Tree.{Exit, broken, continued, returned, Node, Arms, no_arms, entry, arm, select, entries_of}
use Rattle.lra_operations.specs.{TreeViews.node_view, TreeViews.arm_view, TreeViews.arms_of, declared.tree.Arm.Arm, declared.tree.Arm.TheVariants.Entry, declared.tree.Arm.TheVariants.Tree}
use Rattle.lra_operations.specs.declared.tree.Node as node
use Rattle.lra_operations.proofs.ArmViews.{arms_first, arms_none, entry_first, entry_seen, tree_first, tree_seen}
use Rattle.lra_pass_stack.proofs.Crates.{lra_analysis_spec.DivisionLemmas.seen_fits, lra_analysis_spec.FlagLaws.noted_exact, lra_analysis_spec.Takes.worse_exact, lra_analysis_spec.Takes.worse_worse}
use Rattle.lra_pass_results.specs.Outcome.{ended, outcome_view, running_on, AreInTurn, IsPassed, JumpsFit}
use Rattle.lra_pass_results.specs.{Dimensions.ArmsJumpWith, Dimensions.JumpsWith, Dimensions.TreeFits, LoopCache.HasLoops, LoopCache.MayRecall, LoopCache.Remembers, LoopCache.StaysKept}
use Rattle.lra_pass_results.specs.{declared.loop_cache.LoopCache.LoopCache, declared.outcome.PassFindings.PassFindings, declared.outcome.PassOutcome.PassOutcome, declared.outcome.Running.Running}
use Rattle.lra_pass_stack.specs.Stack.{PassTask, IsMade, IsPassFrame, IsSelect, IsSelecting, MayBePassed, SelectsOn, ArmJumpsFit, ComesOutAt, EntersAt, JoinsAt, NoneSoFar, RunHas, SelectLoop}
use Rattle.lra_pass_stack.specs.{declared.stack.PassFrame.TheVariants.Select, declared.stack.SelectFrame.SelectFrame, declared.stack.Selecting.Selecting}
use Rattle.lra_pass_results.proofs.CachedLoops.{Later, later_noted, recall_later}
use Rattle.lra_pass_results.proofs.{Again.none_noted, PassRows.same_lists, PassRows.turns, PassSteps.going_on_fits, PassSteps.in_both}

-- no match ------------------------------------------------------------------------------------------------------------

module _ {V H : Type 0} (m : Abstraction V H) (base : ℕ) (e : Expr) where
  pub default_left : (l : CaseLabel) (labels : List CaseLabel) (v : V) (before : Exactness) (last : V) (all : Exactness) → l ≡ Default
      → NoneSoFar m base e labels v before last all → NoneSoFar m base e (l ∷ labels) v before last all
  default_left l labels v before last all is none = subst (λ (x : CaseLabel). NoneSoFar m base e (x ∷ labels) v before last all) (sym is) none

  pub case_left : (l : CaseLabel) (z : ℤ) (labels : List CaseLabel) (s : Linearized) (v w : V) (before one x : Exactness) (last : V) (all : Exactness) →
      l ≡ Case z
      → s ≡ linearized (m.dims v) base e → Does m (number_moves (m.dims v) false s z) v one w → x ≡ worse before one
      → NoneSoFar m base e labels w x last all → NoneSoFar m base e (l ∷ labels) v before last all
  case_left l z labels s v w before one x last all is same left worst (c, rest, flags) =
      subst (λ (y : CaseLabel). NoneSoFar m base e (y ∷ labels) v before last all) (sym is) (
        worse one c,
        (w, one, c, subst (λ (r : Linearized). Does m (number_moves (m.dims v) false r z) v one w) same left, rest, refl),
        flags ∙ ap (λ (y : Exactness). worse y c) worst ∙ worse_worse before one c,
      )

  -- an arm that is a label
  pub entry_left : {T : Type 0} (R : outcome_or.Result Exactness T) (a : Arm) (l : CaseLabel) (h : Arms) (v w : V) (before : Exactness) (last : V)
      (all : Exactness) → a ≡ Entry l
      → IfOk R (λ x. NoneSoFar m base e (entries_of h) w x last all → NoneSoFar m base e (l ∷ entries_of h) v before last all)
      → IfOk R (λ x. NoneSoFar m base e (entries_of h) w x last all → NoneSoFar m base e (entries_of (arm_view a h)) v before last all)
  entry_left R a l h v w before last all is left =
      subst (λ (g : Arms). IfOk R (λ x. NoneSoFar m base e (entries_of h) w x last all → NoneSoFar m base e (entries_of g) v before last all))
      (sym (entry_seen a l h is)) left

  pub tree_left : (a : Arm) (g : node.Node) (h : Arms) (v : V) (before : Exactness) (last : V) (all : Exactness) → a ≡ Tree g
      → NoneSoFar m base e (entries_of h) v before last all → NoneSoFar m base e (entries_of (arm_view a h)) v before last all
  tree_left a g h v before last all is none = subst (λ (x : Arms). NoneSoFar m base e (entries_of x) v before last all) (sym (tree_seen a g h is)) none

-- the labels that are left: what is left of the value if none of them matches is what is left if none at all does
pub record NoneLoop {V H : Type 0} (m : Abstraction V H) (s : Linearized) (arms left : List Arm) (first v : V) (so_far : Exactness) : Type 0 where
  pub dims : m.dims v ≡ m.dims first
  pub none : (base : ℕ) (e : Expr) → s ≡ linearized (m.dims first) base e → (last : V) (all : Exactness)
      → NoneSoFar m base e (entries_of (arms_of (map arm_view left))) v so_far last all
      → NoneSoFar m base e (entries_of (arms_of (map arm_view arms))) first Exact last all

module _ {V H : Type 0} (m : Abstraction V H) (s : Linearized) (arms : List Arm) (first : V) where
  pub none_starts : NoneLoop m s arms arms first first Exact
  none_starts = record { dims = refl; none = λ base e seen last all none. none }

  pub none_next : (left behind : List Arm) (a : Arm) (v w : V) (x y : Exactness) → left ≡ a ∷ behind → NoneLoop m s arms left first v x
      → ((base : ℕ) (e : Expr) (h : Arms) (last : V) (all : Exactness) → s ≡ linearized (m.dims v) base e → NoneSoFar m base e (entries_of h) w y last all
      → NoneSoFar m base e (entries_of (arm_view a h)) v x last all) → m.dims w ≡ m.dims v → NoneLoop m s arms behind first w y
  none_next left behind a v w x y is so_far one dims = record {
    dims = dims ∙ so_far.dims;
    none = λ base e same last all none. so_far.none base e same last all
        (subst (λ (g : Arms). NoneSoFar m base e (entries_of g) v x last all) (sym (arms_first left behind a is))
        (one base e (arms_of (map arm_view behind)) last all (same ∙ ap (λ (k : ℕ). linearized k base e) (sym so_far.dims)) none));
  }

  pub none_ends : (left : List Arm) (v : V) (x : Exactness) → left ≡ [] → NoneLoop m s arms left first v x → (base : ℕ) (e : Expr)
      → s ≡ linearized (m.dims first) base e
      → MatchesNone (lossy_operations m) base e (entries_of (arms_of (map arm_view arms))) first x v
  none_ends left v x is so_far base e same =
      let none : NoneSoFar m base e [] v x v x = (Exact, (refl, refl), sym (worse_exact x)) in
      let all = so_far.none base e same v x (subst (λ (g : Arms). NoneSoFar m base e (entries_of g) v x v x) (sym (arms_none left is)) none) in
      subst (λ (y : Exactness). MatchesNone (lossy_operations m) base e (entries_of (arms_of (map arm_view arms))) first y v) (sym all.2) all.1

-- labels --------------------------------------------------------------------------------------------------------------

module _ {V H : Type 0} (m : Abstraction V H) where
  pub default_entered : (base : ℕ) (e : Expr) (l : CaseLabel) (v other : V) (k : Kept V) → l ≡ Default → k ≡ record { value = other; exactness = Exact }
      → Enters (lossy_operations m) base e l v other k.exactness k.value
  default_entered base e l v other k is same = subst (λ (x : CaseLabel). Enters (lossy_operations m) base e x v other k.exactness k.value) (sym is)
      (ap (λ (x : Kept V). x.value) same, ap (λ (x : Kept V). x.exactness) same)

  pub case_entered : (base : ℕ) (e : Expr) (l : CaseLabel) (z : ℤ) (s : Linearized) (v other w : V) (x : Exactness) → l ≡ Case z →
      s ≡ linearized (m.dims v) base e
      → Does m (number_moves (m.dims v) true s z) v x w → Enters (lossy_operations m) base e l v other x w
  case_entered base e l z s v other w x is same left =
      subst (λ (y : CaseLabel). Enters (lossy_operations m) base e y v other x w) (sym is)
      (subst (λ (r : Linearized). Does m (number_moves (m.dims v) true r z) v x w) same left)

  pub joined_none : (q : ℕ) (k : Kept V) (old : Running V) (flag : Option ℕ) → old.normal ≡ None → flag ≡ noted q k.exactness old.flag
      → JoinsAt m q k old (record { found = old.found; normal = Some k.value; flag = flag })
  joined_none q k old flag none is = record {
    runs = k.value;
    exactness = Exact;
    joins = subst (λ (o : Option V). JoinsRunning (lossy_operations m) o k.value Exact k.value) (sym none) (refl, refl);
    normal = refl;
    flag = is ∙ sym (noted_exact q (noted q k.exactness old.flag));
    found = refl;
    dims = refl;
  }

  pub joined_some : (q : ℕ) (k : Kept V) (old : Running V) (u w : V) (x : Exactness) (flag last : Option ℕ) → old.normal ≡ Some u
      → (lossy_operations m).joined u k.value x w
      → flag ≡ noted q k.exactness old.flag → last ≡ noted q x flag → JoinsAt m q k old (record { found = old.found; normal = Some w; flag = last })
  joined_some q k old u w x flag last some joined is also = record {
    runs = w;
    exactness = x;
    joins = subst (λ (o : Option V). JoinsRunning (lossy_operations m) o k.value x w) (sym some) joined;
    normal = refl;
    flag = also ∙ ap (noted q x) is;
    found = refl;
    dims = joined.2 ∙ sym joined.1;
  }

  pub run_dims : (n : ℕ) (o : Option V) (u : V) → o ≡ Some u → RunHas m n o → m.dims u ≡ n
  run_dims n o u some has = subst (RunHas m n) some has

  pub entered_at : (q base : ℕ) (e : Expr) (l : CaseLabel) (v other : V) (k : Kept V) (old new : Running V)
      → Enters (lossy_operations m) base e l v other k.exactness k.value
      → m.dims k.value ≡ m.dims v → JoinsAt m q k old new → EntersAt m q base e l v other old new
  entered_at q base e l v other k old new enters dims joins = record {
    entered = k.value;
    runs = joins.runs;
    entered_exactness = k.exactness;
    joined_exactness = joins.exactness;
    enters = enters;
    joins = joins.joins;
    normal = joins.normal;
    flag = joins.flag;
    found = joins.found;
    dims = joins.dims ∙ dims;
  }

  -- what comes out
  pub comes_out_none : (q : ℕ) (d : Bool) (other : V) (old : Running V) → old.normal ≡ None
      → ComesOutAt m q d other old (record { found = old.found; normal = other; flag = old.flag })
  comes_out_none q d other old none = record {
    exactness = Exact;
    out = subst (λ (o : Option V). ComesOut (lossy_operations m) d o other Exact other) (sym none) (none_out d);
    flag = sym (noted_exact q old.flag);
    found = refl;
    dims = refl;
  }
    where
      none_out : (b : Bool) → ComesOut (lossy_operations m) b None other Exact other
      none_out true = (refl, refl)
      none_out false = (refl, refl)

  pub comes_out_same : (q : ℕ) (d : Bool) (other : V) (r : PassOutcome V) → d ≡ true → m.dims r.normal ≡ m.dims other → ComesOutAt m q d other (running_on r) r
  comes_out_same q d other r is dims = record {
    exactness = Exact;
    out = subst (λ (b : Bool). ComesOut (lossy_operations m) b (Some r.normal) other Exact r.normal) (sym is) (refl, refl);
    flag = sym (noted_exact q r.flag);
    found = refl;
    dims = dims;
  }

  pub comes_out_joined : (q : ℕ) (d : Bool) (other : V) (r : PassOutcome V) (w : V) (x : Exactness) (flag : Option ℕ) → d ≡ false
      → (lossy_operations m).joined r.normal other x w
      → flag ≡ noted q x r.flag → ComesOutAt m q d other (running_on r) (record { found = r.found; normal = w; flag = flag })
  comes_out_joined q d other r w x flag is joined noted_is = record {
    exactness = x;
    out = subst (λ (b : Bool). ComesOut (lossy_operations m) b (Some r.normal) other x w) (sym is) joined;
    flag = noted_is;
    found = refl;
    dims = joined.2 ∙ sym joined.1;
  }

  pub comes_out_some : (q : ℕ) (d : Bool) (other : V) (old : Running V) (u : V) (r : PassOutcome V) → old.normal ≡ Some u
      → ComesOutAt m q d other (record { found = old.found; normal = Some u; flag = old.flag }) r → ComesOutAt m q d other old r
  comes_out_some q d other old u r some at = record {
    exactness = at.exactness;
    out = subst (λ (o : Option V). ComesOut (lossy_operations m) d o other at.exactness r.normal) (sym some) at.out;
    flag = at.flag;
    found = at.found;
    dims = at.dims;
  }

-- steps ---------------------------------------------------------------------------------------------------------------

nothing_behind : {V : Type 0} (x : PassResult V) (w : V) (f : Option ℕ) → in_turn x (goes_on [] w f) w f ≡ record x { normal = w; flag = f }
nothing_behind x w f = same_lists w f _ _ _ _ _ _ _ _ (append-nil x.entries) (append-nil x.breaks) (append-nil x.continues) (append-nil x.returns)

module _ {V H : Type 0} (o : Interference V) (m : Abstraction V H) (set : Plan) (g : Node) (f : Option ℕ) (v : V) (q base : ℕ) (e : Expr) (d : Bool) (other : V)
    (old : LoopCache V) where
  abbrev Loop : Arms → PassFindings V → Option V → Option ℕ → LoopCache V → Type 0
  Loop arms found running so_far memory = SelectLoop o m set g f v q base e d other arms found running so_far old memory

  abbrev PassOf : Arms → Option ℕ → Option V → PassResult V → Type 0
  PassOf arms so_far running t = ArmsPassUnder V H (lossy_operations m) (absorbed o m) set q base e d v other arms so_far running t

  pub select_begins : (arms : Arms) (x : Exactness) (begun : Running V) → g ≡ select q base e arms → m.dims v ≤ most_live → TreeFits g (m.dims v)
      → MatchesNone (lossy_operations m) base e (entries_of arms) v x other → m.dims other ≡ m.dims v → d ≡ list_any (is_same_case Default) (entries_of arms)
      → ((u : V) (h : Option ℕ) → ended begun.found u h ≡ goes_on [] u h) → begun.normal ≡ None → begun.flag ≡ noted q x f
      → Loop arms begun.found begun.normal begun.flag old
  select_begins arms x begun is few fits none other_dims named nothing runs flagged = record {
    few = few;
    other_dims = other_dims;
    running_dims = subst (RunHas m (m.dims v)) (sym runs) tt;
    fits = subst (λ (y : Node). TreeFits y (m.dims v)) is fits;
    stays = λ loops has all. (subst (HasLoops loops) is has, recall_later o m set loops f begun.flag old (later_noted q x f begun.flag flagged) all);
    passes = λ t pass dims jumps. subst (λ (y : PassResult V). IsPassed o m set g f v (in_turn y t t.normal t.flag)) (sym (nothing v begun.flag))
        (subst (λ (y : Node). IsPassed o m set y f v t) (sym is) (record {
          pass = (
            other,
            x,
            none,
            subst (λ (b : Bool). ArmsPassUnder V H (lossy_operations m) (absorbed o m) set q base e b v other arms (noted q x f) None t) named
                (subst (λ (u : Option V). PassOf arms (noted q x f) u t) runs (subst (λ (h : Option ℕ). PassOf arms h begun.normal t) flagged pass)),
          );
          dims = dims;
          jumps = jumps;
        }));
  }

  pub select_enters : (l : CaseLabel) (arms : Arms) (one two : Running V) (memory : LoopCache V) → Loop (entry l arms) one.found one.normal one.flag memory
      → EntersAt m q base e l v other one two → Loop arms two.found two.normal two.flag memory
  select_enters l arms one two memory loop at = record {
    few = loop.few;
    other_dims = loop.other_dims;
    running_dims = subst (RunHas m (m.dims v)) (sym at.normal) at.dims;
    fits = loop.fits;
    stays = λ loops has all. (let now = loop.stays loops has all in (now.0, recall_later o m set loops one.flag two.flag memory later now.1));
    passes = λ t pass dims jumps. subst (λ (y : PassFindings V). IsPassed o m set g f v (in_turn (ended y v two.flag) t t.normal t.flag)) (sym at.found)
        (loop.passes t (
          at.entered,
          at.runs,
          at.entered_exactness,
          at.joined_exactness,
          at.enters,
          at.joins,
          subst (λ (u : Option V). PassOf arms (noted q at.joined_exactness (noted q at.entered_exactness one.flag)) u t) at.normal
              (subst (λ (h : Option ℕ). PassOf arms h two.normal t) at.flag pass),
        ) dims jumps);
  }
    where
      later : Later one.flag two.flag
      later none = none_noted q at.entered_exactness one.flag (none_noted q at.joined_exactness (noted q at.entered_exactness one.flag) (sym at.flag ∙ none))

  -- the tree of an arm is next
  pub tree_remembers : (a : Node) (arms : Arms) (found : PassFindings V) (running : Option V) (so_far : Option ℕ) (memory : LoopCache V)
      → Loop (arm a arms) found running so_far memory
      → Remembers o m set g f old → Remembers o m set a so_far memory
  tree_remembers a arms found running so_far memory loop (loops, has, all) = let now = loop.stays loops has all in (loops, now.0.0, now.1)

  both_jump : (a : Node) (arms : Arms) (s t : PassResult V) (w : V) (h : Option ℕ) → JumpsFit m a (m.dims v) s → ArmJumpsFit m arms (m.dims v) t
      → ArmJumpsFit m (arm a arms) (m.dims v) (in_turn s t w h)
  both_jump a arms s t w h one two = fits
    where
      fits : (k : Exit) (u : V) → Contains (jumps_of k (in_turn s t w h)) u → ArmsJumpWith (arm a arms) (m.dims v) k (m.dims u)
      fits broken u there = in_both (λ x. JumpsWith a (m.dims v) broken (m.dims x)) (λ x. ArmsJumpWith arms (m.dims v) broken (m.dims x)) s.breaks t.breaks u
          (one broken u) (two broken u) there
      fits continued u there =
          in_both (λ x. JumpsWith a (m.dims v) continued (m.dims x)) (λ x. ArmsJumpWith arms (m.dims v) continued (m.dims x)) s.continues t.continues u
          (one continued u) (two continued u) there
      fits returned u there =
          in_both (λ x. JumpsWith a (m.dims v) returned (m.dims x)) (λ x. ArmsJumpWith arms (m.dims v) returned (m.dims x)) s.returns t.returns u
          (one returned u) (two returned u) there

  -- after what it found, the arms after it
  pub select_follows : (a : Node) (arms : Arms) (found : PassFindings V) (running : Option V) (so_far : Option ℕ) (memory new : LoopCache V) (value : V)
      (outcome all : PassOutcome V)
      → Loop (arm a arms) found running so_far memory → RunsFrom (lossy_operations m) (m.dims v) set.parts running value → m.dims value ≡ m.dims v
      → IsPassed o m set a so_far value (outcome_view outcome) → StaysKept o m set a so_far memory outcome.flag new → AreInTurn found outcome.found all.found
      → all.normal ≡ outcome.normal → all.flag ≡ outcome.flag → Loop arms all.found (Some all.normal) all.flag new
  select_follows a arms found running so_far memory new value outcome all loop from wide passed stays turn one two = record {
    few = loop.few;
    other_dims = loop.other_dims;
    running_dims = ap m.dims one ∙ passed.dims ∙ ap (live_after a) wide ∙ loop.fits.1;
    fits = loop.fits.2;
    stays = λ loops has kept. (let now = loop.stays loops has kept in
        (now.0.1, subst (λ (h : Option ℕ). MayRecall o m set loops h new) (sym two) (stays loops now.0.0 now.1)));
    passes = λ t pass dims jumps.
        let s = outcome_view outcome in
        let rest : PassOf arms s.flag (Some s.normal) t =
        subst (λ (u : V). PassOf arms s.flag (Some u) t) one (subst (λ (h : Option ℕ). PassOf arms h (Some all.normal) t) two pass) in
        let both = loop.passes (in_turn s t t.normal t.flag) (value, s, t, from, passed.pass, rest, refl) dims
        (both_jump a arms s t t.normal t.flag (subst (λ (n : ℕ). JumpsFit m a n s) wide passed.jumps) jumps) in
        let same : in_turn (ended found v so_far) (in_turn s t t.normal t.flag) t.normal t.flag ≡ in_turn (ended all.found v all.flag) t t.normal t.flag =
        turns (ended found v so_far) s t t.normal v t.normal t.flag all.flag t.flag
        ∙ ap (λ (x : PassResult V). in_turn x t t.normal t.flag) (sym (turn v s.normal v so_far s.flag all.flag)) in
        subst (λ (x : PassResult V). IsPassed o m set g f v x) same both;
  }

  -- after the last arm
  pub select_ends : (one : Running V) (r : PassOutcome V) (memory : LoopCache V) → Loop no_arms one.found one.normal one.flag memory →
      ComesOutAt m q d other one r
      → IsPassed o m set g f v (outcome_view r)
  select_ends one r memory loop at =
      let last : PassResult V = goes_on [] r.normal r.flag in
      let whole = loop.passes last (r.normal, at.exactness, at.out, ap (goes_on [] r.normal) at.flag) (at.dims ∙ loop.other_dims)
      (going_on_fits m (select q base e no_arms) (m.dims v) [] r.normal r.flag) in
      let same : in_turn (ended one.found v one.flag) last r.normal r.flag ≡ outcome_view r =
      nothing_behind (ended one.found v one.flag) r.normal r.flag ∙ ap (λ (x : PassFindings V). ended x r.normal r.flag) (sym at.found) in
      subst (λ (x : PassResult V). IsPassed o m set g f v x) same whole

  pub select_stays : (one : Running V) (r : PassOutcome V) (memory : LoopCache V) → Loop no_arms one.found one.normal one.flag memory →
      ComesOutAt m q d other one r
      → StaysKept o m set g f old r.flag memory
  select_stays one r memory loop at loops has all =
      recall_later o m set loops one.flag r.flag memory (later_noted q at.exactness one.flag r.flag at.flag) (loop.stays loops has all).1

-- places --------------------------------------------------------------------------------------------------------------

pub seen_wide : {V H : Type 0} (m : Abstraction V H) (s : Linearized) (v other : V) (live base : ℕ) (e : Expr) → s ≡ linearized live base e → live ≡ m.dims v →
    other ≡ v
    → LinearizedFits s (m.dims other)
seen_wide m s v other live base e is here same =
    let n : live ≡ m.dims other = here ∙ ap m.dims (sym same) in
    subst (λ (r : Linearized). LinearizedFits r (m.dims other)) (sym is)
    (subst (λ (k : ℕ). LinearizedFits (linearized live base e) k) n (seen_fits live base e))

module _ {V H : Type 0} (o : Interference V) (m : Abstraction V H) (set : Plan) where
  pub selection_begins : (s : Selecting V) (whole : PassTask V) (arms : Arms) (value : V) (flag : Option ℕ) (x : Exactness) (begun : Running V)
      → whole.tree ≡ select s.selection.point s.selection.base (expr_view s.selection.value.now) arms → whole.value ≡ value → whole.flag ≡ flag
      → MayBePassed o m set whole
      → MatchesNone (lossy_operations m) s.selection.base (expr_view s.selection.value.now) (entries_of arms) value x s.other → m.dims s.other ≡ m.dims value
      → s.has_default ≡ list_any (is_same_case Default) (entries_of arms) → ((u : V) (h : Option ℕ) → ended begun.found u h ≡ goes_on [] u h) →
      begun.normal ≡ None
      → begun.flag ≡ noted s.selection.point x flag → SelectsOn o m set s whole arms begun.found begun.normal begun.flag whole.memory
  selection_begins s whole arms value flag x begun is first flagged may none dims named nothing runs noted_is =
      let e = expr_view s.selection.value.now in
      select_begins o m set whole.tree whole.flag whole.value s.selection.point s.selection.base e s.has_default s.other whole.memory arms x begun is may.few
      may.fits
      (subst (λ (u : V). MatchesNone (lossy_operations m) s.selection.base e (entries_of arms) u x s.other) (sym first) none) (dims ∙ ap m.dims (sym first))
      named
      nothing runs
      (noted_is ∙ ap (noted s.selection.point x) (sym flagged))

  pub label_entered : (s : Selecting V) (whole : PassTask V) (l : CaseLabel) (arms : Arms) (one two : Running V) (memory : LoopCache V) →
      IsSelecting o m set s whole
      → SelectsOn o m set s whole (entry l arms) one.found one.normal one.flag memory
      → EntersAt m s.selection.point s.selection.base (expr_view s.selection.value.now) l s.from s.other one two
      → SelectsOn o m set s whole arms two.found two.normal two.flag memory
  label_entered s whole l arms one two memory here loop at =
      let e = expr_view s.selection.value.now in
      select_enters o m set whole.tree whole.flag whole.value s.selection.point s.selection.base e s.has_default s.other whole.memory l arms one two memory loop
      (subst (λ (u : V). EntersAt m s.selection.point s.selection.base e l u s.other one two) here.from at)

  pub arm_leads : (s : Selecting V) (n : node.Node) (value : V) (b : Box (SelectFrame V) Global) (behind : Bor (List Arm)) (found : PassFindings V)
      (running : Option V)
      (flag : Option ℕ) (whole : PassTask V) (memory : LoopCache V) → b.value ≡ record { selecting = s; behind = behind; found = found } →
      MayBePassed o m set whole
      → IsSelecting o m set s whole → SelectsOn o m set s whole (arm (node_view n) (arms_of (map arm_view behind.now))) found running flag memory
      → RunsFrom (lossy_operations m) (m.dims s.from) set.parts running value → m.dims value ≡ m.dims s.from
      → (let part : PassTask V = record { tree = node_view n; value = value; flag = flag; memory = memory } in
      IsPassFrame o m set (Select b) whole part × MayBePassed o m
      set part)
  arm_leads s n value b behind found running flag whole memory boxed may here loop from wide =
      let same = ap m.dims here.from in
      let dims : m.dims value ≡ m.dims whole.value = wide ∙ same in (
        subst (λ (x : SelectFrame V). IsSelect o m set x whole (record { tree = node_view n; value = value; flag = flag; memory = memory }))
            (sym boxed) (record {
              here = here;
              running = running;
              from = subst (λ (k : ℕ). RunsFrom (lossy_operations m) k set.parts running value) same from;
              dims = dims;
              loop = loop;
            }),
        record {
          few = subst (λ (k : ℕ). k ≤ most_live) (sym dims) may.few;
          fits = subst (λ (k : ℕ). TreeFits (node_view n) k) (sym dims) loop.fits.0;
          remembers = tree_remembers o m set whole.tree whole.flag whole.value s.selection.point s.selection.base (expr_view s.selection.value.now)
              s.has_default s.other whole.memory
              (node_view n) (arms_of (map arm_view behind.now)) found running flag memory loop may.remembers;
        },
      )

  pub arm_followed : (p : SelectFrame V) (whole part : PassTask V) (memory : LoopCache V) (outcome all : PassOutcome V) → IsSelect o m set p whole part
      → IsMade o m set part (outcome_view outcome) memory
      → AreInTurn p.found outcome.found all.found → all.normal ≡ outcome.normal → all.flag ≡ outcome.flag
      → SelectsOn o m set p.selecting whole (arms_of (map arm_view p.behind.now)) all.found (Some all.normal) all.flag memory
  arm_followed p whole part memory outcome all owed made turn one two =
      let s = p.selecting in
      select_follows o m set whole.tree whole.flag whole.value s.selection.point s.selection.base (expr_view s.selection.value.now) s.has_default s.other
      whole.memory part.tree
      (arms_of (map arm_view p.behind.now)) p.found owed.running part.flag part.memory memory part.value outcome all owed.loop owed.from owed.dims made.passed
      made.stays turn one two

  pub selection_made : (s : Selecting V) (whole : PassTask V) (one : Running V) (r : PassOutcome V) (memory : LoopCache V)
      → SelectsOn o m set s whole no_arms one.found one.normal one.flag memory → ComesOutAt m s.selection.point s.has_default s.other one r
      → IsMade o m set whole (outcome_view r) memory
  selection_made s whole one r memory loop at =
      let e = expr_view s.selection.value.now in record {
        passed = select_ends o m set whole.tree whole.flag whole.value s.selection.point s.selection.base e s.has_default s.other whole.memory one r memory loop
            at;
        stays = select_stays o m set whole.tree whole.flag whole.value s.selection.point s.selection.base e s.has_default s.other whole.memory one r memory loop
            at;
      }

  -- along the arms ----------------------------------------------------------------------------------------------------

  pub begun_selecting : (s : Selecting V) (whole : PassTask V) (value : V) (live : ℕ) → s.selection.plan.now ≡ set → s.from ≡ value → whole.value ≡ value
      → s.seen ≡ linearized live s.selection.base (expr_view s.selection.value.now) → live ≡ m.dims value → IsSelecting o m set s whole
  begun_selecting s whole value live plan from first is here = record {
    plan = plan;
    from = from ∙ sym first;
    seen = is ∙ ap (λ (k : ℕ). linearized k s.selection.base (expr_view s.selection.value.now)) (here ∙ ap m.dims (sym first));
  }

  -- a label is entered
  pub label_few : (s : Selecting V) (whole : PassTask V) → IsSelecting o m set s whole → MayBePassed o m set whole → m.dims s.from ≤ most_live
  label_few s whole here may = subst (λ (u : V). m.dims u ≤ most_live) (sym here.from) may.few

  pub label_width : (s : Selecting V) (whole : PassTask V) → IsSelecting o m set s whole → LinearizedFits s.seen (m.dims s.from)
  label_width s whole here = seen_wide m s.seen whole.value s.from (m.dims whole.value) s.selection.base (expr_view s.selection.value.now) here.seen refl
      here.from

  module _ (s : Selecting V) (whole : PassTask V) (here : IsSelecting o m set s whole) (arms : Arms) (found : PassFindings V) (running : Option V)
      (flag : Option ℕ)
      (memory : LoopCache V)
      (loop : SelectsOn o m set s whole arms found running flag memory) where
    pub label_other : m.dims s.other ≡ m.dims s.from
    label_other = loop.other_dims ∙ ap m.dims (sym here.from)

    pub label_running : RunHas m (m.dims s.from) running
    label_running = subst (λ (n : ℕ). RunHas m n running) (ap m.dims (sym here.from)) loop.running_dims

    pub other_running : RunHas m (m.dims s.other) running
    other_running = subst (λ (n : ℕ). RunHas m n running) (sym loop.other_dims) loop.running_dims

  -- what the first must guarantee, the second must guarantee along the arms that are left
  abbrev pub OwesArms : Selecting V → List Arm → List Arm → Running V → Running V → Type 0
  OwesArms s arms left one two = (whole : PassTask V) (memory : LoopCache V) → IsSelecting o m set s whole
      → SelectsOn o m set s whole (arms_of (map arm_view arms)) one.found one.normal one.flag memory
      → SelectsOn o m set s whole (arms_of (map arm_view left)) two.found two.normal two.flag memory

  module _ (s : Selecting V) (arms left : List Arm) (one two : Running V) (owes : OwesArms s arms left one two) where
    pub owes_next : (behind : List Arm) (a : Arm) (l : CaseLabel) (three : Running V) → left ≡ a ∷ behind → a ≡ Entry l
        → ((base : ℕ) (e : Expr) → s.seen ≡ linearized (m.dims s.from) base e → EntersAt m s.selection.point base e l s.from s.other two three)
        → OwesArms s arms behind one three
    owes_next behind a l three is entry_is enters whole memory here loop =
        let e = expr_view s.selection.value.now in
        label_entered s whole l (arms_of (map arm_view behind)) two three memory here
        (subst (λ (h : Arms). SelectsOn o m set s whole h two.found two.normal two.flag memory) (entry_first left behind a l is entry_is)
        (owes whole memory here loop))
        (enters s.selection.base e (here.seen ∙ ap (λ (u : V). linearized (m.dims u) s.selection.base e) (sym here.from)))

    module _ (whole : PassTask V) (memory : LoopCache V) (here : IsSelecting o m set s whole)
        (loop : SelectsOn o m set s whole (arms_of (map arm_view arms)) one.found one.normal one.flag memory) where
      pub tree_owed : (behind : List Arm) (a : Arm) (n : node.Node) → left ≡ a ∷ behind → a ≡ Tree n
          → SelectsOn o m set s whole (arm (node_view n) (arms_of (map arm_view behind))) two.found two.normal two.flag memory
      tree_owed behind a n is tree_is =
          subst (λ (h : Arms). SelectsOn o m set s whole h two.found two.normal two.flag memory) (tree_first left behind a n is tree_is)
          (owes whole memory here loop)

      pub arms_ended : (r : PassOutcome V) → left ≡ [] → ComesOutAt m s.selection.point s.has_default s.other two r →
          IsMade o m set whole (outcome_view r) memory
      arms_ended r none at =
          selection_made s whole two r memory (subst (λ (h : Arms). SelectsOn o m set s whole h two.found two.normal two.flag memory) (arms_none left none)
          (owes whole memory here loop)) at

  pub followed_on : (p : SelectFrame V) (whole part : PassTask V) (memory : LoopCache V) (outcome all : PassOutcome V) (one : Running V) →
      IsSelect o m set p whole part
      → IsMade o m set part (outcome_view outcome) memory → AreInTurn p.found outcome.found all.found → all.normal ≡ outcome.normal → all.flag ≡ outcome.flag
      → one ≡ running_on all
      → SelectsOn o m set p.selecting whole (arms_of (map arm_view p.behind.now)) one.found one.normal one.flag memory
  followed_on p whole part memory outcome all one owed made turn same also is =
      subst (λ (x : Running V). SelectsOn o m set p.selecting whole (arms_of (map arm_view p.behind.now)) x.found x.normal x.flag memory) (sym is)
      (arm_followed p whole part memory outcome all owed made turn same also)

-- a `switch` is owed with its own plan
pub arms_way : {V H F : Type 0} (among : F → Interference V) (others : F) (m : Abstraction V H) (set : Plan) (s : Selecting V) (arms : Arms) (one : Running V)
    (whole : PassTask V) (memory : LoopCache V) → s.selection.plan.now ≡ set
    → MayBePassed (among others) m set whole → IsSelecting (among others) m set s whole
    → SelectsOn (among others) m set s whole arms one.found one.normal one.flag memory
    → (others : F) × (whole : PassTask V) × (memory : LoopCache V) × MayBePassed (among others) m s.selection.plan.now whole
    × IsSelecting (among others) m s.selection.plan.now s whole
    × SelectsOn (among others) m s.selection.plan.now s whole arms one.found one.normal one.flag memory
arms_way among others m set s arms one whole memory plan may here loop = (
  others,
  whole,
  memory,
  subst (λ (p : Plan). MayBePassed (among others) m p whole) (sym plan) may,
  subst (λ (p : Plan). IsSelecting (among others) m p s whole) (sym plan) here,
  subst (λ (p : Plan). SelectsOn (among others) m p s whole arms one.found one.normal one.flag memory) (sym plan) loop,
)

-- what runs
pub run_some : {V H : Type 0} (m : Abstraction V H) (n cap : ℕ) (o : Option V) (w : V) → o ≡ Some w → RunsFrom (lossy_operations m) n cap o w
run_some m n cap o w is = subst (λ x. RunsFrom (lossy_operations m) n cap x w) (sym is) refl

pub run_none : {V H E : Type 0} (m : Abstraction V H) (R : outcome_or.Result V E) (n k cap parts : ℕ) (o : Option V) → o ≡ None → k ≡ n → parts ≡ cap
    → IfOk R (λ v. m.bottom k parts v) → IfOk R (λ v. m.well_formed v) → IfOk R (λ v. RunsFrom (lossy_operations m) n cap o v)
run_none {V} m (outcome_or.Ok v) n k cap parts o none one two void formed =
    subst (λ (x : Option V). RunsFrom (lossy_operations m) n cap x v) (sym none)
    (subst (λ (i : ℕ). m.bottom i cap v) one (subst (λ (i : ℕ). m.bottom k i v) two void), formed)
run_none {V} m (outcome_or.Err e) n k cap parts o none one two void formed = tt
