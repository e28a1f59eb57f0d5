-- Places that are open: one more and one less of them, and what comes next at rows, choices and catches.
use Rattle.std.proofs.Common.{Box, Global, ◌≡◌, ◌≤◌, true, false, ℕ, List, [], ◌∷◌, ◌++◌, map, Option, Some, refl, sym, ap, subst, ◌∙◌}
use Rattle.std.specs.Prelude.{option_to_list, IfOk, MatchResult, OnOk}
use Rattle.std.specs.Prelude as outcome_or
use Rattle.lra_pass_stack.specs.Crates.{lra_analysis_spec.LiveLimit.most_live, lra_analysis_spec.MovesOf.guard, lra_analysis_spec.Operations.lossy_operations, lra_analysis_spec.Pass.Filters}
use Rattle.lra_pass_stack.specs.Crates.{lra_analysis_spec.Pass.jumps_of, lra_analysis_spec.Pass.noted, lra_analysis_spec.Pass.goes_on, lra_analysis_spec.Plan.Plan, lra_domain.Abstraction.Abstraction}
use Rattle.lra_pass_stack.specs.Crates.{lra_domain.Interference.Interference, lra_domain.declared.Exactness.Exactness, lra_domain.declared.Exactness.TheVariants.Exact}
use Rattle.lra_pass_stack.specs.Crates.{lra_program.ProgramViews.cond_view, lra_transfer.Splits.SplitsBy, lra_transfer.declared.splits.ConditionSplit.ConditionSplit}
use Rattle.lra_operations.specs.declared.tree.Node as node
use Rattle.lra_operations.specs.declared.tree.Exit as exit
use Rattle.lra_operations.specs.{Tree.Node, Tree.choose, Tree.catch, TreeViews.exit_view, TreeViews.node_view, TreeViews.row}
use Rattle.lra_pass_stack.proofs.Crates.lra_analysis_spec.Takes.{takes_made}
use Rattle.lra_pass_results.specs.{Dimensions.TreeFits, LoopCache.Remembers, LoopCache.StaysKept, Outcome.ended, Outcome.outcome_view, Outcome.AllHave, Outcome.AreInTurn, Outcome.AreBranchesJoined}
use Rattle.lra_pass_results.specs.{Outcome.Catches, Outcome.IsPassed, declared.loop_cache.LoopCache.LoopCache, declared.outcome.PassFindings.PassFindings, declared.outcome.PassOutcome.PassOutcome}
use Rattle.lra_pass_stack.specs.Stack.{PassTask, pass_task, ArePassFrames, PassIsUnderWay, IsBranch, IsChoice, IsMade, IsPassFrame, IsRow, PassStepLeads, MayBePassed, RowLoop}
use Rattle.lra_pass_stack.specs.declared.stack.PassFrame.TheVariants.{Row, Last, Choice, Branch, Catch}
use Rattle.lra_pass_stack.specs.{declared.stack.BranchFrame.BranchFrame, declared.stack.ChoiceFrame.ChoiceFrame, declared.stack.Entering.Entering, declared.stack.Next.TheVariants.Passed}
use Rattle.lra_pass_stack.specs.{declared.stack.Next.TheVariants.Opens, declared.stack.RowFrame.RowFrame, declared.stack.Step.TheVariants.Goes}
use Rattle.lra_pass_stack.specs.declared.stack.Next as next
use Rattle.lra_pass_stack.specs.declared.stack.PassFrame as place
use Rattle.lra_pass_stack.specs.declared.stack.Step as step
use Rattle.lra_pass_results.specs.declared.tree_forms.Choice as shape
use Rattle.lra_pass_results.proofs.CachedLoops.{caught_later, later_noted, met_later, recall_later, remembers_first, remembers_second, stays_choice, stays_passed}
use Rattle.lra_pass_results.proofs.{PassRows.row_first, PassRows.row_last, PassSteps.catch_fits, PassSteps.catch_passes, PassSteps.caught_have, PassSteps.choice_passed, PassSteps.ends_meet}
use Rattle.lra_pass_stack.proofs.OpenRows.{last_fits, last_remembers, next_fits, next_remembers, row_begins, row_ends, row_next, row_stays}

-- what comes next is the step
pub steps_on : {V H E : Type 0} (G : outcome_or.Result (next.Next V H) E) (R : outcome_or.Result (step.Step V H) E)
    (P : next.Next V H → Type 0) (Q : step.Step V H → Type 0) →
    MatchResult G (λ n. R ≡ outcome_or.Ok (Goes n)) (λ e. R ≡ outcome_or.Err e) → ((n : next.Next V H) → P n → Q (Goes n)) →
    IfOk G P → IfOk R Q
steps_on {V} {H} {E} (outcome_or.Ok n) R P Q is f p =
    subst (λ (x : outcome_or.Result (step.Step V H) E). IfOk x Q) (sym is) (f n p)
steps_on {V} {H} {E} (outcome_or.Err e) R P Q is f p =
    subst (λ (x : outcome_or.Result (step.Step V H) E). IfOk x Q) (sym is) tt

pub steps_both : {V H E : Type 0} (G : outcome_or.Result (next.Next V H) E) (R : outcome_or.Result (step.Step V H) E)
    (O : Type 0) (P : next.Next V H → Type 0) (Q : step.Step V H → Type 0) →
    MatchResult G (λ n. R ≡ outcome_or.Ok (Goes n)) (λ e. R ≡ outcome_or.Err e) →
    ((n : next.Next V H) → O → P n → Q (Goes n)) → OnOk G O → IfOk G P → IfOk R Q
steps_both {V} {H} {E} (outcome_or.Ok n) R O P Q is f o p =
    subst (λ (x : outcome_or.Result (step.Step V H) E). IfOk x Q) (sym is) (f n o p)
steps_both {V} {H} {E} (outcome_or.Err e) R O P Q is f o p =
    subst (λ (x : outcome_or.Result (step.Step V H) E). IfOk x Q) (sym is) tt

module _ {V H : Type 0} (o : Interference V) (m : Abstraction V H) (set : Plan) where
  -- one place more, in which this is under way
  pub open_more : (ps : List (place.PassFrame V H)) (p : place.PassFrame V H) (whole under inner : PassTask V) →
      ArePassFrames o m set ps whole under → MayBePassed o m set under → IsPassFrame o m set p under inner →
      ArePassFrames o m set (ps ++ p ∷ []) whole inner
  open_more [] p whole under inner same may owed =
      (inner, subst (λ (d : PassTask V). MayBePassed o m set d) same may, subst (λ (d : PassTask V). IsPassFrame o m set p d inner) same owed, refl)
  open_more (q ∷ ps) p whole under inner (later, begun, here, rest) may owed =
      (later, begun, here, open_more ps p later under inner rest may owed)

  -- one less
  pub open_less : (ps : List (place.PassFrame V H)) (p : place.PassFrame V H) (whole inner : PassTask V) →
      ArePassFrames o m set (ps ++ p ∷ []) whole inner → (under : PassTask V) × ArePassFrames o m set ps whole under ×
      MayBePassed o m set under × IsPassFrame o m set p under inner
  open_less [] p whole inner (later, may, owed, same) =
      (whole, refl, may, subst (λ (d : PassTask V). IsPassFrame o m set p whole d) (sym same) owed)
  open_less (q ∷ ps) p whole inner (later, may, owed, rest) =
      let less = open_less ps p later inner rest in
      (less.0, (later, may, owed, less.1), less.2, less.3)

  -- the loop begins
  pub begins : (ps : List (place.PassFrame V H)) (whole : PassTask V) (n : next.Next V H) (memory : LoopCache V) → ps ≡ [] →
      MayBePassed o m set whole → PassStepLeads o m set whole n memory → PassIsUnderWay o m set ps whole n memory
  begins ps whole n memory none may leads =
      subst (λ (qs : List (place.PassFrame V H)). PassIsUnderWay o m set qs whole n memory) (sym none)
      (record { part = whole; begun = may; owed = refl; leads = leads })

  -- it goes on
  pub went_on : (ps : List (place.PassFrame V H)) (whole under : PassTask V) (n : next.Next V H) (new : LoopCache V) →
      ArePassFrames o m set ps whole under → MayBePassed o m set under → PassStepLeads o m set under n new →
      PassIsUnderWay o m set ps whole n new
  went_on ps whole under n new owed may leads = record { part = under; begun = may; owed = owed; leads = leads }

  -- the loop, if what comes next is given by an equation
  module _ (ps : List (place.PassFrame V H)) (whole : PassTask V) (n : next.Next V H) (memory : LoopCache V)
      (way : PassIsUnderWay o m set ps whole n memory) where
    pub leads_on : (n' : next.Next V H) → n ≡ n' → PassStepLeads o m set way.part n' memory
    leads_on n' is = subst (λ (x : next.Next V H). PassStepLeads o m set way.part x memory) is way.leads

    -- the innermost place goes on, and must guarantee this, with what is made there
    pub popped : (left : List (place.PassFrame V H)) (last : Option (place.PassFrame V H)) (p : place.PassFrame V H) (r : PassOutcome V) →
        n ≡ Passed r → ps ≡ left ++ option_to_list last → last ≡ Some p → (under : PassTask V) × (part : PassTask V) ×
        ArePassFrames o m set left whole under × MayBePassed o m set under × IsPassFrame o m set p under part ×
        IsMade o m set part (outcome_view r) memory
    popped left last p r is left_is some =
        let all : ArePassFrames o m set (left ++ p ∷ []) whole way.part =
        subst (λ (x : Option (place.PassFrame V H)). ArePassFrames o m set (left ++ option_to_list x) whole way.part) some
        (subst (λ (qs : List (place.PassFrame V H)). ArePassFrames o m set qs whole way.part) left_is way.owed) in
        let less = open_less left p whole way.part all in
        (less.0, way.part, less.1, less.2, less.3, leads_on (Passed r) is)

    -- a place opens in it
    pub pushed : (p : place.PassFrame V H) (tree : Entering V) (all : List (place.PassFrame V H)) (n' : next.Next V H)
        (new : LoopCache V) → n ≡ Opens p tree → all ≡ ps ++ p ∷ [] → PassStepLeads o m set (pass_task tree memory) n' new →
        PassIsUnderWay o m set all whole n' new
    pushed p tree all n' new is all_is leads =
        let here = leads_on (Opens p tree) is in
        subst (λ (qs : List (place.PassFrame V H)). PassIsUnderWay o m set qs whole n' new) (sym all_is) (record {
          part = pass_task tree memory;
          begun = here.1;
          owed = open_more ps p whole way.part (pass_task tree memory) way.owed way.begun here.0;
          leads = leads;
        })

    -- nothing is open any more: the whole is made
    pub all_made : (r : PassOutcome V) → n ≡ Passed r → ps ≡ [] → IsMade o m set whole (outcome_view r) memory
    all_made r is none =
        let same : ArePassFrames o m set [] whole way.part =
        subst (λ (qs : List (place.PassFrame V H)). ArePassFrames o m set qs whole way.part) none way.owed in
        subst (λ (d : PassTask V). IsMade o m set d (outcome_view r) memory) same (leads_on (Passed r) is)

  -- a place opens for the tree
  abbrev OpensAt : PassTask V → place.PassFrame V H → node.Node → V → Option ℕ → LoopCache V → Type 0
  OpensAt whole p n value flag memory =
      let part : PassTask V = record { tree = node_view n; value = value; flag = flag; memory = memory } in
      IsPassFrame o m set p whole part × MayBePassed o m set part

  -- trees in a row --------------------------------------------------------------------------------------------------

  -- the first of them is next
  pub row_opened : (gs : List node.Node) (last : node.Node) (whole : PassTask V) (value : V) (flag : Option ℕ)
      (begun : PassOutcome V) → whole.tree ≡ row (map node_view gs) (node_view last) → whole.value ≡ value →
      whole.flag ≡ flag → MayBePassed o m set whole → ((u : V) (d : Option ℕ) → ended begun.found u d ≡ goes_on [] u d) →
      begun.normal ≡ value → begun.flag ≡ flag →
      RowLoop o m set whole.tree whole.flag whole.value (row (map node_view gs) (node_view last)) begun.found
      begun.normal begun.flag whole.memory whole.memory
  row_opened gs last whole value flag begun is first flagged may none one two =
      subst (λ (g : Node). RowLoop o m set whole.tree whole.flag whole.value g begun.found begun.normal begun.flag
      whole.memory whole.memory) is
      (row_begins o m set whole.tree whole.flag whole.value begun whole.memory may.few may.fits none (one ∙ sym first)
      (two ∙ sym flagged))

  -- the first of those that are left is
  pub row_leads : (r : RowFrame V) (gs : List node.Node) (n : node.Node) (value : V) (flag : Option ℕ) (whole : PassTask V)
      (memory : LoopCache V) → r.behind.plan.now ≡ set → gs ≡ n ∷ r.behind.trees.now → MayBePassed o m set whole →
      RowLoop o m set whole.tree whole.flag whole.value (row (map node_view gs) (node_view r.behind.last.now)) r.found value
      flag whole.memory memory → OpensAt whole (Row r) n value flag memory
  row_leads r gs n value flag whole memory plan first may loop =
      let is = row_first gs r.behind.trees.now n r.behind.last.now first in (
        record {
          plan = plan;
          loop = subst (λ (g : Node). RowLoop o m set whole.tree whole.flag whole.value g r.found value flag
              whole.memory memory) is loop;
        },
        record {
          few = loop.few;
          fits = next_fits o m set whole.tree whole.flag whole.value _ r.found value flag whole.memory memory loop _ _ is;
          remembers = next_remembers o m set whole.tree whole.flag whole.value _ r.found value flag whole.memory
              memory loop _ _ is may.remembers;
        },
      )

  -- the last is
  pub last_leads : (gs : List node.Node) (found : PassFindings V) (n : node.Node) (value : V) (flag : Option ℕ)
      (whole : PassTask V) (memory : LoopCache V) → gs ≡ [] → MayBePassed o m set whole →
      RowLoop o m set whole.tree whole.flag whole.value (row (map node_view gs) (node_view n))
      found value flag whole.memory memory → OpensAt whole (Last found) n value flag memory
  last_leads gs found n value flag whole memory none may loop =
      let is = row_last gs n none in (
        subst (λ (g : Node). RowLoop o m set whole.tree whole.flag whole.value g found value flag
            whole.memory memory) is loop,
        record {
          few = loop.few;
          fits = last_fits o m set whole.tree whole.flag whole.value _ found value flag whole.memory memory loop _ is;
          remembers = last_remembers o m set whole.tree whole.flag whole.value _ found value flag whole.memory
              memory loop _ is may.remembers;
        },
      )

  -- after what the tree under way found
  pub row_followed : (r : RowFrame V) (whole part : PassTask V) (memory : LoopCache V) (outcome so_far : PassOutcome V) →
      IsRow o m set r whole part → IsMade o m set part (outcome_view outcome) memory →
      AreInTurn r.found outcome.found so_far.found → so_far.normal ≡ outcome.normal → so_far.flag ≡ outcome.flag →
      RowLoop o m set whole.tree whole.flag whole.value
      (row (map node_view r.behind.trees.now) (node_view r.behind.last.now)) so_far.found so_far.normal
      so_far.flag whole.memory memory
  row_followed r whole part memory outcome so_far owed made turn one two =
      row_next o m set whole.tree whole.flag whole.value _ r.found part.value part.flag whole.memory part.memory owed.loop
      _ _ refl (outcome_view outcome) so_far.found so_far.normal so_far.flag memory made.stays made.passed
      (λ u d. turn part.value outcome.normal u part.flag outcome.flag d) one two

  -- after what the last found
  pub last_made : (found : PassFindings V) (whole part : PassTask V) (memory : LoopCache V) (outcome all : PassOutcome V) →
      IsPassFrame o m set (Last found) whole part → IsMade o m set part (outcome_view outcome) memory →
      AreInTurn found outcome.found all.found → all.normal ≡ outcome.normal → all.flag ≡ outcome.flag →
      IsMade o m set whole (outcome_view all) memory
  last_made found whole part memory outcome all loop made turn one two = record {
    passed = row_ends o m set whole.tree whole.flag whole.value _ found part.value part.flag whole.memory part.memory loop
        _ refl (outcome_view outcome) all.found all.normal all.flag made.passed
        (λ u d. turn part.value outcome.normal u part.flag outcome.flag d) one two;
    stays = subst (λ (f : Option ℕ). StaysKept o m set whole.tree whole.flag whole.memory f memory) (sym two)
        (row_stays o m set whole.tree whole.flag whole.value _ found part.value part.flag whole.memory part.memory loop
        _ refl outcome.flag memory made.stays);
  }

  -- choices -----------------------------------------------------------------------------------------------------------

  -- the first branch is next
  pub choice_leads : (k : ChoiceFrame V) (n : node.Node) (value : V) (flag : Option ℕ) (whole : PassTask V) (e : Exactness) →
      k.choice.plan.now ≡ set → whole.tree ≡ choose k.choice.point k.choice.base (cond_view k.choice.condition.now)
      (node_view n) (node_view k.choice.no.now) → MayBePassed o m set whole →
      Filters (lossy_operations m) k.choice.base (cond_view k.choice.condition.now) true whole.value e value →
      m.dims value ≡ m.dims whole.value → flag ≡ noted k.choice.point e whole.flag →
      Filters (lossy_operations m) k.choice.base (cond_view k.choice.condition.now) false whole.value k.off.exactness
      k.off.value → m.dims k.off.value ≡ m.dims whole.value → OpensAt whole (Choice k) n value flag whole.memory
  choice_leads k n value flag whole e plan is may on on_dims flagged off off_dims =
      let fits = subst (λ (g : Node). TreeFits g (m.dims whole.value)) is may.fits in (
        record {
          plan = plan;
          is = is;
          exactness = e;
          on = on;
          on_dims = on_dims;
          flagged = flagged;
          off = off;
          off_dims = off_dims;
          kept = refl;
        },
        record {
          few = subst (λ (k : ℕ). k ≤ most_live) (sym on_dims) may.few;
          fits = subst (λ (k : ℕ). TreeFits (node_view n) k) (sym on_dims) fits.0;
          remembers = remembers_first o m set k.choice.point k.choice.base (cond_view k.choice.condition.now)
              (node_view n) (node_view k.choice.no.now) whole.flag flag whole.flag whole.flag whole.memory
              whole.memory (subst (λ (g : Node). Remembers o m set g whole.flag whole.memory) is may.remembers)
              (later_noted k.choice.point e whole.flag flag flagged);
        },
      )

  -- what its condition leaves
  pub choice_opens : (k : shape.Choice) (sides : ConditionSplit V) (value : V) (flag inside : Option ℕ) (whole : PassTask V) →
      SplitsBy m k.base true (cond_view k.condition.now) (record { value = value; exactness = Exact }) sides → inside ≡ noted k.point sides.on.exactness flag →
      k.plan.now ≡ set → whole.tree ≡ choose k.point k.base (cond_view k.condition.now) (node_view k.yes.now)
      (node_view k.no.now) → whole.value ≡ value → whole.flag ≡ flag → MayBePassed o m set whole →
      OpensAt whole (Choice (record { choice = k; off = sides.off })) k.yes.now sides.on.value inside whole.memory
  choice_opens k sides value flag inside whole splits flagged plan is first before may =
      let c = cond_view k.condition.now in
      let n = m.dims value in
      let on = takes_made (lossy_operations m) (guard n k.base true c) value sides.on.value sides.on.exactness splits.on in
      let off = takes_made (lossy_operations m) (guard n k.base false c) value sides.off.value sides.off.exactness splits.off in
      choice_leads (record { choice = k; off = sides.off }) k.yes.now sides.on.value inside whole sides.on.exactness plan
      is may (subst (λ (v : V). Filters (lossy_operations m) k.base c true v sides.on.exactness sides.on.value) (sym first) on)
      (splits.on_dims ∙ ap m.dims (sym first)) (flagged ∙ ap (noted k.point sides.on.exactness) (sym before))
      (subst (λ (v : V). Filters (lossy_operations m) k.base c false v sides.off.exactness sides.off.value) (sym first) off)
      (splits.off_dims ∙ ap m.dims (sym first))

  -- after it, the second
  pub branch_leads : (k : ChoiceFrame V) (first : PassOutcome V) (b : Box (BranchFrame V) Global) (flag : Option ℕ)
      (whole part : PassTask V) (memory : LoopCache V) → b.value ≡ record { point = k.choice.point; first = first } →
      MayBePassed o m set whole → IsChoice o m set k whole part → IsMade o m set part (outcome_view first) memory →
      flag ≡ noted k.choice.point k.off.exactness first.flag →
      OpensAt whole (Branch b) k.choice.no.now k.off.value flag memory
  branch_leads k first b flag whole part memory boxed may owed made flagged =
      let c = cond_view k.choice.condition.now in
      let fits = subst (λ (g : Node). TreeFits g (m.dims whole.value)) owed.is may.fits in
      let stays : StaysKept o m set part.tree part.flag whole.memory first.flag memory =
      subst (λ (x : LoopCache V). StaysKept o m set part.tree part.flag x first.flag memory) owed.kept made.stays in (
        subst (λ (x : BranchFrame V). IsBranch o m set x whole (record {
          tree = node_view k.choice.no.now;
          value = k.off.value;
          flag = flag;
          memory = memory;
        })) (sym boxed) (record {
          base = k.choice.base;
          condition = c;
          first = part;
          is = owed.is;
          kept = owed.kept;
          on_exactness = owed.exactness;
          on = owed.on;
          on_dims = owed.on_dims;
          on_flagged = owed.flagged;
          made = made;
          off_exactness = k.off.exactness;
          off = owed.off;
          off_dims = owed.off_dims;
          off_flagged = flagged;
        }),
        record {
          few = subst (λ (n : ℕ). n ≤ most_live) (sym owed.off_dims) may.few;
          fits = subst (λ (n : ℕ). TreeFits (node_view k.choice.no.now) n) (sym owed.off_dims) fits.1;
          remembers = remembers_second o m set k.choice.point k.choice.base c part.tree (node_view k.choice.no.now) whole.flag
              part.flag first.flag flag whole.memory memory
              (subst (λ (g : Node). Remembers o m set g whole.flag whole.memory) owed.is may.remembers)
              (later_noted k.choice.point owed.exactness whole.flag part.flag owed.flagged) stays
              (later_noted k.choice.point k.off.exactness first.flag flag flagged);
        },
      )

  module _ (b : BranchFrame V) (whole part : PassTask V) (owed : IsBranch o m set b whole part) (second : PassOutcome V)
      (memory : LoopCache V) (made : IsMade o m set part (outcome_view second) memory) where
    -- both ends have as many dimensions
    pub branches_meet : MayBePassed o m set whole → m.dims b.first.normal ≡ m.dims second.normal
    branches_meet may = ends_meet o m set b.point owed.base owed.condition owed.first.tree part.tree owed.first.flag
        part.flag (m.dims whole.value) owed.first.value part.value (outcome_view b.first) (outcome_view second)
        (subst (λ (g : Node). TreeFits g (m.dims whole.value)) owed.is may.fits) owed.on_dims owed.off_dims
        owed.made.passed made.passed

    -- and are joined
    pub branches_made : (r : PassOutcome V) → AreBranchesJoined m b.point (outcome_view b.first) (outcome_view second) (outcome_view r) →
        m.dims r.normal ≡ m.dims b.first.normal → IsMade o m set whole (outcome_view r) memory
    branches_made r met dims =
        let one = subst (λ (f : Option ℕ). IsPassed o m set owed.first.tree f owed.first.value (outcome_view b.first))
        owed.on_flagged owed.made.passed in
        let two = subst (λ (f : Option ℕ). IsPassed o m set part.tree f part.value (outcome_view second))
        owed.off_flagged made.passed in
        let stays : StaysKept o m set owed.first.tree owed.first.flag whole.memory b.first.flag part.memory =
        subst (λ (x : LoopCache V). StaysKept o m set owed.first.tree owed.first.flag x b.first.flag part.memory) owed.kept
        owed.made.stays in
        record {
          passed = subst (λ (g : Node). IsPassed o m set g whole.flag whole.value (outcome_view r)) (sym owed.is)
              (choice_passed o m set b.point owed.base owed.condition owed.first.tree part.tree whole.flag whole.value
              owed.first.value part.value owed.on_exactness owed.off_exactness (outcome_view b.first) (outcome_view second) (outcome_view r)
              owed.on owed.on_dims one owed.off owed.off_dims two met dims);
          stays = subst (λ (g : Node). StaysKept o m set g whole.flag whole.memory r.flag memory) (sym owed.is)
              (stays_choice o m set b.point owed.base owed.condition owed.first.tree part.tree whole.flag owed.first.flag
              b.first.flag part.flag whole.memory part.memory second.flag r.flag memory
              (later_noted b.point owed.on_exactness whole.flag owed.first.flag owed.on_flagged) stays
              (later_noted b.point owed.off_exactness b.first.flag part.flag owed.off_flagged) made.stays
              (met_later m b.point (outcome_view b.first) (outcome_view second) (outcome_view r) met));
        }

  -- catches -----------------------------------------------------------------------------------------------------------

  -- the tree in a catch is next
  pub catch_leads : (q : ℕ) (k : exit.Exit) (n : node.Node) (value : V) (flag : Option ℕ) (whole : PassTask V) →
      whole.tree ≡ catch q (exit_view k) (node_view n) → value ≡ whole.value →
      flag ≡ whole.flag → MayBePassed o m set whole → OpensAt whole (Catch q k) n value flag whole.memory
  catch_leads q k n value flag whole is same flagged may =
      let fits = subst (λ (g : Node). TreeFits g (m.dims whole.value)) is may.fits in
      let remembers : Remembers o m set (node_view n) whole.flag whole.memory =
      subst (λ (g : Node). Remembers o m set g whole.flag whole.memory) is may.remembers in (
        (is, same, flagged, refl),
        record {
          few = subst (λ (v : V). m.dims v ≤ most_live) (sym same) may.few;
          fits = subst (λ (v : V). TreeFits (node_view n) (m.dims v)) (sym same) fits.0;
          remembers = subst (λ (f : Option ℕ). Remembers o m set (node_view n) f whole.memory) (sym flagged)
              remembers;
        },
      )

  module _ (q : ℕ) (k : exit.Exit) (whole part : PassTask V) (owed : IsPassFrame o m set (Catch q k) whole part)
      (inner : PassOutcome V) (memory : LoopCache V) (made : IsMade o m set part (outcome_view inner) memory) where
    caught_inside : IsPassed o m set part.tree whole.flag whole.value (outcome_view inner)
    caught_inside = subst (λ (v : V). IsPassed o m set part.tree whole.flag v (outcome_view inner)) owed.1
        (subst (λ (f : Option ℕ). IsPassed o m set part.tree f part.value (outcome_view inner)) owed.2 made.passed)

    caught_stays : StaysKept o m set part.tree whole.flag whole.memory inner.flag memory
    caught_stays = subst (λ (x : LoopCache V). StaysKept o m set part.tree whole.flag x inner.flag memory) owed.3
        (subst (λ (f : Option ℕ). StaysKept o m set part.tree f part.memory inner.flag memory) owed.2 made.stays)

    pub jumps_have : MayBePassed o m set whole →
        AllHave m (m.dims inner.normal) (jumps_of (exit_view k) (outcome_view inner))
    jumps_have may = caught_have m q (exit_view k) part.tree (m.dims whole.value) (outcome_view inner)
        (subst (λ (g : Node). TreeFits g (m.dims whole.value)) owed.0 may.fits) caught_inside.jumps caught_inside.dims

    pub catch_made : (r : PassOutcome V) → Catches m q (exit_view k) (outcome_view inner) (outcome_view r) →
        m.dims r.normal ≡ m.dims inner.normal → IsMade o m set whole (outcome_view r) memory
    catch_made r catches dims = record {
      passed = subst (λ (g : Node). IsPassed o m set g whole.flag whole.value (outcome_view r)) (sym owed.0) (record {
        pass = catch_passes o m set q (exit_view k) part.tree whole.flag whole.value (outcome_view inner) (outcome_view r)
            caught_inside.pass catches;
        dims = dims ∙ caught_inside.dims;
        jumps = catch_fits m q (exit_view k) part.tree (m.dims whole.value) (outcome_view inner) (outcome_view r) caught_inside.jumps
            catches;
      });
      stays = subst (λ (g : Node). StaysKept o m set g whole.flag whole.memory r.flag memory) (sym owed.0)
          (λ loops has all. recall_later o m set loops inner.flag r.flag memory
          (caught_later m q (exit_view k) (outcome_view inner) (outcome_view r) catches) (caught_stays loops has all));
    }

  -- leaves ------------------------------------------------------------------------------------------------------------

  pub leaf_made : (whole : PassTask V) (g : Node) (r : PassOutcome V) → whole.tree ≡ g →
      IsPassed o m set g whole.flag whole.value (outcome_view r) → IsMade o m set whole (outcome_view r) whole.memory
  leaf_made whole g r is here =
      let passed : IsPassed o m set whole.tree whole.flag whole.value (outcome_view r) =
      subst (λ (z : Node). IsPassed o m set z whole.flag whole.value (outcome_view r)) (sym is) here in
      record {
        passed = passed;
        stays = stays_passed o m set whole.tree whole.flag whole.value (outcome_view r) whole.memory passed;
      }
