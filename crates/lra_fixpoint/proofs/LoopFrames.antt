-- Places at loops: what their bodies are passed from, and what comes after a round.
use Rattle.std.proofs.Common.{◌≡◌, ◌≤◌, ℕ, suc, Option, Some, None, refl, sym, ap, subst, ◌∙◌}
use Rattle.lra_fixpoint.specs.Crates.{lra_analysis_spec.Live.live_after, lra_analysis_spec.LiveLimit.most_live, lra_analysis_spec.Operations.lossy_operations, lra_analysis_spec.Pass.noted}
use Rattle.lra_fixpoint.specs.Crates.{lra_analysis_spec.Plan.Plan, lra_analysis_spec.Plan.mode_at, lra_analysis_spec.Thresholds.loop_thresholds, lra_domain.Abstraction.Abstraction}
use Rattle.lra_fixpoint.specs.Crates.{lra_domain.Interference.Interference, lra_domain.Rank.RankFits, lra_domain.declared.Exactness.Exactness, lra_program.ProgramViews.cond_view}
use Rattle.lra_operations.specs.{Tree.Node, Tree.iterate, TreeViews.node_view}
use Rattle.lra_pass_results.specs.{Dimensions.TreeFits, Heads.IsValued, Heads.GrowsBy, LoopCache.AreRecalled, LoopCache.MayRecall, LoopCache.Remembers, LoopCache.StaysKept, Outcome.headed}
use Rattle.lra_pass_results.specs.{Outcome.outcome_view, Outcome.AreKept, Outcome.IsEntered, Outcome.IsKept, Outcome.IsPassed, Outcome.IsLoopRound, Outcome.LeavesWith, declared.heads.Growing.Growing}
use Rattle.lra_pass_results.specs.{declared.loop_cache.LoopCache.LoopCache, declared.outcome.Entered.TheVariants.Again as again, declared.outcome.Entered.TheVariants.Anew}
use Rattle.lra_pass_results.specs.{declared.outcome.HeadRound.HeadRound, declared.outcome.LoopRound.LoopRound, declared.outcome.PassOutcome.PassOutcome, declared.tree_forms.Loop.Loop}
use Rattle.lra_pass_stack.specs.Stack.{PassTask, HasEntered, IsGrowing, IsHead, IsLoopDue, IsMade, IsNarrowed, IsNarrowing, IsWaiting, MayBePassed, NarrowLoop}
use Rattle.lra_pass_stack.specs.{declared.stack.GrowingFrame.GrowingFrame, declared.stack.Narrowing.Narrowing, declared.stack.NarrowingFrame.NarrowingFrame}
use Rattle.lra_pass_results.proofs.CachedLoops.{later_noted, recalled_passed, remembers_body, remembers_later, remembers_on, stays_begun, stays_both, stays_passed, stays_recalled, stays_since}
use Rattle.lra_pass_results.proofs.{Again.all_noted, Again.kept_noted, Again.passed_kept, Again.turned, CachedLoops.stays_then, PassSteps.loop_passed}
use Rattle.lra_fixpoint.proofs.PassLoops.{head_next, head_stable, head_starts, head_wide, narrow_ends, narrow_next, narrow_starts}

-- the loop's body is next
abbrev at : {V : Type 0} → Loop → V → Option ℕ → LoopCache V → PassTask V
at l value flag memory = record { tree = node_view l.body.now; value = value; flag = flag; memory = memory }

module _ {V H : Type 0} (o : Interference V) (m : Abstraction V H) (set : Plan) where
  -- a body that is entered from a value at the head
  module _ (l : Loop) (whole : PassTask V) (may : MayBePassed o m set whole)
      (is : whole.tree ≡ iterate l.point l.base (cond_view l.condition.now) (node_view l.body.now)) where
    loop_fits : TreeFits (iterate l.point l.base (cond_view l.condition.now) (node_view l.body.now)) (m.dims whole.value)
    loop_fits = subst (λ (g : Node). TreeFits g (m.dims whole.value)) is may.fits

    loop_remembers : Remembers o m set (iterate l.point l.base (cond_view l.condition.now) (node_view l.body.now)) whole.flag
        whole.memory
    loop_remembers = subst (λ (g : Node). Remembers o m set g whole.flag whole.memory) is may.remembers

    module _ (top : V) (flag : Option ℕ) (memory : LoopCache V) (wide : m.dims top ≡ m.dims whole.value)
        (remembers : Remembers o m set (node_view l.body.now) flag memory) where
      -- what the condition leaves is next
      body_may : (value : V) (inside : Option ℕ) (entered : V) → IsEntered o m l.plan.now l.point l.base
          (cond_view l.condition.now) (node_view l.body.now) flag top (Anew entered value inside) →
          HasEntered o m set l top flag entered (at l value inside memory) × MayBePassed o m set (at l value inside memory)
      body_may value inside entered has =
          let dims : m.dims value ≡ m.dims whole.value = has.3 ∙ wide in (
            record {
              body = refl;
              exactness = has.0;
              on = has.1;
              flagged = has.2;
              dims = has.3;
              same = has.4;
            },
            record {
              few = subst (λ (n : ℕ). n ≤ most_live) (sym dims) may.few;
              fits = subst (λ (n : ℕ). TreeFits (node_view l.body.now) n) (sym dims) loop_fits.0;
              remembers = remembers_later o m set (node_view l.body.now) flag inside memory
                  (later_noted l.point has.0 flag inside has.2) remembers;
            },
          )

      -- or it was passed before
      body_again : (turn : LoopRound V) (entered : V) (outcome : PassOutcome V) → l.plan.now ≡ set →
          IsEntered o m l.plan.now l.point l.base (cond_view l.condition.now)
          (node_view l.body.now) flag top (again turn) → entered ≡ turn.entered → outcome ≡ turn.outcome →
          (part : PassTask V) × (part.memory ≡ memory) × HasEntered o m set l top flag entered part ×
          IsMade o m set part (outcome_view outcome) memory
      body_again turn entered outcome plan has same given =
          let inside = noted l.point has.0 flag in
          let passed : IsPassed o m set (node_view l.body.now) inside turn.entered (outcome_view outcome) =
          subst (λ (x : Plan). IsPassed o m x (node_view l.body.now) inside turn.entered (outcome_view outcome)) plan
          (subst (λ (x : PassOutcome V). IsPassed o m l.plan.now (node_view l.body.now) inside turn.entered (outcome_view x))
          (sym given) has.2) in (
            record { tree = node_view l.body.now; value = turn.entered; flag = inside; memory = memory },
            refl,
            record {
              body = refl;
              exactness = has.0;
              on = has.1;
              flagged = refl;
              dims = has.3;
              same = same;
            },
            record {
              passed = passed;
              stays = stays_passed o m set (node_view l.body.now) inside turn.entered (outcome_view outcome) memory passed;
            },
          )

    -- what was passed from what entered the body is a turn
    module _ (top : V) (flag : Option ℕ) (wide : m.dims top ≡ m.dims whole.value) (part : PassTask V) (entered : V)
        (outcome : PassOutcome V) (new : LoopCache V) (has : HasEntered o m set l top flag entered part)
        (made : IsMade o m set part (outcome_view outcome) new) where
      body_turned : IsLoopRound o m set l.point l.base (cond_view l.condition.now) (node_view l.body.now) flag top
          (record { entered = entered; outcome = outcome })
      body_turned = turned o m set (node_view l.body.now) l.point l.base (cond_view l.condition.now) flag part.flag top
          part.value has.exactness (record { entered = entered; outcome = outcome }) has.on has.flagged has.dims
          (subst (λ (n : ℕ). live_after (node_view l.body.now) n ≡ n) (sym wide) loop_fits.1) has.same
          (subst (λ (g : Node). IsPassed o m set g part.flag part.value (outcome_view outcome)) has.body made.passed)

      body_stays : StaysKept o m set (node_view l.body.now) flag part.memory outcome.flag new
      body_stays = stays_since o m set (node_view l.body.now) flag part.flag outcome.flag part.memory new
          (later_noted l.point has.exactness flag part.flag has.flagged)
          (subst (λ (g : Node). StaysKept o m set g part.flag part.memory outcome.flag new) has.body made.stays)

  -- a head that begins ------------------------------------------------------------------------------------------------

  module _ (l : Loop) (whole : PassTask V) (first : V) (flag : Option ℕ) (memory : LoopCache V)
      (here : IsLoopDue o m set l whole first flag memory) where
    pub due_few : m.dims first ≤ most_live
    due_few = subst (λ (v : V). m.dims v ≤ most_live) here.first_is here.may.few

    due_remembers : Remembers o m set (iterate l.point l.base (cond_view l.condition.now) (node_view l.body.now)) whole.flag
        whole.memory
    due_remembers = loop_remembers l whole here.may here.is

    pub head_opens : (growing : Growing V H) (begun : LoopCache V) → begun.kept ≡ memory.kept →
        (lossy_operations m).started first (loop_thresholds l.plan.now.widening (m.dims first) l.base (cond_view l.condition.now) (node_view l.body.now))
        growing.head →
        RankFits (m.rank growing.head) → IsValued m l.point flag growing.head growing.value growing.flag →
        growing.left ≡ l.plan.now.delay → IsHead o m set l whole first growing None begun
    head_opens growing begun kept started fits valued left = record {
      begun = begun;
      loop = record {
        plan = here.plan;
        is = here.is;
        first_is = sym here.first_is;
        kept = kept ∙ ap (λ (x : LoopCache V). x.kept) (sym here.kept);
      };
      head = head_starts o m set l.point l.base (cond_view l.condition.now) (node_view l.body.now) whole.value whole.flag
          growing begun (subst (λ (v : V). (lossy_operations m).started v
          (loop_thresholds set.widening (m.dims v) l.base (cond_view l.condition.now) (node_view l.body.now)) growing.head)
          (sym here.first_is) (subst (λ (x : Plan). (lossy_operations m).started first (loop_thresholds x.widening (m.dims first) l.base
          (cond_view l.condition.now) (node_view l.body.now)) growing.head) here.plan started)) fits
          (subst (λ (f : Option ℕ). IsValued m l.point f growing.head growing.value growing.flag) (sym here.flagged) valued)
          (left ∙ ap (λ (x : Plan). x.delay) here.plan);
    }

    -- what is kept is given
    pub loop_recalled : (given : Option (PassOutcome V)) (r : PassOutcome V) (new : LoopCache V) →
        ((plan : Plan) (loops : ℕ → Node) → MayRecall o m plan loops flag memory →
        AreRecalled o m plan (loops l.point) flag first given) → new.kept ≡ memory.kept → given ≡ Some r →
        IsMade o m set whole (outcome_view r) new
    loop_recalled given r new gives kept is =
        let tree = iterate l.point l.base (cond_view l.condition.now) (node_view l.body.now) in
        let remembers : Remembers o m set tree flag memory =
        subst (λ (f : Option ℕ). Remembers o m set tree f memory) here.flagged
        (subst (λ (x : LoopCache V). Remembers o m set tree whole.flag x) here.kept due_remembers) in
        let passed : IsPassed o m set tree flag first (outcome_view r) = recalled_passed o m set l.point l.base
        (cond_view l.condition.now) (node_view l.body.now) flag first memory given r remembers (gives set) is in
        let there : IsPassed o m set tree whole.flag whole.value (outcome_view r) =
        subst (λ (f : Option ℕ). IsPassed o m set tree f whole.value (outcome_view r)) (sym here.flagged)
        (subst (λ (v : V). IsPassed o m set tree flag v (outcome_view r)) (sym here.first_is) passed) in
        record {
          passed = subst (λ (g : Node). IsPassed o m set g whole.flag whole.value (outcome_view r)) (sym here.is) there;
          stays = subst (λ (g : Node). StaysKept o m set g whole.flag whole.memory r.flag new) (sym here.is)
              (stays_recalled o m set l.point l.base (cond_view l.condition.now) (node_view l.body.now) whole.flag whole.value
              (outcome_view r) whole.memory new (kept ∙ ap (λ (x : LoopCache V). x.kept) (sym here.kept)) there);
        }

  -- a head that grows -------------------------------------------------------------------------------------------------

  module _ (l : Loop) (whole : PassTask V) (first : V) (growing : Growing V H) (turn : Option (LoopRound V)) (memory : LoopCache V)
      (may : MayBePassed o m set whole) (here : IsHead o m set l whole first growing turn memory) where
    growing_wide : m.dims growing.value ≡ m.dims whole.value
    growing_wide = head_wide o m set l.point l.base (cond_view l.condition.now) (node_view l.body.now) whole.value whole.flag
        growing turn here.begun memory here.head

    pub growing_few : m.dims growing.value ≤ most_live
    growing_few = subst (λ (n : ℕ). n ≤ most_live) (sym growing_wide) may.few

    growing_remembers : Remembers o m set (node_view l.body.now) growing.flag memory
    growing_remembers = remembers_on o m set (node_view l.body.now) whole.flag here.head.so_far growing.flag here.begun memory
        (remembers_body o m set l.point l.base (cond_view l.condition.now) (node_view l.body.now) whole.flag whole.memory
        here.begun here.loop.kept (loop_remembers l whole may here.loop.is)) here.head.loop.stays
        (later_noted l.point here.head.valued.0 here.head.so_far growing.flag here.head.valued.2)

    pub growing_kept : AreKept o m l.plan.now (node_view l.body.now) growing.flag turn
    growing_kept = subst (λ (x : Plan). AreKept o m x (node_view l.body.now) growing.flag turn) (sym here.loop.plan)
        (subst (λ (f : Option ℕ). AreKept o m set (node_view l.body.now) f turn) (sym here.head.valued.2)
        (all_noted o m set (node_view l.body.now) l.point here.head.valued.0 here.head.so_far turn here.head.loop.kept))

    -- the last turn needn't be given again
    growing_on : IsHead o m set l whole first growing None memory
    growing_on = record {
      begun = here.begun;
      loop = here.loop;
      head = record {
        so_far = here.head.so_far;
        valued = here.head.valued;
        loop = record {
          dims = here.head.loop.dims;
          fits = here.head.loop.fits;
          kept = tt;
          stays = here.head.loop.stays;
          grows = here.head.loop.grows;
        };
      };
    }

    pub growing_opens : (value : V) (inside : Option ℕ) (entered : V) → IsEntered o m l.plan.now l.point l.base
        (cond_view l.condition.now) (node_view l.body.now) growing.flag growing.value (Anew entered value inside) → IsGrowing o m set (record {
          the_loop = l;
          first = first;
          growing = growing;
          entered = entered;
        }) whole (at l value inside memory) × MayBePassed o m set (at l value inside memory)
    growing_opens value inside entered has =
        let now = body_may l whole may here.loop.is growing.value growing.flag memory growing_wide growing_remembers value
        inside entered has in (record { head = growing_on; entered = now.0 }, now.1)

    pub growing_again : (given : LoopRound V) (entered : V) (outcome : PassOutcome V) → IsEntered o m l.plan.now l.point l.base
        (cond_view l.condition.now) (node_view l.body.now) growing.flag growing.value (again given) →
        entered ≡ given.entered → outcome ≡ given.outcome → (part : PassTask V) × IsGrowing o m set (record {
          the_loop = l;
          first = first;
          growing = growing;
          entered = entered;
        }) whole part × IsMade o m set part (outcome_view outcome) memory
    growing_again given entered outcome has same is =
        let now = body_again l whole may here.loop.is growing.value growing.flag memory growing_wide growing_remembers
        given entered outcome here.loop.plan has same is in (
          now.0,
          record {
            head = subst (λ (x : LoopCache V). IsHead o m set l whole first growing None x) (sym now.1) growing_on;
            entered = now.2;
          },
          now.3,
        )

  -- after its round
  module _ (p : GrowingFrame V H) (whole part : PassTask V) (outcome : PassOutcome V) (new : LoopCache V)
      (may : MayBePassed o m set whole) (owed : IsGrowing o m set p whole part)
      (made : IsMade o m set part (outcome_view outcome) new) where
    abbrev l : Loop
    l = p.the_loop

    abbrev body : Node
    body = node_view p.the_loop.body.now

    abbrev turn : LoopRound V
    turn = record { entered = p.entered; outcome = outcome }

    grown_turned : IsLoopRound o m set l.point l.base (cond_view l.condition.now) body p.growing.flag p.growing.value turn
    grown_turned = body_turned l whole may owed.head.loop.is p.growing.value p.growing.flag
        (growing_wide l whole p.first p.growing None part.memory may owed.head) part p.entered outcome new owed.entered made

    pub grown_wide : m.head_dims p.growing.head ≡ m.dims outcome.normal
    grown_wide = sym (grown_turned.dims ∙ owed.head.head.valued.1.1)

    grown_stays : StaysKept o m set body whole.flag owed.head.begun outcome.flag new
    grown_stays =
        let at = owed.head.head in
        stays_both o m set body whole.flag at.so_far p.growing.flag outcome.flag owed.head.begun part.memory new at.loop.stays
        (later_noted l.point at.valued.0 at.so_far p.growing.flag at.valued.2)
        (body_stays l whole may owed.head.loop.is p.growing.value p.growing.flag
        (growing_wide l whole p.first p.growing None part.memory may owed.head) part p.entered outcome new owed.entered made)

    -- the head is stable
    pub grown_stable : (value : V) → value ≡ p.growing.value →
        (lossy_operations m).stays p.growing.head outcome.normal (mode_at l.plan.now.widening p.growing.left) →
        IsNarrowed o m set l whole p.first (record { value = value; turn = turn }) l.plan.now.narrow new
    grown_stable value same stays =
        let at = owed.head.head in
        let steady : (lossy_operations m).stays p.growing.head outcome.normal (mode_at set.widening p.growing.left) =
        subst (λ (x : Plan). (lossy_operations m).stays p.growing.head outcome.normal (mode_at x.widening p.growing.left))
        owed.head.loop.plan stays in
        let grown = head_stable o m set l.point l.base (cond_view l.condition.now) body whole.value whole.flag p.growing None
        owed.head.begun part.memory at (outcome_view outcome) grown_turned.round steady in
        let narrowed = narrow_starts o m set l.point l.base (cond_view l.condition.now) body whole.value p.growing.flag
        p.growing.value turn new (growing_wide l whole p.first p.growing None part.memory may owed.head) grown_turned in
        subst (λ (v : V). IsNarrowed o m set l whole p.first (record { value = v; turn = turn }) l.plan.now.narrow new)
        (sym same) (record {
          begun = owed.head.begun;
          loop = owed.head.loop;
          start = p.growing.value;
          round = outcome_view outcome;
          grown = grown;
          between = new;
          grown_stays = grown_stays;
          narrowed = subst (λ (x : Plan). NarrowLoop o m set l.point l.base (cond_view l.condition.now) body whole.value
              p.growing.value (outcome_view outcome) x.narrow p.growing.value p.entered (outcome_view outcome) new new)
              (sym owed.head.loop.plan) narrowed;
        })

    -- it grew
    pub grown_next : (e : Exactness) (after : Growing V H) →
        GrowsBy m l.plan.now.widening l.point e p.growing (outcome_view outcome) after →
        IsHead o m set l whole p.first after (Some turn) new
    grown_next e after by =
        let flag = noted l.point e outcome.flag in
        record {
          begun = owed.head.begun;
          loop = owed.head.loop;
          head = head_next o m set l.point l.base (cond_view l.condition.now) body whole.value whole.flag p.growing None
              owed.head.begun part.memory owed.head.head (outcome_view outcome) grown_turned.round e after (Some turn) new
              (subst (λ (x : Plan). GrowsBy m x.widening l.point e p.growing (outcome_view outcome) after)
              owed.head.loop.plan by)
              (kept_noted o m set body l.point e outcome.flag p.entered (outcome_view outcome) grown_turned.kept)
              (stays_then o m set body whole.flag outcome.flag flag owed.head.begun new grown_stays
              (later_noted l.point e outcome.flag flag refl));
        }

  -- a stable head that is narrowed ------------------------------------------------------------------------------------

  module _ (l : Loop) (whole : PassTask V) (first : V) (last : HeadRound V) (left : ℕ) (memory : LoopCache V)
      (may : MayBePassed o m set whole) (here : IsNarrowed o m set l whole first last left memory) where
    narrowed_wide : m.dims last.value ≡ m.dims whole.value
    narrowed_wide = here.narrowed.dims

    pub narrowed_few : m.dims last.value ≤ most_live
    narrowed_few = subst (λ (n : ℕ). n ≤ most_live) (sym narrowed_wide) may.few

    pub narrowed_behind : m.dims last.turn.outcome.normal ≡ m.dims first
    narrowed_behind = here.narrowed.behind ∙ ap m.dims (sym here.loop.first_is)

    narrowed_stays : StaysKept o m set (node_view l.body.now) whole.flag here.begun last.turn.outcome.flag memory
    narrowed_stays = stays_both o m set (node_view l.body.now) whole.flag here.round.flag here.round.flag
        last.turn.outcome.flag here.begun here.between memory here.grown_stays (λ none. none) here.narrowed.stays

    -- the last round comes out
    pub narrowed_made : (r : PassOutcome V) (new : LoopCache V) → left ≡ 0 → LeavesWith m l.point l.base
        (cond_view l.condition.now) last.value (outcome_view last.turn.outcome) (outcome_view r) → m.dims r.normal ≡ m.dims last.value →
        ((plan : Plan) (loops : ℕ → Node) → MayRecall o m plan loops last.turn.outcome.flag memory →
        IsKept o m plan (loops l.point) r.flag first (outcome_view r) → MayRecall o m plan loops r.flag new) →
        IsMade o m set whole (outcome_view r) new
    narrowed_made r new none left_with dims keeps =
        let tree = iterate l.point l.base (cond_view l.condition.now) (node_view l.body.now) in
        let narrows = narrow_ends o m set l.point l.base (cond_view l.condition.now) (node_view l.body.now) whole.value
        here.start here.round left last.value last.turn.entered (outcome_view last.turn.outcome) here.between memory here.narrowed
        none in
        let passed : IsPassed o m set tree whole.flag whole.value (outcome_view r) = loop_passed o m set l.point l.base
        (cond_view l.condition.now) (node_view l.body.now) whole.flag whole.value here.start last.value
        (headed l.point here.start here.round) (outcome_view last.turn.outcome) (outcome_view r) here.grown narrows left_with narrowed_wide
        dims here.narrowed.jumps in
        let stays : StaysKept o m set tree whole.flag whole.memory last.turn.outcome.flag memory = stays_begun o m set l.point
        l.base (cond_view l.condition.now) (node_view l.body.now) whole.flag last.turn.outcome.flag whole.memory here.begun
        memory here.loop.kept narrowed_stays in
        record {
          passed = subst (λ (g : Node). IsPassed o m set g whole.flag whole.value (outcome_view r)) (sym here.loop.is) passed;
          stays = subst (λ (g : Node). StaysKept o m set g whole.flag whole.memory r.flag new) (sym here.loop.is)
              (λ loops has all. keeps set loops (stays loops has all)
              (subst (λ (g : Node). IsKept o m set g r.flag first (outcome_view r)) (sym has.0)
              (subst (λ (v : V). IsKept o m set tree r.flag v (outcome_view r)) (sym here.loop.first_is)
              (passed_kept o m set tree whole.flag whole.value (outcome_view r) passed))));
        }

    -- a round more
    module _ (k : ℕ) (next : V) (e : Exactness) (flag : Option ℕ) (counts : left ≡ suc k)
        (joined : (lossy_operations m).joined first last.turn.outcome.normal e next)
        (flagged : flag ≡ noted l.point e last.turn.outcome.flag) where
      pub narrowed_kept : IsKept o m set (node_view l.body.now) flag last.turn.entered (outcome_view last.turn.outcome)
      narrowed_kept = subst (λ (f : Option ℕ). IsKept o m set (node_view l.body.now) f last.turn.entered
          (outcome_view last.turn.outcome)) (sym flagged)
          (kept_noted o m set (node_view l.body.now) l.point e last.turn.outcome.flag last.turn.entered
          (outcome_view last.turn.outcome) here.narrowed.kept)

      pub narrowed_waits : IsWaiting o m set (record { the_loop = l; first = first; top = next; left = k }) whole flag memory
      narrowed_waits =
          let there : (lossy_operations m).joined whole.value last.turn.outcome.normal e next =
          subst (λ (v : V). (lossy_operations m).joined v last.turn.outcome.normal e next) here.loop.first_is joined in
          record {
            begun = here.begun;
            loop = here.loop;
            dims = there.2;
            remembers = remembers_on o m set (node_view l.body.now) whole.flag last.turn.outcome.flag flag here.begun memory
                (remembers_body o m set l.point l.base (cond_view l.condition.now) (node_view l.body.now) whole.flag
                whole.memory here.begun here.loop.kept (loop_remembers l whole may here.loop.is)) narrowed_stays
                (later_noted l.point e last.turn.outcome.flag flag flagged);
            narrows = λ turn new turned stays. record {
              begun = here.begun;
              loop = here.loop;
              start = here.start;
              round = here.round;
              grown = here.grown;
              between = here.between;
              grown_stays = here.grown_stays;
              narrowed = narrow_next o m set l.point l.base (cond_view l.condition.now) (node_view l.body.now) whole.value
                  here.start here.round left k last.value next last.turn.entered turn.entered (outcome_view last.turn.outcome)
                  (outcome_view turn.outcome) e flag here.between memory new here.narrowed counts there flagged turned.round
                  turned.dims turned.jumps turned.kept
                  (stays_both o m set (node_view l.body.now) here.round.flag last.turn.outcome.flag flag turn.outcome.flag
                  here.between memory new here.narrowed.stays
                  (later_noted l.point e last.turn.outcome.flag flag flagged) stays);
            };
          }

  module _ (n : Narrowing V) (whole : PassTask V) (flag : Option ℕ) (memory : LoopCache V) (may : MayBePassed o m set whole)
      (here : IsWaiting o m set n whole flag memory) where
    pub waiting_few : m.dims n.top ≤ most_live
    waiting_few = subst (λ (k : ℕ). k ≤ most_live) (sym here.dims) may.few

    pub waiting_kept : (kept : LoopRound V) → IsKept o m set (node_view n.the_loop.body.now) flag kept.entered (outcome_view kept.outcome) →
        AreKept o m n.the_loop.plan.now (node_view n.the_loop.body.now) flag (Some kept)
    waiting_kept kept is = subst (λ (x : Plan). IsKept o m x (node_view n.the_loop.body.now) flag kept.entered
        (outcome_view kept.outcome)) (sym here.loop.plan) is

    pub narrowing_opens : (value : V) (inside : Option ℕ) (entered : V) → IsEntered o m n.the_loop.plan.now
        n.the_loop.point n.the_loop.base (cond_view n.the_loop.condition.now) (node_view n.the_loop.body.now) flag n.top
        (Anew entered value inside) →
        IsNarrowing o m set (record { narrowing = n; entered = entered }) whole (at n.the_loop value inside memory) ×
        MayBePassed o m set (at n.the_loop value inside memory)
    narrowing_opens value inside entered has =
        let now = body_may n.the_loop whole may here.loop.is n.top flag memory here.dims here.remembers value inside entered
        has in (record { flag = flag; waiting = here; entered = now.0 }, now.1)

    pub narrowing_again : (given : LoopRound V) (entered : V) (outcome : PassOutcome V) → IsEntered o m n.the_loop.plan.now
        n.the_loop.point n.the_loop.base (cond_view n.the_loop.condition.now) (node_view n.the_loop.body.now) flag n.top
        (again given) → entered ≡ given.entered → outcome ≡ given.outcome →
        (part : PassTask V) × IsNarrowing o m set (record { narrowing = n; entered = entered }) whole part ×
        IsMade o m set part (outcome_view outcome) memory
    narrowing_again given entered outcome has same is =
        let now = body_again n.the_loop whole may here.loop.is n.top flag memory here.dims here.remembers given entered
        outcome here.loop.plan has same is in (
          now.0,
          record {
            flag = flag;
            waiting = subst (λ (x : LoopCache V). IsWaiting o m set n whole flag x) (sym now.1) here;
            entered = now.2;
          },
          now.3,
        )

  -- after a round of it
  pub narrowing_narrowed : (p : NarrowingFrame V) (whole part : PassTask V) (outcome : PassOutcome V) (new : LoopCache V) →
      MayBePassed o m set whole → IsNarrowing o m set p whole part → IsMade o m set part (outcome_view outcome) new →
      IsNarrowed o m set p.narrowing.the_loop whole p.narrowing.first
      (record { value = p.narrowing.top; turn = record { entered = p.entered; outcome = outcome } }) p.narrowing.left new
  narrowing_narrowed p whole part outcome new may owed made =
      let l = p.narrowing.the_loop in
      let here = owed.waiting in
      here.narrows (record { entered = p.entered; outcome = outcome }) new
      (body_turned l whole may here.loop.is p.narrowing.top owed.flag here.dims part p.entered outcome new owed.entered made)
      (body_stays l whole may here.loop.is p.narrowing.top owed.flag here.dims part p.entered outcome new owed.entered made)
