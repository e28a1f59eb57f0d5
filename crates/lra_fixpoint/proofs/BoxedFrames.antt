-- Places of loops, which are boxed: what comes next at them, and what that takes.
use Rattle.std.proofs.Common.{◌≡◌, ℕ, suc, ◌+◌, ◌*◌, ◌<◌, Box, Global, arith, ap, sym, subst}
use Rattle.std.proofs.{Math.Nat.suc-mul, lemmas.Result.IfOk-weaker}
use Rattle.std.specs.Prelude.{IfOk}
use Rattle.std.specs.Prelude as outcome_or
use Rattle.lra_fixpoint.specs.Crates.{lra_analysis_spec.Plan.Plan, lra_domain.Abstraction.Abstraction, lra_domain.Interference.Interference}
use Rattle.lra_pass_results.specs.{Outcome.outcome_view, declared.loop_cache.LoopCache.LoopCache, declared.outcome.PassOutcome.PassOutcome}
use Rattle.lra_pass_stack.specs.Stack.{PassTask, pass_task, IsGrowing, IsMade, IsNarrowing, IsPassFrame, PassStepLeads, MayBePassed}
use Rattle.lra_pass_stack.specs.StepsLeft.{next_left, place_left, rounds_left, tree_steps, turns_left}
use Rattle.lra_pass_stack.specs.{declared.stack.Entering.Entering, declared.stack.GrowingFrame.GrowingFrame, declared.stack.NarrowingFrame.NarrowingFrame, declared.stack.Next.TheVariants.Opens}
use Rattle.lra_pass_stack.specs.{declared.stack.Next.TheVariants.Again, declared.stack.PassFrame.TheVariants.Growing, declared.stack.PassFrame.TheVariants.Narrowing}
use Rattle.lra_pass_stack.specs.declared.stack.Next as next
use Rattle.lra_pass_stack.specs.declared.stack.PassFrame as place

-- one round, and those that are left after it
round_more : (k t : ℕ) → (1 + k * suc t) + t < 1 + suc k * suc t
round_more k t = omega (arith, suc-mul k (suc t))

round_again : (k t : ℕ) → 1 + k * suc t < 1 + suc k * suc t
round_again k t = omega (arith, suc-mul k (suc t))

module _ {V H E : Type 0} (m : Abstraction V H) (set : Plan) (R : outcome_or.Result (next.Next V H) E) where
  -- a loop whose head grows
  module _ (g : GrowingFrame V H) where
    abbrev OpensHere : Entering V → Type 0
    OpensHere tree = IfOk R (λ n. (b : Box (GrowingFrame V H) Global) × (n ≡ Opens (Growing b) tree) × (b.value ≡ g))

    abbrev AgainHere : PassOutcome V → Type 0
    AgainHere r = IfOk R (λ n. (b : Box (GrowingFrame V H) Global) × (p : Box (place.PassFrame V H) Global) ×
        (n ≡ Again p r) × (p.value ≡ Growing b) × (b.value ≡ g))

    pub growing_leads : (o : Interference V) (tree : Entering V) (whole : PassTask V) (memory : LoopCache V) → OpensHere tree →
        IsGrowing o m set g whole (pass_task tree memory) × MayBePassed o m set (pass_task tree memory) →
        IfOk R (λ n. PassStepLeads o m set whole n memory)
    growing_leads o tree whole memory h leads = IfOk-weaker R
        (λ n. (b : Box (GrowingFrame V H) Global) × (n ≡ Opens (Growing b) tree) × (b.value ≡ g))
        (λ n. PassStepLeads o m set whole n memory)
        (λ n at. subst (λ (x : next.Next V H). PassStepLeads o m set whole x memory) (sym at.1)
        (subst (λ (x : GrowingFrame V H). IsGrowing o m set x whole (pass_task tree memory)) (sym at.2) leads.0, leads.1)) h

    pub growing_made : (o : Interference V) (r : PassOutcome V) (whole : PassTask V) (memory : LoopCache V) → AgainHere r →
        ((part : PassTask V) × IsGrowing o m set g whole part × IsMade o m set part (outcome_view r) memory) →
        IfOk R (λ n. PassStepLeads o m set whole n memory)
    growing_made o r whole memory h made = IfOk-weaker R
        (λ n. (b : Box (GrowingFrame V H) Global) × (p : Box (place.PassFrame V H) Global) × (n ≡ Again p r) ×
        (p.value ≡ Growing b) × (b.value ≡ g)) (λ n. PassStepLeads o m set whole n memory)
        (λ n at. subst (λ (x : next.Next V H). PassStepLeads o m set whole x memory) (sym at.2) (
          made.0,
          subst (λ (x : place.PassFrame V H). IsPassFrame o m set x whole made.0) (sym at.3)
              (subst (λ (x : GrowingFrame V H). IsGrowing o m set x whole made.0) (sym at.4) made.1),
          made.2,
        )) h

    abbrev GrowsOn : ℕ → Type 0
    GrowsOn b = IfOk R (λ n. next_left m b set n < turns_left m b set g.the_loop
        (suc (set.narrow + rounds_left b g.growing.left (m.rank g.growing.head))))

    pub growing_less : (b : ℕ) (tree : Entering V) → tree.node.now ≡ g.the_loop.body.now → OpensHere tree → GrowsOn b
    growing_less b tree body h = IfOk-weaker R
        (λ n. (c : Box (GrowingFrame V H) Global) × (n ≡ Opens (Growing c) tree) × (c.value ≡ g))
        (λ n. next_left m b set n < turns_left m b set g.the_loop
        (suc (set.narrow + rounds_left b g.growing.left (m.rank g.growing.head))))
        (λ n at.
        let k = set.narrow + rounds_left b g.growing.left (m.rank g.growing.head) in
        let t = tree_steps m b set g.the_loop.body.now in
        let one : next_left m b set n ≡ place_left m b set (Growing at.0) + tree_steps m b set tree.node.now =
        ap (next_left m b set) at.1 in
        let two : place_left m b set (Growing at.0) ≡ 1 + k * suc t = ap (λ (x : GrowingFrame V H).
        turns_left m b set x.the_loop (set.narrow + rounds_left b x.growing.left (m.rank x.growing.head))) at.2 in
        let three : tree_steps m b set tree.node.now ≡ t = ap (tree_steps m b set) body in
        omega (arith, one, two, three, round_more k t)) h

    pub growing_again_less : (b : ℕ) (r : PassOutcome V) → AgainHere r → GrowsOn b
    growing_again_less b r h = IfOk-weaker R
        (λ n. (c : Box (GrowingFrame V H) Global) × (p : Box (place.PassFrame V H) Global) × (n ≡ Again p r) ×
        (p.value ≡ Growing c) × (c.value ≡ g)) (λ n. next_left m b set n < turns_left m b set g.the_loop
        (suc (set.narrow + rounds_left b g.growing.left (m.rank g.growing.head))))
        (λ n at.
        let k = set.narrow + rounds_left b g.growing.left (m.rank g.growing.head) in
        let t = tree_steps m b set g.the_loop.body.now in
        let one : next_left m b set n ≡ place_left m b set at.1.value = ap (next_left m b set) at.2 in
        let here : place_left m b set at.1.value ≡ place_left m b set (Growing at.0) = ap (place_left m b set) at.3 in
        let two : place_left m b set (Growing at.0) ≡ 1 + k * suc t = ap (λ (x : GrowingFrame V H).
        turns_left m b set x.the_loop (set.narrow + rounds_left b x.growing.left (m.rank x.growing.head))) at.4 in
        omega (arith, one, here, two, round_again k t)) h

  -- one that is narrowed
  module _ (g : NarrowingFrame V) where
    abbrev OpensThere : Entering V → Type 0
    OpensThere tree = IfOk R (λ n. (b : Box (NarrowingFrame V) Global) × (n ≡ Opens (Narrowing b) tree) × (b.value ≡ g))

    abbrev AgainThere : PassOutcome V → Type 0
    AgainThere r = IfOk R (λ n. (b : Box (NarrowingFrame V) Global) × (p : Box (place.PassFrame V H) Global) ×
        (n ≡ Again p r) × (p.value ≡ Narrowing b) × (b.value ≡ g))

    pub narrowing_leads : (o : Interference V) (tree : Entering V) (whole : PassTask V) (memory : LoopCache V) → OpensThere tree →
        IsNarrowing o m set g whole (pass_task tree memory) × MayBePassed o m set (pass_task tree memory) →
        IfOk R (λ n. PassStepLeads o m set whole n memory)
    narrowing_leads o tree whole memory h leads = IfOk-weaker R
        (λ n. (b : Box (NarrowingFrame V) Global) × (n ≡ Opens (Narrowing b) tree) × (b.value ≡ g))
        (λ n. PassStepLeads o m set whole n memory)
        (λ n at. subst (λ (x : next.Next V H). PassStepLeads o m set whole x memory) (sym at.1)
        (subst (λ (x : NarrowingFrame V). IsNarrowing o m set x whole (pass_task tree memory)) (sym at.2) leads.0, leads.1)) h

    pub narrowing_made : (o : Interference V) (r : PassOutcome V) (whole : PassTask V) (memory : LoopCache V) → AgainThere r →
        ((part : PassTask V) × IsNarrowing o m set g whole part × IsMade o m set part (outcome_view r) memory) →
        IfOk R (λ n. PassStepLeads o m set whole n memory)
    narrowing_made o r whole memory h made = IfOk-weaker R
        (λ n. (b : Box (NarrowingFrame V) Global) × (p : Box (place.PassFrame V H) Global) × (n ≡ Again p r) ×
        (p.value ≡ Narrowing b) × (b.value ≡ g)) (λ n. PassStepLeads o m set whole n memory)
        (λ n at. subst (λ (x : next.Next V H). PassStepLeads o m set whole x memory) (sym at.2) (
          made.0,
          subst (λ (x : place.PassFrame V H). IsPassFrame o m set x whole made.0) (sym at.3)
              (subst (λ (x : NarrowingFrame V). IsNarrowing o m set x whole made.0) (sym at.4) made.1),
          made.2,
        )) h

    abbrev NarrowsOn : ℕ → Type 0
    NarrowsOn b = IfOk R (λ n. next_left m b set n < turns_left m b set g.narrowing.the_loop (suc g.narrowing.left))

    pub narrowing_less : (b : ℕ) (tree : Entering V) → tree.node.now ≡ g.narrowing.the_loop.body.now → OpensThere tree →
        NarrowsOn b
    narrowing_less b tree body h = IfOk-weaker R
        (λ n. (c : Box (NarrowingFrame V) Global) × (n ≡ Opens (Narrowing c) tree) × (c.value ≡ g))
        (λ n. next_left m b set n < turns_left m b set g.narrowing.the_loop (suc g.narrowing.left))
        (λ n at.
        let k = g.narrowing.left in
        let t = tree_steps m b set g.narrowing.the_loop.body.now in
        let one : next_left m b set n ≡ place_left m b set (Narrowing at.0) + tree_steps m b set tree.node.now =
        ap (next_left m b set) at.1 in
        let two : place_left m b set (Narrowing at.0) ≡ 1 + k * suc t = ap (λ (x : NarrowingFrame V).
        turns_left m b set x.narrowing.the_loop x.narrowing.left) at.2 in
        let three : tree_steps m b set tree.node.now ≡ t = ap (tree_steps m b set) body in
        omega (arith, one, two, three, round_more k t)) h

    pub narrowing_again_less : (b : ℕ) (r : PassOutcome V) → AgainThere r → NarrowsOn b
    narrowing_again_less b r h = IfOk-weaker R
        (λ n. (c : Box (NarrowingFrame V) Global) × (p : Box (place.PassFrame V H) Global) × (n ≡ Again p r) ×
        (p.value ≡ Narrowing c) × (c.value ≡ g))
        (λ n. next_left m b set n < turns_left m b set g.narrowing.the_loop (suc g.narrowing.left))
        (λ n at.
        let k = g.narrowing.left in
        let t = tree_steps m b set g.narrowing.the_loop.body.now in
        let one : next_left m b set n ≡ place_left m b set at.1.value = ap (next_left m b set) at.2 in
        let here : place_left m b set at.1.value ≡ place_left m b set (Narrowing at.0) = ap (place_left m b set) at.3 in
        let two : place_left m b set (Narrowing at.0) ≡ 1 + k * suc t = ap (λ (x : NarrowingFrame V).
        turns_left m b set x.narrowing.the_loop x.narrowing.left) at.4 in
        omega (arith, one, here, two, round_again k t)) h
