-- A row of trees that is under way: what was found so far, with whatever the rest finds after it, is what a pass of the
-- whole finds.
use Rattle.std.proofs.Common.{◌≡◌, ℕ, ◌≤◌, [], Option, sym, ap, subst, ◌∙◌}
use Rattle.lra_pass_stack.specs.Crates.lra_analysis_spec.Pass.{PassResult, goes_on, in_turn}
use Rattle.lra_pass_stack.specs.Crates.{lra_analysis_spec.LiveLimit.most_live, lra_analysis_spec.Plan.Plan, lra_domain.Abstraction.Abstraction, lra_domain.Interference.Interference}
use Rattle.lra_operations.specs.Tree as graph
use Rattle.lra_pass_results.specs.{Dimensions.TreeFits, LoopCache.HasLoops, LoopCache.MayRecall, LoopCache.Remembers, LoopCache.StaysKept, Outcome.ended, Outcome.IsPassed}
use Rattle.lra_pass_results.specs.{declared.loop_cache.LoopCache.LoopCache, declared.outcome.PassFindings.PassFindings, declared.outcome.PassOutcome.PassOutcome}
use Rattle.lra_pass_stack.specs.Stack.{RowLoop}
use Rattle.lra_pass_results.proofs.PassRows.{seq_passed, turns}

module _ {V H : Type 0} (o : Interference V) (m : Abstraction V H) (set : Plan) where
  -- nothing is found yet
  row_starts : (g : graph.Node) (f : Option ℕ) (v : V) (found : PassFindings V) (memory : LoopCache V) → m.dims v ≤ most_live →
      TreeFits g (m.dims v) → ((u : V) (d : Option ℕ) → ended found u d ≡ goes_on [] u d)
      → RowLoop o m set g f v g found v f memory memory
  row_starts g f v found memory few fits none = record {
    few = few;
    fits = fits;
    stays = λ loops has all. (has, all);
    passes = λ t one. subst (λ (x : PassResult V). IsPassed o m set g f v (in_turn x t t.normal t.flag)) (sym (none v f)) one;
  }

  pub row_begins : (g : graph.Node) (f : Option ℕ) (v : V) (begun : PassOutcome V) (memory : LoopCache V) → m.dims v ≤ most_live →
      TreeFits g (m.dims v) → ((u : V) (d : Option ℕ) → ended begun.found u d ≡ goes_on [] u d)
      → begun.normal ≡ v → begun.flag ≡ f → RowLoop o m set g f v g begun.found begun.normal begun.flag memory memory
  row_begins g f v begun memory few fits none one two =
      subst (λ (x : V). RowLoop o m set g f v g begun.found x begun.flag memory memory) (sym one)
      (subst (λ (x : Option ℕ). RowLoop o m set g f v g begun.found v x memory memory) (sym two)
      (row_starts g f v begun.found memory few fits none))

  module _ (g : graph.Node) (f : Option ℕ) (v : V) (rest : graph.Node) (found : PassFindings V) (behind : V)
      (so_far : Option ℕ) (old memory : LoopCache V)
      (loop : RowLoop o m set g f v rest found behind so_far old memory) where
    -- what is next, and what comes after it
    module _ (next others : graph.Node) (is : rest ≡ graph.seq next others) where
      pub next_fits : TreeFits next (m.dims behind)
      next_fits = (subst (λ x. TreeFits x (m.dims behind)) is loop.fits).0

      next_has : (loops : ℕ → graph.Node) → HasLoops loops g → MayRecall o m set loops f old →
          HasLoops loops (graph.seq next others) × MayRecall o m set loops so_far memory
      next_has loops has all = let so_far_all = loop.stays loops has all in
          (subst (λ x. HasLoops loops x) is so_far_all.0, so_far_all.1)

      pub next_remembers : Remembers o m set g f old → Remembers o m set next so_far memory
      next_remembers (loops, has, all) = let now = next_has loops has all in (loops, now.0.0, now.1)

      pub row_next : (part : PassResult V) (all : PassFindings V) (value : V) (flag : Option ℕ) (new : LoopCache V) →
          StaysKept o m set next so_far memory part.flag new → IsPassed o m set next so_far behind part →
          ((u : V) (d : Option ℕ) → ended all u d ≡ in_turn (ended found behind so_far) part u d)
          → value ≡ part.normal → flag ≡ part.flag → RowLoop o m set g f v others all value flag old new
      row_next part all value flag new stays one turn value-is flag-is =
          let fits : TreeFits (graph.seq next others) (m.dims behind) =
          subst (λ x. TreeFits x (m.dims behind)) is loop.fits in
          subst (λ (x : V). RowLoop o m set g f v others all x flag old new) (sym value-is)
          (subst (λ (x : Option ℕ). RowLoop o m set g f v others all part.normal x old new) (sym flag-is) (record {
            few = subst (λ (n : ℕ). n ≤ most_live) (sym one.dims) fits.1;
            fits = subst (λ (n : ℕ). TreeFits others n) (sym one.dims) fits.2;
            stays = λ loops has kept. (let now = next_has loops has kept in (now.0.1, stays loops now.0.0 now.1));
            passes = λ t two.
                let both = subst (λ x. IsPassed o m set x so_far behind (in_turn part t t.normal t.flag)) (sym is)
                (seq_passed o m set next others so_far behind part t one two) in
                let same : in_turn (ended found behind so_far) (in_turn part t t.normal t.flag) t.normal t.flag ≡
                in_turn (ended all part.normal part.flag) t t.normal t.flag =
                turns (ended found behind so_far) part t t.normal part.normal t.normal t.flag part.flag t.flag
                ∙ ap (λ x. in_turn x t t.normal t.flag) (sym (turn part.normal part.flag)) in
                subst (λ x. IsPassed o m set g f v x) same (loop.passes _ both);
          }))

    -- the last
    module _ (last : graph.Node) (is : rest ≡ last) where
      pub last_fits : TreeFits last (m.dims behind)
      last_fits = subst (λ x. TreeFits x (m.dims behind)) is loop.fits

      pub last_remembers : Remembers o m set g f old → Remembers o m set last so_far memory
      last_remembers (loops, has, all) = let now = loop.stays loops has all in
          (loops, subst (λ x. HasLoops loops x) is now.0, now.1)

      pub row_stays : (f' : Option ℕ) (new : LoopCache V) → StaysKept o m set last so_far memory f' new →
          StaysKept o m set g f old f' new
      row_stays f' new stays loops has all = let now = loop.stays loops has all in stays loops
          (subst (λ x. HasLoops loops x) is now.0) now.1

      pub row_ends : (part : PassResult V) (all : PassFindings V) (value : V) (flag : Option ℕ) →
          IsPassed o m set last so_far behind part →
          ((u : V) (d : Option ℕ) → ended all u d ≡ in_turn (ended found behind so_far) part u d) →
          value ≡ part.normal → flag ≡ part.flag → IsPassed o m set g f v (ended all value flag)
      row_ends part all value flag one turn value-is flag-is =
          let all_is : IsPassed o m set g f v (in_turn (ended found behind so_far) part part.normal part.flag) =
          loop.passes part
          (subst (λ x. IsPassed o m set x so_far behind part) (sym is) one) in
          subst (λ (x : V). IsPassed o m set g f v (ended all x flag)) (sym value-is)
          (subst (λ (x : Option ℕ). IsPassed o m set g f v (ended all part.normal x)) (sym flag-is)
          (subst (λ x. IsPassed o m set g f v x) (sym (turn part.normal part.flag))
          all_is))
