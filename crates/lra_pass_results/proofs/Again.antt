-- A pass from the same value again: only the first flagged point can differ, and that is given by what was flagged
-- before.
use Rattle.std.proofs.Common.{◌≡◌, ℕ, zero, suc, ◌-◌, Bool, true, List, [], ◌∷◌, Option, Some, None, refl, sym, ap, subst, ◌∙◌}
use Rattle.lra_pass_results.specs.Crates.lra_analysis_spec.Operations.{Operations, lossy_operations}
use Rattle.lra_pass_results.specs.Crates.lra_analysis_spec.Pass.{AreJoined, Filters, PassResult, noted, jumps, values_behind, jumps_caught, Transformer, LoopRoundFrom, AscendingIteration}
use Rattle.lra_pass_results.specs.Crates.lra_analysis_spec.Pass.{DescendingIteration, Absorption, PassUnder, ArmsPassUnder}
use Rattle.lra_pass_results.specs.Crates.lra_analysis_spec.UnderInterference.{absorbed, LossyPass}
use Rattle.lra_pass_results.specs.Crates.{lra_analysis_spec.Live.live_after, lra_analysis_spec.Plan.Plan, lra_analysis_spec.Plan.Widening, lra_domain.Abstraction.Abstraction}
use Rattle.lra_pass_results.specs.Crates.{lra_domain.Interference.Interference, lra_domain.declared.Exactness.Exactness, lra_program.Program.Expr, lra_program.Program.Cond}
use Rattle.lra_operations.specs.Tree.{Exit, broken, continued, returned, Node, empty, point, probe, act, check, seq, choose, iterate, catch, leave, select, Arms, no_arms, entry, arm}
use Rattle.lra_operations.specs.declared.probes.Probe.TheVariants.{InterferencePoint, RecordWrite}
use Rattle.lra_pass_results.proofs.Crates.{lra_analysis_spec.Transfer.Matters, lra_analysis_spec.Transfer.passes_among, lra_analysis_spec.Unflagged.same_ones}
use Rattle.lra_pass_results.specs.Outcome.{outcome_view, AreKept, EntersWith, IsEntered, IsKept, IsPassed, IsLoopRound, JumpsFit}
use Rattle.lra_pass_results.specs.{declared.outcome.Entered.TheVariants.Again, declared.outcome.Entered.TheVariants.Anew, declared.outcome.LoopRound.LoopRound}
use Rattle.lra_pass_results.specs.declared.outcome.Entered as entered
use Rattle.lra_pass_results.proofs.PassSteps.{same_jumps_fit}

-- the same, with this flag
abbrev pub flagged_at : {V : Type 0} → ℕ → PassResult V → PassResult V
flagged_at p r = record r { flag = Some p }

caught_again : {V : Type 0} (p : ℕ) (k : Exit) (s : PassResult V) → values_behind k s ≡ values_behind k (flagged_at p s)
caught_again p broken s = refl
caught_again p continued s = refl
caught_again p returned s = refl

behind_again : {V : Type 0} (p : ℕ) (k : Exit) (s : PassResult V) (w : V) (f : Option ℕ) →
    flagged_at p (jumps_caught k s w f) ≡ jumps_caught k (flagged_at p s) w (Some p)
behind_again p broken s w f = refl
behind_again p continued s w f = refl
behind_again p returned s w f = refl

jump_again : {V : Type 0} (p : ℕ) (k : Exit) (v w : V) (f : Option ℕ) → flagged_at p (jumps k v w f) ≡ jumps k v w (Some p)
jump_again p broken v w f = refl
jump_again p continued v w f = refl
jump_again p returned v w f = refl

module _ (V H : Type 0) (ops : Operations V H) (admission : Absorption V) (set : Plan) (p : ℕ) where
  module _ (q base : ℕ) (c : Cond) (body : Transformer V) (inside : (f : Option ℕ) (v : V) (r : PassResult V) → body f v r → body (Some p) v (flagged_at p r))
    where
      round_again : (f : Option ℕ) (v : V) (r : PassResult V) → LoopRoundFrom V H ops q base c body f v r →
          LoopRoundFrom V H ops q base c body (Some p) v (flagged_at p r)
      round_again f v r (w, e, s, on, turn, is) = (w, e, flagged_at p s, on, inside (noted q e f) w s turn, ap (flagged_at p) is)

      grows_again : (widening : Widening) (left : ℕ) (f : Option ℕ) (h : H) (later : List H) (v : V) (r : PassResult V) → AscendingIteration V H ops q base c body widening left f h later v r
          → AscendingIteration V H ops q base c body widening left (Some p) h later v (flagged_at p r)
      grows_again widening left f h [] v r ((e, valued, turn), stays) = ((e, valued, round_again (noted q e f) v r turn), stays)
      grows_again widening left f h (next ∷ later) v r (u, s, e, (d, valued, turn), grown, rest) =
          (u, flagged_at p s, e, (d, valued, round_again (noted q d f) u s turn), grown, grows_again widening (left - 1) (noted q e s.flag) next later v r rest)

      narrows_again : (more : ℕ) (first u : V) (s : PassResult V) (v : V) (r : PassResult V) → DescendingIteration V H ops q base c body more first u s v r
          → DescendingIteration V H ops q base c body more first u (flagged_at p s) v (flagged_at p r)
      narrows_again zero first u s v r (same, is) = (same, ap (flagged_at p) is)
      narrows_again (suc more) first u s v r (next, t, e, joined, turn, rest) =
          (next, flagged_at p t, e, joined, round_again (noted q e s.flag) next t turn, narrows_again more first next t v r rest)

  mutual
    -- under a flagged point
    pub passed_again : (g : Node) (f : Option ℕ) (v : V) (r : PassResult V) → PassUnder V H ops admission set g f v r
        → PassUnder V H ops admission set g (Some p) v (flagged_at p r)
    passed_again empty f v r is = ap (flagged_at p) is
    passed_again (probe q InterferencePoint) f v r (w, e, taken, is) = (w, e, taken, ap (flagged_at p) is)
    passed_again (probe q (RecordWrite place)) f v r is = ap (flagged_at p) is
    passed_again (point q) f v r is = ap (flagged_at p) is
    passed_again (act q op) f v r (w, e, done, is) = (w, e, done, ap (flagged_at p) is)
    passed_again (check q base c) f v r (u, w, d, e, off, on, is) = (u, w, d, e, off, on, ap (flagged_at p) is)
    passed_again (seq a b) f v r (s, t, one, two, is) = (
      flagged_at p s,
      flagged_at p t,
      passed_again a f v s one,
      passed_again b s.flag s.normal t two,
      ap
          (flagged_at p) is,
    )
    passed_again (choose q base c a b) f v r (on, off, w, d, e, i, s, t, holds, one, fails, two, joined, is) = (
      on,
      off,
      w,
      d,
      e,
      i,
      flagged_at p s,
      flagged_at p t,
      holds,
      passed_again a (noted q d f) on s one,
      fails,
      passed_again b (noted q e s.flag) off t two,
      joined,
      ap (flagged_at p) is,
    )
    passed_again (iterate q base c a) f v r (h, later, u, top, out, s, t, e, started, grown, narrowed, off, is) = (
      h,
      later,
      u,
      top,
      out,
      flagged_at p s,
      flagged_at p t,
      e,
      started,
      grows_again q base c (PassUnder V H ops admission set a) (passed_again a) set.widening set.delay f h later u s grown,
      narrows_again q base c (PassUnder V H ops admission set a) (passed_again a) set.narrow v u s top t narrowed,
      off,
      ap (flagged_at p) is,
    )
    passed_again (catch q k a) f v r (w, e, s, one, joined, is) = (
      w,
      e,
      flagged_at p s,
      passed_again a f v s one,
      subst (λ (x : V × List V). AreJoined ops x.0 x.1 e w) (caught_again p k s) joined,
      ap (flagged_at p) is ∙ behind_again p k s w (noted q e s.flag),
    )
    passed_again (leave n k) f v r (w, nothing, is) = (w, nothing, ap (flagged_at p) is ∙ jump_again p k v w f)
    passed_again (select q base e arms) f v r (other, x, none, pass) = (other, x, none, arms_again q base e _ v other arms (noted q x f) None r pass)

    arms_again : (q base : ℕ) (e : Expr) (d : Bool) (v other : V) (arms : Arms) (f : Option ℕ) (running : Option V) (r : PassResult V)
        → ArmsPassUnder V H ops admission set q base e d v other arms f running r
        → ArmsPassUnder V H ops admission set q base e d v other arms (Some p) running (flagged_at p r)
    arms_again q base e d v other no_arms f running r (w, x, out, is) = (w, x, out, ap (flagged_at p) is)
    arms_again q base e d v other (entry l arms) f running r (u, w, x, y, enters, joins, rest) =
        (u, w, x, y, enters, joins, arms_again q base e d v other arms (noted q y (noted q x f)) (Some w) r rest)
    arms_again q base e d v other (arm a arms) f running r (w, s, t, from, one, rest, is) = (
      w,
      flagged_at p s,
      flagged_at p t,
      from,
      passed_again a f w s one,
      arms_again q base e d v other arms s.flag (Some s.normal) t rest,
      ap (flagged_at p)
          is,
    )

-- no flag, none before
pub none_noted : (q : ℕ) (e : Exactness) (f : Option ℕ) → noted q e f ≡ None → f ≡ None
none_noted q e (Some p) h = cc
none_noted q e None h = refl

none_matters : Matters (λ e. Unit {0}) (λ f. f ≡ None)
none_matters = record { parts = λ c d k. (tt, tt); before = λ q e f h. (tt, none_noted q e f h) }

pub none_before : {V H : Type 0} (ops : Operations V H) (admission : Absorption V) (set : Plan) (g : Node) (f : Option ℕ)
    (v : V) (r : PassResult V) → r.flag ≡ None → PassUnder V H ops admission set g f v r → f ≡ None
none_before {V} {H} ops admission set g f v r none pass =
    (passes_among V H ops ops (λ e. Unit {0}) (λ f. f ≡ None) none_matters (same_ones ops) admission admission
    (λ v e w k h. h) set g f v r none pass).0

with_flag : {V : Type 0} (r : PassResult V) (f : Option ℕ) → r.flag ≡ f → r ≡ record r { flag = f }
with_flag r f is = ap (λ (x : Option ℕ). record r { flag = x }) is

module _ {V H : Type 0} (o : Interference V) (m : Abstraction V H) (set : Plan) (g : Node) where
  -- a kept result is that of a pass, with what is flagged so far
  pub kept_passed : (f : Option ℕ) (v : V) (r : PassResult V) → IsKept o m set g f v r → IsPassed o m set g f v (record r { flag = f })
  kept_passed (Some p) v r kept =
      let done = kept.passed in
      record {
        pass = passed_again V H (lossy_operations m) (absorbed o m) set p g kept.before v r done.pass;
        dims = done.dims;
        jumps = same_jumps_fit m g (m.dims v) r _ refl refl refl done.jumps;
      }
  kept_passed None v r kept =
      let none = kept.unflagged refl in
      let begins = none_before (lossy_operations m) (absorbed o m) set g kept.before v r none kept.passed.pass in
      subst (λ (x : PassResult V). IsPassed o m set g None v x) (with_flag r None none) (subst (λ (x : Option ℕ). IsPassed o m set g x v r) begins kept.passed)

  -- it stays kept after a further operation
  pub kept_noted : (q : ℕ) (e : Exactness) (f : Option ℕ) (v : V) (r : PassResult V) → IsKept o m set g f v r → IsKept o m set g (noted q e f) v r
  kept_noted q e f v r kept = record { before = kept.before; passed = kept.passed; unflagged = λ none. kept.unflagged (none_noted q e f none) }

  -- a pass may be given again as long as its own flag counts
  pub passed_kept : (f : Option ℕ) (v : V) (r : PassResult V) → IsPassed o m set g f v r → IsKept o m set g r.flag v r
  passed_kept f v r passed = record { before = f; passed = passed; unflagged = λ none. none }

  pub all_noted : (q : ℕ) (e : Exactness) (f : Option ℕ) (kept : Option (LoopRound V)) → AreKept o m set g f kept → AreKept o m set g (noted q e f) kept
  all_noted q e f None kept = tt
  all_noted q e f (Some turn) kept = kept_noted q e f turn.entered (outcome_view turn.outcome) kept

  -- a turn whose body was passed, now or before, from what the condition left
  pub turned : (q base : ℕ) (c : Cond) (f inside : Option ℕ) (v on : V) (e : Exactness) (turn : LoopRound V) → Filters (lossy_operations m) base c true v e on → inside ≡ noted q e f →
      m.dims on ≡ m.dims v
      → live_after g (m.dims v) ≡ m.dims v → turn.entered ≡ on → IsPassed o m set g inside on (outcome_view turn.outcome) →
      IsLoopRound o m set q base c g f v turn
  turned q base c f inside v on e turn leaves flagged wide closed same passed = record {
    round = (
      on,
      e,
      outcome_view turn.outcome,
      leaves,
      subst (λ (x : Option ℕ). LossyPass o m set g x on (outcome_view turn.outcome)) flagged passed.pass,
      refl,
    );
    dims = passed.dims ∙ ap (live_after g) wide ∙ closed;
    jumps = subst (λ (n : ℕ). JumpsFit m g n (outcome_view turn.outcome)) wide passed.jumps;
    kept = passed_kept inside turn.entered (outcome_view turn.outcome)
        (subst (λ (x : V). IsPassed o m set g inside x (outcome_view turn.outcome)) (sym same) passed);
  }

  -- what enters a loop's body with what the condition left
  pub entered_with : (q base : ℕ) (c : Cond) (f inside : Option ℕ) (v on : V) (e : Exactness) (given : entered.Entered V) → Filters (lossy_operations m) base c true v e on
      → inside ≡ noted q e f → m.dims on ≡ m.dims v → EntersWith o m set g inside on given → IsEntered o m set q base c g f v given
  entered_with q base c f inside v on e (Again turn) leaves flagged wide (same, passed) = (
    e,
    subst (λ (x : V). Filters (lossy_operations m) base c true v e x) (sym same) leaves,
    subst (λ (x : Option ℕ). IsPassed o m set g x turn.entered (outcome_view turn.outcome)) flagged
        (subst (λ (x : V). IsPassed o m set g inside x (outcome_view turn.outcome)) (sym same) passed),
    ap m.dims same ∙ wide,
  )
  entered_with q base c f inside v on e (Anew copied value flag) leaves flagged wide (one, two, three) = (
    e,
    subst (λ (x : V). Filters (lossy_operations m) base c true v e x) (sym two) leaves,
    three ∙ flagged,
    ap m.dims two ∙ wide,
    one ∙ sym two,
  )

  -- the kept turns, with what is flagged after the condition
  pub kept_inside : (q : ℕ) (e : Exactness) (f inside : Option ℕ) (kept : Option (LoopRound V)) → inside ≡ noted q e f
      → AreKept o m set g f kept → AreKept o m set g inside kept
  kept_inside q e f inside kept flagged before = subst (λ (x : Option ℕ). AreKept o m set g x kept) (sym flagged) (all_noted q e f kept before)

  -- the kept round, if the same value entered it
  pub same_given : (f : Option ℕ) (on : V) (kept : Option (LoopRound V)) (turn : LoopRound V) → kept ≡ Some turn → turn.entered ≡ on → AreKept o m set g f kept
      → (turn.entered ≡ on) × IsPassed o m set g f on (record (outcome_view turn.outcome) { flag = f })
  same_given f on kept turn is same before =
      let held : IsKept o m set g f turn.entered (outcome_view turn.outcome) = subst (λ (x : Option (LoopRound V)). AreKept o m set g f x) is before in (
        same,
        subst (λ (x : V). IsPassed o m set g f x (record (outcome_view turn.outcome) { flag = f })) same
            (kept_passed f turn.entered (outcome_view turn.outcome) held),
      )
