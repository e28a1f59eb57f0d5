-- From going back by some operations to going back by others, if each answer of the first that matters is one of the
-- second.
use Rattle.std.proofs.Common.{ℕ, zero, suc, List, [], ◌∷◌, length, Option, None, Some, Bool, true, false, subst, inl, inr}
use Rattle.std.specs.Prelude.{slice_set}
use Rattle.lra_domain.specs.Actions.{Action, assign, forget, test, embed, remove_last}
use Rattle.lra_domain.specs.{Abstraction.worse, declared.Exactness.Exactness, declared.Mode.Mode, declared.Mode.TheVariants.Join, declared.Mode.TheVariants.Widen}
use Rattle.lra_program.specs.{Sites.Site, declared.program.GlobalVariable.GlobalVariable}
use Rattle.lra_operations.specs.Tree.{Node}
use Rattle.lra_back.specs.Crates.lra_analysis_spec.Pass.{JoinsRunning, RunsFrom, noted}
use Rattle.lra_back.proofs.Crates.lra_analysis_spec.Transfer.{Matters, Transfers, aligned, leaves}
use Rattle.lra_back.specs.Preconditions.{PreAlong, PreOfPath, PreOfPaths, PreOfAllPoints, JoinsSeed, IsNext}
use Rattle.lra_back.specs.Rounds.{Task, seed_at, no_rows, AreStarted, StaysOrGrows, IsUpdated, Round, Widens, Rounds, AreBackwardValues}
use Rattle.lra_back.specs.{BackwardAnalysis.BackwardAnalysis, BackwardAnalysis.task_of, Operations.BackwardOperations, Operations.PreOfAction}

pub record TransfersBack {V H : Type 0} (Keeps : Exactness → Type 0) (a b : BackwardOperations V H) : Type 0 where
  pub forward : Transfers Keeps a.forward b.forward
  pub undone : (step : Action) (v : V) (e : Exactness) (w : V) → Keeps e → a.pre step v e w → b.pre step v e w
  pub met : (u v : V) (e : Exactness) (w : V) → Keeps e → a.meet u v e w → b.meet u v e w

-- the second operations, with the first ones' dimensions
abbrev pub over : {V H : Type 0} → BackwardOperations V H → BackwardOperations V H → BackwardOperations V H
over a b = record b { forward = aligned a.forward b.forward }

module _ (V H : Type 0) (a b : BackwardOperations V H) (Keeps : Exactness → Type 0) (Fine : Option ℕ → Type 0)
    (matters : Matters Keeps Fine) (moves : TransfersBack Keeps a b)
  where
    undoes : (step : Action) (v : V) (e : Exactness) (w : V) → Keeps e → PreOfAction a step v e w → PreOfAction (over a b) step v e w
    undoes (assign x f) v e w k h = moves.undone (assign x f) v e w k h
    undoes (forget x) v e w k h = moves.forward.changed (forget x) v e w k h
    undoes (test kind f) v e w k h = moves.undone (test kind f) v e w k h
    undoes (embed n) v e w k h = moves.forward.changed (remove_last n) v e w k h
    undoes (remove_last n) v e w k h = moves.forward.changed (embed n) v e w k h

    goes_over : (path : List Action) (v : V) (e : Exactness) (w : V) → Keeps e → PreAlong a path v e w → PreAlong (over a b) path v e w
    goes_over [] v e w k h = h
    goes_over (step ∷ path) v e w k (u, c, d, behind, undone, is) =
        let i = matters.parts c d (subst Keeps is k) in
        (u, c, d, goes_over path v c u i.0 behind, undoes step u d w i.1 undone, is)

    runs_on : (so : Option V) (u : V) (e : Exactness) (w : V) → Keeps e → JoinsRunning a.forward so u e w → JoinsRunning (over a b).forward so u e w
    runs_on None u e w k h = h
    runs_on (Some running) u e w k h = moves.forward.joined running u e w k h

    runs_from : (live cap : ℕ) (so : Option V) (w : V) → RunsFrom a.forward live cap so w → RunsFrom (over a b).forward live cap so w
    runs_from live cap None w h = moves.forward.void live cap w h
    runs_from live cap (Some running) w h = h

    comes_back : (forward : V) (target : H) (path : List Action) (e : Exactness) (w : V) → Keeps e → PreOfPath a forward target path e w
        → PreOfPath (over a b) forward target path e w
    comes_back forward target path e w k (v, u, c, d, i, valued, gone, met, is) =
        let j = matters.parts (worse c d) i (subst Keeps is k) in
        let l = matters.parts c d j.0 in
        (v, u, c, d, i, moves.forward.valued target c v l.0 valued, goes_over path v d u l.1 gone, moves.met u forward i w j.1 met, is)

    all_come_back : (forward : V) (target : H) (paths : List (List Action)) (so : Option V) (e : Exactness) (all : Option V) → Keeps e
        → PreOfPaths a forward target paths so e all → PreOfPaths (over a b) forward target paths so e all
    all_come_back forward target [] so e all k h = h
    all_come_back forward target (path ∷ paths) so e all k (u, w, c, d, i, back, joined, rest, is) =
        let j = matters.parts (worse c d) i (subst Keeps is k) in
        let l = matters.parts c d j.0 in
        let others = all_come_back forward target paths (Some w) i all j.1 rest in
        (u, w, c, d, i, comes_back forward target path c u l.0 back, runs_on so u d w l.1 joined, others, is)

    comes_from_all : (paths : ℕ → List (List Action)) (forward : V) (q : ℕ) (targets : List H) (so : Option V) (e : Exactness) (all : Option V)
        → Keeps e → PreOfAllPoints a paths forward q targets so e all → PreOfAllPoints (over a b) paths forward q targets so e all
    comes_from_all paths forward q [] so e all k h = h
    comes_from_all paths forward q (target ∷ targets) so e all k (between, c, d, back, rest, is) =
        let i = matters.parts c d (subst Keeps is k) in
        (between, c, d, all_come_back forward target (paths q) so c between i.0 back, comes_from_all paths forward (suc q) targets between d all i.1 rest, is)

    joins_seed : (seed so : Option V) (e : Exactness) (all : Option V) → Keeps e → JoinsSeed a seed so e all → JoinsSeed (over a b) seed so e all
    joins_seed None so e all k h = h
    joins_seed (Some seed) so e all k (w, joined, is) = (w, runs_on so seed e w k joined, is)

    is_next : (paths : ℕ → List (List Action)) (forward : V) (seed : Option V) (heads : List H) (e : Exactness) (w : V) → Keeps e
        → IsNext a paths forward seed heads e w → IsNext (over a b) paths forward seed heads e w
    is_next paths forward seed heads e w k (so, all, c, d, back, joined, from, is) =
        let i = matters.parts c d (subst Keeps is k) in (
          so,
          all,
          c,
          d,
          comes_from_all paths forward 0 heads None c so i.0 back,
          joins_seed seed so d all i.1 joined,
          runs_from (a.forward.dims forward) 1 all w from,
          is,
        )

    are_started : (forward : List V) (heads : List H) → AreStarted a forward heads → AreStarted (over a b) forward heads
    are_started [] [] h = h
    are_started [] (head ∷ heads) h = absurd h
    are_started (x ∷ forward) [] h = absurd h
    are_started (x ∷ forward) (head ∷ heads) (v, nothing, started, rest) = (
      v,
      moves.forward.void (a.forward.dims x) 1 v nothing,
      moves.forward.started v (no_rows (a.forward.dims x)) head started,
      are_started forward heads rest,
    )

    stays_or_grows : (mode : Mode) (head : H) (next : V) (e : Exactness) (stable : Bool) (new : H) → Keeps e → StaysOrGrows a mode head next e stable new
        → StaysOrGrows (over a b) mode head next e stable new
    stays_or_grows mode head next e true new k (stays, same, is) = (moves.forward.stays head next mode stays, same, is)
    stays_or_grows mode head next e false new k h = moves.forward.grown head next mode e new k h

    are_met : (q : ℕ) (f : Option ℕ) (heads : List H) (forward : List V) (g : Option ℕ) (values : List V) → Fine g
        → AreBackwardValues a q f heads forward g values → Fine f × AreBackwardValues (over a b) q f heads forward g values
    are_met q f [] [] g values k (same, is) = (subst Fine same k, (same, is))
    are_met q f [] (x ∷ forward) g values k h = absurd h
    are_met q f (head ∷ heads) [] g values k h = absurd h
    are_met q f (head ∷ heads) (x ∷ forward) g values k (v, w, c, d, more, valued, met, rest, is) =
        let i = are_met (suc q) (noted q (worse c d) f) heads forward g more k rest in
        let p = matters.before q (worse c d) f i.0 in
        let l = matters.parts c d p.0 in
        (p.1, (v, w, c, d, more, moves.forward.valued head c v l.0 valued, moves.met v x d w l.1 met, i.1, is))

    module _ (task : Task V) where
      turned : (mode : Mode) (p : ℕ) (f : Option ℕ) (heads : List H) (g : Option ℕ) (stable : Bool) (new : H) → Fine g
          → IsUpdated a task mode p f heads g stable new → Fine f × IsUpdated (over a b) task mode p f heads g stable new
      turned mode p f heads g stable new k (x, next, head, d, e, at, own, is_next_one, grown, is) =
          let i = matters.before p e (noted p d f) (subst Fine is k) in
          let j = matters.before p d f i.1 in (
            j.1,
            (
              x,
              next,
              head,
              d,
              e,
              at,
              own,
              is_next (task.paths p) x (seed_at task p) heads d next j.0 is_next_one,
              stays_or_grows mode head next e stable new i.0 grown,
              is,
            ),
          )

      rounded : (mode : Mode) (p : ℕ) (f : Option ℕ) (heads : List H) (g : Option ℕ) (stable : Bool) (last : List H) → Fine g
          → Round a task mode p f heads g stable last → Fine f × Round (over a b) task mode p f heads g stable last
      rounded mode zero f heads g stable last k (same, is, all) = (subst Fine is k, (same, is, all))
      rounded mode (suc p) f heads g stable last k (new, i, own, others, turn, rest, all) =
          let j = rounded mode p i (slice_set heads p new) g others last k rest in
          let l = turned mode p f heads i own new j.0 turn in
          (l.0, (new, i, own, others, l.1, j.1, all))

      widens : (n more : ℕ) (f : Option ℕ) (heads : List H) (g : Option ℕ) (last : List H) → Fine g → Widens a task n more f heads g last
          → Fine f × Widens (over a b) task n more f heads g last
      widens n zero f heads g last k h = rounded Widen n f heads g true last k h
      widens n (suc more) f heads g last k (i, between, round, rest) =
          let j = widens n more i between g last k rest in
          let l = rounded Widen n f heads i false between j.0 round in
          (l.0, (i, between, l.1, j.1))

      rounds : (n : ℕ) (f : Option ℕ) (heads : List H) (g : Option ℕ) (last : List H) → Fine g → Rounds a task n f heads g last
          → Fine f × Rounds (over a b) task n f heads g last
      rounds n f heads g last k (inl once) =
          let i = rounded Join n f heads g true last k once in
          (i.0, inl i.1)
      rounds n f heads g last k (inr (i, between, more, round, rest)) =
          let j = widens n more i between g last k rest in
          let l = rounded Join n f heads i false between j.0 round in
          (l.0, inr (i, between, more, l.1, j.1))

    pub backs : (globals : List GlobalVariable) (sites : List Site) (g : Node) (forward : List V) (f : Option ℕ) (p : ℕ) (values : List V)
        (flag : Option ℕ) → Fine flag → BackwardAnalysis a globals sites g forward f p values flag →
        BackwardAnalysis (over a b) globals sites g forward f p values flag
    backs globals sites g forward f p values flag k found =
        let i = are_met 0 found.rounds_flag found.last forward flag values k found.met in
        let task = task_of globals sites g forward p found.seed in
        let j = rounds task (length forward) (noted p found.exactness f) found.first found.rounds_flag found.last i.0 found.rounds in
        let l = matters.before p found.exactness f j.0 in
        let made_false = leaves V H a.forward b.forward Keeps Fine matters moves.forward found.base found.condition false in
        record {
          base = found.base;
          condition = found.condition;
          asserted = found.asserted;
          at_assertion = found.at_assertion;
          is_there = found.is_there;
          exactness = found.exactness;
          seed = found.seed;
          violated = made_false found.at_assertion found.exactness found.seed l.0 found.violated;
          first = found.first;
          started = are_started forward found.first found.started;
          last = found.last;
          rounds_flag = found.rounds_flag;
          rounds = j.1;
          met = i.1;
        }
