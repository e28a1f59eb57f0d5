-- A first flag of rounds is that of a thread's point.
use Rattle.std.proofs.Common.{◌≡◌, ◌∙◌, ◌≤◌, ◌<◌, ◌+◌, ◌-◌, ℕ, suc, Bool, List, [], ◌∷◌, length, refl, sym, ap, subst, arith}
use Rattle.std.proofs.lemmas.Option.{slice_get_past, slice_get_within}
use Rattle.std.specs.{List.Contains, Prelude.⊤, Prelude.Option, Prelude.None, Prelude.Some, Prelude.slice_get}
use Rattle.lra_threads_source.specs.Crates.lra_analysis_spec.Accesses.{JudgesAccesses, OpInside}
use Rattle.lra_threads_source.specs.Crates.lra_fixpoint.Numbers.{IsNumbered, asserts_of, values_in}
use Rattle.lra_threads_source.specs.Crates.lra_threads_fixpoint.Intervals.{IntervalTable, empty_table, next_table}
use Rattle.lra_threads_source.specs.Crates.lra_threads_fixpoint.Rounds.{AllRounds, AreThreadResults, ResultReadings, IsRound, RoundsEndIn, ThreadsFixpoint, first_flag, flag_of, flag_so_far}
use Rattle.lra_threads_source.specs.Crates.lra_threads_fixpoint.Rounds.{joining_rounds, settled, unsettled}
use Rattle.lra_threads_source.specs.Crates.{lra_analysis_spec.Instrumented.instrumented, lra_analysis_spec.Operations.lossy_operations, lra_analysis_spec.Plan.Plan}
use Rattle.lra_threads_source.specs.Crates.{lra_analysis_spec.UnderInterference.absorbed, lra_base.declared.refusals.Place.Place, lra_box.Abstraction.box_abstraction, lra_box.Content.BoxContent}
use Rattle.lra_threads_source.specs.Crates.{lra_domain.Interference.Interference, lra_fixpoint.Counts.failing_at, lra_fixpoint.Counts.values_at, lra_operations.Agree.IsInlinedTree}
use Rattle.lra_threads_source.specs.Crates.{lra_operations.CheckedOperations.accessing_ops, lra_operations.Tree.Node, lra_program.Program.Program, lra_program.Sites.Site, lra_program.Sites.sites_of}
use Rattle.lra_threads_source.proofs.Crates.lra_fixpoint.Counting.{counted_value, failing_counted, pass_found, value_counted}
use Rattle.lra_threads_source.proofs.Crates.lra_threads_instrument.InstrumentedTrees.{numbered_of}
use Rattle.lra_analyse_source.proofs.{Flags.IsBelow, Flags.graph_below, Flags.iteration_among_below, Found.flagged_below, Found.found_of, Found.point_below, Handing.no_longer, Numbering.numbered}
use Rattle.lra_threads_analysis.specs.Found.{IsThreadResult, IsThreadResultOf, flag_of_thread, thread_finding, access_verdicts_of, thread_values, verdicts_of}
use Rattle.lra_threads_analysis.specs.declared.found.ThreadResult.{ThreadResult}
use Rattle.lra_threads_source.proofs.OpenedBelow.{opened_below}

-- of rounds ----------------------------------------------------------------------------------------------------------

-- this is so of the flag, if there is one
abbrev pub IfFlag : (ℕ × ℕ → Type 0) → Option (ℕ × ℕ) → Type 0
IfFlag So None = ⊤
IfFlag So (Some f) = So f

module _ {R : Type 0} (finding : ResultReadings R) (globals count : ℕ) (IsFoundHere : ℕ → Interference BoxContent → R → Type 0) where
  -- the round that settles
  end_found : (left : ℕ) (flag : Option (ℕ × ℕ)) (table : IntervalTable) (end : ThreadsFixpoint R) →
      RoundsEndIn finding globals IsFoundHere count left flag table end
      → AreThreadResults globals IsFoundHere count end.table end.found
  end_found left flag table _ (settled _ _ first _ written found round within) = round.are_found
  end_found left flag table end (unsettled _ _ first _ written found _ round moves rest) = end_found (left - 1) first (next_table left table written) end rest

  pub all_end_found : (end : ThreadsFixpoint R) → AllRounds finding globals IsFoundHere count end →
      AreThreadResults globals IsFoundHere count end.table end.found
  all_end_found end rounds = end_found joining_rounds None (empty_table count globals) end rounds

module _ {R : Type 0} (finding : ResultReadings R) (globals count : ℕ) (IsFoundHere : ℕ → Interference BoxContent → R → Type 0) (So : ℕ × ℕ → Type 0)
    (each : (k : ℕ) (o : Interference BoxContent) (r : R) → IsFoundHere k o r → (q : ℕ) → finding.flag r ≡ Some q → So (k, q)) where
  flag_so : (k : ℕ) (own : Option ℕ) (later : Option (ℕ × ℕ)) → ((q : ℕ) → own ≡ Some q → So (k, q)) → IfFlag So later → IfFlag So (flag_of k own later)
  flag_so k None later own rest = rest
  flag_so k (Some q) later own rest = own q refl

  first_so : (k : ℕ) (rs : List R) → ((j : ℕ) (r : R) → slice_get rs j ≡ Some r → (q : ℕ) → finding.flag r ≡ Some q → So (k + j, q))
      → IfFlag So (first_flag finding.flag k rs)
  first_so k [] flags = tt
  first_so k (r ∷ rs) flags =
      flag_so k (finding.flag r) (first_flag finding.flag (suc k) rs)
      (λ q is. subst (λ (n : ℕ). So (n, q)) (omega arith) (flags 0 r refl q is))
      (first_so (suc k) rs (λ j s there q is. subst (λ (n : ℕ). So (n, q)) (omega arith) (flags (suc j) s there q is)))

  so_far : (flag first : Option (ℕ × ℕ)) → IfFlag So flag → IfFlag So first → IfFlag So (flag_so_far flag first)
  so_far None first old new = new
  so_far (Some f) first old new = old

  round_so : (flag first : Option (ℕ × ℕ)) (table written : IntervalTable) (found : List R) →
      IsRound finding globals IsFoundHere count flag table found written first
      → IfFlag So flag → IfFlag So first
  round_so flag first table written found round so =
      subst (IfFlag So) (sym round.is_first)
      (so_far flag (first_flag finding.flag 0 found) so (first_so 0 found (λ j r there q is. subst (λ (n : ℕ). So (n, q)) (omega arith) (each j _ r (round.are_found.each j r there) q is))))

  rounds_so : (left : ℕ) (flag : Option (ℕ × ℕ)) (table : IntervalTable) (end : ThreadsFixpoint R) →
      RoundsEndIn finding globals IsFoundHere count left flag table end
      → IfFlag So flag → IfFlag So end.flag
  rounds_so left flag table _ (settled _ _ first _ written found round within) so = round_so flag first table written found round so
  rounds_so left flag table end (unsettled _ _ first _ written found _ round moves rest) so =
      rounds_so (left - 1) first (next_table left table written) end rest (round_so flag first table written found round so)

  pub all_rounds_so : (end : ThreadsFixpoint R) → AllRounds finding globals IsFoundHere count end → IfFlag So end.flag
  all_rounds_so end rounds = rounds_so joining_rounds None (empty_table count globals) end rounds tt

pub if_flag : (So : ℕ × ℕ → Type 0) (flag : Option (ℕ × ℕ)) (k q : ℕ) → IfFlag So flag → flag ≡ Some (k, q) → So (k, q)
if_flag So flag k q so is = subst (IfFlag So) is so

-- what is reported about accesses stands at points
pub answers_low : (g : Node) (values : List BoxContent) (before : Option ℕ) (told : List (ℕ × List (Place × Bool))) (flag : Option ℕ)
    → JudgesAccesses box_abstraction (lossy_operations box_abstraction) g values before told flag → (v : ℕ × List (Place × Bool)) → Contains told v →
    v.0 < length values
answers_low g values before told flag judged v among =
    let (j, one, at, answer) = found_of judged.found v.0 v.1 (subst (λ (l : List (ℕ × List (Place × Bool))). Contains l v) judged.told among) in
    subst (λ (q : ℕ). q < length values) at
    (point_below (lossy_operations box_abstraction) (OpInside box_abstraction (lossy_operations box_abstraction)) (accessing_ops None g) values before told flag
    judged j one)

-- of one thread ------------------------------------------------------------------------------------------------------

module _ (o : Interference BoxContent) (plan : Plan) (P Q : Program) (g : Node) (graph : IsInlinedTree Q g) (f : ThreadResult)
    (is : IsThreadResult o plan P g f) where
  abbrev m : ℕ
  m = length (sites_of Q)

  abbrev whole : Node
  whole = instrumented (length P.globals) g

  numbers : IsNumbered (sites_of Q) whole
  numbers = numbered_of (sites_of Q) (length P.globals) g (numbered Q g graph)

  counts : (k : ℕ) → values_at k is.solved.result.entries ≡ values_in whole k
  counts k =
      let (none, first, e, universal, values, pass) = is.solved.derived in
      (pass_found BoxContent _ (lossy_operations box_abstraction) (absorbed o box_abstraction) k plan whole _ first is.solved.result pass).values

  fails : (k : ℕ) → failing_at k is.solved.result.entries ≡ asserts_of (slice_get (sites_of Q) k)
  fails k =
      let (none, first, e, universal, values, pass) = is.solved.derived in
      (pass_found BoxContent _ (lossy_operations box_abstraction) (absorbed o box_abstraction) k plan whole _ first is.solved.result pass).checks
      ∙ numbers.checks k

  -- a value stands at a point, and each point has one
  value_point : (k : ℕ) (v : BoxContent) → slice_get (thread_values f) k ≡ Some v → (s : Site) × (slice_get (sites_of Q) k ≡ Some s)
  value_point k v there = at (slice_get (sites_of Q) k) refl
    where
      at : (x : Option Site) → slice_get (sites_of Q) k ≡ x → (s : Site) × (slice_get (sites_of Q) k ≡ Some s)
      at (Some s) e = (s, e)
      at None e =
          let some = value_counted BoxContent k v is.solved.result.entries ((is.solved.solves.is_value k v).0 there) in
          let count = counts k in
          let zero = numbers.no_values k e in
          absurd (omega (arith, some, count, zero))

  point_value : (k : ℕ) (s : Site) → slice_get (sites_of Q) k ≡ Some s → (v : BoxContent) × (slice_get (thread_values f) k ≡ Some v)
  point_value k s there =
      let count = counts k in
      let one = numbers.values k s there in
      let found = counted_value BoxContent k is.solved.result.entries (omega (arith, count, one)) in
      (found.0, (is.solved.solves.is_value k found.0).1 found.1)

  many : length (thread_values f) ≡ m
  many =
      let few = no_longer (thread_values f) (sites_of Q) value_point in
      let more = no_longer (sites_of Q) (thread_values f) point_value in
      omega (arith, few, more)

  no_values : (k : ℕ) → m ≤ k → values_in g k ≡ 0
  no_values k high = (numbered Q g graph).no_values k (slice_get_past (sites_of Q) k high)

  iteration_flag : (q : ℕ) → f.noted.solution.flagged ≡ Some q → q < m
  iteration_flag q flagged =
      let all = graph.all in
      let below = iteration_among_below BoxContent _ (lossy_operations box_abstraction) (absorbed o box_abstraction) m plan P whole is.solved.result
      (omega (arith, all)) (opened_below m (length P.globals) g no_values (graph_below Q g graph)) is.solved.derived in
      subst (IsBelow m) (sym is.solved.solves.is_flagged ∙ flagged) below

  -- a verdict is on a point, and so is what is reported about accesses
  pub verdict_low : (q : ℕ) (b : Bool) → Contains (verdicts_of f) (q, b) → q < m
  verdict_low q b listed =
      let (u, found, so) = is.solved.solves.is_verdict q b listed in
      let some = failing_counted BoxContent q u is.solved.result.entries found in
      let count = fails q in
      at (slice_get (sites_of Q) q) refl (omega (arith, some, count))
    where
      at : (x : Option Site) → slice_get (sites_of Q) q ≡ x → 1 ≤ asserts_of (slice_get (sites_of Q) q) → q < m
      at (Some s) e some = slice_get_within (sites_of Q) q s e
      at None e some = let zero : asserts_of (slice_get (sites_of Q) q) ≡ 0 = ap asserts_of e in absurd (omega (arith, some, zero))

  pub told_low : (q : ℕ) (js : List (Place × Bool)) → Contains (access_verdicts_of f) (q, js) → q < m
  told_low q js listed =
      let low = answers_low g (thread_values f) f.noted.solution.flagged (access_verdicts_of f) (flag_of_thread f) is.accessed (q, js) listed in
      let all = many in
      omega (arith, low, all)

  pub thread_flag : (q : ℕ) → flag_of_thread f ≡ Some q → q < m
  thread_flag q flagged =
      flagged_below (lossy_operations box_abstraction) (OpInside box_abstraction (lossy_operations box_abstraction)) (accessing_ops None g) (thread_values f)
      f.noted.solution.flagged (access_verdicts_of f)
      (flag_of_thread f) is.accessed m many iteration_flag q flagged

-- of all threads, whose trees these are
pub flag_there : (plan : Plan) (P : Program) (trees : List Node) (programs : ℕ → Program) → ((k : ℕ) (g : Node) → slice_get trees k ≡ Some g → IsInlinedTree (programs k) g)
    → (end : ThreadsFixpoint ThreadResult) → AllRounds thread_finding (length P.globals) (IsThreadResultOf plan P trees) (length trees) end
    → (k q : ℕ) → end.flag ≡ Some (k, q) → (g : Node) × (slice_get trees k ≡ Some g) × (q < length (sites_of (programs k)))
flag_there plan P trees programs graphs end rounds k q is =
    if_flag (λ (f : ℕ × ℕ). (g : Node) × (slice_get trees f.0 ≡ Some g) × (f.1 < length (sites_of (programs f.0)))) end.flag k q
    (all_rounds_so thread_finding (length P.globals) (length trees) (IsThreadResultOf plan P trees)
    (λ (f : ℕ × ℕ). (g : Node) × (slice_get trees f.0 ≡ Some g) × (f.1 < length (sites_of (programs f.0))))
    (λ j o r found p flagged.
    let (g, there, found_so) = found in
    (g, there, thread_flag o plan P (programs j) g (graphs j g there) r found_so p flagged)) end rounds) is
