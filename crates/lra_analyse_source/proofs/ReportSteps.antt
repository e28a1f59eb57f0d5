-- From the tree of operations of a source to its report: what the iteration and the listing ask, and what they give.
use Rattle.lra_analyse_source.specs.Crates.lra_analysis_spec.Accesses.{OpInside, JudgesAccesses}
use Rattle.lra_analyse_source.specs.Crates.lra_analysis_spec.Operations.{exact_operations, lossy_operations, straining_operations}
use Rattle.lra_analyse_source.specs.Crates.lra_operations.CheckedOperations.{AgreesOnAccesses, accessing_ops, computing_ops, ops_where}
use Rattle.lra_analyse_source.specs.Crates.lra_program.Sites.{Site, Event, comes, one_call_more, events_of, event_sites, sites_of}
use Rattle.lra_analyse_source.specs.Crates.lra_resolution_spec.Refuse.{greatest_live, greatest_points, limit_fault}
use Rattle.lra_analyse_source.specs.Crates.{lra_analysis_spec.Fits.OpFits, lra_analysis_spec.Fits.JudgesIf, lra_analysis_spec.LiveLimit.most_live, lra_analysis_spec.Plan.Plan}
use Rattle.lra_analyse_source.specs.Crates.{lra_analysis_spec.Plan.plan_of, lra_base.declared.refusals.Place.Place, lra_base.declared.refusals.Refusal.Refusal, lra_domain.Abstraction.Abstraction}
use Rattle.lra_analyse_source.specs.Crates.{lra_domain.Laws.Laws, lra_operations.Agree.IsInlinedTree, lra_operations.Tree.Node, lra_overflow_checks.Judged.AreBelow}
use Rattle.lra_analyse_source.specs.Crates.{lra_pass_results.Dimensions.TreeFits, lra_program.Accesses.op_accesses_any, lra_program.Overflow.op_computes, lra_program.Program.Program}
use Rattle.lra_analyse_source.specs.Crates.{lra_program.ProgramViews.program_view, lra_program.Step.Op, lra_program.WellFormed.AreGoodGlobals}
use Rattle.lra_analyse_source.specs.Crates.{lra_program.declared.program.GlobalVariable.GlobalVariable, lra_report.Listing.Lists, lra_report.Report.Invariant, lra_report.Report.Report}
use Rattle.lra_analyse_source.specs.Crates.{lra_report.Spelled.IsSpelledPart, lra_resolution_spec.Resolve.resolve, lra_syntax.Labels.Labelled, lra_syntax.Labels.labels_of, lra_syntax.Trees.FileTree}
use Rattle.std.proofs.Common.{◌≡◌, ◌≤◌, ◌<◌, ◌+◌, ℕ, suc, ℤ, List, [], ◌∷◌, length, map, Bool, true, false, Option, Some, None, refl, sym, ap, ap₂, ◌∙◌, subst, arith}
use Rattle.std.proofs.{lemmas.Bool.Decides.nat_tests, lemmas.Option.slice_get-get_or}
use Rattle.std.specs.{List.AllByRecursion, Prelude.option_map, Prelude.nat_lt, Prelude.if◌then◌else◌, Prelude.slice_get, Prelude.All, Prelude.get_or}
use Rattle.lra_analyse_source.specs.Crates.lra_program.declared.program.Program as declared
use Rattle.lra_options.specs.{declared.options.Domain.Domain, declared.options.Options.Options}
use Rattle.lra_fixpoint.specs.{Numbers.IsNumbered, Solved.IsSolved}
use Rattle.lra_fixpoint.specs.Numbers as numbers
use Rattle.lra_report_build.specs.AnalysisResults.{AreInvariants, AreVerdicts, AreFitting, AreAccessVerdicts, ReportedVerdict, state_of, reported_of, reported_all}
use Rattle.lra_report_build.specs.{Canonical.AreCanonicallyShown, Shown.AreShown}
use Rattle.lra_front_end.specs.Stages.{HasInlinedTree}
use Rattle.lra_analyse_source.specs.Stages.{IsReportOfTree, ReportsSolution}
use Rattle.lra_analyse_source.proofs.Handing.{as_many, value_dims, states_as_many, of_assertions, of_all, states_canonical, states_wide, flag_there}
use Rattle.lra_analyse_source.proofs.{AccessesHanded.inside_on, FitsHanded.fitting_on, FitsHanded.unflagged_before, Fitting.tree_fits, Fitting.few_globals, Flags.graph_below, Found.asked_one}
use Rattle.lra_analyse_source.proofs.Crates.{lra_analysis_spec.OneAccess.accesses_written, lra_analysis_spec.OneAccess.accesses_strained, lra_analysis_spec.OneJudgement.judged_written}
use Rattle.lra_analyse_source.proofs.Crates.{lra_analysis_spec.OneJudgement.judged_strained, lra_analysis_spec.OneTree.one_tree, lra_inline_sound.CheckedOperations.trees_agree_on_accesses}
use Rattle.lra_analyse_source.proofs.Crates.{lra_inline_sound.CheckedOperations.trees_agree_on_overflows, lra_inline_sound.DistinctSites.distinct_sites, lra_linear_spec.ListPlaces.there_within}
use Rattle.lra_analyse_source.proofs.{Found.flagged_below, Found.none_before, Numbering.numbered, Readable.canonical, Readable.readable}

-- what the iteration asks --------------------------------------------------------------------------------------------

pub fits : (t : FileTree) (g : Node) (sites : List Site) (globals : List GlobalVariable) → HasInlinedTree t g sites → (resolve t).globals ≡ globals → TreeFits g
    (length globals)
fits t g sites globals has is = subst (λ (l : List GlobalVariable). TreeFits g (length l)) is (tree_fits (resolve t) g has.well has.few has.is_graph)

-- the globals, as they are handed on
pub globals_seen : (p : declared.Program) (t : FileTree) (globals : List GlobalVariable) → program_view p ≡ resolve t → globals ≡ p.globals.items →
    (resolve t).globals ≡ globals
globals_seen p t globals is same = sym (ap (λ (P : Program). P.globals) is) ∙ sym same

pub small_globals : (t : FileTree) (g : Node) (sites : List Site) (globals : List GlobalVariable) → HasInlinedTree t g sites → (resolve t).globals ≡ globals →
    length
    globals ≤ most_live
small_globals t g sites globals has is =
    let few = few_globals (resolve t) g has.few has.is_graph in
    let same : length (resolve t).globals ≡ length globals = ap length is in
    omega (arith, few, same)

pub good_globals : (t : FileTree) (g : Node) (sites : List Site) (globals : List GlobalVariable) → HasInlinedTree t g sites → (resolve t).globals ≡ globals →
    AreGoodGlobals globals
good_globals t g sites globals has is = subst AreGoodGlobals is has.well.globals

pub is_numbered : (t : FileTree) (g : Node) (sites : List Site) → HasInlinedTree t g sites → IsNumbered sites g
is_numbered t g sites has = subst (λ (T : List Site). IsNumbered T g) (sym has.points) (numbered (resolve t) g has.is_graph)

-- limits -------------------------------------------------------------------------------------------------------------

step_by : (over : Bool) (full : Bool) (a b : Refusal) (rest : Option Refusal) → (if over then Some a else (if full then Some b else rest)) ≡ None → (full ≡ false) × (rest ≡ None)
step_by true full a b rest e = let wrong : ⊥ = cc in absurd wrong
step_by false true a b rest e = let wrong : ⊥ = cc in absurd wrong
step_by false false a b rest e = (refl, e)

pub few_behind : (ls : List Labelled) (n : ℕ) (es : List Event) → limit_fault ls n es ≡ None → n ≤ greatest_points →
    n + length (event_sites es) ≤ greatest_points
few_behind ls n [] e l = omega (arith, l)
few_behind ls n (comes s ∷ es) e l =
    let (free, rest) = step_by (nat_lt greatest_live s.live) (nat_lt greatest_points (suc n)) _ _ (limit_fault ls (suc n) es) e in
    let more : suc n ≤ greatest_points = room n free in
    let behind = few_behind ls (suc n) es rest more in
    omega (arith, behind)
  where
    room : (n : ℕ) → nat_lt greatest_points (suc n) ≡ false → suc n ≤ greatest_points
    room n e = grind (arith, nat_tests)
few_behind ls n (one_call_more at ∷ es) e l = let wrong : ⊥ = cc in absurd wrong

-- no more than 2,048 points
pub few_points : (t : FileTree) (g : Node) (sites : List Site) → HasInlinedTree t g sites → length sites ≤ 2048
few_points t g sites has =
    let few = few_behind (labels_of t) 0 (events_of (resolve t)) has.within (omega arith) in
    let same : length sites ≡ length (sites_of (resolve t)) = ap length has.points in
    omega (arith, few, same)

-- what is shown of the values -----------------------------------------------------------------------------------------

-- under another name of the domain, and of a list that is the same
pub shown_there : {V H : Type 0} (m : Abstraction V H) (shown : V → Invariant) (domain named : Domain) (values listed : List V) → domain ≡ named → listed ≡ values → AreShown m named shown listed
    → AreShown m domain shown values
shown_there {V} m shown domain named values listed is same are =
    subst (λ (d : Domain). AreShown m d shown values) (sym is) (subst (λ (vs : List V). AreShown m named shown vs) same are)

pub canonical_there : {V : Type 0} (dims : V → ℕ) (shown : V → Invariant) (domain named : Domain) (values listed : List V) → domain ≡ named → listed ≡ values
    → AreCanonicallyShown named dims shown listed → AreCanonicallyShown domain dims shown values
canonical_there {V} dims shown domain named values listed is same are =
    subst (λ (d : Domain). AreCanonicallyShown d dims shown values) (sym is) (subst (λ (vs : List V). AreCanonicallyShown named dims shown vs) same are)

-- what the listing asks ----------------------------------------------------------------------------------------------

accesses_well : (t : FileTree) (g : Node) (sites : List Site) → HasInlinedTree t g sites → AgreesOnAccesses (resolve t) g
accesses_well t g sites has = trees_agree_on_accesses (resolve t) g (distinct_sites (resolve t) has.well) has.is_graph

module _ {V H : Type 0} (m : Abstraction V H) (t : FileTree) (g : Node) (sites : List Site) (has : HasInlinedTree t g sites) (plan : Plan)
    (values : List V) (verdicts : List (ℕ × Bool)) (flagged : Option ℕ) (solved : IsSolved m plan (resolve t) g values verdicts flagged) where
  pub states_handed : Laws m → (domain : Domain) (shown : V → Invariant) → AreShown m domain shown values
      → (states : List Invariant) → states ≡ map shown values → AreInvariants sites states
  states_handed laws domain shown are states is = subst (λ (T : List Site). AreInvariants T states) (sym has.points) (record {
    as_many = ap length is ∙ states_as_many m plan (resolve t) g solved.result values verdicts flagged has.is_graph solved.derived solved.solves shown;
    wide = λ q s state there got. states_wide m plan (resolve t) g solved.result values verdicts flagged has.is_graph solved.derived solved.solves shown laws domain are q s state there
        (ap (λ (l : List Invariant). slice_get l q) (sym is) ∙ got);
  })

  pub verdicts_handed : AreVerdicts sites verdicts
  verdicts_handed = subst (λ (T : List Site). AreVerdicts T verdicts) (sym has.points) (record {
    of_these = of_assertions m plan (resolve t) g solved.result values verdicts flagged has.is_graph solved.derived solved.solves;
    of_all = of_all m plan (resolve t) g solved.result values verdicts flagged has.is_graph solved.derived solved.solves;
    in_order = solved.solves.in_order;
  })

  pub flag_handed : (q : ℕ) → flagged ≡ Some q → q < length (sites_of (resolve t))
  flag_handed = flag_there m plan (resolve t) g solved.result values verdicts flagged has.is_graph solved.derived solved.solves

  values_as_many : length values ≡ length (sites_of (resolve t))
  values_as_many = as_many m plan (resolve t) g solved.result values verdicts flagged has.is_graph solved.derived solved.solves

  -- what the judging asks: each value has few dimensions, each operation that is asked a value
  pub few_dims : Laws m → All (λ (v : V). m.dims v < most_live) values
  few_dims laws k d h =
      let v = get_or values k d in
      let there : slice_get values k ≡ Some v = slice_get-get_or values k d h in
      let (s, site) = there_within (sites_of (resolve t)) k (subst (λ (n : ℕ). k < n) values_as_many h) in
      let dims = value_dims m plan (resolve t) g solved.result values verdicts flagged has.is_graph solved.derived solved.solves laws k v s there site in
      let few = has.few k s site in
      omega (arith, dims, few)

  below_handed : (asks : Op → Bool) → AreBelow (length values) (ops_where asks None g)
  below_handed asks a h = subst (λ (n : ℕ). a.point < n) (sym values_as_many)
      (asked_one asks (length (sites_of (resolve t))) g None (graph_below (resolve t) g has.is_graph) a h).0

  pub asked_handed : AreBelow (length values) (computing_ops None g)
  asked_handed = below_handed op_computes

  pub accessed_handed : AreBelow (length values) (accessing_ops None g)
  accessed_handed = below_handed op_accesses_any

  -- what the listing asks of what is judged, by whichever tree: there is one
  pub fitting_handed : (b : Bool) (fitting : List (ℕ × Bool)) (behind : Option ℕ) → JudgesIf m (lossy_operations m) b g values flagged fitting behind
      → (h : Node) → IsInlinedTree (resolve t) h → AreFitting b h sites fitting
  fitting_handed b fitting behind judged h also =
      subst (λ (k : Node). AreFitting b k sites fitting) (one_tree (resolve t) g h has.is_graph also) (go b judged)
    where
      go : (c : Bool) → JudgesIf m (lossy_operations m) c g values flagged fitting behind → AreFitting c g sites fitting
      go true j = fitting_on m (lossy_operations m) g values flagged fitting behind sites (values_as_many ∙ sym (ap length has.points)) j
      go false none = none.0

  pub behind_handed : (b : Bool) (fitting : List (ℕ × Bool)) (behind : Option ℕ) → JudgesIf m (lossy_operations m) b g values flagged fitting behind
      → (q : ℕ) → behind ≡ Some q → q < length (sites_of (resolve t))
  behind_handed true fitting behind j q is =
      flagged_below (lossy_operations m) (OpFits m (lossy_operations m)) (computing_ops None g) values flagged fitting behind j
      (length (sites_of (resolve t))) values_as_many flag_handed q is
  behind_handed false fitting behind none q is = flag_handed q (sym none.1 ∙ is)

  pub inside_handed : (inside : List (ℕ × List (Place × Bool))) (behind last : Option ℕ) → JudgesAccesses m (lossy_operations m) g values behind inside last
      → (h : Node) → IsInlinedTree (resolve t) h → AreAccessVerdicts h sites inside
  inside_handed inside behind last j h also =
      subst (λ (k : Node). AreAccessVerdicts k sites inside) (one_tree (resolve t) g h has.is_graph also)
      (inside_on m (lossy_operations m) g values behind inside last (accesses_well t g sites has 0).once sites (values_as_many ∙ sym (ap length has.points))
      (subst (λ (T : List Site). numbers.AreBelow (length T) g) (sym has.points) (graph_below (resolve t) g has.is_graph)) j)

  pub last_handed : (b : Bool) (fitting : List (ℕ × Bool)) (inside : List (ℕ × List (Place × Bool))) (behind last : Option ℕ)
      → JudgesIf m (lossy_operations m) b g values flagged fitting behind → JudgesAccesses m (lossy_operations m) g values behind inside last
      → (q : ℕ) → last ≡ Some q → q < length (sites_of (resolve t))
  last_handed b fitting inside behind last judged j q is =
      flagged_below (lossy_operations m) (OpInside m (lossy_operations m)) (accessing_ops None g) values behind inside last j (length (sites_of (resolve t)))
      values_as_many
      (behind_handed b fitting behind judged) q is

-- the report ---------------------------------------------------------------------------------------------------------

pub is_told : {V H : Type 0} (m : Abstraction V H) (shown : V → Invariant) (o : Options) (constants : List ℤ) (t : FileTree) (g : Node) (sites : List Site)
    (values : List V) (verdicts : List (ℕ × Bool)) (flagged : Option ℕ) (fitting : List (ℕ × Bool)) (behind : Option ℕ)
    (inside : List (ℕ × List (Place × Bool))) (last : Option ℕ) (states : List Invariant) (r : Report)
    → HasInlinedTree t g sites → IsSolved m (plan_of o constants) (resolve t) g values verdicts flagged →
    JudgesIf m (lossy_operations m) o.fits g values flagged fitting
    behind → JudgesAccesses m (lossy_operations m) g values behind inside last → states ≡ map shown values → AreShown m o.domain shown values
    → AllByRecursion (AllByRecursion IsSpelledPart) states → Laws m → AreCanonicallyShown o.domain m.dims shown values → r.options ≡ o → Lists t r → map state_of r.points ≡ states
    → map reported_of r.verdicts ≡ reported_all verdicts fitting inside → r.flagged ≡ option_map suc last → IsReportOfTree m shown o constants t r
is_told m shown o constants t g sites values verdicts flagged fitting behind inside last states r has solved judging accessing are are_shown spelled laws
    lists_shown options lists same judged flag = record {
      names = has.names;
      straight = has.straight;
      within = has.within;
      options = options;
      lists = lists;
      analysed = record {
        globals = has.well.globals;
        tree = g;
        is_graph = has.is_graph;
        asks = trees_agree_on_overflows (resolve t) g (distinct_sites (resolve t) has.well) has.is_graph;
        accesses = accesses_well t g sites has;
        result = solved.result;
        values = values;
        verdicts = verdicts;
        flagged = flagged;
        solves = solved.solves;
        derived = solved.derived;
        written = solved.written;
        strained = solved.strained;
        are_shown = are_shown;
        states = same ∙ are;
        fitting = fitting;
        overflow_flag = behind;
        judged = judging;
        judged_written = λ none. written_if none;
        judged_strained = λ q none some.
            subst (λ (f : Option ℕ). JudgesIf m (straining_operations m) o.fits g values f fitting (Some q)) none
            (subst (λ (f : Option ℕ). JudgesIf m (straining_operations m) o.fits g values flagged fitting f) some
            (judged_strained m laws o.fits g values flagged fitting behind judging));
        inside = inside;
        last = last;
        accessed = accessing;
        accessed_written = λ none. accessed_if none;
        accessed_strained = λ q none some.
            subst (λ (f : Option ℕ). JudgesAccesses m (straining_operations m) g values f inside (Some q)) none
            (subst (λ (f : Option ℕ). JudgesAccesses m (straining_operations m) g values behind inside f) some
            (accesses_strained m laws g values behind inside last accessing));
        proved = judged;
        flag = flag;
      };
      agrees = has.agrees;
      canonical = canonical o t r lists (λ k s state there got.
          states_canonical m (plan_of o constants) (resolve t) g solved.result values verdicts flagged has.is_graph solved.derived solved.solves
          shown laws o.domain lists_shown k s state there (ap (λ (l : List Invariant). slice_get l k) (sym (same ∙ are)) ∙ got));
      readable = readable t r last lists (subst (AllByRecursion (AllByRecursion IsSpelledPart)) (sym same) spelled) flag low;
    }
  where
    written_if : behind ≡ None → JudgesIf m (exact_operations m) o.fits g values None fitting None
    written_if none =
        let judged_so = judged_written m laws o.fits g values flagged fitting behind none judging in
        let first : flagged ≡ None = unflagged_before m (lossy_operations m) o.fits g values flagged fitting behind none judging in
        subst (λ (f : Option ℕ). JudgesIf m (exact_operations m) o.fits g values None fitting f) none
        (subst (λ (f : Option ℕ). JudgesIf m (exact_operations m) o.fits g values f fitting behind) first judged_so)

    accessed_if : last ≡ None → JudgesAccesses m (exact_operations m) g values None inside None
    accessed_if none =
        let accessed_so = accesses_written m laws g values behind inside last none accessing in
        let first : behind ≡ None =
        none_before (lossy_operations m) (OpInside m (lossy_operations m)) (accessing_ops None g) values behind inside last accessing none in
        subst (λ (f : Option ℕ). JudgesAccesses m (exact_operations m) g values None inside f) none
        (subst (λ (f : Option ℕ). JudgesAccesses m (exact_operations m) g values f inside last) first accessed_so)

    low : (q : ℕ) → last ≡ Some q → q < 2048
    low q is =
        let there = last_handed m t g sites has (plan_of o constants) values verdicts flagged solved o.fits fitting inside behind last judging accessing q is in
        let few = few_points t g sites has in
        let same : length sites ≡ length (sites_of (resolve t)) = ap length has.points in
        omega (arith, there, few, same)

-- verdicts that are reported as they were handed on
pub told_so : (told : List ReportedVerdict) (vs us fs gs : List (ℕ × Bool)) (ones others : List (ℕ × List (Place × Bool))) → told ≡ reported_all vs fs ones
    → vs ≡ us → fs ≡ gs → ones ≡ others → told ≡ reported_all us gs others
told_so told vs us fs gs ones others is one two three =
    is ∙ ap (λ (l : List (ℕ × Bool)). reported_all l fs ones) one
    ∙ ap₂ (λ (l : List (ℕ × Bool)) (k : List (ℕ × List (Place × Bool))). reported_all us l k) two three

-- it shows these values and reports these verdicts
pub tells_solution : {V H : Type 0} (m : Abstraction V H) (shown : V → Invariant) (asked : Bool) (g : Node) (values : List V) (verdicts : List (ℕ × Bool))
    (flagged : Option ℕ) (fitting : List (ℕ × Bool)) (behind : Option ℕ) (inside : List (ℕ × List (Place × Bool))) (states : List Invariant) (r : Report)
    → JudgesIf m (lossy_operations m) asked g values flagged fitting behind → states ≡ map shown values → map state_of r.points ≡ states
    → map reported_of r.verdicts ≡ reported_all verdicts fitting inside → ReportsSolution shown asked values verdicts r
tells_solution m shown asked g values verdicts flagged fitting behind inside states r judged are same told =
    record { states = same ∙ are; fitting = fitting; inside = inside; told = told; silent = λ off. none asked off judged }
  where
    none : (b : Bool) → b ≡ false → JudgesIf m (lossy_operations m) b g values flagged fitting behind → fitting ≡ []
    none true off j = absurd (let no : true ≡ false = off in cc)
    none false off j = j.0
