-- Each input that is to be a certificate must get an answer: its source has one, the paths of its program are few or
-- the least source is found from more of which than are accepted lead to one goal, and its lines are judged.
use Rattle.std.proofs.Common.{◌≡◌, ◌∙◌, ◌≤◌, ◌<◌, ◌⊎◌, ℕ, zero, suc, List, [], ◌∷◌, length, map, Option, None, Some, Ok, Err, Bool, true, false, cond, refl, ap, sym, subst, arith, inl, inr, slice_get}
use Rattle.std.proofs.{lemmas.Bool.cases_lt, lemmas.Bool.eqb-true, lemmas.Bool.Decides.nat_tests, lemmas.Option.same_Some, lemmas.Option.none-some}
use Rattle.std.specs.{List.AllZip, List.filter, List.flat_map, Prelude.if◌then◌else◌, Prelude.nat_lt, Prelude.nat_eq, Prelude.◌&&◌}
use Rattle.lra_base.specs.declared.refusals.Refusal.{Refusal}
use Rattle.lra_commands.specs.Crates.lra_resolution_spec.EntryPoint.{at_main}
use Rattle.lra_commands.specs.Crates.lra_certificate_spec.Claims.{IsProgram, program_of, VerifyAnswer, verified, source_refused, paths_refused, line_refused, VerifiesTo, HasHead, greatest_certificate}
use Rattle.lra_commands.specs.Crates.lra_certificate_spec.Claims.{EachVerified}
use Rattle.lra_commands.specs.Crates.lra_certificate_spec.Judged.{Judged, Head, too_long, bad_line, judged, head_of}
use Rattle.lra_commands.specs.Crates.lra_path_segments.Segments.{Goal, comes_to, violates, GoalSegment, Segment, enter, inside}
use Rattle.lra_commands.specs.Crates.lra_paths.Paths.{same_goal, live_at, started, actions_between, AreFewFrom, AreFewPaths, HasTooManyPaths}
use Rattle.lra_commands.specs.Crates.lra_program.Sites.{Site, Event, comes, one_call_more, event_sites, events_of, sites_of}
use Rattle.lra_commands.specs.Crates.{lra_front_end.Claims.IsAccepted, lra_front_end.Claims.IsProgramTree, lra_front_end.Stages.HasTree, lra_operations.Tree.Node, lra_path_disjuncts.Disjuncts.written}
use Rattle.lra_commands.specs.Crates.{lra_path_disjuncts.Disjuncts.greatest_paths, lra_program.Program.Program, lra_resolution_spec.Refuse.greatest_live, lra_resolution_spec.Refuse.greatest_points}
use Rattle.lra_commands.specs.Crates.{lra_resolution_spec.Refuse.limit_fault, lra_resolution_spec.Refuse.Accepts, lra_resolution_spec.Resolve.resolve, lra_syntax.Labels.Labelled, lra_syntax.Labels.labels_of}
use Rattle.lra_commands.specs.Crates.{lra_syntax.Grammar.Spells, lra_syntax.Trees.FileTree}
use Rattle.lra_commands.proofs.Crates.{lra_certificate_spec.JudgedBothWays.judged_exactly, lra_front_end.SomeAnswer.some_answer, lra_front_end.StageSteps.points_at_main, lra_front_end.StageSteps.well, lra_syntax.LexedByTest.and_second}
use Rattle.lra_commands.proofs.OneVerified.{one_verified}

-- programs -----------------------------------------------------------------------

within_live : (n : ℕ) → nat_lt greatest_live n ≡ false → n ≤ greatest_live
within_live n e = grind (arith, nat_tests)

neither : (a b : Bool) (r s : Refusal) (o : Option Refusal) → (if a then Some r else (if b then Some s else o)) ≡ None → (a ≡ false) × (o ≡ None)
neither true b r s o e = absurd (none-some r (sym e))
neither false true r s o e = absurd (none-some s (sym e))
neither false false r s o e = (refl, e)

few_sites : (ls : List Labelled) (n : ℕ) (es : List Event) → limit_fault ls n es ≡ None → (q : ℕ) (s : Site) → slice_get (event_sites es) q ≡ Some s → s.live ≤ greatest_live
few_sites ls n [] e q s f = absurd (none-some s f)
few_sites ls n (comes t ∷ es) e zero s f =
    let (few, rest) = neither (nat_lt greatest_live t.live) (nat_lt greatest_points (suc n)) _ _ (limit_fault ls (suc n) es) e in
    subst (λ (x : Site). x.live ≤ greatest_live) (same_Some t s f) (within_live t.live few)
few_sites ls n (comes t ∷ es) e (suc q) s f =
    let (few, rest) = neither (nat_lt greatest_live t.live) (nat_lt greatest_points (suc n)) _ _ (limit_fault ls (suc n) es) e in
    few_sites ls (suc n) es rest q s f
few_sites ls n (one_call_more at ∷ es) e q s f = absurd (none-some _ (sym e))

program_of_tree : (source : List ℕ) (t : FileTree) → Accepts at_main Spells source t → (gs : List Node) → AllZip IsProgramTree (resolve t ∷ []) gs → IsProgram source
program_of_tree source t x [] are = absurd are
program_of_tree source t x (g ∷ gs) are =
    let read : HasTree source t = record { tokens = x.tokens; not_long = x.not_long; lexed = x.lexed; parsed = x.parsed } in
    let within : limit_fault (labels_of t) 0 (events_of (resolve t)) ≡ None = ap (limit_fault (labels_of t) 0) (sym (points_at_main t)) ∙ x.within in
    record {
      tree = t;
      read = read;
      operations = g;
      sites = sites_of (resolve t);
      graph = record {
        names = x.names;
        straight = x.not_recursive;
        well = well source t read x.names;
        within = within;
        few = few_sites (labels_of t) 0 (events_of (resolve t)) within;
        is_graph = are.0.0;
        agrees = are.0.1;
        points = refl;
      };
    }

program_from : (source : List ℕ) → IsAccepted at_main source → IsProgram source
program_from source a = program_of_tree source a.tree a.accepted a.operations a.are_graphs

-- goals --------------------------------------------------------------------------

-- one of these
abbrev Among : List Goal → Goal → Type 0
Among [] goal = ⊥
Among (g ∷ gs) goal = (g ≡ goal) ⊎ Among gs goal

module _ {A : Type 0} (goal_of : A → Goal) (test : Goal → A → Bool) (sound : (goal : Goal) (x : A) → test goal x ≡ true → goal_of x ≡ goal) where
  none_or_among : (xs : List A) (goal : Goal) → (filter (test goal) xs ≡ []) ⊎ Among (map goal_of xs) goal
  none_or_among [] goal = inl refl
  none_or_among (x ∷ xs) goal = by (test goal x) refl (none_or_among xs goal)
    where
      by : (b : Bool) → test goal x ≡ b → (filter (test goal) xs ≡ []) ⊎ Among (map goal_of xs) goal → (filter (test goal) (x ∷ xs) ≡ []) ⊎ Among (map goal_of (x ∷ xs)) goal
      by true e rest = inr (inl (sound goal x e))
      by false e (inl none) = inl (ap (λ b. cond b (x ∷ filter (test goal) xs) (filter (test goal) xs)) e ∙ none)
      by false e (inr there) = inr (inr there)

goal_found : (goal found : Goal) → same_goal found goal ≡ true → found ≡ goal
goal_found (comes_to q) (comes_to p) e = ap comes_to (eqb-true p q e)
goal_found (comes_to q) (violates p) e = absurd (let no : false ≡ true = e in cc)
goal_found (violates q) (comes_to p) e = absurd (let no : false ≡ true = e in cc)
goal_found (violates q) (violates p) e = ap violates (eqb-true p q e)

-- those to which something may lead from the source
goals_from : Node → ℕ → List Goal
goals_from g zero = map (λ (way : GoalSegment). way.goal) (enter g)
goals_from g (suc p) = map (λ (segment : Segment). segment.to_goal.goal) (inside g)

none_leads : (P : Program) (g : Node) (p : ℕ) (goal : Goal) → (length (actions_between P g p goal) ≡ 0) ⊎ Among (goals_from g p) goal
unfolding goals_from
none_leads P g zero goal =
    elim (none_or_among (λ (way : GoalSegment). way.goal) (λ goal way. same_goal way.goal goal) (λ goal way e. goal_found goal way.goal e) (enter g) goal) [
      | inl none ↦ inl (ap (λ ways. length (flat_map (λ (way : GoalSegment). started P.globals way.ops) ways)) none)
      | inr there ↦ inr there
    ]
none_leads P g (suc p) goal =
    elim (none_or_among (λ (segment : Segment). segment.to_goal.goal) (λ goal segment. nat_eq segment.source p && same_goal segment.to_goal.goal goal)
    (λ goal segment e. goal_found goal segment.to_goal.goal (and_second (nat_eq segment.source p) (same_goal segment.to_goal.goal goal) e)) (inside g) goal) [
      | inl none ↦ inl (ap (λ segments. length (flat_map (λ (segment : Segment). written (live_at P p) segment.to_goal.ops) segments)) none)
      | inr there ↦ inr there
    ]

-- a number for each goal ---------------------------------------------------------

module _ (count : Goal → ℕ) where
  -- to one goal it is greater than may be
  abbrev IsMany : Type 0
  IsMany = (goal : Goal) × (greatest_paths < count goal)

  -- to these goals it isn't
  abbrev AreFewTo : List Goal → Type 0
  AreFewTo gs = (goal : Goal) → Among gs goal → count goal ≤ greatest_paths

  few_or_many : (gs : List Goal) → AreFewTo gs ⊎ IsMany
  few_or_many [] = inl (λ goal none. absurd none)
  few_or_many (g ∷ gs) = by (cases_lt greatest_paths (count g)) (few_or_many gs)
    where
      both : count g ≤ greatest_paths → AreFewTo gs → AreFewTo (g ∷ gs)
      both here rest goal (inl e) = subst (λ x. count x ≤ greatest_paths) e here
      both here rest goal (inr there) = rest goal there

      by : (greatest_paths < count g) ⊎ (count g ≤ greatest_paths) → AreFewTo gs ⊎ IsMany → AreFewTo (g ∷ gs) ⊎ IsMany
      by (inl many) rest = inr (g, many)
      by (inr few) (inl rest) = inl (both few rest)
      by (inr few) (inr many) = inr many

  at_most : (goal : Goal) (gs : List Goal) → AreFewTo gs → (count goal ≡ 0) ⊎ Among gs goal → count goal ≤ greatest_paths
  at_most goal gs few (inl e) = omega (arith, e)
  at_most goal gs few (inr there) = few goal there

  all_or_many : (gs : List Goal) → ((goal : Goal) → (count goal ≡ 0) ⊎ Among gs goal) → ((goal : Goal) → count goal ≤ greatest_paths) ⊎ IsMany
  all_or_many gs cover = elim (few_or_many gs) [
    | inl few ↦ inl (λ goal. at_most goal gs few (cover goal))
    | inr many ↦ inr many
  ]

-- the least source from which too many paths lead --------------------------------

module _ (P : Program) (g : Node) where
  abbrev FewAt : ℕ → Type 0
  FewAt p = AreFewFrom P.globals (sites_of P) g p

  abbrev ManyAt : ℕ → Type 0
  ManyAt p = (goal : Goal) × (greatest_paths < length (actions_between P g p goal))

  at_source : (p : ℕ) → FewAt p ⊎ ManyAt p
  at_source p = all_or_many (λ goal. length (actions_between P g p goal)) (goals_from g p) (none_leads P g p)

  one_further : (n : ℕ) → ((p : ℕ) → p < n → FewAt p) → FewAt n → (p : ℕ) → p < suc n → FewAt p
  one_further n before here p less = elim (cases_lt p n) [
    | inl earlier ↦ before p earlier
    | inr reached ↦ let same : n ≡ p = omega (arith, less, reached) in subst (λ x. FewAt x) same here
  ]

  abbrev UpTo : ℕ → Type 0
  UpTo n = ((p : ℕ) → p < n → FewAt p) ⊎ ((q : ℕ) × HasTooManyPaths P g q)

  up_to : (n : ℕ) → n ≤ suc (length (sites_of P)) → UpTo n
  up_to zero h = inl (λ p less. absurd (let no : ⊥ = omega (arith, less) in no))
  up_to (suc n) h = by (up_to n (omega (arith, h))) (at_source n)
    where
      by : UpTo n → FewAt n ⊎ ManyAt n → UpTo (suc n)
      by (inr found) here = inr found
      by (inl before) (inl few) = inl (one_further n before few)
      by (inl before) (inr (goal, many)) = inr (n, record { source = omega (arith, h); goal = goal; many = many; first = before })

  few_paths : AreFewPaths P g ⊎ ((q : ℕ) × HasTooManyPaths P g q)
  few_paths = elim (up_to (suc (length (sites_of P))) (omega arith)) [
    | inl few ↦ inl (λ p within. few p (omega (arith, within)))
    | inr found ↦ inr found
  ]

-- answers ------------------------------------------------------------------------

abbrev Answered : List ℕ → Type 0
Answered bytes = (a : VerifyAnswer) × VerifiesTo bytes a

judged_answer : (bytes : List ℕ) (h : Head) → HasHead bytes h → (x : IsProgram h.source) → AreFewPaths (program_of x) x.operations → (j : Judged (ℕ × ℕ))
    → judged (program_of x) x.operations h.rest ≡ j → Answered bytes
judged_answer bytes h head x few (Ok (points, proved)) e =
    (verified points proved, (judged_exactly bytes points proved).0 h x (record { short = head.0; head = head.1; few = few; taken = e }))
judged_answer bytes h head x few (Err r) e = (line_refused r, inr (inr (h, head, x, few, e)))

program_answer : (bytes : List ℕ) (h : Head) → HasHead bytes h → (x : IsProgram h.source) → Answered bytes
program_answer bytes h head x = elim (few_paths (program_of x) x.operations) [
  | inl few ↦ judged_answer bytes h head x few (judged (program_of x) x.operations h.rest) refl
  | inr (p, many) ↦ (paths_refused p, (h, head, x, many))
]

headed_answer : (bytes : List ℕ) (o : Option Head) → length bytes ≤ greatest_certificate → head_of bytes ≡ o → Answered bytes
headed_answer bytes None short e = (line_refused (record { line = 0; fault = bad_line }), inr (inl (short, e, refl)))
headed_answer bytes (Some h) short e = elim (some_answer at_main h.source) [
  | inl (cause, place, why) ↦ (source_refused cause place, (h, (short, e), why))
  | inr accepted ↦ program_answer bytes h (short, e) (program_from h.source accepted)
]

some_verified : (bytes : List ℕ) → Answered bytes
some_verified bytes = elim (cases_lt greatest_certificate (length bytes)) [
  | inl long ↦ (line_refused (record { line = 0; fault = too_long }), inl (long, refl))
  | inr short ↦ headed_answer bytes (head_of bytes) short refl
]

pub each_verified : EachVerified
each_verified bytes = (some_verified bytes, one_verified bytes)
