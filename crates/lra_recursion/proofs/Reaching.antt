-- What is reached by places is what functions reach; what the first call that comes back says of the source.
use Rattle.std.proofs.Common.{◌≡◌, ℕ, ◌<◌, List, [], ◌∷◌, ◌++◌, length, map, Option, Some, None, slice_get, get_or, refl, sym, ap, ◌∙◌, subst, arith}
use Rattle.std.proofs.{lemmas.List.length-map, lemmas.Option.slice_get-get_or, lemmas.Option.get_or_from_slice_get, lemmas.Option.slice_get_within}
use Rattle.std.specs.{List.Contains, List.AllByRecursion, Prelude.option_to_list, Prelude.Vec, Prelude.Result, Prelude.Ok, Prelude.Err, Prelude.IfOk, Prelude.MatchOption, declared.alloc.Global.Global}
use Rattle.lra_recursion.specs.Crates.lra_resolution_spec.Resolve.{function_place, resolved_functions}
use Rattle.lra_recursion.specs.Crates.lra_syntax.Reach.{IsCalling, ReachesByCalls, there, by_call, calls_in, IsRecursive, IsFirstRecursive, NotRecursive}
use Rattle.lra_recursion.specs.Crates.{lra_base.declared.refusals.Place.Place, lra_program.ProgramViews.function_view, lra_program.ProgramViews.program_view}
use Rattle.lra_recursion.specs.Crates.{lra_program.declared.program.Function.Function, lra_program.declared.program.Program.Program, lra_syntax.Functions.functions_of, lra_syntax.Labels.Labelled}
use Rattle.lra_recursion.specs.Crates.{lra_syntax.Labels.labels_of, lra_syntax.Trees.FileTree, lra_syntax.Views.tree_view, lra_syntax.declared.trees.ExternalDeclaration.ExternalDeclaration}
use Rattle.lra_recursion.specs.Crates.{lra_syntax.declared.trees.Identifier.Identifier, lra_syntax.declared.trees.TranslationUnit.TranslationUnit}
use Rattle.lra_scopes.specs.Calls.{functions_at}
use Rattle.lra_recursion.specs.Calls.{call_of, calls_among, first_places, calls_behind, callees_of}
use Rattle.lra_recursion.specs.{Recursion.IsRecursiveCall, Recursion.IsFirstRecursiveCall, Search.IsReachableFrom, Search.begins, Search.goes_on, declared.calls.Call.Call}
use Rattle.lra_recursion.proofs.Placing.{IsKnown, known, one_name, known_within, call_is, unknown_name, call_there, from_among, in_among, from_row, in_row}
use Rattle.lra_recursion.proofs.{Deciding.IsHeld, Deciding.call_held, Elements.in_further, Elements.all_at, Reading.calls_read, Reading.resolved_count}
use Rattle.lra_recursion.proofs.Deciding as deciding

abbrev HeldCall : Type 0
HeldCall = List ℕ × Identifier

-- the rows have what the functions of each name call
pub record HasRows (t : FileTree) (rows : List (List ℕ)) : Type 0 where
  pub count : length rows ≡ length (functions_of t)
  pub row : (j : ℕ) → j < length (functions_of t) → get_or rows j [] ≡ callees_of j (calls_among (functions_of t) (calls_in (functions_of t)))

module _ (t : FileTree) (rows : List (List ℕ)) (has : HasRows t rows) where
  within : (name : List ℕ) → IsKnown (functions_of t) name → function_place (functions_of t) name < length rows
  within name is = subst (λ n. function_place (functions_of t) name < n) (sym has.count) (known_within (functions_of t) name is)

  -- what a place comes to, its functions reach -------------------------------------------------------------------------

  -- a function of the name at j calls one of that at k, whose place is in its row
  abbrev IsStep : ℕ → ℕ → Type 0
  IsStep j k =
      (f g : List ℕ) × IsKnown (functions_of t) f × IsKnown (functions_of t) g × (function_place (functions_of t) f ≡ j) × (function_place (functions_of t) g ≡ k) × IsCalling t f g

  step : (j k : ℕ) (row : List ℕ) → slice_get rows j ≡ Some row → Contains row k → IsStep j k
  step j k row is h =
      let l : j < length (functions_of t) = subst (λ n. j < n) has.count (slice_get_within rows j row is) in
      let same : row ≡ callees_of j (calls_among (functions_of t) (calls_in (functions_of t))) = sym (get_or_from_slice_get rows j row [] is) ∙ has.row j l in
      let (c, c_in, caller, callee) = from_row j (calls_among (functions_of t) (calls_in (functions_of t))) k (subst (λ xs. Contains xs k) same h) in
      let (d, d_in, called) = from_among (functions_of t) (calls_in (functions_of t)) c c_in in
      let (f, f_in, named, calls) = call_held (functions_of t) d d_in in
      let call = call_is (functions_of t) (function_place (functions_of t) d.0) d.1 c called in (
        d.0,
        d.1.word,
        known (functions_of t) d.0 f f_in named,
        call.known,
        sym call.caller ∙ caller,
        sym call.callee ∙ callee,
        record { function = f; is_there = f_in; name = named; called = d.1; calls = calls; called_name = refl },
      )

  come_reached : (goal : List ℕ) (start k : ℕ) → IsReachableFrom rows start k → (a b : List ℕ) → IsKnown (functions_of t) a → IsKnown (functions_of t) b
      → function_place (functions_of t) a ≡ start → function_place (functions_of t) b ≡ k → ReachesByCalls t goal b → ReachesByCalls t goal a
  come_reached goal start _ (begins l) a b a_is b_is at_start at_k r = subst (ReachesByCalls t goal) (one_name (functions_of t) b a b_is a_is (at_k ∙ sym at_start)) r
  come_reached goal start k (goes_on j _ row l h is e) a b a_is b_is at_start at_k r =
      let (f, g, f_is, g_is, f_at, g_at, call) = step j k row is e in
      let same : b ≡ g = one_name (functions_of t) b g b_is g_is (at_k ∙ sym g_at) in
      come_reached goal start j h a f a_is f_is at_start f_at (by_call f g call (subst (ReachesByCalls t goal) same r))

  -- and what functions reach, their places come to ---------------------------------------------------------------------

  reaching_known : (goal name : List ℕ) → ReachesByCalls t goal name → IsKnown (functions_of t) goal → IsKnown (functions_of t) name
  reaching_known goal _ there is = is
  reaching_known goal name (by_call _ g call r) is = known (functions_of t) name call.function call.is_there call.name

  step_met : (start : ℕ) (f g : List ℕ) → IsCalling t f g → IsKnown (functions_of t) f → IsKnown (functions_of t) g → IsReachableFrom rows start (function_place (functions_of t) f)
      → IsReachableFrom rows start (function_place (functions_of t) g)
  step_met start f g call f_is g_is met =
      let k = function_place (functions_of t) f in
      let calls = calls_among (functions_of t) (calls_in (functions_of t)) in
      let held : Contains (calls_in (functions_of t)) (call.function.name.word, call.called) =
      deciding.call_there (functions_of t) call.function call.called call.is_there call.calls in
      let at : Contains (calls_in (functions_of t)) (f, call.called) = subst (λ n. Contains (calls_in (functions_of t)) (n, call.called)) call.name held in
      let (c, called, is) = call_there (functions_of t) k call.called (subst (IsKnown (functions_of t)) (sym call.called_name) g_is) in
      let inside = in_row calls c (in_among (functions_of t) (calls_in (functions_of t)) (f, call.called) c at called) in
      let goal : c.callee ≡ function_place (functions_of t) g = is.callee ∙ ap (function_place (functions_of t)) call.called_name in
      let there_is : slice_get rows k ≡ Some (callees_of k calls) =
      slice_get-get_or rows k [] (within f f_is) ∙ ap Some (has.row k (known_within (functions_of t) f f_is)) in
      goes_on k (function_place (functions_of t) g) (callees_of k calls) (within g g_is) met there_is
      (subst (Contains (callees_of k calls)) goal (subst (λ n. Contains (callees_of n calls) c.callee) is.caller inside))

  reached_met : (start : ℕ) (goal name : List ℕ) → ReachesByCalls t goal name → IsKnown (functions_of t) goal → IsReachableFrom rows start (function_place (functions_of t) name)
      → IsReachableFrom rows start (function_place (functions_of t) goal)
  reached_met start goal _ there is met = met
  reached_met start goal name (by_call _ g call r) is met =
      let f_is = known (functions_of t) name call.function call.is_there call.name in
      reached_met start goal g r is (step_met start name g call f_is (reaching_known goal g r is) met)

  -- a call comes back exactly if it is recursive -----------------------------------------------------------------------

  module _ (d : HeldCall) (holder : IsKnown (functions_of t) d.0) where
    abbrev call_at : Option Call
    call_at = call_of (functions_of t) (function_place (functions_of t) d.0) d.1

    back_recursive : (c : Call) → call_at ≡ Some c → IsRecursiveCall rows c → IsRecursive t d
    back_recursive c called back =
        let is = call_is (functions_of t) (function_place (functions_of t) d.0) d.1 c called in
        come_reached d.0 c.callee c.caller back d.1.word d.0 is.known holder (sym is.callee) (sym is.caller) there

    recursive_back : (c : Call) → call_at ≡ Some c → IsRecursive t d → IsRecursiveCall rows c
    recursive_back c called r =
        let is = call_is (functions_of t) (function_place (functions_of t) d.0) d.1 c called in
        let begun : IsReachableFrom rows c.callee c.callee = begins (subst (λ n. n < length rows) (sym is.callee) (within d.1.word is.known)) in
        subst (IsReachableFrom rows c.callee) (sym is.caller)
        (reached_met c.callee d.0 d.1.word r holder (subst (IsReachableFrom rows c.callee) is.callee begun))

    -- a name without a function reaches none
    unknown : call_at ≡ None → IsRecursive t d → ⊥
    unknown none r = unknown_name (functions_of t) (function_place (functions_of t) d.0) d.1 none (reaching_known d.0 d.1.word r holder)

  -- the first of several calls -----------------------------------------------------------------------------------------

  abbrev NoneBack : List Call → Type 0
  NoneBack cs = AllByRecursion (λ c. IsRecursiveCall rows c → ⊥) cs

  abbrev NoneRecursive : List HeldCall → Type 0
  NoneRecursive ds = AllByRecursion (λ d. IsRecursive t d → ⊥) ds

  -- functions hold them
  abbrev AreHeld : List HeldCall → Type 0
  AreHeld ds = AllByRecursion (λ (d : HeldCall). IsKnown (functions_of t) d.0) ds

  first_none : (d : HeldCall) (o : Option Call) (rest : List Call) → IsKnown (functions_of t) d.0 → call_of (functions_of t) (function_place (functions_of t) d.0) d.1 ≡ o
      → NoneBack (option_to_list o ++ rest) → (IsRecursive t d → ⊥) × NoneBack rest
  first_none d None rest holder called a = (unknown d holder called, a)
  first_none d (Some c) rest holder called a = (λ r. a.0 (recursive_back d holder c called r), a.1)

  none_back : (ds : List HeldCall) → AreHeld ds → NoneBack (calls_among (functions_of t) ds) → NoneRecursive ds
  none_back [] held a = tt
  none_back (d ∷ ds) held a =
      let both = first_none d (call_of (functions_of t) (function_place (functions_of t) d.0) d.1) (calls_among (functions_of t) ds) held.0 refl a in
      (both.0, none_back ds held.1 both.1)

  -- the first recursive call among these
  abbrev IsFirst : List HeldCall → Place → Type 0
  IsFirst ds place =
      (before after : List HeldCall) × (d : HeldCall) × (ds ≡ before ++ d ∷ after) × (place ≡ d.1.place) × IsRecursive t d × NoneRecursive before

  first_further : (d : HeldCall) (ds : List HeldCall) (place : Place) → (IsRecursive t d → ⊥) → IsFirst ds place → IsFirst (d ∷ ds) place
  first_further d ds place straight (before, after, e, split, is, r, none) = (d ∷ before, after, e, ap (λ es. d ∷ es) split, is, r, (straight, none))

  first_case : (d : HeldCall) (ds : List HeldCall) (o : Option Call) (cs before after : List Call) (c : Call) → IsKnown (functions_of t) d.0
      → call_of (functions_of t) (function_place (functions_of t) d.0) d.1 ≡ o → ((front : List Call) → cs ≡ front ++ c ∷ after → NoneBack front → IsFirst ds c.place)
      → option_to_list o ++ cs ≡ before ++ c ∷ after → IsRecursiveCall rows c → NoneBack before → IsFirst (d ∷ ds) c.place
  first_case d ds None cs before after c holder called later split back none = first_further d ds c.place (unknown d holder called) (later before split none)
  first_case d ds (Some b) cs [] after c holder called later split back none =
      let same : b ≡ c = cc in
      let is : call_of (functions_of t) (function_place (functions_of t) d.0) d.1 ≡ Some c = called ∙ ap Some same in
      let call = call_is (functions_of t) (function_place (functions_of t) d.0) d.1 c is in
      ([], ds, d, refl, call.place, back_recursive d holder c is back, tt)
  first_case d ds (Some b) cs (e ∷ before) after c holder called later split back none =
      let same : b ≡ e = cc in
      let rest : cs ≡ before ++ c ∷ after = cc in
      first_further d ds c.place (λ r. none.0 (subst (IsRecursiveCall rows) same (recursive_back d holder b called r))) (later before rest none.1)

  first_in : (ds : List HeldCall) (before after : List Call) (c : Call) → AreHeld ds → calls_among (functions_of t) ds ≡ before ++ c ∷ after
      → IsRecursiveCall rows c → NoneBack before → IsFirst ds c.place
  first_in [] [] after c held split back none = absurd cc
  first_in [] (e ∷ before) after c held split back none = absurd cc
  first_in (d ∷ ds) before after c held split back none =
      first_case d ds (call_of (functions_of t) (function_place (functions_of t) d.0) d.1) (calls_among (functions_of t) ds) before after c held.0 refl
      (λ front rest clear. first_in ds front after c held.1 rest back clear) split back none

  -- of the source
  held_by : (ds : List HeldCall) → ((d : HeldCall) → Contains ds d → IsHeld (functions_of t) d) → AreHeld ds
  held_by [] each = tt
  held_by (d ∷ ds) each =
      let (f, f_in, named, calls) = each d (0, omega arith, refl) in
      (known (functions_of t) d.0 f f_in named, held_by ds (λ e h. each e (in_further d ds e h)))

  all_held : AreHeld (calls_in (functions_of t))
  all_held = held_by (calls_in (functions_of t)) (call_held (functions_of t))

  pub found_first : (calls : List Call) (place : Place) → calls ≡ calls_among (functions_of t) (calls_in (functions_of t)) → IsFirstRecursiveCall rows calls place → IsFirstRecursive t place
  found_first calls place is (before, after, c, split, at, back, none) =
      let (front, behind, d, parts, here, r, clear) = first_in (calls_in (functions_of t)) before after c all_held (sym is ∙ split) back none in
      (front, behind, d, parts, at ∙ here, r, clear)

  pub none_found : (calls : List Call) → calls ≡ calls_among (functions_of t) (calls_in (functions_of t)) → NoneBack calls → NotRecursive t
  none_found calls is none place (front, behind, d, split, at, r, clear) =
      let all = none_back (calls_in (functions_of t)) all_held (subst NoneBack is none) in
      all_at (λ e. IsRecursive t e → ⊥) front d behind (subst NoneRecursive split all) r

-- what is answered of a source
found : (t : FileTree) (rows : List (List ℕ)) (calls : List Call) (o : Option Place) → HasRows t rows → calls ≡ calls_among (functions_of t) (calls_in (functions_of t))
    → MatchOption o (AllByRecursion (λ c. IsRecursiveCall rows c → ⊥) calls) (IsFirstRecursiveCall rows calls) →
    MatchOption o (NotRecursive t) (IsFirstRecursive t)
found t rows calls None has is h = none_found t rows has calls is h
found t rows calls (Some place) has is h = found_first t rows has calls place is h

-- the same of the code's values
pub resolved_first : {E : Type 0} (r : Result (Option Place) E) (tree : TranslationUnit) (program : Program) (labels : List Labelled) (index parts : List ExternalDeclaration)
    (functions : List Function)
    (calls taken asked : List Call) (rows given : List (Vec ℕ Global)) (n : ℕ) → index ≡ parts → parts ≡ tree.items.items → functions ≡ program.functions.items → taken ≡ calls
    → asked ≡ calls → given ≡ rows → n ≡ length program.functions.items
    → calls ≡ calls_behind (functions_at index) labels 0 (first_places (functions_at index) (functions_at index)) (map function_view functions)
    → length rows ≡ n → ((j : ℕ) → j < n → get_or (map (λ row. row.items) rows) j [] ≡ callees_of j taken)
    → IfOk r (λ o. MatchOption o (AllByRecursion (λ c. IsRecursiveCall (map (λ row. row.items) given) c → ⊥) asked)
    (IsFirstRecursiveCall (map (λ row. row.items) given) asked))
    → IfOk r (λ o. (program_view program).functions ≡ resolved_functions (tree_view tree) → labels ≡ labels_of (tree_view tree)
    → MatchOption o (NotRecursive (tree_view tree)) (IsFirstRecursive (tree_view tree)))
resolved_first (Err e) tree program labels index parts functions calls taken asked rows given n a b d e1 e2 e3 m read count row h = tt
resolved_first (Ok o) tree program labels index parts functions calls taken asked rows given n indexed are same took asks gave size read count row h = λ resolved labelled.
    let t = tree_view tree in
    let lists : List (List ℕ) = map (λ (row : Vec ℕ Global). row.items) rows in
    let of_tree : calls ≡ calls_behind (functions_of t) labels 0 (first_places (functions_of t) (functions_of t)) (program_view program).functions =
    read ∙ ap (λ (items : List ExternalDeclaration). calls_behind (functions_at items) labels 0 (first_places (functions_at items) (functions_at items)) (map function_view functions)) (indexed ∙ are)
    ∙ ap (λ (fs : List Function). calls_behind (functions_of t) labels 0 (first_places (functions_of t) (functions_of t)) (map function_view fs)) same in
    let whole = calls_read t (program_view program).functions labels calls resolved labelled of_tree in
    let views = length-map program.functions.items function_view in
    let of_program = resolved_count t (program_view program).functions resolved in
    let n_is : n ≡ length (functions_of t) = size ∙ sym views ∙ of_program in
    let has : HasRows t lists = record {
      count = length-map rows (λ (row : Vec ℕ Global). row.items) ∙ count ∙ n_is;
      row = λ j l. row j (subst (λ k. j < k) (sym n_is) l) ∙ ap (callees_of j) (took ∙ whole);
    } in
    found t lists calls o has whole
    (subst (λ cs. MatchOption o (AllByRecursion (λ c. IsRecursiveCall lists c → ⊥) cs) (IsFirstRecursiveCall lists cs)) asks
    (subst (λ (vs : List (Vec ℕ Global)). MatchOption o (AllByRecursion (λ c. IsRecursiveCall (map (λ row. row.items) vs) c → ⊥) asked) (IsFirstRecursiveCall (map (λ row. row.items) vs) asked)) gave
    h))
