-- At each point of a source as many names are reported as variables live there.
use Rattle.std.proofs.Common.{◌≡◌, ℕ, zero, suc, ◌+◌, List, [], ◌∷◌, ◌++◌, length, map, Option, Some, None, Bool, true, false, cond, refl, sym, ap, ◌∙◌, subst, arith, length-append}
use Rattle.std.proofs.lemmas.List.{length-map}
use Rattle.std.specs.{List.AllByRecursion, List.flat_map, Prelude.⊤, Prelude.slice_get}
use Rattle.lra_base.specs.{declared.number_types.NumberType.NumberType, declared.refusals.Place.Place}
use Rattle.lra_front_end.specs.Crates.lra_program.Program.{Call, BlockItems, no_more, Function, Program}
use Rattle.lra_front_end.specs.Crates.lra_program.Sites.{Site, Event, comes, one_call_more, greatest_calls, plain_site, live_after_items, rvalue_events, given_events, stmt_events, cases_events}
use Rattle.lra_front_end.specs.Crates.lra_program.Sites.{items_events, function_events, call_events, event_sites, sites_of}
use Rattle.lra_front_end.specs.Crates.lra_resolution_spec.LiveNames.{globals_named, live_in_call_at, live_at, names_outside, live_names}
use Rattle.lra_front_end.specs.Crates.lra_resolution_spec.Resolve.{resolve_call, resolve_rvalue, resolve_given, resolve_assign, resolve_declared, resolve_declarators, resolve_init, resolve_step}
use Rattle.lra_front_end.specs.Crates.lra_resolution_spec.Resolve.{init_count, step_count, stmt_count, items_count, declarator_count, resolve_stmt, resolve_cases, resolve_items, resolve_function}
use Rattle.lra_front_end.specs.Crates.lra_resolution_spec.Resolve.{variables_by, globals_in, resolve_parts, main_of, resolve}
use Rattle.lra_front_end.specs.Crates.lra_resolution_spec.Scope.{SymbolEntry, Scope, binding_of, with_local, declarator_entry, with_declarators, inner, for_scope, function_scope}
use Rattle.lra_front_end.specs.Crates.lra_syntax.Labels.{Labelled, plain_label, label_with, called_of, called_for, assign_label, name_in, names_of, with_names, declarator_labels, init_labels}
use Rattle.lra_front_end.specs.Crates.lra_syntax.Labels.{step_labels, stmt_labels, cases_labels, items_labels, live_in_for, function_labels, labels_of, label_at}
use Rattle.lra_front_end.specs.Crates.{lra_program.ProgramViews.function_or, lra_resolution_spec.ShownNames.shown_names, lra_resolution_spec.Threads.thread_program, lra_syntax.Functions.functions_in}
use Rattle.lra_front_end.specs.Crates.{lra_syntax.Functions.functions_of, lra_syntax.Functions.is_main, lra_syntax.declared.trees.Identifier.Identifier, lra_syntax.declared.trees.Parameter.Parameter}
use Rattle.lra_front_end.specs.Crates.lra_syntax.Trees as tree
use Rattle.lra_front_end.proofs.Crates.lra_resolution_spec.LabelCounts.{count_stmt, count_declarators, count_items, count_step, count_init}
use Rattle.lra_front_end.proofs.{Declared.wider, Declared.wider_is, Declared.name_width, Declared.behind_declared, Declared.names_width, Declared.variables_width, Faultless.at_place}

-- labels one after the other ------------------------------------------------------------------------------------------

-- these are the labels from the n-th on
abbrev StandFrom : List Labelled → ℕ → List Labelled → Type 0
StandFrom ls n [] = ⊤
StandFrom ls n (x ∷ xs) = (label_at ls n ≡ Some x) × StandFrom ls (suc n) xs

stand_left : (ls : List Labelled) (n : ℕ) (xs ys : List Labelled) → StandFrom ls n (xs ++ ys) → StandFrom ls n xs
stand_left ls n [] ys h = tt
stand_left ls n (x ∷ xs) ys h = (h.0, stand_left ls (suc n) xs ys h.1)

stand_right : (ls : List Labelled) (n m : ℕ) (xs ys : List Labelled) → n + length xs ≡ m → StandFrom ls n (xs ++ ys) → StandFrom ls m ys
stand_right ls n m [] ys e h = let same : n ≡ m = omega (arith, e) in subst (λ (i : ℕ). StandFrom ls i ys) same h
stand_right ls n m (x ∷ xs) ys e h = let same : suc n + length xs ≡ m = omega (arith, e) in stand_right ls (suc n) m xs ys same h.1

stands_here : (before : List Labelled) (x : Labelled) (after : List Labelled) → slice_get (before ++ x ∷ after) (length before) ≡ Some x
stands_here [] x after = refl
stands_here (y ∷ before) x after = stands_here before x after

one_further : (before : List Labelled) (x : Labelled) (after : List Labelled) → before ++ x ∷ after ≡ (before ++ x ∷ []) ++ after
one_further [] x after = refl
one_further (y ∷ before) x after = ap (λ (xs : List Labelled). y ∷ xs) (one_further before x after)

stand_behind : (ls : List Labelled) (n : ℕ) (before after : List Labelled) → ls ≡ before ++ after → n ≡ length before → StandFrom ls (suc n) after
stand_behind ls n before [] e m = tt
stand_behind ls n before (x ∷ after) e m =
    let k = length-append before (x ∷ []) in
    let longer : suc n ≡ length (before ++ x ∷ []) = omega (arith, m) in (
      ap (λ (xs : List Labelled). slice_get xs n) e ∙ ap (λ (i : ℕ). slice_get (before ++ x ∷ after) i) m ∙ stands_here before x after,
      stand_behind ls (suc n) (before ++ x ∷ []) after (e ∙ one_further before x after) longer,
    )

-- points --------------------------------------------------------------------------------------------------------------

abbrev EachPoint : (Site → Type 0) → List Event → Type 0
EachPoint Q es = AllByRecursion Q (event_sites es)

each_then : (Q : Site → Type 0) (xs ys : List Event) → EachPoint Q xs → EachPoint Q ys → EachPoint Q (xs ++ ys)
each_then Q [] ys h k = k
each_then Q (comes s ∷ xs) ys h k = (h.0, each_then Q xs ys h.1 k)
each_then Q (one_call_more at ∷ xs) ys h k = each_then Q xs ys h k

count_names : (names : List (List ℕ)) (ds : List tree.DeclaratorTree) → length (with_names names ds) ≡ length names + length (flat_map names_of ds)
count_names names ds = length-append names (flat_map names_of ds)

-- how many variables live after declarators
behind_declarators : (F : List tree.FunctionTree) (n live more : ℕ) (s : Scope) (t : NumberType) (ds : List tree.DeclaratorTree) (rest : BlockItems)
    → live + length (flat_map names_of ds) ≡ more → live_after_items live (resolve_declarators F s n t ds rest) ≡ live_after_items more rest
behind_declarators F n live more s t [] rest e = let same : live ≡ more = omega (arith, e) in ap (λ (i : ℕ). live_after_items i rest) same
behind_declarators F n live more s t (d ∷ ds) rest e =
    let u = with_local s (declarator_entry t d) in
    let more_live = wider (binding_of t d.name d.shape) live in
    let w = wider_is (binding_of t d.name d.shape) live in
    let a = length-append (names_of d) (flat_map names_of ds) in
    let b = name_width t d.name d.shape in
    let same : more_live + length (flat_map names_of ds) ≡ more = omega (arith, e) in
    behind_declared F n live u t d.name d.shape (resolve_declarators F u (suc n) t ds rest) ∙ behind_declarators F (suc n) more_live more u t ds rest same

-- a point with the globals' names, the callers' and those of its label ----------------------------------------------------

module _ (outside : List (List ℕ)) (ls : List Labelled) where
  abbrev HasAsMany : Site → Type 0
  HasAsMany s = length (live_names outside ls s) ≡ s.live

  -- how many variables live outside a call on this path
  abbrev width_of : List ℕ → ℕ
  width_of path = length (outside ++ names_outside ls path)

  width_in_call : (path : List ℕ) (at : ℕ) → width_of (at ∷ path) ≡ width_of path + length (live_in_call_at (label_at ls at))
  width_in_call path at =
      let front = names_outside ls path in
      let back = live_in_call_at (label_at ls at) in
      let a = length-append outside (front ++ back) in
      let b = length-append front back in
      let c = length-append outside front in omega arith

  -- the points of a call's own statements, if each call's points are so
  module _ (F : List tree.FunctionTree) (inside : List ℕ → ℕ → Call → List Event) (path : List ℕ)
      (calls : (live : ℕ) (c : Call) → width_of path + length (live_in_call_at (label_at ls c.label)) ≡ live → EachPoint HasAsMany (inside path live c)) where
    point_has : (n live : ℕ) (b : Bool) (l : Labelled) → width_of path + length l.live ≡ live → label_at ls n ≡ Some l → HasAsMany (record { path = path; label = n; live = live; asserts = b })
    point_has n live b l h at =
        length-append (outside ++ names_outside ls path) (live_at (label_at ls n)) ∙ ap (λ (o : Option Labelled). width_of path + length (live_at o)) at ∙ h

    call_in : (n live : ℕ) (s : Scope) (c : tree.CallTree) (l : Labelled) → width_of path + length l.live_in_call ≡ live → label_at ls n ≡ Some l →
        EachPoint HasAsMany (inside path live (resolve_call F s n c))
    call_in n live s c l h at = calls live (resolve_call F s n c) (ap (λ (o : Option Labelled). width_of path + length (live_in_call_at o)) at ∙ h)

    rvalue_has : (n live : ℕ) (s : Scope) (x : tree.RvalueTree) (l : Labelled) → width_of path + length l.live_in_call ≡ live → label_at ls n ≡ Some l
        → EachPoint HasAsMany (rvalue_events inside path live (resolve_rvalue F s n x))
    rvalue_has n live s (tree.expression e) l h at = tt
    rvalue_has n live s (tree.result c) l h at = call_in n live s c l h at

    given_has : (n live : ℕ) (s : Scope) (x : Option tree.RvalueTree) (l : Labelled) → width_of path + length l.live_in_call ≡ live → label_at ls n ≡ Some l
        → EachPoint HasAsMany (given_events inside path live (resolve_given F s n x))
    given_has n live s None l h at = tt
    given_has n live s (Some x) l h at = rvalue_has n live s x l h at

    assign_has : (n live : ℕ) (s : Scope) (a : tree.AssignTree) (names : List (List ℕ)) → width_of path + length names ≡ live → label_at ls n ≡ Some (assign_label names a)
        → EachPoint HasAsMany (stmt_events inside path live (resolve_assign F s n a))
    assign_has n live s (tree.set x e) names h at = (point_has n live false (assign_label names (tree.set x e)) h at, rvalue_has n live s e (assign_label names (tree.set x e)) h at)
    assign_has n live s (tree.set_element x i e) names h at =
        (point_has n live false (assign_label names (tree.set_element x i e)) h at, rvalue_has n live s e (assign_label names (tree.set_element x i e)) h at)
    assign_has n live s (tree.update x op e) names h at = (point_has n live false (assign_label names (tree.update x op e)) h at, tt)
    assign_has n live s (tree.after x step) names h at = (point_has n live false (assign_label names (tree.after x step)) h at, tt)
    assign_has n live s (tree.before p step x) names h at = (point_has n live false (assign_label names (tree.before p step x)) h at, tt)

    declared_has : (n live : ℕ) (s : Scope) (t : NumberType) (x : Identifier) (shape : tree.ScalarOrArrayTree tree.RvalueTree) (rest : BlockItems)
        (l : Labelled)
        → width_of path + length l.live ≡ live → width_of path + length l.live_in_call ≡ wider (binding_of t x shape) live → label_at ls n ≡ Some l
        → EachPoint HasAsMany (items_events inside path (wider (binding_of t x shape) live) rest)
        → EachPoint HasAsMany (items_events inside path live (resolve_declared F s n t x shape rest))
    declared_has n live s t x (tree.scalar e) rest l h j at back = (
      point_has n live false l h at,
      each_then HasAsMany (given_events inside path (suc live) (resolve_given F s n e)) (items_events inside path (suc live) rest)
          (given_has n (suc live) s e l j at) back,
    )
    declared_has n live s t x (tree.array c) rest l h j at back = (point_has n live false l h at, back)

    -- declarators, and the items after them
    declarators_have : (n live more : ℕ) (s : Scope) (t : NumberType) (ds : List tree.DeclaratorTree) (rest : BlockItems) (names : List (List ℕ)) → width_of path + length names ≡ live
        → live + length (flat_map names_of ds) ≡ more
        → StandFrom ls n (declarator_labels names ds) → EachPoint HasAsMany (items_events inside path more rest) →
        EachPoint HasAsMany (items_events inside path live (resolve_declarators F s n t ds rest))
    declarators_have n live more s t [] rest names h e stand back = let same : more ≡ live = omega (arith, e) in subst (λ (i : ℕ). EachPoint HasAsMany (items_events inside path i rest)) same back
    declarators_have n live more s t (d ∷ ds) rest names h e stand back =
        let u = with_local s (declarator_entry t d) in
        let longer = names ++ names_of d in
        let more_live = wider (binding_of t d.name d.shape) live in
        let w = wider_is (binding_of t d.name d.shape) live in
        let l : Labelled = record { place = d.name.place; called = called_for d.shape; live = names; live_in_call = longer } in
        let k = length-append names (names_of d) in
        let a = length-append (names_of d) (flat_map names_of ds) in
        let b = name_width t d.name d.shape in
        let j : width_of path + length longer ≡ more_live = omega (arith, h) in
        let same : more_live + length (flat_map names_of ds) ≡ more = omega (arith, e) in
        declared_has n live u t d.name d.shape (resolve_declarators F u (suc n) t ds rest) l h j stand.0
        (declarators_have (suc n) more_live more u t ds rest longer j same stand.1 back)

    -- how a `for` begins
    init_has : (n live : ℕ) (s : Scope) (i : tree.InitTree) (names : List (List ℕ)) → width_of path + length names ≡ live → StandFrom ls n (init_labels names i)
        → EachPoint HasAsMany (items_events inside path live (resolve_init F s n i))
    init_has n live s tree.no_init names h stand = tt
    init_has n live s (tree.declared d) names h stand =
        let ds = d.first ∷ d.rest in
        declarators_have n live (live + length (flat_map names_of ds)) (inner s) d.number_type ds no_more names h refl stand tt
    init_has n live s (tree.assigned a) names h stand = each_then HasAsMany (stmt_events inside path live (resolve_assign F s n a)) [] (assign_has n live s a names h stand.0) tt

    behind_init : (n live : ℕ) (s : Scope) (i : tree.InitTree) (names : List (List ℕ)) → width_of path + length names ≡ live →
        width_of path + length (live_in_for names i) ≡ live_after_items live (resolve_init F s n i)
    behind_init n live s tree.no_init names h = h
    behind_init n live s (tree.declared d) names h =
        let ds = d.first ∷ d.rest in
        let more = live + length (flat_map names_of ds) in
        let a = count_names names ds in
        let b : width_of path + length (with_names names ds) ≡ more = omega (arith, h) in
        b ∙ sym (behind_declarators F n live more (inner s) d.number_type ds no_more refl)
    behind_init n live s (tree.assigned (tree.set x e)) names h = h
    behind_init n live s (tree.assigned (tree.set_element x i e)) names h = h
    behind_init n live s (tree.assigned (tree.update x op e)) names h = h
    behind_init n live s (tree.assigned (tree.after x step)) names h = h
    behind_init n live s (tree.assigned (tree.before p step x)) names h = h

    step_has : (n live : ℕ) (s : Scope) (a : Option tree.AssignTree) (names : List (List ℕ)) → width_of path + length names ≡ live → StandFrom ls n (step_labels names a)
        → EachPoint HasAsMany (stmt_events inside path live (resolve_step F s n a))
    step_has n live s None names h stand = tt
    step_has n live s (Some a) names h stand = assign_has n live s a names h stand.0

    mutual
      stmt_has : (n live : ℕ) (s : Scope) (t : tree.StmtTree) (names : List (List ℕ)) → width_of path + length names ≡ live → StandFrom ls n (stmt_labels names t)
          → EachPoint HasAsMany (stmt_events inside path live (resolve_stmt F s n t))
      stmt_has n live s (tree.block items end) names h stand =
          let m = n + items_count items in
          let body = resolve_items F (inner s) n items in
          let both = items_have n m live (inner s) items end names h refl stand in
          each_then HasAsMany (items_events inside path live body) (plain_site path m (live_after_items live body) ∷ []) both.0 (both.1, tt)
      stmt_has n live s (tree.nothing at) names h stand = (point_has n live false (plain_label at names) h stand.0, tt)
      stmt_has n live s (tree.assign a) names h stand = assign_has n live s a names h stand.0
      stmt_has n live s (tree.call c) names h stand =
          let l = label_with c.name.place (Some c.name) names in (point_has n live false l h stand.0, call_in n live s c l h stand.0)
      stmt_has n live s (tree.if_only at c t) names h stand = (
        point_has n live false (plain_label at names) h stand.0,
        each_then HasAsMany (stmt_events inside path live (resolve_stmt F s (suc n) t)) [] (stmt_has (suc n) live s t names h stand.1) tt,
      )
      stmt_has n live s (tree.if_else at c t u) names h stand =
          let m = suc n + stmt_count t in
          let front = stmt_labels names t in
          let back = stmt_labels names u in
          let e : suc n + length front ≡ m = ap (λ (i : ℕ). suc n + i) (count_stmt names t) in (
            point_has n live false (plain_label at names) h stand.0,
            each_then HasAsMany (stmt_events inside path live (resolve_stmt F s (suc n) t)) (stmt_events inside path live (resolve_stmt F s m u))
                (stmt_has (suc n) live s t names h (stand_left ls (suc n) front back stand.1)) (stmt_has m live s u names h (stand_right ls (suc n) m front back e stand.1)),
          )
      stmt_has n live s (tree.while at c t) names h stand = (point_has n live false (plain_label at names) h stand.0, stmt_has (suc n) live s t names h stand.1)
      stmt_has n live s (tree.for at i c a t) names h stand =
          let u = for_scope s i in
          let m = suc n + init_count i in
          let k = m + step_count a in
          let more = live_after_items live (resolve_init F s (suc n) i) in
          let longer = live_in_for names i in
          let first = init_labels names i in
          let step = step_labels longer a in
          let body = stmt_labels longer t in
          let j = behind_init (suc n) live s i names h in
          let e : suc n + length first ≡ m = ap (λ (x : ℕ). suc n + x) (count_init names i) in
          let x = length-append first step in
          let y = count_step longer a in
          let f : suc n + length (first ++ step) ≡ k = omega (arith, e) in
          let front = stand_left ls (suc n) (first ++ step) body stand.1 in
          let begin = items_events inside path live (resolve_init F s (suc n) i) in
          let turns = stmt_events inside path more (resolve_step F u m a) in
          let rounds = stmt_events inside path more (resolve_stmt F u k t) in (
            point_has n more false (plain_label at longer) j stand.0,
            each_then HasAsMany (begin ++ turns) rounds
                (each_then HasAsMany begin turns (init_has (suc n) live s i names h (stand_left ls (suc n) first step front))
                (step_has m more u a longer j (stand_right ls (suc n) m first step e front)))
                (stmt_has k more u t longer j (stand_right ls (suc n) k (first ++ step) body f stand.1)),
          )
      stmt_has n live s (tree.break at) names h stand = (point_has n live false (plain_label at names) h stand.0, tt)
      stmt_has n live s (tree.continue at) names h stand = (point_has n live false (plain_label at names) h stand.0, tt)
      stmt_has n live s (tree.return at x) names h stand =
          let l = label_with at (called_of x) names in (point_has n live false l h stand.0, given_has n live s x l h stand.0)
      stmt_has n live s (tree.assert at c) names h stand = (point_has n live true (plain_label at names) h stand.0, tt)
      stmt_has n live s (tree.assume at c) names h stand = (point_has n live false (plain_label at names) h stand.0, tt)
      stmt_has n live s (tree.switch at e cs) names h stand = (point_has n live false (plain_label at names) h stand.0, cases_have (suc n) live s cs names h stand.1)

      cases_have : (n live : ℕ) (s : Scope) (cs : tree.CasesTree) (names : List (List ℕ)) → width_of path + length names ≡ live → StandFrom ls n (cases_labels names cs)
          → EachPoint HasAsMany (cases_events inside path live (resolve_cases F s n cs))
      cases_have n live s tree.no_cases names h stand = tt
      cases_have n live s (tree.labelled l cs) names h stand = cases_have n live s cs names h stand
      cases_have n live s (tree.stated t cs) names h stand =
          let m = n + stmt_count t in
          let front = stmt_labels names t in
          let back = cases_labels names cs in
          let e : n + length front ≡ m = ap (λ (i : ℕ). n + i) (count_stmt names t) in
          each_then HasAsMany (stmt_events inside path live (resolve_stmt F s n t)) (cases_events inside path live (resolve_cases F s m cs))
          (stmt_has n live s t names h (stand_left ls n front back stand)) (cases_have m live s cs names h (stand_right ls n m front back e stand))

      -- the points of items, and that of their block's end
      items_have : (n m live : ℕ) (s : Scope) (items : tree.ItemsTree) (end : Place) (names : List (List ℕ)) → width_of path + length names ≡ live → n + items_count items ≡ m
          → StandFrom ls n (items_labels names items end)
          → EachPoint HasAsMany (items_events inside path live (resolve_items F s n items)) ×
          HasAsMany (record { path = path; label = m; live = live_after_items live (resolve_items F s n items); asserts = false })
      items_have n m live s tree.no_items end names h e stand =
          let same : n ≡ m = omega (arith, e) in
          (tt, point_has m live false (plain_label end names) h (subst (λ (i : ℕ). label_at ls i ≡ Some (plain_label end names)) same stand.0))
      items_have n m live s (tree.declaration d items) end names h e stand =
          let ds = d.first ∷ d.rest in
          let t = with_declarators s d.number_type ds in
          let k = n + declarator_count d in
          let more = live + length (flat_map names_of ds) in
          let longer = with_names names ds in
          let rest = resolve_items F t k items in
          let front = declarator_labels names ds in
          let back = items_labels longer items end in
          let a = count_names names ds in
          let b : width_of path + length longer ≡ more = omega (arith, h) in
          let c : k + items_count items ≡ m = omega (arith, e) in
          let x = count_declarators names ds in
          let y : n + length front ≡ k = omega arith in
          let later = items_have k m more t items end longer b c (stand_right ls n k front back y stand) in (
            declarators_have n live more s d.number_type ds rest names h refl (stand_left ls n front back stand) later.0,
            subst (λ (i : ℕ). HasAsMany (record { path = path; label = m; live = i; asserts = false })) (sym (behind_declarators F n live more s d.number_type ds rest refl)) later.1,
          )
      items_have n m live s (tree.statement t items) end names h e stand =
          let k = n + stmt_count t in
          let front = stmt_labels names t in
          let back = items_labels names items end in
          let c : k + items_count items ≡ m = omega (arith, e) in
          let y : n + length front ≡ k = ap (λ (i : ℕ). n + i) (count_stmt names t) in
          let later = items_have k m live s items end names h c (stand_right ls n k front back y stand) in (
            each_then HasAsMany (stmt_events inside path live (resolve_stmt F s n t)) (items_events inside path live (resolve_items F s k items))
                (stmt_has n live s t names h (stand_left ls n front back stand)) later.0,
            later.1,
          )

    function_has : (n live : ℕ) (scope : List SymbolEntry) (f : tree.FunctionTree) → width_of path ≡ live → StandFrom ls n (function_labels f)
        → EachPoint HasAsMany (function_events inside path live (Some (resolve_function F scope n f)))
    function_has n live scope f h stand =
        let names = map (λ (p : Parameter). p.name.word) f.parameters in
        let m = n + items_count f.body in
        let more = live + length (map (λ (p : Parameter). p.number_type) f.parameters) in
        let s = function_scope scope f.parameters in
        let body = resolve_items F s n f.body in
        let k = length-map f.parameters (λ (p : Parameter). p.name.word) in
        let types = length-map f.parameters (λ (p : Parameter). p.number_type) in
        let j : width_of path + length names ≡ more = omega (arith, h) in
        let both = items_have n m more s f.body f.end names j refl stand in
        each_then HasAsMany (items_events inside path more body) (plain_site path m (live_after_items more body) ∷ []) both.0 (both.1, tt)

  module _ (F : List tree.FunctionTree) where
    -- a function of the source whose labels stand among all
    abbrev IsLabelled : Function → Type 0
    IsLabelled g = (f : tree.FunctionTree) × (n : ℕ) × (scope : List SymbolEntry) × (g ≡ resolve_function F scope n f) × StandFrom ls n (function_labels f)

    parts_labelled : (n : ℕ) (scope : List SymbolEntry) (ps : List tree.ExternalTree) → StandFrom ls n (flat_map function_labels (functions_in ps)) →
        AllByRecursion IsLabelled (resolve_parts F scope n ps)
    parts_labelled n scope [] stand = tt
    parts_labelled n scope (tree.prototype ∷ ps) stand = parts_labelled n scope ps stand
    parts_labelled n scope (tree.globals g ∷ ps) stand = parts_labelled n _ ps stand
    parts_labelled n scope (tree.function f ∷ ps) stand =
        let k = n + suc (items_count f.body) in
        let front = function_labels f in
        let back = flat_map function_labels (functions_in ps) in
        let e : n + length front ≡ k = ap (λ (i : ℕ). n + i) (count_items (map (λ (p : Parameter). p.name.word) f.parameters) f.body f.end) in
        ((f, n, scope, refl, stand_left ls n front back stand), parts_labelled k scope ps (stand_right ls n k front back e stand))

    module _ (P : Program) (labelled : AllByRecursion IsLabelled P.functions) where
      -- calls on paths that may have so many calls more
      abbrev CallsHave : ℕ → Type 0
      CallsHave more = (path : List ℕ) (live : ℕ) (c : Call) → width_of (c.label ∷ path) ≡ live → EachPoint HasAsMany (call_events P more path live c)

      one_has : (more : ℕ) (calls : CallsHave more) (path : List ℕ) (live : ℕ) (g : Function) → IsLabelled g → width_of path ≡ live
          → EachPoint HasAsMany (function_events (call_events P more) path live (Some g))
      one_has more calls path live g (f, n, scope, e, stand) h =
          subst (λ (x : Function). EachPoint HasAsMany (function_events (call_events P more) path live (Some x))) (sym e)
          (function_has F (call_events P more) path (λ below c j. calls path below c (width_in_call path c.label ∙ j)) n live scope f h stand)

      callee_has : (more : ℕ) (calls : CallsHave more) (path : List ℕ) (live : ℕ) (gs : List Function) (k : ℕ) → AllByRecursion IsLabelled gs → width_of path ≡ live
          → EachPoint HasAsMany (function_events (call_events P more) path live (slice_get gs k))
      callee_has more calls path live [] k all h = tt
      callee_has more calls path live (g ∷ gs) zero all h = one_has more calls path live g all.0 h
      callee_has more calls path live (g ∷ gs) (suc k) all h = callee_has more calls path live gs k all.1 h

      calls_have : (more : ℕ) → CallsHave more
      calls_have zero path live c h = tt
      calls_have (suc more) path live c h = callee_has more (calls_have more) (c.label ∷ path) live P.functions c.function labelled h

      no_main : (more live : ℕ) → width_of [] ≡ live →
          EachPoint HasAsMany (function_events (call_events P more) [] live (Some (record { result_type = None; parameters = []; body = no_more; end = 0 })))
      no_main more live h = let a = length-append (outside ++ []) [] in let b : length (outside ++ [] ++ []) ≡ live + 0 = omega (arith, h) in (b, tt)

      one_of : (more live : ℕ) (b : Bool) (g x : Function) → EachPoint HasAsMany (function_events (call_events P more) [] live (Some g)) →
          EachPoint HasAsMany (function_events (call_events P more) [] live (Some x))
          → EachPoint HasAsMany (function_events (call_events P more) [] live (Some (cond b g x)))
      one_of more live true g x h k = h
      one_of more live false g x h k = k

      -- `main`'s; of a source without `main` one point without names of its own
      main_has : (more live : ℕ) (fs : List tree.FunctionTree) (gs : List Function) → AllByRecursion IsLabelled gs → width_of [] ≡ live
          → EachPoint HasAsMany (function_events (call_events P more) [] live (Some (main_of fs gs)))
      main_has more live [] gs all h = no_main more live h
      main_has more live (f ∷ fs) [] all h = no_main more live h
      main_has more live (f ∷ fs) (g ∷ gs) all h = one_of more live (is_main f) g (main_of fs gs) (one_has more (calls_have more) [] live g all.0 h) (main_has more live fs gs all.1 h)

      -- those of the function at a place
      placed_has : (more live : ℕ) (gs : List Function) (place : ℕ) → AllByRecursion IsLabelled gs → width_of [] ≡ live
          → EachPoint HasAsMany (function_events (call_events P more) [] live (Some (function_or (slice_get gs place))))
      placed_has more live [] place all h = no_main more live h
      placed_has more live (g ∷ gs) zero all h = one_has more (calls_have more) [] live g all.0 h
      placed_has more live (g ∷ gs) (suc place) all h = placed_has more live gs place all.1 h

-- the whole --------------------------------------------------------------------------------------------------------

pub globals_as_many : (ps : List tree.ExternalTree) → length (globals_named ps) ≡ length (globals_in ps)
globals_as_many [] = refl
globals_as_many (tree.prototype ∷ ps) = globals_as_many ps
globals_as_many (tree.globals g ∷ ps) =
    let gs = g.first ∷ g.rest in
    let a = length-append (flat_map (λ (x : tree.GlobalTree). name_in x.name.word x.shape) gs) (globals_named ps) in
    let b = names_width g.number_type gs in
    let c = length-append (flat_map (λ (x : tree.GlobalTree). variables_by g.number_type x.shape) gs) (globals_in ps) in
    let d = variables_width g.number_type gs in
    let e = globals_as_many ps in omega arith
globals_as_many (tree.function f ∷ ps) = globals_as_many ps

pub names_as_many : (t : tree.FileTree) (q : ℕ) (s : Site) → slice_get (sites_of (resolve t)) q ≡ Some s → length (live_names (globals_named t.parts) (labels_of t) s) ≡ s.live
names_as_many t q s e =
    let ls = labels_of t in
    let outside = globals_named t.parts in
    let F = functions_of t in
    let P = resolve t in
    let all = parts_labelled outside ls F 1 [] t.parts (stand_behind ls 0 [] ls refl refl) in
    let a = length-append outside [] in
    let b = globals_as_many t.parts in
    let h : length (outside ++ []) ≡ length P.globals = omega arith in
    at_place (HasAsMany outside ls) (sites_of P) q s (main_has outside ls F P all greatest_calls (length P.globals) F P.functions all h) e

-- and so at each point of a thread
pub thread_names_as_many : (t : tree.FileTree) (place q : ℕ) (s : Site) → slice_get (sites_of (thread_program t place)) q ≡ Some s
    → length (live_names (globals_named t.parts) (labels_of t) s) ≡ s.live
thread_names_as_many t place q s e =
    let ls = labels_of t in
    let outside = globals_named t.parts in
    let F = functions_of t in
    let P = thread_program t place in
    let all = parts_labelled outside ls F 1 [] t.parts (stand_behind ls 0 [] ls refl refl) in
    let a = length-append outside [] in
    let b = globals_as_many t.parts in
    let h : length (outside ++ []) ≡ length P.globals = omega arith in
    at_place (HasAsMany outside ls) (sites_of P) q s (placed_has outside ls F P all greatest_calls (length P.globals) P.functions place all h) e

shown_same : (names : List (List ℕ)) → length (shown_names names) ≡ length names
shown_same [] = refl
shown_same (name ∷ newer) = ap suc (shown_same newer)

pub shown_as_many : (t : tree.FileTree) (q : ℕ) (s : Site) → slice_get (sites_of (resolve t)) q ≡ Some s → length (shown_names (live_names (globals_named t.parts) (labels_of t) s)) ≡ s.live
shown_as_many t q s e = shown_same (live_names (globals_named t.parts) (labels_of t) s) ∙ names_as_many t q s e

pub thread_shown_as_many : (t : tree.FileTree) (place q : ℕ) (s : Site) → slice_get (sites_of (thread_program t place)) q ≡ Some s
    → length (shown_names (live_names (globals_named t.parts) (labels_of t) s)) ≡ s.live
thread_shown_as_many t place q s e = shown_same (live_names (globals_named t.parts) (labels_of t) s) ∙ thread_names_as_many t place q s e
