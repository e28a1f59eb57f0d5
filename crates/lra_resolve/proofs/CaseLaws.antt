-- The list of a `switch`, label by label and statement by statement: what is reported and found so far.
use Rattle.std.proofs.Common.{◌≡◌, ℕ, suc, ◌+◌, Bool, false, ◌||◌, List, [], ◌∷◌, ◌++◌, length, map, refl, sym, ap, ◌∙◌, append_assoc, length-append, append-nil, arith, rules, subst, Ok}
use Rattle.std.proofs.lemmas.List.{map-append}
use Rattle.std.specs.List.{list_any}
use Rattle.lra_base.specs.declared.refusals.Cause.TheVariants.{DuplicateCase}
use Rattle.lra_base.specs.{CaseLabels.is_same_case, declared.case_labels.CaseLabel.CaseLabel, declared.error.SourceError.SourceError, declared.refusals.Place.Place, declared.refusals.Refusal.Refusal}
use Rattle.lra_syntax.specs.{Labels.Labelled, Labels.plain_label, Labels.stmt_labels, Labels.cases_labels, Trees.ExprTree, Trees.CasesTree, Trees.no_cases, Trees.labelled, Trees.stated, Trees.switch}
use Rattle.lra_syntax.specs.{Trees.FunctionTree, Views.cases_of, Views.case_view, Views.cases_view, Views.stmt_view, declared.trees.CaseItem.CaseItem}
use Rattle.lra_syntax.specs.{declared.trees.CaseItem.the_lemmas as tree_lemmas, declared.trees.Cases.Cases, declared.trees.PlacedLabel.PlacedLabel, declared.trees.Stmt.Stmt}
use Rattle.lra_syntax.specs.declared.trees.CaseItem as code_case
use Rattle.lra_program.specs.Program as program
use Rattle.lra_program.specs.ProgramViews as view
use Rattle.lra_program.specs.{declared.program.CaseItem.CaseItem as ProgramCase, declared.program.CaseItem.the_lemmas, declared.program.Stmt.Stmt as ProgramStmt}
use Rattle.lra_program.specs.declared.program.CaseItem as program_case
use Rattle.lra_resolve.specs.Crates.lra_resolution_spec.NameFaults.{Around, in_a_switch, fault_if, expr_faults, stmt_faults, cases_faults}
use Rattle.lra_resolve.specs.Crates.lra_resolution_spec.Resolve.{resolve_expr, resolve_stmt, resolve_cases, stmt_count}
use Rattle.lra_resolve.specs.Crates.lra_resolution_spec.Scope.{Scope}
use Rattle.lra_scopes.specs.Outcome.{IsFirstFault}
use Rattle.lra_scopes.proofs.{FirstFaults.tells_front, FirstFaults.tells_behind, Loops.both_clean}
use Rattle.lra_resolve_simple.specs.Cases.{has_seen, HasSeen, before_cases}
use Rattle.lra_resolve_simple.specs.{Labelling.LabelsSoFar, Labelling.Adds, Resolved.Resolves, Statements.switch_of, declared.cases.CaseList.CaseList}

-- the code's lists -----------------------------------------------------------------------------------------------------

pub all_cases : (cs : Cases) (xs : List CaseItem) → xs ≡ cs.items.items → cases_view cs ≡ cases_of (map case_view xs)
all_cases cs xs is =
    let e : cases_view cs ≡ cases_of (map case_view cs.items.items) = search (rules, tree_lemmas) in
    e ∙ ap (λ (l : List CaseItem). cases_of (map case_view l)) (sym is)

label_is : (item : CaseItem) (l : PlacedLabel) (rest : CasesTree) → item ≡ code_case.Label l → case_view item rest ≡ labelled l rest
label_is item l rest is = let v : case_view (code_case.Label l) rest ≡ labelled l rest = search (rules, tree_lemmas) in rw (is, v) refl

stated_is : (item : CaseItem) (t : Stmt) (rest : CasesTree) → item ≡ code_case.Stated t → case_view item rest ≡ stated (stmt_view t) rest
stated_is item t rest is = let v : case_view (code_case.Stated t) rest ≡ stated (stmt_view t) rest = search (rules, tree_lemmas) in rw (is, v) refl

before_push : (fs : List view.CasePart) (f : view.CasePart) (cs : program.Cases) → before_cases (fs ++ f ∷ []) cs ≡ before_cases fs (f cs)
before_push [] f cs = refl
before_push (g ∷ gs) f cs = ap g (before_push gs f cs)

before_end : (fs : List view.CasePart) → before_cases fs program.no_cases ≡ view.cases_of fs
before_end [] = refl
before_end (f ∷ fs) = ap f (before_end fs)

before_label : (old new : List ProgramCase) (l : CaseLabel) (cs : program.Cases) → new ≡ old ++ program_case.Label l ∷ []
    → before_cases (map view.case_view old) (program.labelled l cs) ≡ before_cases (map view.case_view new) cs
before_label old new l cs added =
    let v : view.case_view (program_case.Label l) ≡ program.labelled l = search (rules, the_lemmas) in
    rw (added, map-append view.case_view old (program_case.Label l ∷ []), v) (sym (before_push (map view.case_view old) (program.labelled l) cs))

before_stated : (old new : List ProgramCase) (r : ProgramStmt) (cs : program.Cases) → new ≡ old ++ program_case.Stated r ∷ []
    → before_cases (map view.case_view old) (program.stated (view.stmt_view r) cs) ≡ before_cases (map view.case_view new) cs
before_stated old new r cs added =
    let v : view.case_view (program_case.Stated r) ≡ program.stated (view.stmt_view r) = search (rules, the_lemmas) in
    rw (added, map-append view.case_view old (program_case.Stated r ∷ []), v)
    (sym (before_push (map view.case_view old) (program.stated (view.stmt_view r)) cs))

-- how far it is --------------------------------------------------------------------------------------------------------

abbrev pub cases_count : CasesTree → ℕ
cases_count cs = length (cases_labels [] cs)

-- what is left, after these labels, is reported and found as all of them are
pub record Selects (a : Around) (s : Scope) (old : LabelsSoFar) (all rest : CasesTree) (list : CaseList) (scope : Scope) (new : LabelsSoFar) : Type 0 where
  pub earlier : List CaseLabel
  pub seen : HasSeen list earlier
  pub clean : cases_faults a s [] all ≡ cases_faults a s earlier rest
  pub found : resolve_cases a.functions s old.next all ≡ before_cases (map view.case_view list.items.items) (resolve_cases a.functions s new.next rest)
  pub kept : scope ≡ s
  pub counted : new.next + cases_count rest ≡ old.next + cases_count all
  pub labels : new.labels ++ cases_labels new.live rest ≡ old.labels ++ cases_labels old.live all
  pub live : new.live ≡ old.live

module _ (a : Around) (s : Scope) (old : LabelsSoFar) (all : CasesTree) where
  pub selects_none : (list : CaseList) → ((l : CaseLabel) → has_seen list l ≡ false) → list.items.items ≡ [] → Selects a s old all all list s old
  selects_none list unseen none = record {
    earlier = [];
    seen = unseen;
    clean = refl;
    found = ap (λ (xs : List ProgramCase). before_cases (map view.case_view xs) (resolve_cases a.functions s old.next all)) (sym none);
    kept = refl;
    counted = refl;
    labels = refl;
    live = refl;
  }

  -- the item that comes next
  module _ (left rest : CasesTree) (list : CaseList) (scope : Scope) (new : LabelsSoFar) (item : CaseItem) (is : left ≡ case_view item rest)
      (so : Selects a s old all left list scope new) where
    module _ (l : PlacedLabel) (label : item ≡ code_case.Label l) where
      pub label_left : left ≡ labelled l rest
      label_left = is ∙ label_is item l rest label

      pub selects_label : (more : CaseList) → fault_if (has_seen list l.label) DuplicateCase l.place ≡ []
          → ((q : CaseLabel) → has_seen more q ≡ (is_same_case q l.label || has_seen list q))
          → more.items.items ≡ list.items.items ++ program_case.Label l.label ∷ []
          → Selects a s old all rest more scope new
      selects_label more fresh seen added = record {
        earlier = l.label ∷ so.earlier;
        seen = λ q. seen q ∙ ap (λ (b : Bool). is_same_case q l.label || b) (so.seen q);
        clean = so.clean ∙ ap (cases_faults a s so.earlier) label_left
            ∙ ap (λ (b : Bool). fault_if b DuplicateCase l.place ++ cases_faults a s (l.label ∷ so.earlier) rest) (sym (so.seen l.label))
            ∙ ap (λ (rs : List Refusal). rs ++ cases_faults a s (l.label ∷ so.earlier) rest) fresh;
        found = so.found ∙ ap (λ (cs : CasesTree). before_cases (map view.case_view list.items.items) (resolve_cases a.functions s new.next cs)) label_left
            ∙ before_label list.items.items more.items.items l.label (resolve_cases a.functions s new.next rest) added;
        kept = so.kept;
        counted = ap (λ (cs : CasesTree). new.next + cases_count cs) (sym label_left) ∙ so.counted;
        labels = ap (λ (cs : CasesTree). new.labels ++ cases_labels new.live cs) (sym label_left) ∙ so.labels;
        live = so.live;
      }

      pub label_told : (e : SourceError) → IsFirstFault (fault_if (has_seen list l.label) DuplicateCase l.place) e → IsFirstFault (cases_faults a s [] all) e
      label_told e told =
          let front : IsFirstFault (fault_if (list_any (is_same_case l.label) so.earlier) DuplicateCase l.place) e =
          subst (λ (b : Bool). IsFirstFault (fault_if b DuplicateCase l.place) e) (so.seen l.label) told in
          let here = fault_if (list_any (is_same_case l.label) so.earlier) DuplicateCase l.place in
          subst (λ (rs : List Refusal). IsFirstFault rs e) (sym (so.clean ∙ ap (cases_faults a s so.earlier) label_left))
          (tells_front here (cases_faults a s (l.label ∷ so.earlier) rest) e front)

    module _ (t : Stmt) (statement : item ≡ code_case.Stated t) where
      pub stated_left : left ≡ stated (stmt_view t) rest
      stated_left = is ∙ stated_is item t rest statement

      pub selects_stated : (more : CaseList) (behind : Scope) (next : LabelsSoFar) (r : ProgramStmt) → stmt_faults a scope (stmt_view t) ≡ []
          → view.stmt_view r ≡ resolve_stmt a.functions scope new.next (stmt_view t) → behind ≡ scope → next.next ≡ new.next + stmt_count (stmt_view t)
          → Adds new next (stmt_labels new.live (stmt_view t)) → ((q : CaseLabel) → has_seen more q ≡ has_seen list q)
          → more.items.items ≡ list.items.items ++ program_case.Stated r ∷ [] → Selects a s old all rest more behind next
      selects_stated more behind next r told found kept counted adds seen added =
          let clean : stmt_faults a s (stmt_view t) ≡ [] = ap (λ (x : Scope). stmt_faults a x (stmt_view t)) (sym so.kept) ∙ told in
          let means : resolve_stmt a.functions s new.next (stmt_view t) ≡ view.stmt_view r =
          ap (λ (x : Scope). resolve_stmt a.functions x new.next (stmt_view t)) (sym so.kept) ∙ sym found in
          let behind_it = resolve_cases a.functions s (new.next + stmt_count (stmt_view t)) rest in
          record {
            earlier = so.earlier;
            seen = λ q. seen q ∙ so.seen q;
            clean = so.clean ∙ ap (cases_faults a s so.earlier) stated_left ∙ ap (λ (rs : List Refusal). rs ++ cases_faults a s so.earlier rest) clean;
            found = so.found ∙ ap (λ (cs : CasesTree). before_cases (map view.case_view list.items.items) (resolve_cases a.functions s new.next cs)) stated_left
                ∙ ap (λ (x : program.Stmt). before_cases (map view.case_view list.items.items) (program.stated x behind_it)) means
                ∙ before_stated list.items.items more.items.items r (resolve_cases a.functions s (new.next + stmt_count (stmt_view t)) rest) added
                ∙ ap (λ (n : ℕ). before_cases (map view.case_view more.items.items) (resolve_cases a.functions s n rest)) (sym counted);
            kept = kept ∙ so.kept;
            counted = let here : cases_count left ≡ stmt_count (stmt_view t) + cases_count rest =
                ap cases_count stated_left ∙ length-append (stmt_labels [] (stmt_view t)) (cases_labels [] rest) in
                let before = so.counted in omega (arith, here, before, counted);
            labels = ap (λ (ls : List Labelled). ls ++ cases_labels next.live rest) adds.labels
                ∙ append_assoc new.labels (stmt_labels new.live (stmt_view t)) (cases_labels next.live rest)
                ∙ ap (λ (ns : List (List ℕ)). new.labels ++ (stmt_labels new.live (stmt_view t) ++ cases_labels ns rest)) adds.live
                ∙ ap (λ (cs : CasesTree). new.labels ++ cases_labels new.live cs) (sym stated_left) ∙ so.labels;
            live = adds.live ∙ so.live;
          }

      pub stated_told : (e : SourceError) → IsFirstFault (stmt_faults a scope (stmt_view t)) e → IsFirstFault (cases_faults a s [] all) e
      stated_told e told =
          let front : IsFirstFault (stmt_faults a s (stmt_view t)) e = subst (λ (x : Scope). IsFirstFault (stmt_faults a x (stmt_view t)) e) so.kept told in
          subst (λ (rs : List Refusal). IsFirstFault rs e) (sym (so.clean ∙ ap (cases_faults a s so.earlier) stated_left))
          (tells_front (stmt_faults a s (stmt_view t)) (cases_faults a s so.earlier rest) e front)

-- the whole, if all of them are passed
module _ (a : Around) (s : Scope) (first : LabelsSoFar) (at : Place) (e : ExprTree) (cs : CasesTree) where
  pub value_told : (x : SourceError) → IsFirstFault (expr_faults s e) x → IsFirstFault (stmt_faults a s (switch at e cs)) x
  value_told x told = tells_front (expr_faults s e) (cases_faults (in_a_switch a) s [] cs) x told

  pub switch_told : (inside : Around) (all : CasesTree) (x : SourceError) → inside ≡ in_a_switch a → cs ≡ all
      → expr_faults s e ≡ [] → IsFirstFault (cases_faults inside s [] all) x → IsFirstFault (stmt_faults a s (switch at e cs)) x
  switch_told inside all x is same clean told =
      let own : IsFirstFault (cases_faults (in_a_switch a) s [] cs) x =
      subst (λ (rs : List Refusal). IsFirstFault rs x) (sym (ap (λ (y : Around). cases_faults y s [] cs) (sym is) ∙ ap (cases_faults inside s []) same)) told in
      tells_behind (expr_faults s e) (cases_faults (in_a_switch a) s [] cs) x clean own

  pub switch_found : (inside : Around) (old new : LabelsSoFar) (all left : CasesTree) (list : CaseList) (scope : Scope)
      → (r : ProgramStmt) (label : ℕ) (value : program.Expr)
      → inside ≡ in_a_switch a → cs ≡ all → left ≡ no_cases → Selects inside s old all left list scope new
      → expr_faults s e ≡ [] → label ≡ first.next → value ≡ resolve_expr s e → old.next ≡ suc first.next → Adds first old (plain_label at first.live ∷ [])
      → view.stmt_view r ≡ switch_of label value (view.cases_of (map view.case_view list.items.items)) → Resolves a s first (switch at e cs) (Ok r) scope new
  switch_found inside old new all left list scope r label value around same none so clean named given counted adds is =
      let none_left : cases_faults inside s so.earlier left ≡ [] = ap (cases_faults inside s so.earlier) none in
      let cases_clean : cases_faults (in_a_switch a) s [] cs ≡ [] =
      ap (λ (y : Around). cases_faults y s [] cs) (sym around) ∙ ap (cases_faults inside s []) same ∙ so.clean ∙ none_left in
      let means : resolve_cases a.functions s (suc first.next) cs ≡ view.cases_of (map view.case_view list.items.items) =
      ap (λ (F : List FunctionTree). resolve_cases F s (suc first.next) cs) (sym (ap (λ (x : Around). x.functions) around))
      ∙ ap (λ (n : ℕ). resolve_cases inside.functions s n cs) (sym counted) ∙ ap (resolve_cases inside.functions s old.next) same ∙ so.found
      ∙ ap (λ (x : CasesTree). before_cases (map view.case_view list.items.items) (resolve_cases inside.functions s new.next x)) none
      ∙ before_end (map view.case_view list.items.items) in
      record {
        told = both_clean (stmt_faults a s (switch at e cs)) (expr_faults s e) (cases_faults (in_a_switch a) s [] cs) refl clean cases_clean;
        found = is ∙ rw (named, given, means) refl;
        kept = so.kept;
        counted = let all_counted : cases_count all ≡ cases_count cs = ap cases_count (sym same) in
            let none_counted : cases_count left ≡ 0 = ap cases_count none in
            let before = so.counted in omega (arith, all_counted, none_counted, before, counted);
        adds = record {
          labels = let rest : new.labels ++ cases_labels new.live left ≡ new.labels =
              ap (λ (x : CasesTree). new.labels ++ cases_labels new.live x) none ∙ append-nil new.labels in
              sym rest ∙ so.labels ∙ ap (λ (ls : List Labelled). ls ++ cases_labels old.live all) adds.labels
              ∙ append_assoc first.labels (plain_label at first.live ∷ []) (cases_labels old.live all)
              ∙ ap (λ (ns : List (List ℕ)). first.labels ++ (plain_label at first.live ∷ cases_labels ns all)) adds.live
              ∙ ap (λ (x : CasesTree). first.labels ++ (plain_label at first.live ∷ cases_labels first.live x)) (sym same);
          live = so.live ∙ adds.live;
        };
      }
