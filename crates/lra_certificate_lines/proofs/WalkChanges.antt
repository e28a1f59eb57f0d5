-- A path as it is walked, change by change.
use Rattle.std.proofs.Common.{Bor, zero, drop, drop-cons, add-one, ◌<◌, ◌≤◌, slice_index_or, ◌≡◌, ◌+◌, ◌-◌, ℕ, suc, ℤ, List, [], ◌∷◌, ◌++◌, length, take, Result, Ok, ap, sym, ◌∙◌, subst, arith}
use Rattle.std.proofs.{lemmas.List.drop_all, lemmas.List.Elements.All-cons}
use Rattle.std.specs.List.{All}
use Rattle.lra_certificate_lines.specs.Crates.lra_domain.Actions.{Action, assign, forget, test, embed, remove_last}
use Rattle.lra_certificate_lines.specs.Crates.lra_systems.LinearSystems.{LinearSystem, constraints}
use Rattle.lra_certificate_lines.specs.Crates.{lra_domain.Changes.action_of, lra_domain.declared.changes.Change.Change, lra_linear_forms.Form.form_row, lra_linear_spec.CheckedArithmetic.and_then}
use Rattle.lra_certificate_lines.specs.Crates.{lra_linear_spec.Descriptions.LinearRow, lra_linear_spec.Kinds.is_equality, lra_linear_spec.declared.ConKind.ConKind}
use Rattle.lra_certificate_lines.specs.Crates.{lra_linear_spec.declared.Excess.Excess, lra_path_disjuncts.TableDisjuncts.all_done}
use Rattle.lra_row.specs.{Rows.IsExcessOf, declared.error.RowError.RowError}
use Rattle.lra_row.specs.declared.error.RowError.TheVariants as of_row
use Rattle.lra_certificate_lines.proofs.Crates.lra_systems.LinearRows.{constraints_pushed}
use Rattle.lra_multipliers.specs.Symbols.{composed, symbol, symbols, SymbolicState, gives, tests_too, executed_action, executed, new_symbols, tests_in, width_of, executed_path}
use Rattle.lra_certificate_spec.proofs.WalkedRows.{and_ok, ok_is, symbol_width}

-- ---- symbols
pub symbols_one_more : (a : Action) (steps : List Action) → new_symbols (a ∷ steps) ≡ new_symbols (a ∷ []) + new_symbols steps
symbols_one_more (assign i e) steps = omega arith
symbols_one_more (forget i) steps = omega arith
symbols_one_more (test kind e) steps = omega arith
symbols_one_more (embed k) steps = omega arith
symbols_one_more (remove_last k) steps = omega arith

pub free_after : (width : ℕ) (a : Action) (w x : SymbolicState) → executed_action width a w ≡ Ok x → x.free ≡ w.free + new_symbols (a ∷ [])
free_after width (assign i e) w x h =
    let made = and_ok (composed width (form_row e) w.forms) (λ (row : List ℤ). Ok (gives w i row)) x h in
    ap (λ (y : SymbolicState). y.free) (sym (ok_is (gives w i made.0) x made.2)) ∙ (let n : w.free ≡ w.free + 0 = omega arith in n)
free_after width (forget i) w x h =
    ap (λ (y : SymbolicState). y.free) (sym (ok_is (record (gives w i (symbol width w.free)) { free = suc w.free }) x h)) ∙
    (let n : suc w.free ≡ w.free + 1 = omega arith in n)
free_after width (test kind e) w x h =
    let made = and_ok (composed width (form_row e) w.forms)
    (λ (row : List ℤ). Ok (tests_too w (record { row = row; equal = is_equality kind }))) x h in
    ap (λ (y : SymbolicState). y.free) (sym (ok_is (tests_too w (record { row = made.0; equal = is_equality kind })) x made.2)) ∙
    (let n : w.free ≡ w.free + 0 = omega arith in n)
free_after width (embed k) w x h =
    ap (λ (y : SymbolicState). y.free) (sym (ok_is (record w { forms = w.forms ++ symbols width w.free k; free = w.free + k }) x h)) ∙
    (let n : w.free + k ≡ w.free + (k + 0) = omega arith in n)
free_after width (remove_last k) w x h =
    ap (λ (y : SymbolicState). y.free) (sym (ok_is (record w { forms = take (length w.forms - k) w.forms }) x h)) ∙
    (let n : w.free ≡ w.free + 0 = omega arith in n)

-- ---- change by change
pub passes_further : {A B : Type 0} (r : Result A Excess) (k : A → Result B Excess) (e : RowError) → IsExcessOf r e → IsExcessOf (and_then r k) e
passes_further {A = A} r k (of_row.Excess x) h = ap (λ (y : Result A Excess). and_then y k) h
passes_further r k of_row.Memory h = tt

module _ (width : ℕ) (a : Action) (steps : List Action) (w : SymbolicState) (whole : Result SymbolicState Excess)
    (so_far : executed width (a ∷ steps) w ≡ whole) where
  pub walks_on : (x : SymbolicState) → executed_action width a w ≡ Ok x → executed width steps x ≡ whole
  walks_on x e = ap (λ (r : Result SymbolicState Excess). and_then r (λ next. executed width steps next)) (sym e) ∙ so_far

  pub walk_passes : (e : RowError) → IsExcessOf (executed_action width a w) e → IsExcessOf whole e
  walk_passes e h =
      subst (λ (r : Result SymbolicState Excess). IsExcessOf r e) so_far
      (passes_further (executed_action width a w) (λ (next : SymbolicState). executed width steps next) e h)

-- ---- a test more
pub test_made : (width : ℕ) (a : Action) (w : SymbolicState) (old new : LinearSystem ConKind) (row : List ℤ) (kind : ConKind) →
    executed_action width a w ≡ Ok (tests_too w (record { row = row; equal = is_equality kind })) → w.tests ≡ constraints old →
    length old.kinds ≡ length old.rows → new.rows ≡ old.rows ++ row ∷ [] → new.kinds ≡ old.kinds ++ kind ∷ [] →
    executed_action width a w ≡ Ok (record w { tests = constraints new })
test_made width a w old new row kind made t n r k =
    made ∙ ap (λ (ts : List LinearRow). Ok (record w { tests = ts }))
    (ap (λ (ts : List LinearRow). ts ++ record { row = row; equal = is_equality kind } ∷ []) t ∙ sym (constraints_pushed old new row kind n r k))

-- ---- all rows have one width
pub symbols_wide : (n first count : ℕ) → All (λ f. length f ≡ n) (symbols n first count)
symbols_wide n first zero = λ k d h. absurd (omega (arith, h))
symbols_wide n first (suc count) = All-cons (λ f. length f ≡ n) (symbol n first) (symbols n (first + 1) count) (symbol_width n first)
    (symbols_wide n (first + 1) count)

-- ---- along a path
pub path_next : (path : List (Bor Change)) (i : ℕ) (c : Bor Change) → i < length path → c ≡ slice_index_or path i c → all_done (drop i path) ≡
    action_of c.now ∷ all_done (drop (i + 1) path)
path_next path i c h is =
    ap all_done (drop-cons path i c h ∙ (λ j. sym is j ∷ drop (sym (add-one i) j) path))

pub path_done : (path : List (Bor Change)) (i : ℕ) → length path ≤ i → all_done (drop i path) ≡ []
path_done path i h = ap all_done (drop_all i path h)

pub walk_begun : (live count : ℕ) (steps : List Action) (w : SymbolicState) → count ≡ new_symbols steps →
    w ≡ record { forms = symbols (live + count + 1) 1 live; tests = []; free = suc live } → executed (width_of live steps) steps w ≡ executed_path live steps
walk_begun live count steps w e is =
    ap (executed (width_of live steps) steps) (is ∙ ap start (let n : live + count + 1 ≡ suc (live + new_symbols steps) = omega (arith, e) in n))
  where
    start : ℕ → SymbolicState
    start n = record { forms = symbols n 1 live; tests = []; free = suc live }

module _ (width d : ℕ) (same : suc d ≡ width) (a : Action) (steps rest : List Action) (next : steps ≡ a ∷ rest) (w : SymbolicState)
    (whole : Result SymbolicState Excess)
    (so_far : executed width steps w ≡ whole) where
  begun : executed width (a ∷ rest) w ≡ whole
  begun = ap (λ (s : List Action). executed width s w) (sym next) ∙ so_far

  pub along_on : (x : SymbolicState) → executed_action (suc d) a w ≡ Ok x → executed width rest x ≡ whole
  along_on x e = walks_on width a rest w whole begun x (subst (λ (n : ℕ). executed_action n a w ≡ Ok x) same e)

  pub along_passes : (e : RowError) → IsExcessOf (executed_action (suc d) a w) e → IsExcessOf whole e
  along_passes e h = walk_passes width a rest w whole begun e (subst (λ (n : ℕ). IsExcessOf (executed_action n a w) e) same h)

pub free_next : (free : ℕ) (a : Action) (steps rest : List Action) (width : ℕ) → steps ≡ a ∷ rest → free + new_symbols steps ≤ width →
    free + new_symbols (a ∷ []) + new_symbols rest ≤ width
free_next free a steps rest width next h =
    let e = ap new_symbols next ∙ symbols_one_more a rest in omega (arith, e, h)

-- ---- how many tests
pub tests_one_more : (a : Action) (steps : List Action) → tests_in (a ∷ steps) ≡ tests_in (a ∷ []) + tests_in steps
tests_one_more (assign i e) steps = omega arith
tests_one_more (forget i) steps = omega arith
tests_one_more (test kind e) steps = omega arith
tests_one_more (embed k) steps = omega arith
tests_one_more (remove_last k) steps = omega arith
