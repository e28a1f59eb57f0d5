-- The premises of a path's lines as they are put together.
use Rattle.std.proofs.Common.{◌≡◌, ◌≤◌, ◌+◌, ◌-◌, ◌++◌, ◌∷◌, [], ℕ, zero, suc, ℤ, pos, Bool, List, length, map, take, Some, Ok, refl, ap, sym, ◌∙◌, subst, arith, add-one, append_assoc, length-append}
use Rattle.std.proofs.{lemmas.List.take_all, lemmas.List.map-append, lemmas.List.length-map, lemmas.List.replicate_more, lemmas.Option.same_Some, lemmas.Option.none-some}
use Rattle.std.specs.Prelude.{slice_get}
use Rattle.lra_certificate_lines.specs.Crates.lra_linear_spec.Kinds.{is_equality}
use Rattle.lra_certificate_lines.specs.Crates.lra_systems.LinearSystems.{LinearSystem, constraints, rows_by_kind}
use Rattle.lra_certificate_lines.specs.Crates.{lra_domain.Actions.Action, lra_linear_spec.Descriptions.LinearRow, lra_linear_spec.Vectors.zeros, lra_linear_spec.declared.ConKind.ConKind}
use Rattle.lra_certificate_lines.proofs.Crates.{lra_linear_spec.UnitRows.zeros_are, lra_linear_spec.UnitRows.zeros_more, lra_systems.LinearRows.constraints_pushed}
use Rattle.lra_certificate_spec.specs.Certificates.{padded}
use Rattle.lra_multipliers.specs.Symbols.{SymbolicState, executed_path, width_of, new_symbols, tests_in, symbols}
use Rattle.lra_certificate_lines.specs.SymbolicViews.{symbolic_view, HasWidth}
use Rattle.lra_certificate_lines.specs.{PathCheckViews.ArePathFactsOf, declared.path_checks.PathFacts.PathFacts, declared.symbolic.SymbolicExecution.SymbolicExecution}
use Rattle.lra_multipliers.proofs.CheckSteps.{length_zeros}
use Rattle.lra_certificate_spec.proofs.{WalkedRows.symbols_width, WalkedWidths.wide_walk}

-- ---- a row with zeros after it
pub padded_more : (row old new : List ℤ) → length row ≤ length old → old ≡ row ++ zeros (length old - length row) → new ≡ old ++ pos 0 ∷ [] →
    new ≡ row ++ zeros (length new - length row)
padded_more row old new h o p =
    p ∙ ap (λ (x : List ℤ). x ++ pos 0 ∷ []) o ∙ append_assoc row (zeros (length old - length row)) (pos 0 ∷ []) ∙
    (let k = length old - length row in ap (λ (x : List ℤ). row ++ x)
    (ap (λ (x : List ℤ). x ++ pos 0 ∷ []) (sym (zeros_are k)) ∙ replicate_more k (pos 0) ∙ zeros_more k)) ∙
    ap (λ (k : ℕ). row ++ zeros k) (let l = ap (λ (x : List ℤ). length x) p ∙ length-append old (pos 0 ∷ []) in
    let e : suc (length old - length row) ≡ length new - length row = omega (arith, l, h) in e)

pub padded_length : (row made : List ℤ) (width : ℕ) → length row ≤ width → made ≡ row ++ zeros (width - length row) → length made ≡ width
padded_length row made width h is =
    let l = ap (λ (x : List ℤ). length x) is ∙ length-append row (zeros (width - length row)) in
    let z = length_zeros (width - length row) in
    omega (arith, l, z, h)

-- ---- constraint by constraint
given_at : {K : Type 0} (equal : K → Bool) (rows : List (List ℤ)) (kinds : List K) (i : ℕ) (r : List ℤ) (k : K) → slice_get rows i ≡ Some r →
    slice_get kinds i ≡ Some k →
    take (suc i) (rows_by_kind equal rows kinds) ≡ take i (rows_by_kind equal rows kinds) ++ record { row = r; equal = equal k } ∷ []
given_at equal [] kinds i r k er ek = absurd (none-some r er)
given_at equal (x ∷ rows) [] i r k er ek = absurd (none-some k ek)
given_at {K = K} equal (x ∷ rows) (y ∷ kinds) zero r k er ek =
    ap (λ (z : List ℤ). (let g : LinearRow = record { row = z; equal = equal y } in g) ∷ []) (same_Some x r er) ∙
    ap (λ (z : K). (let g : LinearRow = record { row = r; equal = equal z } in g) ∷ []) (same_Some y k ek)
given_at equal (x ∷ rows) (y ∷ kinds) (suc i) r k er ek =
    ap (λ (gs : List LinearRow). (let g : LinearRow = record { row = x; equal = equal y } in g) ∷ gs) (given_at equal rows kinds i r k er ek)

given_few : {K : Type 0} (equal : K → Bool) (rows : List (List ℤ)) (kinds : List K) → length (rows_by_kind equal rows kinds) ≤ length rows
given_few equal [] kinds = omega arith
given_few equal (x ∷ rows) [] = omega arith
given_few equal (x ∷ rows) (y ∷ kinds) = let k = given_few equal rows kinds in omega (arith, k)

pub constraints_few : (rows : LinearSystem ConKind) → length (constraints rows) ≤ length rows.rows
constraints_few rows = given_few is_equality rows.rows rows.kinds

pub all_constraints : (rows : LinearSystem ConKind) (i : ℕ) → length rows.rows ≤ i → take i (constraints rows) ≡ constraints rows
all_constraints rows i h = let k = given_few is_equality rows.rows rows.kinds in take_all i (constraints rows) (omega (arith, h, k))

module _ (rows old new : LinearSystem ConKind) (i : ℕ) (r made : List ℤ) (kind : ConKind) (at_row : slice_get rows.rows i ≡ Some r)
    (at_kind : slice_get rows.kinds i ≡ Some kind) (kinds : length old.kinds ≡ length old.rows) (pushed : new.rows ≡ old.rows ++ made ∷ [])
    (pushed_kind : new.kinds ≡ old.kinds ++ kind ∷ []) where
  next : take (i + 1) (constraints rows) ≡ take i (constraints rows) ++ record { row = r; equal = is_equality kind } ∷ []
  next = ap (λ (j : ℕ). take j (constraints rows)) (add-one i) ∙ given_at is_equality rows.rows rows.kinds i r kind at_row at_kind

  -- padded
  pub padded_pushed : (width : ℕ) → made ≡ r ++ zeros (width - length r) → constraints old ≡ map (padded width) (take i (constraints rows)) →
      constraints new ≡ map (padded width) (take (i + 1) (constraints rows))
  padded_pushed width is so_far =
      constraints_pushed old new made kind kinds pushed pushed_kind ∙
      ap (λ (gs : List LinearRow). gs ++ record { row = made; equal = is_equality kind } ∷ []) so_far ∙
      ap (λ (z : List ℤ). map (padded width) (take i (constraints rows)) ++ (let g : LinearRow = record { row = z; equal = is_equality kind } in g) ∷ []) is ∙
      sym (map-append (padded width) (take i (constraints rows)) (record { row = r; equal = is_equality kind } ∷ [])) ∙
      ap (map (padded width)) (sym next)

  -- as they are
  pub row_pushed : (start : List LinearRow) → made ≡ r → constraints old ≡ start ++ take i (constraints rows) → constraints new ≡
      start ++ take (i + 1) (constraints rows)
  row_pushed start is so_far =
      constraints_pushed old new made kind kinds pushed pushed_kind ∙
      ap (λ (gs : List LinearRow). gs ++ record { row = made; equal = is_equality kind } ∷ []) so_far ∙
      ap (λ (z : List ℤ). (start ++ take i (constraints rows)) ++ (let g : LinearRow = record { row = z; equal = is_equality kind } in g) ∷ []) is ∙
      append_assoc start (take i (constraints rows)) (record { row = r; equal = is_equality kind } ∷ []) ∙
      ap (λ (gs : List LinearRow). start ++ gs) (sym next)

-- ---- as many rows as tests
pub given_many : (rows : List (List ℤ)) (kinds : List ConKind) → length kinds ≡ length rows → length (rows_by_kind is_equality rows kinds) ≡ length rows
given_many [] kinds e = refl
given_many (x ∷ rows) [] e = absurd (omega (arith, e))
given_many (x ∷ rows) (y ∷ kinds) e = ap suc (given_many rows kinds (omega (arith, e)))

walk_many : (live : ℕ) (steps : List Action) (w : SymbolicState) → executed_path live steps ≡ Ok w → length w.tests ≡ tests_in steps
walk_many live steps w e =
    let last = live + new_symbols steps in
    let many = (wide_walk last 0 steps (record { forms = symbols (suc last) 1 live; tests = []; free = suc live }) w
    (record { forms = symbols_width (suc last) 1 live; tests = tt; many = refl }) e).many in
    omega (arith, many)

-- the premises are as many as the lines have factors
pub premises_counted : (live : ℕ) (steps : List Action) (w : SymbolicState) (rows : List LinearRow) (width : ℕ) (premises : LinearSystem ConKind) (count : ℕ) →
    executed_path live steps ≡ Ok w → constraints premises ≡ map (padded width) rows ++ w.tests → length premises.kinds ≡ length premises.rows →
    count ≡ length rows + tests_in steps → length premises.rows ≡ count
premises_counted live steps w rows width premises count walks is kinds n =
    let made = ap (λ (gs : List LinearRow). length gs) is ∙ length-append (map (padded width) rows) w.tests in
    let r = length-map rows (padded width) in
    let t = walk_many live steps w walks in
    let g = given_many premises.rows premises.kinds kinds in
    omega (arith, made, r, t, g, n)

-- the grounds of a walk
pub grounds_made : (n live : ℕ) (rows : List LinearRow) (steps : List Action) (w : SymbolicExecution) (g : PathFacts) → n ≡ live →
    executed_path n steps ≡ Ok (symbolic_view w) →
    HasWidth (width_of n steps) w → constraints g.premises ≡ map (padded (suc w.tests.dims)) rows ++ constraints w.tests → g.premises.dims ≡ w.tests.dims →
    g.forms.items ≡ w.forms.items → ArePathFactsOf live rows steps g
grounds_made n live rows steps w g e made wide premises dims forms = subst (λ (k : ℕ). ArePathFactsOf k rows steps g) e (record {
  walk = symbolic_view w;
  walks = made;
  width = ap suc dims ∙ wide.tests;
  premises = premises ∙ ap (λ (k : ℕ). map (padded k) rows ++ constraints w.tests) wide.tests;
  forms = forms;
})
