-- All rows of a path have its width, and there are as many tests as it makes: so its checks are exact.
use Rattle.std.proofs.Common.{◌≡◌, ℕ, suc, ◌≤◌, ◌+◌, ◌-◌, ℤ, pos, List, [], ◌∷◌, ◌++◌, length, map, take, Ok, refl, ap, sym, ◌∙◌, subst, arith, length-append}
use Rattle.std.proofs.lemmas.List.{length-map}
use Rattle.std.specs.List.{AllByRecursion}
use Rattle.lra_certificate_spec.specs.Crates.lra_domain.Actions.{Action, assign, forget, test, embed, remove_last}
use Rattle.lra_certificate_spec.specs.Crates.{lra_linear_forms.Form.form_row, lra_linear_spec.Descriptions.LinearRow, lra_linear_spec.Kinds.is_equality, lra_linear_spec.Vectors.zeros}
use Rattle.lra_paths.specs.Paths.{Path}
use Rattle.lra_multipliers.specs.Multipliers.{Multipliers, IsAnswer, checked}
use Rattle.lra_multipliers.specs.Symbols.{symbol, symbols, composed, SymbolicState, tests_too, gives, executed_action, executed, new_symbols, tests_in, width_of, executed_path}
use Rattle.lra_certificate_spec.specs.{Certificates.PathPremises, Certificates.padded, Certificates.premises_of, Certificates.contradiction, Certificates.IsPointRow, Judged.premises_count}
use Rattle.lra_multipliers.proofs.CheckSteps.{AreWide, checked_exact, length_zeros}
use Rattle.lra_certificate_spec.proofs.WalkedRows.{and_ok, ok_is, AreOfWidth, composed_value, all_put, all_behind, all_taken, symbol_width, symbols_width}

-- forms and tests of this width, and so many tests
pub record IsWide (n count : ℕ) (w : SymbolicState) : Type 0 where
  pub forms : AreOfWidth (suc n) w.forms
  pub tests : AreWide (suc n) w.tests
  pub many : length w.tests ≡ count

tests_wide : (n : ℕ) (tests : List LinearRow) (g : LinearRow) → AreWide n tests → length g.row ≡ n → AreWide n (tests ++ g ∷ [])
tests_wide n [] g w e = (e, tt)
tests_wide n (t ∷ ts) g w e = (w.0, tests_wide n ts g w.1 e)

composed_width : (n : ℕ) (row : List ℤ) (forms : List (List ℤ)) (made : List ℤ) → AreOfWidth (suc n) forms → composed (suc n) row forms ≡ Ok made →
    length made ≡ suc n
composed_width n [] forms made w e = ap length (sym (ok_is (zeros (suc n)) made e)) ∙ length_zeros (suc n)
composed_width n (k ∷ cs) forms made w e = (composed_value n k cs forms made (pos 1 ∷ []) refl w e).0

pub wide_walk : (n count : ℕ) (steps : List Action) (w x : SymbolicState) → IsWide n count w → executed (suc n) steps w ≡ Ok x →
    IsWide n (count + tests_in steps) x
wide_walk n count [] w x h e = subst (λ (y : SymbolicState). IsWide n (count + 0) y) (ok_is w x e) (record {
  forms = h.forms;
  tests = h.tests;
  many = omega (
    arith,
    h.many,
  );
})
wide_walk n count (assign i e ∷ steps) w x h a =
    let first = and_ok (executed_action (suc n) (assign i e) w) (λ (next : SymbolicState). executed (suc n) steps next) x a in
    let made = and_ok (composed (suc n) (form_row e) w.forms) (λ (row : List ℤ). Ok (gives w i row)) first.0 first.1 in
    let wide = composed_width n (form_row e) w.forms made.0 h.forms made.1 in
    wide_walk n count steps first.0 x
    (subst (λ (y : SymbolicState). IsWide n count y) (ok_is (gives w i made.0) first.0 made.2)
    (record { forms = all_put (suc n) w.forms i made.0 wide h.forms; tests = h.tests; many = h.many })) first.2
wide_walk n count (forget i ∷ steps) w x h a =
    wide_walk n count steps (record (gives w i (symbol (suc n) w.free)) { free = suc w.free }) x
    (record { forms = all_put (suc n) w.forms i (symbol (suc n) w.free) (symbol_width (suc n) w.free) h.forms; tests = h.tests; many = h.many }) a
wide_walk n count (test kind e ∷ steps) w x h a =
    let first = and_ok (executed_action (suc n) (test kind e) w) (λ (next : SymbolicState). executed (suc n) steps next) x a in
    let made = and_ok (composed (suc n) (form_row e) w.forms) (λ (row : List ℤ). Ok (tests_too w (record { row = row; equal = is_equality kind }))) first.0
    first.1 in
    let wide = composed_width n (form_row e) w.forms made.0 h.forms made.1 in
    let g : LinearRow = record { row = made.0; equal = is_equality kind } in
    let more = wide_walk n (suc count) steps first.0 x
    (subst (λ (y : SymbolicState). IsWide n (suc count) y) (ok_is (tests_too w g) first.0 made.2)
    (record { forms = h.forms; tests = tests_wide (suc n) w.tests g h.tests wide; many = length-append w.tests (g ∷ []) ∙ omega (arith, h.many) })) first.2 in
    subst (λ (c : ℕ). IsWide n c x) (let e : suc count + tests_in steps ≡ count + suc (tests_in steps) = omega arith in e) more
wide_walk n count (embed k ∷ steps) w x h a =
    wide_walk n count steps (record w { forms = w.forms ++ symbols (suc n) w.free k; free = w.free + k }) x
    (record { forms = all_behind (suc n) w.forms (symbols (suc n) w.free k) h.forms (symbols_width (suc n) w.free k); tests = h.tests; many = h.many }) a
wide_walk n count (remove_last k ∷ steps) w x h a =
    wide_walk n count steps (record w { forms = take (length w.forms - k) w.forms }) x
    (record { forms = all_taken (suc n) (length w.forms - k) w.forms h.forms; tests = h.tests; many = h.many }) a

padded_wide : (n live : ℕ) (rows : List LinearRow) → live ≤ n → AllByRecursion (IsPointRow live) rows → AreWide (suc n) (map (padded (suc n)) rows)
padded_wide n live [] l h = tt
padded_wide n live (g ∷ gs) l h = (
  length-append g.row (zeros (suc n - length g.row)) ∙ ap (λ (k : ℕ). length g.row + k) (length_zeros (suc n - length g.row)) ∙ (let w = h.0.width in
      omega (arith, w, l)),
  padded_wide n live gs l h.1,
)

both_wide : (n : ℕ) (xs ys : List LinearRow) → AreWide n xs → AreWide n ys → AreWide n (xs ++ ys)
both_wide n [] ys w h = h
both_wide n (x ∷ xs) ys w h = (w.0, both_wide n xs ys w.1 h)

module _ (live : ℕ) (rows : List LinearRow) (path : Path) (fit : AllByRecursion (IsPointRow live) rows) where
  abbrev along : PathPremises
  along = record { live = live; rows = rows; path = path }

  abbrev last : ℕ
  last = live + new_symbols path.actions

  module _ (w : SymbolicState) (walks : executed_path live path.actions ≡ Ok w) where
    pub walk_wide : IsWide last (tests_in path.actions) w
    walk_wide = subst (λ (k : ℕ). IsWide last k w) (let e : 0 + tests_in path.actions ≡ tests_in path.actions = omega arith in
        e) (wide_walk last 0 path.actions (record { forms = symbols (suc last) 1 live; tests = []; free = suc live }) w
        (record { forms = symbols_width (suc last) 1 live; tests = tt; many = refl }) walks)

    pub premises_wide : AreWide (suc last) (premises_of along w)
    premises_wide = both_wide (suc last) (map (padded (suc last)) rows) w.tests (padded_wide last live rows (omega arith) fit) walk_wide.tests

    pub premises_many : length (premises_of along w) ≡ premises_count along
    premises_many = length-append (map (padded (suc last)) rows) w.tests ∙ (let l = length-map rows (padded (suc last)) in let m = walk_wide.many in
        omega (arith, l, m))

    exact_at : (claim : List ℤ) (m : Multipliers) → length claim ≡ suc last → IsAnswer (premises_of along w) claim m (checked (premises_of along w) claim m)
    exact_at claim m e = checked_exact (premises_of along w) claim m (omega (arith, e)) (subst (λ (k : ℕ). AreWide k (premises_of along w)) (sym e)
        premises_wide)

    pub nothing_width : length (contradiction along) ≡ suc last
    nothing_width = ap suc (length_zeros (suc last - 1)) ∙ omega arith

    pub dead_exact : (m : Multipliers) → IsAnswer (premises_of along w) (contradiction along) m (checked (premises_of along w) (contradiction along) m)
    dead_exact m = exact_at (contradiction along) m nothing_width

    pub row_exact : (claim row : List ℤ) (m : Multipliers) → composed (width_of live path.actions) claim w.forms ≡ Ok row →
        IsAnswer (premises_of along w) row m (checked (premises_of along w) row m)
    row_exact claim row m e = exact_at row m (composed_width last claim w.forms row walk_wide.forms e)
