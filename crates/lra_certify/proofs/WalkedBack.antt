-- Values of the symbols at which the tests of a path hold are a point of its source, from which the path leads to the
-- values of its forms.
use Rattle.std.proofs.Common.{◌≡◌, ℕ, zero, suc, ◌≤◌, ◌+◌, ◌-◌, ℤ, ◌+ℤ◌, ◌*ℤ◌, List, [], ◌∷◌, ◌++◌, length, take, drop, Ok, refl, ap, sym, ◌∙◌, subst, arith}
use Rattle.std.proofs.lemmas.List.{map-append, length-map, map-set, take-map, length-take-le, take-append-drop}
use Rattle.std.proofs.lemmas.List.Elements.{Contains-append_left, Contains-push}
use Rattle.std.specs.Prelude.{slice_set}
use Rattle.lra_certify.specs.Crates.lra_domain.Actions.{Action, assign, forget, test, embed, remove_last}
use Rattle.lra_certify.specs.Crates.lra_linear_spec.Descriptions.{LinearRow, HoldsWith, Holds, Con}
use Rattle.lra_certify.specs.Crates.lra_linear_spec.Vectors.{entry, product, zeros}
use Rattle.lra_certify.specs.Crates.lra_multipliers.Symbols.{symbol, symbols, composed, SymbolicState, tests_too, gives, executed_action, executed, new_symbols, width_of, executed_path}
use Rattle.lra_certify.specs.Crates.{lra_certificate_spec.Certificates.padded, lra_linear_forms.Form.form_row, lra_linear_spec.Kinds.is_equality}
use Rattle.lra_certify.proofs.Crates.lra_certificate_spec.WalkedRows.{and_ok, ok_is, AreOfWidth, values, composed_from_value, symbols_values, all_put, all_behind, all_taken, symbol_width}
use Rattle.lra_certify.proofs.Crates.lra_certificate_spec.WalkedRows.{symbols_width}
use Rattle.lra_certify.proofs.Crates.{lra_linear_spec.OneSpelling.dot_zeros, lra_linear_spec.Products.product_none, lra_linear_spec.UnitRows.entry_product, lra_multipliers.CheckSteps.length_zeros}
use Rattle.lra_certify.specs.PointMoves.{PointLeadsAll}

-- ---- the row of a form, and of a claim
pub composed_at : (n : ℕ) (k : ℤ) (cs : List ℤ) (forms : List (List ℤ)) (row u : List ℤ) → AreOfWidth (suc n) forms → composed (suc n) (k ∷ cs) forms ≡
    Ok row → (length row ≡ suc n) × (product row u ≡ product (k ∷ cs) (entry u 0 ∷ values u forms))
composed_at n k cs forms row u w e =
    let r = composed_from_value (slice_set (zeros (suc n)) 0 k) cs forms row u (suc n) (ap suc (length_zeros n)) w e in
    (r.0, r.1 ∙ ap (λ (z : ℤ). z +ℤ product cs (values u forms)) (entry_product (suc n) 0 k u (omega arith)))

-- ---- paths
-- the values of the forms, as a point
abbrev pub point_at : List ℤ → SymbolicState → List ℤ
point_at u w = entry u 0 ∷ values u w.forms

-- the tests so far hold, and the steps lead from the values of the forms to those after them
abbrev GoesBack : List ℤ → List Action → SymbolicState → SymbolicState → Type 0
GoesBack u steps w x = Con w.tests u × PointLeadsAll steps (point_at u w) (point_at u x)

count_symbols : (n free count : ℕ) → length (symbols n free count) ≡ count
count_symbols n free zero = refl
count_symbols n free (suc count) = ap suc (count_symbols n (free + 1) count)

module _ (n : ℕ) (u : List ℤ) where
  put_point : (w : SymbolicState) (i : ℕ) (row : List ℤ) (z : ℤ) → product row u ≡ z →
      entry u 0 ∷ values u (slice_set w.forms i row) ≡ slice_set (point_at u w) (suc i) z
  put_point w i row z e =
      ap (λ (ys : List ℤ). entry u 0 ∷ ys)
      (map-set (λ (f : List ℤ). product f u) w.forms i row ∙ ap (λ (y : ℤ). slice_set (values u w.forms) i y) e)

  cut_point : (k : ℕ) (forms : List (List ℤ)) → values u (take (length forms - k) forms) ≡
      take (suc (length (values u forms)) - suc k) (values u forms)
  cut_point k forms =
      sym (take-map (λ (f : List ℤ). product f u) (length forms - k) forms) ∙
      ap (λ (j : ℕ). take j (values u forms))
      (let l = length-map forms (λ (f : List ℤ). product f u) in
      let e : length forms - k ≡ suc (length (values u forms)) - suc k = omega (arith, l) in e)

  goes_back : (steps : List Action) (w x : SymbolicState) → AreOfWidth (suc n) w.forms → executed (suc n) steps w ≡ Ok x → Con x.tests u → GoesBack u steps w x
  goes_back [] w x h a c = subst (λ (y : SymbolicState). GoesBack u [] w y) (ok_is w x a)
      (subst (λ (y : SymbolicState). Con y.tests u) (sym (ok_is w x a)) c, refl)
  goes_back (assign i e ∷ steps) w x h a c =
      let first = and_ok (executed_action (suc n) (assign i e) w) (λ (next : SymbolicState). executed (suc n) steps next) x a in
      let made = and_ok (composed (suc n) (form_row e) w.forms) (λ (row : List ℤ). Ok (gives w i row)) first.0 first.1 in
      let value = composed_at n e.constant e.coefficients w.forms made.0 u h made.1 in
      let rest = goes_back steps (gives w i made.0) x (all_put (suc n) w.forms i made.0 value.0 h)
      (subst (λ (y : SymbolicState). executed (suc n) steps y ≡ Ok x) (sym (ok_is (gives w i made.0) first.0 made.2)) first.2) c in
      (rest.0, (point_at u (gives w i made.0), put_point w i made.0 (product (form_row e) (point_at u w)) value.1, rest.1))
  goes_back (forget i ∷ steps) w x h a c =
      let row = symbol (suc n) w.free in
      let next : SymbolicState = record (gives w i row) { free = suc w.free } in
      let rest = goes_back steps next x (all_put (suc n) w.forms i row (symbol_width (suc n) w.free) h) a c in
      (rest.0, (point_at u next, (product row u, put_point w i row (product row u) refl), rest.1))
  goes_back (test kind e ∷ steps) w x h a c =
      let first = and_ok (executed_action (suc n) (test kind e) w) (λ (next : SymbolicState). executed (suc n) steps next) x a in
      let made = and_ok (composed (suc n) (form_row e) w.forms) (λ (row : List ℤ). Ok (tests_too w (record { row = row; equal = is_equality kind }))) first.0
      first.1 in
      let value = composed_at n e.constant e.coefficients w.forms made.0 u h made.1 in
      let g : LinearRow = record { row = made.0; equal = is_equality kind } in
      let rest = goes_back steps (tests_too w g) x h
      (subst (λ (y : SymbolicState). executed (suc n) steps y ≡ Ok x) (sym (ok_is (tests_too w g) first.0 made.2)) first.2) c in (
        λ f m. rest.0 f (Contains-append_left w.tests (g ∷ []) f m),
        (
          point_at u w,
          (subst (λ (z : ℤ). HoldsWith (is_equality kind) z) value.1 (rest.0 g (Contains-push w.tests g)), refl),
          rest.1,
        ),
      )
  goes_back (embed k ∷ steps) w x h a c =
      let more = symbols (suc n) w.free k in
      let next : SymbolicState = record w { forms = w.forms ++ more; free = w.free + k } in
      let rest = goes_back steps next x (all_behind (suc n) w.forms more h (symbols_width (suc n) w.free k)) a c in (
        rest.0,
        (
          point_at u next,
          (
            values u more,
            length-map more (λ (f : List ℤ). product f u) ∙ count_symbols (suc n) w.free k,
            ap (λ (ys : List ℤ). entry u 0 ∷ ys) (map-append (λ (f : List ℤ). product f u) w.forms more),
          ),
          rest.1,
        ),
      )
  goes_back (remove_last k ∷ steps) w x h a c =
      let next : SymbolicState = record w { forms = take (length w.forms - k) w.forms } in
      let rest = goes_back steps next x (all_taken (suc n) (length w.forms - k) w.forms h) a c in
      (rest.0, (point_at u next, ap (λ (ys : List ℤ). entry u 0 ∷ ys) (cut_point k w.forms), rest.1))

-- ---- the source
first_values : (live : ℕ) (steps : List Action) (u : List ℤ) → length u ≡ width_of live steps →
    entry u 0 ∷ values u (symbols (width_of live steps) 1 live) ≡ take (suc live) u
first_values live steps [] e = absurd (omega (arith, e))
first_values live steps (d ∷ us) e =
    let long : live ≤ length us = omega (arith, e) in
    let taken = length-take-le live us long in
    ap (λ (ys : List ℤ). d ∷ ys)
    (ap (λ (k : ℕ). values (d ∷ us) (symbols (width_of live steps) 1 k)) (sym taken) ∙
    symbols_values (live + new_symbols steps) (d ∷ us) 1 (take live us) (drop live us) (omega (arith, taken)) (sym (take-append-drop live us)))

-- a point of the symbols at which the tests hold comes from one of the source, which the path leads to that of the forms
pub walked_back : (live : ℕ) (steps : List Action) (w : SymbolicState) (u : List ℤ) → executed_path live steps ≡ Ok w → length u ≡ width_of live steps →
    Con w.tests u → PointLeadsAll steps (take (suc live) u) (point_at u w)
walked_back live steps w u e long c =
    let n = live + new_symbols steps in
    let back = goes_back n u steps (record { forms = symbols (suc n) 1 live; tests = []; free = suc live }) w (symbols_width (suc n) 1 live) e c in
    subst (λ (x : List ℤ). PointLeadsAll steps x (point_at u w)) (first_values live steps u long) back.1

-- ---- the source's rows
product_behind : (row u : List ℤ) (k : ℕ) → product (row ++ zeros k) u ≡ product row (take (length row) u)
product_behind [] u k = dot_zeros k (entry u)
product_behind (c ∷ cs) [] k = product_none (c ∷ cs ++ zeros k) ∙ sym (product_none (c ∷ cs))
product_behind (c ∷ cs) (y ∷ ys) k = ap (λ (z : ℤ). (c *ℤ y) +ℤ z) (product_behind cs ys k)

-- a row with zeros after it holds at a point if the row does at the first columns
pub padded_holds : (width live : ℕ) (g : LinearRow) (u : List ℤ) → length g.row ≡ suc live → Holds (padded width g) u → Holds g (take (suc live) u)
padded_holds width live g u e h =
    subst (λ (z : ℤ). HoldsWith g.equal z)
    (product_behind g.row u (width - length g.row) ∙ ap (λ (k : ℕ). product g.row (take k u)) e) h
