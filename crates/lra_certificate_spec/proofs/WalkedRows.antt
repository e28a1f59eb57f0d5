-- What rows over symbols stand for: if actions lead from one store to another, the symbols have values at which the
-- rows are the numbers of the second store, and at which the tests hold.
use Rattle.std.proofs.Common.{◌≡◌, ℕ, zero, suc, ◌<◌, ◌≤◌, ◌+◌, ◌-◌, ℤ, pos, ◌+ℤ◌, ◌*ℤ◌, List, [], ◌∷◌, ◌++◌, length, map, take, drop, Result, Ok, Err, refl, ap, sym, ◌∙◌, subst, arith, inl, inr, ◌⊎◌}
use Rattle.std.proofs.lemmas.List.{map-append, length-append, length-map, map-set, take-map, length-set}
use Rattle.std.proofs.{Common.add-one, Math.IntN.+ℤ_idr, lemmas.Bool.cases_lt, lemmas.List.Elements.Contains-append_cases}
use Rattle.std.specs.{List.AllByRecursion, List.Contains, Prelude.slice_set}
use Rattle.lra_certificate_spec.specs.Crates.lra_domain.Actions.{Action, assign, forget, test, embed, remove_last}
use Rattle.lra_certificate_spec.specs.Crates.lra_linear_forms.Form.{Form, form_row, form_value, KindHolds}
use Rattle.lra_certificate_spec.specs.Crates.lra_linear_spec.CheckedArithmetic.{checked_added, and_then}
use Rattle.lra_certificate_spec.specs.Crates.lra_linear_spec.Descriptions.{LinearRow, HoldsWith, Holds, Con}
use Rattle.lra_certificate_spec.specs.Crates.lra_linear_spec.Vectors.{entry, dot, product, zeros}
use Rattle.lra_certificate_spec.specs.Crates.lra_linear_spec.declared.ConKind.TheVariants.{Ge, Eq}
use Rattle.lra_certificate_spec.specs.Crates.{lra_domain.Moves.LeadsAll, lra_linear_spec.Kinds.is_equality, lra_linear_spec.declared.ConKind.ConKind, lra_linear_spec.declared.Excess.Excess}
use Rattle.lra_certificate_spec.proofs.Crates.lra_linear_spec.Membership.{contains_none, contains_cases}
use Rattle.lra_certificate_spec.proofs.Crates.lra_linear_spec.Products.{entry_past, dot_same, dot_plus, product_comm, product_none}
use Rattle.lra_certificate_spec.proofs.Crates.{lra_linear_spec.Ring.ring, lra_linear_spec.Ring.v, lra_linear_spec.Ring.◌⊕◌, lra_linear_spec.Ring.◌⊗◌, lra_linear_spec.UnitRows.entry_product}
use Rattle.lra_multipliers.specs.Columns.{added_to}
use Rattle.lra_multipliers.specs.Symbols.{symbol, symbols, constant_row, composed_from, composed, SymbolicState, tests_too, gives, executed_action, executed, new_symbols}
use Rattle.lra_multipliers.proofs.CheckSteps.{Matches, added_columns, added_is, length_zeros}

-- ---- results
pub and_ok : {A B : Type 0} (r : Result A Excess) (k : A → Result B Excess) (y : B) → and_then r k ≡ Ok y → (x : A) × (r ≡ Ok x) × (k x ≡ Ok y)
and_ok (Ok x) k y e = (x, refl, e)
and_ok (Err f) k y e = absurd (err_ok f y e)
  where
    err_ok : {B : Type 0} (f : Excess) (y : B) → (let r : Result B Excess = Err f in r) ≡ Ok y → ⊥
    err_ok f y e = cc

pub ok_is : {A : Type 0} (x y : A) → (let r : Result A Excess = Ok x in r) ≡ Ok y → x ≡ y
ok_is x y e = cc

-- ---- sums
pub added_value : (b : ℤ) (xs ys zs : List ℤ) (n : ℕ) → length xs ≡ n → length ys ≡ n → checked_added b xs ys ≡ Ok zs → (length zs ≡ n) ×
    ((j : ℕ) → entry zs j ≡ (b *ℤ entry ys j) +ℤ entry xs j)
added_value b xs ys zs n e f g = (m.0, λ j. by j (cases_lt j n))
  where
    m : Matches (λ j. added_to (entry xs j) (b *ℤ entry ys j)) n (Ok zs)
    m = subst (λ (r : Result (List ℤ) Excess). Matches (λ j. added_to (entry xs j) (b *ℤ entry ys j)) n r) g (added_columns b xs ys n e f)

    nothing : (x y : ℤ) → x ≡ pos 0 → y ≡ pos 0 → pos 0 ≡ (b *ℤ y) +ℤ x
    nothing x y h k = ring (v (pos 0)) (v b ⊗ v (pos 0) ⊕ v (pos 0)) (omega arith) ∙ ap (λ (z : ℤ). (b *ℤ z) +ℤ pos 0) (sym k) ∙ ap (λ (z : ℤ). (b *ℤ y) +ℤ z)
        (sym h)

    by : (j : ℕ) → (j < n) ⊎ (n ≤ j) → entry zs j ≡ (b *ℤ entry ys j) +ℤ entry xs j
    by j (inl h) = added_is (entry xs j) (b *ℤ entry ys j) (entry zs j) (m.1 j h) ∙ ring (v (entry xs j) ⊕ v (b *ℤ entry ys j))
        (v (b *ℤ entry ys j) ⊕ v (entry xs j)) (omega arith)
    by j (inr h) = entry_past zs j (omega (arith, m.0, h)) ∙ nothing (entry xs j) (entry ys j) (entry_past xs j (omega (arith, e, h)))
        (entry_past ys j (omega (arith, f, h)))

added_product : (b : ℤ) (xs ys zs u : List ℤ) (n : ℕ) → length xs ≡ n → length ys ≡ n → checked_added b xs ys ≡ Ok zs → (length zs ≡ n) ×
    (product zs u ≡ (b *ℤ product ys u) +ℤ product xs u)
added_product b xs ys zs u n e f g =
    let a = added_value b xs ys zs n e f g in (
      a.0,
      product_comm zs u ∙ dot_same u (entry zs) (λ j. (b *ℤ entry ys j) +ℤ entry xs j) a.1 ∙ dot_plus u b (entry ys) (entry xs) ∙
          ap (λ (z : ℤ). (b *ℤ z) +ℤ dot u (entry xs)) (product_comm u ys) ∙ ap (λ (z : ℤ). (b *ℤ product ys u) +ℤ z) (product_comm u xs),
    )

abbrev pub AreOfWidth : ℕ → List (List ℤ) → Type 0
AreOfWidth n forms = AllByRecursion (λ f. length f ≡ n) forms

-- the numbers of rows at a vector
abbrev pub values : List ℤ → List (List ℤ) → List ℤ
values u forms = map (λ f. product f u) forms

pub composed_from_value : (sum cs : List ℤ) (forms : List (List ℤ)) (row u : List ℤ) (n : ℕ) → length sum ≡ n → AreOfWidth n forms → composed_from sum cs forms ≡
    Ok row →
    (length row ≡ n) × (product row u ≡ product sum u +ℤ product cs (values u forms))
composed_from_value sum [] forms row u n e w f =
    (ap length (sym (ok_is sum row f)) ∙ e, ap (λ (r : List ℤ). product r u) (sym (ok_is sum row f)) ∙ sym (+ℤ_idr (product sum u)))
composed_from_value sum (c ∷ cs) [] row u n e w f = (
  ap length (sym (ok_is sum row f)) ∙ e,
  ap (λ (r : List ℤ). product r u) (sym (ok_is sum row f)) ∙ sym (+ℤ_idr (product sum u)) ∙ ap (λ (z : ℤ). product sum u +ℤ z) (sym (product_none (c ∷ cs))),
)
composed_from_value sum (c ∷ cs) (form ∷ forms) row u n e w f =
    let a = and_ok (checked_added c sum form) (λ (next : List ℤ). composed_from next cs forms) row f in
    let p = added_product c sum form a.0 u n e w.0 a.1 in
    let r = composed_from_value a.0 cs forms row u n p.0 w.1 a.2 in (
      r.0,
      r.1 ∙ ap (λ (z : ℤ). z +ℤ product cs (values u forms)) p.1 ∙
          ring (v c ⊗ v (product form u) ⊕ v (product sum u) ⊕ v (product cs (values u forms)))
          (v (product sum u) ⊕ (v c ⊗ v (product form u) ⊕ v (product cs (values u forms)))) (omega arith),
    )

pub composed_value : (n : ℕ) (k : ℤ) (cs : List ℤ) (forms : List (List ℤ)) (row u : List ℤ) → entry u 0 ≡ pos 1 → AreOfWidth (suc n) forms → composed (suc n)
    (k ∷ cs) forms ≡ Ok row →
    (length row ≡ suc n) × (product row u ≡ k +ℤ product cs (values u forms))
composed_value n k cs forms row u o w e =
    let r = composed_from_value (constant_row (suc n) k) cs forms row u (suc n) (ap suc (length_zeros n)) w e in (
      r.0,
      r.1 ∙ ap (λ (z : ℤ). z +ℤ product cs (values u forms)) (entry_product (suc n) 0 k u (omega arith) ∙ ap (λ (z : ℤ). k *ℤ z) o ∙ ring (v k ⊗ v (pos 1))
          (v k) (omega arith)),
    )

-- ---- symbols
symbol_value : (n column : ℕ) (u : List ℤ) → column < suc n → product (symbol (suc n) column) u ≡ entry u column
symbol_value n column u h = entry_product (suc n) column (pos 1) u h ∙ ring (v (pos 1) ⊗ v (entry u column)) (v (entry u column)) (omega arith)

pub symbol_width : (n column : ℕ) → length (symbol n column) ≡ n
symbol_width n column = length-set (zeros n) column (pos 1) ∙ length_zeros n

drop_first : (u : List ℤ) (i : ℕ) (x : ℤ) (rest : List ℤ) → drop i u ≡ x ∷ rest → (entry u i ≡ x) × (drop (suc i) u ≡ rest)
drop_first [] zero x rest e = absurd (cc)
drop_first [] (suc i) x rest e = absurd (cc)
drop_first (y ∷ u) zero x rest e = (cc, cc)
drop_first (y ∷ u) (suc i) x rest e = drop_first u i x rest e

pub symbols_values : (n : ℕ) (u : List ℤ) (free : ℕ) (added rest : List ℤ) → free + length added ≤ suc n → drop free u ≡ added ++ rest → values u
    (symbols (suc n) free (length added)) ≡ added
symbols_values n u free [] rest h e = refl
symbols_values n u free (x ∷ xs) rest h e =
    let d = drop_first u free x (xs ++ rest) e in
    ap (λ (y : ℤ). y ∷ values u (symbols (suc n) (free + 1) (length xs))) (symbol_value n free u (omega (arith, h)) ∙ d.0) ∙
    ap (λ (ys : List ℤ). x ∷ ys) (symbols_values n u (free + 1) xs rest (omega (arith, h)) (ap (λ (k : ℕ). drop k u) (add-one free) ∙ d.1))

pub symbols_behind : (u : List ℤ) (free : ℕ) (added rest : List ℤ) → drop free u ≡ added ++ rest → drop (free + length added) u ≡ rest
symbols_behind u free [] rest e = ap (λ (k : ℕ). drop k u) (let n : free + 0 ≡ free = omega arith in n) ∙ e
symbols_behind u free (x ∷ xs) rest e =
    let d = drop_first u free x (xs ++ rest) e in
    ap (λ (k : ℕ). drop k u) (let n : free + length (x ∷ xs) ≡ suc free + length xs = omega arith in n) ∙ symbols_behind u (suc free) xs rest d.1

pub symbols_width : (n free count : ℕ) → AreOfWidth n (symbols n free count)
symbols_width n free zero = tt
symbols_width n free (suc count) = (symbol_width n free, symbols_width n (free + 1) count)

pub all_put : (n : ℕ) (xs : List (List ℤ)) (i : ℕ) (y : List ℤ) → length y ≡ n → AreOfWidth n xs → AreOfWidth n (slice_set xs i y)
all_put n [] i y h w = tt
all_put n (x ∷ xs) zero y h w = (h, w.1)
all_put n (x ∷ xs) (suc i) y h w = (w.0, all_put n xs i y h w.1)

pub all_behind : (n : ℕ) (xs ys : List (List ℤ)) → AreOfWidth n xs → AreOfWidth n ys → AreOfWidth n (xs ++ ys)
all_behind n [] ys w h = h
all_behind n (x ∷ xs) ys w h = (w.0, all_behind n xs ys w.1 h)

pub all_taken : (n k : ℕ) (xs : List (List ℤ)) → AreOfWidth n xs → AreOfWidth n (take k xs)
all_taken n zero xs w = tt
all_taken n (suc k) [] w = tt
all_taken n (suc k) (x ∷ xs) w = (w.0, all_taken n k xs w.1)

-- ---- tests
kind_holds : (kind : ConKind) (z : ℤ) → KindHolds kind z → HoldsWith (is_equality kind) z
kind_holds Ge z h = h
kind_holds Eq z h = h

one_more_holds : (tests : List LinearRow) (g : LinearRow) (u : List ℤ) → Con tests u → Holds g u → Con (tests ++ g ∷ []) u
one_more_holds tests g u h k = λ f m. by f (Contains-append_cases tests (g ∷ []) f m)
  where
    last : (f : LinearRow) → (g ≡ f) ⊎ Contains [] f → Holds f u
    last f (inl e) = subst (λ (x : LinearRow). Holds x u) e k
    last f (inr m) = absurd (contains_none f m)

    by : (f : LinearRow) → Contains tests f ⊎ Contains (g ∷ []) f → Holds f u
    by f (inl m) = h f m
    by f (inr m) = last f (contains_cases g f [] m)

-- ---- paths
-- the rows are of the width, and at the vector they are the store's numbers and the tests hold
pub record Stands (n : ℕ) (u s : List ℤ) (w : SymbolicState) : Type 0 where
  pub widths : AreOfWidth (suc n) w.forms
  pub are : values u w.forms ≡ s
  pub tests : Con w.tests u

-- with these values of the new symbols
abbrev pub GoesOn : List Action → List ℤ → List ℤ → List ℤ → Type 0
GoesOn steps new s t = (n : ℕ) (u : List ℤ) (w x : SymbolicState) → entry u 0 ≡ pos 1 → drop w.free u ≡ new → w.free + new_symbols steps ≤ suc n →
    Stands n u s w →
    executed (suc n) steps w ≡ Ok x →
    Stands n u t x

given_row : (n : ℕ) (u s m : List ℤ) (w : SymbolicState) (i : ℕ) (row : List ℤ) (z : ℤ) → Stands n u s w → length row ≡ suc n → product row u ≡ z →
    m ≡ slice_set s i
    z → Stands n u m (gives w i row)
given_row n u s m w i row z h l e f = record {
  widths = all_put (suc n) w.forms i row l h.widths;
  are = map-set (λ (f : List ℤ). product f u) w.forms i row ∙ ap (λ (xs : List ℤ). slice_set xs i (product row u)) h.are ∙ ap (λ (y : ℤ). slice_set s i y) e ∙
      sym f;
  tests = h.tests;
}

assigned : (i : ℕ) (e : Form) (steps : List Action) (new s m t : List ℤ) → m ≡ slice_set s i (form_value e s) → GoesOn steps new m t → GoesOn
    (assign i e ∷ steps) new s t
assigned i e steps new s m t l k = λ n u w x o d f h a.
    let first = and_ok (executed_action (suc n) (assign i e) w) (λ (next : SymbolicState). executed (suc n) steps next) x a in
    let made = and_ok (composed (suc n) (form_row e) w.forms) (λ (row : List ℤ). Ok (gives w i row)) first.0 first.1 in
    let value = composed_value n e.constant e.coefficients w.forms made.0 u o h.widths made.1 in
    k n u (gives w i made.0) x o d f
    (given_row n u s m w i made.0 (form_value e s) h value.0 (value.1 ∙ ap (λ (ys : List ℤ). e.constant +ℤ product e.coefficients ys) h.are) l)
    (subst (λ (y : SymbolicState). executed (suc n) steps y ≡ Ok x) (sym (ok_is (gives w i made.0) first.0 made.2)) first.2)

forgotten : (i : ℕ) (z : ℤ) (steps : List Action) (new s m t : List ℤ) → m ≡ slice_set s i z → GoesOn steps new m t → GoesOn (forget i ∷ steps) (z ∷ new) s t
forgotten i z steps new s m t l k = λ n u w x o d f h a.
    let p = drop_first u w.free z new d in
    let g : w.free < suc n = omega (arith, f) in
    let made = given_row n u s m w i (symbol (suc n) w.free) z h (symbol_width (suc n) w.free) (symbol_value n w.free u g ∙ p.0) l in
    k n u (record (gives w i (symbol (suc n) w.free)) { free = suc w.free }) x o p.1 (omega (arith, f))
    (record { widths = made.widths; are = made.are; tests = made.tests }) a

tested : (kind : ConKind) (e : Form) (steps : List Action) (new s m t : List ℤ) → KindHolds kind (form_value e s) → m ≡ s → GoesOn steps new m t → GoesOn
    (test kind e ∷ steps) new s t
tested kind e steps new s m t held l k = λ n u w x o d f h a.
    let first = and_ok (executed_action (suc n) (test kind e) w) (λ (next : SymbolicState). executed (suc n) steps next) x a in
    let made = and_ok (composed (suc n) (form_row e) w.forms) (λ (row : List ℤ). Ok (tests_too w (record { row = row; equal = is_equality kind }))) first.0
    first.1 in
    let value = composed_value n e.constant e.coefficients w.forms made.0 u o h.widths made.1 in
    let g : LinearRow = record { row = made.0; equal = is_equality kind } in
    let holds = subst (λ (z : ℤ). HoldsWith (is_equality kind) z) (sym (value.1 ∙ ap (λ (ys : List ℤ). e.constant +ℤ product e.coefficients ys) h.are))
    (kind_holds kind (form_value e s) held) in
    k n u (tests_too w g) x o d f (record { widths = h.widths; are = h.are ∙ sym l; tests = one_more_holds w.tests g u h.tests holds })
    (subst (λ (y : SymbolicState). executed (suc n) steps y ≡ Ok x) (sym (ok_is (tests_too w g) first.0 made.2)) first.2)

embedded : (added : List ℤ) (count : ℕ) (steps : List Action) (new s m t : List ℤ) → length added ≡ count → m ≡ s ++ added → GoesOn steps new m t → GoesOn
    (embed count ∷ steps) (added ++ new) s t
embedded added count steps new s m t c l k = λ n u w x o d f h a.
    let wide : w.free + length added ≤ suc n = omega (arith, c, f) in
    let more = ap (λ (j : ℕ). values u (symbols (suc n) w.free j)) (sym c) ∙ symbols_values n u w.free added new wide d in
    k n u (record w { forms = w.forms ++ symbols (suc n) w.free count; free = w.free + count }) x o
    (ap (λ (j : ℕ). drop (w.free + j) u) (sym c) ∙ symbols_behind u w.free added new d) (omega (arith, f))
    (record {
      widths = all_behind (suc n) w.forms (symbols (suc n) w.free count) h.widths (symbols_width (suc n) w.free count);
      are = map-append (λ (f : List ℤ). product f u) w.forms (symbols (suc n) w.free count) ∙ ap
          (λ (ys : List ℤ). ys ++ values u (symbols (suc n) w.free count)) h.are ∙ ap (λ (ys : List ℤ). s ++ ys) more ∙ sym l;
      tests = h.tests;
    }) a

removed : (count : ℕ) (steps : List Action) (new s m t : List ℤ) → m ≡ take (length s - count) s → GoesOn steps new m t → GoesOn (remove_last count ∷ steps)
    new s t
removed count steps new s m t l k = λ n u w x o d f h a.
    let long = sym (length-map w.forms (λ (f : List ℤ). product f u)) ∙ ap length h.are in
    k n u (record w { forms = take (length w.forms - count) w.forms }) x o d f
    (record {
      widths = all_taken (suc n) (length w.forms - count) w.forms h.widths;
      are = sym (take-map (λ (f : List ℤ). product f u) (length w.forms - count) w.forms) ∙ ap (λ (ys : List ℤ). take (length w.forms - count) ys) h.are ∙ ap
          (λ (j : ℕ). take (j - count) s) long ∙ sym l;
      tests = h.tests;
    }) a

-- the new symbols of a path that leads from the one store to the other, with their values
pub goes_on : (steps : List Action) (s t : List ℤ) → LeadsAll steps s t → (new : List ℤ) × (length new ≡ new_symbols steps) × GoesOn steps new s t
goes_on [] s t e = (
  [],
  refl,
  λ n u w x o d f h a. subst (λ (y : SymbolicState). Stands n u t y) (ok_is w x a) (subst (λ (r : List ℤ). Stands n u r w) (sym e) h),
)
goes_on (assign i e ∷ steps) s t (m, l, r) = let k = goes_on steps m t r in (k.0, k.1, assigned i e steps k.0 s m t l k.2)
goes_on (forget i ∷ steps) s t (m, l, r) = let k = goes_on steps m t r in (l.0 ∷ k.0, ap suc k.1, forgotten i l.0 steps k.0 s m t l.1 k.2)
goes_on (test kind e ∷ steps) s t (m, l, r) = let k = goes_on steps m t r in (k.0, k.1, tested kind e steps k.0 s m t l.0 l.1 k.2)
goes_on (embed count ∷ steps) s t (m, l, r) =
    let k = goes_on steps m t r in
    (l.0 ++ k.0, length-append l.0 k.0 ∙ ap (λ (j : ℕ). j + length k.0) l.1 ∙ ap (λ (j : ℕ). count + j) k.1, embedded l.0 count steps k.0 s m t l.1 l.2 k.2)
goes_on (remove_last count ∷ steps) s t (m, l, r) = let k = goes_on steps m t r in (k.0, k.1, removed count steps k.0 s m t l k.2)
