-- The rows of the polyhedron of all multipliers as they are listed.
use Rattle.std.proofs.Common.{◌≡◌, ℕ, suc, ◌<◌, ◌≤◌, ◌+◌, ℤ, pos, neg_ℤ, Bool, true, false, cond, List, [], ◌∷◌, ◌++◌, length, map, take, drop, get_or, refl, ap, sym, ◌∙◌, arith, append_assoc}
use Rattle.std.proofs.lemmas.List.{take_more, map-append, drop_more, drop_all, append-nil, length-map}
use Rattle.std.proofs.lemmas.List.FromFn.{map-range_with_len_more}
use Rattle.std.specs.List.{range_with_len}
use Rattle.lra_farkas.specs.Crates.lra_linear_spec.Descriptions.{LinearRow, equality, inequality, rows_of}
use Rattle.lra_farkas.specs.Crates.lra_linear_spec.declared.ConKind.TheVariants.{Ge, Eq}
use Rattle.lra_farkas.specs.Crates.{lra_linear_spec.Kinds.is_equality, lra_linear_spec.OperationStrain.unit_row, lra_linear_spec.Vectors.entry, lra_linear_spec.declared.ConKind.ConKind}
use Rattle.lra_systems.specs.LinearSystems.{LinearSystem, constraints, rows_by_kind}
use Rattle.lra_systems.proofs.LinearRows.{constraints_pushed}
use Rattle.lra_farkas.proofs.Crates.lra_description_pair.OwnRows.{rows_of_given}
use Rattle.lra_multipliers.specs.Columns.{first_of}
use Rattle.lra_farkas.specs.MultiplierRows.{balance_row, inequality_columns, multiplier_dims, sign_row, multiplier_rows}
use Rattle.lra_farkas.specs.RowsByKinds.{columns_by_kinds}

-- ---- a list's rows and kinds
columns_given : (column : ℕ) (rows : List (List ℤ)) (kinds : List ConKind) → length kinds ≡ length rows →
    inequality_columns column (rows_by_kind is_equality rows kinds) ≡ columns_by_kinds column kinds
columns_given column [] [] n = refl
columns_given column [] (k ∷ kinds) n = absurd (omega (arith, n))
columns_given column (r ∷ rows) [] n = absurd (omega (arith, n))
columns_given column (r ∷ rows) (k ∷ kinds) n =
    ap (λ (x : List ℕ). cond (is_equality k) x (column ∷ x)) (columns_given (suc column) rows kinds (omega (arith, n)))

-- ---- pushes
-- the entries in a column
pub column_more : (old numbers new : List ℤ) (rows : List (List ℤ)) (j i : ℕ) (row : List ℤ) (z : ℤ) → i < length rows → row ≡ get_or rows i row →
    z ≡ entry row j → numbers ≡ old ++ map (λ r. entry r j) (take i rows) → new ≡ numbers ++ z ∷ [] →
    new ≡ old ++ map (λ r. entry r j) (take (i + 1) rows)
column_more old numbers new rows j i row z h er ez so_far pushed =
    pushed ∙ ap (λ (x : List ℤ). x ++ z ∷ []) so_far ∙ append_assoc old (map (λ r. entry r j) (take i rows)) (z ∷ []) ∙
    ap (λ (x : List ℤ). old ++ x) (
    ap (λ (y : ℤ). map (λ r. entry r j) (take i rows) ++ y ∷ []) ez ∙
    sym (map-append (λ r. entry r j) (take i rows) (row ∷ [])) ∙
    ap (map (λ r. entry r j)) (ap (λ (y : List ℤ). take i rows ++ y ∷ []) er ∙ sym (take_more rows i row h)))

-- the row of a column, number by number
pub balance_made : (first second third row : List ℤ) (rows : List (List ℤ)) (claim : List ℤ) (j : ℕ) (z one : ℤ) → first ≡ z ∷ [] → second ≡ first ++ one ∷ [] →
    third ≡ second ++ map (λ r. entry r j) rows → row ≡ third → z ≡ neg_ℤ (entry claim j) → one ≡ first_of j (pos 1) → row ≡ balance_row rows claim j
balance_made first second third row rows claim j z one e1 e2 e3 is ez eo =
    is ∙ e3 ∙ ap (λ (x : List ℤ). x ++ map (λ r. entry r j) rows) (e2 ∙ ap (λ (x : List ℤ). x ++ one ∷ []) e1) ∙
    ap (λ (x : ℤ). x ∷ one ∷ map (λ r. entry r j) rows) ez ∙ ap (λ (x : ℤ). neg_ℤ (entry claim j) ∷ x ∷ map (λ r. entry r j) rows) eo

pub balance_width : (rows : List (List ℤ)) (claim row : List ℤ) (j : ℕ) → row ≡ balance_row rows claim j → length row ≡ suc (suc (length rows))
balance_width rows claim row j e = ap (λ (x : List ℤ). length x) e ∙ ap (λ (n : ℕ). suc (suc n)) (length-map rows (λ r. entry r j))

-- the equality of a column more
pub balances_more : (rows : List (List ℤ)) (claim row : List ℤ) (old before new : LinearSystem ConKind) (j : ℕ) → length before.kinds ≡ length before.rows →
    new.rows ≡ before.rows ++ row ∷ [] → new.kinds ≡ before.kinds ++ Eq ∷ [] → row ≡ balance_row rows claim j →
    constraints before ≡ constraints old ++ map (λ i. equality (balance_row rows claim i)) (range_with_len 0 j) →
    constraints new ≡ constraints old ++ map (λ i. equality (balance_row rows claim i)) (range_with_len 0 (j + 1))
balances_more rows claim row old before new j n er ek is so_far =
    constraints_pushed before new row Eq n er ek ∙ ap (λ (r : List ℤ). constraints before ++ equality r ∷ []) is ∙
    ap (λ (gs : List LinearRow). gs ++ equality (balance_row rows claim j) ∷ []) so_far ∙
    append_assoc (constraints old) (map (λ i. equality (balance_row rows claim i)) (range_with_len 0 j)) (equality (balance_row rows claim j) ∷ []) ∙
    ap (λ (gs : List LinearRow). constraints old ++ gs)
    (sym (map-range_with_len_more (λ i. equality (balance_row rows claim i)) 0 j j (let e : 0 + j ≡ j = omega arith in e)))

-- a sign more
pub sign_pushed : (old new : LinearSystem ConKind) (row : List ℤ) (n column : ℕ) → length old.kinds ≡ length old.rows → new.rows ≡ old.rows ++ row ∷ [] →
    new.kinds ≡ old.kinds ++ Ge ∷ [] → row ≡ unit_row n column → n ≡ old.dims → constraints new ≡ constraints old ++ sign_row old.dims column ∷ []
sign_pushed old new row n column k er ek is e =
    constraints_pushed old new row Ge k er ek ∙ ap (λ (r : List ℤ). constraints old ++ inequality r ∷ []) (is ∙ ap (λ (m : ℕ). unit_row m column) e)

-- ---- signs, from this place on
abbrev pub signs_from : ℕ → ℕ → List ConKind → List LinearRow
signs_from dims i kinds = map (sign_row dims) (columns_by_kinds (i + 2) (drop i kinds))

signs_here : (dims i : ℕ) (kinds : List ConKind) → i < length kinds →
    signs_from dims i kinds ≡ map (sign_row dims) (cond (is_equality (get_or kinds i Ge)) (columns_by_kinds (suc (i + 2)) (drop (i + 1) kinds))
    ((i + 2) ∷ columns_by_kinds (suc (i + 2)) (drop (i + 1) kinds)))
signs_here dims i kinds h = ap (λ (ks : List ConKind). map (sign_row dims) (columns_by_kinds (i + 2) ks)) (drop_more kinds i Ge h)

pub signs_not : (dims i : ℕ) (kinds : List ConKind) (before all : List LinearRow) → i < length kinds → is_equality (get_or kinds i Ge) ≡ true →
    before ++ signs_from dims i kinds ≡ all → before ++ signs_from dims (i + 1) kinds ≡ all
signs_not dims i kinds before all h e so_far =
    ap (λ (k : ℕ). before ++ map (sign_row dims) (columns_by_kinds k (drop (i + 1) kinds))) (let z : (i + 1) + 2 ≡ suc (i + 2) = omega arith in z) ∙
    ap (λ (b : Bool). before ++ map (sign_row dims) (cond b (columns_by_kinds (suc (i + 2)) (drop (i + 1) kinds))
    ((i + 2) ∷ columns_by_kinds (suc (i + 2)) (drop (i + 1) kinds)))) (sym e) ∙
    ap (λ (gs : List LinearRow). before ++ gs) (sym (signs_here dims i kinds h)) ∙ so_far

pub signs_more : (dims i : ℕ) (kinds : List ConKind) (before after all : List LinearRow) → i < length kinds → is_equality (get_or kinds i Ge) ≡ false →
    after ≡ before ++ sign_row dims (i + 2) ∷ [] → before ++ signs_from dims i kinds ≡ all → after ++ signs_from dims (i + 1) kinds ≡ all
signs_more dims i kinds before after all h e pushed so_far =
    ap (λ (gs : List LinearRow). gs ++ signs_from dims (i + 1) kinds) pushed ∙
    append_assoc before (sign_row dims (i + 2) ∷ []) (signs_from dims (i + 1) kinds) ∙
    ap (λ (k : ℕ). before ++ sign_row dims (i + 2) ∷ map (sign_row dims) (columns_by_kinds k (drop (i + 1) kinds)))
    (let z : (i + 1) + 2 ≡ suc (i + 2) = omega arith in z) ∙
    ap (λ (b : Bool). before ++ map (sign_row dims) (cond b (columns_by_kinds (suc (i + 2)) (drop (i + 1) kinds))
    ((i + 2) ∷ columns_by_kinds (suc (i + 2)) (drop (i + 1) kinds)))) (sym e) ∙
    ap (λ (gs : List LinearRow). before ++ gs) (sym (signs_here dims i kinds h)) ∙ so_far

pub signs_end : (dims i : ℕ) (kinds : List ConKind) (before : List LinearRow) → length kinds ≤ i → before ++ signs_from dims i kinds ≡ before
signs_end dims i kinds before h =
    ap (λ (ks : List ConKind). before ++ map (sign_row dims) (columns_by_kinds (i + 2) ks)) (drop_all i kinds h) ∙ append-nil before

-- ---- all rows
abbrev balances : List (List ℤ) → List ℤ → ℕ → List LinearRow
balances rows claim n = map (λ j. equality (balance_row rows claim j)) (range_with_len 0 n)

pub none_listed : (start : LinearSystem ConKind) → start.rows ≡ [] → constraints start ≡ []
none_listed start e = ap (λ (x : List (List ℤ)). rows_by_kind is_equality x start.kinds) e

pub rows_listed : (premises start first second all : LinearSystem ConKind) (rows : List (List ℤ)) (kinds : List ConKind) (claim : List ℤ) (n : ℕ) →
    start.rows ≡ [] →
    constraints first ≡ constraints start ++ map (λ j. equality (balance_row rows claim j)) (range_with_len 0 n) →
    constraints second ≡ constraints first ++ sign_row first.dims 1 ∷ [] →
    constraints all ≡ constraints second ++ map (sign_row second.dims) (columns_by_kinds 2 kinds) → rows ≡ premises.rows → kinds ≡ premises.kinds →
    length premises.kinds ≡ length premises.rows → first.dims ≡ multiplier_dims (constraints premises) → second.dims ≡ first.dims → n ≡ length claim →
    constraints all ≡ multiplier_rows (constraints premises) claim
rows_listed premises start first second all rows kinds claim n es e f g er ek many d d2 w =
    g ∙ ap (λ (k : ℕ). constraints second ++ map (sign_row k) (columns_by_kinds 2 kinds)) (d2 ∙ d) ∙
    ap (λ (gs : List LinearRow). gs ++ map (sign_row (multiplier_dims (constraints premises))) (columns_by_kinds 2 kinds))
    (f ∙ ap (λ (gs : List LinearRow). gs ++ sign_row first.dims 1 ∷ []) (e ∙ ap (λ (gs : List LinearRow). gs ++ balances rows claim n) (none_listed start es)) ∙
    ap (λ (k : ℕ). balances rows claim n ++ sign_row k 1 ∷ []) d) ∙
    append_assoc (balances rows claim n) (sign_row (multiplier_dims (constraints premises)) 1 ∷ [])
    (map (sign_row (multiplier_dims (constraints premises))) (columns_by_kinds 2 kinds)) ∙
    ap (λ (k : ℕ). balances rows claim k ++ map (sign_row (multiplier_dims (constraints premises))) (1 ∷ columns_by_kinds 2 kinds)) w ∙
    ap (λ (x : List (List ℤ)). balances x claim (length claim) ++ map (sign_row (multiplier_dims (constraints premises))) (1 ∷ columns_by_kinds 2 kinds))
    (er ∙ sym (rows_of_given is_equality premises.rows premises.kinds (sym many))) ∙
    ap (λ (ks : List ℕ). balances (rows_of (constraints premises)) claim (length claim) ++ map (sign_row (multiplier_dims (constraints premises))) (1 ∷ ks))
    (ap (columns_by_kinds 2) ek ∙ sym (columns_given 2 premises.rows premises.kinds many))
