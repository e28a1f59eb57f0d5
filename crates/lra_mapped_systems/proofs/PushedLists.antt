-- Generators taken to a list one by one: directions, and lines along new dimensions.
use Rattle.std.proofs.Common.{◌≡◌, ℕ, zero, suc, ◌<◌, ◌≤◌, ◌+◌, Bool, true, List, [], ◌∷◌, ◌++◌, append_assoc, add-one, length, map, take, get_or, ap, refl, sym, ◌∙◌, subst, ℤ, pos, arith}
use Rattle.std.proofs.{Math.Seq.take-suc, lemmas.List.length-append, lemmas.List.map-append, lemmas.List.take_all}
use Rattle.std.specs.Prelude.{slice_set}
use Rattle.lra_mapped_systems.specs.Crates.lra_linear_spec.Descriptions.{LinearRow, rows_as, line}
use Rattle.lra_mapped_systems.specs.Crates.lra_linear_spec.Vectors.{behind_zero, cleared, units, zeros}
use Rattle.lra_mapped_systems.specs.Crates.{lra_linear_spec.Kinds.is_line, lra_linear_spec.OperationStrain.as_directions, lra_linear_spec.OperationStrain.unit_row}
use Rattle.lra_mapped_systems.specs.Crates.{lra_linear_spec.declared.GenKind.GenKind, lra_linear_spec.declared.GenKind.TheVariants.Line, lra_linear_spec.declared.GenKind.TheVariants.Point}
use Rattle.lra_mapped_systems.proofs.Crates.{lra_descriptions.SeveralKinds.fit_append, lra_descriptions.SeveralKinds.given_append, lra_linear_spec.Lines.zeros_length}
use Rattle.lra_systems.specs.LinearSystems.{FitKinds, FitsKind, LinearSystem, generators, rows_by_kind}
use Rattle.lra_systems.proofs.FirstMembers.{front, given_more, member}

-- ---- one more
pub many_more : {A B : Type 0} (xs more : List A) (ys also : List B) (x : A) (y : B) → length xs ≡ length ys →
    more ≡ xs ++ x ∷ [] → also ≡ ys ++ y ∷ [] → length more ≡ length also
many_more xs more ys also x y n em ea = ap length em ∙ length-append xs (x ∷ []) ∙ ap (λ (k : ℕ). k + 1) n ∙
    sym (length-append ys (y ∷ [])) ∙ sym (ap length ea)

pub fit_more : (rows more : List (List ℤ)) (kinds also : List GenKind) (r : List ℤ) (k : GenKind) →
    length rows ≡ length kinds → FitKinds rows kinds → FitsKind k r → more ≡ rows ++ r ∷ [] →
    also ≡ kinds ++ k ∷ [] → FitKinds more also
fit_more rows more kinds also r k n h f em ea =
    subst (λ (l : List (List ℤ)). FitKinds l also) (sym em)
    (subst (FitKinds (rows ++ r ∷ [])) (sym ea) (fit_append rows (r ∷ []) kinds (k ∷ []) n h (f, tt)))

given_pushed : (all more : LinearSystem GenKind) (r : List ℤ) (k : GenKind) → length all.rows ≡ length all.kinds →
    more.rows ≡ all.rows ++ r ∷ [] → more.kinds ≡ all.kinds ++ k ∷ [] →
    generators more ≡ generators all ++ record { row = r; equal = is_line k } ∷ []
given_pushed all more r k n er ek =
    ap (λ (l : List (List ℤ)). rows_by_kind is_line l more.kinds) er ∙ ap (rows_by_kind is_line (all.rows ++ r ∷ [])) ek ∙
    given_append is_line all.rows (r ∷ []) all.kinds (k ∷ []) n

-- ---- directions
pub direction_added : (base : List LinearRow) (all more : LinearSystem GenKind) (rows : List (List ℤ)) (kinds : List GenKind)
    (i : ℕ) (r t : List ℤ) (k : GenKind) →
    generators all ≡ base ++ as_directions (front is_line rows kinds i) → length all.rows ≡ length all.kinds →
    more.rows ≡ all.rows ++ t ∷ [] → more.kinds ≡ all.kinds ++ k ∷ [] → t ≡ cleared 0 r →
    is_line k ≡ is_line (get_or kinds i Point) → length kinds ≡ length rows → i < length rows → r ≡ get_or rows i r →
    generators more ≡ base ++ as_directions (front is_line rows kinds (i + 1))
direction_added base all more rows kinds i r t k ea n er ek et el m h e =
    given_pushed all more t k n er ek
    ∙ ap (λ (l : List LinearRow). l ++ record { row = t; equal = is_line k } ∷ []) ea
    ∙ append_assoc base (as_directions (front is_line rows kinds i)) (record { row = t; equal = is_line k } ∷ [])
    ∙ ap (λ (x : List ℤ). base ++ (as_directions (front is_line rows kinds i) ++
    (let g : LinearRow = record { row = x; equal = is_line k } in g) ∷ [])) et
    ∙ ap (λ (b : Bool). base ++ (as_directions (front is_line rows kinds i) ++
    (let g : LinearRow = record { row = cleared 0 r; equal = b } in g) ∷ [])) el
    ∙ ap (λ (l : List LinearRow). base ++ l) (sym (map-append
    (λ (g : LinearRow). (let d : LinearRow = record { row = cleared 0 g.row; equal = g.equal } in d))
    (front is_line rows kinds i) (member is_line kinds i r Point ∷ [])))
    ∙ ap (λ (l : List LinearRow). base ++ as_directions l) (sym (given_more is_line rows kinds i r Point m h e))
    ∙ ap (λ (j : ℕ). base ++ as_directions (front is_line rows kinds j)) (sym (add-one i))

-- ---- zeros after a row
zeros_next : (n : ℕ) → zeros n ++ pos 0 ∷ [] ≡ zeros (suc n)
zeros_next zero = refl
zeros_next (suc n) = ap (λ (l : List ℤ). pos 0 ∷ l) (zeros_next n)

pub zero_pushed : (row all more : List ℤ) (i : ℕ) → all ≡ row ++ zeros i → more ≡ all ++ pos 0 ∷ [] →
    more ≡ row ++ zeros (i + 1)
zero_pushed row all more i ea em =
    em ∙ ap (λ (l : List ℤ). l ++ pos 0 ∷ []) ea ∙ append_assoc row (zeros i) (pos 0 ∷ []) ∙
    ap (λ (l : List ℤ). row ++ l) (zeros_next i) ∙ ap (λ (j : ℕ). row ++ zeros j) (sym (add-one i))

pub longer_length : (r t : List ℤ) (k n : ℕ) → t ≡ r ++ zeros k → length r ≡ suc n → length t ≡ suc (n + k)
longer_length r t k n e h =
    let s = ap length e ∙ length-append r (zeros k) in let z = zeros_length k in omega (arith, s, z, h)

-- ---- lines along new dimensions
set_behind : (w k i m j : ℕ) (z : ℤ) → m ≡ w + k → j ≡ w + i →
    slice_set (zeros m) j z ≡ zeros w ++ slice_set (zeros k) i z
set_behind zero k i m j z em ej =
    let e : m ≡ k = omega (arith, em) in
    let f : j ≡ i = omega (arith, ej) in
    ap (λ (n : ℕ). slice_set (zeros n) j z) e ∙ ap (λ (n : ℕ). slice_set (zeros k) n z) f
set_behind (suc w) k i zero j z em ej = absurd (omega (arith, em))
set_behind (suc w) k i (suc m) zero z em ej = absurd (omega (arith, ej))
set_behind (suc w) k i (suc m) (suc j) z em ej = ap (λ (l : List ℤ). pos 0 ∷ l)
    (set_behind w k i m j z (omega (arith, em)) (omega (arith, ej)))

behind_count : (rows : List (List ℤ)) → length (behind_zero rows) ≡ length rows
behind_count [] = refl
behind_count (r ∷ rows) = ap suc (behind_count rows)

units_count : (k : ℕ) → length (units k) ≡ k
units_count zero = refl
units_count (suc k) = ap suc (behind_count (units k) ∙ units_count k)

behind_at : (rows : List (List ℤ)) (i : ℕ) → i < length rows → get_or (behind_zero rows) i [] ≡ pos 0 ∷ get_or rows i []
behind_at [] i h = absurd (omega (arith, h))
behind_at (r ∷ rows) zero h = refl
behind_at (r ∷ rows) (suc i) h = behind_at rows i (omega (arith, h))

unit_at : (k i : ℕ) → i < k → get_or (units k) i [] ≡ slice_set (zeros k) i (pos 1)
unit_at zero i h = absurd (omega (arith, h))
unit_at (suc k) zero h = refl
unit_at (suc k) (suc i) h = let n = units_count k in behind_at (units k) i (omega (arith, h, n)) ∙
    ap (λ (l : List ℤ). pos 0 ∷ l) (unit_at k i (omega (arith, h)))

new_unit : (n k i m j : ℕ) → i < k → m ≡ n + k → j ≡ suc n + i → unit_row m j ≡ zeros (suc n) ++ get_or (units k) i []
new_unit n k i m j h em ej = set_behind (suc n) k i (suc m) j (pos 1) (omega (arith, em)) ej ∙
    ap (λ (l : List ℤ). zeros (suc n) ++ l) (sym (unit_at k i h))

given_as_joined : (b : Bool) (xs ys : List (List ℤ)) → rows_as b (xs ++ ys) ≡ rows_as b xs ++ rows_as b ys
given_as_joined b [] ys = refl
given_as_joined b (x ∷ xs) ys = ap (λ (l : List LinearRow). (let g : LinearRow = record { row = x; equal = b } in g) ∷ l)
    (given_as_joined b xs ys)

pub line_pushed : (base : List LinearRow) (all more : LinearSystem GenKind) (n k i m j : ℕ) (row : List ℤ) →
    generators all ≡ base ++ rows_as true (map (λ u. zeros (suc n) ++ u) (take i (units k))) →
    length all.rows ≡ length all.kinds → more.rows ≡ all.rows ++ row ∷ [] → more.kinds ≡ all.kinds ++ Line ∷ [] →
    row ≡ unit_row m j → m ≡ n + k → j ≡ suc n + i → i < k →
    generators more ≡ base ++ rows_as true (map (λ u. zeros (suc n) ++ u) (take (i + 1) (units k)))
line_pushed base all more n k i m j row ea c er ek e em ej h =
    let f : List ℤ → List ℤ = λ u. zeros (suc n) ++ u in
    let count = units_count k in
    given_pushed all more row Line c er ek
    ∙ ap (λ (l : List LinearRow). l ++ line row ∷ []) ea
    ∙ append_assoc base (rows_as true (map f (take i (units k)))) (line row ∷ [])
    ∙ ap (λ (x : List ℤ). base ++ (rows_as true (map f (take i (units k))) ++ line x ∷ []))
    (e ∙ new_unit n k i m j h em ej)
    ∙ ap (λ (l : List LinearRow). base ++ l) (sym (given_as_joined true (map f (take i (units k)))
    (f (get_or (units k) i []) ∷ [])))
    ∙ ap (λ (l : List (List ℤ)). base ++ rows_as true l)
    (sym (map-append f (take i (units k)) (get_or (units k) i [] ∷ [])))
    ∙ ap (λ (l : List (List ℤ)). base ++ rows_as true (map f l))
    (sym (take-suc (units k) i [] (omega (arith, h, count))))
    ∙ ap (λ (s : ℕ). base ++ rows_as true (map f (take s (units k)))) (sym (add-one i))

pub all_lines : (base : List LinearRow) (all : LinearSystem GenKind) (n k i : ℕ) →
    generators all ≡ base ++ rows_as true (map (λ u. zeros (suc n) ++ u) (take i (units k))) → k ≤ i →
    generators all ≡ base ++ rows_as true (map (λ u. zeros (suc n) ++ u) (units k))
all_lines base all n k i e h = let count = units_count k in e ∙
    ap (λ (l : List (List ℤ)). base ++ rows_as true (map (λ u. zeros (suc n) ++ u) l))
    (take_all i (units k) (omega (arith, h, count)))
