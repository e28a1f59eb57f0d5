-- Constraints that hold in the range, and which generators they saturate, place by place.
use Rattle.std.proofs.Common.{Bool, Err, List, Ok, Result, [], ap, arith, cond, false, get_or, length, map, not, pos, refl, suc, sym, take, true, zero, ℕ, ℤ, ◌+◌, ◌<◌, ◌∙◌, ◌++◌, ◌∷◌, ◌≡◌, ◌≢◌}
use Rattle.std.proofs.lemmas.Bool.{and_parts}
use Rattle.std.specs.{Bool.beq, List.filter, List.list_all, List.list_any, Ordering.int_eq, Prelude.◌&&◌, Prelude.◌||◌, Prelude.slice_index_or}
use Rattle.lra_poly_widening.specs.Crates.{lra_bits.TruthValues.value_at, lra_duality.Saturations.saturated, lra_linear_spec.CheckedArithmetic.checked_product, lra_linear_spec.Descriptions.LinearRow}
use Rattle.lra_poly_widening.specs.Crates.{lra_linear_spec.Polyhedra.Polyhedron, lra_linear_spec.Vectors.product, lra_linear_spec.Widening.holds_with, lra_linear_spec.Widening.is_tight_as}
use Rattle.lra_poly_widening.specs.Crates.lra_linear_spec.declared.Excess as E
use Rattle.lra_poly_widening.proofs.Crates.lra_linear_spec.CheckedArithmetic.{checked_product_value}
use Rattle.lra_systems.specs.LinearSystems.{rows_by_kind}
use Rattle.lra_systems.proofs.FirstMembers.{front, member}
use Rattle.lra_poly_widening.specs.{Rank.fits, Rank.held_thresholds, Rank.holds_in_range, Rank.is_free, Saturated.is_zero, Saturated.same_values, Saturated.vanishes}
use Rattle.lra_poly_widening.proofs.{Loops.front_step, TightLists.same_saturate}

-- ---- products in the range
zero_alike : (r g : List ℤ) → fits (checked_product r g) ≡ true → vanishes r g ≡ int_eq (product r g) (pos 0)
zero_alike r g h = by_result (checked_product r g) refl h
  where
    by_result : (x : Result ℤ E.Excess) → x ≡ checked_product r g → fits x ≡ true → is_zero x ≡ int_eq (product r g) (pos 0)
    by_result (Ok z) e h = ap (λ y. int_eq y (pos 0)) (checked_product_value r g (Ok z) e)
    by_result (Err f) e h = let wrong : ⊥ = cc in absurd wrong

vanish_alike : (generators : List LinearRow) (r : LinearRow) → list_all (λ g. fits (checked_product r.row g.row) && holds_with r g) generators ≡ true →
    map (λ (g : LinearRow). vanishes r.row g.row) generators ≡ saturated generators r.row
vanish_alike [] r h = refl
vanish_alike (g ∷ generators) r h =
    let all = and_parts (fits (checked_product r.row g.row) && holds_with r g) (list_all (λ k. fits (checked_product r.row k.row) && holds_with r k) generators) h in
    let here = and_parts (fits (checked_product r.row g.row)) (holds_with r g) all.0 in
    ap (λ b. b ∷ map (λ (k : LinearRow). vanishes r.row k.row) generators) (zero_alike r.row g.row here.0) ∙
    ap (λ l. int_eq (product r.row g.row) (pos 0) ∷ l) (vanish_alike generators r all.1)

-- one holds in the range and saturates what the values say exactly if its products vanish so
pub holds_alike : (p : Polyhedron) (r : LinearRow) (bits : List Bool) (a h : Bool) → a ≡ same_values bits (map (λ (g : LinearRow). vanishes r.row g.row) p.generators) → h ≡ holds_in_range p r →
    (a && h) ≡ (holds_in_range p r && same_values bits (saturated p.generators r.row))
holds_alike p r bits a true e f =
    as_first a ∙ e ∙ ap (same_values bits) (vanish_alike p.generators r (sym f)) ∙ ap (λ b. b && same_values bits (saturated p.generators r.row)) f
  where
    as_first : (a : Bool) → (a && true) ≡ a
    as_first true = refl
    as_first false = refl
holds_alike p r bits a false e f = never a ∙ ap (λ b. b && same_values bits (saturated p.generators r.row)) f
  where
    never : (a : Bool) → (a && false) ≡ false
    never true = refl
    never false = refl

pub holds_there : (p : Polyhedron) (r : LinearRow) (bits : List Bool) (a h : Bool) → a ≡ true → a ≡ same_values bits (map (λ (g : LinearRow). vanishes r.row g.row) p.generators) →
    h ≡ holds_in_range p r →
    h ≡ (holds_in_range p r && same_values bits (saturated p.generators r.row))
holds_there p r bits a h t e f = sym (ap (λ b. b && h) t) ∙ holds_alike p r bits a h e f

pub holds_elsewhere : (p : Polyhedron) (r : LinearRow) (bits : List Bool) (a : Bool) → a ≡ false → a ≡ same_values bits (map (λ (g : LinearRow). vanishes r.row g.row) p.generators) →
    false ≡ (holds_in_range p r && same_values bits (saturated p.generators r.row))
holds_elsewhere p r bits a t e = sym (ap (λ b. b && holds_in_range p r) t) ∙ holds_alike p r bits a (holds_in_range p r) e refl

-- ---- place by place
pub agree_all : {K : Type 0} (equal : K → Bool) (f : List ℤ → Bool) (rows : List (List ℤ)) (kinds : List K) (bits : List Bool) → length kinds ≡ length rows →
    ((j : ℕ) → j < length rows → value_at bits j ≡ f (get_or rows j [])) →
    true ≡ same_values bits (map (λ (g : LinearRow). f g.row) (rows_by_kind equal rows kinds))
agree_all equal f rows kinds [] n h = refl
agree_all equal f [] kinds (b ∷ bits) n h = refl
agree_all equal f (x ∷ rows) [] (b ∷ bits) n h = absurd (omega (arith, n))
agree_all equal f (x ∷ rows) (k ∷ kinds) (b ∷ bits) n h =
    agree_all equal f rows kinds bits (omega (arith, n)) (λ j m. h (suc j) (omega (arith, m))) ∙
    ap (λ c. c && same_values bits (map (λ (g : LinearRow). f g.row) (rows_by_kind equal rows kinds))) (one_value b (f x) (h 0 (omega arith)))
  where
    one_value : (b c : Bool) → b ≡ c → true ≡ beq b c
    one_value true true e = refl
    one_value false false e = refl
    one_value true false e = cc
    one_value false true e = cc

pub differ_at : {K : Type 0} (equal : K → Bool) (f : List ℤ → Bool) (rows : List (List ℤ)) (kinds : List K) (bits : List Bool) (i : ℕ) → length kinds ≡ length rows → length bits ≡ length rows →
    i < length rows → value_at bits i ≢ f (get_or rows i []) → false ≡ same_values bits (map (λ (g : LinearRow). f g.row) (rows_by_kind equal rows kinds))
differ_at equal f [] kinds bits i n l m h = absurd (omega (arith, m))
differ_at equal f (x ∷ rows) [] bits i n l m h = absurd (omega (arith, n))
differ_at equal f (x ∷ rows) (k ∷ kinds) [] i n l m h = absurd (omega (arith, l))
differ_at equal f (x ∷ rows) (k ∷ kinds) (b ∷ bits) zero n l m h =
    ap (λ c. c && same_values bits (map (λ (g : LinearRow). f g.row) (rows_by_kind equal rows kinds))) (two_values b (f x) h)
  where
    two_values : (b c : Bool) → b ≢ c → false ≡ beq b c
    two_values true true e = absurd (e refl)
    two_values false false e = absurd (e refl)
    two_values true false e = refl
    two_values false true e = refl
differ_at equal f (x ∷ rows) (k ∷ kinds) (b ∷ bits) (suc i) n l m h =
    never (beq b (f x)) ∙ ap (λ c. beq b (f x) && c) (differ_at equal f rows kinds bits i (omega (arith, n)) (omega (arith, l)) (omega (arith, m)) h)
  where
    never : (a : Bool) → false ≡ (a && false)
    never true = refl
    never false = refl

-- the values in the matrix at the place of a row
pub bits_at : {K : Type 0} (equal : K → Bool) (generators : List LinearRow) (rows : List (List ℤ)) (kinds : List K) (i : ℕ) (r : List ℤ) → length kinds ≡ length rows → i < length rows →
    r ≡ get_or rows i r → slice_index_or (map (λ (s : LinearRow). saturated generators s.row) (rows_by_kind equal rows kinds)) i [] ≡ saturated generators r
bits_at equal generators [] kinds i r n m e = absurd (omega (arith, m))
bits_at equal generators (x ∷ rows) [] i r n m e = absurd (omega (arith, n))
bits_at equal generators (x ∷ rows) (k ∷ kinds) zero r n m e = ap (saturated generators) (sym e)
bits_at equal generators (x ∷ rows) (k ∷ kinds) (suc i) r n m e = bits_at equal generators rows kinds i r (omega (arith, n)) (omega (arith, m)) e

-- two values that are distinguished
pub unequal : (a b : Bool) → not (beq a b) ≡ true → a ≢ b
unequal true true h e = cc
unequal false false h e = cc
unequal true false h e = cc
unequal false true h e = cc

-- the rows before a place, and the one there
take_given : {K : Type 0} (equal : K → Bool) (rows : List (List ℤ)) (kinds : List K) (i : ℕ) → take i (rows_by_kind equal rows kinds) ≡ front equal rows kinds i
take_given equal rows kinds zero = refl
take_given equal [] kinds (suc i) = refl
take_given equal (x ∷ rows) [] (suc i) = refl
take_given equal (x ∷ rows) (k ∷ kinds) (suc i) =
    ap (λ (l : List LinearRow). (let g : LinearRow = record { row = x; equal = equal k } in g) ∷ l) (take_given equal rows kinds i)

pub row_more : {K : Type 0} (equal : K → Bool) (own : List LinearRow) (rows : List (List ℤ)) (kinds : List K) (i : ℕ) (r : List ℤ) (k : K) → own ≡ rows_by_kind equal rows kinds →
    length kinds ≡ length rows → i < length rows → r ≡ get_or rows i r → take (i + 1) own ≡ take i own ++ member equal kinds i r k ∷ []
row_more equal own rows kinds i r k e n m is =
    ap (take (i + 1)) e ∙ take_given equal rows kinds (i + 1) ∙ front_step equal rows kinds i r k n m is ∙
    ap (λ l. l ++ member equal kinds i r k ∷ []) (sym (ap (take i) e ∙ take_given equal rows kinds i))

-- ---- one of some
any_alike : (s t : LinearRow → Bool) (xs : List LinearRow) → ((g : LinearRow) → s g ≡ t g) → list_any s xs ≡ list_any t xs
any_alike s t [] h = refl
any_alike s t (g ∷ xs) h = ap (λ b. b || list_any s xs) (h g) ∙ ap (λ b. t g || b) (any_alike s t xs h)

-- some of those that pass a test pass another one if some of all pass both
any_filtered : (t s : LinearRow → Bool) (xs : List LinearRow) → list_any s (filter t xs) ≡ list_any (λ x. t x && s x) xs
any_filtered t s [] = refl
any_filtered t s (x ∷ xs) = by_test (t x) (any_filtered t s xs)
  where
    by_test : (b : Bool) → list_any s (filter t xs) ≡ list_any (λ y. t y && s y) xs →
        list_any s (cond b (x ∷ filter t xs) (filter t xs)) ≡ ((b && s x) || list_any (λ y. t y && s y) xs)
    by_test true i = ap (λ c. s x || c) i
    by_test false i = i

-- none of the first ones, and not the next
pub none_more : (t : LinearRow → Bool) (xs ys : List LinearRow) (g : LinearRow) (b : Bool) → ys ≡ xs ++ g ∷ [] → b ≡ t g → b ≡ false → list_any t xs ≡ false → list_any t ys ≡ false
none_more t xs ys g b e is fails h = ap (list_any t) e ∙ behind xs h
  where
    by_test : (l : List LinearRow) (c : Bool) → (c || list_any t l) ≡ false → (list_any t l ≡ false → list_any t (l ++ g ∷ []) ≡ false) → (c || list_any t (l ++ g ∷ [])) ≡ false
    by_test l true i rest = cc
    by_test l false i rest = rest i

    behind : (l : List LinearRow) → list_any t l ≡ false → list_any t (l ++ g ∷ []) ≡ false
    behind [] i = ap (λ c. c || false) (sym is ∙ fails)
    behind (x ∷ l) i = by_test l (t x) i (λ j. behind l j)

-- ---- inequalities that none of the given stands for
pub free_by_bits : (p : Polyhedron) (r : LinearRow) (bits : List Bool) (given : List LinearRow) (equal : Bool) → bits ≡ saturated p.generators r.row →
    equal ≡ r.equal →
    (not equal && not (list_any (λ g. holds_in_range p g && same_values bits (saturated p.generators g.row)) given)) ≡ is_free p (held_thresholds p given) r
free_by_bits p r bits given equal e q =
    ap (λ b. not b && not (list_any (λ g. holds_in_range p g && same_values bits (saturated p.generators g.row)) given)) q ∙
    ap (λ b. not r.equal && not b) (
    any_alike (λ g. holds_in_range p g && same_values bits (saturated p.generators g.row)) (λ g. holds_in_range p g && is_tight_as p.generators r g) given
    (λ g. ap (λ b. holds_in_range p g && b) (ap (λ l. same_values l (saturated p.generators g.row)) e ∙ same_saturate p.generators r g)) ∙
    sym (any_filtered (holds_in_range p) (is_tight_as p.generators r) given))
