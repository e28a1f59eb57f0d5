-- Lists of rows with their kinds, gone through place by place: those that pass a test, and how many.
use Rattle.std.proofs.Common.{Bool, List, [], add-one, ap, arith, cond, false, get_or, length, refl, sym, take, true, ℕ, ℤ, ◌+◌, ◌++◌, ◌<◌, ◌∙◌, ◌∷◌, ◌≡◌, ◌≤◌}
use Rattle.std.proofs.{lemmas.List.append_assoc, lemmas.List.length-append, lemmas.List.take_all, lemmas.List.Elements.filter-append}
use Rattle.std.specs.List.{filter}
use Rattle.lra_poly_widening.specs.Crates.lra_linear_spec.Descriptions.{LinearRow}
use Rattle.lra_systems.specs.LinearSystems.{LinearSystem, rows_by_kind}
use Rattle.lra_systems.proofs.FirstMembers.{front, given_more, member}

-- one more place
pub front_step : {K : Type 0} (equal : K → Bool) (rows : List (List ℤ)) (kinds : List K) (i : ℕ) (r : List ℤ) (k : K) → length kinds ≡ length rows → i < length rows → r ≡ get_or rows i r →
    front equal rows kinds (i + 1) ≡ front equal rows kinds i ++ member equal kinds i r k ∷ []
front_step equal rows kinds i r k n h e = ap (front equal rows kinds) (add-one i) ∙ given_more equal rows kinds i r k n h e

-- all places
pub front_all : {K : Type 0} (equal : K → Bool) (rows : List (List ℤ)) (kinds : List K) (i : ℕ) → length kinds ≡ length rows → length rows ≤ i →
    front equal rows kinds i ≡ rows_by_kind equal rows kinds
front_all equal rows kinds i n h = ap (λ l. rows_by_kind equal l (take i kinds)) (take_all i rows h) ∙ ap (rows_by_kind equal rows) (take_all i kinds (omega (arith, n, h)))

-- ---- those that pass a test
pub filter_step : (test : LinearRow → Bool) (xs ys : List LinearRow) (g : LinearRow) → ys ≡ xs ++ g ∷ [] →
    filter test ys ≡ filter test xs ++ cond (test g) (g ∷ []) []
filter_step test xs ys g e = ap (filter test) e ∙ filter-append test xs (g ∷ [])

-- a row that is put after the others if it is wanted
pub kept_step : (test : LinearRow → Bool) (first list more xs ys : List LinearRow) (g : LinearRow) (b : Bool) → ys ≡ xs ++ g ∷ [] → b ≡ test g → list ≡ first ++ filter test xs →
    more ≡ list ++ cond b (g ∷ []) [] →
    more ≡ first ++ filter test ys
kept_step test first list more xs ys g b e t h m =
    m ∙ ap (λ l. l ++ cond b (g ∷ []) []) h ∙ append_assoc first (filter test xs) (cond b (g ∷ []) []) ∙
    ap (λ l. first ++ l) (ap (λ c. filter test xs ++ cond c (g ∷ []) []) t ∙ sym (filter_step test xs ys g e))

pub count_step : (test : LinearRow → Bool) (n m : ℕ) (xs ys : List LinearRow) (g : LinearRow) (b : Bool) → ys ≡ xs ++ g ∷ [] → b ≡ test g → n ≡ length (filter test xs) → m ≡ cond b 1 0 →
    n + m ≡ length (filter test ys)
count_step test n m xs ys g b e t h q =
    ap (λ k. n + k) (q ∙ one b) ∙ ap (λ k. k + length (cond b (g ∷ []) [])) h ∙ sym (length-append (filter test xs) (cond b (g ∷ []) [])) ∙
    ap length (ap (λ c. filter test xs ++ cond c (g ∷ []) []) t ∙ sym (filter_step test xs ys g e))
  where
    one : (c : Bool) → cond c 1 0 ≡ length (cond c (g ∷ []) [])
    one true = refl
    one false = refl

pub count_few : (n m i : ℕ) (b : Bool) → n ≤ i → m ≡ cond b 1 0 → n + m ≤ i + 1
count_few n m i true h e = omega (arith, h, e)
count_few n m i false h e = omega (arith, h, e)

-- all places of a list
pub front_seen : {K : Type 0} (equal : K → Bool) (all : LinearSystem K) (rows : List (List ℤ)) (kinds : List K) (i : ℕ) → rows ≡ all.rows → kinds ≡ all.kinds → length kinds ≡ length all.rows →
    length rows ≤ i →
    front equal rows kinds i ≡ rows_by_kind equal all.rows all.kinds
front_seen equal all rows kinds i er ek n h =
    front_all equal rows kinds i (n ∙ ap length (sym er)) h ∙ ap (λ l. rows_by_kind equal l kinds) er ∙ ap (rows_by_kind equal all.rows) ek
