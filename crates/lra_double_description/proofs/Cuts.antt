-- The step without a line across, as the code goes through it: places of pairs, marks and the matrix.
use Rattle.std.proofs.Common.{◌≡◌, ℕ, suc, ◌+◌, ◌<◌, Bool, true, false, not, List, [], ◌∷◌, ◌++◌, length, get_or, map, replicate, refl, ap, sym, ◌∙◌, subst, arith, pos, ℤ, ◌<ℤ◌, inl, inr}
use Rattle.std.proofs.lemmas.List.{length-map, get_or_past, length-append, length-replicate}
use Rattle.std.proofs.{lemmas.Bool.cases_lt, lemmas.Int.ints, lemmas.List.Elements.Contains-get_or}
use Rattle.std.specs.{List.All, Ordering.int_eq}
use Rattle.lra_bits.specs.Matrix.{Matrix, unmarked}
use Rattle.lra_double_description.specs.{Pairs.ArePairs, Pairs.cut_matrix, Pairs.pair_tight_rows, Steps.is_inside, Steps.outside_marks, Steps.lengthened_rows, declared.pairs.Pair.Pair}
use Rattle.lra_double_description.proofs.PairLists.{tight_width}

-- ---- places
pub above_inside : (xs : List ℤ) (i : ℕ) → pos 0 <ℤ get_or xs i (pos 0) → i < length xs
above_inside xs i h = elim (cases_lt i (length xs)) [ inl l ↦ l | inr g ↦ absurd (never (get_or xs i (pos 0)) (get_or_past xs i (pos 0) g) h) ]
  where
    never : (z : ℤ) → z ≡ pos 0 → pos 0 <ℤ z → ⊥
    never z e h = omega (arith, ints, e, h)

pub below_inside : (xs : List ℤ) (i : ℕ) → get_or xs i (pos 0) <ℤ pos 0 → i < length xs
below_inside xs i h = elim (cases_lt i (length xs)) [ inl l ↦ l | inr g ↦ absurd (never (get_or xs i (pos 0)) (get_or_past xs i (pos 0) g) h) ]
  where
    never : (z : ℤ) → z ≡ pos 0 → z <ℤ pos 0 → ⊥
    never z e h = omega (arith, ints, e, h)

-- ---- what the code asks of the pairs
pub pairs_up : (products : List ℤ) (rows : List (List Bool)) (n : ℕ) (pairs list : List Pair) → list ≡ pairs → length products ≡ n → ArePairs products rows
    (length products) 0 pairs →
    All (λ p. p.up < n) list
pairs_up products rows n pairs list e l a =
    subst (All (λ p. p.up < n)) (sym e) (λ i d h. omega (
      arith,
      l,
      above_inside products (get_or pairs i d).up
          (a.each (get_or pairs i d) (Contains-get_or pairs i d h)).above,
    ))

pub pairs_down : (products : List ℤ) (rows : List (List Bool)) (n : ℕ) (pairs list : List Pair) → list ≡ pairs → length products ≡ n → ArePairs products rows
    (length products) 0 pairs →
    All (λ p. p.down < n) list
pairs_down products rows n pairs list e l a =
    subst (All (λ p. p.down < n)) (sym e) (λ i d h. omega (
      arith,
      l,
      below_inside products (get_or pairs i d).down
          (a.each (get_or pairs i d) (Contains-get_or pairs i d h)).below,
    ))

pub pairs_tight : (products : List ℤ) (m : Matrix) (pairs list : List Pair) → list ≡ pairs → length products ≡ length m.rows → All (λ r. length r ≡ m.width)
    m.rows →
    ArePairs products m.rows (length products) 0 pairs → All (λ p. length p.tight ≡ m.width) list
pairs_tight products m pairs list e l equal a =
    subst (All (λ p. length p.tight ≡ m.width)) (sym e) (λ i d h.
    let p = get_or pairs i d in
    let x = a.each p (Contains-get_or pairs i d h) in
    let hu : p.up < length m.rows = omega (arith, l, above_inside products p.up x.above) in
    let hd : p.down < length m.rows = omega (arith, l, below_inside products p.down x.below) in
    tight_width m.width (get_or m.rows p.up []) (get_or m.rows p.down []) p.tight (equal p.up [] hu) (equal p.down [] hd) x.is_tight)

-- ---- the matrix with the rows of the pairs
lengthened_append : (xs ys : List (List Bool)) (us vs : List Bool) → length us ≡ length xs → lengthened_rows (xs ++ ys) (us ++ vs) ≡ lengthened_rows xs us ++
    lengthened_rows ys vs
lengthened_append [] ys [] vs e = refl
lengthened_append [] ys (a ∷ us) vs e = absurd (omega (arith, e))
lengthened_append (x ∷ xs) ys [] vs e = absurd (omega (arith, e))
lengthened_append (x ∷ xs) ys (a ∷ us) vs e = ap (λ (l : List (List Bool)). (x ++ a ∷ []) ∷ l) (lengthened_append xs ys us vs (omega (arith, e)))

pairs_lengthened : (pairs : List Pair) → lengthened_rows (map (λ (p : Pair). p.tight) pairs) (replicate (length pairs) true) ≡ pair_tight_rows pairs
pairs_lengthened [] = refl
pairs_lengthened (p ∷ pairs) = ap (λ (l : List (List Bool)). (p.tight ++ true ∷ []) ∷ l) (pairs_lengthened pairs)

many_rows : (m more : Matrix) (pairs : List Pair) → more ≡ record { width = m.width; rows = map (λ (p : Pair). p.tight) pairs } → length (m.rows ++ more.rows)
    ≡ length m.rows + length pairs
many_rows m more pairs e =
    length-append m.rows more.rows ∙ ap (λ (n : ℕ). length m.rows + n) (ap (λ (x : Matrix). length x.rows) e ∙ length-map pairs (λ (p : Pair). p.tight))

-- a value for each of the rays and pairs
pub tight_many : (m more : Matrix) (products : List ℤ) (pairs : List Pair) (tight : List Bool) → length products ≡ length m.rows →
    tight ≡ map (λ p. int_eq p (pos 0)) products ++ replicate (length pairs) true → more ≡ record { width = m.width; rows = map (λ (p : Pair). p.tight) pairs }
    →
    length tight ≡ length (m.rows ++ more.rows)
tight_many m more products pairs tight e et em =
    let marks = map (λ p. int_eq p (pos 0)) products in
    let a = length-append marks (replicate (length pairs) true) in
    let b = length-map products (λ p. int_eq p (pos 0)) in
    let d = length-replicate (length pairs) true in
    let n = many_rows m more pairs em in
    let t = ap length et in
    omega (arith, a, b, d, n, t, e)

-- and a mark
pub marks_many : (equal : Bool) (m more : Matrix) (products : List ℤ) (pairs : List Pair) (gone : List Bool) → length products ≡ length m.rows →
    gone ≡ outside_marks equal products ++ replicate (length pairs) false → more ≡ record { width = m.width; rows = map (λ (p : Pair). p.tight) pairs } →
    length gone ≡ length (m.rows ++ more.rows)
marks_many equal m more products pairs gone e eg em =
    let a = length-append (outside_marks equal products) (replicate (length pairs) false) in
    let b = length-map products (λ p. not (is_inside equal p)) in
    let d = length-replicate (length pairs) false in
    let n = many_rows m more pairs em in
    let g = ap length eg in
    omega (arith, a, b, d, n, g, e)

pub exchanged_matrix : (m more new : Matrix) (products : List ℤ) (pairs : List Pair) (gone tight : List Bool) → length products ≡ length m.rows →
    tight ≡ map (λ p. int_eq p (pos 0)) products ++ replicate (length pairs) true → more ≡ record { width = m.width; rows = map (λ (p : Pair). p.tight) pairs }
    →
    new ≡ record { width = suc m.width; rows = unmarked gone (lengthened_rows (m.rows ++ more.rows) tight) } → new ≡ cut_matrix m products pairs gone
exchanged_matrix m more new products pairs gone tight e et em en =
    let marks = map (λ p. int_eq p (pos 0)) products in
    en ∙ ap (λ (l : List (List Bool)). (let x : Matrix = record { width = suc m.width; rows = unmarked gone l } in x))
    (ap (λ (x : Matrix). lengthened_rows (m.rows ++ x.rows) tight) em ∙ ap (lengthened_rows (m.rows ++ map (λ (p : Pair). p.tight) pairs)) et ∙
    lengthened_append m.rows (map (λ (p : Pair). p.tight) pairs) marks (replicate (length pairs) true) (length-map products (λ p. int_eq p (pos 0)) ∙ e) ∙
    ap (λ (l : List (List Bool)). lengthened_rows m.rows marks ++ l) (pairs_lengthened pairs))
