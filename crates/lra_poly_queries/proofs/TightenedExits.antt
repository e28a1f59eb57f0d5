-- What is made of a constraint by the greatest number that divides its coefficients.
use Rattle.std.proofs.Common.{◌≡◌, ℕ, zero, suc, Bool, List, [], ◌∷◌, ◌++◌, append-nil, length, drop, ap, refl, sym, ◌∙◌, subst, true, false, ◌≢◌, ◌-◌, take, map, get_or, int_div, IsTrue, ◌↔◌, ℤ, pos}
use Rattle.std.proofs.Common.{negsuc, ◌+ℤ◌, ◌*ℤ◌, ◌<ℤ◌, ◌≤ℤ◌, unsigned_abs, arith}
use Rattle.std.proofs.{lemmas.Int.ints, lemmas.List.take_all, lemmas.List.Elements.All-cons, lemmas.List.Elements.All-tail}
use Rattle.std.specs.{Int.int_div_euclid, Int.int_rem_euclid, List.All}
use Rattle.lra_poly_queries.specs.Crates.{lra_linear_spec.Descriptions.equality, lra_linear_spec.Descriptions.inequality, lra_linear_spec.OperationStrain.unit_row, lra_linear_spec.Polyhedra.falsity}
use Rattle.lra_poly_queries.specs.Crates.{lra_linear_spec.Range.InRange, lra_linear_spec.Vectors.negated, lra_linear_spec.Vectors.zeros, lra_row.Rows.IsRowGcd}
use Rattle.lra_poly_queries.proofs.Crates.lra_row.Ratio.{euclid, rem_bounds}
use Rattle.lra_poly_queries.proofs.Crates.lra_row.RowLemmas.{divided, divided_in_range, lowest_divided, lowest_same, divided_times}
use Rattle.lra_poly_queries.proofs.Crates.{lra_linear_spec.Lines.zeros_length, lra_linear_spec.Ring.ring, lra_linear_spec.Ring.v, lra_linear_spec.Ring.◌⊕◌, lra_linear_spec.Ring.◌⊗◌}
use Rattle.lra_poly_queries.specs.Tightened.{IsTightened}
use Rattle.lra_poly_queries.proofs.TightenedRows.{as_it_is, at_least_tightened, equality_tightened, no_store_tightened}

-- ---- the row of -1 >= 0
zeros_negated : (k : ℕ) → negated (zeros k) ≡ zeros k
zeros_negated zero = refl
zeros_negated (suc k) = ap (λ (l : List ℤ). pos 0 ∷ l) (zeros_negated k)

pub opposite_unit : (n : ℕ) → negated (unit_row n 0) ≡ falsity n
opposite_unit n = ap (λ (l : List ℤ). negsuc 0 ∷ l) (zeros_negated n)

-- ---- the quotient
quotient_low : (c d : ℤ) → pos 0 <ℤ d → (int_div_euclid c d *ℤ d) ≤ℤ c
quotient_low c d h = low (int_div_euclid c d *ℤ d) (int_rem_euclid c d) c (euclid c d h) (rem_bounds c d h).0
  where
    low : (a r c : ℤ) → a +ℤ r ≡ c → pos 0 ≤ℤ r → a ≤ℤ c
    low a r c e h = omega (arith, ints, e, h)

quotient_above : (c d : ℤ) → pos 0 <ℤ d → c <ℤ ((int_div_euclid c d +ℤ pos 1) *ℤ d)
quotient_above c d h =
    let q = int_div_euclid c d in
    let spread : (q +ℤ pos 1) *ℤ d ≡ (q *ℤ d) +ℤ d = ring ((v q ⊕ v (pos 1)) ⊗ v d) (v q ⊗ v d ⊕ v d) (omega arith) in
    above (q *ℤ d) (int_rem_euclid c d) c d ((q +ℤ pos 1) *ℤ d) (euclid c d h) (rem_bounds c d h).1 spread
  where
    above : (a r c d b : ℤ) → a +ℤ r ≡ c → r <ℤ d → b ≡ a +ℤ d → c <ℤ b
    above a r c d b e h k = omega (arith, ints, e, h, k)

quotient_exact : (c d : ℤ) → pos 0 <ℤ d → int_rem_euclid c d ≡ pos 0 → int_div_euclid c d *ℤ d ≡ c
quotient_exact c d h e = all (int_div_euclid c d *ℤ d) (int_rem_euclid c d) c (euclid c d h) e
  where
    all : (a r c : ℤ) → a +ℤ r ≡ c → r ≡ pos 0 → a ≡ c
    all a r c e h = omega (arith, ints, e, h)

quotient_below : (c d : ℤ) → pos 0 <ℤ d → ¬ (int_rem_euclid c d ≡ pos 0) → (int_div_euclid c d *ℤ d) <ℤ c
quotient_below c d h n =
    low (int_div_euclid c d *ℤ d) (int_rem_euclid c d) c (euclid c d h) (rem_bounds c d h).0 n
  where
    low : (a r c : ℤ) → a +ℤ r ≡ c → pos 0 ≤ℤ r → ¬ (r ≡ pos 0) → a <ℤ c
    low a (pos zero) c e h n = absurd (n refl)
    low a (pos (suc r)) c e h n = omega (arith, ints, e)
    low a (negsuc r) c e h n = absurd (omega (arith, ints, h))

-- ---- the quotients of the coefficients

-- ---- the exits
rounded : (n : ℕ) (c q d : ℤ) (cs ds : List ℤ) (equal : Bool) → pos 1 <ℤ d → length cs ≡ n →
    IsRowGcd cs (unsigned_abs d) → ds ≡ divided d cs → q ≡ int_div_euclid c d →
    (equal ≡ true → int_rem_euclid c d ≡ pos 0) →
    IsTightened n (record { row = c ∷ cs; equal = equal }) (record { row = q ∷ ds; equal = equal })
rounded n c q (negsuc d) cs ds equal big w g e eq exact = absurd (omega (arith, ints, big))
rounded n c q (pos d) cs ds false big w g e eq exact =
    let l = lowest_divided cs (pos d) g big in
    let some : pos 0 <ℤ pos d = omega (arith, ints, big) in
    subst (λ (t : List ℤ). IsTightened n (inequality (c ∷ cs)) (inequality (q ∷ t))) (sym e)
    (subst (λ (z : ℤ). IsTightened n (inequality (c ∷ cs)) (inequality (z ∷ divided (pos d) cs))) (sym eq)
    (at_least_tightened n c (int_div_euclid c (pos d)) cs (divided (pos d) cs) d (omega (arith, ints, big))
    (l.same_length ∙ w) (divided_times cs d g.divides) (quotient_low c (pos d) some) (quotient_above c (pos d) some) l.lowest))
rounded n c q (pos d) cs ds true big w g e eq exact =
    let l = lowest_divided cs (pos d) g big in
    let some : pos 0 <ℤ pos d = omega (arith, ints, big) in
    subst (λ (t : List ℤ). IsTightened n (equality (c ∷ cs)) (equality (q ∷ t))) (sym e)
    (subst (λ (z : ℤ). IsTightened n (equality (c ∷ cs)) (equality (z ∷ divided (pos d) cs))) (sym eq)
    (equality_tightened n c (int_div_euclid c (pos d)) cs (divided (pos d) cs) d (omega (arith, ints, big))
    (divided_times cs d g.divides) (quotient_exact c (pos d) some (exact refl)) l.lowest))

met_nowhere : (n : ℕ) (c d : ℤ) (cs t : List ℤ) (equal : Bool) → pos 1 <ℤ d → length cs ≡ n →
    IsRowGcd cs (unsigned_abs d) → equal ≡ true → ¬ (int_rem_euclid c d ≡ pos 0) → t ≡ falsity n →
    IsTightened n (record { row = c ∷ cs; equal = equal }) (inequality t)
met_nowhere n c (negsuc d) cs t equal big w g k fails e = absurd (omega (arith, ints, big))
met_nowhere n c (pos d) cs t equal big w g k fails e =
    let some : pos 0 <ℤ pos d = omega (arith, ints, big) in
    subst (λ (r : List ℤ). IsTightened n (record { row = c ∷ cs; equal = equal }) (inequality r)) (sym e)
    (subst (λ (b : Bool). IsTightened n (record { row = c ∷ cs; equal = b }) (inequality (falsity n))) (sym k)
    (no_store_tightened n c (int_div_euclid c (pos d)) cs (divided (pos d) cs) d (omega (arith, ints, big))
    (divided_times cs d g.divides) (quotient_below c (pos d) some fails) (quotient_above c (pos d) some)))

tight_already : (n : ℕ) (c d : ℤ) (cs t : List ℤ) (equal : Bool) → IsRowGcd cs (unsigned_abs d) → pos 0 ≤ℤ d →
    ¬ (pos 1 <ℤ d) → t ≡ c ∷ cs →
    IsTightened n (record { row = c ∷ cs; equal = equal }) (record { row = t; equal = equal })
tight_already n c d cs t equal g low small e =
    subst (λ (r : List ℤ). IsTightened n (record { row = c ∷ cs; equal = equal }) (record { row = r; equal = equal }))
    (sym e) (as_it_is n (record { row = c ∷ cs; equal = equal }) (lowest_same cs d g low small).lowest)

-- ---- the same of a row whose first number is apart
pub rest_is : (l : List ℤ) → take (length l - 1) (drop 1 l) ≡ drop 1 l
rest_is [] = refl
rest_is (c ∷ cs) = take_all (suc (length cs) - 1) cs (omega arith)

pub row_tight : (n : ℕ) (row l t : List ℤ) (d : ℤ) (equal : Bool) → l ≡ row → length row ≡ suc n →
    IsRowGcd (take (length l - 1) (drop 1 l)) (unsigned_abs d) → pos 0 ≤ℤ d → ¬ (pos 1 <ℤ d) → t ≡ row →
    IsTightened n (record { row = row; equal = equal }) (record { row = t; equal = equal })
row_tight n row [] t d equal er w g low small e = absurd (let k = ap length er in omega (arith, w, k))
row_tight n row (c ∷ cs) t d equal er w g low small e =
    subst (λ (r : List ℤ). IsTightened n (record { row = r; equal = equal }) (record { row = t; equal = equal })) er
    (tight_already n c d cs t equal (subst (λ (r : List ℤ). IsRowGcd r (unsigned_abs d)) (rest_is (c ∷ cs)) g) low small
    (e ∙ sym er))

pub row_rounded : (n : ℕ) (row l t : List ℤ) (d : ℤ) (equal : Bool) → l ≡ row → length row ≡ suc n →
    IsRowGcd (take (length l - 1) (drop 1 l)) (unsigned_abs d) → pos 1 <ℤ d →
    (equal ≡ true → int_rem_euclid (get_or l 0 (pos 0)) d ≡ pos 0) →
    t ≡ int_div_euclid (get_or l 0 (pos 0)) d ∷ map (λ z. int_div z d) (take (length l - 1) (drop 1 l)) →
    IsTightened n (record { row = row; equal = equal }) (record { row = t; equal = equal })
row_rounded n row [] t d equal er w g big exact e = absurd (let k = ap length er in omega (arith, w, k))
row_rounded n row (c ∷ cs) t d equal er w g big exact e =
    let rest = rest_is (c ∷ cs) in
    let wide : length cs ≡ n = let k = ap length er in omega (arith, w, k) in
    subst (λ (r : List ℤ). IsTightened n (record { row = r; equal = equal }) (record { row = t; equal = equal })) er
    (subst (λ (r : List ℤ). IsTightened n (record { row = c ∷ cs; equal = equal }) (record { row = r; equal = equal }))
    (sym e)
    (rounded n c (int_div_euclid c d) d cs (map (λ z. int_div z d) (take (length (c ∷ cs) - 1) cs)) equal big wide
    (subst (λ (r : List ℤ). IsRowGcd r (unsigned_abs d)) rest g) (ap (divided d) rest) refl exact))

pub row_nowhere : (n : ℕ) (row l t : List ℤ) (d : ℤ) (equal : Bool) → l ≡ row → length row ≡ suc n →
    IsRowGcd (take (length l - 1) (drop 1 l)) (unsigned_abs d) → pos 1 <ℤ d → equal ≡ true →
    ¬ (int_rem_euclid (get_or l 0 (pos 0)) d ≡ pos 0) → t ≡ falsity n →
    IsTightened n (record { row = row; equal = equal }) (record { row = t; equal = false })
row_nowhere n row [] t d equal er w g big k fails e = absurd (let s = ap length er in omega (arith, w, s))
row_nowhere n row (c ∷ cs) t d equal er w g big k fails e =
    let wide : length cs ≡ n = let s = ap length er in omega (arith, w, s) in
    subst (λ (r : List ℤ). IsTightened n (record { row = r; equal = equal }) (inequality t)) er
    (met_nowhere n c d cs t equal big wide (subst (λ (r : List ℤ). IsRowGcd r (unsigned_abs d)) (rest_is (c ∷ cs)) g) k
    fails e)

pub exact_else : (b e : Bool) (r : ℤ) → b ≡ false → (IsTrue b ↔ ((e ≡ true) × (r ≢ pos 0))) → e ≡ true → r ≡ pos 0
exact_else b e (pos zero) f h k = refl
exact_else b e (pos (suc r)) f h k = absurd (let z : false ≡ true = sym f ∙ h.1 (k, λ s. omega (arith, ints, s)) in cc)
exact_else b e (negsuc r) f h k = absurd (let z : false ≡ true = sym f ∙ h.1 (k, λ s. omega (arith, ints, s)) in cc)

pub falsity_width : (n : ℕ) (t : List ℤ) → t ≡ falsity n → length t ≡ suc n
falsity_width n t e = ap length e ∙ ap suc (zeros_length n)

pub rest_in_range : (l : List ℤ) → All InRange l → All InRange (take (length l - 1) (drop 1 l))
rest_in_range [] h = h
rest_in_range (c ∷ cs) h = subst (All InRange) (sym (rest_is (c ∷ cs))) (All-tail InRange c cs h)

pub behind_in_range : (items others : List ℤ) (first d : ℤ) → pos 1 <ℤ d → InRange first → All InRange others →
    items ≡ first ∷ divided d others → All InRange items
behind_in_range items others first d big f h e = subst (All InRange) (sym e)
    (All-cons InRange first (divided d others) f (divided_in_range others d big h))

pub behind_done : (items slice left others : List ℤ) (first d f e : ℤ) → f ≡ first → e ≡ d → slice ≡ items →
    length left ≡ 0 → items ++ divided e left ≡ f ∷ divided e others → slice ≡ first ∷ divided d others
behind_done items slice [] others first d f e ef ed es z h =
    es ∙ sym (append-nil items) ∙ h ∙ ap (λ (x : ℤ). x ∷ divided e others) ef ∙
    ap (λ (x : ℤ). first ∷ divided x others) ed
behind_done items slice (x ∷ left) others first d f e ef ed es z h = absurd (omega (arith, z))
