-- The passes over the generators that find the greatest value of a form.
use Rattle.std.proofs.Common.{◌≡◌, ℕ, zero, suc, ◌<◌, ◌≤◌, ◌+◌, ◌*◌, List, [], ◌∷◌, length, get_or, ap, refl, sym, ◌∙◌, subst, ℤ, pos, negsuc, neg_ℤ, ◌+ℤ◌, ◌*ℤ◌, ◌<ℤ◌, ◌≤ℤ◌, arith, Result, Ok, Err}
use Rattle.std.proofs.Common.{IsErr, IsOk, unsigned_abs, int_div, Bool, true, false, cond}
use Rattle.std.proofs.Math.Nat.{mul-div_cancel', dvd_of_mul-dvd-mul_right, mul-dvd-mul_right, one-dvd}
use Rattle.std.proofs.{lemmas.Int.ints, lemmas.Int.unsigned_abs-mul, lemmas.List.get_or_default, lemmas.List.Elements.All-contains, lemmas.Nat.Gcd.dvd_antisymm}
use Rattle.std.specs.{Int.◌∣◌, Int.IsGcd, List.All}
use Rattle.lra_duality.specs.Crates.lra_linear_spec.CheckedArithmetic.{checked_product, checked_product_from}
use Rattle.lra_duality.specs.Crates.lra_systems.LinearSystems.{LinearSystem, generators, rows_by_kind}
use Rattle.lra_duality.specs.Crates.{lra_linear_spec.Descriptions.LinearRow, lra_linear_spec.Kinds.is_line, lra_linear_spec.LowestTerms.IsPrimitive, lra_linear_spec.Range.InRange}
use Rattle.lra_duality.specs.Crates.{lra_linear_spec.Range.in_range, lra_linear_spec.Vectors.entry, lra_linear_spec.Vectors.negated, lra_linear_spec.Vectors.product}
use Rattle.lra_duality.specs.Crates.{lra_linear_spec.declared.Excess.Excess, lra_linear_spec.declared.GenKind.GenKind, lra_linear_spec.declared.GenKind.TheVariants.Point}
use Rattle.lra_duality.proofs.Crates.lra_linear_spec.CheckedArithmetic.{checked_product_value, checked_product_in_range}
use Rattle.lra_duality.proofs.Crates.lra_linear_spec.Ring.{mul_nonnegative, ring, v, ⊖, ◌⊕◌, ◌⊗◌}
use Rattle.lra_duality.proofs.Crates.lra_linear_spec.Signs.{as_nat, cancel_same, divide_nonnegative, positive_is_nonnegative, positive_nat, positive_part, times_positive, difference, in_order}
use Rattle.lra_duality.proofs.Crates.lra_systems.FirstMembers.{front, first_at, one_more, none_yet, all_gone_through}
use Rattle.lra_duality.proofs.Crates.{lra_linear_spec.LowestTerms.signed_quotient_is, lra_linear_spec.Membership.all_from}
use Rattle.lra_row.proofs.{Ratio.apart, RowLemmas.quotient_signed}
use Rattle.lra_duality.specs.Maxima.{OfPoint, IsAtMost, IsBelow, HasValue, IsGreatest, IsMaximum, StaysInRange, DoesNotImprove}
use Rattle.lra_duality.specs.declared.maximum.Maximum.TheVariants.{At}

-- ---- a checked product
pub value_of_ok : (form row : List ℤ) (z : ℤ) → checked_product form row ≡ Ok z → z ≡ product form row
value_of_ok form row z e = checked_product_value form row (Ok z) (sym e)

pub value_in_range : (form row : List ℤ) (z : ℤ) → checked_product form row ≡ Ok z → InRange z
value_in_range form row z e = checked_product_in_range form row (Ok z) (sym e)

pub never_both : {A E : Type 0} (q : Result A E) → IsErr q → IsOk q → ⊥
never_both (Ok x) e o = cc
never_both (Err f) e o = cc

-- ---- members
pub all_weaker : {A : Type 0} (P Q : A → Type 0) (xs : List A) → ((x : A) → P x → Q x) → All P xs → All Q xs
all_weaker P Q xs f h = all_from Q xs (λ x k. f x (All-contains P xs x h k))

-- ---- values at points, compared

apart_below : (a b : ℤ) → pos 0 <ℤ (b +ℤ neg_ℤ a) → a <ℤ b
apart_below a b h = omega (arith, ints, h)

sum_above : (a b : ℤ) → pos 0 ≤ℤ a → pos 0 <ℤ b → pos 0 <ℤ (a +ℤ b)
sum_above a b h k = omega (arith, ints, h, k)

itself_at_most : (a : ℤ) → a ≤ℤ a
itself_at_most a = omega (arith, ints)

below_at_most : (a b : ℤ) → a <ℤ b → a ≤ℤ b
below_at_most a b h = omega (arith, ints, h)

le_step : (k : ℕ) (a b : ℤ) → 0 < k → (pos k *ℤ a) ≤ℤ (pos k *ℤ b) → a ≤ℤ b
le_step k a b p h = in_order a b (divide_nonnegative k (b +ℤ neg_ℤ a) p
    (subst (λ (z : ℤ). pos 0 ≤ℤ z) (ring (v (pos k) ⊗ v b ⊕ ⊖ (v (pos k) ⊗ v a)) (v (pos k) ⊗ (v b ⊕ ⊖ (v a)))
    (omega arith)) (difference (pos k *ℤ a) (pos k *ℤ b) h)))

lt_step : (k : ℕ) (a b : ℤ) → 0 < k → (pos k *ℤ a) <ℤ (pos k *ℤ b) → a <ℤ b
lt_step k a b p h = apart_below a b (positive_part k (b +ℤ neg_ℤ a) ((pos k *ℤ b) +ℤ neg_ℤ (pos k *ℤ a)) p
    (ring (v (pos k) ⊗ (v b ⊕ ⊖ (v a))) (v (pos k) ⊗ v b ⊕ ⊖ (v (pos k) ⊗ v a)) (omega arith))
    (apart (pos k *ℤ a) (pos k *ℤ b) h))

-- px / ex is at most po / eo, and that is below pn / en
below_further : (px ex po eo pn en : ℤ) → pos 0 <ℤ ex → pos 0 <ℤ eo → pos 0 <ℤ en → (px *ℤ eo) ≤ℤ (po *ℤ ex) →
    (po *ℤ en) <ℤ (pn *ℤ eo) → (px *ℤ en) <ℤ (pn *ℤ ex)
below_further px ex po eo pn en hx ho hn h k =
    let n = as_nat eo (positive_is_nonnegative eo ho) in
    let a = (po *ℤ ex) +ℤ neg_ℤ (px *ℤ eo) in
    let b = (pn *ℤ eo) +ℤ neg_ℤ (po *ℤ en) in
    apart_below (px *ℤ en) (pn *ℤ ex) (positive_part n.0 ((pn *ℤ ex) +ℤ neg_ℤ (px *ℤ en)) ((a *ℤ en) +ℤ (b *ℤ ex))
    (positive_nat eo n.0 ho n.1)
    (ap (λ (z : ℤ). z *ℤ ((pn *ℤ ex) +ℤ neg_ℤ (px *ℤ en))) (sym n.1)
    ∙ ring (v eo ⊗ (v pn ⊗ v ex ⊕ ⊖ (v px ⊗ v en))) ((v po ⊗ v ex ⊕ ⊖ (v px ⊗ v eo)) ⊗ v en ⊕
    (v pn ⊗ v eo ⊕ ⊖ (v po ⊗ v en)) ⊗ v ex) (omega arith))
    (sum_above (a *ℤ en) (b *ℤ ex) (mul_nonnegative a en (difference (px *ℤ eo) (po *ℤ ex) h) (positive_is_nonnegative en hn))
    (times_positive b ex (apart (po *ℤ en) (pn *ℤ eo) k) hx)))

-- ---- the best point so far: each point among the first i has at most its value, each before it less
pub record BestOfFront (form : List ℤ) (rows : List (List ℤ)) (kinds : List GenKind) (i best : ℕ) : Type 0 where
  pub inside : best < length rows
  pub point : pos 0 <ℤ entry (get_or rows best []) 0
  pub others : All (OfPoint (IsAtMost form (product form (get_or rows best [])) (entry (get_or rows best []) 0)))
      (front is_line rows kinds i)
  pub before : All (OfPoint (IsBelow form (product form (get_or rows best [])) (entry (get_or rows best []) 0)))
      (front is_line rows kinds best)

pub best_start : (form : List ℤ) (rows : List (List ℤ)) (kinds : List GenKind) → 0 < length rows →
    pos 0 <ℤ entry (get_or rows 0 []) 0 → BestOfFront form rows kinds 0 0
best_start form rows kinds n h = record {
  inside = n;
  point = h;
  others = none_yet (OfPoint (IsAtMost form (product form (get_or rows 0 [])) (entry (get_or rows 0 []) 0))) is_line
      rows kinds;
  before = none_yet (OfPoint (IsBelow form (product form (get_or rows 0 [])) (entry (get_or rows 0 []) 0))) is_line rows
      kinds;
}

pub best_kept : (form : List ℤ) (rows : List (List ℤ)) (kinds : List GenKind) (i best after : ℕ) (r b : List ℤ) →
    length kinds ≡ length rows → i < length rows → r ≡ get_or rows i r →
    b ≡ get_or rows best b → (pos 0 <ℤ entry r 0 → IsAtMost form (product form b) (entry b 0) r) →
    BestOfFront form rows kinds i best → after ≡ best → BestOfFront form rows kinds (i + 1) after
best_kept form rows kinds i best after r b n k e eb most h ea =
    subst (BestOfFront form rows kinds (i + 1)) (sym ea) (record {
      inside = h.inside;
      point = h.point;
      others = one_more (OfPoint (IsAtMost form (product form (get_or rows best [])) (entry (get_or rows best []) 0)))
          is_line rows kinds i r Point n k e h.others
          (λ p. subst (λ (x : List ℤ). IsAtMost form (product form x) (entry x 0) r)
          (eb ∙ get_or_default rows best b [] h.inside) (most p));
      before = h.before;
    })

pub best_taken : (form : List ℤ) (rows : List (List ℤ)) (kinds : List GenKind) (i best after : ℕ) (r b : List ℤ) →
    length kinds ≡ length rows → i < length rows → r ≡ get_or rows i r →
    b ≡ get_or rows best b → pos 0 <ℤ entry r 0 → IsBelow form (product form r) (entry r 0) b →
    BestOfFront form rows kinds i best → after ≡ i → BestOfFront form rows kinds (i + 1) after
best_taken form rows kinds i best after r b n k e eb point above h ea =
    subst (BestOfFront form rows kinds (i + 1)) (sym ea) (record {
      inside = k;
      point = subst (λ (x : List ℤ). pos 0 <ℤ entry x 0) is point;
      others = subst (λ (x : List ℤ). All (OfPoint (IsAtMost form (product form x) (entry x 0)))
          (front is_line rows kinds (i + 1))) is
          (one_more (OfPoint (IsAtMost form (product form r) (entry r 0))) is_line rows kinds i r Point n k e
          (all_weaker (OfPoint (IsBelow form (product form r) (entry r 0)))
          (OfPoint (IsAtMost form (product form r) (entry r 0))) (front is_line rows kinds i)
          (λ g b p. below_at_most (product form g.row *ℤ entry r 0) (product form r *ℤ entry g.row 0) (b p)) less)
          (λ p. itself_at_most (product form r *ℤ entry r 0)));
      before = subst (λ (x : List ℤ). All (OfPoint (IsBelow form (product form x) (entry x 0)))
          (front is_line rows kinds i)) is less;
    })
  where
    is : r ≡ get_or rows i []
    is = e ∙ get_or_default rows i r [] k

    below : IsBelow form (product form r) (entry r 0) (get_or rows best [])
    below = subst (IsBelow form (product form r) (entry r 0)) (eb ∙ get_or_default rows best b [] h.inside) above

    less : All (OfPoint (IsBelow form (product form r) (entry r 0))) (front is_line rows kinds i)
    less = all_weaker (OfPoint (IsAtMost form (product form (get_or rows best [])) (entry (get_or rows best []) 0)))
        (OfPoint (IsBelow form (product form r) (entry r 0))) (front is_line rows kinds i)
        (λ g m p. below_further (product form g.row) (entry g.row 0) (product form (get_or rows best []))
        (entry (get_or rows best []) 0) (product form r) (entry r 0) p h.point point (m p) below) h.others

pub best_found : (form : List ℤ) (list : LinearSystem GenKind) (rows : List (List ℤ)) (i best : ℕ) → rows ≡ list.rows →
    length list.kinds ≡ length rows → length rows ≤ i →
    BestOfFront form rows list.kinds i best → IsGreatest form (generators list)
    (product form (get_or list.rows best [])) (entry (get_or list.rows best []) 0) best
best_found form list rows i best e n k h =
    subst (λ (rs : List (List ℤ)). IsGreatest form (rows_by_kind is_line rs list.kinds) (product form (get_or rs best []))
    (entry (get_or rs best []) 0) best) e (record {
      first = first_at (OfPoint (IsBelow form (product form (get_or rows best [])) (entry (get_or rows best []) 0)))
          (λ g. (pos 0 <ℤ entry g.row 0) × HasValue form (product form (get_or rows best []))
          (entry (get_or rows best []) 0) g.row) is_line rows list.kinds best (get_or rows best []) Point n h.inside
          (get_or_default rows best [] (get_or rows best []) h.inside) h.before (h.point, refl);
      others = all_gone_through (OfPoint (IsAtMost form (product form (get_or rows best []))
          (entry (get_or rows best []) 0))) is_line rows list.kinds i n k h.others;
      positive = h.point;
    })

-- ---- lowest terms
common_positive : (d : ℤ) (g : ℕ) → g ∣ unsigned_abs d → pos 0 <ℤ d → 0 < g
common_positive d zero e h = let z = mul-div_cancel' 0 e in absurd (omega (arith, ints, h, z))
common_positive d (suc g) e h = omega arith

pub common_above : (n d g : ℤ) → IsGcd (unsigned_abs n) (unsigned_abs d) (unsigned_abs g) → pos 0 ≤ℤ g → pos 0 <ℤ d →
    pos 0 <ℤ g
common_above n d (pos g) h p k = let q = common_positive d g h.1 k in omega (arith, ints, q)
common_above n d (negsuc g) h p k = absurd (omega (arith, ints, p))

quotient_times : (x : ℤ) (g : ℕ) → g ∣ unsigned_abs x → pos g *ℤ int_div x (pos g) ≡ x
quotient_times x g d = ap (λ q. pos g *ℤ q) (quotient_signed x g) ∙ signed_quotient_is g x d

-- multiples by one factor
scaled_value : (form : List ℤ) (n d m e : ℤ) (k : ℕ) (x : List ℤ) → 0 < k → pos k *ℤ m ≡ n → pos k *ℤ e ≡ d →
    HasValue form n d x → HasValue form m e x
scaled_value form n d m e k x p em ee h = cancel_same k (product form x *ℤ e) (m *ℤ entry x 0) p (
    ring (v (pos k) ⊗ (v (product form x) ⊗ v e)) (v (product form x) ⊗ (v (pos k) ⊗ v e)) (omega arith) ∙
    ap (λ (z : ℤ). product form x *ℤ z) ee ∙ h ∙ ap (λ (z : ℤ). z *ℤ entry x 0) (sym em) ∙
    ring (v (pos k) ⊗ v m ⊗ v (entry x 0)) (v (pos k) ⊗ (v m ⊗ v (entry x 0))) (omega arith))

left_scaled : (form : List ℤ) (d e : ℤ) (k : ℕ) (x : List ℤ) → pos k *ℤ e ≡ d →
    product form x *ℤ d ≡ pos k *ℤ (product form x *ℤ e)
left_scaled form d e k x ee = ap (λ (z : ℤ). product form x *ℤ z) (sym ee) ∙
    ring (v (product form x) ⊗ (v (pos k) ⊗ v e)) (v (pos k) ⊗ (v (product form x) ⊗ v e)) (omega arith)

right_scaled : (n m : ℤ) (k : ℕ) (x : List ℤ) → pos k *ℤ m ≡ n → n *ℤ entry x 0 ≡ pos k *ℤ (m *ℤ entry x 0)
right_scaled n m k x em = ap (λ (z : ℤ). z *ℤ entry x 0) (sym em) ∙
    ring (v (pos k) ⊗ v m ⊗ v (entry x 0)) (v (pos k) ⊗ (v m ⊗ v (entry x 0))) (omega arith)

scaled_most : (form : List ℤ) (n d m e : ℤ) (k : ℕ) (x : List ℤ) → 0 < k → pos k *ℤ m ≡ n → pos k *ℤ e ≡ d →
    IsAtMost form n d x → IsAtMost form m e x
scaled_most form n d m e k x p em ee h = le_step k (product form x *ℤ e) (m *ℤ entry x 0) p
    (subst (λ (z : ℤ). (pos k *ℤ (product form x *ℤ e)) ≤ℤ z) (right_scaled n m k x em)
    (subst (λ (z : ℤ). z ≤ℤ (n *ℤ entry x 0)) (left_scaled form d e k x ee) h))

scaled_below : (form : List ℤ) (n d m e : ℤ) (k : ℕ) (x : List ℤ) → 0 < k → pos k *ℤ m ≡ n → pos k *ℤ e ≡ d →
    IsBelow form n d x → IsBelow form m e x
scaled_below form n d m e k x p em ee h = lt_step k (product form x *ℤ e) (m *ℤ entry x 0) p
    (subst (λ (z : ℤ). (pos k *ℤ (product form x *ℤ e)) <ℤ z) (right_scaled n m k x em)
    (subst (λ (z : ℤ). z <ℤ (n *ℤ entry x 0)) (left_scaled form d e k x ee) h))

scaled_greatest : (form : List ℤ) (list : List LinearRow) (n d m e : ℤ) (k place : ℕ) → 0 < k → pos k *ℤ m ≡ n →
    pos k *ℤ e ≡ d → IsGreatest form list n d place → IsGreatest form list m e place
scaled_greatest form list n d m e k place p em ee h = record {
  first = record {
    earlier = h.first.earlier;
    member = h.first.member;
    later = h.first.later;
    is = h.first.is;
    at = h.first.at;
    before = all_weaker (OfPoint (IsBelow form n d)) (OfPoint (IsBelow form m e)) h.first.earlier
        (λ g b i. scaled_below form n d m e k g.row p em ee (b i)) h.first.before;
    here = (h.first.here.0, scaled_value form n d m e k h.first.member.row p em ee h.first.here.1);
  };
  others = all_weaker (OfPoint (IsAtMost form n d)) (OfPoint (IsAtMost form m e)) list
      (λ g b i. scaled_most form n d m e k g.row p em ee (b i)) h.others;
  positive = positive_part k e d p ee h.positive;
}

-- the quotients by the greatest common divisor have no common divisor
quotients_primitive : (m e : ℤ) (n d k : ℕ) → 0 < k → unsigned_abs m * k ≡ n → unsigned_abs e * k ≡ d →
    ((c : ℕ) → c ∣ n → c ∣ d → c ∣ k) → IsPrimitive (m ∷ e ∷ [])
quotients_primitive m e n d zero p em ee h c q = absurd (omega (arith, p))
quotients_primitive m e n d (suc k) p em ee h c q =
    dvd_antisymm (dvd_of_mul-dvd-mul_right {k = suc k} c (omega arith) (subst (λ (j : ℕ). (c * suc k) ∣ j) (sym (one k))
    (h (c * suc k) (subst (λ (j : ℕ). (c * suc k) ∣ j) em (mul-dvd-mul_right c (q 0) (suc k)))
    (subst (λ (j : ℕ). (c * suc k) ∣ j) ee (mul-dvd-mul_right c (q 1) (suc k)))))) (one-dvd c)
  where
    one : (k : ℕ) → 1 * suc k ≡ suc k
    one k = omega arith

size : (m n : ℤ) (k : ℕ) → pos k *ℤ m ≡ n → unsigned_abs m * k ≡ unsigned_abs n
size m n k e = let f = sym (unsigned_abs-mul (pos k) m) ∙ ap unsigned_abs e in omega (arith, f)

pub in_lowest_terms : (form : List ℤ) (n d p e g num den : ℤ) (place : ℕ) → n ≡ p → d ≡ e →
    IsGcd (unsigned_abs n) (unsigned_abs d) (unsigned_abs g) → pos 0 <ℤ g → pos 0 <ℤ e →
    num ≡ int_div n g → den ≡ int_div d g → (list : List LinearRow) → IsGreatest form list p e place →
    All (StaysInRange form) list → All (DoesNotImprove form) list →
    IsMaximum form list (At num den place)
in_lowest_terms form n d p e g num den place np de h above k en ed list greatest stays flat = by_sign g h above en ed
  where
    by_sign : (g : ℤ) → IsGcd (unsigned_abs n) (unsigned_abs d) (unsigned_abs g) → pos 0 <ℤ g → num ≡ int_div n g →
        den ≡ int_div d g → IsMaximum form list (At num den place)
    by_sign (negsuc g) h above en ed = absurd (omega (arith, ints, above))
    by_sign (pos g) h above en ed =
        let more : 0 < g = omega (arith, ints, above) in
        let em : pos g *ℤ num ≡ n = ap (λ (z : ℤ). pos g *ℤ z) en ∙ quotient_times n g h.0 in
        let ee : pos g *ℤ den ≡ d = ap (λ (z : ℤ). pos g *ℤ z) ed ∙ quotient_times d g h.1 in (
          stays,
          flat,
          scaled_greatest form list p e num den g place more (em ∙ np) (ee ∙ de) greatest,
          quotients_primitive num den (unsigned_abs n) (unsigned_abs d) g more (size num n g em) (size den d g ee) h.2,
        )

-- ---- as the code states it
pub rows_seen : (P : List LinearRow → Type 0) (list : LinearSystem GenKind) (rows : List (List ℤ)) → rows ≡ list.rows →
    P (generators list) → P (rows_by_kind is_line rows list.kinds)
rows_seen P list rows e h = subst (λ (r : List (List ℤ)). P (rows_by_kind is_line r list.kinds)) (sym e) h

pub both_seen : (P : List LinearRow → Type 0) (list : LinearSystem GenKind) (rows : List (List ℤ)) (kinds : List GenKind) →
    rows ≡ list.rows → kinds ≡ list.kinds → P (generators list) →
    P (rows_by_kind is_line rows kinds)
both_seen P list rows kinds e f h = subst (λ (ks : List GenKind). P (rows_by_kind is_line rows ks)) (sym f)
    (rows_seen P list rows e h)

pub many : (list : LinearSystem GenKind) (rows : List (List ℤ)) (kinds : List GenKind) → rows ≡ list.rows →
    kinds ≡ list.kinds → length kinds ≡ length list.rows → length list.kinds ≡ length rows
many list rows kinds e f n = ap length (sym f) ∙ n ∙ ap length (sym e)

pub seen_rows : (P : List LinearRow → Type 0) (list : LinearSystem GenKind) (rows : List (List ℤ)) → rows ≡ list.rows →
    P (rows_by_kind is_line rows list.kinds) → P (generators list)
seen_rows P list rows e h = subst (λ (r : List (List ℤ)). P (rows_by_kind is_line r list.kinds)) e h

pub row_there : (list : LinearSystem GenKind) (rows : List (List ℤ)) (place : ℕ) (r : List ℤ) → rows ≡ list.rows →
    r ≡ get_or rows place r → place < length list.rows → get_or list.rows place [] ≡ r
row_there list rows place r e er k = get_or_default list.rows place [] r k ∙
    ap (λ (rs : List (List ℤ)). get_or rs place r) (sym e) ∙ sym er

pub greatest_there : (form : List ℤ) (list : List LinearRow) (place : ℕ) (x r : List ℤ) → x ≡ r →
    IsGreatest form list (product form x) (entry x 0) place →
    IsGreatest form list (product form r) (entry r 0) place
greatest_there form list place x r e h = subst (λ (y : List ℤ). IsGreatest form list (product form y) (entry y 0) place)
    e h

-- ---- opposites
-- the range is as far below 0 as above
in_range_turned : (z : ℤ) → in_range (neg_ℤ z) ≡ in_range z
in_range_turned (pos zero) = refl
in_range_turned (pos (suc n)) = refl
in_range_turned (negsuc n) = refl

-- both pass, or the second is the first with its sign turned
abbrev Turned : Result ℤ Excess → Result ℤ Excess → Type 0
Turned (Ok p) (Ok q) = q ≡ neg_ℤ p
Turned (Ok p) (Err f) = ⊥
Turned (Err e) (Ok q) = ⊥
Turned (Err e) (Err f) = Unit {0}

turned_tests : (r q : Result ℤ Excess) (b d : Bool) (e f g h : Excess) → Turned r q → Turned
    (cond {A = Result ℤ Excess} b (cond {A = Result ℤ Excess} d r (Err e)) (Err f))
    (cond {A = Result ℤ Excess} b (cond {A = Result ℤ Excess} d q (Err g)) (Err h))
turned_tests r q true true e f g h t = t
turned_tests r q true false e f g h t = tt
turned_tests r q false d e f g h t = tt

turned_from : (s : ℤ) (xs ys : List ℤ) →
    Turned (checked_product_from s xs ys) (checked_product_from (neg_ℤ s) (negated xs) ys)
turned_from s [] ys = refl
turned_from s (x ∷ xs) [] = refl
turned_from s (x ∷ xs) (y ∷ ys) =
    let m : neg_ℤ x *ℤ y ≡ neg_ℤ (x *ℤ y) = ring (⊖ (v x) ⊗ v y) (⊖ (v x ⊗ v y)) (omega arith) in
    let n : neg_ℤ s +ℤ neg_ℤ (x *ℤ y) ≡ neg_ℤ (s +ℤ (x *ℤ y)) =
    ring (⊖ (v s) ⊕ ⊖ (v x ⊗ v y)) (⊖ (v s ⊕ v x ⊗ v y)) (omega arith) in
    rw (m, n, in_range_turned (x *ℤ y), in_range_turned (s +ℤ (x *ℤ y)))
    (turned_tests (checked_product_from (s +ℤ (x *ℤ y)) xs ys) (checked_product_from (neg_ℤ (s +ℤ (x *ℤ y))) (negated xs) ys)
    (in_range (x *ℤ y)) (in_range (s +ℤ (x *ℤ y))) _ _ _ _ (turned_from (s +ℤ (x *ℤ y)) xs ys))

turned_product : (xs ys : List ℤ) → Turned (checked_product xs ys) (checked_product (negated xs) ys)
turned_product xs ys = turned_from (pos 0) xs ys

ok_turned : (r q : Result ℤ Excess) (p : ℤ) → Turned r q → r ≡ Ok p → q ≡ Ok (neg_ℤ p)
ok_turned (Ok z) (Ok y) p t e =
    let same : z ≡ p = cc in ap (λ (x : ℤ). let r : Result ℤ Excess = Ok x in r) (t ∙ ap neg_ℤ same)
ok_turned (Ok z) (Err f) p t e = absurd t
ok_turned (Err f) q p t e = let wrong : ⊥ = cc in absurd wrong

err_turned : (r q : Result ℤ Excess) → Turned r q → IsErr r → IsErr q
err_turned (Ok z) q t e = let wrong : ⊥ = cc in absurd wrong
err_turned (Err f) (Ok y) t e = absurd t
err_turned (Err f) (Err g) t e = refl

-- a product passes with a row exactly if it does with the row's opposite, and is that with its sign turned
pub opposite_product : (form row : List ℤ) (z : ℤ) → checked_product form row ≡ Ok z →
    checked_product (negated form) row ≡ Ok (neg_ℤ z)
opposite_product form row z e =
    ok_turned (checked_product form row) (checked_product (negated form) row) z (turned_product form row) e

pub opposite_fails : (is_opposite : Bool) (form row : List ℤ) → IsErr (checked_product form row) →
    IsErr (checked_product (cond is_opposite (negated form) form) row)
opposite_fails true form row e =
    err_turned (checked_product form row) (checked_product (negated form) row) (turned_product form row) e
opposite_fails false form row e = e

-- a quotient without a remainder lies in the range with the number
no_less : (m k : ℕ) → 0 < k → m ≤ m * k
no_less m zero h = absurd (omega (arith, h))
no_less m (suc k) h = omega arith

pub quotient_in_range : (z : ℤ) (g : ℤ) (q : ℤ) → InRange z → pos 0 <ℤ g → unsigned_abs g ∣ unsigned_abs z → q ≡ int_div z g → InRange q
quotient_in_range z (pos g) q h above d e =
    let whole = size q z g (ap (λ (x : ℤ). pos g *ℤ x) e ∙ quotient_times z g d) in
    let up = no_less (unsigned_abs q) g (omega (arith, ints, above)) in
    omega (arith, h, whole, up)
quotient_in_range z (negsuc g) q h above d e = let wrong : ⊥ = omega (arith, ints, above) in absurd wrong

pub quotient_above : (z : ℤ) (g : ℤ) (q : ℤ) → pos 0 <ℤ z → pos 0 <ℤ g → unsigned_abs g ∣ unsigned_abs z → q ≡ int_div z g → pos 0 <ℤ q
quotient_above z (pos g) q up above d e =
    positive_part g q z (positive_nat (pos g) g above refl) (ap (λ (x : ℤ). pos g *ℤ x) e ∙ quotient_times z g d) up
quotient_above z (negsuc g) q up above d e = let wrong : ⊥ = omega (arith, ints, above) in absurd wrong
