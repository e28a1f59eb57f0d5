-- If the tightest of some rows hold, all of them do; so the widening that is limited by these is that which is limited by all.
use Rattle.std.proofs.Common.{◌≡◌, ◌≢◌, ◌∙◌, ◌<◌, ◌≤◌, ℕ, zero, suc, ℤ, pos, ◌+ℤ◌, ◌*ℤ◌, Bool, true, false, not, cond, List, [], ◌∷◌, length, inl, inr, refl, sym, ap, subst, arith}
use Rattle.std.proofs.lemmas.Bool.{and_from, not_from_false, not-true}
use Rattle.std.proofs.{lemmas.Bool.and_parts, lemmas.Int.ints}
use Rattle.std.specs.Prelude.{◌&&◌, ◌||◌, ◌≤ℤ◌, ◌<ℤ◌, int_lt, negsuc}
use Rattle.std.specs.{Cmp.Lexicographic.pointwise, Cmp.Rules.signed_items, List.Contains, List.filter, List.list_any, Ordering.int_eq}
use Rattle.lra_poly_widening.specs.Crates.lra_linear_spec.Descriptions.{Con, LinearRow, Holds, HoldsWith}
use Rattle.lra_poly_widening.specs.Crates.lra_linear_spec.Points.{IsPoint, IsWithin, SameSet}
use Rattle.lra_poly_widening.specs.Crates.lra_linear_spec.Polyhedra.{HasPoint, IsPolyhedron, Polyhedron}
use Rattle.lra_poly_widening.specs.Crates.{lra_linear_spec.Kinds.is_equality, lra_linear_spec.OperationStrain.LimitedStrains, lra_linear_spec.OperationStrain.valid_on, lra_linear_spec.Vectors.dot}
use Rattle.lra_poly_widening.specs.Crates.{lra_linear_spec.Vectors.entry, lra_linear_spec.Vectors.product, lra_linear_spec.Widening.LimitedWidening, lra_linear_spec.Widening.is_valid}
use Rattle.lra_poly_widening.specs.Crates.{lra_linear_spec.declared.ConKind.ConKind, lra_linear_spec.declared.ConKind.TheVariants.Ge, lra_linear_spec.declared.ConKind.TheVariants.Eq}
use Rattle.lra_systems.specs.LinearSystems.{LinearSystem, constraints, rows_by_kind}
use Rattle.lra_poly_widening.proofs.Crates.lra_linear_spec.Membership.{contains_cases, contains_none, filter_from, filter_has}
use Rattle.lra_poly_widening.proofs.Crates.lra_linear_spec.Ring.{mul_nonnegative, ring, v, ◌⊕◌, ◌⊗◌}
use Rattle.lra_poly_widening.proofs.Crates.{lra_linear_spec.Descriptions.holds_at_least, lra_linear_spec.Signs.add_nonnegative, lra_linear_spec.Widening.valid_decides}
use Rattle.lra_poly.specs.Outcomes.{Becomes, IfExact, IfFlagged}
use Rattle.lra_poly.specs.{declared.outcome.Outcome.Outcome, declared.outcome.Outcome.TheVariants.Exact, declared.outcome.Outcome.TheVariants.Flagged}
use Rattle.lra_poly.proofs.PolyLemmas.{becomes_same}
use Rattle.lra_poly_widening.specs.Tightest.{TightestStrains, TightestTell, is_loose, is_lower, is_tighter, tightest}
use Rattle.lra_poly_widening.specs.{Rank.Falls, Rank.kept_thresholds, Widenings.HaveColumns, Widenings.IsLimitedWidening, Widenings.PassesOnBoth}
use Rattle.lra_poly_widening.proofs.WideningLemmas.{around_point, limited_empty, passes_widening}
use Rattle.lra_poly_widening.proofs.{SomeMember.any_said, Counting.holds_valid, Counting.kept_at, RankLaw.rank_falls}

-- ---- lower rows
less_said : (c d : ℤ) → int_lt c d ≡ true → c <ℤ d
less_said c d e = grind (arith, ints)

less_shown : (c d : ℤ) → c <ℤ d → int_lt c d ≡ true
less_shown c d e = grind (arith, ints)

-- a row and a lower one
pub record IsLower (xs ys : List ℤ) : Type 0 where
  pub low : ℤ
  pub high : ℤ
  pub coefficients : List ℤ
  pub first : xs ≡ low ∷ coefficients
  pub second : ys ≡ high ∷ coefficients
  pub less : low <ℤ high

lower_said : (xs ys : List ℤ) → is_lower xs ys ≡ true → IsLower xs ys
lower_said [] ys h = cc
lower_said (c ∷ cs) [] h = cc
lower_said (c ∷ cs) (d ∷ ds) h =
    let b = and_parts (int_lt c d) (pointwise int_eq cs ds) h in
    let same : cs ≡ ds = (signed_items cs ds).0 b.1 in
    record { low = c; high = d; coefficients = cs; first = refl; second = ap (λ zs. d ∷ zs) (sym same); less = less_said c d b.0 }

lower_shown : (xs ys : List ℤ) → IsLower xs ys → is_lower xs ys ≡ true
lower_shown xs ys l =
    rw (l.first, l.second, less_shown l.low l.high l.less) ((signed_items l.coefficients l.coefficients).1 refl)

-- ---- whole numbers
apart : (c d : ℤ) → c <ℤ d → pos 0 ≤ℤ (d +ℤ (negsuc 0 *ℤ c))
apart c d e = grind (arith, ints)

above : (z : ℤ) → pos 0 <ℤ z → pos 0 ≤ℤ z
above z e = grind (arith, ints)

chain : (x y z : ℤ) → x <ℤ y → y <ℤ z → x <ℤ z
chain x y z e f = grind (arith, ints)

between : (x y : ℤ) → x <ℤ y → x ≡ y → ⊥
between x y e f = grind (arith, ints)

from_zero : (z : ℤ) → z ≡ pos 0 → pos 0 ≤ℤ z
from_zero z e = grind (arith, ints)

-- d is c and what is between
with_room : (d c e r : ℤ) → pos 0 ≤ℤ ((d +ℤ (negsuc 0 *ℤ c)) *ℤ e) → pos 0 ≤ℤ ((c *ℤ e) +ℤ r) → pos 0 ≤ℤ ((d *ℤ e) +ℤ r)
with_room d c e r a b =
    let same : ((d +ℤ (negsuc 0 *ℤ c)) *ℤ e) +ℤ ((c *ℤ e) +ℤ r) ≡ (d *ℤ e) +ℤ r =
    ring (((v d ⊕ v (negsuc 0) ⊗ v c) ⊗ v e) ⊕ ((v c ⊗ v e) ⊕ v r)) ((v d ⊗ v e) ⊕ v r) (omega arith) in
    subst (λ (z : ℤ). pos 0 ≤ℤ z) same (add_nonnegative ((d +ℤ (negsuc 0 *ℤ c)) *ℤ e) ((c *ℤ e) +ℤ r) a b)

-- if the lower row has a value at least 0, the other one has
lower_holds : (n : ℕ) (xs ys x : List ℤ) → IsPoint n x → IsLower xs ys → pos 0 ≤ℤ product xs x → pos 0 ≤ℤ product ys x
lower_holds n xs ys x point l h =
    let rest = dot l.coefficients (λ j. entry x (suc j)) in
    let here : pos 0 ≤ℤ ((l.low *ℤ entry x 0) +ℤ rest) = subst (λ (zs : List ℤ). pos 0 ≤ℤ product zs x) l.first h in
    let room = mul_nonnegative (l.high +ℤ (negsuc 0 *ℤ l.low)) (entry x 0) (apart l.low l.high l.less) (above (entry x 0) point.divisor) in
    subst (λ (zs : List ℤ). pos 0 ≤ℤ product zs x) (sym l.second) (with_room l.high l.low (entry x 0) rest room here)

-- ---- tighter rows
tighter_parts : (s r : LinearRow) → is_tighter s r ≡ true → (r.equal ≡ false) × (is_lower s.row r.row ≡ true)
tighter_parts s r h =
    let b = and_parts (not r.equal) (is_lower s.row r.row) h in (not-true r.equal b.0, b.1)

lower_through : (xs ys zs : List ℤ) → IsLower xs ys → IsLower ys zs → IsLower xs zs
lower_through xs ys zs a b =
    let same : a.high ∷ a.coefficients ≡ b.low ∷ b.coefficients = sym a.second ∙ b.first in
    let middle : a.high ≡ b.low = head_same same in
    let rest : a.coefficients ≡ b.coefficients = tail_same same in
    record {
      low = a.low;
      high = b.high;
      coefficients = a.coefficients;
      first = a.first;
      second = b.second ∙ ap (λ cs. b.high ∷ cs) (sym rest);
      less = chain a.low a.high b.high a.less (subst (λ (z : ℤ). z <ℤ b.high) (sym middle) b.less);
    }
  where
    head_same : {x y : ℤ} {xs ys : List ℤ} → x ∷ xs ≡ y ∷ ys → x ≡ y
    head_same e = cc

    tail_same : {x y : ℤ} {xs ys : List ℤ} → x ∷ xs ≡ y ∷ ys → xs ≡ ys
    tail_same e = cc

tighter_through : (t s r : LinearRow) → is_tighter t s ≡ true → is_tighter s r ≡ true → is_tighter t r ≡ true
tighter_through t s r a b =
    let (unequal, low) = tighter_parts s r b in
    let (other, lower) = tighter_parts t s a in
    let whole = lower_shown t.row r.row (lower_through t.row s.row r.row (lower_said t.row s.row lower) (lower_said s.row r.row low)) in
    rw (unequal, whole) refl

heads : {x y : ℤ} {xs ys : List ℤ} → x ∷ xs ≡ y ∷ ys → x ≡ y
heads e = cc

-- no row is tighter than itself
never_itself : (r : LinearRow) → is_tighter r r ≡ false
never_itself r = by_value (is_tighter r r) refl
  where
    by_value : (b : Bool) → is_tighter r r ≡ b → is_tighter r r ≡ false
    by_value false e = e
    by_value true e =
        let l = lower_said r.row r.row (tighter_parts r r e).1 in
        let same : l.low ∷ l.coefficients ≡ l.high ∷ l.coefficients = sym l.first ∙ l.second in
        let wrong : ⊥ = between l.low l.high l.less (heads same) in
        absurd wrong

-- if the tighter row holds at a point, the other one does
tighter_holds : (n : ℕ) (s r : LinearRow) (x : List ℤ) → IsPoint n x → is_tighter s r ≡ true → Holds s x → Holds r x
tighter_holds n s r x point h holds =
    let (unequal, low) = tighter_parts s r h in
    let least : pos 0 ≤ℤ product s.row x = holds_at_least s.equal (product s.row x) holds in
    subst (λ b. HoldsWith b (product r.row x)) (sym unequal) (lower_holds n s.row r.row x point (lower_said s.row r.row low) least)

-- ---- fewer rows are tighter than a tighter one
no_more : {A : Type 0} (t u : A → Bool) (xs : List A) → ((x : A) → t x ≡ true → u x ≡ true) → length (filter t xs) ≤ length (filter u xs)
no_more t u [] f = omega arith
no_more {A} t u (x ∷ xs) f = by_tests (t x) (u x) refl refl (no_more t u xs f)
  where
    by_tests : (a b : Bool) → t x ≡ a → u x ≡ b → length (filter t xs) ≤ length (filter u xs) →
        length (cond a (x ∷ filter t xs) (filter t xs)) ≤ length (cond b (x ∷ filter u xs) (filter u xs))
    by_tests true true e g i = omega (arith, i)
    by_tests true false e g i = let wrong : false ≡ true = sym g ∙ f x e in absurd (cc)
    by_tests false true e g i = omega (arith, i)
    by_tests false false e g i = i

fewer : {A : Type 0} (t u : A → Bool) (xs : List A) (y : A) → ((x : A) → t x ≡ true → u x ≡ true) → Contains xs y → t y ≡ false → u y ≡ true
    → length (filter t xs) < length (filter u xs)
fewer t u [] y f k a b = absurd (contains_none y k)
fewer {A} t u (x ∷ xs) y f k a b = elim (contains_cases x y xs k) [
  | inl e ↦ first (subst (λ z. t z ≡ false) (sym e) a) (subst (λ z. u z ≡ true) (sym e) b)
  | inr d ↦ later (t x) (u x) refl refl (fewer t u xs y f d a b)
]
  where
    first : t x ≡ false → u x ≡ true → length (filter t (x ∷ xs)) < length (filter u (x ∷ xs))
    first e g = let few = no_more t u xs f in rw (e, g) (omega (arith, few))

    later : (p q : Bool) → t x ≡ p → u x ≡ q → length (filter t xs) < length (filter u xs) →
        length (cond p (x ∷ filter t xs) (filter t xs)) < length (cond q (x ∷ filter u xs) (filter u xs))
    later true true e g i = omega (arith, i)
    later true false e g i = let wrong : false ≡ true = sym g ∙ f x e in absurd (cc)
    later false true e g i = omega (arith, i)
    later false false e g i = i

-- ---- of the rows the tightest

module _ (n : ℕ) (rows : List LinearRow) (x : List ℤ) (point : IsPoint n x) (all : Con (tightest rows) x) where
  -- a row that is loose holds if each tighter one does
  by_tighter : (r : LinearRow) → Contains rows r
      → ((s : LinearRow) → Contains rows s → length (filter (λ t. is_tighter t s) rows) < length (filter (λ t. is_tighter t r) rows) → Holds s x) → Holds r x
  by_tighter r has others = by_value (is_loose rows r) refl
    where
      by_value : (b : Bool) → is_loose rows r ≡ b → Holds r x
      by_value false e = all r (filter_has (λ t. not (is_loose rows t)) rows r has (not_from_false (is_loose rows r) e))
      by_value true e =
          let (s, among, tighter) = any_said (λ s. is_tighter s r) rows e in
          let less = fewer (λ t. is_tighter t s) (λ t. is_tighter t r) rows s (λ t h. tighter_through t s r h tighter) among (never_itself s) tighter in
          tighter_holds n s r x point tighter (others s among less)

  -- a row than which fewer than so many are tighter
  holds_below : (k : ℕ) (r : LinearRow) → Contains rows r → length (filter (λ s. is_tighter s r) rows) < k → Holds r x
  holds_below zero r has few = absurd (omega (arith, few))
  holds_below (suc k) r has few = by_tighter r has (λ s among less. holds_below k s among (omega (arith, less, few)))

pub tightest_tell : TightestTell
tightest_tell n rows x point all r has = holds_below n rows x point all (suc (length (filter (λ s. is_tighter s r) rows))) r has (omega arith)

-- ---- loose rows, given by the rows of a list alone
and_none : (a : Bool) → (a && false) ≡ false
and_none true = refl
and_none false = refl

both_or : (a b c : Bool) → ((a && b) || (a && c)) ≡ (a && (b || c))
both_or true b c = refl
both_or false b c = refl

any_given : (r : LinearRow) (rows : List (List ℤ)) (kinds : List ConKind) → length kinds ≡ length rows
    → list_any (λ s. is_tighter s r) (rows_by_kind is_equality rows kinds) ≡ (not r.equal && list_any (λ xs. is_lower xs r.row) rows)
any_given r [] kinds n = sym (and_none (not r.equal))
any_given r (xs ∷ rows) [] n = let wrong : ⊥ = cc in absurd wrong
any_given r (xs ∷ rows) (k ∷ kinds) n =
    let same : length kinds ≡ length rows = omega (arith, n) in
    ap (λ (b : Bool). (not r.equal && is_lower xs r.row) || b) (any_given r rows kinds same) ∙ both_or (not r.equal) (is_lower xs r.row) (list_any (λ ys. is_lower ys r.row) rows)

abbrev constraint_of : List ℤ → ConKind → LinearRow
constraint_of row kind = record { row = row; equal = is_equality kind }

-- an equality is never loose
pub loose_never : (list : LinearSystem ConKind) (row : List ℤ) (kind : ConKind) → length list.kinds ≡ length list.rows → kind ≡ Eq → false ≡ is_loose (constraints list) (constraint_of row kind)
loose_never list row kind n is =
    subst (λ (k : ConKind). false ≡ is_loose (constraints list) (constraint_of row k)) (sym is) (sym (any_given (constraint_of row Eq) list.rows list.kinds n))

-- an inequality is where some row is lower
pub loose_by : (list : LinearSystem ConKind) (row : List ℤ) (kind : ConKind) (rows : List (List ℤ)) (lower : Bool) → length list.kinds ≡ length list.rows → kind ≡ Ge → rows ≡ list.rows
    → lower ≡ list_any (λ xs. is_lower xs row) rows → lower ≡ is_loose (constraints list) (constraint_of row kind)
loose_by list row kind rows lower n is same told =
    subst (λ (k : ConKind). lower ≡ is_loose (constraints list) (constraint_of row k)) (sym is)
    (told ∙ ap (list_any (λ xs. is_lower xs row)) same ∙ sym (any_given (constraint_of row Ge) list.rows list.kinds n))

-- ---- the widening that is limited by the tightest
-- each of the tightest is given
few_given : (p q : Polyhedron) (given : List LinearRow) (g : LinearRow) → Contains (tightest (kept_thresholds p q given)) g → Contains given g
few_given p q given g k = (kept_at p q given g (filter_from (λ r. not (is_loose (kept_thresholds p q given) r)) (kept_thresholds p q given) g k).0).0

limited_few : (p q : Polyhedron) (given : List LinearRow) →
    IsWithin p.dims (LimitedWidening p q given) (LimitedWidening p q (tightest (kept_thresholds p q given)))
limited_few p q given x point l = (l.0, λ g k a b. l.1 g (few_given p q given g k) a b)

-- if no product passes, the tightest limit as all do
few_limited : (p q : Polyhedron) (given : List LinearRow) → HasPoint p → HasPoint q → kept_thresholds p q given ≡ valid_on p q given
    → IsWithin p.dims (LimitedWidening p q (tightest (kept_thresholds p q given))) (LimitedWidening p q given)
few_limited p q given h k same x point l = (
  l.0,
  λ g has a b.
      let valid : Contains (kept_thresholds p q given) g = subst (λ (rows : List LinearRow). Contains rows g) (sym same)
      (filter_has (λ r. is_valid p r && is_valid q r) given g has (and_from (is_valid p g) (is_valid q g) ((valid_decides p h g).1 a) ((valid_decides q k g).1 b))) in
      tightest_tell p.dims (kept_thresholds p q given) x point (λ t few.
      let f = kept_at p q given t (filter_from (λ r. not (is_loose (kept_thresholds p q given) r)) (kept_thresholds p q given) t few).0 in
      l.1 t few ((valid_decides p h t).0 (holds_valid p t f.1)) ((valid_decides q k t).0 (holds_valid q t f.2))) g valid,
)

tightest_same : (p q : Polyhedron) (given : List LinearRow) → IsPolyhedron p → IsPolyhedron q → q.dims ≡ p.dims → IsWithin p.dims (Con p.rows) (Con q.rows)
    → kept_thresholds p q given ≡ valid_on p q given → SameSet p.dims (LimitedWidening p q given) (LimitedWidening p q (tightest (kept_thresholds p q given)))
tightest_same p q given (inr h) hq d w same = (limited_few p q given, few_limited p q given h (around_point p q h hq d w) same)
tightest_same p q given (inl none) hq d w same =
    let e = none.1 in
    let one = limited_empty p q given d e in
    let other = limited_empty p q (tightest (kept_thresholds p q given)) d e in
    (λ x i l. other.1 x i (one.0 x i l), λ x i l. one.1 x i (other.0 x i l))

-- no product passes
pub tightest_becomes : (p q r : Polyhedron) (given few : List LinearRow) (o : Outcome) → IsPolyhedron p → IsPolyhedron q → q.dims ≡ p.dims → IsWithin p.dims (Con p.rows) (Con q.rows)
    → few ≡ tightest (kept_thresholds p q given) → kept_thresholds p q given ≡ valid_on p q given → IsLimitedWidening p q few r o →
    Becomes p.dims (LimitedWidening p q given) (TightestStrains p q given) r o
tightest_becomes p q r given few o hp hq d w is same made =
    let all = tightest (kept_thresholds p q given) in
    becomes_same p.dims (LimitedWidening p q given) (LimitedWidening p q all) (TightestStrains p q given) (LimitedStrains p q all) r o (tightest_same p q given hp hq d w same) (λ loss s. inl s)
    (subst (λ (rows : List LinearRow). Becomes p.dims (LimitedWidening p q rows) (LimitedStrains p q rows) r o) is made.becomes)

-- some product passes
pub lost_becomes : (p q r : Polyhedron) (given few : List LinearRow) (o lost : Outcome) → few ≡ tightest (kept_thresholds p q given) →
    IsLimitedWidening p q few r o → ¬ (lost ≡ Exact)
    → IfFlagged (PassesOnBoth p q given) lost → Becomes p.dims (LimitedWidening p q given) (TightestStrains p q given) r lost
lost_becomes p q r given few o Exact is made other passes = absurd (other refl)
lost_becomes p q r given few o (Flagged loss) is made other passes = record {
  dims = made.becomes.dims;
  canonical = made.becomes.canonical;
  within = λ x point l. made.becomes.within x point (subst (λ (rows : List LinearRow). LimitedWidening p q rows x) (sym is) (limited_few p q given x point l));
  exact = tt;
  flagged = inr (passes_widening p q given loss passes);
}

pub tightest_falls : (p q r : Polyhedron) (given few : List LinearRow) (o : Outcome) → few ≡ tightest (kept_thresholds p q given) → IsPolyhedron p →
    HaveColumns p.dims given
    → IsLimitedWidening p q few r o → r ≢ p → Falls p r given
tightest_falls p q r given few o is h columns made other = rank_falls p r given h made.becomes.canonical made.becomes.dims made.old other columns (λ x.
    let k = made.keeps x in
    record {
      rows = k.rows;
      made = k.made;
      widths = k.widths;
      told = λ g i. elim (k.told g i) [
        | inl a ↦ inl a
        | inr b ↦ inr (few_given p q given g (subst (λ (rows : List LinearRow). Contains rows g) is b.0), b.1)
      ];
    })

pub kept_exact : (p q : Polyhedron) (given : List LinearRow) (o : Outcome) → IfExact (kept_thresholds p q given ≡ valid_on p q given) o → o ≡ Exact → kept_thresholds p q given ≡ valid_on p q given
kept_exact p q given o said e = subst (IfExact (kept_thresholds p q given ≡ valid_on p q given)) e said
