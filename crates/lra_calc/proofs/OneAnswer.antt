-- Of two sets there is one answer to an inclusion, and of a form on a set one greatest value.
use Rattle.std.proofs.Common.{◌≡◌, ◌<◌, ◌+◌, ℕ, zero, suc, ℤ, pos, negsuc, ◌+ℤ◌, neg_ℤ, ◌*ℤ◌, ◌<ℤ◌, ◌≤ℤ◌, List, [], ◌∷◌, ◌++◌, length, length-append, refl, ap, sym, ◌∙◌, subst, arith}
use Rattle.std.proofs.lemmas.Int.{ints}
use Rattle.std.specs.List.{All}
use Rattle.lra_calc.specs.Crates.lra_duality.Inclusions.{Satisfies, Violates, Passes, SatisfiesAll, ViolatesFirst, IsInclusion}
use Rattle.lra_calc.specs.Crates.lra_duality.Maxima.{StaysInRange, PassesRange, Improves, DoesNotImprove, HasValue, IsAtMost, IsBelow, OfPoint, IsGreatest, IsMaximum}
use Rattle.lra_calc.specs.Crates.{lra_duality.declared.inclusion.Inclusion.Inclusion, lra_duality.declared.maximum.Maximum.Maximum, lra_linear_spec.Descriptions.LinearRow}
use Rattle.lra_calc.specs.Crates.{lra_linear_spec.LowestTerms.IsPrimitive, lra_linear_spec.Vectors.entry, lra_linear_spec.Vectors.product, lra_systems.FirstPlaces.FirstAt}
use Rattle.lra_calc.proofs.Crates.lra_linear_spec.Ring.{mul_nonnegative, ring, v, ⊖, ◌⊕◌, ◌⊗◌}
use Rattle.lra_calc.proofs.Crates.lra_linear_spec.Signs.{cancel_same, divide_nonnegative, difference, in_order}
use Rattle.lra_calc.proofs.Crates.{lra_duality.MaximumLemmas.never_both, lra_linear_spec.LowestTerms.same_multiple, lra_linear_spec.Membership.split_none}
use Rattle.lra_calc.specs.Crates.lra_duality.declared.inclusion.Inclusion.TheVariants as inclusion
use Rattle.lra_calc.specs.Crates.lra_duality.declared.maximum.Maximum.TheVariants as maximum
use Rattle.lra_calc.specs.Views.{IsPlacedInclusion, IsPlacedMaximum}
use Rattle.lra_calc.proofs.MakingLemmas.{all_tail}

-- ---- the first member that is reported
-- the places are one, and so are the members
abbrev SamePlace : {A : Type 0} → List A → A → List A → A → Type 0
SamePlace xs x ys y = (length xs ≡ length ys) × (x ≡ y)

same_front : {A : Type 0} (P : A → Type 0) (xs ys zs ws : List A) (x y : A) → All P xs → All P ys → (P x → ⊥) → (P y → ⊥) → xs ++ x ∷ zs ≡ ys ++ y ∷ ws → SamePlace xs x ys y
same_front P [] [] zs ws x y a b no_x no_y e = (refl, cc)
same_front P [] (q ∷ ys) zs ws x y a b no_x no_y e = absurd (no_x (subst P (let h : q ≡ x = cc in h) (b 0 q (omega arith))))
same_front P (p ∷ xs) [] zs ws x y a b no_x no_y e = absurd (no_y (subst P (let h : p ≡ y = cc in h) (a 0 p (omega arith))))
same_front P (p ∷ xs) (q ∷ ys) zs ws x y a b no_x no_y e =
    let rest = same_front P xs ys zs ws x y (all_tail P p xs a) (all_tail P q ys b) no_x no_y (cc) in (ap suc rest.0, rest.1)

first_once : {A : Type 0} (P Q R : A → Type 0) (list : List A) (i j : ℕ) → ((x : A) → P x → Q x → ⊥) → ((x : A) → P x → R x → ⊥) → (f : FirstAt P Q list i) → (g : FirstAt P R list j) →
    (i ≡ j) × (f.member ≡ g.member)
first_once P Q R list i j not_q not_r f g =
    let same = same_front P f.earlier g.earlier f.later g.later f.member g.member f.before g.before (λ p. not_q f.member p f.here) (λ p. not_r g.member p g.here) (sym f.is ∙ g.is) in
    (sym f.at ∙ same.0 ∙ g.at, same.1)

all_at : {A : Type 0} (P : A → Type 0) (xs : List A) (x : A) (ys : List A) → All P (xs ++ x ∷ ys) → P x
all_at P [] x ys a = a 0 x (omega arith)
all_at P (p ∷ xs) x ys a = all_at P xs x ys (all_tail P p (xs ++ x ∷ ys) a)

at_first : {A : Type 0} (P Q R : A → Type 0) (list : List A) (i : ℕ) → All R list → (f : FirstAt P Q list i) → R f.member
at_first {A = A} P Q R list i a f = all_at R f.earlier f.member f.later (subst (λ (l : List A). All R l) f.is a)

not_all : {A : Type 0} (P Q : A → Type 0) (list : List A) (i : ℕ) → ((x : A) → P x → Q x → ⊥) → All P list → FirstAt P Q list i → ⊥
not_all P Q list i apart a f = apart f.member (at_first P Q P list i a f) f.here

-- ---- inclusion
violates_apart : (g r : LinearRow) → Satisfies g r → Violates g r → ⊥
violates_apart g r m x = let t = m.1 in let f = x.1 in cc

passes_apart : (g r : LinearRow) → Satisfies g r → Passes g r → ⊥
passes_apart g r m x = never_both _ x m.0

meets_all_apart : (rows : List LinearRow) (g : LinearRow) → SatisfiesAll rows g → ViolatesFirst rows g → ⊥
meets_all_apart rows g m x = not_all (Satisfies g) (Violates g) rows x.place (violates_apart g) m x.first

meets_all_passes : (rows : List LinearRow) (row : ℕ) (g : LinearRow) → SatisfiesAll rows g → FirstAt (Satisfies g) (Passes g) rows row → ⊥
meets_all_passes rows row g m x = not_all (Satisfies g) (Passes g) rows row (passes_apart g) m x

not_both : (rows : List LinearRow) (row : ℕ) (g : LinearRow) → ViolatesFirst rows g → FirstAt (Satisfies g) (Passes g) rows row → ⊥
not_both rows row g x p =
    let same = first_once (Satisfies g) (Violates g) (Passes g) rows x.place row (violates_apart g) (passes_apart g) x.first p in
    never_both _ p.here (subst (λ (r : LinearRow). Violates g r) same.1 x.first.here).0

no_and_wide : (rows generators : List LinearRow) (i j row : ℕ) → IsInclusion rows generators (inclusion.No i) → IsInclusion rows generators (inclusion.Wide j row) → ⊥
no_and_wide rows generators i j row a b =
    let same = first_once (SatisfiesAll rows) (ViolatesFirst rows) (λ g. FirstAt (Satisfies g) (Passes g) rows row) generators i j (meets_all_apart rows) (meets_all_passes rows row) a b in
    not_both rows row b.member (subst (ViolatesFirst rows) same.1 a.here) b.here

wide_once : (rows generators : List LinearRow) (i row j other : ℕ) → IsInclusion rows generators (inclusion.Wide i row) → IsInclusion rows generators (inclusion.Wide j other) →
    inclusion.Wide i row ≡ inclusion.Wide j other
wide_once rows generators i row j other a b =
    let P : LinearRow → Type 0 = λ g. FirstAt (Satisfies g) (Passes g) rows row in
    let Q : LinearRow → Type 0 = λ g. FirstAt (Satisfies g) (Passes g) rows other in
    let same = first_once (SatisfiesAll rows) P Q generators i j (meets_all_passes rows row) (meets_all_passes rows other) a b in
    let g = b.member in
    let rest = first_once (Satisfies g) (Passes g) (Passes g) rows row other (passes_apart g) (passes_apart g) (subst P same.1 a.here) b.here in
    ap (λ (k : ℕ). inclusion.Wide k row) same.0 ∙ ap (inclusion.Wide j) rest.0

pub one_inclusion : (rows generators : List LinearRow) (a b : Inclusion) → IsInclusion rows generators a → IsInclusion rows generators b → a ≡ b
one_inclusion rows generators inclusion.Yes inclusion.Yes h k = refl
one_inclusion rows generators inclusion.Yes (inclusion.No j) h k =
    absurd (not_all (SatisfiesAll rows) (ViolatesFirst rows) generators j (meets_all_apart rows) h k)
one_inclusion rows generators inclusion.Yes (inclusion.Wide j row) h k =
    absurd (not_all (SatisfiesAll rows) (λ g. FirstAt (Satisfies g) (Passes g) rows row) generators j (meets_all_passes rows row) h k)
one_inclusion rows generators (inclusion.No i) inclusion.Yes h k =
    absurd (not_all (SatisfiesAll rows) (ViolatesFirst rows) generators i (meets_all_apart rows) k h)
one_inclusion rows generators (inclusion.No i) (inclusion.No j) h k =
    ap inclusion.No (first_once (SatisfiesAll rows) (ViolatesFirst rows) (ViolatesFirst rows) generators i j (meets_all_apart rows) (meets_all_apart rows) h
    k).0
one_inclusion rows generators (inclusion.No i) (inclusion.Wide j row) h k = absurd (no_and_wide rows generators i j row h k)
one_inclusion rows generators (inclusion.Wide i row) inclusion.Yes h k =
    absurd (not_all (SatisfiesAll rows) (λ g. FirstAt (Satisfies g) (Passes g) rows row) generators i (meets_all_passes rows row) k h)
one_inclusion rows generators (inclusion.Wide i row) (inclusion.No j) h k = absurd (no_and_wide rows generators j i row k h)
one_inclusion rows generators (inclusion.Wide i row) (inclusion.Wide j other) h k = wide_once rows generators i row j other h k

-- ---- the greatest value
in_range_apart : (form : List ℤ) (g : LinearRow) → StaysInRange form g → PassesRange form g → ⊥
in_range_apart form g s p = never_both _ p s

flat_apart : (form : List ℤ) (g : LinearRow) → DoesNotImprove form g → Improves form g → ⊥
flat_apart form g d i = d i

none_first : {A : Type 0} (P Q : A → Type 0) (list : List A) (i : ℕ) → list ≡ [] → FirstAt P Q list i → ⊥
none_first P Q list i e f = split_none f.earlier f.member f.later (sym e ∙ f.is)

-- a point has the value f / e, which is n / d and at most m / c
cross : (f e n d m c : ℤ) → pos 0 <ℤ e → pos 0 <ℤ d → f *ℤ d ≡ n *ℤ e → (f *ℤ c) ≤ℤ (m *ℤ e) → (n *ℤ c) ≤ℤ (m *ℤ d)
cross f (pos zero) n d m c above positive value most = absurd (omega (arith, ints, above))
cross f (negsuc e) n d m c above positive value most = absurd (omega (arith, ints, above))
cross f (pos (suc e)) n d m c above positive value most =
    let k = pos (suc e) in
    let here = mul_nonnegative ((m *ℤ k) +ℤ neg_ℤ (f *ℤ c)) d (difference (f *ℤ c) (m *ℤ k) most) (omega (arith, ints, positive)) in
    let same : ((m *ℤ k) +ℤ neg_ℤ (f *ℤ c)) *ℤ d ≡ k *ℤ ((m *ℤ d) +ℤ neg_ℤ (n *ℤ c)) =
    ring ((v m ⊗ v k ⊕ ⊖ (v f ⊗ v c)) ⊗ v d) (v m ⊗ v k ⊗ v d ⊕ ⊖ (v f ⊗ v d ⊗ v c)) (omega arith)
    ∙ ap (λ (z : ℤ). ((m *ℤ k) *ℤ d) +ℤ neg_ℤ (z *ℤ c)) value
    ∙ ring (v m ⊗ v k ⊗ v d ⊕ ⊖ (v n ⊗ v k ⊗ v c)) (v k ⊗ (v m ⊗ v d ⊕ ⊖ (v n ⊗ v c))) (omega arith) in
    in_order (n *ℤ c) (m *ℤ d) (divide_nonnegative (suc e) ((m *ℤ d) +ℤ neg_ℤ (n *ℤ c)) (omega arith) (subst (λ (z : ℤ). pos 0 ≤ℤ z) same here))

both_ways : (a b : ℤ) → a ≤ℤ b → b ≤ℤ a → a ≡ b
both_ways a b h k = omega (arith, ints, h, k)

-- equal fractions in lowest terms are one
same_value : (n m : ℤ) (d c : ℕ) → 0 < d → n *ℤ pos c ≡ m *ℤ pos d → IsPrimitive (n ∷ pos d ∷ []) → IsPrimitive (m ∷ pos c ∷ []) → (n ≡ m) × (c ≡ d)
same_value n m d c above e p q =
    let multiples : (j : ℕ) → pos c *ℤ entry (n ∷ pos d ∷ []) j ≡ pos d *ℤ entry (m ∷ pos c ∷ []) j = at_each n m d c e in
    let same = same_multiple c d (n ∷ pos d ∷ []) (m ∷ pos c ∷ []) p q multiples in
    (cancel_same d n m above (subst (λ (k : ℕ). pos k *ℤ n ≡ pos d *ℤ m) same (multiples 0)), same)
  where
    at_each : (n m : ℤ) (d c : ℕ) → n *ℤ pos c ≡ m *ℤ pos d → (j : ℕ) → pos c *ℤ entry (n ∷ pos d ∷ []) j ≡ pos d *ℤ entry (m ∷ pos c ∷ []) j
    at_each n m d c e zero = ring (v (pos c) ⊗ v n) (v n ⊗ v (pos c)) (omega arith) ∙ e ∙ ring (v m ⊗ v (pos d)) (v (pos d) ⊗ v m) (omega arith)
    at_each n m d c e (suc zero) = ring (v (pos c) ⊗ v (pos d)) (v (pos d) ⊗ v (pos c)) (omega arith)
    at_each n m d c e (suc (suc j)) = ring (v (pos c) ⊗ v (pos 0)) (v (pos d) ⊗ v (pos 0)) (omega arith)

-- a greatest value is at most any other that is reported
at_most : (form : List ℤ) (generators : List LinearRow) (n d m c : ℤ) (i j : ℕ) → IsGreatest form generators n d i → IsGreatest form generators m c j → (n *ℤ c) ≤ℤ (m *ℤ d)
at_most form generators n d m c i j h k =
    let g = h.first.member in
    cross (product form g.row) (entry g.row 0) n d m c h.first.here.0 h.positive h.first.here.1
    (at_first (OfPoint (IsBelow form n d)) (λ x. (pos 0 <ℤ entry x.row 0) × HasValue form n d x.row) (OfPoint (IsAtMost form m c)) generators i k.others h.first h.first.here.0)

below_apart : (form : List ℤ) (n d : ℤ) (g : LinearRow) → OfPoint (IsBelow form n d) g → (pos 0 <ℤ entry g.row 0) × HasValue form n d g.row → ⊥
below_apart form n d g b h = apart_at (product form g.row *ℤ d) (n *ℤ entry g.row 0) (b h.0) h.1
  where
    apart_at : (a b : ℤ) → a <ℤ b → a ≡ b → ⊥
    apart_at a b h e = absurd (omega (arith, ints, h, e))

at_once : (form : List ℤ) (generators : List LinearRow) (n m : ℤ) (d c : ℕ) (i j : ℕ) → IsMaximum form generators (maximum.At n (pos d) i) → IsMaximum form generators (maximum.At m (pos c) j) →
    maximum.At n (pos d) i ≡ maximum.At m (pos c) j
at_once form generators n m d c i j (s, f, h, p) (t, g, k, q) =
    let even : n *ℤ pos c ≡ m *ℤ pos d =
    both_ways (n *ℤ pos c) (m *ℤ pos d) (at_most form generators n (pos d) m (pos c) i j h k) (at_most form generators m (pos c) n (pos d) j i k h) in
    let same = same_value n m d c (let a = h.positive in omega (arith, ints, a)) even p q in
    let other : IsGreatest form generators n (pos d) j =
    subst (λ (z : ℤ). IsGreatest form generators z (pos d) j) (sym same.0) (subst (λ (e : ℕ). IsGreatest form generators m (pos e) j) same.1 k) in
    let place = first_once (OfPoint (IsBelow form n (pos d))) (λ x. (pos 0 <ℤ entry x.row 0) × HasValue form n (pos d) x.row) (λ x. (pos 0 <ℤ entry x.row 0) × HasValue form n (pos d) x.row)
    generators i j (below_apart form n (pos d)) (below_apart form n (pos d)) h.first other.first in
    ap (λ (z : ℤ). maximum.At z (pos d) i) same.0 ∙ ap (λ (e : ℕ). maximum.At m (pos e) i) (sym same.1) ∙ ap (maximum.At m (pos c)) place.0

-- divisors are above 0
at_by_sign : (form : List ℤ) (generators : List LinearRow) (n d m c : ℤ) (i j : ℕ) → IsMaximum form generators (maximum.At n d i) → IsMaximum form generators (maximum.At m c j) →
    maximum.At n d i ≡ maximum.At m c j
at_by_sign form generators n (pos d) m (pos c) i j h k = at_once form generators n m d c i j h k
at_by_sign form generators n (negsuc d) m c i j h k = absurd (let a = h.2.positive in omega (arith, ints, a))
at_by_sign form generators n (pos d) m (negsuc c) i j h k = absurd (let a = k.2.positive in omega (arith, ints, a))

some_there : (form : List ℤ) (generators : List LinearRow) (n d : ℤ) (i : ℕ) → generators ≡ [] → IsGreatest form generators n d i → ⊥
some_there form generators n d i e h = none_first (OfPoint (IsBelow form n d)) (λ x. (pos 0 <ℤ entry x.row 0) × HasValue form n d x.row) generators i e h.first

wide_apart : (form : List ℤ) (generators : List LinearRow) (i : ℕ) → All (StaysInRange form) generators → IsMaximum form generators (maximum.Wide i) → ⊥
wide_apart form generators i a w = not_all (StaysInRange form) (PassesRange form) generators i (in_range_apart form) a w

growth_apart : (form : List ℤ) (generators : List LinearRow) (i : ℕ) → All (DoesNotImprove form) generators → FirstAt (DoesNotImprove form) (Improves form) generators i → ⊥
growth_apart form generators i a w = not_all (DoesNotImprove form) (Improves form) generators i (flat_apart form) a w

pub one_maximum : (form : List ℤ) (generators : List LinearRow) (a b : Maximum) → IsMaximum form generators a → IsMaximum form generators b → a ≡ b
one_maximum form generators maximum.Empty maximum.Empty h k = refl
one_maximum form generators maximum.Empty (maximum.Wide j) h k = absurd (none_first (StaysInRange form) (PassesRange form) generators j h k)
one_maximum form generators maximum.Empty (maximum.Unbounded j) h k = absurd (none_first (DoesNotImprove form) (Improves form) generators j h k.1)
one_maximum form generators maximum.Empty (maximum.At m c j) h k = absurd (some_there form generators m c j h k.2)
one_maximum form generators (maximum.Wide i) maximum.Empty h k = absurd (none_first (StaysInRange form) (PassesRange form) generators i k h)
one_maximum form generators (maximum.Wide i) (maximum.Wide j) h k =
    ap maximum.Wide (first_once (StaysInRange form) (PassesRange form) (PassesRange form) generators i j (in_range_apart form) (in_range_apart form) h k).0
one_maximum form generators (maximum.Wide i) (maximum.Unbounded j) h k = absurd (wide_apart form generators i k.0 h)
one_maximum form generators (maximum.Wide i) (maximum.At m c j) h k = absurd (wide_apart form generators i k.0 h)
one_maximum form generators (maximum.Unbounded i) maximum.Empty h k = absurd (none_first (DoesNotImprove form) (Improves form) generators i k h.1)
one_maximum form generators (maximum.Unbounded i) (maximum.Wide j) h k = absurd (wide_apart form generators j h.0 k)
one_maximum form generators (maximum.Unbounded i) (maximum.Unbounded j) h k =
    ap maximum.Unbounded (first_once (DoesNotImprove form) (Improves form) (Improves form) generators i j (flat_apart form) (flat_apart form) h.1 k.1).0
one_maximum form generators (maximum.Unbounded i) (maximum.At m c j) h k = absurd (growth_apart form generators i k.1 h.1)
one_maximum form generators (maximum.At n d i) maximum.Empty h k = absurd (some_there form generators n d i k h.2)
one_maximum form generators (maximum.At n d i) (maximum.Wide j) h k = absurd (wide_apart form generators j h.0 k)
one_maximum form generators (maximum.At n d i) (maximum.Unbounded j) h k = absurd (growth_apart form generators j h.1 k.1)
one_maximum form generators (maximum.At n d i) (maximum.At m c j) h k = at_by_sign form generators n d m c i j h k

-- ---- places
place_inside : {A : Type 0} (P Q : A → Type 0) (list : List A) (i : ℕ) → FirstAt P Q list i → i < length list
place_inside {A = A} P Q list i f =
    let counted : length list ≡ length f.earlier + suc (length f.later) = ap (λ (l : List A). length l) f.is ∙ length-append f.earlier (f.member ∷ f.later) in
    let at = f.at in omega (arith, counted, at)

pub inclusion_placed : (rows generators : List LinearRow) (a : Inclusion) → IsInclusion rows generators a → IsPlacedInclusion (length generators) a
inclusion_placed rows generators inclusion.Yes h = tt
inclusion_placed rows generators (inclusion.No i) h = place_inside (SatisfiesAll rows) (ViolatesFirst rows) generators i h
inclusion_placed rows generators (inclusion.Wide i row) h = tt

pub maximum_placed : (form : List ℤ) (generators : List LinearRow) (a : Maximum) → IsMaximum form generators a → IsPlacedMaximum (length generators) a
maximum_placed form generators maximum.Empty h = tt
maximum_placed form generators (maximum.Wide i) h = tt
maximum_placed form generators (maximum.Unbounded i) h = place_inside (DoesNotImprove form) (Improves form) generators i h.1
maximum_placed form generators (maximum.At n d i) h =
    (place_inside (OfPoint (IsBelow form n d)) (λ x. (pos 0 <ℤ entry x.row 0) × HasValue form n d x.row) generators i h.2.first, h.2.positive)
