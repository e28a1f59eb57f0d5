-- Worked examples in two dimensions: the time-elapse of the origin by the step (1, 2), what forgetting x2 makes of it, and its image
-- and preimage by x1 + 1.
use Rattle.std.proofs.Common.{List, [], ap, arith, neg_ℤ, negsuc, pos, refl, subst, suc, sym, zero, ℕ, ℤ, ◌*ℤ◌, ◌*◌, ◌+ℤ◌, ◌<ℤ◌, ◌<◌, ◌∙◌, ◌∷◌, ◌≡◌, ◌≢◌, ◌≤ℤ◌}
use Rattle.std.proofs.lemmas.Int.{ints}
use Rattle.lra_linear_spec.specs.Descriptions.{Con, Gen, LinearRow, equality, generator, inequality}
use Rattle.lra_linear_spec.specs.SetOperations.{Forget, Image, OnTheWay, Preimage, TimeElapse, assigned}
use Rattle.lra_linear_spec.specs.{Points.IsPoint, Points.IsWithin, Points.SamePoint, Points.SameSet, Vectors.entry, Vectors.product}
use Rattle.lra_linear_spec.proofs.Signs.{add_nonnegative, as_nat, cancel_same, divide_nonnegative, positive_is_nonnegative, positive_nat, times_positive}
use Rattle.lra_linear_spec.proofs.{Descriptions.con_cons, Descriptions.con_head, Descriptions.con_none, Descriptions.con_tail, OneSpelling.far, PolyhedronExamples.product_three, Products.entry_past}
use Rattle.lra_linear_spec.proofs.{Products.entry_set_other, Products.entry_set_same, Ring.mul_nonnegative, Ring.ring, Ring.v, Ring.⊖, Ring.◌⊕◌, Ring.◌⊗◌, Widening.holds_on_generators}

-- ---- the time-elapse of the origin by (1, 2) is the half line 2 x1 = x2, x2 at least 0
abbrev origin : List LinearRow
origin = generator (pos 1 ∷ pos 0 ∷ pos 0 ∷ []) ∷ []

abbrev one_step : List LinearRow
one_step = generator (pos 1 ∷ pos 1 ∷ pos 2 ∷ []) ∷ []

abbrev slope : LinearRow
slope = equality (pos 0 ∷ pos 2 ∷ negsuc 0 ∷ [])

abbrev upward : LinearRow
upward = inequality (pos 0 ∷ pos 0 ∷ pos 1 ∷ [])

abbrev ray_up : List LinearRow
ray_up = slope ∷ upward ∷ []

slope_product : (x : List ℤ) → product (pos 0 ∷ pos 2 ∷ negsuc 0 ∷ []) x ≡ (pos 2 *ℤ entry x 1) +ℤ neg_ℤ (entry x 2)
slope_product x = omega (arith, ints)

-- the point (t, 2 t) is t steps on the way
on_way : (t : ℕ) → OnTheWay 2 (Gen origin) (Gen one_step) (pos 1 ∷ pos t ∷ pos (2 * t) ∷ [])
on_way t = record {
  start = pos 1 ∷ pos 0 ∷ pos 0 ∷ [];
  starts = record { width = refl; divisor = omega (arith, ints) };
  in_first = record {
    multiple = 1;
    positive = omega arith;
    free = [];
    factors = 1 ∷ [];
    is_sum = λ j. ring (v (pos 1) ⊗ v (entry (pos 1 ∷ pos 0 ∷ pos 0 ∷ []) j)) (v (pos 0) ⊕ (v (pos 1) ⊗ v (entry (pos 1 ∷ pos 0 ∷ pos 0 ∷ []) j) ⊕ v (pos 0))) (omega arith);
  };
  step = pos 1 ∷ pos 1 ∷ pos 2 ∷ [];
  steps = record { width = refl; divisor = omega (arith, ints) };
  in_second = record {
    multiple = 1;
    positive = omega arith;
    free = [];
    factors = 1 ∷ [];
    is_sum = λ j. ring (v (pos 1) ⊗ v (entry (pos 1 ∷ pos 1 ∷ pos 2 ∷ []) j)) (v (pos 0) ⊕ (v (pos 1) ⊗ v (entry (pos 1 ∷ pos 1 ∷ pos 2 ∷ []) j) ⊕ v (pos 0))) (omega arith);
  };
  times = t;
  same = columns;
}
  where
    columns : (j : ℕ) → 0 < j → (entry (pos 1 ∷ pos t ∷ pos (2 * t) ∷ []) j *ℤ pos 1) *ℤ pos 1 ≡
        pos 1 *ℤ ((entry (pos 1 ∷ pos 0 ∷ pos 0 ∷ []) j *ℤ pos 1) +ℤ ((pos t *ℤ entry (pos 1 ∷ pos 1 ∷ pos 2 ∷ []) j) *ℤ pos 1))
    columns zero h = absurd (omega (arith, h))
    columns (suc zero) h = omega (arith, ints)
    columns (suc (suc zero)) h = omega (arith, ints)
    columns (suc (suc (suc j))) h = omega (arith, ints)

-- a multiple of (1, 0, 0), and of (1, 1, 2)
origin_zero : (x : List ℤ) → Gen origin x → (entry x 1 ≡ pos 0) × (entry x 2 ≡ pos 0)
origin_zero x g = (
  let z = holds_on_generators (equality (pos 0 ∷ pos 1 ∷ pos 0 ∷ [])) origin refl x g in omega (arith, ints, z),
  let z = holds_on_generators (equality (pos 0 ∷ pos 0 ∷ pos 1 ∷ [])) origin refl x g in omega (arith, ints, z),
)

step_columns : (x : List ℤ) → Gen one_step x → (entry x 1 ≡ entry x 0) × (entry x 2 ≡ pos 2 *ℤ entry x 0)
step_columns x g = (
  let z = holds_on_generators (equality (pos 1 ∷ negsuc 0 ∷ pos 0 ∷ [])) one_step refl x g in omega (arith, ints, z),
  let z = holds_on_generators (equality (pos 2 ∷ pos 0 ∷ negsuc 0 ∷ [])) one_step refl x g in omega (arith, ints, z),
)

-- on the way, x1 is t and x2 is 2 t, up to the positive factor p q of the divisors
way_one : (x p q t x1 p1 q1 : ℤ) → (x1 *ℤ p) *ℤ q ≡ x *ℤ ((p1 *ℤ q) +ℤ ((t *ℤ q1) *ℤ p)) → p1 ≡ pos 0 → q1 ≡ q → (p *ℤ q) *ℤ x1 ≡ (p *ℤ q) *ℤ (x *ℤ t)
way_one x p q t x1 p1 q1 e f g =
    ring ((v p ⊗ v q) ⊗ v x1) ((v x1 ⊗ v p) ⊗ v q) (omega arith) ∙ e ∙ ap (λ z. x *ℤ ((z *ℤ q) +ℤ ((t *ℤ q1) *ℤ p))) f ∙ ap (λ z. x *ℤ ((pos 0 *ℤ q) +ℤ ((t *ℤ z) *ℤ p))) g ∙
    ring (v x ⊗ (v (pos 0) ⊗ v q ⊕ (v t ⊗ v q) ⊗ v p)) ((v p ⊗ v q) ⊗ (v x ⊗ v t)) (omega arith)

way_two : (x p q t x2 p2 q2 : ℤ) → (x2 *ℤ p) *ℤ q ≡ x *ℤ ((p2 *ℤ q) +ℤ ((t *ℤ q2) *ℤ p)) → p2 ≡ pos 0 → q2 ≡ pos 2 *ℤ q → (p *ℤ q) *ℤ x2 ≡ (p *ℤ q) *ℤ (x *ℤ (pos 2 *ℤ t))
way_two x p q t x2 p2 q2 e f g =
    ring ((v p ⊗ v q) ⊗ v x2) ((v x2 ⊗ v p) ⊗ v q) (omega arith) ∙ e ∙ ap (λ z. x *ℤ ((z *ℤ q) +ℤ ((t *ℤ q2) *ℤ p))) f ∙ ap (λ z. x *ℤ ((pos 0 *ℤ q) +ℤ ((t *ℤ z) *ℤ p))) g ∙
    ring (v x ⊗ (v (pos 0) ⊗ v q ⊕ (v t ⊗ (v (pos 2) ⊗ v q)) ⊗ v p)) ((v p ⊗ v q) ⊗ (v x ⊗ (v (pos 2) ⊗ v t))) (omega arith)

cancel_positive : (a b c : ℤ) → pos 0 <ℤ a → a *ℤ b ≡ a *ℤ c → b ≡ c
cancel_positive a b c h e =
    let n = as_nat a (positive_is_nonnegative a h) in
    cancel_same n.0 b c (positive_nat a n.0 h n.1) (ap (λ z. z *ℤ b) (sym n.1) ∙ e ∙ ap (λ z. z *ℤ c) n.1)

way_columns : (x : List ℤ) → OnTheWay 2 (Gen origin) (Gen one_step) x → (t : ℕ) × (entry x 1 ≡ entry x 0 *ℤ pos t) × (entry x 2 ≡ entry x 0 *ℤ (pos 2 *ℤ pos t))
way_columns x w =
    let z = origin_zero w.start w.in_first in
    let s = step_columns w.step w.in_second in
    let positive : pos 0 <ℤ (entry w.start 0 *ℤ entry w.step 0) = times_positive (entry w.start 0) (entry w.step 0) w.starts.divisor w.steps.divisor in (
      w.times,
      cancel_positive (entry w.start 0 *ℤ entry w.step 0) (entry x 1) (entry x 0 *ℤ pos w.times) positive
          (way_one (entry x 0) (entry w.start 0) (entry w.step 0) (pos w.times) (entry x 1) (entry w.start 1) (entry w.step 1) (w.same 1 (omega arith)) z.0 s.0),
      cancel_positive (entry w.start 0 *ℤ entry w.step 0) (entry x 2) (entry x 0 *ℤ (pos 2 *ℤ pos w.times)) positive
          (way_two (entry x 0) (entry w.start 0) (entry w.step 0) (pos w.times) (entry x 2) (entry w.start 2) (entry w.step 2) (w.same 2 (omega arith)) z.1 s.1),
    )

-- each point on the way meets the two rows, the equality in both directions
way_sloped : (x : List ℤ) → OnTheWay 2 (Gen origin) (Gen one_step) x → (pos 2 *ℤ entry x 1) ≡ entry x 2
way_sloped x w =
    let c = way_columns x w in
    ap (λ z. pos 2 *ℤ z) c.1 ∙ ring (v (pos 2) ⊗ (v (entry x 0) ⊗ v (pos c.0))) (v (entry x 0) ⊗ (v (pos 2) ⊗ v (pos c.0))) (omega arith) ∙ sym c.2

way_upward : (x : List ℤ) → IsPoint 2 x → OnTheWay 2 (Gen origin) (Gen one_step) x → pos 0 ≤ℤ entry x 2
way_upward x p w =
    let c = way_columns x w in
    subst (λ z. pos 0 ≤ℤ z) (sym c.2) (mul_nonnegative (entry x 0) (pos 2 *ℤ pos c.0) (positive_is_nonnegative (entry x 0) p.divisor) (omega (arith, ints)))

pub elapse_is_ray : SameSet 2 (TimeElapse 2 (Gen origin) (Gen one_step)) (Con ray_up)
elapse_is_ray = (
  λ x p h.
      let up : pos 0 ≤ℤ product (pos 0 ∷ pos 2 ∷ negsuc 0 ∷ []) x = h (pos 0 ∷ pos 2 ∷ negsuc 0 ∷ []) refl (λ y q w. let e = way_sloped y w in omega (arith, ints, e)) in
      let down : pos 0 ≤ℤ product (pos 0 ∷ negsuc 1 ∷ pos 1 ∷ []) x = h (pos 0 ∷ negsuc 1 ∷ pos 1 ∷ []) refl (λ y q w. let e = way_sloped y w in omega (arith, ints, e)) in
      let above : pos 0 ≤ℤ product (pos 0 ∷ pos 0 ∷ pos 1 ∷ []) x = h (pos 0 ∷ pos 0 ∷ pos 1 ∷ []) refl (λ y q w. let e = way_upward y q w in omega (arith, ints, e)) in
      con_cons slope (upward ∷ []) x (omega (arith, ints, up, down)) (con_cons upward [] x above (con_none x)),
  λ x p c d l valid.
      let at : (t : ℕ) → pos 0 ≤ℤ (entry d 0 +ℤ (pos t *ℤ (entry d 1 +ℤ (pos 2 *ℤ entry d 2)))) = λ t.
      subst (λ z. pos 0 ≤ℤ z)
      (product_three d (pos 1 ∷ pos t ∷ pos (2 * t) ∷ []) l ∙
      ring (v (entry d 0) ⊗ v (pos 1) ⊕ (v (entry d 1) ⊗ v (pos t) ⊕ v (entry d 2) ⊗ v (pos (2 * t)))) (v (entry d 0) ⊕ v (pos t) ⊗ (v (entry d 1) ⊕ v (pos 2) ⊗ v (entry d 2))) (omega arith))
      (valid (pos 1 ∷ pos t ∷ pos (2 * t) ∷ []) (record { width = refl; divisor = omega (arith, ints) }) (on_way t)) in
      let low : pos 0 ≤ℤ entry d 0 = let z = at 0 in omega (arith, ints, z) in
      let along : pos 0 ≤ℤ (entry d 1 +ℤ (pos 2 *ℤ entry d 2)) = far (entry d 0) (entry d 1 +ℤ (pos 2 *ℤ entry d 2)) at in
      let sloped : entry x 2 ≡ pos 2 *ℤ entry x 1 = let z = con_head slope (upward ∷ []) x c in omega (arith, ints, z) in
      let up : pos 0 ≤ℤ entry x 1 = let z = con_head upward [] x (con_tail slope (upward ∷ []) x c) in omega (arith, ints, z, sloped) in
      subst (λ z. pos 0 ≤ℤ z)
      (ring (v (entry d 0) ⊗ v (entry x 0) ⊕ (v (entry d 1) ⊕ v (pos 2) ⊗ v (entry d 2)) ⊗ v (entry x 1))
      (v (entry d 0) ⊗ v (entry x 0) ⊕ (v (entry d 1) ⊗ v (entry x 1) ⊕ v (entry d 2) ⊗ (v (pos 2) ⊗ v (entry x 1)))) (omega arith) ∙
      ap (λ y. (entry d 0 *ℤ entry x 0) +ℤ ((entry d 1 *ℤ entry x 1) +ℤ (entry d 2 *ℤ y))) (sym sloped) ∙ sym (product_three d x l))
      (add_nonnegative (entry d 0 *ℤ entry x 0) ((entry d 1 +ℤ (pos 2 *ℤ entry d 2)) *ℤ entry x 1)
      (mul_nonnegative (entry d 0) (entry x 0) low (positive_is_nonnegative (entry x 0) p.divisor)) (mul_nonnegative (entry d 1 +ℤ (pos 2 *ℤ entry d 2)) (entry x 1) along up)),
)

divided : (a z : ℤ) → pos 0 <ℤ a → pos 0 ≤ℤ (a *ℤ z) → pos 0 ≤ℤ z
divided a z h k =
    let n = as_nat a (positive_is_nonnegative a h) in
    divide_nonnegative n.0 z (positive_nat a n.0 h n.1) (subst (λ y. pos 0 ≤ℤ (y *ℤ z)) n.1 k)

-- ---- forgetting x2 leaves x1 at least 0
pub forget_is_half_plane : SameSet 2 (Forget 2 2 (Con ray_up)) (Con (inequality (pos 0 ∷ pos 1 ∷ pos 0 ∷ []) ∷ []))
forget_is_half_plane = (
  λ x p f.
      let e = f.same 1 (λ h. let k : 1 ≡ 2 = h in omega (arith, k)) in
      let sloped : entry f.from 2 ≡ pos 2 *ℤ entry f.from 1 = let z = con_head slope (upward ∷ []) f.from f.inside in omega (arith, ints, z) in
      let up : pos 0 ≤ℤ entry f.from 1 = let z = con_head upward [] f.from (con_tail slope (upward ∷ []) f.from f.inside) in omega (arith, ints, z, sloped) in
      let one : pos 0 ≤ℤ entry x 1 = divided (entry f.from 0) (entry x 1) f.is_point.divisor
      (subst (λ z. pos 0 ≤ℤ z) (sym e ∙ ring (v (entry x 1) ⊗ v (entry f.from 0)) (v (entry f.from 0) ⊗ v (entry x 1)) (omega arith))
      (mul_nonnegative (entry f.from 1) (entry x 0) up (positive_is_nonnegative (entry x 0) p.divisor))) in
      con_cons (inequality (pos 0 ∷ pos 1 ∷ pos 0 ∷ [])) [] x (omega (arith, ints, one)) (con_none x),
  λ x p c.
      let one : pos 0 ≤ℤ entry x 1 = let z = con_head (inequality (pos 0 ∷ pos 1 ∷ pos 0 ∷ [])) [] x c in omega (arith, ints, z) in
      let y : List ℤ = entry x 0 ∷ entry x 1 ∷ (pos 2 *ℤ entry x 1) ∷ [] in
      record {
        from = y;
        is_point = record { width = refl; divisor = p.divisor };
        inside = con_cons slope (upward ∷ []) y (omega (arith, ints)) (con_cons upward [] y (omega (arith, ints, one)) (con_none y));
        same = columns x p;
      },
)
  where
    columns : (x : List ℤ) → IsPoint 2 x → (j : ℕ) → j ≢ 2 → entry x j *ℤ entry x 0 ≡ entry (entry x 0 ∷ entry x 1 ∷ (pos 2 *ℤ entry x 1) ∷ []) j *ℤ entry x 0
    columns x p zero h = refl
    columns x p (suc zero) h = refl
    columns x p (suc (suc zero)) h = absurd (h refl)
    columns x p (suc (suc (suc j))) h = ap (λ z. z *ℤ entry x 0) (entry_past x (suc (suc (suc j))) (let w = p.width in omega (arith, w)))

-- ---- its image by x1 := x1 + 1, and back: the preimage of the image lies in the half line
abbrev plus_one : List ℤ
plus_one = pos 1 ∷ pos 1 ∷ pos 0 ∷ []

same_one : (x f : List ℤ) → IsPoint 2 x → IsPoint 2 f → SamePoint (assigned 1 plus_one x) (assigned 1 plus_one f) → (entry x 1 *ℤ entry f 0 ≡ entry f 1 *ℤ entry x 0) ×
    (entry x 2 *ℤ entry f 0 ≡ entry f 2 *ℤ entry x 0)
same_one x f p q s =
    let x0 = entry_set_other x 1 0 (product plus_one x) zero_not_one in
    let f0 = entry_set_other f 1 0 (product plus_one f) zero_not_one in
    let x1 = entry_set_same x 1 (product plus_one x) (let w = p.width in omega (arith, w)) in
    let f1 = entry_set_same f 1 (product plus_one f) (let w = q.width in omega (arith, w)) in
    let x2 = entry_set_other x 1 2 (product plus_one x) two_not_one in
    let f2 = entry_set_other f 1 2 (product plus_one f) two_not_one in
    let first : product plus_one x *ℤ entry f 0 ≡ product plus_one f *ℤ entry x 0 =
    ap (λ z. z *ℤ entry f 0) (sym x1) ∙ ap (λ z. entry (assigned 1 plus_one x) 1 *ℤ z) (sym f0) ∙ s 1 ∙ ap (λ z. z *ℤ entry (assigned 1 plus_one x) 0) f1 ∙ ap (λ z. product plus_one f *ℤ z) x0 in (
      shifted (entry x 0) (entry x 1) (entry f 0) (entry f 1) (product plus_one x) (product plus_one f) (omega (arith, ints)) (omega (arith, ints)) first,
      ap (λ z. z *ℤ entry f 0) (sym x2) ∙ ap (λ z. entry (assigned 1 plus_one x) 2 *ℤ z) (sym f0) ∙ s 2 ∙ ap (λ z. z *ℤ entry (assigned 1 plus_one x) 0) f2 ∙ ap (λ z. entry f 2 *ℤ z) x0,
    )
  where
    zero_not_one : (let n : ℕ = 0 in n) ≢ 1
    zero_not_one e = let k : 0 ≡ 1 = e in omega (arith, k)

    two_not_one : (let n : ℕ = 2 in n) ≢ 1
    two_not_one e = let k : 2 ≡ 1 = e in omega (arith, k)

    shifted : (x0 x1 f0 f1 a b : ℤ) → a ≡ x0 +ℤ x1 → b ≡ f0 +ℤ f1 → a *ℤ f0 ≡ b *ℤ x0 → x1 *ℤ f0 ≡ f1 *ℤ x0
    shifted x0 x1 f0 f1 a b e f h =
        ring (v x1 ⊗ v f0) ((v x0 ⊕ v x1) ⊗ v f0 ⊕ ⊖ (v x0 ⊗ v f0)) (omega arith) ∙ ap (λ z. (z *ℤ f0) +ℤ neg_ℤ (x0 *ℤ f0)) (sym e) ∙ ap (λ z. z +ℤ neg_ℤ (x0 *ℤ f0)) h ∙
        ap (λ z. (z *ℤ x0) +ℤ neg_ℤ (x0 *ℤ f0)) f ∙ ring ((v f0 ⊕ v f1) ⊗ v x0 ⊕ ⊖ (v x0 ⊗ v f0)) (v f1 ⊗ v x0) (omega arith)

pub back_in_ray : IsWithin 2 (Preimage 1 plus_one (Image 2 1 plus_one (Con ray_up))) (Con ray_up)
back_in_ray x p i =
    let s = same_one x i.from p i.is_point i.same in
    let f0 = entry i.from 0 in
    let sloped : entry i.from 2 ≡ pos 2 *ℤ entry i.from 1 = let z = con_head slope (upward ∷ []) i.from i.inside in omega (arith, ints, z) in
    let up : pos 0 ≤ℤ entry i.from 2 = let z = con_head upward [] i.from (con_tail slope (upward ∷ []) i.from i.inside) in omega (arith, ints, z) in
    let two : entry x 2 ≡ pos 2 *ℤ entry x 1 = cancel_positive f0 (entry x 2) (pos 2 *ℤ entry x 1) i.is_point.divisor
    (ring (v f0 ⊗ v (entry x 2)) (v (entry x 2) ⊗ v f0) (omega arith) ∙ s.1 ∙ ap (λ z. z *ℤ entry x 0) sloped ∙
    ring ((v (pos 2) ⊗ v (entry i.from 1)) ⊗ v (entry x 0)) (v (pos 2) ⊗ (v (entry i.from 1) ⊗ v (entry x 0))) (omega arith) ∙ ap (λ z. pos 2 *ℤ z) (sym s.0) ∙
    ring (v (pos 2) ⊗ (v (entry x 1) ⊗ v f0)) (v f0 ⊗ (v (pos 2) ⊗ v (entry x 1))) (omega arith)) in
    let high : pos 0 ≤ℤ entry x 2 = divided f0 (entry x 2) i.is_point.divisor
    (subst (λ z. pos 0 ≤ℤ z) (sym s.1 ∙ ring (v (entry x 2) ⊗ v f0) (v f0 ⊗ v (entry x 2)) (omega arith))
    (mul_nonnegative (entry i.from 2) (entry x 0) up (positive_is_nonnegative (entry x 0) p.divisor))) in
    con_cons slope (upward ∷ []) x (omega (arith, ints, two)) (con_cons upward [] x (omega (arith, ints, high)) (con_none x))
