-- Worked cases: least values, how constraints stand to polyhedra, bounds and dimensions, rounded constraints, moved
-- points, constraints that a context gives, ends of boxes, polyhedra of parts.
use Rattle.std.proofs.Common.{◌≡◌, suc, List, [], ◌∷◌, ◌++◌, replicate, pos, negsuc, ℤ, ◌+ℤ◌, ◌*ℤ◌, ◌<ℤ◌, ◌≤ℤ◌, refl, arith, inl, inr, Some}
use Rattle.std.proofs.{Math.Nat.eq-one_of_dvd-one, lemmas.Int.ints, lemmas.List.Elements.All-nil, lemmas.List.Elements.All-cons}
use Rattle.lra_poly_queries.specs.Crates.{lra_duality.Maxima.DoesNotImprove, lra_duality.Maxima.StaysInRange, lra_linear_spec.Descriptions.LinearRow, lra_linear_spec.Descriptions.generator}
use Rattle.lra_poly_queries.specs.Crates.{lra_linear_spec.Descriptions.inequality, lra_linear_spec.Polyhedra.Polyhedron, lra_linear_spec.Strain.Loss, lra_linear_spec.Vectors.entry}
use Rattle.lra_poly_queries.proofs.Crates.lra_linear_spec.Descriptions.{con_cons, con_none}
use Rattle.lra_poly_queries.proofs.Crates.lra_linear_spec.Membership.{contains_head, contains_tail, split_none, split_one}
use Rattle.lra_poly_queries.specs.{Boxed.IsLeastEnd, Boxed.coordinate_form, Joined.counted, Minima.IsAtLeast, Minima.IsMinimum, Moved.Moved, Moved.chosen, Parted.SomeHas, Related.replaced}
use Rattle.lra_poly_queries.specs.{Relations.HoldsNowhere, Relations.MissesZero, Shapes.AffineDimension, Shapes.HasBound, Simplified.AreNeeded, Simplified.IsRedundant, Simplified.IsSublist}
use Rattle.lra_poly_queries.specs.{Simplified.SimplifyStrains, Tightened.IsTightened, declared.minimum.Minimum.TheVariants.Empty, declared.minimum.Minimum.TheVariants.Unbounded}

-- x is at least 1/2 at the point 3/2, and not at the point 1/4
pub half_below : IsAtLeast (pos 0 ∷ pos 1 ∷ []) (pos 1) (pos 2) (pos 2 ∷ pos 3 ∷ [])
half_below = omega (arith, ints)

pub quarter_below : IsAtLeast (pos 0 ∷ pos 1 ∷ []) (pos 1) (pos 2) (pos 4 ∷ pos 1 ∷ []) → ⊥
quarter_below h = omega (arith, ints, h)

-- without a generator there is no least value
pub nothing_least : (form : List ℤ) → IsMinimum form [] Empty
nothing_least form = refl

-- if x is at least 0, the form -x falls along the ray
pub falls_along : IsMinimum (pos 0 ∷ negsuc 0 ∷ []) (generator (pos 1 ∷ pos 0 ∷ []) ∷ generator (pos 0 ∷ pos 1 ∷ []) ∷ []) (Unbounded 1)
falls_along = (
  All-cons (StaysInRange (pos 0 ∷ pos 1 ∷ [])) (generator (pos 1 ∷ pos 0 ∷ [])) (generator (pos 0 ∷ pos 1 ∷ []) ∷ []) refl
      (All-cons (StaysInRange (pos 0 ∷ pos 1 ∷ [])) (generator (pos 0 ∷ pos 1 ∷ [])) [] refl
      (All-nil (StaysInRange (pos 0 ∷ pos 1 ∷ [])))),
  record {
    earlier = generator (pos 1 ∷ pos 0 ∷ []) ∷ [];
    member = generator (pos 0 ∷ pos 1 ∷ []);
    later = [];
    is = refl;
    at = refl;
    before = All-cons (DoesNotImprove (pos 0 ∷ pos 1 ∷ [])) (generator (pos 1 ∷ pos 0 ∷ [])) []
        (λ i. not_level i.0) (All-nil (DoesNotImprove (pos 0 ∷ pos 1 ∷ [])));
    here = (refl, inl (refl, omega (arith, ints)));
  },
)
  where
    not_level : (let z : ℤ = pos 1 in z) ≡ pos 0 → ⊥
    not_level e = omega (arith, ints, e)

-- if x is at least 1, -x is nowhere at least 0
abbrev from_one : Polyhedron
from_one = record {
  dims = 1;
  rows = inequality (negsuc 0 ∷ pos 1 ∷ []) ∷ [];
  generators = generator (pos 1 ∷ pos 1 ∷ []) ∷ generator (pos 0 ∷ pos 1 ∷ []) ∷ [];
}

pub opposite_nowhere : HoldsNowhere from_one (inequality (pos 0 ∷ negsuc 0 ∷ []))
opposite_nowhere x i both =
    apart (entry x 0) (entry x 1) i.divisor
    (both.0 (inequality (negsuc 0 ∷ pos 1 ∷ [])) (contains_head (inequality (negsuc 0 ∷ pos 1 ∷ [])) [])) both.1
  where
    apart : (d z : ℤ) → pos 0 <ℤ d → pos 0 ≤ℤ ((negsuc 0 *ℤ d) +ℤ ((pos 1 *ℤ z) +ℤ pos 0)) →
        pos 0 ≤ℤ ((pos 0 *ℤ d) +ℤ ((negsuc 0 *ℤ z) +ℤ pos 0)) → ⊥
    apart d z h a b = omega (arith, ints, h, a, b)

-- 2 is no 0 of x - 1, and 1 is one
pub one_touches : MissesZero (negsuc 0 ∷ pos 1 ∷ []) (generator (pos 1 ∷ pos 1 ∷ [])) → ⊥
one_touches misses = misses (omega (arith, ints), refl)

-- if x is from 1 to 2, it is at most 2; and no number of dimensions more than those of the space fits
abbrev to_two : Polyhedron
to_two = record {
  dims = 1;
  rows = inequality (negsuc 0 ∷ pos 1 ∷ []) ∷ inequality (pos 2 ∷ negsuc 0 ∷ []) ∷ [];
  generators = generator (pos 1 ∷ pos 1 ∷ []) ∷ generator (pos 1 ∷ pos 2 ∷ []) ∷ [];
}

pub two_bounds : HasBound to_two (pos 0 ∷ pos 1 ∷ [])
two_bounds = record {
  most = pos 2;
  is_most = λ x i c. within (entry x 0) (entry x 1) (c (inequality (pos 2 ∷ negsuc 0 ∷ []))
      (contains_tail (inequality (negsuc 0 ∷ pos 1 ∷ [])) (inequality (pos 2 ∷ negsuc 0 ∷ [])) (inequality (pos 2 ∷ negsuc 0 ∷ []) ∷ [])
      (contains_head (inequality (pos 2 ∷ negsuc 0 ∷ [])) [])));
}
  where
    within : (d z : ℤ) → pos 0 ≤ℤ ((pos 2 *ℤ d) +ℤ ((negsuc 0 *ℤ z) +ℤ pos 0)) →
        (((pos 0 *ℤ d) +ℤ ((pos 1 *ℤ z) +ℤ pos 0)) *ℤ pos 1) ≤ℤ (pos 2 *ℤ d)
    within d z h = omega (arith, ints, h)

pub no_more_dimensions : (p : Polyhedron) → AffineDimension p (suc p.dims) → ⊥
no_more_dimensions p h = let e = h.count in omega (arith, e)

-- if x is at least 0 there are stores, so no constraint without one is that constraint rounded
pub not_nowhere : IsTightened 1 (inequality (pos 0 ∷ pos 1 ∷ [])) (inequality (negsuc 0 ∷ pos 0 ∷ [])) → ⊥
not_nowhere h = let k = (h.stores (pos 0 ∷ []) refl).0 (omega (arith, ints)) in omega (arith, ints, k)

-- the second dimension first; and one past the last
pub swapped : chosen (1 ∷ 0 ∷ []) (pos 2 ∷ pos 3 ∷ pos 5 ∷ []) ≡ pos 2 ∷ pos 5 ∷ pos 3 ∷ []
swapped = refl

pub past_the_last : chosen (0 ∷ 4 ∷ []) (pos 1 ∷ pos 7 ∷ []) ≡ pos 1 ∷ pos 7 ∷ pos 0 ∷ []
past_the_last = refl

pub swapped_point : Moved 2 (1 ∷ 0 ∷ []) (λ y. entry y 1 ≡ pos 3) (pos 1 ∷ pos 5 ∷ pos 3 ∷ [])
swapped_point = record {
  from = pos 1 ∷ pos 3 ∷ pos 5 ∷ [];
  is_point = record { width = refl; divisor = omega (arith, ints) };
  inside = refl;
  same = λ j. refl;
}

-- two dimensions, then the one of a second polyhedron; and the first of two, with a third in its place
pub behind_two : replicate 2 1 ++ counted 1 0 ≡ 1 ∷ 1 ∷ 0 ∷ []
behind_two = refl

pub third_for_first : replaced 2 0 ≡ 2 ∷ 1 ∷ []
third_for_first = refl

-- if x is at least 1, that it is at least 0 is given; that y is at least x isn't
abbrev right_of_one : LinearRow
right_of_one = inequality (negsuc 0 ∷ pos 1 ∷ pos 0 ∷ [])

abbrev steep : LinearRow
steep = inequality (pos 0 ∷ negsuc 0 ∷ pos 1 ∷ [])

pub right_given : IsRedundant 2 (right_of_one ∷ []) (steep ∷ []) (inequality (pos 0 ∷ pos 1 ∷ pos 0 ∷ []))
right_given x i both =
    lower (entry x 0) (entry x 1) (entry x 2) i.divisor (both.0 right_of_one (contains_head right_of_one []))
  where
    lower : (d z w : ℤ) → pos 0 <ℤ d → pos 0 ≤ℤ ((negsuc 0 *ℤ d) +ℤ ((pos 1 *ℤ z) +ℤ ((pos 0 *ℤ w) +ℤ pos 0))) →
        pos 0 ≤ℤ ((pos 0 *ℤ d) +ℤ ((pos 1 *ℤ z) +ℤ ((pos 0 *ℤ w) +ℤ pos 0)))
    lower d z w h k = omega (arith, ints, h, k)

pub steep_needed : AreNeeded 2 (right_of_one ∷ []) (steep ∷ [])
steep_needed front g back e =
    split_one (λ (others : List LinearRow) (h : LinearRow). ¬ (IsRedundant 2 (right_of_one ∷ []) others h)) steep fails front g back e
  where
    -- at the point (1, 0)
    fails : IsRedundant 2 (right_of_one ∷ []) [] steep → ⊥
    fails valid =
        let low : pos 0 ≤ℤ negsuc 0 = valid (pos 1 ∷ pos 1 ∷ pos 0 ∷ [])
        (record { width = refl; divisor = omega (arith, ints) }) (
          con_cons right_of_one [] (pos 1 ∷ pos 1 ∷ pos 0 ∷ []) (omega (arith, ints)) (con_none (pos 1 ∷ pos 1 ∷ pos 0 ∷ [])),
          con_none (pos 1 ∷ pos 1 ∷ pos 0 ∷ []),
        ) in
        omega (arith, ints, low)

-- two of three in their order; not in the other order, and none twice
pub outer_two : IsSublist (right_of_one ∷ steep ∷ [])
    (right_of_one ∷ inequality (pos 0 ∷ pos 1 ∷ pos 0 ∷ []) ∷ steep ∷ [])
outer_two = inr (steep ∷ [], refl, inl (inr ([], refl, refl)))

pub not_turned : IsSublist (steep ∷ right_of_one ∷ []) (right_of_one ∷ steep ∷ []) → ⊥
not_turned s = grind arith

pub not_twice : IsSublist (steep ∷ steep ∷ []) (steep ∷ []) → ⊥
not_twice s = grind arith

-- if none is kept, no trial exceeds a limit
pub none_strains : (p context : Polyhedron) (loss : Loss) → SimplifyStrains p context [] loss → ⊥
none_strains p context loss s = split_none s.front s.tried s.back s.are

-- if 2 x is at least 1, the least end of x is 1/2, and it isn't 0
abbrev from_half : Polyhedron
from_half = record {
  dims = 1;
  rows = inequality (negsuc 0 ∷ pos 2 ∷ []) ∷ [];
  generators = generator (pos 2 ∷ pos 1 ∷ []) ∷ generator (pos 0 ∷ pos 1 ∷ []) ∷ [];
}

pub half_least : IsLeastEnd from_half (coordinate_form 1 0) (Some (record { num = pos 1; den = pos 2 }))
half_least = record {
  point = pos 2 ∷ pos 1 ∷ [];
  is_point = record { width = refl; divisor = omega (arith, ints) };
  inside = con_cons (inequality (negsuc 0 ∷ pos 2 ∷ [])) [] (pos 2 ∷ pos 1 ∷ []) (omega (arith, ints))
      (con_none (pos 2 ∷ pos 1 ∷ []));
  value = refl;
  least = λ x i c. from (entry x 0) (entry x 1)
      (c (inequality (negsuc 0 ∷ pos 2 ∷ [])) (contains_head (inequality (negsuc 0 ∷ pos 2 ∷ [])) []));
  positive = omega (arith, ints);
  lowest = λ d all. eq-one_of_dvd-one (all 0);
}
  where
    from : (d z : ℤ) → pos 0 ≤ℤ ((negsuc 0 *ℤ d) +ℤ ((pos 2 *ℤ z) +ℤ pos 0)) →
        (pos 1 *ℤ d) ≤ℤ (((pos 0 *ℤ d) +ℤ ((pos 1 *ℤ z) +ℤ pos 0)) *ℤ pos 2)
    from d z h = omega (arith, ints, h)

pub not_from_zero : IsLeastEnd from_half (coordinate_form 1 0) (Some (record { num = pos 0; den = pos 1 })) → ⊥
not_from_zero h =
    apart (entry h.point 0) (entry h.point 1) h.is_point.divisor h.value (h.inside (inequality (negsuc 0 ∷ pos 2 ∷ []))
    (contains_head (inequality (negsuc 0 ∷ pos 2 ∷ [])) []))
  where
    apart : (d z : ℤ) → pos 0 <ℤ d → ((pos 0 *ℤ d) +ℤ ((pos 1 *ℤ z) +ℤ pos 0)) *ℤ pos 1 ≡ pos 0 *ℤ d →
        pos 0 ≤ℤ ((negsuc 0 *ℤ d) +ℤ ((pos 2 *ℤ z) +ℤ pos 0)) → ⊥
    apart d z h e k = omega (arith, ints, h, e, k)

-- the store 3 is in the second of two
pub in_second : SomeHas (to_two ∷ from_one ∷ []) (pos 3 ∷ [])
in_second = inr (inl (con_cons (inequality (negsuc 0 ∷ pos 1 ∷ [])) [] (pos 1 ∷ pos 3 ∷ []) (omega (arith, ints))
    (con_none (pos 1 ∷ pos 3 ∷ []))))
