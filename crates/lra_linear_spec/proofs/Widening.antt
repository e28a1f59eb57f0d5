-- Tests on generators decide whether a constraint is valid, and the standard widening is the set of the rows that are tight.
use Rattle.std.proofs.Common.{Bool, List, [], ap, arith, cond, false, inl, inr, neg_ℤ, pos, refl, subst, sym, true, ℕ, ℤ, ◌++◌, ◌∙◌, ◌∷◌, ◌≡◌, ◌≢◌, ◌≤ℤ◌}
use Rattle.std.proofs.{lemmas.Bool.and_parts, lemmas.Int.ints, lemmas.List.Elements.Contains-append_cases, lemmas.List.Elements.Contains-append_left, lemmas.List.Elements.Contains-append_right}
use Rattle.std.specs.{Cmp.signed_Decides, List.Contains, List.list_all, Ordering.int_eq, Prelude.int_le, Prelude.◌&&◌, Prelude.◌||◌}
use Rattle.lra_linear_spec.specs.Descriptions.{Con, Gen, LinearRow, Holds, HoldsWith, system_of}
use Rattle.lra_linear_spec.specs.Vectors.{dot, entry, negated, product}
use Rattle.lra_linear_spec.specs.Widening.{LimitedWidening, StandardWidening, StandardFrom, holds_with, is_tight, is_valid}
use Rattle.lra_linear_spec.specs.{OperationStrain.tight_on, OperationStrain.valid_on, Points.IsPoint, Points.SameSet, Polyhedra.HasPoint, Polyhedra.Polyhedron, SetOperations.ValidOn}
use Rattle.lra_linear_spec.proofs.Descriptions.{gen_generated, holds_at_least, system_from, system_has, system_has_negated}
use Rattle.lra_linear_spec.proofs.Membership.{contains_none, filter_from, filter_has, list_all_at, list_all_from}
use Rattle.lra_linear_spec.proofs.SetOperations.{HasVertex, has_vertex, valid_on_rows}
use Rattle.lra_linear_spec.proofs.{LinearMaps.generated_nonneg, Polyhedra.con_gen, Products.dot_negated, Products.negated_dot, Signs.between_opposites, Signs.opposite_of_zero}

-- ---- tests of numbers
-- what the tests say
pub zero_said : (z : ℤ) → int_eq z (pos 0) ≡ true → z ≡ pos 0
zero_said z e = (signed_Decides z (pos 0)).0 e

at_least_said : (z : ℤ) → int_le (pos 0) z ≡ true → pos 0 ≤ℤ z
at_least_said z e = let h : true ≡ int_le (pos 0) z = sym e in omega (arith, ints, h)

-- ---- a constraint that holds with each generator holds at each point
-- with a generator of one sign, of either sign
with_generator : (b d : Bool) (z : ℤ) → cond (b || d) (int_eq z (pos 0)) (int_le (pos 0) z) ≡ true → pos 0 ≤ℤ z
with_generator true d z e = let h = zero_said z e in omega (arith, ints, h)
with_generator false true z e = let h = zero_said z e in omega (arith, ints, h)
with_generator false false z e = at_least_said z e

with_line : (b d : Bool) → d ≡ true → (z : ℤ) → cond (b || d) (int_eq z (pos 0)) (int_le (pos 0) z) ≡ true → z ≡ pos 0
with_line true d l z e = zero_said z e
with_line false true l z e = zero_said z e
with_line false false l z e = cc

with_equality : (b d : Bool) → b ≡ true → (z : ℤ) → cond (b || d) (int_eq z (pos 0)) (int_le (pos 0) z) ≡ true → z ≡ pos 0
with_equality true d l z e = zero_said z e
with_equality false d l z e = cc

-- the row's product with each generator in each direction is at least 0
rows_at_least : (r : LinearRow) (generators : List LinearRow) → list_all (holds_with r) generators ≡ true → (t : List ℤ) → Contains (system_of generators) t → pos 0 ≤ℤ product r.row t
rows_at_least r generators h t k =
    let f = system_from generators t k in
    let e = list_all_at (holds_with r) generators h f.given f.has in
    elim f.sign [
      | inl s ↦ subst (λ y. pos 0 ≤ℤ product r.row y) (sym s) (with_generator r.equal f.given.equal (product r.row f.given.row) e)
      | inr s ↦ subst (λ y. pos 0 ≤ℤ product r.row y) (sym s.1)
          (opposite_of_zero (product r.row f.given.row) (product r.row (negated f.given.row)) (dot_negated r.row f.given.row) (with_line r.equal f.given.equal s.0 (product r.row f.given.row) e))
    ]

-- and for an equality its negative too
rows_at_most : (r : LinearRow) (generators : List LinearRow) → r.equal ≡ true → list_all (holds_with r) generators ≡ true → (t : List ℤ) → Contains (system_of generators) t →
    pos 0 ≤ℤ dot (negated r.row) (entry t)
rows_at_most r generators q h t k =
    let f = system_from generators t k in
    let e = with_equality r.equal f.given.equal q (product r.row f.given.row) (list_all_at (holds_with r) generators h f.given f.has) in
    opposite_of_zero (product r.row t) (dot (negated r.row) (entry t)) (negated_dot r.row (entry t)) (elim f.sign [
      | inl s ↦ subst (λ y. product r.row y ≡ pos 0) (sym s) e
      | inr s ↦ subst (λ y. product r.row y ≡ pos 0) (sym s.1) (dot_negated r.row f.given.row ∙ ap neg_ℤ e)
    ])

-- a constraint that passes the test with each generator holds at each point
pub holds_on_generators : (r : LinearRow) (generators : List LinearRow) → list_all (holds_with r) generators ≡ true → (x : List ℤ) → Gen generators x →
    Holds r x
holds_on_generators r generators h x g = by_kind r.equal refl
  where
    low : pos 0 ≤ℤ product r.row x
    low = generated_nonneg r.row (system_of generators) (entry x) (rows_at_least r generators h) (gen_generated generators (entry x) g)

    by_kind : (b : Bool) → r.equal ≡ b → HoldsWith b (product r.row x)
    by_kind true q =
        between_opposites (product r.row x) (dot (negated r.row) (entry x)) (negated_dot r.row (entry x)) low
        (generated_nonneg (negated r.row) (system_of generators) (entry x) (rows_at_most r generators q h) (gen_generated generators (entry x) g))
    by_kind false q = low

-- ---- and the other way round
test_said : (b d : Bool) (z : ℤ) → pos 0 ≤ℤ z → (b ≡ true → z ≡ pos 0) → (d ≡ true → z ≡ pos 0) → cond (b || d) (int_eq z (pos 0)) (int_le (pos 0) z) ≡ true
test_said true d z h e f = (signed_Decides z (pos 0)).1 (e refl)
test_said false true z h e f = (signed_Decides z (pos 0)).1 (f refl)
test_said false false z h e f = let k : true ≡ int_le (pos 0) z = omega (arith, ints, h) in sym k

-- a constraint that holds at each point passes the test with each generator
pub generators_hold : (n : ℕ) (generators : List LinearRow) → HasVertex n generators → (r : LinearRow) → ((x : List ℤ) → IsPoint n x → Gen generators x → Holds r x) →
    list_all (holds_with r) generators ≡ true
generators_hold n generators h r valid = list_all_from (holds_with r) generators (λ g k.
    test_said r.equal g.equal (product r.row g.row) (low g.row (system_has generators g k))
    (λ e. between_opposites (product r.row g.row) (dot (negated r.row) (entry g.row)) (negated_dot r.row (entry g.row)) (low g.row (system_has generators g k))
    (high e g.row (system_has generators g k)))
    (λ e. between_opposites (product r.row g.row) (product r.row (negated g.row)) (dot_negated r.row g.row) (low g.row (system_has generators g k))
    (low (negated g.row) (system_has_negated generators g k e))))
  where
    opposite : (b : Bool) → b ≡ true → (z y : ℤ) → y ≡ neg_ℤ z → HoldsWith b z → pos 0 ≤ℤ y
    opposite true q z y e f = omega (arith, ints, e, f)
    opposite false q z y e f = cc

    low : (t : List ℤ) → Contains (system_of generators) t → pos 0 ≤ℤ product r.row t
    low = valid_on_rows n generators h r.row (λ y p g. holds_at_least r.equal (product r.row y) (valid y p g))

    high : r.equal ≡ true → (t : List ℤ) → Contains (system_of generators) t → pos 0 ≤ℤ dot (negated r.row) (entry t)
    high q = valid_on_rows n generators h (negated r.row) (λ y p g. opposite r.equal q (product r.row y) (dot (negated r.row) (entry y)) (negated_dot r.row (entry y)) (valid y p g))

-- the test on the generators of a polyhedron decides whether a constraint is valid
pub valid_decides : (p : Polyhedron) → HasPoint p → (r : LinearRow) → (is_valid p r ≡ true → ValidOn p.dims (Con p.rows) r) × (ValidOn p.dims (Con p.rows) r → is_valid p r ≡ true)
valid_decides p h r = (
  λ e x i c. holds_on_generators r p.generators e x ((con_gen p (inr h)).0 x i c),
  λ f. generators_hold p.dims p.generators (has_vertex p h) r (λ x i g. f x i ((con_gen p (inr h)).1 x i g)),
)

-- ---- the standard widening
pub standard_con : (n : ℕ) (p q : Polyhedron) → p.generators ≢ [] → SameSet n (StandardWidening p q) (Con (tight_on p q))
standard_con n p q some = by_list p.generators some
  where
    by_list : (generators : List LinearRow) → generators ≢ [] → SameSet n (StandardFrom generators p q) (Con (tight_on p q))
    by_list [] some = absurd (some refl)
    by_list (g ∷ generators) some = (
      λ x is_point s r k. let f = filter_from (is_tight p) q.rows r k in s r f.0 f.1,
      λ x is_point c r k t. c r (filter_has (is_tight p) q.rows r k t),
    )

-- the limited widening has the tight rows and the thresholds that are valid on both
pub limited_con : (p q : Polyhedron) (given : List LinearRow) → HasPoint p → HasPoint q → SameSet p.dims (LimitedWidening p q given) (Con (tight_on p q ++ valid_on p q given))
limited_con p q given h k = (
  λ x i l g m. elim (Contains-append_cases (tight_on p q) (valid_on p q given) g m) [
    | inl a ↦ (standard_con p.dims p q some).0 x i l.0 g a
    | inr b ↦
        let f = filter_from (λ r. is_valid p r && is_valid q r) given g b in
        let t = and_parts (is_valid p g) (is_valid q g) f.1 in
        l.1 g f.0 ((valid_decides p h g).0 t.0) ((valid_decides q k g).0 t.1)
  ],
  λ x i c. (
    (standard_con p.dims p q some).1 x i (λ g m. c g (Contains-append_left (tight_on p q) (valid_on p q given) g m)),
    λ g m a b. c g (Contains-append_right (tight_on p q) (valid_on p q given) g
        (filter_has (λ r. is_valid p r && is_valid q r) given g m (rw ((valid_decides p h g).1 a) ((valid_decides q k g).1 b)))),
  ),
)
  where
    some : p.generators ≢ []
    some e = contains_none (has_vertex p h).vertex (subst (λ l. Contains (system_of l) (has_vertex p h).vertex) e (has_vertex p h).has)
