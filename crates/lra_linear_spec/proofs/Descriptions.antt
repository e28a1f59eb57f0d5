-- Descriptions of sets of points as cones: constraints hold at a point if their system is solved, and generators give a point
-- if their rows generate it. Two dual lists so have the same points.
use Rattle.std.proofs.Common.{Bool, List, [], ap, arith, cond, false, inl, inr, pos, refl, subst, suc, sym, true, ℕ, ℤ, ◌∙◌, ◌∷◌, ◌≡◌, ◌≤ℤ◌, ◌⊎◌}
use Rattle.std.proofs.{lemmas.Int.ints, lemmas.List.Elements.Contains-append_cases, lemmas.List.Elements.Contains-append_left, lemmas.List.Elements.Contains-append_right}
use Rattle.std.specs.List.{Contains}
use Rattle.lra_linear_spec.specs.Cones.{AreDual, Described, Generated, Solves, all_rows, both_ways, with_row}
use Rattle.lra_linear_spec.specs.Descriptions.{Con, Gen, LinearRow, Holds, HoldsWith, lines_of, rays_of, system_of}
use Rattle.lra_linear_spec.specs.{Points.SameSet, Vectors.dot, Vectors.entry, Vectors.negated, Vectors.product}
use Rattle.lra_linear_spec.proofs.Lines.{described_generated, generated_described, in_lines, in_lines_negated, signed_from}
use Rattle.lra_linear_spec.proofs.{Combinations.generated_row, LinearMaps.generated_nonneg, LinearMaps.generated_through, Membership.contains_cases, Membership.contains_head, Membership.contains_none}
use Rattle.lra_linear_spec.proofs.{Membership.contains_tail, Products.negated_dot, Products.product_comm, Signs.between_opposites, Signs.opposite_of_zero}

-- ---- the rows of a list, each equality or line in both directions
-- where a row of the system comes from
pub record FromGiven (list : List LinearRow) (r : List ℤ) : Type 0 where
  pub given : LinearRow
  pub has : Contains list given
  pub sign : (r ≡ given.row) ⊎ ((given.equal ≡ true) × (r ≡ negated given.row))

from_later : (g : LinearRow) (list : List LinearRow) (r : List ℤ) → FromGiven list r → FromGiven (g ∷ list) r
from_later g list r x = record { given = x.given; has = contains_tail g x.given list x.has; sign = x.sign }

-- each row of the system is a row of the list, or the opposite of an equality or line
pub system_from : (list : List LinearRow) (r : List ℤ) → Contains (system_of list) r → FromGiven list r
system_from [] r k = absurd (contains_none r k)
system_from (g ∷ list) r k = by_kind g.equal refl k (λ m. system_from list r m)
  where
    by_kind : (b : Bool) → g.equal ≡ b → Contains (with_row b g.row (system_of list)) r → (Contains (system_of list) r → FromGiven list r) → FromGiven (g ∷ list) r
    by_kind true e k rest = elim (contains_cases g.row r (negated g.row ∷ system_of list) k) [
      | inl s ↦ record { given = g; has = contains_head g list; sign = inl (sym s) }
      | inr d ↦ elim (contains_cases (negated g.row) r (system_of list) d) [
        | inl s ↦ record { given = g; has = contains_head g list; sign = inr (e, sym s) }
        | inr m ↦ from_later g list r (rest m)
      ]
    ]
    by_kind false e k rest = elim (contains_cases g.row r (system_of list) k) [
      | inl s ↦ record { given = g; has = contains_head g list; sign = inl (sym s) }
      | inr m ↦ from_later g list r (rest m)
    ]

system_later : (g : LinearRow) (list : List LinearRow) (r : List ℤ) → Contains (system_of list) r → Contains (system_of (g ∷ list)) r
system_later g list r k = by_kind g.equal
  where
    by_kind : (b : Bool) → Contains (with_row b g.row (system_of list)) r
    by_kind true = contains_tail g.row r (negated g.row ∷ system_of list) (contains_tail (negated g.row) r (system_of list) k)
    by_kind false = contains_tail g.row r (system_of list) k

-- and each row of the list is there
pub system_has : (list : List LinearRow) (g : LinearRow) → Contains list g → Contains (system_of list) g.row
system_has [] g k = absurd (contains_none g k)
system_has (x ∷ list) g k = elim (contains_cases x g list k) [
  | inl e ↦ subst (λ y. Contains (system_of (x ∷ list)) y.row) e (first x.equal)
  | inr d ↦ system_later x list g.row (system_has list g d)
]
  where
    first : (b : Bool) → Contains (with_row b x.row (system_of list)) x.row
    first true = contains_head x.row (negated x.row ∷ system_of list)
    first false = contains_head x.row (system_of list)

-- with its opposite if it is an equality or a line
pub system_has_negated : (list : List LinearRow) (g : LinearRow) → Contains list g → g.equal ≡ true → Contains (system_of list) (negated g.row)
system_has_negated [] g k e = absurd (contains_none g k)
system_has_negated (x ∷ list) g k e = elim (contains_cases x g list k) [
  | inl s ↦ subst (λ y. Contains (system_of (x ∷ list)) (negated y.row)) s (second x.equal (ap (λ y. y.equal) s ∙ e))
  | inr d ↦ system_later x list (negated g.row) (system_has_negated list g d e)
]
  where
    second : (b : Bool) → b ≡ true → Contains (with_row b x.row (system_of list)) (negated x.row)
    second true e = contains_tail x.row (negated x.row) (negated x.row ∷ system_of list) (contains_head (negated x.row) (system_of list))
    second false e = cc

-- so what comes from a member is in the system
pub system_there : (list : List LinearRow) (t : List ℤ) → FromGiven list t → Contains (system_of list) t
system_there list t f = elim f.sign [
  | inl e ↦ subst (Contains (system_of list)) (sym e) (system_has list f.given f.has)
  | inr e ↦ subst (Contains (system_of list)) (sym e.1) (system_has_negated list f.given f.has e.0)
]

-- ---- constraints
pub holds_at_least : (b : Bool) (z : ℤ) → HoldsWith b z → pos 0 ≤ℤ z
holds_at_least true z e = omega (arith, ints, e)
holds_at_least false z e = e

-- the constraints hold at a point exactly if it solves their system
pub con_solves : (rows : List LinearRow) (x : List ℤ) → Con rows x → Solves (system_of rows) (entry x)
con_solves rows x h r k =
    let f = system_from rows r k in
    elim f.sign [
      | inl e ↦ subst (λ y. pos 0 ≤ℤ product y x) (sym e) (holds_at_least f.given.equal (product f.given.row x) (h f.given f.has))
      | inr e ↦ subst (λ y. pos 0 ≤ℤ product y x) (sym e.1)
          (opposite_of_zero (product f.given.row x) (dot (negated f.given.row) (entry x)) (negated_dot f.given.row (entry x)) (zero_at f.given.equal e.0 (product f.given.row x) (h f.given f.has)))
    ]
  where
    zero_at : (b : Bool) → b ≡ true → (z : ℤ) → HoldsWith b z → z ≡ pos 0
    zero_at true e z h = h
    zero_at false e z h = cc

pub solves_con : (rows : List LinearRow) (x : List ℤ) → Solves (system_of rows) (entry x) → Con rows x
solves_con rows x h g k = by_kind g.equal refl
  where
    by_kind : (b : Bool) → g.equal ≡ b → HoldsWith b (product g.row x)
    by_kind true e = between_opposites (product g.row x) (dot (negated g.row) (entry x)) (negated_dot g.row (entry x)) (h g.row (system_has rows g k))
        (h (negated g.row) (system_has_negated rows g k e))
    by_kind false e = h g.row (system_has rows g k)

-- row by row
pub con_none : (x : List ℤ) → Con [] x
con_none x g k = absurd (contains_none g k)

pub con_cons : (r : LinearRow) (rows : List LinearRow) (x : List ℤ) → Holds r x → Con rows x → Con (r ∷ rows) x
con_cons r rows x h c g k = elim (contains_cases r g rows k) [ inl e ↦ subst (λ y. Holds y x) e h | inr d ↦ c g d ]

pub con_head : (r : LinearRow) (rows : List LinearRow) (x : List ℤ) → Con (r ∷ rows) x → Holds r x
con_head r rows x c = c r (contains_head r rows)

pub con_tail : (r : LinearRow) (rows : List LinearRow) (x : List ℤ) → Con (r ∷ rows) x → Con rows x
con_tail r rows x c g k = c g (contains_tail r g rows k)

-- ---- generators
lines_from : (list : List LinearRow) (l : List ℤ) → Contains (lines_of list) l → (g : LinearRow) × Contains list g × (g.equal ≡ true) × (g.row ≡ l)
lines_from [] l k = absurd (contains_none l k)
lines_from (g ∷ list) l k = by_kind g.equal refl k (λ m. lines_from list l m)
  where
    later : (g' : LinearRow) × Contains list g' × (g'.equal ≡ true) × (g'.row ≡ l) →
        (g' : LinearRow) × Contains (g ∷ list) g' × (g'.equal ≡ true) × (g'.row ≡ l)
    later x = (x.0, contains_tail g x.0 list x.1, x.2, x.3)

    by_kind : (b : Bool) → g.equal ≡ b → Contains (cond b (g.row ∷ lines_of list) (lines_of list)) l →
        (Contains (lines_of list) l → (g' : LinearRow) × Contains list g' × (g'.equal ≡ true) × (g'.row ≡ l)) → (g' : LinearRow) × Contains (g ∷ list) g' × (g'.equal ≡ true) × (g'.row ≡ l)
    by_kind true e k rest = elim (contains_cases g.row l (lines_of list) k) [ inl s ↦ (g, contains_head g list, e, s) | inr d ↦ later (rest d) ]
    by_kind false e k rest = later (rest k)

rays_from : (list : List LinearRow) (r : List ℤ) → Contains (rays_of list) r → (g : LinearRow) × Contains list g × (g.row ≡ r)
rays_from [] r k = absurd (contains_none r k)
rays_from (g ∷ list) r k = by_kind g.equal k (λ m. rays_from list r m)
  where
    later : (g' : LinearRow) × Contains list g' × (g'.row ≡ r) → (g' : LinearRow) × Contains (g ∷ list) g' × (g'.row ≡ r)
    later x = (x.0, contains_tail g x.0 list x.1, x.2)

    by_kind : (b : Bool) → Contains (cond b (rays_of list) (g.row ∷ rays_of list)) r → (Contains (rays_of list) r → (g' : LinearRow) × Contains list g' × (g'.row ≡ r)) →
        (g' : LinearRow) × Contains (g ∷ list) g' × (g'.row ≡ r)
    by_kind true k rest = later (rest k)
    by_kind false k rest = elim (contains_cases g.row r (rays_of list) k) [ inl s ↦ (g, contains_head g list, s) | inr d ↦ later (rest d) ]

lines_have : (list : List LinearRow) (g : LinearRow) → Contains list g → g.equal ≡ true → Contains (lines_of list) g.row
lines_have [] g k e = absurd (contains_none g k)
lines_have (x ∷ list) g k e = elim (contains_cases x g list k) [
  | inl s ↦ subst (λ y. Contains (lines_of (x ∷ list)) y.row) s (first x.equal (ap (λ y. y.equal) s ∙ e))
  | inr d ↦ later x.equal (lines_have list g d e)
]
  where
    first : (b : Bool) → b ≡ true → Contains (cond b (x.row ∷ lines_of list) (lines_of list)) x.row
    first true e = contains_head x.row (lines_of list)
    first false e = cc

    later : (b : Bool) → Contains (lines_of list) g.row → Contains (cond b (x.row ∷ lines_of list) (lines_of list)) g.row
    later true d = contains_tail x.row g.row (lines_of list) d
    later false d = d

rays_have : (list : List LinearRow) (g : LinearRow) → Contains list g → g.equal ≡ false → Contains (rays_of list) g.row
rays_have [] g k e = absurd (contains_none g k)
rays_have (x ∷ list) g k e = elim (contains_cases x g list k) [
  | inl s ↦ subst (λ y. Contains (rays_of (x ∷ list)) y.row) s (first x.equal (ap (λ y. y.equal) s ∙ e))
  | inr d ↦ later x.equal (rays_have list g d e)
]
  where
    first : (b : Bool) → b ≡ false → Contains (cond b (rays_of list) (x.row ∷ rays_of list)) x.row
    first true e = cc
    first false e = contains_head x.row (rays_of list)

    later : (b : Bool) → Contains (rays_of list) g.row → Contains (cond b (rays_of list) (x.row ∷ rays_of list)) g.row
    later true d = d
    later false d = contains_tail x.row g.row (rays_of list) d

-- a row of the system of a list is a row of its lines and rays
pub in_all_rows : (list : List LinearRow) (t : List ℤ) → Contains (system_of list) t → Contains (all_rows (lines_of list) (rays_of list)) t
in_all_rows list t k =
    let f = system_from list t k in
    elim f.sign [
      | inl e ↦ subst (Contains (all_rows (lines_of list) (rays_of list))) (sym e) (by_kind f.given f.has f.given.equal refl)
      | inr e ↦ subst (Contains (all_rows (lines_of list) (rays_of list))) (sym e.1)
          (Contains-append_right (rays_of list) (both_ways (lines_of list)) (negated f.given.row) (in_lines_negated (lines_of list) f.given.row (lines_have list f.given f.has e.0)))
    ]
  where
    by_kind : (g : LinearRow) → Contains list g → (b : Bool) → g.equal ≡ b → Contains (all_rows (lines_of list) (rays_of list)) g.row
    by_kind g k true e = Contains-append_right (rays_of list) (both_ways (lines_of list)) g.row (in_lines (lines_of list) g.row (lines_have list g k e))
    by_kind g k false e = Contains-append_left (rays_of list) (both_ways (lines_of list)) g.row (rays_have list g k e)

pub in_system : (list : List LinearRow) (t : List ℤ) → Contains (all_rows (lines_of list) (rays_of list)) t → Contains (system_of list) t
in_system list t k = elim (Contains-append_cases (rays_of list) (both_ways (lines_of list)) t k) [
  | inl r ↦ let f = rays_from list t r in subst (Contains (system_of list)) f.2 (system_has list f.0 f.1)
  | inr b ↦
      let s = signed_from (lines_of list) t b in
      let f = lines_from list s.line s.has in
      elim s.sign [
        | inl e ↦ subst (Contains (system_of list)) (f.3 ∙ sym e) (system_has list f.0 f.1)
        | inr e ↦ subst (Contains (system_of list)) (ap negated f.3 ∙ sym e) (system_has_negated list f.0 f.1 f.2)
      ]
]

-- generators give a point exactly if their rows generate it
pub gen_generated : (list : List LinearRow) (u : ℕ → ℤ) → Described (lines_of list) (rays_of list) u → Generated (system_of list) u
gen_generated list u d =
    generated_through (system_of list) (all_rows (lines_of list) (rays_of list)) u (λ t k. generated_row (system_of list) t (in_system list t k))
    (generated_described (lines_of list) (rays_of list) u d)

pub generated_gen : (list : List LinearRow) (u : ℕ → ℤ) → Generated (system_of list) u → Described (lines_of list) (rays_of list) u
generated_gen list u g =
    described_generated (lines_of list) (rays_of list) u
    (generated_through (all_rows (lines_of list) (rays_of list)) (system_of list) u (λ t k. generated_row (all_rows (lines_of list) (rays_of list)) t (in_all_rows list t k)) g)

-- ---- dual lists have the same points
pub dual_same_points : (n : ℕ) (rows generators : List LinearRow) → AreDual (suc n) (system_of rows) (system_of generators) →
    SameSet n (Con rows) (Gen generators)
dual_same_points n rows generators d = (
  λ x p h. generated_gen generators (entry x) (d.solutions x p.width (con_solves rows x h)),
  λ x p h. solves_con rows x (λ r k. generated_nonneg r (system_of generators) (entry x) (λ t i. d.meets t i r k) (gen_generated generators (entry x) h)),
)

-- the duality of two lists goes both ways
pub dual_flipped : (w : ℕ) (system rows : List (List ℤ)) → AreDual w system rows → AreDual w rows system
dual_flipped w system rows d = record {
  system_widths = d.row_widths;
  row_widths = d.system_widths;
  solutions = d.consequences;
  consequences = d.solutions;
  meets = λ c k r m. subst (λ z. pos 0 ≤ℤ z) (product_comm c r) (d.meets r m c k);
}
