-- What the pairs of generators and rows say of inclusion.
use Rattle.std.proofs.Common.{◌≡◌, ◌≤ℤ◌, ℕ, Bool, true, false, List, [], ◌∷◌, ap, refl, sym, ◌∙◌, subst, ℤ, inl, inr, arith, pos, cond}
use Rattle.std.proofs.{lemmas.Int.ints, lemmas.List.Elements.All-contains, lemmas.List.Elements.Contains-append_right}
use Rattle.std.specs.{Cmp.signed_Decides, List.All, List.Contains, Ordering.int_eq, Prelude.◌||◌, Prelude.int_le, Prelude.◌↔◌, Prelude.IsTrue}
use Rattle.lra_duality.specs.Crates.lra_linear_spec.Descriptions.{LinearRow, Con, HoldsWith}
use Rattle.lra_duality.specs.Crates.lra_linear_spec.Polyhedra.{Polyhedron, IsPolyhedron}
use Rattle.lra_duality.specs.Crates.lra_systems.LinearSystems.{LinearSystem, constraints, generators, rows_by_kind}
use Rattle.lra_duality.specs.Crates.{lra_linear_spec.Kinds.is_equality, lra_linear_spec.Kinds.is_line, lra_linear_spec.Points.IsWithin, lra_linear_spec.Vectors.product}
use Rattle.lra_duality.specs.Crates.{lra_linear_spec.Widening.holds_with, lra_linear_spec.declared.ConKind.ConKind, lra_linear_spec.declared.GenKind.GenKind, lra_systems.FirstPlaces.FirstAt}
use Rattle.lra_duality.proofs.Crates.lra_linear_spec.Membership.{contains_head, contains_none, list_all_at, list_all_from}
use Rattle.lra_duality.proofs.Crates.{lra_linear_spec.Polyhedra.con_gen, lra_linear_spec.Widening.holds_on_generators, lra_linear_spec.Widening.valid_decides, lra_systems.FirstMembers.err_from}
use Rattle.lra_duality.specs.declared.inclusion.Inclusion.TheVariants.{Yes, No, Wide}
use Rattle.lra_duality.specs.{Inclusions.Satisfies, Inclusions.SatisfiesAll, Inclusions.IsInclusion, Inclusions.IsReply, Inclusions.TellsInclusion, declared.inclusion.Inclusion.Inclusion}
use Rattle.lra_duality.specs.Crates.lra_systems.declared.membership.MembershipAnswer as H

pub has_member : {A : Type 0} (Before Here : A → Type 0) (list : List A) (place : ℕ) (f : FirstAt Before Here list place) → Contains list f.member
has_member {A = A} Before Here list place f = subst (λ (l : List A). Contains l f.member) (sym f.is)
    (Contains-append_right f.earlier (f.member ∷ f.later) f.member (contains_head f.member f.later))

all_within : (p q : Polyhedron) → IsPolyhedron p → All (SatisfiesAll q.rows) p.generators → IsWithin p.dims (Con p.rows) (Con q.rows)
all_within p q h all x is_point c r k =
    holds_on_generators r p.generators
    (list_all_from (holds_with r) p.generators (λ g m. (All-contains (Satisfies g) q.rows r (All-contains (SatisfiesAll q.rows) p.generators g all m) k).1))
    x ((con_gen p h).0 x is_point c)

not_within : (p q : Polyhedron) → IsPolyhedron p → (g r : LinearRow) → Contains p.generators g → Contains q.rows r → holds_with r g ≡ false → ¬ (IsWithin p.dims (Con p.rows) (Con q.rows))
not_within p q (inl none) g r m k fails w = contains_none g (subst (λ (l : List LinearRow). Contains l g) none.1 m)
not_within p q (inr h) g r m k fails w =
    let holds : holds_with r g ≡ true = list_all_at (holds_with r) p.generators ((valid_decides p h r).1 (λ x i c. w x i c r k)) g m in
    cc

pub inclusion_tells : (p q : Polyhedron) (answer : Inclusion) → IsPolyhedron p → IsInclusion q.rows p.generators answer → TellsInclusion p q answer
inclusion_tells p q Yes h a = all_within p q h a
inclusion_tells p q (No place) h a =
    not_within p q h a.member a.here.first.member (has_member _ _ p.generators place a) (has_member _ _ q.rows a.here.place a.here.first) a.here.first.here.1
inclusion_tells p q (Wide place row) h a =
    let e = err_from _ a.here.here in (
      e.0,
      record {
        row = a.here.member;
        has_row = has_member _ _ q.rows row a.here;
        generator = a.member;
        has_generator = has_member _ _ p.generators place a;
        passes = e.1;
      },
    )

-- of a list of rows
pub yes_within : (p : Polyhedron) (rows : List LinearRow) (answer : Inclusion) → IsPolyhedron p → IsInclusion rows p.generators answer → answer ≡ Yes →
    IsWithin p.dims (Con p.rows) (Con rows)
yes_within p rows answer h a e =
    all_within p (record { dims = p.dims; rows = rows; generators = [] }) h (subst (IsInclusion rows p.generators) e a)

-- ---- a constraint and a generator whose product is known
said_at_least : (b : Bool) (z : ℤ) → IsTrue b ↔ (pos 0 ≤ℤ z) → int_le (pos 0) z ≡ b
said_at_least true z h = let k = h.0 refl in let l : true ≡ int_le (pos 0) z = omega (arith, ints, k) in sym l
said_at_least false z h = by_value (int_le (pos 0) z) refl
  where
    by_value : (c : Bool) → int_le (pos 0) z ≡ c → int_le (pos 0) z ≡ false
    by_value false e = e
    by_value true e = let l : true ≡ int_le (pos 0) z = sym e in let k : false ≡ true = h.1 (omega (arith, ints, l)) in cc

said_zero : (b : Bool) (z : ℤ) → IsTrue b ↔ (z ≡ pos 0) → int_eq z (pos 0) ≡ b
said_zero true z h = (signed_Decides z (pos 0)).1 (h.0 refl)
said_zero false z h = by_value (int_eq z (pos 0)) refl
  where
    by_value : (c : Bool) → int_eq z (pos 0) ≡ c → int_eq z (pos 0) ≡ false
    by_value false e = e
    by_value true e = let k : false ≡ true = h.1 ((signed_Decides z (pos 0)).0 e) in cc

by_kinds : (b kind d : Bool) (z : ℤ) → IsTrue b ↔ HoldsWith (kind || d) z → cond (kind || d) (int_eq z (pos 0)) (int_le (pos 0) z) ≡ b
by_kinds b true d z h = said_zero b z h
by_kinds b false true z h = said_zero b z h
by_kinds b false false z h = said_at_least b z h

holds_by_kinds : (b kind d : Bool) (z : ℤ) (r g : LinearRow) → r.equal ≡ kind → g.equal ≡ d → z ≡ product r.row g.row → IsTrue b ↔ HoldsWith (kind || d) z → holds_with r g ≡ b
holds_by_kinds b kind d z r g ek ed ez h =
    ap (λ (k : Bool). cond (k || g.equal) (int_eq (product r.row g.row) (pos 0)) (int_le (pos 0) (product r.row g.row))) ek
    ∙ ap (λ (l : Bool). cond (kind || l) (int_eq (product r.row g.row) (pos 0)) (int_le (pos 0) (product r.row g.row))) ed
    ∙ ap (λ (y : ℤ). cond (kind || d) (int_eq y (pos 0)) (int_le (pos 0) y)) (sym ez) ∙ by_kinds b kind d z h

either_true : (kind : Bool) → (kind || true) ≡ true
either_true true = refl
either_true false = refl

either_false : (kind : Bool) → (kind || false) ≡ kind
either_false true = refl
either_false false = refl

-- with a line, and with a point or a ray
pub with_line : (b kind d : Bool) (z : ℤ) → d ≡ true → IsTrue b ↔ (z ≡ pos 0) → (r g : LinearRow) → r.equal ≡ kind → g.equal ≡ d → z ≡ product r.row g.row → holds_with r g ≡ b
with_line b kind d z l h r g ek ed ez =
    holds_by_kinds b kind true z r g ek (ed ∙ l) ez (subst (λ (k : Bool). IsTrue b ↔ HoldsWith k z) (sym (either_true kind)) h)

pub with_ray : (b kind d : Bool) (z : ℤ) → d ≡ false → IsTrue b ↔ HoldsWith kind z → (r g : LinearRow) → r.equal ≡ kind → g.equal ≡ d → z ≡ product r.row g.row → holds_with r g ≡ b
with_ray b kind d z l h r g ek ed ez =
    holds_by_kinds b kind false z r g ek (ed ∙ l) ez (subst (λ (k : Bool). IsTrue b ↔ HoldsWith k z) (sym (either_false kind)) h)

-- ---- as the code states it
pub reply_seen : (list : LinearSystem ConKind) (rows : List (List ℤ)) (kinds : List ConKind) (r : List ℤ) (line also : Bool) (answer : H.MembershipAnswer) → rows ≡ list.rows → kinds ≡ list.kinds →
    line ≡ also →
    IsReply (rows_by_kind is_equality rows kinds) (record { row = r; equal = line }) answer →
    IsReply (constraints list) (record { row = r; equal = also }) answer
reply_seen list rows kinds r line also answer er ek el a =
    subst (λ (d : Bool). IsReply (constraints list) (record { row = r; equal = d }) answer) el
    (subst (λ (ks : List ConKind). IsReply (rows_by_kind is_equality list.rows ks) (record { row = r; equal = line }) answer) ek
    (subst (λ (rs : List (List ℤ)). IsReply (rows_by_kind is_equality rs kinds) (record { row = r; equal = line }) answer) er a))

pub seen_generators : (P : List LinearRow → Type 0) (list : LinearSystem GenKind) (rows : List (List ℤ)) (kinds : List GenKind) → rows ≡ list.rows → kinds ≡ list.kinds →
    P (rows_by_kind is_line rows kinds) →
    P (generators list)
seen_generators P list rows kinds er ek a =
    subst (λ (ks : List GenKind). P (rows_by_kind is_line list.rows ks)) ek (subst (λ (rs : List (List ℤ)). P (rows_by_kind is_line rs kinds)) er a)
