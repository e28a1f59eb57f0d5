-- The one part of a polyhedron as the code's list of rows.
use Rattle.std.proofs.Common.{◌≡◌, ◌∙◌, ℕ, ℤ, pos, Bool, true, false, cond, map, List, [], ◌∷◌, length, inl, inr, ap, sym, refl, subst, arith}
use Rattle.std.proofs.lemmas.List.Elements.{All-cons, All-nil}
use Rattle.std.specs.{List.All, List.list_any, Prelude.◌↔◌, Prelude.IsTrue}
use Rattle.lra_domain.specs.{Laws.PartsAreExact, Parts.SomePartHolds}
use Rattle.lra_linear_spec.specs.Polyhedra.{IsPolyhedron, IsPolyhedronOf, Polyhedron}
use Rattle.lra_linear_spec.specs.{Descriptions.Con, Descriptions.LinearRow, Descriptions.rows_of, Kinds.constraint_kind, Kinds.is_equality, Points.IsEmptySet, declared.ConKind.ConKind}
use Rattle.lra_linear_spec.specs.declared.ConKind.TheVariants as con
use Rattle.lra_linear_spec.proofs.Descriptions.{con_none}
use Rattle.lra_poly_domain.specs.Crates.lra_systems.LinearSystems.{LinearSystem, constraints, rows_by_kind}
use Rattle.lra_poly_domain.specs.Content.{PolyhedronGamma, is_absurd, listed, polyhedron_parts}
use Rattle.lra_poly_domain.specs.{Abstraction.polyhedron_abstraction, Covering.empty_parts, Covering.parts_empty, Covering.store_point}

-- ---- the list whose constraints they are
pub kind_back : (kind : ConKind) → constraint_kind (is_equality kind) ≡ kind
kind_back con.Ge = refl
kind_back con.Eq = refl

rows_back : (rows : List (List ℤ)) (kinds : List ConKind) → length rows ≡ length kinds → rows_of (rows_by_kind is_equality rows kinds) ≡ rows
rows_back [] kinds e = refl
rows_back (r ∷ rows) [] e = let wrong : ⊥ = cc in absurd wrong
rows_back (r ∷ rows) (k ∷ kinds) e = ap (λ l. r ∷ l) (rows_back rows kinds (omega (arith, e)))

kinds_back : (rows : List (List ℤ)) (kinds : List ConKind) → length rows ≡ length kinds → map (λ (g : LinearRow). constraint_kind g.equal) (rows_by_kind is_equality rows kinds) ≡ kinds
kinds_back [] [] e = refl
kinds_back [] (k ∷ kinds) e = let wrong : ⊥ = cc in absurd wrong
kinds_back (r ∷ rows) [] e = let wrong : ⊥ = cc in absurd wrong
kinds_back (r ∷ rows) (k ∷ kinds) e =
    ap (λ x. x ∷ map (λ (g : LinearRow). constraint_kind g.equal) (rows_by_kind is_equality rows kinds)) (kind_back k) ∙ ap (λ l. k ∷ l) (kinds_back rows kinds (omega (arith, e)))

pub listed_back : (p : Polyhedron) (list : LinearSystem ConKind) → list.dims ≡ p.dims → constraints list ≡ p.rows → length list.kinds ≡ length list.rows → list ≡ listed p
listed_back p list d e n =
    whole list.dims p.dims list.rows (rows_of p.rows) list.kinds (map (λ (g : LinearRow). constraint_kind g.equal) p.rows) d
    (sym (rows_back list.rows list.kinds (sym n)) ∙ ap rows_of e)
    (sym (kinds_back list.rows list.kinds (sym n)) ∙ ap (map (λ (g : LinearRow). constraint_kind g.equal)) e)
  where
    whole : (a b : ℕ) (r s : List (List ℤ)) (k l : List ConKind) → a ≡ b → r ≡ s → k ≡ l →
        (let x : LinearSystem ConKind = record { dims = a; rows = r; kinds = k } in x) ≡ record { dims = b; rows = s; kinds = l }
    whole a b r s k l e f g =
        ap (λ (m : ℕ). let x : LinearSystem ConKind = record { dims = m; rows = r; kinds = k } in x) e ∙
        ap (λ (m : List (List ℤ)). let x : LinearSystem ConKind = record { dims = b; rows = m; kinds = k } in x) f ∙
        ap (λ (m : List ConKind). let x : LinearSystem ConKind = record { dims = b; rows = s; kinds = m } in x) g

-- and its constraints are those
constraints_back : (gs : List LinearRow) → rows_by_kind is_equality (rows_of gs) (map (λ (g : LinearRow). constraint_kind g.equal) gs) ≡ gs
constraints_back [] = refl
constraints_back (g ∷ gs) =
    ap (λ (b : Bool). (let y : LinearRow = record { row = g.row; equal = b } in y) ∷ rows_by_kind is_equality (rows_of gs) (map (λ (x : LinearRow). constraint_kind x.equal) gs))
    (equal_back g.equal) ∙
    ap (λ l. g ∷ l) (constraints_back gs)
  where
    equal_back : (b : Bool) → is_equality (constraint_kind b) ≡ b
    equal_back true = refl
    equal_back false = refl

-- ---- parts
pub parts_where_empty : (p : Polyhedron) (b : Bool) → IsPolyhedron p → IsTrue b ↔ IsEmptySet p.dims (Con p.rows) → IsTrue b ↔ (polyhedron_parts p ≡ [])
parts_where_empty p b h is = (λ t. empty_parts p h (is.0 t), λ e. is.1 (parts_empty p p.dims e))

pub empty_none : (p : Polyhedron) (b : Bool) → IsTrue b ↔ IsEmptySet p.dims (Con p.rows) → IsTrue b → (s : List ℤ) → ¬ PolyhedronGamma p s
empty_none p b is t s h = is.0 t (pos 1 ∷ s) (store_point p.dims s h.0) h.1

pub some_parts : (p : Polyhedron) (b : Bool) (list : LinearSystem ConKind) → IsTrue b ↔ IsEmptySet p.dims (Con p.rows) → b ≡ false → list.dims ≡ p.dims → constraints list ≡ p.rows →
    length list.kinds ≡ length list.rows → list ∷ [] ≡ polyhedron_parts p
some_parts p b list is none d e n = by_value (list_any is_absurd p.rows) refl
  where
    by_value : (a : Bool) → list_any is_absurd p.rows ≡ a → list ∷ [] ≡ cond a [] (listed p ∷ [])
    by_value false f = ap (λ l. l ∷ []) (listed_back p list d e n)
    by_value true f = let t = is.1 (parts_empty p p.dims (ap (λ (a : Bool). cond a [] (listed p ∷ [])) f)) in let wrong : ⊥ = cc in absurd wrong

pub no_parts : (p : Polyhedron) (b : Bool) → IsPolyhedron p → IsTrue b ↔ IsEmptySet p.dims (Con p.rows) → b ≡ true → [] ≡ polyhedron_parts p
no_parts p b h is t = sym (empty_parts p h (is.0 t))

-- the stores are those at which the rows of the part hold
pub parts_mean : (p : Polyhedron) (s : List ℤ) → length s ≡ p.dims → PolyhedronGamma p s ↔ SomePartHolds (polyhedron_parts p) s
parts_mean p s long = by_value (list_any is_absurd p.rows) refl
  where
    by_value : (a : Bool) → list_any is_absurd p.rows ≡ a → PolyhedronGamma p s ↔ SomePartHolds (cond a [] (listed p ∷ [])) s
    by_value false f = (
      λ h. inl (subst (λ l. Con l (pos 1 ∷ s)) (sym (constraints_back p.rows)) h.1),
      λ h. elim h [ inl c ↦ (long, subst (λ l. Con l (pos 1 ∷ s)) (constraints_back p.rows) c) | inr c ↦ absurd c ],
    )
    by_value true f = (
      λ h. parts_empty p p.dims (ap (λ (a : Bool). cond a [] (listed p ∷ [])) f) (pos 1 ∷ s) (store_point p.dims s h.0) h.1,
      λ h. absurd h,
    )

pub parts_dims : (p : Polyhedron) → All (λ (l : LinearSystem ConKind). l.dims ≡ p.dims) (polyhedron_parts p)
parts_dims p = by_value (list_any is_absurd p.rows)
  where
    by_value : (a : Bool) → All (λ (l : LinearSystem ConKind). l.dims ≡ p.dims) (cond a [] (listed p ∷ []))
    by_value false = All-cons (λ (l : LinearSystem ConKind). l.dims ≡ p.dims) (listed p) [] refl (All-nil (λ (l : LinearSystem ConKind). l.dims ≡ p.dims))
    by_value true = All-nil (λ (l : LinearSystem ConKind). l.dims ≡ p.dims)

-- ---- all stores, and none
pub universe_stores : (n : ℕ) (p : Polyhedron) → IsPolyhedronOf n (Con []) p → (s : List ℤ) → PolyhedronGamma p s ↔ (length s ≡ n)
universe_stores n p is s = (λ h. h.0 ∙ is.dimensions, λ e. (e ∙ sym is.dimensions, is.points.0 (pos 1 ∷ s) (store_point n s e) (con_none (pos 1 ∷ s))))

pub void_stores : (n : ℕ) (p : Polyhedron) → p.dims ≡ n → IsEmptySet n (Con p.rows) → (s : List ℤ) → ¬ PolyhedronGamma p s
void_stores n p d none s h = none (pos 1 ∷ s) (store_point n s (h.0 ∙ d)) h.1

pub parts_hold : (p : Polyhedron) (s : List ℤ) → PolyhedronGamma p s → SomePartHolds (polyhedron_parts p) s
parts_hold p s h = (parts_mean p s h.0).0 h

pub parts_tell : (p : Polyhedron) → PartsAreExact polyhedron_abstraction p
parts_tell p = λ s long h. (parts_mean p s long).1 h
