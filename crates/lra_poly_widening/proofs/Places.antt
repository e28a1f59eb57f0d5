-- Rows with their kinds at places.
use Rattle.std.proofs.Common.{Bool, Err, IsErr, List, Ok, Result, [], ap, arith, get_or, length, subst, suc, sym, zero, ℕ, ℤ, ◌++◌, ◌<◌, ◌∙◌, ◌∷◌, ◌≡◌}
use Rattle.std.proofs.lemmas.List.Elements.{Contains-append_left, Contains-append_right}
use Rattle.std.specs.List.{All, Contains}
use Rattle.lra_poly_widening.specs.Crates.lra_duality.Inclusions.{IsInclusion, Satisfies, SatisfiesAll, Passes}
use Rattle.lra_poly_widening.specs.Crates.{lra_duality.declared.inclusion.Inclusion.TheVariants.Wide, lra_linear_spec.CheckedArithmetic.checked_product, lra_linear_spec.Descriptions.LinearRow}
use Rattle.lra_poly_widening.specs.Crates.{lra_linear_spec.Kinds.is_equality, lra_linear_spec.Kinds.is_line, lra_linear_spec.Polyhedra.Polyhedron, lra_linear_spec.Strain.Loss}
use Rattle.lra_poly_widening.specs.Crates.{lra_linear_spec.declared.ConKind.ConKind, lra_linear_spec.declared.GenKind.GenKind, lra_linear_spec.declared.GenKind.TheVariants.Point}
use Rattle.lra_poly_widening.specs.Crates.lra_linear_spec.declared.Cause.TheVariants as cause
use Rattle.lra_poly_widening.specs.Crates.lra_linear_spec.declared.Excess as E
use Rattle.lra_poly_widening.proofs.Crates.{lra_duality.InclusionLemmas.has_member, lra_linear_spec.Membership.contains_head, lra_linear_spec.Membership.contains_tail}
use Rattle.lra_systems.specs.{FirstPlaces.FirstAt, LinearSystems.LinearSystem, LinearSystems.constraints, LinearSystems.generators, LinearSystems.rows_by_kind}
use Rattle.lra_systems.proofs.FirstMembers.{member}
use Rattle.lra_poly_widening.specs.{Validity.IsValidity, Widenings.PassesOnBoth}
use Rattle.lra_poly_widening.specs.declared.validity.Validity.TheVariants as told

-- ---- a member is among the rows
row_at : {K : Type 0} (equal : K → Bool) (rows : List (List ℤ)) (kinds : List K) (i : ℕ) (r : List ℤ) (k : K) → length kinds ≡ length rows → i < length rows → r ≡ get_or rows i r →
    Contains (rows_by_kind equal rows kinds) (member equal kinds i r k)
row_at equal [] kinds i r k n h e = absurd (omega (arith, h))
row_at equal (x ∷ rows) [] i r k n h e = absurd (omega (arith, n))
row_at equal (x ∷ rows) (kind ∷ kinds) zero r k n h e =
    subst (λ (y : List ℤ). Contains (rows_by_kind equal (x ∷ rows) (kind ∷ kinds)) (record { row = y; equal = equal kind })) (sym e)
    (contains_head (let g : LinearRow = record { row = x; equal = equal kind } in g) (rows_by_kind equal rows kinds))
row_at equal (x ∷ rows) (kind ∷ kinds) (suc i) r k n h e =
    contains_tail (let g : LinearRow = record { row = x; equal = equal kind } in g) (member equal kinds i r k) (rows_by_kind equal rows kinds)
    (row_at equal rows kinds i r k (omega (arith, n)) (omega (arith, h)) e)

pub row_among : {K : Type 0} (equal : K → Bool) (all : LinearSystem K) (rows : List (List ℤ)) (kinds : List K) (i : ℕ) (r : List ℤ) (k : K) → rows ≡ all.rows → kinds ≡ all.kinds →
    length kinds ≡ length all.rows →
    i < length rows → r ≡ get_or rows i r → Contains (rows_by_kind equal all.rows all.kinds) (member equal kinds i r k)
row_among equal all rows kinds i r k er ek n h e =
    subst (λ l. Contains (rows_by_kind equal all.rows l) (member equal kinds i r k)) ek
    (subst (λ l. Contains (rows_by_kind equal l kinds) (member equal kinds i r k)) er (row_at equal rows kinds i r k (n ∙ ap length (sym er)) h e))

pub width_at : (n : ℕ) (rows : List (List ℤ)) (i : ℕ) (r : List ℤ) → All (λ x. length x ≡ n) rows → i < length rows → r ≡ get_or rows i r → length r ≡ n
width_at n rows i r h l e = ap length e ∙ h i r l

-- ---- the member at the end of a beginning
given_at : {K : Type 0} (equal : K → Bool) (rows : List (List ℤ)) (kinds : List K) (e : List LinearRow) (m : LinearRow) (l : List LinearRow) → rows_by_kind equal rows kinds ≡ e ++ m ∷ l →
    length kinds ≡ length rows →
    (length e < length rows) × ((r : List ℤ) (k : K) → r ≡ get_or rows (length e) r → m ≡ record { row = r; equal = equal (get_or kinds (length e) k) })
given_at equal [] kinds [] m l h n = cc
given_at equal [] kinds (y ∷ e) m l h n = cc
given_at equal (x ∷ rows) [] e m l h n = absurd (omega (arith, n))
given_at equal (x ∷ rows) (kind ∷ kinds) [] m l h n = (
  omega arith,
  λ r k q. let first : m ≡ record { row = x; equal = equal kind } = cc in first ∙ ap (λ (y : List ℤ). (let g : LinearRow = record { row = y; equal = equal kind } in g)) (sym q),
)
given_at equal (x ∷ rows) (kind ∷ kinds) (y ∷ e) m l h n =
    let tail : rows_by_kind equal rows kinds ≡ e ++ m ∷ l = cc in
    let i = given_at equal rows kinds e m l tail (omega (arith, n)) in
    (omega (arith, i.0), i.1)

-- ---- an inclusion that is wide
pub record WidePair (p q : Polyhedron) (rows columns : List (List ℤ)) (kinds : List ConKind) (generator row : ℕ) : Type 0 where
  pub row_below : row < length rows
  pub column_below : generator < length columns
  pub here : (r g : List ℤ) (k : ConKind) → r ≡ get_or rows row r → g ≡ get_or columns generator g →
      Contains q.rows (record { row = r; equal = is_equality (get_or kinds row k) }) × ((x : LinearRow) × Contains p.generators x × (x.row ≡ g)) × IsErr (checked_product r g)

pub wide_pair : (p q : Polyhedron) (list : LinearSystem ConKind) (by : LinearSystem GenKind) (rows columns : List (List ℤ)) (kinds : List ConKind) (others : List GenKind) (generator row : ℕ) →
    constraints list ≡ q.rows →
    generators by ≡ p.generators → rows ≡ list.rows → kinds ≡ list.kinds → length kinds ≡ length list.rows → columns ≡ by.rows → others ≡ by.kinds → length others ≡ length by.rows →
    IsInclusion q.rows p.generators (Wide generator row) → WidePair p q rows columns kinds generator row
wide_pair p q list by rows columns kinds others generator row el eb er ek n ec eo m w =
    let rows_are : rows_by_kind is_equality rows kinds ≡ q.rows =
    ap (λ l. rows_by_kind is_equality l kinds) er ∙ ap (rows_by_kind is_equality list.rows) ek ∙ el in
    let columns_are : rows_by_kind is_line columns others ≡ p.generators =
    ap (λ l. rows_by_kind is_line l others) ec ∙ ap (rows_by_kind is_line by.rows) eo ∙ eb in
    let a = given_at is_line columns others w.earlier w.member w.later (columns_are ∙ w.is) (m ∙ ap length (sym ec)) in
    let b = given_at is_equality rows kinds w.here.earlier w.here.member w.here.later (rows_are ∙ w.here.is) (n ∙ ap length (sym er)) in
    record {
      row_below = subst (λ (i : ℕ). i < length rows) w.here.at b.0;
      column_below = subst (λ (i : ℕ). i < length columns) w.at a.0;
      here = λ r g k h i.
          let r_is : w.here.member ≡ record { row = r; equal = is_equality (get_or kinds row k) } =
          subst (λ (j : ℕ). w.here.member ≡ record { row = r; equal = is_equality (get_or kinds j k) }) w.here.at
          (b.1 r k (h ∙ ap (λ (j : ℕ). get_or rows j r) (sym w.here.at))) in
          let g_is : w.member.row ≡ g = column g a.1 i in (
            subst (Contains q.rows) r_is (has_member (Satisfies w.member) (Passes w.member) q.rows row w.here),
            (w.member, has_member (SatisfiesAll q.rows) (λ x. FirstAt (Satisfies x) (Passes x) q.rows row) p.generators generator w, g_is),
            subst (λ (y : List ℤ). IsErr (checked_product r y)) g_is (subst (λ (y : LinearRow). IsErr (checked_product y.row w.member.row)) r_is w.here.here),
          );
    }
  where
    column : (g : List ℤ) → ((r : List ℤ) (k : GenKind) → r ≡ get_or columns (length w.earlier) r → w.member ≡ record { row = r; equal = is_line (get_or others (length w.earlier) k) }) →
        g ≡ get_or columns generator g → w.member.row ≡ g
    column g f i = ap (λ (y : LinearRow). y.row) (f g Point (i ∙ ap (λ (j : ℕ). get_or columns j g) (sym w.at)))

-- the loss of that pair
pub pair_passes : (p q : Polyhedron) (rows columns : List (List ℤ)) (kinds : List ConKind) (generator row : ℕ) (r g : List ℤ) (k : ConKind) (e : E.Excess) (loss : Loss) →
    WidePair p q rows columns kinds generator row → r ≡ get_or rows row r → g ≡ get_or columns generator g → Err e ≡ checked_product r g →
    loss ≡ record { chosen = []; further = record { row = r; equal = is_equality (get_or kinds row k) }; cause = cause.Excess e } → (given : List LinearRow) → PassesOnBoth p q given loss
pair_passes p q rows columns kinds generator row r g k e loss w er eg passes is given =
    let h = w.here r g k er eg in
    record {
      excess = e;
      is_cause = ap (λ (l : Loss). l.cause) is;
      passes = record {
        row = record { row = r; equal = is_equality (get_or kinds row k) };
        has_row = Contains-append_left q.rows given (record { row = r; equal = is_equality (get_or kinds row k) }) h.0;
        generator = h.1.0;
        has_generator = Contains-append_left p.generators q.generators h.1.0 h.1.1;
        passes = ap (checked_product r) h.1.2 ∙ sym passes;
      };
      is_further = ap (λ (l : Loss). l.further) is;
      nothing = ap (λ (l : Loss). l.chosen) is;
    }

pub never_ok : {A X : Type 0} (q : Result A X) (x : A) → q ≡ Ok x → IsErr q → ⊥
never_ok (Ok y) x e h = cc
never_ok (Err y) x e h = cc

-- the loss of a widening threshold
pub given_passes : (p q : Polyhedron) (given : List LinearRow) (r : LinearRow) (e : E.Excess) (loss : Loss) → Contains given r → IsValidity (p.generators ++ q.generators) r (told.Wide e) →
    loss ≡ record { chosen = []; further = r; cause = cause.Excess e } → PassesOnBoth p q given loss
given_passes p q given r e loss has w is = record {
  excess = e;
  is_cause = ap (λ (l : Loss). l.cause) is;
  passes = record { row = r; has_row = Contains-append_right q.rows given r has; generator = w.0; has_generator = w.1; passes = w.2 };
  is_further = ap (λ (l : Loss). l.further) is;
  nothing = ap (λ (l : Loss). l.chosen) is;
}
