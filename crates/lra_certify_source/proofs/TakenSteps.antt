-- What is taken of values: a point of a value is one of its rows, and there are rows if there is a point.
use Rattle.std.proofs.Common.{◌≡◌, ◌≢◌, ◌∙◌, ◌<◌, ℕ, ℤ, true, false, List, [], ◌∷◌, ◌++◌, length, refl, ap, sym, subst, arith, inl, inr}
use Rattle.std.proofs.{lemmas.List.append_assoc, lemmas.Option.none-some, lemmas.Option.same_Some, lemmas.Option.slice_get-map}
use Rattle.std.specs.Prelude.{Option, None, Some, option_map, map, slice_get, Contains}
use Rattle.lra_certify_source.specs.Crates.lra_linear_spec.Polyhedra.{Polyhedron, IsPolyhedron, HasPoint, falsity}
use Rattle.lra_certify_source.specs.Crates.lra_systems.LinearSystems.{LinearSystem, rows_by_kind, generators}
use Rattle.lra_certify_source.specs.Crates.{lra_certificate_spec.Judged.RowsAtPoint, lra_linear_spec.Descriptions.LinearRow, lra_linear_spec.Descriptions.rows_as, lra_linear_spec.Descriptions.Con}
use Rattle.lra_certify_source.specs.Crates.{lra_linear_spec.Kinds.is_line, lra_linear_spec.Points.IsPoint, lra_linear_spec.declared.ConKind.ConKind, lra_linear_spec.declared.GenKind.GenKind}
use Rattle.lra_certify_source.proofs.Crates.{lra_linear_spec.Membership.contains_head, lra_linear_spec.OneSpelling.falsity_never}
use Rattle.lra_certify.specs.InductiveRows.{IsIn}
use Rattle.lra_certify_source.specs.Extraction.{rows_if_any, state_by, dims_by, dims_in}

-- ---- points and rows
any_rows : (points : List (List ℤ)) (further rows : List LinearRow) → points ≢ [] → rows_if_any (rows_as false points ++ further) rows ≡ Some rows
any_rows [] further rows some = absurd (some refl)
any_rows (r ∷ points) further rows some = refl

some_state : (p : Polyhedron) (h : HasPoint p) → state_by p ≡ Some p.rows
some_state p h =
    ap (λ (gs : List LinearRow). rows_if_any gs p.rows)
    (h.generators_are ∙ append_assoc (rows_as false h.points) (rows_as false h.rays) (rows_as true h.lines))
    ∙ any_rows h.points (rows_as false h.rays ++ rows_as true h.lines) p.rows h.some_point

pub in_state : (p : Polyhedron) (y : List ℤ) → IsPolyhedron p → IsPoint p.dims y → Con p.rows y → IsIn (state_by p) y
in_state p y (inl none) point inside =
    let never : LinearRow = record { row = falsity p.dims; equal = false } in
    absurd (falsity_never p.dims y point (inside never (subst (λ (l : List LinearRow). Contains l never) (sym none.0) (contains_head never []))))
in_state p y (inr has) point inside = subst (λ (s : RowsAtPoint). IsIn s y) (sym (some_state p has)) inside

rows_are : (gs rows given : List LinearRow) → rows_if_any gs rows ≡ Some given → given ≡ rows
rows_are [] rows given e = absurd (none-some given e)
rows_are (g ∷ gs) rows given e = sym (same_Some rows given e)

-- the rows of a value that has some
pub state_rows : (p : Polyhedron) (given : List LinearRow) → state_by p ≡ Some given → given ≡ p.rows
state_rows p given e = rows_are p.generators p.rows given e

any_listed : (rows : List (List ℤ)) (kinds : List GenKind) (given : List LinearRow) → length kinds ≡ length rows → 0 < length kinds
    → rows_if_any (rows_by_kind is_line rows kinds) given ≡ Some given
any_listed [] [] given long some = absurd (omega (arith, some))
any_listed [] (k ∷ kinds) given long some = absurd (omega (arith, long))
any_listed (r ∷ rows) [] given long some = absurd (omega (arith, some))
any_listed (r ∷ rows) (k ∷ kinds) given long some = refl

-- if a list of generators has a kind
pub rows_kept : (gens : LinearSystem GenKind) (given rows : List LinearRow) → length gens.kinds ≡ length gens.rows → 0 < length gens.kinds
    → generators gens ≡ given → rows_if_any given rows ≡ Some rows
rows_kept gens given rows long some is =
    subst (λ (gs : List LinearRow). rows_if_any gs rows ≡ Some rows) is (any_listed gens.rows gens.kinds rows long some)

-- ---- dimensions
some_dims : (n m : ℕ) (state : RowsAtPoint) → Some m ≡ option_map (λ (r : List LinearRow). n) state → m ≡ n
some_dims n m None e = absurd (none-some m (sym e))
some_dims n m (Some rows) e = same_Some m n e

-- rows that are taken have the dimensions of the value at their place
pub taken_dims : (states : List (Option (LinearSystem ConKind))) (values : List Polyhedron) (q : ℕ) (rows : LinearSystem ConKind) (v : Polyhedron)
    → map dims_in states ≡ map dims_by values → slice_get states q ≡ Some (Some rows) → slice_get values q ≡ Some v → rows.dims ≡ v.dims
taken_dims states values q rows v same there value =
    let left = slice_get-map dims_in states q ∙ ap (option_map dims_in) there in
    let right = slice_get-map dims_by values q ∙ ap (option_map dims_by) value in
    let both : Some (dims_in (Some rows)) ≡ Some (dims_by v) = sym left ∙ ap (λ (l : List (Option ℕ)). slice_get l q) same ∙ right in
    some_dims v.dims rows.dims (state_by v) (same_Some (dims_in (Some rows)) (dims_by v) both)
