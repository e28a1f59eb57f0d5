-- Constraints moved to other dimensions: what they ask of a point.
use Rattle.std.proofs.Common.{◌≡◌, ℕ, zero, suc, ◌<◌, ◌≤◌, ◌+◌, List, [], ◌∷◌, ◌++◌, length, map, take, drop, get_or, replicate, ap, refl, sym, ◌∙◌, subst, ℤ, pos, ◌+ℤ◌, ◌*ℤ◌, add-one, append_assoc}
use Rattle.std.proofs.{Common.arith, lemmas.List.get_or_default, lemmas.List.length-append, lemmas.List.map-append, lemmas.List.take_all}
use Rattle.std.specs.List.{Contains}
use Rattle.lra_poly_queries.specs.Crates.lra_linear_spec.Descriptions.{Con, LinearRow, Holds, HoldsWith}
use Rattle.lra_poly_queries.specs.Crates.{lra_linear_spec.Kinds.is_equality, lra_linear_spec.Points.SameSet, lra_linear_spec.Polyhedra.IsPolyhedron, lra_linear_spec.Polyhedra.Polyhedron}
use Rattle.lra_poly_queries.specs.Crates.{lra_linear_spec.Vectors.dot, lra_linear_spec.Vectors.entry, lra_linear_spec.Vectors.product, lra_linear_spec.declared.ConKind.ConKind}
use Rattle.lra_poly_queries.proofs.Crates.lra_linear_spec.Products.{dot_same, entry_past}
use Rattle.lra_poly_queries.proofs.Crates.lra_linear_spec.Ring.{ring, v, ◌⊕◌, ◌⊗◌}
use Rattle.lra_poly_queries.proofs.Crates.{lra_duality.PolyhedronLemmas.given_width, lra_linear_spec.Membership.map_from, lra_linear_spec.Membership.map_has, lra_linear_spec.SetOperations.meet_con}
use Rattle.lra_systems.specs.LinearSystems.{LinearSystem, constraints, rows_by_kind}
use Rattle.lra_systems.proofs.LinearRows.{constraints_pushed, given_more}
use Rattle.lra_poly_queries.specs.{Joined.Concatenated, Joined.concatenated, Joined.counted, Moved.chosen, Moved.moved}
use Rattle.lra_poly_queries.proofs.TakenRows.{TakesRows}

-- ---- a row in other columns
drop_next : (cs : List ℤ) (s : ℕ) (u : ℕ → ℤ) →
    dot (drop s cs) u ≡ (entry cs s *ℤ u 0) +ℤ dot (drop (suc s) cs) (λ j. u (suc j))
drop_next [] zero u = ring (v (pos 0)) (v (pos 0) ⊗ v (u 0) ⊕ v (pos 0)) (omega arith)
drop_next [] (suc s) u = ring (v (pos 0)) (v (pos 0) ⊗ v (u 0) ⊕ v (pos 0)) (omega arith)
drop_next (c ∷ cs) zero u = refl
drop_next (c ∷ cs) (suc s) u = drop_next cs s u

drop_past : (cs : List ℤ) (s : ℕ) (u : ℕ → ℤ) → length cs ≤ s → dot (drop s cs) u ≡ pos 0
drop_past [] zero u h = refl
drop_past [] (suc s) u h = refl
drop_past (c ∷ cs) zero u h = absurd (omega (arith, h))
drop_past (c ∷ cs) (suc s) u h = drop_past cs s u (omega (arith, h))

counted_dot : (cs : List ℤ) (k s : ℕ) (u : ℕ → ℤ) → length cs ≤ s + k →
    dot (map (λ d. entry cs d) (counted k s)) u ≡ dot (drop s cs) u
counted_dot cs zero s u h = sym (drop_past cs s u (omega (arith, h)))
counted_dot cs (suc k) s u h =
    ap (λ (z : ℤ). (entry cs s *ℤ u 0) +ℤ z) (counted_dot cs k (suc s) (λ j. u (suc j)) (omega (arith, h)))
    ∙ sym (drop_next cs s u)

none_on : (j : ℕ) → j ≡ 0 + j
none_on j = omega arith

skipped_dot : (n past : ℕ) (more : List ℕ) (cs : List ℤ) (u : ℕ → ℤ) → entry cs past ≡ pos 0 →
    dot (map (λ d. entry cs d) (replicate n past ++ more)) u ≡ dot (map (λ d. entry cs d) more) (λ j. u (n + j))
skipped_dot zero past more cs u e = dot_same (map (λ d. entry cs d) more) u (λ j. u (0 + j)) (λ j. ap u (none_on j))
skipped_dot (suc n) past more cs u e =
    ap (λ (z : ℤ). (z *ℤ u 0) +ℤ dot (map (λ d. entry cs d) (replicate n past ++ more)) (λ j. u (suc j))) e
    ∙ ap (λ (z : ℤ). (pos 0 *ℤ u 0) +ℤ z) (skipped_dot n past more cs (λ j. u (suc j)) e)
    ∙ ring (v (pos 0) ⊗ v (u 0) ⊕ v (dot (map (λ d. entry cs d) more) (λ j. u (suc (n + j)))))
    (v (dot (map (λ d. entry cs d) more) (λ j. u (suc (n + j))))) (omega arith)
    ∙ dot_same (map (λ d. entry cs d) more) (λ j. u (suc (n + j))) (λ j. u (suc n + j))
    (λ j. ap u (one_on n j))
  where
    one_on : (n j : ℕ) → suc (n + j) ≡ suc n + j
    one_on n j = omega arith

pub dot_within : (c : List ℤ) (u w : ℕ → ℤ) → ((j : ℕ) → j < length c → u j ≡ w j) → dot c u ≡ dot c w
dot_within [] u w e = refl
dot_within (c ∷ cs) u w e =
    ap (λ (z : ℤ). (c *ℤ z) +ℤ dot cs (λ j. u (suc j))) (e 0 (omega arith)) ∙
    ap (λ (z : ℤ). (c *ℤ w 0) +ℤ z)
    (dot_within cs (λ j. u (suc j)) (λ j. w (suc j)) (λ j h. e (suc j) (omega (arith, h))))

entry_take : (w : ℕ) (x : List ℤ) (j : ℕ) → j < w → entry x j ≡ entry (take w x) j
entry_take zero x j h = absurd (omega (arith, h))
entry_take (suc w) [] j h = refl
entry_take (suc w) (y ∷ x) zero h = refl
entry_take (suc w) (y ∷ x) (suc j) h = entry_take w x j (omega (arith, h))

entry_drop : (w : ℕ) (x : List ℤ) (j : ℕ) → entry x (w + j) ≡ entry (drop w x) j
entry_drop zero x j = ap (entry x) (sym (none_on j))
entry_drop (suc w) [] j = refl
entry_drop (suc w) (y ∷ x) j = ap (entry (y ∷ x)) (one_on w j) ∙ entry_drop w x j
  where
    one_on : (w j : ℕ) → suc w + j ≡ suc (w + j)
    one_on w j = omega arith

-- ---- as the first dimensions, and as the last ones
first_product : (n k : ℕ) (c x : List ℤ) → length c ≡ suc n → n ≤ k →
    product (chosen (counted k 0) c) x ≡ product c (take (suc n) x)
first_product n k [] x w h = absurd (omega (arith, w))
first_product n k (c ∷ cs) x w h =
    ap (λ (z : ℤ). (c *ℤ entry x 0) +ℤ z) (counted_dot cs k 0 (λ j. entry x (suc j)) (omega (arith, w, h)))
    ∙ dot_within (c ∷ cs) (entry x) (entry (take (suc n) x)) (λ j less. entry_take (suc n) x j (omega (arith, w, less)))

last_product : (n m : ℕ) (c x : List ℤ) → length c ≡ suc m →
    product (chosen (replicate n m ++ counted m 0) c) x ≡ product c (entry x 0 ∷ drop (suc n) x)
last_product n m [] x w = absurd (omega (arith, w))
last_product n m (c ∷ cs) x w =
    ap (λ (z : ℤ). (c *ℤ entry x 0) +ℤ z)
    (skipped_dot n m (counted m 0) cs (λ j. entry x (suc j)) (entry_past cs m (omega (arith, w)))
    ∙ counted_dot cs m 0 (λ j. entry x (suc (n + j))) (omega (arith, w))
    ∙ dot_same cs (λ j. entry x (suc (n + j))) (entry (drop (suc n) x))
    (λ j. ap (entry x) (one_on n j) ∙ entry_drop (suc n) x j))
  where
    one_on : (n j : ℕ) → suc (n + j) ≡ suc n + j
    one_on n j = omega arith

-- ---- what the list asks
abbrev put : List ℕ → LinearRow → LinearRow
put dims g = record { row = chosen dims g.row; equal = g.equal }

pub con_moved : (dims : List ℕ) (rows : List LinearRow) (x y : List ℤ) →
    ((g : LinearRow) → Contains rows g → product (chosen dims g.row) x ≡ product g.row y) →
    (Con (moved dims rows) x → Con rows y) × (Con rows y → Con (moved dims rows) x)
con_moved dims rows x y e = (
  λ h g m. subst (HoldsWith g.equal) (e g m) (h (put dims g) (map_has (put dims) rows g m)),
  λ h t m. let f = map_from (put dims) rows t m in
      subst (λ (u : LinearRow). Holds u x) f.2 (subst (HoldsWith f.0.equal) (sym (e f.0 f.1)) (h f.0 f.1)),
)

pub first_rows : (p : Polyhedron) (m : ℕ) → IsPolyhedron p → (x : List ℤ) →
    (Con (moved (counted (p.dims + m) 0) p.rows) x → Con p.rows (take (suc p.dims) x)) ×
    (Con p.rows (take (suc p.dims) x) → Con (moved (counted (p.dims + m) 0) p.rows) x)
first_rows p m h x = con_moved (counted (p.dims + m) 0) p.rows x (take (suc p.dims) x)
    (λ g c. first_product p.dims (p.dims + m) g.row x (given_width p h g c) (omega arith))

last_rows : (n : ℕ) (q : Polyhedron) → IsPolyhedron q → (x : List ℤ) →
    (Con (moved (replicate n q.dims ++ counted q.dims 0) q.rows) x → Con q.rows (entry x 0 ∷ drop (suc n) x)) ×
    (Con q.rows (entry x 0 ∷ drop (suc n) x) → Con (moved (replicate n q.dims ++ counted q.dims 0) q.rows) x)
last_rows n q h x = con_moved (replicate n q.dims ++ counted q.dims 0) q.rows x (entry x 0 ∷ drop (suc n) x)
    (λ g c. last_product n q.dims g.row x (given_width q h g c))

concatenated_rows : (p q : Polyhedron) → IsPolyhedron p → IsPolyhedron q →
    SameSet (p.dims + q.dims) (Concatenated p.dims (Con p.rows) (Con q.rows)) (Con (concatenated p q))
concatenated_rows p q hp hq =
    let both = meet_con (p.dims + q.dims) (moved (counted (p.dims + q.dims) 0) p.rows)
    (moved (replicate p.dims q.dims ++ counted q.dims 0) q.rows) in (
      λ x i h. both.0 x i ((first_rows p q.dims hp x).1 h.0, (last_rows p.dims q hq x).1 h.1),
      λ x i h. let m = both.1 x i h in ((first_rows p q.dims hp x).0 m.0, (last_rows p.dims q hq x).0 m.1),
    )

-- ---- one constraint more
pub one_moved : (base : List LinearRow) (dims : List ℕ) (rows : List (List ℤ)) (kinds : List ConKind) (i : ℕ) (r : List ℤ)
    (d : ConKind) (old new : LinearSystem ConKind) (t : List ℤ) → length kinds ≡ length rows → i < length rows →
    r ≡ get_or rows i r → length old.kinds ≡ length old.rows → new.rows ≡ old.rows ++ t ∷ [] →
    new.kinds ≡ old.kinds ++ get_or kinds i d ∷ [] → t ≡ chosen dims r →
    constraints old ≡ base ++ moved dims (rows_by_kind is_equality (take i rows) (take i kinds)) →
    constraints new ≡ base ++ moved dims (rows_by_kind is_equality (take (i + 1) rows) (take (i + 1) kinds))
one_moved base dims rows kinds i r d old new t c h er m nr nk et eo =
    let equal = is_equality (get_or kinds i d) in
    let front = rows_by_kind is_equality (take i rows) (take i kinds) in
    constraints_pushed old new t (get_or kinds i d) m nr nk
    ∙ ap (λ (l : List LinearRow). l ++ (let g : LinearRow = record { row = t; equal = equal } in g) ∷ []) eo
    ∙ append_assoc base (moved dims front) (record { row = t; equal = equal } ∷ [])
    ∙ ap (λ (x : List ℤ). base ++ (moved dims front ++ (let g : LinearRow = record { row = x; equal = equal } in g) ∷ [])) et
    ∙ ap (λ (l : List LinearRow). base ++ l) (sym (map-append (put dims) front (record { row = r; equal = equal } ∷ [])))
    ∙ ap (λ (l : List LinearRow). base ++ moved dims l)
    (sym (given_more is_equality rows kinds i r (get_or kinds i d) (sym c) h er
    (get_or_default kinds i d (get_or kinds i d) (omega (arith, h, c)))))

pub all_moved : (base : List LinearRow) (dims : List ℕ) (list all : LinearSystem ConKind) (rows : List (List ℤ))
    (kinds : List ConKind) (i : ℕ) → rows ≡ list.rows → kinds ≡ list.kinds → length kinds ≡ length list.rows →
    length rows ≤ i → constraints all ≡ base ++ moved dims (rows_by_kind is_equality (take i rows) (take i kinds)) →
    constraints all ≡ base ++ moved dims (constraints list)
all_moved base dims list all rows kinds i er ek c h e =
    let s = ap length er in
    e ∙ ap (λ (l : List LinearRow). base ++ moved dims l)
    (ap (λ (l : List (List ℤ)). rows_by_kind is_equality l (take i kinds)) (take_all i rows h ∙ er)
    ∙ ap (rows_by_kind is_equality list.rows) (take_all i kinds (omega (arith, h, c, s)) ∙ ek))

-- ---- dimensions in turn
pub counted_length : (k s : ℕ) → length (counted k s) ≡ k
counted_length zero s = refl
counted_length (suc k) s = ap suc (counted_length k (suc s))

pub counted_next : (k s : ℕ) → counted (suc k) s ≡ counted k s ++ (s + k) ∷ []
counted_next zero s = ap (λ (d : ℕ). d ∷ []) (more s)
  where
    more : (s : ℕ) → s ≡ s + 0
    more s = omega arith
counted_next (suc k) s = ap (λ (l : List ℕ). s ∷ l) (counted_next k (suc s)
    ∙ ap (λ (d : ℕ). counted k (suc s) ++ d ∷ []) (one_on s k))
  where
    one_on : (s k : ℕ) → suc s + k ≡ s + suc k
    one_on s k = omega arith

pub dim_pushed : (base all more : List ℕ) (i : ℕ) → all ≡ base ++ counted i 0 → more ≡ all ++ i ∷ [] →
    more ≡ base ++ counted (i + 1) 0
dim_pushed base all more i e em =
    em ∙ ap (λ (l : List ℕ). l ++ i ∷ []) e ∙ append_assoc base (counted i 0) (i ∷ [])
    ∙ ap (λ (l : List ℕ). base ++ l) (ap (λ (d : ℕ). counted i 0 ++ d ∷ []) (none_on i) ∙ sym (counted_next i 0)
    ∙ ap (λ (j : ℕ). counted j 0) (sym (add-one i)))

replicated : (n d : ℕ) → length (replicate n d) ≡ n
replicated zero d = refl
replicated (suc n) d = ap suc (replicated n d)

pub behind_length : (n d m : ℕ) (dims : List ℕ) → dims ≡ replicate n d ++ counted m 0 → length dims ≡ n + m
behind_length n d m dims e =
    let s = ap length e ∙ length-append (replicate n d) (counted m 0) in
    let r = replicated n d in
    let t = counted_length m 0 in
    omega (arith, s, r, t)

-- ---- as the code states it
pub joined_takes : (p q : Polyhedron) (start own all ps qs : LinearSystem ConKind) (first last : List ℕ) (n m : ℕ) →
    IsPolyhedron p → IsPolyhedron q → n ≡ p.dims → m ≡ q.dims → start.rows ≡ [] → start.dims ≡ n + m →
    own.dims ≡ start.dims → all.dims ≡ own.dims → first ≡ replicate 0 0 ++ counted (n + m) 0 →
    last ≡ replicate n m ++ counted m 0 → constraints ps ≡ p.rows → constraints qs ≡ q.rows →
    constraints own ≡ constraints start ++ moved first (constraints ps) →
    constraints all ≡ constraints own ++ moved last (constraints qs) →
    TakesRows (p.dims + q.dims) (Concatenated p.dims (Con p.rows) (Con q.rows)) (concatenated p q) all
joined_takes p q start own all ps qs first last n m hp hq en em er ed eo ea ef el ep eq go ga = record {
  dimensions = ea ∙ eo ∙ ed ∙ ap (λ (k : ℕ). k + m) en ∙ ap (λ (k : ℕ). p.dims + k) em;
  are = ga
      ∙ ap (λ (l : List LinearRow). l ++ moved last (constraints qs))
      (go ∙ ap (λ (l : List (List ℤ)). rows_by_kind is_equality l start.kinds ++ moved first (constraints ps)) er)
      ∙ ap (λ (f : List ℕ). moved f (constraints ps) ++ moved last (constraints qs))
      (ef ∙ ap (λ (k : ℕ). counted (k + m) 0) en ∙ ap (λ (k : ℕ). counted (p.dims + k) 0) em)
      ∙ ap (λ (f : List ℕ). moved (counted (p.dims + q.dims) 0) (constraints ps) ++ moved f (constraints qs))
      (el ∙ ap (λ (k : ℕ). replicate k m ++ counted m 0) en ∙
      ap (λ (k : ℕ). replicate p.dims k ++ counted k 0) em)
      ∙ ap (λ (r : List LinearRow). moved (counted (p.dims + q.dims) 0) r ++
      moved (replicate p.dims q.dims ++ counted q.dims 0) (constraints qs)) ep
      ∙ ap (λ (r : List LinearRow). moved (counted (p.dims + q.dims) 0) p.rows ++
      moved (replicate p.dims q.dims ++ counted q.dims 0) r) eq;
  same = concatenated_rows p q hp hq;
}
