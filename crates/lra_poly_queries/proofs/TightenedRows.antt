-- A constraint whose coefficients are divided by a number, and its constant rounded downwards.
use Rattle.std.proofs.Common.{◌≡◌, ◌⊎◌, ℕ, suc, ◌<◌, List, [], ◌∷◌, ◌++◌, length, drop, ap, sym, ◌∙◌, subst, ◌+◌, ◌≤◌, get_or, take, ℤ, pos, neg_ℤ, ◌+ℤ◌, ◌*ℤ◌, ◌<ℤ◌, ◌≤ℤ◌, inl, inr, arith}
use Rattle.std.proofs.{lemmas.Int.ints, lemmas.List.get_or_default, lemmas.List.length-append, lemmas.List.take_all}
use Rattle.std.specs.Prelude.{◌↔◌}
use Rattle.lra_poly_queries.specs.Crates.lra_linear_spec.Descriptions.{Con, LinearRow, equality, inequality}
use Rattle.lra_poly_queries.specs.Crates.{lra_linear_spec.Kinds.is_equality, lra_linear_spec.LowestTerms.IsPrimitive, lra_linear_spec.Points.IsPoint, lra_linear_spec.Points.IsWithin}
use Rattle.lra_poly_queries.specs.Crates.{lra_linear_spec.Polyhedra.falsity, lra_linear_spec.Vectors.entry, lra_linear_spec.Vectors.product, lra_linear_spec.declared.ConKind.ConKind}
use Rattle.lra_poly_queries.proofs.Crates.lra_linear_spec.Descriptions.{con_cons, con_head, con_none, con_tail}
use Rattle.lra_poly_queries.proofs.Crates.lra_linear_spec.Products.{dot_same, dot_scale, product_comm}
use Rattle.lra_poly_queries.proofs.Crates.lra_linear_spec.Ring.{mul_nonnegative, ring, v, ⊖, ◌⊕◌, ◌⊗◌}
use Rattle.lra_poly_queries.proofs.Crates.lra_linear_spec.Signs.{cases_sign, no_product, add_nonnegative, difference}
use Rattle.lra_poly_queries.proofs.Crates.{lra_linear_spec.Lines.entry_zeros, lra_linear_spec.OneSpelling.falsity_never}
use Rattle.lra_systems.specs.LinearSystems.{LinearSystem, constraints, rows_by_kind}
use Rattle.lra_systems.proofs.LinearRows.{constraints_pushed, given_more}
use Rattle.lra_poly_queries.specs.Tightened.{AreTightened, IsTightened}

-- ---- the product with a multiple of a row
times_product : (cs ds : List ℤ) (d : ℕ) → ((j : ℕ) → pos d *ℤ entry ds j ≡ entry cs j) → (s : List ℤ) →
    product cs s ≡ pos d *ℤ product ds s
times_product cs ds d each s =
    product_comm cs s ∙ dot_same s (entry cs) (λ j. pos d *ℤ entry ds j) (λ j. sym (each j))
    ∙ dot_scale s (pos d) (entry ds) ∙ ap (λ (z : ℤ). pos d *ℤ z) (product_comm s ds)

-- ---- numbers: c is the constant, q its quotient by d rounded downwards, y the value of the divided coefficients, x the
-- point's divisor
round_down : (d : ℕ) (c q y : ℤ) → 0 < d → c <ℤ ((q +ℤ pos 1) *ℤ pos d) → pos 0 ≤ℤ (c +ℤ (pos d *ℤ y)) →
    pos 0 ≤ℤ (q +ℤ y)
round_down d c q y some above h = elim (cases_sign (q +ℤ y)) [
  | inl up ↦ up
  | inr down ↦
      let wide = mul_nonnegative (pos d) (neg_ℤ ((q +ℤ pos 1) +ℤ y)) (omega (arith, ints)) (omega (arith, ints, down)) in
      let spread : pos d *ℤ neg_ℤ ((q +ℤ pos 1) +ℤ y) ≡ neg_ℤ (((q +ℤ pos 1) *ℤ pos d) +ℤ (pos d *ℤ y)) =
      ring (v (pos d) ⊗ ⊖ ((v q ⊕ v (pos 1)) ⊕ v y)) (⊖ ((v q ⊕ v (pos 1)) ⊗ v (pos d) ⊕ v (pos d) ⊗ v y)) (omega arith) in
      let wrong : ⊥ = contrary c ((q +ℤ pos 1) *ℤ pos d) (pos d *ℤ y) above h
      (subst (λ (z : ℤ). pos 0 ≤ℤ z) spread wide) in absurd wrong
]
  where
    contrary : (c a b : ℤ) → c <ℤ a → pos 0 ≤ℤ (c +ℤ b) → pos 0 ≤ℤ neg_ℤ (a +ℤ b) → ⊥
    contrary c a b h k l = omega (arith, ints, h, k, l)

round_up : (d : ℕ) (c q y x : ℤ) → (q *ℤ pos d) ≤ℤ c → pos 0 ≤ℤ x → pos 0 ≤ℤ ((q *ℤ x) +ℤ y) →
    pos 0 ≤ℤ ((c *ℤ x) +ℤ (pos d *ℤ y))
round_up d c q y x low up h =
    let wide = mul_nonnegative (pos d) ((q *ℤ x) +ℤ y) (omega (arith, ints)) h in
    let more = mul_nonnegative (c +ℤ neg_ℤ (q *ℤ pos d)) x (difference (q *ℤ pos d) c low) up in
    let spread : (pos d *ℤ ((q *ℤ x) +ℤ y)) +ℤ ((c +ℤ neg_ℤ (q *ℤ pos d)) *ℤ x) ≡ (c *ℤ x) +ℤ (pos d *ℤ y) =
    ring (v (pos d) ⊗ (v q ⊗ v x ⊕ v y) ⊕ (v c ⊕ ⊖ (v q ⊗ v (pos d))) ⊗ v x) (v c ⊗ v x ⊕ v (pos d) ⊗ v y) (omega arith) in
    subst (λ (z : ℤ). pos 0 ≤ℤ z) spread (add_nonnegative (pos d *ℤ ((q *ℤ x) +ℤ y)) ((c +ℤ neg_ℤ (q *ℤ pos d)) *ℤ x) wide more)

-- ---- an inequality
pub at_least_tightened : (n : ℕ) (c q : ℤ) (cs ds : List ℤ) (d : ℕ) → 0 < d → length ds ≡ n →
    ((j : ℕ) → pos d *ℤ entry ds j ≡ entry cs j) → (q *ℤ pos d) ≤ℤ c → c <ℤ ((q +ℤ pos 1) *ℤ pos d) →
    IsPrimitive ds ⊎ ((j : ℕ) → entry ds j ≡ pos 0) → IsTightened n (inequality (c ∷ cs)) (inequality (q ∷ ds))
at_least_tightened n c q cs ds d some w each low above tight = record {
  stores = λ s e. (
    λ h. back q (product ds s) (round_down d c q (product ds s) some above
        (there c (pos d *ℤ product ds s) (subst (λ (z : ℤ). pos 0 ≤ℤ ((c *ℤ pos 1) +ℤ z)) (times_product cs ds d each s) h))),
    λ h. subst (λ (z : ℤ). pos 0 ≤ℤ ((c *ℤ pos 1) +ℤ z)) (sym (times_product cs ds d each s))
        (round_up d c q (product ds s) (pos 1) low (omega (arith, ints)) h),
  );
  within = λ x i h. by_point x i h;
  tight = tight;
}
  where
    there : (c y : ℤ) → pos 0 ≤ℤ ((c *ℤ pos 1) +ℤ y) → pos 0 ≤ℤ (c +ℤ y)
    there c y h = omega (arith, ints, h)

    back : (q y : ℤ) → pos 0 ≤ℤ (q +ℤ y) → pos 0 ≤ℤ ((q *ℤ pos 1) +ℤ y)
    back q y h = omega (arith, ints, h)

    by_point : (x : List ℤ) → IsPoint n x → pos 0 ≤ℤ product (q ∷ ds) x → pos 0 ≤ℤ product (c ∷ cs) x
    by_point [] i h = absurd (let e = i.width in omega (arith, e))
    by_point (y ∷ ys) i h =
        subst (λ (z : ℤ). pos 0 ≤ℤ ((c *ℤ y) +ℤ z)) (sym (times_product cs ds d each ys))
        (round_up d c q (product ds ys) y low (positive y i.divisor) h)
      where
        positive : (z : ℤ) → pos 0 <ℤ z → pos 0 ≤ℤ z
        positive z h = omega (arith, ints, h)

-- ---- an equality that has stores
zero_both : (d : ℕ) (c q y x : ℤ) → 0 < d → q *ℤ pos d ≡ c →
    ((c *ℤ x) +ℤ (pos d *ℤ y) ≡ pos 0) ↔ ((q *ℤ x) +ℤ y ≡ pos 0)
zero_both d c q y x some e = (
  λ h. no_product d ((q *ℤ x) +ℤ y) some (spread ∙ h),
  λ h. sym spread ∙ ap (λ (z : ℤ). pos d *ℤ z) h ∙ ring (v (pos d) ⊗ v (pos 0)) (v (pos 0)) (omega arith),
)
  where
    spread : pos d *ℤ ((q *ℤ x) +ℤ y) ≡ (c *ℤ x) +ℤ (pos d *ℤ y)
    spread = ring (v (pos d) ⊗ (v q ⊗ v x ⊕ v y)) ((v q ⊗ v (pos d)) ⊗ v x ⊕ v (pos d) ⊗ v y) (omega arith)
        ∙ ap (λ (z : ℤ). (z *ℤ x) +ℤ (pos d *ℤ y)) e

pub equality_tightened : (n : ℕ) (c q : ℤ) (cs ds : List ℤ) (d : ℕ) → 0 < d →
    ((j : ℕ) → pos d *ℤ entry ds j ≡ entry cs j) → q *ℤ pos d ≡ c →
    IsPrimitive ds ⊎ ((j : ℕ) → entry ds j ≡ pos 0) → IsTightened n (equality (c ∷ cs)) (equality (q ∷ ds))
equality_tightened n c q cs ds d some each e tight = record {
  stores = λ s w. (
    λ h. (zero_both d c q (product ds s) (pos 1) some e).0
        (sym (ap (λ (z : ℤ). (c *ℤ pos 1) +ℤ z) (times_product cs ds d each s)) ∙ h),
    λ h. ap (λ (z : ℤ). (c *ℤ pos 1) +ℤ z) (times_product cs ds d each s)
        ∙ (zero_both d c q (product ds s) (pos 1) some e).1 h,
  );
  within = λ x i h. by_point x i h;
  tight = tight;
}
  where
    by_point : (x : List ℤ) → IsPoint n x → product (q ∷ ds) x ≡ pos 0 → product (c ∷ cs) x ≡ pos 0
    by_point [] i h = absurd (let e = i.width in omega (arith, e))
    by_point (y ∷ ys) i h = ap (λ (z : ℤ). (c *ℤ y) +ℤ z) (times_product cs ds d each ys)
        ∙ (zero_both d c q (product ds ys) y some e).1 h

-- ---- an equality that has none
between : (d : ℕ) (c q y : ℤ) → 0 < d → (q *ℤ pos d) <ℤ c → c <ℤ ((q +ℤ pos 1) *ℤ pos d) →
    c +ℤ (pos d *ℤ y) ≡ pos 0 → ⊥
between d c q y some low above h =
    let up = round_down d c q y some above (zero_low (c +ℤ (pos d *ℤ y)) h) in
    let wide = mul_nonnegative (pos d) (q +ℤ y) (omega (arith, ints)) up in
    let spread : pos d *ℤ (q +ℤ y) ≡ (q *ℤ pos d) +ℤ (pos d *ℤ y) =
    ring (v (pos d) ⊗ (v q ⊕ v y)) (v q ⊗ v (pos d) ⊕ v (pos d) ⊗ v y) (omega arith) in
    contrary (q *ℤ pos d) c (pos d *ℤ y) low h (subst (λ (z : ℤ). pos 0 ≤ℤ z) spread wide)
  where
    zero_low : (z : ℤ) → z ≡ pos 0 → pos 0 ≤ℤ z
    zero_low z e = omega (arith, ints, e)

    contrary : (a c b : ℤ) → a <ℤ c → c +ℤ b ≡ pos 0 → pos 0 ≤ℤ (a +ℤ b) → ⊥
    contrary a c b h k l = omega (arith, ints, h, k, l)

pub no_store_tightened : (n : ℕ) (c q : ℤ) (cs ds : List ℤ) (d : ℕ) → 0 < d →
    ((j : ℕ) → pos d *ℤ entry ds j ≡ entry cs j) → (q *ℤ pos d) <ℤ c → c <ℤ ((q +ℤ pos 1) *ℤ pos d) →
    IsTightened n (equality (c ∷ cs)) (inequality (falsity n))
no_store_tightened n c q cs ds d some each low above = record {
  stores = λ s w. (
    λ h. absurd (between d c q (product ds s) some low above
        (one c (pos d *ℤ product ds s) (sym (ap (λ (z : ℤ). (c *ℤ pos 1) +ℤ z) (times_product cs ds d each s)) ∙ h))),
    λ h. absurd (falsity_never n (pos 1 ∷ s) (record { width = ap suc w; divisor = omega (arith, ints) }) h),
  );
  within = λ x i h. absurd (falsity_never n x i h);
  tight = inr (entry_zeros n);
}
  where
    one : (c y : ℤ) → (c *ℤ pos 1) +ℤ y ≡ pos 0 → c +ℤ y ≡ pos 0
    one c y h = omega (arith, ints, h)

pub as_it_is : (n : ℕ) (g : LinearRow) → IsPrimitive (drop 1 g.row) ⊎ ((j : ℕ) → entry (drop 1 g.row) j ≡ pos 0) →
    IsTightened n g g
as_it_is n g tight = record {
  stores = λ s w. (λ h. h, λ h. h);
  within = λ x i h. h;
  tight = tight;
}

-- ---- lists
pub tightened_more : (n : ℕ) (gs ts : List LinearRow) (g t : LinearRow) → AreTightened n gs ts → IsTightened n g t →
    AreTightened n (gs ++ g ∷ []) (ts ++ t ∷ [])
tightened_more n [] [] g t all one = (one, tt)
tightened_more n [] (u ∷ ts) g t all one = absurd all
tightened_more n (h ∷ gs) [] g t all one = absurd all
tightened_more n (h ∷ gs) (u ∷ ts) g t all one = (all.0, tightened_more n gs ts g t all.1 one)

pub tightened_within : (n : ℕ) (gs ts : List LinearRow) → AreTightened n gs ts → IsWithin n (Con ts) (Con gs)
tightened_within n [] [] all x i h = con_none x
tightened_within n [] (u ∷ ts) all x i h = absurd all
tightened_within n (g ∷ gs) [] all x i h = absurd all
tightened_within n (g ∷ gs) (t ∷ ts) all x i h =
    con_cons g gs x (all.0.within x i (con_head t ts x h)) (tightened_within n gs ts all.1 x i (con_tail t ts x h))

pub tightened_stores : (n : ℕ) (gs ts : List LinearRow) → AreTightened n gs ts → (s : List ℤ) → length s ≡ n →
    (Con gs (pos 1 ∷ s) ↔ Con ts (pos 1 ∷ s))
tightened_stores n [] [] all s w = (λ h. con_none (pos 1 ∷ s), λ h. con_none (pos 1 ∷ s))
tightened_stores n [] (u ∷ ts) all s w = absurd all
tightened_stores n (g ∷ gs) [] all s w = absurd all
tightened_stores n (g ∷ gs) (t ∷ ts) all s w = (
  λ h. con_cons t ts (pos 1 ∷ s) ((all.0.stores s w).0 (con_head g gs (pos 1 ∷ s) h))
      ((tightened_stores n gs ts all.1 s w).0 (con_tail g gs (pos 1 ∷ s) h)),
  λ h. con_cons g gs (pos 1 ∷ s) ((all.0.stores s w).1 (con_head t ts (pos 1 ∷ s) h))
      ((tightened_stores n gs ts all.1 s w).1 (con_tail t ts (pos 1 ∷ s) h)),
)

-- one constraint more
pub one_tightened : (n : ℕ) (rows : List (List ℤ)) (kinds : List ConKind) (i : ℕ) (r : List ℤ) (d : ConKind)
    (old new : LinearSystem ConKind) (t : List ℤ) (k : ConKind) → length kinds ≡ length rows → i < length rows →
    r ≡ get_or rows i r → length old.kinds ≡ length old.rows → new.rows ≡ old.rows ++ t ∷ [] →
    new.kinds ≡ old.kinds ++ k ∷ [] →
    AreTightened n (rows_by_kind is_equality (take i rows) (take i kinds)) (constraints old) →
    (m : ℕ) → m ≡ n →
    IsTightened m (record { row = r; equal = is_equality (get_or kinds i d) })
    (record { row = t; equal = is_equality k }) →
    AreTightened n (rows_by_kind is_equality (take (i + 1) rows) (take (i + 1) kinds)) (constraints new)
one_tightened n rows kinds i r d old new t k c h e m er ek all dims same one =
    subst (λ (l : List LinearRow). AreTightened n l (constraints new))
    (sym (given_more is_equality rows kinds i r (get_or kinds i d) (sym c) h e
    (get_or_default kinds i d (get_or kinds i d) (omega (arith, h, c)))))
    (subst (AreTightened n (rows_by_kind is_equality (take i rows) (take i kinds) ++
    (let g : LinearRow = record { row = r; equal = is_equality (get_or kinds i d) } in g) ∷ []))
    (sym (constraints_pushed old new t k m er ek))
    (tightened_more n (rows_by_kind is_equality (take i rows) (take i kinds)) (constraints old)
    (record { row = r; equal = is_equality (get_or kinds i d) }) (record { row = t; equal = is_equality k }) all
    (subst (λ (s : ℕ). IsTightened s (record { row = r; equal = is_equality (get_or kinds i d) })
    (record { row = t; equal = is_equality k })) same one)))

pub one_counted : (old new : LinearSystem ConKind) (t : List ℤ) (k : ConKind) → length old.kinds ≡ length old.rows →
    new.rows ≡ old.rows ++ t ∷ [] → new.kinds ≡ old.kinds ++ k ∷ [] → length new.kinds ≡ length new.rows
one_counted old new t k m er ek = ap length ek ∙ length-append old.kinds (k ∷ []) ∙ ap (λ (s : ℕ). s + 1) m ∙
    sym (length-append old.rows (t ∷ [])) ∙ sym (ap length er)

pub all_tightened : (n : ℕ) (list all : LinearSystem ConKind) (rows : List (List ℤ)) (kinds : List ConKind) (i : ℕ) →
    rows ≡ list.rows → kinds ≡ list.kinds → length kinds ≡ length list.rows → length rows ≤ i →
    AreTightened n (rows_by_kind is_equality (take i rows) (take i kinds)) (constraints all) →
    AreTightened n (constraints list) (constraints all)
all_tightened n list all rows kinds i er ek c h =
    let s = ap length er in
    λ t. subst (λ (l : List LinearRow). AreTightened n l (constraints all))
    (ap (λ (l : List (List ℤ)). rows_by_kind is_equality l (take i kinds)) (take_all i rows h ∙ er)
    ∙ ap (rows_by_kind is_equality list.rows) (take_all i kinds (omega (arith, h, c, s)) ∙ ek)) t
