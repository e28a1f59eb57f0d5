-- What the operations' lists say of sets of points.
use Rattle.std.proofs.Common.{◌≡◌, ◌≢◌, ℕ, suc, Bool, List, [], ◌∷◌, ◌++◌, length, ap, sym, ◌∙◌, subst, ℤ, pos, ◌≤ℤ◌, inl, inr, refl, arith}
use Rattle.std.specs.{List.Contains, Prelude.◌↔◌, Prelude.◌==◌, Prelude.IsTrue}
use Rattle.lra_poly.specs.Crates.lra_linear_spec.Descriptions.{Con, Gen, LinearRow, Holds, inequality, system_of}
use Rattle.lra_poly.specs.Crates.lra_linear_spec.OperationStrain.{ConstraintsStrain, FromRowsStrains, FromGeneratorsStrains, MeetStrains, AddTestStrains, HullStrains, ResultStrains}
use Rattle.lra_poly.specs.Crates.lra_linear_spec.Points.{IsPoint, IsWithin, IsEmptySet, SameSet, PointSet}
use Rattle.lra_poly.specs.Crates.lra_linear_spec.Polyhedra.{Polyhedron, IsPolyhedron, IsPolyhedronOf, positivity}
use Rattle.lra_poly.specs.Crates.lra_systems.LinearSystems.{LinearSystem, generators, rows_by_kind}
use Rattle.lra_poly.specs.Crates.{lra_cone.Losses.IfLost, lra_linear_spec.Kinds.is_line, lra_linear_spec.SetOperations.Meet, lra_linear_spec.SetOperations.Union, lra_linear_spec.SetOperations.Hull}
use Rattle.lra_poly.specs.Crates.{lra_linear_spec.Strain.Loss, lra_linear_spec.Vectors.entry, lra_linear_spec.Vectors.product, lra_linear_spec.declared.GenKind.GenKind}
use Rattle.lra_poly.proofs.Crates.lra_linear_spec.Descriptions.{con_cons, con_head, con_none, con_solves, solves_con, generated_gen, gen_generated}
use Rattle.lra_poly.proofs.Crates.lra_linear_spec.LinearMaps.{generated_nonneg, generated_through}
use Rattle.lra_poly.proofs.Crates.lra_linear_spec.SetOperations.{has_vertex, meet_con, system_append, system_append_in, valid_on_rows}
use Rattle.lra_poly.proofs.Crates.{lra_linear_spec.Combinations.generated_row, lra_linear_spec.Membership.contains_none, lra_linear_spec.Polyhedra.con_gen}
use Rattle.lra_poly.specs.Outcomes.{Becomes, IfExact, IfFlagged, IsOfGenerators, IsOfRows, first_loss}
use Rattle.lra_poly.specs.{declared.outcome.Outcome.Outcome, declared.outcome.Outcome.TheVariants.Exact, declared.outcome.Outcome.TheVariants.Flagged}
use Rattle.lra_duality.proofs.PolyhedronLemmas.{empty_where_none, none_where_empty, rows_width}
use Rattle.lra_description_pair.specs.{Made.IsMadeFor, OwnLists.IsPositive}
use Rattle.lra_description_pair.proofs.OwnRows.{none_of}

-- ---- other words for the exact result
pub same_polyhedron : (n : ℕ) (P Q : PointSet) (p : Polyhedron) → SameSet n P Q → IsPolyhedronOf n Q p → IsPolyhedronOf n P p
same_polyhedron n P Q p s h = record {
  dimensions = h.dimensions;
  canonical = h.canonical;
  points = (λ x i c. h.points.0 x i (s.0 x i c), λ x i c. s.1 x i (h.points.1 x i c));
}

pub result_strain : (n : ℕ) (P Q : PointSet) (list : Polyhedron → List LinearRow) (loss : Loss) → SameSet n P Q → ResultStrains n Q list loss → ResultStrains n P list loss
result_strain n P Q list loss s r = record { result = r.result; is_result = same_polyhedron n P Q r.result s r.is_result; strains = r.strains }

pub constraints_strain : (n : ℕ) (P Q : PointSet) (taken : List LinearRow) (loss : Loss) → SameSet n P Q → ConstraintsStrain n Q taken loss → ConstraintsStrain n P taken loss
constraints_strain n P Q taken loss s (inl a) = inl a
constraints_strain n P Q taken loss s (inr b) = inr (result_strain n P Q (λ p. p.generators) loss s b)

pub if_exact : (P Q : Type 0) (o : Outcome) → (P → Q) → IfExact P o → IfExact Q o
if_exact P Q Exact f h = f h
if_exact P Q (Flagged loss) f h = tt

pub if_flagged : (P Q : Loss → Type 0) (o : Outcome) → ((loss : Loss) → P loss → Q loss) → IfFlagged P o → IfFlagged Q o
if_flagged P Q Exact f h = tt
if_flagged P Q (Flagged loss) f h = f loss h

-- the first loss says
pub losses_exact : (P : Type 0) (losses : List Loss) (o : Outcome) → o ≡ first_loss losses → (losses ≡ [] → P) → IfExact P o
losses_exact P losses o e h = subst (IfExact P) (sym e) (by_list losses h)
  where
    by_list : (l : List Loss) → (l ≡ [] → P) → IfExact P (first_loss l)
    by_list [] h = h refl
    by_list (x ∷ l) h = tt

pub losses_flagged : (P : Loss → Type 0) (losses : List Loss) (o : Outcome) → o ≡ first_loss losses → IfLost P losses → IfFlagged P o
losses_flagged P losses o e h = subst (IfFlagged P) (sym e) (by_list losses h)
  where
    by_list : (l : List Loss) → IfLost P l → IfFlagged P (first_loss l)
    by_list [] h = tt
    by_list (x ∷ l) h = h

-- ---- what is made
pub exactly : (n : ℕ) (P : PointSet) (strains : Loss → Type 0) (p : Polyhedron) → IsPolyhedronOf n P p → Becomes n P strains p Exact
exactly n P strains p h = record { dims = h.dimensions; canonical = h.canonical; within = h.points.0; exact = h; flagged = tt }

-- reported of the losses of a pair
pub becomes_told : (n : ℕ) (P : PointSet) (strains : Loss → Type 0) (made pair : Polyhedron) (o : Outcome) (losses : List Loss) → made ≡ pair → o ≡ first_loss losses →
    IsMadeFor n P strains pair losses → Becomes n P strains made o
becomes_told n P strains made pair o losses same told m =
    subst (λ (p : Polyhedron). Becomes n P strains p o) (sym same) (record {
      dims = m.dims;
      canonical = m.canonical;
      within = m.within;
      exact = losses_exact (IsPolyhedronOf n P pair) losses o told m.exact;
      flagged = losses_flagged strains losses o told m.flagged;
    })

-- other words for the set, and for when it exceeds a limit
pub becomes_same : (n : ℕ) (P Q : PointSet) (s t : Loss → Type 0) (p : Polyhedron) (o : Outcome) → SameSet n P Q → ((loss : Loss) → t loss → s loss) →
    Becomes n Q t p o → Becomes n P s p o
becomes_same n P Q s t p o same strains b = record {
  dims = b.dims;
  canonical = b.canonical;
  within = λ x i h. b.within x i (same.0 x i h);
  exact = if_exact (IsPolyhedronOf n Q p) (IsPolyhedronOf n P p) o (same_polyhedron n P Q p same) b.exact;
  flagged = if_flagged t s o strains b.flagged;
}

-- ---- whether there is a generator
given_none : {K : Type 0} (equal : K → Bool) (rows : List (List ℤ)) (kinds : List K) → kinds ≡ [] → rows_by_kind equal rows kinds ≡ []
given_none equal [] kinds e = refl
given_none equal (r ∷ rows) [] e = refl
given_none equal (r ∷ rows) (k ∷ kinds) e = cc

none_given : {K : Type 0} (equal : K → Bool) (rows : List (List ℤ)) (kinds : List K) → length kinds ≡ length rows → rows_by_kind equal rows kinds ≡ [] →
    kinds ≡ []
none_given equal [] [] n e = refl
none_given equal [] (k ∷ kinds) n e = absurd (omega (arith, n))
none_given equal (r ∷ rows) [] n e = refl
none_given equal (r ∷ rows) (k ∷ kinds) n e = cc

none_counted : {A : Type 0} (xs : List A) (b : Bool) → b ≡ (length xs == 0) → IsTrue b ↔ (xs ≡ [])
none_counted {A = A} xs b e = (λ t. none_of xs (length xs) b refl e t, λ h. e ∙ ap (λ (l : List A). length l == 0) h)

pub emptiness : (p : Polyhedron) (list : LinearSystem GenKind) (kinds : List GenKind) (b : Bool) → IsPolyhedron p → generators list ≡ p.generators → kinds ≡ list.kinds →
    length kinds ≡ length list.rows → b ≡ (length kinds == 0) → IsTrue b ↔ IsEmptySet p.dims (Con p.rows)
emptiness p list kinds b h e ek n is = let said = none_counted kinds b is in (
  λ t. empty_where_none p h (sym e ∙ given_none is_line list.rows list.kinds (sym ek ∙ said.0 t)),
  λ s. said.1 (none_given is_line list.rows kinds n (ap (rows_by_kind is_line list.rows) ek ∙ e ∙ none_where_empty p h s)),
)

-- ---- as the code states it
-- the exact result of constraints that have no other points than the old value; a value that lies in it; the old value
pub exact_inside : (n m : ℕ) (list old : List LinearRow) (self made : Polyhedron) (o : Outcome) → o ≡ Exact → self ≡ made → n ≡ m → IfExact (IsPolyhedronOf m (Con list) made) o →
    IsWithin n (Con list) (Con old) → IsWithin n (Con self.rows) (Con old)
exact_inside n m list old self made o eo es d h k =
    let a : IsPolyhedronOf m (Con list) made = subst (IfExact (IsPolyhedronOf m (Con list) made)) eo h in
    λ x i c. k x i (a.points.1 x (subst (λ (j : ℕ). IsPoint j x) d i) (subst (λ (y : Polyhedron). Con y.rows x) es c))

pub made_inside : (n : ℕ) (old : List LinearRow) (self made : Polyhedron) → self ≡ made → n ≡ made.dims → IsWithin made.dims (Con made.rows) (Con old) → IsWithin n (Con self.rows) (Con old)
made_inside n old self made es d h x i c = h x (subst (λ (j : ℕ). IsPoint j x) d i) (subst (λ (y : Polyhedron). Con y.rows x) es c)

pub old_inside : (n : ℕ) (self old : Polyhedron) → self ≡ old → IsWithin n (Con self.rows) (Con old.rows)
old_inside n self old es x i c = subst (λ (y : Polyhedron). Con y.rows x) es c

pub joined_seen : (list first second rows more : List LinearRow) → list ≡ first ++ second → first ≡ rows → second ≡ more → list ≡ rows ++ more
joined_seen list first second rows more e ef es = e ∙ ap (λ (l : List LinearRow). l ++ second) ef ∙ ap (λ (l : List LinearRow). rows ++ l) es

-- ---- the meet with a list of constraints
pub meet_inside : (n : ℕ) (rows more list : List LinearRow) → list ≡ rows ++ more → IsWithin n (Con list) (Con rows)
meet_inside n rows more list e x i c = ((meet_con n rows more).1 x i (subst (λ (l : List LinearRow). Con l x) e c)).0

-- constraints that each point meets change nothing
pub met_exact : (p : Polyhedron) (more : List LinearRow) → IsPolyhedron p → IsWithin p.dims (Con p.rows) (Con more) →
    IsPolyhedronOf p.dims (Con (p.rows ++ more)) p
met_exact p more h within = record {
  dimensions = refl;
  canonical = h;
  points = (
    λ x i c. ((meet_con p.dims p.rows more).1 x i c).0,
    λ x i c. (meet_con p.dims p.rows more).0 x i (c, within x i c),
  );
}

pub meet_becomes : (p q new : Polyhedron) (list : List LinearRow) (o : Outcome) → list ≡ p.rows ++ q.rows → IsOfRows p.dims list new o →
    Becomes p.dims (Meet (Con p.rows) (Con q.rows)) (MeetStrains p q) new o
meet_becomes p q new list o e b =
    let all = p.rows ++ q.rows in
    let same = meet_con p.dims p.rows q.rows in
    becomes_same p.dims (Meet (Con p.rows) (Con q.rows)) (Con all) (MeetStrains p q) (FromRowsStrains p.dims all) new o same
    (λ loss s. constraints_strain p.dims (Meet (Con p.rows) (Con q.rows)) (Con all) all loss same s)
    (subst (λ (l : List LinearRow). IsOfRows p.dims l new o) e b)

-- the old value stays if what was made isn't known to lie in it
pub stays_flagged : (p made new : Polyhedron) (more : List LinearRow) (o : Outcome) (loss : Loss) → IsPolyhedron p → o ≡ Flagged loss → new ≡ p →
    IsOfRows p.dims (p.rows ++ more) made o → IsOfRows p.dims (p.rows ++ more) new o
stays_flagged p made new more o loss h eo es b = subst (λ (q : Polyhedron). IsOfRows p.dims (p.rows ++ more) q o) (sym es) (record {
  dims = refl;
  canonical = h;
  within = meet_inside p.dims p.rows more (p.rows ++ more) refl;
  exact = subst (IfExact (IsPolyhedronOf p.dims (Con (p.rows ++ more)) p)) (sym eo) tt;
  flagged = b.flagged;
})

-- what comes after the positivity row
pub kept_positive : (n m : ℕ) (taken listed : List LinearRow) → taken ≡ inequality (positivity n) ∷ listed → n ≡ m → IsPositive m taken
kept_positive n m taken listed et e = (listed, et ∙ ap (λ (k : ℕ). inequality (positivity k) ∷ listed) e)

-- ---- the meet with a test
test_same : (n : ℕ) (P : PointSet) (t : LinearRow) → SameSet n (Meet P (Holds t)) (Meet P (Con (t ∷ [])))
test_same n P t = (λ x i h. (h.0, con_cons t [] x h.1 (con_none x)), λ x i h. (h.0, con_head t [] x h.1))

both_same : (n : ℕ) (P Q R : PointSet) → SameSet n P Q → SameSet n Q R → SameSet n P R
both_same n P Q R a b = (λ x i h. b.0 x i (a.0 x i h), λ x i h. a.1 x i (b.1 x i h))

tested_same : (n : ℕ) (rows : List LinearRow) (t : LinearRow) → SameSet n (Meet (Con rows) (Holds t)) (Con (rows ++ t ∷ []))
tested_same n rows t = both_same n (Meet (Con rows) (Holds t)) (Meet (Con rows) (Con (t ∷ []))) (Con (rows ++ t ∷ [])) (test_same n (Con rows) t) (meet_con n rows (t ∷ []))

pub test_becomes : (p new : Polyhedron) (t : LinearRow) (list : List LinearRow) (o : Outcome) → list ≡ p.rows ++ t ∷ [] → IsOfRows p.dims list new o →
    Becomes p.dims (Meet (Con p.rows) (Holds t)) (AddTestStrains p t) new o
test_becomes p new t list o e b =
    let all = p.rows ++ t ∷ [] in
    let same = tested_same p.dims p.rows t in
    becomes_same p.dims (Meet (Con p.rows) (Holds t)) (Con all) (AddTestStrains p t) (FromRowsStrains p.dims all) new o same
    (λ loss s. constraints_strain p.dims (Meet (Con p.rows) (Holds t)) (Con all) all loss same s) (subst (λ (l : List LinearRow). IsOfRows p.dims l new o) e b)

-- ---- the hull
-- an inequality that is valid on a polyhedron holds with each of its generators
pub valid_with : (p : Polyhedron) → IsPolyhedron p → (c : List ℤ) → ((y : List ℤ) → IsPoint p.dims y → Con p.rows y → pos 0 ≤ℤ product c y) → (t : List ℤ) → Contains (system_of p.generators) t →
    pos 0 ≤ℤ product c t
valid_with p (inl none) c valid t k = absurd (contains_none t (subst (λ (l : List LinearRow). Contains (system_of l) t) none.1 k))
valid_with p (inr h) c valid t k = valid_on_rows p.dims p.generators (has_vertex p h) c (λ y i g. valid y i ((con_gen p (inr h)).1 y i g)) t k

-- so what the generators of both give is in the hull
pub gen_in_hull : (p q : Polyhedron) → IsPolyhedron p → IsPolyhedron q → q.dims ≡ p.dims → IsWithin p.dims (Gen (p.generators ++ q.generators)) (Hull p.dims (Union (Con p.rows) (Con q.rows)))
gen_in_hull p q h k e x is_point g c width valid =
    generated_nonneg c (system_of (p.generators ++ q.generators)) (entry x)
    (λ t m. elim (system_append p.generators q.generators t m) [
      | inl a ↦ valid_with p h c (λ y i s. valid y i (inl s)) t a
      | inr b ↦ valid_with q k c (λ y i s. valid y (subst (λ (n : ℕ). IsPoint n y) e i) (inr s)) t b
    ])
    (gen_generated (p.generators ++ q.generators) (entry x) g)

-- and the points of both are given by them
union_in_gen : (p q : Polyhedron) → IsPolyhedron p → IsPolyhedron q → q.dims ≡ p.dims → IsWithin p.dims (Union (Con p.rows) (Con q.rows)) (Gen (p.generators ++ q.generators))
union_in_gen p q h k e x i (inl c) =
    generated_gen (p.generators ++ q.generators) (entry x) (generated_through (system_of (p.generators ++ q.generators)) (system_of p.generators) (entry x)
    (λ t m. generated_row (system_of (p.generators ++ q.generators)) t (system_append_in p.generators q.generators t (inl m))) (gen_generated p.generators (entry x) ((con_gen p h).0 x i c)))
union_in_gen p q h k e x i (inr c) =
    generated_gen (p.generators ++ q.generators) (entry x) (generated_through (system_of (p.generators ++ q.generators)) (system_of q.generators) (entry x)
    (λ t m. generated_row (system_of (p.generators ++ q.generators)) t (system_append_in p.generators q.generators t (inr m)))
    (gen_generated q.generators (entry x) ((con_gen q k).0 x (subst (λ (n : ℕ). IsPoint n x) (sym e) i) c)))

-- constraints that hold at each point of a set hold on its hull
pub hull_holds : (n : ℕ) (P : PointSet) (rows : List LinearRow) → ((c : List ℤ) → Contains (system_of rows) c → length c ≡ suc n) → IsWithin n P (Con rows) → IsWithin n (Hull n P) (Con rows)
hull_holds n P rows widths h x i hull = solves_con rows x (λ c k. hull c (widths c k) (λ y j s. con_solves rows y (h y j s) c k))

hull_within : (p q r : Polyhedron) (list : List LinearRow) → IsPolyhedron p → IsPolyhedron q → IsPolyhedron r → q.dims ≡ p.dims → r.dims ≡ p.dims → list ≡ p.generators ++ q.generators →
    IsWithin p.dims (Gen list) (Con r.rows) → IsWithin p.dims (Hull p.dims (Union (Con p.rows) (Con q.rows))) (Con r.rows)
hull_within p q r list h k m e er el within = hull_holds p.dims (Union (Con p.rows) (Con q.rows)) r.rows (λ c i. rows_width r m c i ∙ ap suc er)
    (λ x i u. within x i (subst (λ (l : List LinearRow). Gen l x) (sym el) (union_in_gen p q h k e x i u)))

-- the hull with a set that lies inside
pub hull_inside : (p q : Polyhedron) → IsPolyhedron p → q.dims ≡ p.dims → IsWithin q.dims (Con q.rows) (Con p.rows) → IsPolyhedronOf p.dims (Hull p.dims (Union (Con p.rows) (Con q.rows))) p
hull_inside p q h e within = record {
  dimensions = refl;
  canonical = h;
  points = (
    hull_holds p.dims (Union (Con p.rows) (Con q.rows)) p.rows (rows_width p h)
        (λ x i u. elim u [ inl c ↦ c | inr c ↦ within x (subst (λ (n : ℕ). IsPoint n x) (sym e) i) c ]),
    λ x i c f width valid. valid x i (inl c),
  );
}

hull_made : (p q r : Polyhedron) → IsPolyhedron p → IsPolyhedron q → q.dims ≡ p.dims → IsPolyhedronOf p.dims (Gen (p.generators ++ q.generators)) r →
    IsPolyhedronOf p.dims (Hull p.dims (Union (Con p.rows) (Con q.rows))) r
hull_made p q r h k e a = record {
  dimensions = a.dimensions;
  canonical = a.canonical;
  points = (
    hull_within p q r (p.generators ++ q.generators) h k a.canonical e a.dimensions refl a.points.0,
    λ x i c. gen_in_hull p q h k e x i (a.points.1 x i c),
  );
}

hull_exact : (p q r : Polyhedron) (list : List LinearRow) (o : Outcome) → IsPolyhedron p → IsPolyhedron q → q.dims ≡ p.dims →
    list ≡ p.generators ++ q.generators →
    IfExact (IsPolyhedronOf p.dims (Gen list) r) o → IfExact (IsPolyhedronOf p.dims (Hull p.dims (Union (Con p.rows) (Con q.rows))) r) o
hull_exact p q r list o h k e el = if_exact (IsPolyhedronOf p.dims (Gen list) r) (IsPolyhedronOf p.dims (Hull p.dims (Union (Con p.rows) (Con q.rows))) r) o
    (λ a. hull_made p q r h k e (subst (λ (l : List LinearRow). IsPolyhedronOf p.dims (Gen l) r) el a))

taken_strain : (p q : Polyhedron) (loss : Loss) → IsPolyhedron p → IsPolyhedron q → q.dims ≡ p.dims → FromGeneratorsStrains p.dims (p.generators ++ q.generators) loss → HullStrains p q loss
taken_strain p q loss h k e (inl a) = inl a
taken_strain p q loss h k e (inr b) = inr (record { result = b.result; is_result = hull_made p q b.result h k e b.is_result; strains = b.strains })

hull_strain : (p q : Polyhedron) (list : List LinearRow) (o : Outcome) → IsPolyhedron p → IsPolyhedron q → q.dims ≡ p.dims →
    list ≡ p.generators ++ q.generators →
    IfFlagged (FromGeneratorsStrains p.dims list) o → IfFlagged (HullStrains p q) o
hull_strain p q list o h k e el = if_flagged (FromGeneratorsStrains p.dims list) (HullStrains p q) o
    (λ loss s. taken_strain p q loss h k e (subst (λ (l : List LinearRow). FromGeneratorsStrains p.dims l loss) el s))

pub hull_becomes : (p q r : Polyhedron) (list : List LinearRow) (o : Outcome) → IsPolyhedron p → IsPolyhedron q → q.dims ≡ p.dims → list ≡ p.generators ++ q.generators →
    IsOfGenerators p.dims list r o → Becomes p.dims (Hull p.dims (Union (Con p.rows) (Con q.rows))) (HullStrains p q) r o
hull_becomes p q r list o h k e el b = record {
  dims = b.dims;
  canonical = b.canonical;
  within = hull_within p q r list h k b.canonical e b.dims el b.within;
  exact = hull_exact p q r list o h k e el b.exact;
  flagged = hull_strain p q list o h k e el b.flagged;
}

-- ---- generators added after those of a polyhedron that has a point
-- which stays among theirs
some_beside : (p : Polyhedron) (more : List LinearRow) → IsPolyhedron p → p.generators ≢ [] → ¬ (IsEmptySet p.dims (Gen (p.generators ++ more)))
some_beside p more (inl none) some empty = some none.1
some_beside p more (inr h) some empty =
    let v = has_vertex p h in
    empty v.vertex (record { width = v.widths v.vertex v.has; divisor = v.divisor }) (generated_gen (p.generators ++ more) (entry v.vertex)
    (generated_row (system_of (p.generators ++ more)) v.vertex (system_append_in p.generators more v.vertex (inl v.has))))

pub some_more : (p : Polyhedron) (n : ℕ) (taken listed more : List LinearRow) → IsPolyhedron p → n ≡ p.dims → taken ≡ listed → listed ≡ p.generators →
    listed ≢ [] →
    ¬ (IsEmptySet n (Gen (taken ++ more)))
some_more p n taken listed more h en et el some =
    subst (λ (m : ℕ). ¬ (IsEmptySet m (Gen (taken ++ more)))) (sym en)
    (subst (λ (l : List LinearRow). ¬ (IsEmptySet p.dims (Gen (l ++ more)))) (sym (et ∙ el)) (some_beside p more h (λ none. some (el ∙ none))))
