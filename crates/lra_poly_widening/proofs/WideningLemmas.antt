-- What the parts of a widening say of the whole.
use Rattle.std.proofs.Common.{Bool, List, [], ap, arith, false, inl, inr, length, refl, subst, suc, sym, true, Err, IsOk, IsErr, Ok, Result, ℕ, ℤ, ◌<◌, ◌++◌, ◌∙◌, ◌∷◌, ◌≡◌, ◌≢◌}
use Rattle.std.proofs.lemmas.List.{append-nil}
use Rattle.std.proofs.lemmas.List.Elements.{All-contains, Contains-append_cases, Contains-append_left, Contains-append_right}
use Rattle.std.specs.{List.All, List.Contains, List.filter, Prelude.◌↔◌, Prelude.◌⊎◌, Prelude.IsTrue}
use Rattle.lra_poly_widening.specs.Crates.lra_duality.Inclusions.{IsInclusion, Satisfies, SatisfiesAll, Passes, Violates, ViolatesFirst}
use Rattle.lra_poly_widening.specs.Crates.lra_linear_spec.Descriptions.{Con, LinearRow, rows_as, inequality}
use Rattle.lra_poly_widening.specs.Crates.lra_linear_spec.OperationStrain.{ConstraintsStrain, FromRowsStrains, LimitedStrains, StandardStrains, WideningPasses, tight_on, valid_on}
use Rattle.lra_poly_widening.specs.Crates.lra_linear_spec.Points.{IsEmptySet, IsPoint, IsWithin, SameSet}
use Rattle.lra_poly_widening.specs.Crates.lra_linear_spec.Polyhedra.{HasPoint, IsPolyhedron, IsPolyhedronOf, Polyhedron, falsity}
use Rattle.lra_poly_widening.specs.Crates.lra_linear_spec.Widening.{LimitedWidening, StandardWidening, StandardFrom, is_tight}
use Rattle.lra_poly_widening.specs.Crates.{lra_description_pair.KeptRows.IsOfSome, lra_duality.declared.inclusion.Inclusion.TheVariants.Wide, lra_duality.declared.inclusion.Inclusion.TheVariants.Yes}
use Rattle.lra_poly_widening.specs.Crates.{lra_linear_spec.Cones.both_ways, lra_linear_spec.Kinds.is_equality, lra_linear_spec.Strain.Loss, lra_linear_spec.declared.ConKind.ConKind}
use Rattle.lra_poly_widening.proofs.Crates.lra_duality.PolyhedronLemmas.{none_where_empty, some_generator, with_point}
use Rattle.lra_poly_widening.proofs.Crates.lra_linear_spec.Membership.{contains_cases, contains_none, filter_from}
use Rattle.lra_poly_widening.proofs.Crates.lra_linear_spec.Widening.{limited_con, standard_con, valid_decides}
use Rattle.lra_poly_widening.proofs.Crates.{lra_duality.InclusionLemmas.has_member, lra_linear_spec.Descriptions.con_none, lra_linear_spec.Lines.in_lines, lra_linear_spec.OneSpelling.given_from}
use Rattle.lra_poly.specs.Outcomes.{Becomes, IfExact, IfFlagged, IsOfRows}
use Rattle.lra_poly.specs.{declared.outcome.Outcome.Outcome, declared.outcome.Outcome.TheVariants.Exact, declared.outcome.Outcome.TheVariants.Flagged}
use Rattle.lra_systems.specs.{FirstPlaces.FirstAt, LinearSystems.LinearSystem, LinearSystems.constraints, LinearSystems.rows_by_kind}
use Rattle.lra_poly.proofs.PolyLemmas.{becomes_same, constraints_strain, exactly, if_exact, if_flagged, same_polyhedron}
use Rattle.lra_poly_widening.specs.Rank.{Falls, equalities_from, holds_in_range, kept_thresholds}
use Rattle.lra_poly_widening.specs.Widenings.{HaveColumns, IsOutside, IsLimitedWidening, PassesOnBoth}
use Rattle.lra_poly_widening.proofs.{Counting.holds_valid, Counting.kept_at, RankLaw.not_inside, RankLaw.rank_falls}

-- ---- with and without a point
pub around_point : (p q : Polyhedron) → HasPoint p → IsPolyhedron q → q.dims ≡ p.dims → IsWithin p.dims (Con p.rows) (Con q.rows) → HasPoint q
around_point p q h (inl none) d w = absurd (not_inside p q h none d w)
around_point p q h (inr k) d w = k

-- ---- widths
pub given_columns : {K : Type 0} (equal : K → Bool) (n : ℕ) (rows : List (List ℤ)) (kinds : List K) → All (λ r. length r ≡ suc n) rows → HaveColumns n (rows_by_kind equal rows kinds)
given_columns equal n [] kinds h g k = absurd (contains_none g k)
given_columns equal n (r ∷ rows) [] h g k = absurd (contains_none g k)
given_columns equal n (r ∷ rows) (x ∷ kinds) h g k = elim (contains_cases (let y : LinearRow = record { row = r; equal = equal x } in y) g (rows_by_kind equal rows kinds) k) [
  | inl e ↦ ap (λ (y : LinearRow). length y.row) (sym e) ∙ h 0 r (omega arith)
  | inr d ↦ given_columns equal n rows kinds (λ j t m. h (suc j) t (omega (arith, m))) g d
]

row_columns : (q : Polyhedron) → HasPoint q → HaveColumns q.dims q.rows
row_columns q k g m = elim (Contains-append_cases (rows_as true k.equalities) (rows_as false k.inequalities) g (subst (λ l. Contains l g) k.rows_are m)) [
  | inl i ↦ k.dual.system_widths g.row (Contains-append_right k.facets (both_ways k.equalities) g.row (in_lines k.equalities g.row (given_from true k.equalities g i).1))
  | inr i ↦ k.dual.system_widths g.row (Contains-append_left k.facets (both_ways k.equalities) g.row (k.shown g.row (given_from false k.inequalities g i).1).0)
]

-- ---- if P has no point
pub limited_empty : (p q : Polyhedron) (given : List LinearRow) → q.dims ≡ p.dims → p.generators ≡ [] → SameSet p.dims (LimitedWidening p q given) (Con q.rows)
limited_empty p q given d e = (
  λ x i l. subst (λ gs. StandardFrom gs p q x) e l.0,
  λ x i c. (subst (λ gs. StandardFrom gs p q x) (sym e) c, λ g m a b. b x (subst (λ (n : ℕ). IsPoint n x) (sym d) i) c),
)

pub widened_empty : (p q r : Polyhedron) (given : List LinearRow) → IsPolyhedron p → IsPolyhedron q → q.dims ≡ p.dims → IsEmptySet p.dims (Con p.rows) → r ≡ q → IsLimitedWidening p q given r Exact
widened_empty p q r given hp hq d empty er =
    let e = none_where_empty p hp empty in
    let s = limited_empty p q given d e in
    subst (λ (y : Polyhedron). IsLimitedWidening p q given y Exact) (sym er) (record {
      becomes = exactly p.dims (LimitedWidening p q given) (LimitedStrains p q given) q (record { dimensions = d; canonical = hq; points = s });
      old = λ x i c. absurd (empty x i c);
      keeps = λ h. absurd (some_generator p h e);
    })

-- ---- all points
pub widened_up : (p q u : Polyhedron) (given : List LinearRow) (loss : Loss) → IsPolyhedronOf p.dims (Con []) u → LimitedStrains p q given loss → IsLimitedWidening p q given u (Flagged loss)
widened_up p q u given loss made strains = record {
  becomes = record {
    dims = made.dimensions;
    canonical = made.canonical;
    within = λ x i l. made.points.0 x i (con_none x);
    exact = tt;
    flagged = strains;
  };
  old = λ x i l. made.points.0 x i (con_none x);
  keeps = λ h. record {
    rows = [];
    made = subst (λ (n : ℕ). IsPolyhedronOf n (Con []) u) (sym made.dimensions) made;
    widths = λ g k. absurd (contains_none g k);
    told = λ g k. absurd (contains_none g k);
  };
}

pub passes_widening : (p q : Polyhedron) (given : List LinearRow) (loss : Loss) → PassesOnBoth p q given loss →
    WideningPasses p q given (LimitedWidening p q given) loss
passes_widening p q given loss x = elim (Contains-append_cases p.generators q.generators x.passes.generator x.passes.has_generator) [
  | inl a ↦ record {
    excess = x.excess;
    is_cause = x.is_cause;
    generators = p.generators;
    of = inl refl;
    passes = record { row = x.passes.row; has_row = x.passes.has_row; generator = x.passes.generator; has_generator = a; passes = x.passes.passes };
    is_further = x.is_further;
    nothing = x.nothing;
  }
  | inr a ↦ record {
    excess = x.excess;
    is_cause = x.is_cause;
    generators = q.generators;
    of = inr (inl refl);
    passes = record { row = x.passes.row; has_row = x.passes.has_row; generator = x.passes.generator; has_generator = a; passes = x.passes.passes };
    is_further = x.is_further;
    nothing = x.nothing;
  }
]

pub passes_limited : (p q : Polyhedron) (given : List LinearRow) (loss : Loss) → PassesOnBoth p q given loss → LimitedStrains p q given loss
passes_limited p q given loss x = inr (passes_widening p q given loss x)

pub widened_wide : (p q u : Polyhedron) (given : List LinearRow) (loss : Loss) → IsPolyhedronOf p.dims (Con []) u → PassesOnBoth p q given loss → IsLimitedWidening p q given u (Flagged loss)
widened_wide p q u given loss made x = widened_up p q u given loss made (passes_limited p q given loss x)

-- ---- the polyhedron of the tight rows and those kept
limited_list : (p q : Polyhedron) (given : List LinearRow) → HasPoint p → HasPoint q →
    IsWithin p.dims (LimitedWidening p q given) (Con (tight_on p q ++ kept_thresholds p q given))
limited_list p q given h k x i l g m = elim (Contains-append_cases (tight_on p q) (kept_thresholds p q given) g m) [
  | inl a ↦ (standard_con p.dims p q (some_generator p h)).0 x i l.0 g a
  | inr b ↦
      let f = kept_at p q given g b in
      l.1 g f.0 ((valid_decides p h g).0 (holds_valid p g f.1)) ((valid_decides q k g).0 (holds_valid q g f.2))
]

old_list : (p q : Polyhedron) (given : List LinearRow) → HasPoint p → IsWithin p.dims (Con p.rows) (Con q.rows) → IsWithin p.dims (Con p.rows) (Con (tight_on p q ++ kept_thresholds p q given))
old_list p q given h w x i c g m = elim (Contains-append_cases (tight_on p q) (kept_thresholds p q given) g m) [
  | inl a ↦ w x i c g (filter_from (is_tight p) q.rows g a).0
  | inr b ↦ (valid_decides p h g).0 (holds_valid p g (kept_at p q given g b).1) x i c
]

-- the widths of these rows
limited_columns : (p q : Polyhedron) (given : List LinearRow) → HasPoint q → q.dims ≡ p.dims → HaveColumns p.dims given → HaveColumns p.dims (tight_on p q ++ kept_thresholds p q given)
limited_columns p q given k d columns g i = elim (Contains-append_cases (tight_on p q) (kept_thresholds p q given) g i) [
  | inl a ↦ row_columns q k g (filter_from (is_tight p) q.rows g a).0 ∙ ap suc d
  | inr b ↦ columns g (kept_at p q given g b).0
]

limited_told : (p q : Polyhedron) (given : List LinearRow) (g : LinearRow) → Contains (tight_on p q ++ kept_thresholds p q given) g →
    (is_tight p g ≡ true) ⊎ (Contains given g × (holds_in_range p g ≡ true))
limited_told p q given g i = elim (Contains-append_cases (tight_on p q) (kept_thresholds p q given) g i) [
  | inl a ↦ inl (filter_from (is_tight p) q.rows g a).1
  | inr b ↦ let f = kept_at p q given g b in inr (f.0, f.1)
]

-- the polyhedron of some of them, with what is reported about it
of_some : (p q made : Polyhedron) (given : List LinearRow) (o : Outcome) → HasPoint p → HasPoint q → q.dims ≡ p.dims →
    IsWithin p.dims (Con p.rows) (Con q.rows) →
    IsOfSome p.dims (tight_on p q ++ kept_thresholds p q given) made → HaveColumns p.dims given →
    IfExact (IsPolyhedronOf p.dims (LimitedWidening p q given) made) o →
    IfFlagged (LimitedStrains p q given) o → IsLimitedWidening p q given made o
of_some p q made given o h k d w s columns exact strain =
    let m = s.made in
    record {
      becomes = record {
        dims = m.dimensions;
        canonical = m.canonical;
        within = λ x i l. m.points.0 x i (λ g c. limited_list p q given h k x i l g (s.among g c));
        exact = exact;
        flagged = strain;
      };
      old = λ x i c. m.points.0 x i (λ g b. old_list p q given h w x i c g (s.among g b));
      keeps = λ _. record {
        rows = s.rows;
        made = subst (λ (j : ℕ). IsPolyhedronOf j (Con s.rows) made) (sym m.dimensions) m;
        widths = λ g i. limited_columns p q given k d columns g (s.among g i) ∙ ap suc (sym m.dimensions);
        told = λ g i. limited_told p q given g (s.among g i);
      };
    }

-- ---- what is reported when rows are lost
-- what the polyhedron is made of, and what is reported about it
pub record IsMade (p q made : Polyhedron) (list given : List LinearRow) (n : ℕ) (o lost : Outcome) : Type 0 where
  pub first : IsPolyhedron p
  pub second : IsPolyhedron q
  pub dims : q.dims ≡ p.dims
  pub some_point : ¬ (IsEmptySet p.dims (Con p.rows))
  pub within : IsWithin p.dims (Con p.rows) (Con q.rows)
  pub rows : list ≡ tight_on p q ++ kept_thresholds p q given
  pub list_dims : n ≡ p.dims
  pub columns : HaveColumns p.dims given
  pub some : IsOfSome n list made
  pub becomes : IsOfRows n list made o
  pub same : IfExact (kept_thresholds p q given ≡ valid_on p q given) lost
  pub passes : IfFlagged (PassesOnBoth p q given) lost

some_limited : (p q made : Polyhedron) (list given : List LinearRow) (n : ℕ) (o lost : Outcome) → IsMade p q made list given n o lost → IsOfSome p.dims (tight_on p q ++ kept_thresholds p q given) made
some_limited p q made list given n o lost x =
    subst (λ (l : List LinearRow). IsOfSome p.dims l made) x.rows (subst (λ (j : ℕ). IsOfSome j list made) x.list_dims x.some)

-- no widening threshold passes
pub widened_made : (p q made : Polyhedron) (list given : List LinearRow) (n : ℕ) (o lost : Outcome) → IsMade p q made list given n o lost → lost ≡ Exact → IsLimitedWidening p q given made o
widened_made p q made list given n o lost x el =
    let h = with_point p x.first x.some_point in
    let k = around_point p q h x.second x.dims x.within in
    let s : kept_thresholds p q given ≡ valid_on p q given = subst (IfExact (kept_thresholds p q given ≡ valid_on p q given)) el x.same in
    let e : list ≡ tight_on p q ++ valid_on p q given = x.rows ∙ ap (λ l. tight_on p q ++ l) s in
    let all = Con (tight_on p q ++ valid_on p q given) in
    let c = limited_con p q given h k in
    of_some p q made given o h k x.dims x.within (some_limited p q made list given n o lost x) x.columns
    (if_exact (IsPolyhedronOf n (Con list) made) (IsPolyhedronOf p.dims (LimitedWidening p q given) made) o
    (λ m. same_polyhedron p.dims (LimitedWidening p q given) all made c
    (subst (λ (l : List LinearRow). IsPolyhedronOf p.dims (Con l) made) e (subst (λ (j : ℕ). IsPolyhedronOf j (Con list) made) x.list_dims m))) x.becomes.exact)
    (if_flagged (FromRowsStrains n list) (LimitedStrains p q given) o
    (λ loss f. inl (constraints_strain p.dims (LimitedWidening p q given) all (tight_on p q ++ valid_on p q given) loss c
    (subst (λ (l : List LinearRow). FromRowsStrains p.dims l loss) e (subst (λ (j : ℕ). FromRowsStrains j list loss) x.list_dims f)))) x.becomes.flagged)

-- some widening threshold passes
pub widened_passed : (p q made : Polyhedron) (list given : List LinearRow) (n : ℕ) (o lost : Outcome) → IsMade p q made list given n o lost → ¬ (lost ≡ Exact) → IsLimitedWidening p q given made lost
widened_passed p q made list given n o Exact x other = absurd (other refl)
widened_passed p q made list given n o (Flagged loss) x other =
    let h = with_point p x.first x.some_point in
    let k = around_point p q h x.second x.dims x.within in
    of_some p q made given (Flagged loss) h k x.dims x.within (some_limited p q made list given n o (Flagged loss) x) x.columns tt (passes_limited p q given loss x.passes)

pub not_exact : (b : Bool) (o : Outcome) → IsTrue b ↔ (o ≡ Exact) → b ≡ false → ¬ (o ≡ Exact)
not_exact b o h f e = let t = h.1 e in cc

-- ---- the standard widening is that with no threshold
standard_limited : (n : ℕ) (p q : Polyhedron) → SameSet n (StandardWidening p q) (LimitedWidening p q [])
standard_limited n p q = (λ x i s. (s, λ g m a b. absurd (contains_none g m)), λ x i l. l.0)

standard_loss : (p q : Polyhedron) (loss : Loss) → LimitedStrains p q [] loss → StandardStrains p q loss
standard_loss p q loss (inl a) =
    inl (constraints_strain p.dims (StandardWidening p q) (LimitedWidening p q []) (tight_on p q) loss (standard_limited p.dims p q)
    (subst (λ (l : List LinearRow). ConstraintsStrain p.dims (LimitedWidening p q []) l loss) (append-nil (tight_on p q)) a))
standard_loss p q loss (inr b) = inr (record {
  excess = b.excess;
  is_cause = b.is_cause;
  generators = b.generators;
  of = elim b.of [
    | inl x ↦ inl x
    | inr x ↦ elim x [
      | inl y ↦ inr (inl y)
      | inr y ↦ inr (inr (record
          { result = y.result; is_result = same_polyhedron p.dims (StandardWidening p q) (LimitedWidening p q []) y.result (standard_limited p.dims p q) y.is_result; are = y.are }))
    ]
  ];
  passes = b.passes;
  is_further = b.is_further;
  nothing = b.nothing;
})

pub standard_becomes : (p q r : Polyhedron) (given : List LinearRow) (o : Outcome) → given ≡ [] → IsLimitedWidening p q given r o → Becomes p.dims (StandardWidening p q) (StandardStrains p q) r o
standard_becomes p q r given o e w =
    becomes_same p.dims (StandardWidening p q) (LimitedWidening p q []) (StandardStrains p q) (LimitedStrains p q []) r o (standard_limited p.dims p q)
    (standard_loss p q)
    (subst (λ (l : List LinearRow). Becomes p.dims (LimitedWidening p q l) (LimitedStrains p q l) r o) e w.becomes)

-- ---- the rank
pub limited_falls : (p q r : Polyhedron) (given : List LinearRow) (o : Outcome) → IsPolyhedron p → HaveColumns p.dims given → IsLimitedWidening p q given r o → r ≢ p → Falls p r given
limited_falls p q r given o h columns w other = rank_falls p r given h w.becomes.canonical w.becomes.dims w.old other columns w.keeps

pub standard_falls : (p q r : Polyhedron) (none : List LinearRow) (o : Outcome) → none ≡ [] → IsPolyhedron p → IsLimitedWidening p q none r o → r ≢ p → (given : List LinearRow) →
    HaveColumns p.dims given →
    Falls p r given
standard_falls p q r none o e h w other given columns = rank_falls p r given h w.becomes.canonical w.becomes.dims w.old other columns (λ x.
    let k = w.keeps x in
    record {
      rows = k.rows;
      made = k.made;
      widths = k.widths;
      told = λ g i. elim (k.told g i) [
        | inl a ↦ inl a
        | inr b ↦ absurd (contains_none g (subst (λ (l : List LinearRow). Contains l g) e b.0))
      ];
    })

-- ---- refusals: the first generator that decides is one
same_first : {A : Type 0} (B : A → Type 0) (e f : List A) (m n : A) (s t : List A) → e ++ m ∷ s ≡ f ++ n ∷ t → All B e → All B f → ¬ (B m) → ¬ (B n) → m ≡ n
same_first B [] [] m n s t q a b x y = cc
same_first B [] (g ∷ f) m n s t q a b x y = let h : m ≡ g = cc in absurd (x (subst B (sym h) (b 0 g (omega arith))))
same_first B (g ∷ e) [] m n s t q a b x y = let h : g ≡ n = cc in absurd (y (subst B h (a 0 g (omega arith))))
same_first B (g ∷ e) (k ∷ f) m n s t q a b x y =
    let h : e ++ m ∷ s ≡ f ++ n ∷ t = cc in
    same_first B e f m n s t h (λ j d l. a (suc j) d (omega (arith, l))) (λ j d l. b (suc j) d (omega (arith, l))) x y

violation : (rows : List LinearRow) (g : LinearRow) → ViolatesFirst rows g → ¬ (SatisfiesAll rows g)
violation rows g v all =
    let m = All-contains (Satisfies g) rows v.first.member all (has_member (Satisfies g) (Violates g) rows v.place v.first) in
    let t = m.1 in
    let f = v.first.here.1 in
    cc

ok_or_err : {A E : Type 0} (q : Result A E) → IsOk q → IsErr q → ⊥
ok_or_err (Ok x) a b = cc
ok_or_err (Err e) a b = cc

pub yes_inside : (p q : Polyhedron) → IsInclusion q.rows p.generators Yes → (place : ℕ) → ¬ (IsOutside p q place)
yes_inside p q all place f =
    violation q.rows f.member f.here (All-contains (SatisfiesAll q.rows) p.generators f.member all (has_member (SatisfiesAll q.rows) (ViolatesFirst q.rows) p.generators place f))

pub wide_inside : (p q : Polyhedron) (generator row : ℕ) → IsInclusion q.rows p.generators (Wide generator row) → (place : ℕ) → ¬ (IsOutside p q place)
wide_inside p q generator row w place f =
    let passed : ¬ (SatisfiesAll q.rows w.member) =
    λ all. ok_or_err _ (All-contains (Satisfies w.member) q.rows w.here.member all (has_member (Satisfies w.member) (Passes w.member) q.rows row w.here)).0
    w.here.here in
    let same : w.member ≡ f.member =
    same_first (SatisfiesAll q.rows) w.earlier f.earlier w.member f.member w.later f.later (sym w.is ∙ f.is) w.before f.before passed (violation q.rows f.member f.here) in
    by_rows f.member (subst (λ (g : LinearRow). FirstAt (Satisfies g) (Passes g) q.rows row) same w.here) f.here
  where
    by_rows : (g : LinearRow) → FirstAt (Satisfies g) (Passes g) q.rows row → ViolatesFirst q.rows g → ⊥
    by_rows g a b =
        let x = b.first in
        let same : a.member ≡ x.member = same_first (Satisfies g) a.earlier x.earlier a.member x.member a.later x.later (sym a.is ∙ x.is) a.before x.before
        (λ m. ok_or_err _ m.0 a.here) (λ m. let t = m.1 in let f = x.here.1 in cc) in
        ok_or_err _ x.here.0 (subst (Passes g) same a.here)

pub seen_columns : {K : Type 0} (equal : K → Bool) (n m : ℕ) (all : LinearSystem K) (rows : List (List ℤ)) → rows ≡ all.rows → m ≡ n → All (λ r. length r ≡ suc m) rows →
    HaveColumns n (rows_by_kind equal all.rows all.kinds)
seen_columns equal n m all rows er e h =
    given_columns equal n all.rows all.kinds (subst (λ (l : List (List ℤ)). All (λ r. length r ≡ suc n) l) er (subst (λ (j : ℕ). All (λ r. length r ≡ suc j) rows) e h))

-- ---- the number of equalities
pub some_equalities : (p : Polyhedron) (rows : List LinearRow) (b : Bool) (n : ℕ) → IsPolyhedron p → rows ≡ p.rows → b ≡ false → IsTrue b ↔ IsEmptySet p.dims (Con p.rows) →
    n ≡ length (filter (λ (g : LinearRow). g.equal) rows) → n ≡ equalities_from p.generators p
some_equalities p rows b n hp er e h m =
    m ∙ ap (λ l. length (filter (λ (g : LinearRow). g.equal) l)) er ∙ sym (by_list p.generators (some_generator p (with_point p hp (λ s. let t = h.1 s in cc))))
  where
    by_list : (l : List LinearRow) → l ≢ [] → equalities_from l p ≡ length (filter (λ (g : LinearRow). g.equal) p.rows)
    by_list [] x = absurd (x refl)
    by_list (g ∷ l) x = refl

pub no_equalities : (p : Polyhedron) (n : ℕ) → IsPolyhedron p → IsEmptySet p.dims (Con p.rows) → n ≡ suc p.dims → n ≡ equalities_from p.generators p
no_equalities p n hp empty e = e ∙ sym (ap (λ l. equalities_from l p) (none_where_empty p hp empty))

-- there is one constraint if there is no point
pub one_row : (p : Polyhedron) (list : LinearSystem ConKind) → IsPolyhedron p → IsEmptySet p.dims (Con p.rows) → constraints list ≡ p.rows →
    0 < length list.rows
one_row p list (inr h) empty e = absurd (some_generator p h (none_where_empty p (inr h) empty))
one_row p list (inl none) empty e = by_rows list.rows list.kinds (e ∙ none.0)
  where
    by_rows : (rows : List (List ℤ)) (kinds : List ConKind) → rows_by_kind is_equality rows kinds ≡ inequality (falsity p.dims) ∷ [] → 0 < length rows
    by_rows [] kinds h = let wrong : ⊥ = cc in absurd wrong
    by_rows (r ∷ rows) kinds h = omega arith
