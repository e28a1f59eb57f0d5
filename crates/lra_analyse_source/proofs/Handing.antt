-- What an iteration over a program's tree hands to whoever lists it: as many values as points, each as wide as its point, and one verdict for
-- each assertion.
use Rattle.std.proofs.Common.{◌≡◌, ℕ, zero, suc, ◌≤◌, ◌<◌, List, [], ◌∷◌, length, map, Option, Some, None, Bool, true, false, cond, refl, sym, ap, ◌∙◌, ◌+◌, subst, arith, inl, inr}
use Rattle.std.proofs.{lemmas.List.length-map, lemmas.List.Elements.Contains-append_cases, lemmas.Option.none-some, lemmas.Option.same_Some}
use Rattle.std.specs.{List.AllByRecursion, List.Contains, List.flat_map, Prelude.slice_get, Prelude.IsTrue}
use Rattle.lra_front_end.proofs.Faultless.{at_place}
use Rattle.lra_analyse_source.proofs.Crates.lra_linear_spec.ListPlaces.{contains_at}
use Rattle.lra_analyse_source.proofs.Crates.lra_linear_spec.Membership.{contains_cases, contains_head, contains_none, contains_tail, map_from}
use Rattle.lra_analyse_source.specs.Crates.lra_analysis_spec.Analysis.{LossyIteration, IsSolution}
use Rattle.lra_analyse_source.specs.Crates.{lra_analysis_spec.Operations.lossy_operations, lra_analysis_spec.Pass.PassResult, lra_analysis_spec.Plan.Plan, lra_base.declared.refusals.Place.Place}
use Rattle.lra_analyse_source.specs.Crates.{lra_domain.Abstraction.Abstraction, lra_domain.Laws.Laws, lra_operations.Agree.IsInlinedTree, lra_operations.Tree.Node, lra_program.Assertions.IsAssertion}
use Rattle.lra_analyse_source.specs.Crates.{lra_program.Program.Program, lra_program.Sites.Site, lra_program.Sites.sites_of, lra_report.Listing.HasWidth, lra_report.Report.Invariant}
use Rattle.lra_analyse_source.specs.Crates.{lra_report.declared.verdict_kinds.VerdictKind.VerdictKind, lra_report.declared.verdict_kinds.VerdictKind.TheVariants.Access}
use Rattle.lra_options.specs.declared.options.Domain.{Domain}
use Rattle.lra_fixpoint.specs.Numbers.{values_in, checks_in, asserts_of, IsNumbered}
use Rattle.lra_fixpoint.proofs.{Counting.Found, Counting.iteration_found, Counting.value_counted, Counting.failing_counted, Counting.counted_value, Counting.counted_failing, Widths.values_wide}
use Rattle.lra_report_build.specs.AnalysisResults.{ReportedVerdict, reported_verdict, reported_from, reported_accesses}
use Rattle.lra_report_build.specs.{Canonical.AreCanonicallyShown, Canonical.IsCanonicalState, Shown.AreShown}
use Rattle.lra_analyse_source.proofs.{Flags.IsBelow, Flags.graph_below, Flags.iteration_below, Numbering.numbered, Widths.graph_lives}

-- lists --------------------------------------------------------------------------------------------------------------

-- a list that has each place of another is at least as long
pub no_longer : {A B : Type 0} (xs : List A) (ys : List B) → ((k : ℕ) (x : A) → slice_get xs k ≡ Some x → (y : B) × (slice_get ys k ≡ Some y)) → length xs ≤ length ys
no_longer [] ys f = omega arith
no_longer (x ∷ xs) [] f = let there = f 0 x refl in absurd (none-some there.0 there.1)
no_longer (x ∷ xs) (y ∷ ys) f = let rest = no_longer xs ys (λ k. f (suc k)) in omega (arith, rest)

-- where a place of the images comes from
pub image_of : {A B : Type 0} (f : A → B) (xs : List A) (k : ℕ) (y : B) → slice_get (map f xs) k ≡ Some y → (x : A) × (slice_get xs k ≡ Some x) × (f x ≡ y)
image_of f [] k y e = absurd (none-some y e)
image_of f (x ∷ xs) zero y e = (x, refl, same_Some (f x) y e)
image_of f (x ∷ xs) (suc k) y e = image_of f xs k y e

-- a verdict that is reported is one of its kind
pub one_told : (own : VerdictKind) (vs : List (ℕ × Bool)) (kind : VerdictKind) (n which : ℕ) (b : Bool) →
    Contains (map (reported_verdict own) vs) (kind, n, which, b)
    → (q : ℕ) × (kind ≡ own) × (n ≡ suc q) × Contains vs (q, b)
one_told own vs kind n which b h =
    let (v, among, is) = map_from (reported_verdict own) vs (kind, n, which, b) h in (
      v.0,
      sym (ap (λ (z : ReportedVerdict). z.0) is),
      sym (ap (λ (z : ReportedVerdict). z.1) is),
      subst (λ (c : Bool). Contains vs (v.0, c)) (ap (λ (z : ReportedVerdict). z.3) is) among,
    )

-- one of an access is one of those at its point
told_nth : (number first : ℕ) (js : List (Place × Bool)) (kind : VerdictKind) (n which : ℕ) (b : Bool)
    → Contains (reported_from number first js) (kind, n, which, b)
    → (k : ℕ) × (place : Place) × (kind ≡ Access) × (n ≡ number) × (which ≡ first + k) × (slice_get js k ≡ Some (place, b))
told_nth number first [] kind n which b h = absurd (contains_none (kind, n, which, b) h)
told_nth number first (j ∷ js) kind n which b h =
    elim (contains_cases (Access, number, first, j.1) (kind, n, which, b) (reported_from number (suc first) js) h) [
      | inl is ↦ (
        0,
        j.0,
        sym (ap (λ (z : ReportedVerdict). z.0) is),
        sym (ap (λ (z : ReportedVerdict). z.1) is),
        sym (ap (λ (z : ReportedVerdict). z.2) is) ∙ omega arith,
        ap (λ (z : ReportedVerdict). Some (j.0, z.3)) is,
      )
      | inr later ↦
          let (k, place, own, same, from, there) = told_nth number (suc first) js kind n which b later in
          (suc k, place, own, same, from ∙ omega arith, there)
    ]

pub one_access : (vs : List (ℕ × List (Place × Bool))) (kind : VerdictKind) (n which : ℕ) (b : Bool)
    → Contains (flat_map reported_accesses vs) (kind, n, which, b)
    → (q : ℕ) × (js : List (Place × Bool)) × (place : Place) × (kind ≡ Access) × (n ≡ suc q) × Contains vs (q, js)
    × (slice_get js which ≡ Some (place, b))
one_access [] kind n which b h = absurd (contains_none (kind, n, which, b) h)
one_access (v ∷ vs) kind n which b h =
    elim (Contains-append_cases (reported_accesses v) (flat_map reported_accesses vs) (kind, n, which, b) h) [
      | inl here ↦
          let (k, place, own, same, from, there) = told_nth (suc v.0) 0 v.1 kind n which b here in
          let whole : which ≡ k = omega (arith, from) in
          (v.0, v.1, place, own, same, contains_head v vs, ap (slice_get v.1) whole ∙ there)
      | inr later ↦
          let (q, js, place, own, same, among, there) = one_access vs kind n which b later in
          (q, js, place, own, same, contains_tail v (q, js) vs among, there)
    ]

-- assertions ---------------------------------------------------------------------------------------------------------

counted_asserts : (b : Bool) → 1 ≤ cond b 1 0 → IsTrue b
counted_asserts true h = refl
counted_asserts false h = absurd (omega (arith, h))

counted_site : (o : Option Site) → 1 ≤ asserts_of o → (s : Site) × (o ≡ Some s) × IsTrue s.asserts
counted_site None h = absurd (omega (arith, h))
counted_site (Some s) h = (s, refl, counted_asserts s.asserts h)

asserts_counted : (b : Bool) → IsTrue b → 1 ≤ cond b 1 0
asserts_counted true h = omega arith
asserts_counted false h = absurd (let no : false ≡ true = h in cc)

-- what is handed over ------------------------------------------------------------------------------------------------

module _ {V H : Type 0} (m : Abstraction V H) (plan : Plan) (P : Program) (g : Node) (r : PassResult V) (values : List V) (verdicts : List (ℕ × Bool)) (flagged : Option ℕ)
    (graph : IsInlinedTree P g) (derived : LossyIteration m plan P g r) (solves : IsSolution m r values verdicts flagged) where
  counts : (q : ℕ) → Found q r.entries (values_in g q) (checks_in g q)
  counts q = iteration_found V H (lossy_operations m) q plan P g r derived

  numbers : IsNumbered (sites_of P) g
  numbers = numbered P g graph

  -- a value stands at a point
  value_point : (q : ℕ) (v : V) → slice_get values q ≡ Some v → (s : Site) × (slice_get (sites_of P) q ≡ Some s)
  value_point q v there = at (slice_get (sites_of P) q) refl
    where
      at : (o : Option Site) → slice_get (sites_of P) q ≡ o → (s : Site) × (slice_get (sites_of P) q ≡ Some s)
      at (Some s) e = (s, e)
      at None e =
          let some = value_counted V q v r.entries ((solves.is_value q v).0 there) in
          let count = (counts q).values in
          let none = numbers.no_values q e in
          absurd (omega (arith, some, count, none))

  -- and each point has one
  point_value : (q : ℕ) (s : Site) → slice_get (sites_of P) q ≡ Some s → (v : V) × (slice_get values q ≡ Some v)
  point_value q s there =
      let count = (counts q).values in
      let one = numbers.values q s there in
      let found = counted_value V q r.entries (omega (arith, count, one)) in
      (found.0, (solves.is_value q found.0).1 found.1)

  -- as many values as points
  pub as_many : length values ≡ length (sites_of P)
  as_many =
      let few = no_longer values (sites_of P) value_point in
      let many = no_longer (sites_of P) values point_value in
      omega (arith, few, many)

  -- each verdict is on an assertion
  pub of_assertions : (q : ℕ) (proved : Bool) → Contains verdicts (q, proved) → IsAssertion (sites_of P) q
  of_assertions q proved listed =
      let (u, found, so) = solves.is_verdict q proved listed in
      let some = failing_counted V q u r.entries found in
      let count = (counts q).checks in
      let site = numbers.checks q in
      counted_site (slice_get (sites_of P) q) (omega (arith, some, count, site))

  -- and each assertion has one
  pub of_all : (q : ℕ) → IsAssertion (sites_of P) q → (proved : Bool) × Contains verdicts (q, proved)
  of_all q (s, there, asserts) =
      let count = (counts q).checks in
      let site : checks_in g q ≡ cond s.asserts 1 0 = numbers.checks q ∙ ap asserts_of there in
      let some = asserts_counted s.asserts asserts in
      let found = counted_failing V q r.entries (omega (arith, count, site, some)) in
      solves.has_verdict q found.0 found.1

  -- the first flag stands at a point
  pub flag_there : (q : ℕ) → flagged ≡ Some q → q < length (sites_of P)
  flag_there q is =
      let n = length (sites_of P) in
      let all = graph.all in
      let below = iteration_below V H (lossy_operations m) n plan P g r (omega (arith, all)) (graph_below P g graph) derived in
      subst (λ (o : Option ℕ). IsBelow n o) (sym solves.is_flagged ∙ is) below

  -- a value has a dimension for each variable that lives at its point
  pub value_dims : Laws m → (q : ℕ) (v : V) (s : Site) → slice_get values q ≡ Some v → slice_get (sites_of P) q ≡ Some s → m.dims v ≡ s.live
  value_dims laws q v s there site = values_wide m laws (sites_of P) plan P g r (graph_lives P g graph) derived q v s ((solves.is_value q v).0 there) site

  module _ (shown : V → Invariant) where
    -- as many states as points
    pub states_as_many : length (map shown values) ≡ length (sites_of P)
    states_as_many = length-map values shown ∙ as_many

    -- each state has a number for each variable that lives at its point
    pub states_wide : Laws m → (domain : Domain) → AreShown m domain shown values
        → (q : ℕ) (s : Site) (state : Invariant) → slice_get (sites_of P) q ≡ Some s → slice_get (map shown values) q ≡ Some state
        → AllByRecursion (HasWidth s.live) state
    states_wide laws domain are q s state there got =
        let (v, value_there, is) = image_of shown values q state got in
        let dims : m.dims v ≡ s.live = value_dims laws q v s value_there there in
        subst (λ (x : Invariant). AllByRecursion (HasWidth s.live) x) is (subst (λ (n : ℕ). AllByRecursion (HasWidth n) (shown v)) dims (are v (contains_at values q v value_there)).wide)

    -- and is shown by canonical lists, as its value is
    pub states_canonical : Laws m → (domain : Domain) → AreCanonicallyShown domain m.dims shown values
        → (q : ℕ) (s : Site) (state : Invariant) → slice_get (sites_of P) q ≡ Some s → slice_get (map shown values) q ≡ Some state
        → IsCanonicalState domain s.live state
    states_canonical laws domain are q s state there got =
        let (v, value_there, is) = image_of shown values q state got in
        let dims : m.dims v ≡ s.live = value_dims laws q v s value_there there in
        subst (IsCanonicalState domain s.live) is (subst (λ (n : ℕ). IsCanonicalState domain n (shown v)) dims
        (at_place (λ (u : V). IsCanonicalState domain (m.dims u) (shown u)) values q v are value_there))
