-- What a certificate that meets its program says is kept along each path: its rows hold at the goal's store if they
-- hold at the source's; and no path leads to where a listed assertion is false.
use Rattle.std.proofs.Common.{◌≡◌, ℕ, zero, suc, ◌<◌, ◌≤◌, ◌+◌, ◌-◌, ℤ, pos, negsuc, ◌+ℤ◌, ◌*ℤ◌, ◌≤ℤ◌, List, [], ◌∷◌, ◌++◌, length, map, drop, Option, Some, None, Ok, refl, ap, sym, ◌∙◌, subst, arith}
use Rattle.std.proofs.lemmas.List.Elements.{All-from_recursion, All-contains, Contains-append_cases}
use Rattle.std.proofs.{Common.inl, Common.inr, Common.◌⊎◌, lemmas.Bool.cases_lt, lemmas.Int.ints, lemmas.Option.slice_get_within}
use Rattle.std.specs.{List.AllByRecursion, List.Contains, List.flat_map, List.range_with_len, Prelude.slice_get}
use Rattle.lra_certificate_spec.specs.Crates.lra_linear_spec.Descriptions.{LinearRow, HoldsWith, Holds, Con, system_of}
use Rattle.lra_certificate_spec.specs.Crates.{lra_domain.Actions.Action, lra_domain.Moves.LeadsAll, lra_domain.Moves.SomeLeads, lra_linear_spec.Polyhedra.falsity, lra_linear_spec.Vectors.entry}
use Rattle.lra_certificate_spec.specs.Crates.{lra_linear_spec.Vectors.dot, lra_linear_spec.Vectors.product, lra_linear_spec.Vectors.zeros, lra_operations.Tree.Node, lra_path_segments.Segments.Goal}
use Rattle.lra_certificate_spec.specs.Crates.{lra_path_segments.Segments.comes_to, lra_path_segments.Segments.violates, lra_program.Program.Program, lra_program.Sites.Site, lra_program.Sites.sites_of}
use Rattle.lra_certificate_spec.proofs.Crates.lra_linear_spec.Membership.{contains_none, contains_cases, contains_head, contains_tail, map_has, map_from}
use Rattle.lra_certificate_spec.proofs.Crates.lra_linear_spec.Ring.{ring, v, ◌⊕◌, ◌⊗◌}
use Rattle.lra_certificate_spec.proofs.Crates.{lra_linear_spec.Descriptions.solves_con, lra_linear_spec.OneSpelling.dot_zeros, lra_path_segments.Lists.flat_map_has}
use Rattle.lra_paths.specs.Covers.{HoldInAllRuns, IsGoalOf}
use Rattle.lra_paths.specs.Paths.{Path, path_by, live_of, live_at, actions_between, paths_between, paths_of, violations_of, sources_of, points_of}
use Rattle.lra_multipliers.specs.{Multipliers.Multipliers, Symbols.SymbolicState, Symbols.symbols, Symbols.new_symbols, Symbols.width_of, Symbols.executed_path}
use Rattle.lra_certificate_spec.specs.Certificates.{Evidence, none, infeasible, implies, ListedAssertion, Certificate, state_or_empty, state_from, state_to, live_at_source, PathPremises, padded}
use Rattle.lra_certificate_spec.specs.Certificates.{premises_of, contradiction, IsShownInfeasible, IsClaimImplied, AreImplied, CertifiesClaims, CertifiesByEvidence, CertifiesFrom, CertifiesPath}
use Rattle.lra_certificate_spec.specs.Certificates.{CertifiesPaths, CertifiesAssertion, IsPointRow, IsState, AreStates, Certifies}
use Rattle.lra_certificate_spec.specs.Claims.{RowsHoldAt, RowsHold, ClaimsAt, PathsKeepRows}
use Rattle.lra_multipliers.proofs.ShownRows.{shown_holds}
use Rattle.lra_certificate_spec.proofs.WalkedRows.{values, composed_value, GoesOn, symbols_values, symbols_behind, symbols_width, Stands, goes_on}

-- ---- products
product_front : (r x new : List ℤ) → length r ≤ length x → product r (x ++ new) ≡ product r x
product_front [] x new h = refl
product_front (c ∷ cs) [] new h = absurd (omega (arith, h))
product_front (c ∷ cs) (y ∷ ys) new h = ap (λ (z : ℤ). (c *ℤ y) +ℤ z) (product_front cs ys new (omega (arith, h)))

dot_padded : (r : List ℤ) (k : ℕ) (u : ℕ → ℤ) → dot (r ++ zeros k) u ≡ dot r u
dot_padded [] k u = dot_zeros k u
dot_padded (c ∷ cs) k u = ap (λ (z : ℤ). (c *ℤ u 0) +ℤ z) (dot_padded cs k (λ j. u (suc j)))

con_behind : (xs ys : List LinearRow) (u : List ℤ) → Con xs u → Con ys u → Con (xs ++ ys) u
con_behind xs ys u h k = λ g m. at g (Contains-append_cases xs ys g m)
  where
    at : (g : LinearRow) → Contains xs g ⊎ Contains ys g → Holds g u
    at g (inl m) = h g m
    at g (inr m) = k g m

-- ---- one path
module _ (live : ℕ) (path : Path) (s t : List ℤ) (long : length s ≡ live) (leads : LeadsAll path.actions s t) where
  abbrev last : ℕ
  last = live + new_symbols path.actions

  -- the vector of the symbols' values
  record Vector (w : SymbolicState) : Type 0 where
    u : List ℤ
    one : entry u 0 ≡ pos 1
    front : (r : List ℤ) → length r ≤ suc live → product r u ≡ product r (pos 1 ∷ s)
    stands : Stands last u t w

  begun : SymbolicState
  begun = record { forms = symbols (suc last) 1 live; tests = []; free = suc live }

  vector : (w : SymbolicState) → executed_path live path.actions ≡ Ok w → Vector w
  unfolding begun
  vector w e = from (goes_on path.actions s t leads)
    where
      from : (new : List ℤ) × (length new ≡ new_symbols path.actions) × GoesOn path.actions new s t → Vector w
      from (new, n, k) = record {
        u = pos 1 ∷ (s ++ new);
        one = refl;
        front = λ r h. product_front r (pos 1 ∷ s) new (omega (arith, h, long));
        stands = k last (pos 1 ∷ (s ++ new)) begun w refl
            (ap (λ (j : ℕ). drop j (pos 1 ∷ (s ++ new))) (let m : suc live ≡ 1 + length s = omega (arith, long) in m) ∙
            symbols_behind (pos 1 ∷ (s ++ new)) 1 s
            new refl)
            (omega arith)
            (record {
              widths = symbols_width (suc last) 1 live;
              are = ap (λ (j : ℕ). values (pos 1 ∷ (s ++ new)) (symbols (suc last) 1 j)) (sym long) ∙ symbols_values last (pos 1 ∷ (s ++ new)) 1 s new
                  (omega (arith, long)) refl;
              tests = λ f m. absurd (contains_none f m);
            }) e;
      }

  module _ (rows : List LinearRow) (held : Con rows (pos 1 ∷ s)) (fit : AllByRecursion (IsPointRow live) rows) where
    abbrev along : PathPremises
    along = record { live = live; rows = rows; path = path }

    row_holds : (w : SymbolicState) (x : Vector w) (g : LinearRow) → Contains rows g → Holds (padded (suc last) g) x.u
    row_holds w x g m =
        let is = All-contains (IsPointRow live) rows g (All-from_recursion (IsPointRow live) rows fit) m in
        subst (λ (z : ℤ). HoldsWith g.equal z) (sym (dot_padded g.row (suc last - length g.row) (entry x.u) ∙ x.front g.row (omega (arith, is.width))))
        (held g m)

    premises_hold : (w : SymbolicState) (x : Vector w) → Con (premises_of along w) x.u
    premises_hold w x = con_behind (map (padded (suc last)) rows) w.tests x.u each x.stands.tests
      where
        from : (g : LinearRow) → (f : LinearRow) × Contains rows f × (padded (suc last) f ≡ g) → Holds g x.u
        from g (f, k, e) = subst (λ (y : LinearRow). Holds y x.u) e (row_holds w x f k)

        each : (g : LinearRow) → Contains (map (padded (suc last)) rows) g → Holds g x.u
        each g m = from g (map_from (padded (suc last)) rows g m)

    at_one : (w : SymbolicState) (x : Vector w) → pos 0 ≤ℤ entry x.u 0
    at_one w x = subst (λ (z : ℤ). pos 0 ≤ℤ z) (sym x.one) (omega (arith, ints))

    nothing_holds : (n : ℕ) (u : List ℤ) → entry u 0 ≡ pos 1 → pos 0 ≤ℤ product (falsity n) u → ⊥
    nothing_holds n u e h = below (subst (λ (z : ℤ). pos 0 ≤ℤ z) value h)
      where
        value : product (falsity n) u ≡ negsuc 0
        value =
            ap (λ (z : ℤ). (negsuc 0 *ℤ entry u 0) +ℤ z) (dot_zeros n (λ j. entry u (suc j))) ∙ ap (λ (z : ℤ). (negsuc 0 *ℤ z) +ℤ pos 0) e ∙
            ring (v (negsuc 0) ⊗ v (pos 1) ⊕ v (pos 0)) (v (negsuc 0)) (omega arith)

        below : pos 0 ≤ℤ negsuc 0 → ⊥
        below k = omega (arith, ints, k)

    not_dead : (m : Multipliers) → IsShownInfeasible along m → ⊥
    not_dead m (w, e, a) =
        let x = vector w e in
        nothing_holds (width_of live path.actions - 1) x.u x.one (shown_holds (premises_of along w) (contradiction along) x.u m a.1 (at_one w x)
        (premises_hold w x))

    claim_holds : (claim : List ℤ) (m : Multipliers) → IsClaimImplied along claim m → pos 0 ≤ℤ product claim (pos 1 ∷ t)
    claim_holds [] m d = omega (arith, ints)
    claim_holds (k ∷ cs) m (w, row, e, f, a) =
        let x = vector w e in
        let h = shown_holds (premises_of along w) row x.u m a.1 (at_one w x) (premises_hold w x) in
        let is = composed_value last k cs w.forms row x.u x.one x.stands.widths f in
        subst (λ (z : ℤ). pos 0 ≤ℤ z)
        (is.1 ∙ ap (λ (ys : List ℤ). k +ℤ product cs ys) x.stands.are ∙ ap (λ (z : ℤ). z +ℤ product cs t) (ring (v k) (v k ⊗ v (pos 1)) (omega arith))) h

    claims_hold : (claims : List (List ℤ)) (ms : List Multipliers) → AreImplied along claims ms → (c : List ℤ) → Contains claims c → pos 0 ≤ℤ product c
        (pos 1 ∷ t)
    claims_hold [] ms h c k = absurd (contains_none c k)
    claims_hold (claim ∷ claims) [] h c k = absurd h
    claims_hold (claim ∷ claims) (m ∷ ms) h c k = elim (contains_cases claim c claims k) [
      | inl e ↦ subst (λ (r : List ℤ). pos 0 ≤ℤ product r (pos 1 ∷ t)) e (claim_holds claim m h.0)
      | inr d ↦ claims_hold claims ms h.1 c d
    ]

    meets_claims : (target : Option (List LinearRow)) (ms : List Multipliers) → CertifiesClaims along target ms → RowsHoldAt target t
    meets_claims None [] h = absurd h
    meets_claims None (m ∷ []) h = absurd (not_dead m h)
    meets_claims None (m ∷ n ∷ ms) h = absurd h
    meets_claims (Some claims) ms h = solves_con claims (pos 1 ∷ t) (claims_hold (system_of claims) ms h)

    meets_lines : (target : Option (List LinearRow)) (evidence : Evidence) → CertifiesByEvidence along target evidence → RowsHoldAt target t
    meets_lines target none h = absurd h
    meets_lines target (infeasible m) h = absurd (not_dead m h)
    meets_lines target (implies ms) h = meets_claims target ms h

  path_holds : (state target : Option (List LinearRow)) (evidence : Evidence) → CertifiesFrom live path state target evidence → IsState live state →
      RowsHoldAt state s → RowsHoldAt
      target t
  path_holds None target evidence h f held = absurd held
  path_holds (Some rows) target evidence h f held = meets_lines rows held f target evidence h

-- ---- lists of paths
pub range_has : (a n x : ℕ) → a ≤ x → x < a + n → Contains (range_with_len a n) x
range_has a zero x h k = absurd (omega (arith, h, k))
range_has a (suc n) x h k = elim (cases_lt a x) [
  | inl l ↦ contains_tail a x (range_with_len (a + 1) n) (range_has (a + 1) n x (omega (arith, l)) (omega (arith, k)))
  | inr l ↦ subst (λ (y : ℕ). Contains (range_with_len a (suc n)) y) (let e : a ≡ x = omega (arith, h, l) in e) (contains_head a (range_with_len (a + 1) n))
]

some_way : (ways : List (List Action)) (s t : List ℤ) → SomeLeads ways s t → (way : List Action) × Contains ways way × LeadsAll way s t
some_way [] s t h = absurd h
some_way (way ∷ ways) s t (inl h) = (way, contains_head way ways, h)
some_way (way ∷ ways) s t (inr h) = let k = some_way ways s t h in (k.0, contains_tail way k.0 ways k.1, k.2)

state_there : (sites : List Site) (states : List (Option (List LinearRow))) (q : ℕ) → AreStates sites states → IsState (live_of (slice_get sites q))
    (state_or_empty (slice_get states q))
state_there [] [] q h = tt
state_there [] (x ∷ states) q h = absurd h
state_there (site ∷ sites) [] q h = absurd h
state_there (site ∷ sites) (x ∷ states) zero h = h.0
state_there (site ∷ sites) (x ∷ states) (suc q) h = state_there sites states q h.1

-- ---- a program
module _ (P : Program) (g : Node) (c : Certificate) (meets : Certifies P g c) where
  state_is : (p : ℕ) → IsState (live_at_source P p) (state_from c.states p)
  state_is zero = tt
  state_is (suc p) = state_there (sites_of P) c.states p meets.states

  member_meets : (paths : List Path) (evidence : List Evidence) → CertifiesPaths P g c.states paths evidence → (path : Path) → Contains paths path →
      (l : Evidence) ×
      CertifiesPath
      P g c.states path l
  member_meets [] evidence h path k = absurd (contains_none path k)
  member_meets (x ∷ paths) [] h path k = absurd h
  member_meets (x ∷ paths) (l ∷ evidence) h path k = elim (contains_cases x path paths k) [
    | inl e ↦ (l, subst (λ (y : Path). CertifiesPath P g c.states y l) e h.0)
    | inr d ↦ member_meets paths evidence h.1 path d
  ]

  -- along a path of a list of which the evidence meets
  kept_along : (paths : List Path) (evidence : List Evidence) → CertifiesPaths P g c.states paths evidence → (p : ℕ) (goal : Goal) (way : List Action) →
      Contains paths
      (path_by p goal way) → (s t : List ℤ) →
      length s ≡ live_at_source P p → RowsHoldAt (state_from c.states p) s → LeadsAll way s t → RowsHoldAt (state_to c.states goal) t
  kept_along paths evidence h p goal way k s t long held leads =
      let m = member_meets paths evidence h (path_by p goal way) k in
      path_holds (live_at_source P p) (path_by p goal way) s t long leads (state_from c.states p) (state_to c.states goal) m.0 m.1 (state_is p) held

  kept_to_point : (p q : ℕ) (r : Site) (s t : List ℤ) → p ≤ length (sites_of P) → slice_get (sites_of P) q ≡ Some r → length s ≡ live_at_source P p → RowsHoldAt
      (state_from c.states p) s →
      SomeLeads (actions_between P g p (comes_to q)) s t → RowsHoldAt (state_to c.states (comes_to q)) t
  kept_to_point p q r s t few there long held led =
      let way = some_way (actions_between P g p (comes_to q)) s t led in
      kept_along (paths_of P g) c.paths meets.paths p (comes_to q) way.0
      (flat_map_has (λ (p : ℕ). flat_map (λ (q : ℕ). paths_between P g p (comes_to q)) (points_of P)) (sources_of P) p (path_by p (comes_to q) way.0)
      (range_has 0 (suc (length (sites_of P))) p (omega arith) (omega (arith, few)))
      (flat_map_has (λ (q : ℕ). paths_between P g p (comes_to q)) (points_of P) q (path_by p (comes_to q) way.0)
      (range_has 0 (length (sites_of P)) q (omega arith) (let l = slice_get_within (sites_of P) q r there in omega (arith, l)))
      (map_has (path_by p (comes_to q)) (actions_between P g p (comes_to q)) way.0 way.1)))
      s t long held way.2

  not_denied : (one : ListedAssertion) → Contains c.asserted one → (p : ℕ) (s t : List ℤ) → p ≤ length (sites_of P) → length s ≡ live_at_source P p → RowsHoldAt
      (state_from c.states p) s →
      SomeLeads (actions_between P g p (violates one.number)) s t → ⊥
  not_denied one has p s t few long held led =
      let way = some_way (actions_between P g p (violates one.number)) s t led in
      let listed = All-contains (CertifiesAssertion P g c.states) c.asserted one (All-from_recursion (CertifiesAssertion P g c.states) c.asserted meets.listed)
      has in
      kept_along (violations_of P g one.number) one.evidence listed.paths p (violates one.number) way.0
      (flat_map_has (λ (p : ℕ). paths_between P g p (violates one.number)) (sources_of P) p (path_by p (violates one.number) way.0)
      (range_has 0 (suc (length (sites_of P))) p (omega arith) (omega (arith, few)))
      (map_has (path_by p (violates one.number)) (actions_between P g p (violates one.number)) way.0 way.1))
      s t long held way.2

  denied_number : (one : ListedAssertion) (p q : ℕ) (s t : List ℤ) → Contains c.asserted one → one.number ≡ q → p ≤ length (sites_of P) →
      length s ≡ live_at_source P p →
      RowsHoldAt (state_from c.states p) s →
      SomeLeads (actions_between P g p (violates q)) s t → ⊥
  denied_number one p q s t has e few long held led =
      not_denied one has p s t few long held (subst (λ (n : ℕ). SomeLeads (actions_between P g p (violates n)) s t) (sym e) led)

  no_row : RowsHoldAt (Some []) []
  no_row = λ f m. absurd (contains_none f m)

  -- the two premises of the law on what paths keep
  pub first_kept : (goal : Goal) (t : List ℤ) → IsGoalOf P goal → SomeLeads (actions_between P g 0 goal) [] t → ClaimsAt c goal t
  first_kept (comes_to q) t (r, there) led = kept_to_point 0 q r [] t (omega arith) there refl no_row led
  first_kept (violates q) t (r, there) led = λ one has e. denied_number one 0 q [] t has e (omega arith) refl no_row led

  pub next_kept : (p : ℕ) (r : Site) (goal : Goal) (s t : List ℤ) → slice_get (sites_of P) p ≡ Some r → length s ≡ live_at P p → IsGoalOf P goal → ClaimsAt c
      (comes_to p) s →
      SomeLeads (actions_between P g (suc p) goal) s t → ClaimsAt c goal t
  next_kept p r (comes_to q) s t at long (site, there) held led =
      kept_to_point (suc p) q site s t (let l = slice_get_within (sites_of P) p r at in omega (arith, l)) there long held led
  next_kept p r (violates q) s t at long (site, there) held led =
      λ one has e. denied_number one (suc p) q s t has e (let l = slice_get_within (sites_of P) p r at in omega (arith, l)) long held led

  -- and what then holds in all runs
  pub rows_hold : HoldInAllRuns P (ClaimsAt c) → RowsHold P c
  rows_hold k = record {
    rows = λ q s store at there. k.comes q s store at there;
    asserted = λ one s has at false_there. (k.fails one.number s at false_there).1 one has refl;
  }

pub certificates_are_inductive : (P : Program) (g : Node) (c : Certificate) → Certifies P g c →
    PathsKeepRows P g c × (HoldInAllRuns P (ClaimsAt c) → RowsHold P c)
certificates_are_inductive P g c m = (record { first = first_kept P g c m; next = next_kept P g c m }, rows_hold P g c m)
