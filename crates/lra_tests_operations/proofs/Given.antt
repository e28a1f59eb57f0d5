-- States and verdicts of points, one point more at a time.
use Rattle.std.proofs.Common.{◌≡◌, ◌∙◌, sym, ap, refl, subst, ◌+◌, ◌<◌, ℕ, zero, suc, Bool, true, false, List, [], ◌∷◌, ◌++◌, length, map, take, get_or, Some, inl, inr, ◌⊎◌, length-append, Vec}
use Rattle.std.proofs.lemmas.List.Elements.{Contains-append_left, Contains-append_right, Contains-push_cases, Contains-get_or}
use Rattle.std.proofs.lemmas.Option.{same_Some, none-some, slice_get_within, get_or_from_slice_get}
use Rattle.std.proofs.{Common.Global, Common.arith, lemmas.List.map_more, lemmas.List.length-map, lemmas.List.length-take-le, lemmas.List.map-append}
use Rattle.std.specs.{List.AllByRecursion, List.Contains, Prelude.slice_get, Prelude.IsTrue}
use Rattle.lra_tests_operations.proofs.Crates.lra_linear_spec.Membership.{contains_head, contains_none}
use Rattle.lra_tests_operations.specs.Crates.lra_program.Sites.{Site, sites_of}
use Rattle.lra_tests_operations.specs.Crates.{lra_program.Assertions.IsAssertion, lra_program.Program.Program, lra_resolution_spec.Resolve.resolve, lra_row_text.Part.Part, lra_syntax.Trees.FileTree}
use Rattle.lra_report.specs.{Listing.HasWidth, Report.Invariant}
use Rattle.lra_operations.specs.{Agree.IsInlinedTree, Tree.Node, TreeViews.site_view}
use Rattle.lra_operations.specs.declared.tree.Site as code_site
use Rattle.lra_report_build.specs.AnalysisResults.{AreInvariants, AreVerdicts}

-- a place of a list with one element more is a place of the list, or the last
at_more : {A : Type 0} (xs : List A) (x : A) (q : ℕ) (y : A) → slice_get (xs ++ x ∷ []) q ≡ Some y → (slice_get xs q ≡ Some y) ⊎ ((q ≡ length xs) × (x ≡ y))
at_more [] x zero y e = inr (refl, same_Some x y e)
at_more [] x (suc q) y e = absurd (none-some y e)
at_more (z ∷ xs) x zero y e = inl e
at_more (z ∷ xs) x (suc q) y e = elim (at_more xs x q y e) [
  | inl before ↦ inl before
  | inr last ↦ inr (ap suc last.0, last.1)
]

at_old : {A : Type 0} (xs : List A) (x : A) (q : ℕ) (y : A) → slice_get xs q ≡ Some y → slice_get (xs ++ x ∷ []) q ≡ Some y
at_old [] x q y e = absurd (none-some y e)
at_old (z ∷ xs) x zero y e = e
at_old (z ∷ xs) x (suc q) y e = at_old xs x q y e

at_last : {A : Type 0} (xs : List A) (x : A) → slice_get (xs ++ x ∷ []) (length xs) ≡ Some x
at_last [] x = refl
at_last (z ∷ xs) x = at_last xs x

-- states -------------------------------------------------------------------------------------------------------------

invariants_more : (ss : List Site) (xs : List Invariant) (s : Site) (x : Invariant) → AreInvariants ss xs → AllByRecursion (HasWidth s.live) x → AreInvariants (ss ++ s ∷ []) (xs ++ x ∷ [])
invariants_more ss xs s x are wide = record {
  as_many = let a = length-append xs (x ∷ []) in let b = length-append ss (s ∷ []) in let c = are.as_many in omega (arith, a, b, c);
  wide = λ q t state at there. elim (at_more ss s q t at) [
    | inl old ↦ elim (at_more xs x q state there) [
      | inl held ↦ are.wide q t state old held
      | inr last ↦ let inside = slice_get_within ss q t old in let e = last.0 in let c = are.as_many in absurd (omega (arith, inside, e, c))
    ]
    | inr new ↦ elim (at_more xs x q state there) [
      | inl held ↦ let inside = slice_get_within xs q state held in let e = new.0 in let c = are.as_many in absurd (omega (arith, inside, e, c))
      | inr last ↦ subst (λ (z : Site). AllByRecursion (HasWidth z.live) state) new.1 (subst (λ (y : Invariant). AllByRecursion (HasWidth s.live) y) last.1 wide)
    ]
  ];
}

abbrev parts_of : Vec Part Global → Invariant
parts_of x = x.items

-- so far the first sites have their states
pub states_more : (sites : List code_site.Site) (states more : List (Vec Part Global)) (s : code_site.Site) (state : Vec Part Global) (n : ℕ)
    → AreInvariants (map site_view (take n sites)) (map parts_of states) → n < length sites → s ≡ get_or sites n s → more ≡ states ++ state ∷ [] → AllByRecursion (HasWidth s.live) state.items
    → AreInvariants (map site_view (take (n + 1) sites)) (map parts_of more)
states_more sites states more s state n are inside read pushed wide =
    let x = map_more site_view sites n s inside ∙ ap (λ (y : code_site.Site). map site_view (take n sites) ++ site_view y ∷ []) (sym read) in
    let y = ap (map parts_of) pushed ∙ map-append parts_of states (state ∷ []) in
    subst (λ (ss : List Site). AreInvariants ss (map parts_of more)) (sym x)
    (subst (λ (vs : List Invariant). AreInvariants (map site_view (take n sites) ++ site_view s ∷ []) vs) (sym y)
    (invariants_more (map site_view (take n sites)) (map parts_of states) (site_view s) state.items are wide))

pub no_states : AreInvariants [] []
no_states = record { as_many = refl; wide = λ q s state at there. absurd (none-some s at) }

-- verdicts -----------------------------------------------------------------------------------------------------------

abbrev Verdicts : Type 0
Verdicts = List (ℕ × Bool)

listed : (vs : Verdicts) (i : ℕ) (v : ℕ × Bool) → slice_get vs i ≡ Some v → Contains vs v
listed vs i v at = subst (λ (w : ℕ × Bool). Contains vs w) (get_or_from_slice_get vs i v v at) (Contains-get_or vs i v (slice_get_within vs i v at))

kept : (ss : List Site) (s : Site) (q : ℕ) → IsAssertion ss q → IsAssertion (ss ++ s ∷ []) q
kept ss s q (x, at, asserts) = (x, at_old ss s q x at, asserts)

-- after a point that is no assertion
verdicts_same : (ss : List Site) (s : Site) (vs : Verdicts) → AreVerdicts ss vs → (IsTrue s.asserts → ⊥) → AreVerdicts (ss ++ s ∷ []) vs
verdicts_same ss s vs are never = record {
  of_these = λ q b h. kept ss s q (are.of_these q b h);
  of_all = λ q a. elim (at_more ss s q a.0 a.1) [
    | inl old ↦ are.of_all q (a.0, old, a.2)
    | inr new ↦ absurd (never (subst (λ (z : Site). IsTrue z.asserts) (sym new.1) a.2))
  ];
  in_order = are.in_order;
}

alone : (n q : ℕ) (b : Bool) → q ≡ n → Contains {X = ℕ × Bool} ((n, b) ∷ []) (q, b)
alone n q b is = subst (λ (k : ℕ). Contains {X = ℕ × Bool} ((n, b) ∷ []) (k, b)) (sym is) (contains_head {A = ℕ × Bool} (n, b) [])

-- after an assertion
verdicts_more : (ss : List Site) (s : Site) (vs : Verdicts) (b : Bool) → AreVerdicts ss vs → IsTrue s.asserts → AreVerdicts (ss ++ s ∷ []) (vs ++ (length ss, b) ∷ [])
verdicts_more ss s vs b are asserts = record {
  of_these = λ q c h. elim (Contains-push_cases vs (length ss, b) (q, c) h) [
    | inl old ↦ kept ss s q (are.of_these q c old)
    | inr new ↦ subst (λ (k : ℕ). IsAssertion (ss ++ s ∷ []) k) (ap (λ (v : ℕ × Bool). v.0) new) (s, at_last ss s, asserts)
  ];
  of_all = λ q a. elim (at_more ss s q a.0 a.1) [
    | inl old ↦ let x = are.of_all q (a.0, old, a.2) in (x.0, Contains-append_left vs ((length ss, b) ∷ []) (q, x.0) x.1)
    | inr new ↦ (b, Contains-append_right vs ((length ss, b) ∷ []) (q, b) (alone (length ss) q b new.0))
  ];
  in_order = λ i j v w l x y. elim (at_more vs (length ss, b) j w y) [
    | inl old ↦ elim (at_more vs (length ss, b) i v x) [
      | inl older ↦ are.in_order i j v w l older old
      | inr last ↦ let inside = slice_get_within vs j w old in let e = last.0 in absurd (omega (arith, inside, e, l))
    ]
    | inr new ↦ elim (at_more vs (length ss, b) i v x) [
      | inl older ↦
          let there = are.of_these v.0 v.1 (listed vs i v older) in
          let inside = slice_get_within ss v.0 there.0 there.1 in let e : length ss ≡ w.0 = ap (λ (z : ℕ × Bool). z.0) new.1 in omega (arith, inside, e)
      | inr last ↦ let e = last.0 in let f = new.0 in absurd (omega (arith, e, f, l))
    ]
  ];
}

-- so far the assertions among the first sites have their verdicts
firsts : (sites : List code_site.Site) (n : ℕ) → n < length sites → length (map site_view (take n sites)) ≡ n
firsts sites n inside = length-map (take n sites) site_view ∙ length-take-le n sites (omega (arith, inside))

pub verdicts_kept : (sites : List code_site.Site) (vs : Verdicts) (s : code_site.Site) (n : ℕ) → AreVerdicts (map site_view (take n sites)) vs → n < length sites → s ≡ get_or sites n s
    → s.asserts ≡ false → AreVerdicts (map site_view (take (n + 1) sites)) vs
verdicts_kept sites vs s n are inside read never =
    let x = map_more site_view sites n s inside ∙ ap (λ (y : code_site.Site). map site_view (take n sites) ++ site_view y ∷ []) (sym read) in
    subst (λ (ss : List Site). AreVerdicts ss vs) (sym x) (verdicts_same (map site_view (take n sites)) (site_view s) vs are (λ is. let wrong : s.asserts ≡ true = is in cc))

pub verdicts_pushed : (sites : List code_site.Site) (vs more : Verdicts) (s : code_site.Site) (n : ℕ) (b : Bool) → AreVerdicts (map site_view (take n sites)) vs
    → n < length sites → s ≡ get_or sites n s → IsTrue s.asserts → more ≡ vs ++ (n, b) ∷ [] → AreVerdicts (map site_view (take (n + 1) sites)) more
verdicts_pushed sites vs more s n b are inside read asserts pushed =
    let x = map_more site_view sites n s inside ∙ ap (λ (y : code_site.Site). map site_view (take n sites) ++ site_view y ∷ []) (sym read) in
    let y = pushed ∙ ap (λ (k : ℕ). vs ++ (k, b) ∷ []) (sym (firsts sites n inside)) in
    subst (λ (ss : List Site). AreVerdicts ss more) (sym x)
    (subst (λ (us : Verdicts). AreVerdicts (map site_view (take n sites) ++ site_view s ∷ []) us) (sym y)
    (verdicts_more (map site_view (take n sites)) (site_view s) vs b are asserts))

pub no_verdicts : AreVerdicts [] []
no_verdicts = record {
  of_these = λ q b h. absurd (contains_none (q, b) h);
  of_all = λ q a. absurd (none-some a.0 a.1);
  in_order = λ i j v w l x y. absurd (none-some v x);
}

-- the points of a tree's program ------------------------------------------------------------------------------------

pub sites_there : (t : FileTree) (P : Program) (given sites : List code_site.Site) → given ≡ sites → map site_view sites ≡ sites_of P → P ≡ resolve t → map site_view given ≡ sites_of (resolve t)
sites_there t P given sites same are is = ap (map site_view) same ∙ are ∙ ap sites_of is

pub graph_there : (t : FileTree) (P : Program) (g : Node) → IsInlinedTree P g → P ≡ resolve t → (h : Node) × IsInlinedTree (resolve t) h
graph_there t P g graph is = (g, subst (λ (Q : Program). IsInlinedTree Q g) is graph)

pub states_there : (ss tt : List Site) (states : List (Vec Part Global)) → ss ≡ tt → AreInvariants ss (map parts_of states) → AreInvariants tt (map parts_of states)
states_there ss tt states same are = subst (λ (xs : List Site). AreInvariants xs (map parts_of states)) same are

pub verdicts_there : (ss tt : List Site) (vs given : Verdicts) → ss ≡ tt → given ≡ vs → AreVerdicts ss vs → AreVerdicts tt given
verdicts_there ss tt vs given same is are = subst (λ (xs : List Site). AreVerdicts xs given) same (subst (λ (us : Verdicts). AreVerdicts ss us) (sym is) are)
