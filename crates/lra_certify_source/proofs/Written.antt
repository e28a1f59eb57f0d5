-- What is written is a certificate; and a path that exceeds a limit leads to a point.
use Rattle.std.proofs.Common.{◌≡◌, ◌∙◌, ◌≤◌, ◌<◌, ℕ, List, [], ◌∷◌, ◌++◌, length, map, refl, ap, ap₂, sym, subst, arith}
use Rattle.std.proofs.{lemmas.List.Elements.Contains-append_right, lemmas.Option.slice_get_within}
use Rattle.std.specs.{List.flat_map, Prelude.Contains}
use Rattle.lra_certify_source.proofs.Crates.lra_linear_spec.Membership.{contains_head, map_from}
use Rattle.lra_certify_source.specs.Crates.lra_certificate_spec.Certificates.{ListedAssertion}
use Rattle.lra_certify_source.specs.Crates.lra_paths.Paths.{Path, path_by, actions_between, paths_between, points_of, sources_of, paths_of}
use Rattle.lra_certify_source.specs.Crates.{lra_certificate_spec.CertificateText.head_text, lra_certificate_spec.Claims.program_of, lra_certificate_spec.Judged.RowsAtPoint, lra_operations.Tree.Node}
use Rattle.lra_certify_source.specs.Crates.{lra_path_segments.Segments.comes_to, lra_program.Program.Program, lra_program.Sites.sites_of}
use Rattle.lra_certify.specs.Certified.{AreListable, IsListedFound, certificate_by, StopsAt}
use Rattle.std.specs.List.{AllZip}
use Rattle.lra_certify.specs.{declared.failures.StrainedAt.StrainedAt, declared.failures.StrainedAt.TheVariants.Edge, declared.failures.StrainedAt.TheVariants.Assertion}
use Rattle.lra_certify.proofs.CertifiedSteps.{flat_from, in_range_below}
use Rattle.lra_certify_source.specs.{Certified.CertifiedAreCertificates, Certified.HasSmallPoint, declared.refusals.CertifyRefusal.TheVariants.Strained}

-- ---- certificates
numbers_found : (P : Program) (g : Node) (states : List RowsAtPoint) (proved : List ℕ) (asserted : List ListedAssertion) →
    AllZip (IsListedFound P g states) proved asserted
    → map (λ (one : ListedAssertion). one.number) asserted ≡ proved
numbers_found P g states [] [] each = refl
numbers_found P g states [] (one ∷ more) each = absurd each
numbers_found P g states (q ∷ qs) [] each = absurd each
numbers_found P g states (q ∷ qs) (one ∷ more) (first, rest) = ap₂ (λ (n : ℕ) (ns : List ℕ). n ∷ ns) first.0 (numbers_found P g states qs more rest)

pub certificates : CertifiedAreCertificates
certificates source r bytes c = record {
  is = record {
    certificate = certificate_by c.states c.certified.paths c.certified.asserted source;
    program = c.handed.program;
    few = c.handed.few;
    text = c.text ∙ ap (λ (body : List ℕ). head_text source ++ body) (c.certified.text source);
    meets = c.certified.meets source;
  };
  source_is = refl;
  states_are = refl;
  listed_are = numbers_found (program_of c.handed.program) c.handed.program.operations c.states c.proved c.certified.asserted c.certified.asserted_first;
}

-- ---- points
same_goal : (path : Path) (p : ℕ) (q k : ℕ) (steps : List _) → path_by p (comes_to k) steps ≡ path → path.goal ≡ comes_to q → k ≡ q
same_goal path p q k steps is goal = let both : comes_to k ≡ comes_to q = ap (λ (x : Path). x.goal) is ∙ goal in cc

point_there : (P : Program) (g : Node) (path : Path) (q : ℕ) → Contains (paths_of P g) path → path.goal ≡ comes_to q → q < length (sites_of P)
point_there P g path q among goal =
    let source = flat_from (λ p. flat_map (λ k. paths_between P g p (comes_to k)) (points_of P)) (sources_of P) path among in
    let point = flat_from (λ k. paths_between P g source.0 (comes_to k)) (points_of P) path source.2 in
    let steps = map_from (path_by source.0 (comes_to point.0)) (actions_between P g source.0 (comes_to point.0)) path point.2 in
    let low = in_range_below 0 (length (sites_of P)) point.0 point.1 in
    let same = same_goal path source.0 q point.0 steps.0 steps.2 goal in
    omega (arith, low, same)

within : {A : Type 0} (front back : List A) (x : A) (xs : List A) → xs ≡ front ++ x ∷ back → Contains xs x
within front back x xs is = subst (λ (l : List _). Contains l x) (sym is) (Contains-append_right front (x ∷ back) x (contains_head x back))

abbrev IsAmong : ℕ → StrainedAt → Type 0
IsAmong n (Edge p q) = q < n
IsAmong n (Assertion q) = q < n

pub stops_there : (P : Program) (g : Node) (states : List RowsAtPoint) (proved : List ℕ) (at : StrainedAt) → AreListable (sites_of P) proved
    → StopsAt P g states proved at → IsAmong (length (sites_of P)) at
stops_there P g states proved (Edge p q) listed stops =
    point_there P g stops.path q (within stops.stops.before stops.stops.behind stops.path (paths_of P g) stops.stops.is) stops.goal
stops_there P g states proved (Assertion q) listed stops =
    let one = listed.assert q (within stops.stops.before stops.stops.behind q proved stops.stops.is) in
    slice_get_within (sites_of P) q one.0 one.1

pub counted : (at : StrainedAt) (n : ℕ) → n ≤ 2048 → IsAmong n at → HasSmallPoint (Strained at)
counted (Edge p q) n few low = let small : q < 2048 = omega (arith, few, low) in omega (arith, small)
counted (Assertion q) n few low = let small : q < 2048 = omega (arith, few, low) in omega (arith, small)
