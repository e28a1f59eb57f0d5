-- What is found over the grounds of a path is what has to be said of it; and points of its premises lead to its target.
use Rattle.std.proofs.Common.{◌≡◌, inl, inr, ◌-◌, ℕ, suc, ℤ, pos, ◌≤ℤ◌, ◌<ℤ◌, ◌<◌, List, [], ◌∷◌, length, map, take, Option, None, Some, Ok, Err, refl, ap, sym, ◌∙◌, subst, arith}
use Rattle.std.proofs.{lemmas.List.length-take-le, lemmas.List.Elements.All-contains, lemmas.List.Elements.Contains-append_left, lemmas.List.Elements.Contains-append_right}
use Rattle.std.specs.List.{Contains, AllByRecursion, AllZip}
use Rattle.lra_certify.specs.Crates.lra_certificate_lines.PathCheckViews.{ArePathFacts, ArePathFactsOf}
use Rattle.lra_certify.specs.Crates.lra_certificate_spec.Certificates.{Evidence, none, infeasible, implies, PathPremises, padded, premises_of, contradiction, IsShownInfeasible, IsClaimImplied}
use Rattle.lra_certify.specs.Crates.lra_certificate_spec.Certificates.{AreImplied, AreNumbers}
use Rattle.lra_certify.specs.Crates.lra_multipliers.Multipliers.{Multipliers, IsFarkasCertificate, yes, IsAnswer}
use Rattle.lra_certify.specs.Crates.lra_multipliers.Symbols.{SymbolicState, composed, width_of}
use Rattle.lra_certify.specs.Crates.{lra_certificate_lines.declared.path_checks.PathFacts.PathFacts, lra_certificate_spec.Judged.RowsAtPoint, lra_linear_spec.Descriptions.LinearRow}
use Rattle.lra_certify.specs.Crates.{lra_linear_spec.Descriptions.Con, lra_linear_spec.Descriptions.system_of, lra_linear_spec.Points.IsPoint, lra_linear_spec.Points.IsEmptySet}
use Rattle.lra_certify.specs.Crates.{lra_linear_spec.Polyhedra.falsity, lra_linear_spec.Vectors.entry, lra_linear_spec.Vectors.product, lra_paths.Paths.Path, lra_systems.LinearSystems.constraints}
use Rattle.lra_certify.proofs.Crates.lra_linear_spec.Membership.{contains_head, contains_tail, map_has}
use Rattle.lra_certify.proofs.Crates.{lra_certificate_spec.WalkedRows.ok_is, lra_certificate_spec.WalkedRows.AreOfWidth, lra_linear_spec.Descriptions.con_solves, lra_multipliers.CheckSteps.ok_err}
use Rattle.lra_farkas.specs.{FirstMultipliers.AreFirst, FirstMultipliers.MultipliersStrain, MultiplierRows.multiplier_dims, MultiplierRows.multiplier_rows, MultiplierRows.AreAsWide}
use Rattle.lra_certify.specs.PathEvidence.{IsFirstInfeasible, IsNotShownInfeasible, IsFirstShown, IsEvidenceAlong, ClaimStrains, EvidenceStrains, PathStrains}
use Rattle.lra_certify.specs.PathFactViews.{claim_on, led_to, AllLead, HoldsOn, AllHold, IsLine, IsNotShown, LineStrains, IsClaimLine, ClaimStrained, IsEvidence, TargetStrains}
use Rattle.lra_certify.specs.{InductiveRows.IsIn, InductiveRows.IsInductiveFrom}
use Rattle.lra_certify.proofs.WalkedBack.{composed_at, point_at, walked_back, padded_holds}
use Rattle.lra_certify.proofs.{EachSteps.stops_has, NeverUnshown.AreLaws, NeverUnshown.none_show, NeverUnshown.never_unshown, NeverUnshown.never_alive}

-- ---- widths
wide_forms : (n : ℕ) (forms : List (List ℤ)) → ((f : List ℤ) → Contains forms f → length f ≡ n) → AreOfWidth n forms
wide_forms n [] h = tt
wide_forms n (f ∷ fs) h = (h f (contains_head f fs), wide_forms n fs (λ g k. h g (contains_tail f g fs k)))

pub grounds_wide : (g : PathFacts) → ArePathFacts g → AreOfWidth (suc g.premises.dims) g.forms.items
grounds_wide g h = wide_forms (suc g.premises.dims) g.forms.items
    (λ f k. All-contains (λ (f : List ℤ). length f ≡ suc g.premises.dims) g.forms.items f h.forms k)

-- ---- claims over the symbols
-- the row of a claim is at a point of the symbols what the claim is at that of the forms
pub claim_at : (g : PathFacts) (claim row x : List ℤ) → ArePathFacts g → 0 < length claim → composed (suc g.premises.dims) claim g.forms.items ≡ Ok row →
    (length row ≡ suc g.premises.dims) × (product row x ≡ product claim (led_to g x))
claim_at g [] row x are some made = absurd (omega (arith, some))
claim_at g (k ∷ cs) row x are some made = composed_at g.premises.dims k cs g.forms.items row x (grounds_wide g are) made

-- -1 >= 0
falsity_is : (n : ℕ) → falsity (suc n - 1) ≡ falsity n
falsity_is n = ap falsity (let e : suc n - 1 ≡ n = omega arith in e)

-- a claim that holds has multipliers, as long as -1 >= 0 has none
pub claim_shown : AreLaws → (g : PathFacts) (claim : List ℤ) → ArePathFacts g → 0 < length claim → HoldsOn g claim →
    IsNotShown g None → IsNotShown g (Some claim) → ⊥
claim_shown laws g claim are some holds alive unshown =
    let n = g.premises.dims in
    let value = λ (x : List ℤ). claim_at g claim unshown.row x are some unshown.made in
    let nothing = sym (falsity_is n) ∙ ok_is (falsity (suc n - 1)) alive.row alive.made in
    never_unshown laws n (constraints g.premises) unshown.row unshown.wide
    (subst (λ (r : List ℤ). AreAsWide (constraints g.premises) r) (sym nothing) alive.wide) (value []).0
    (λ x is_point meets. subst (λ (z : ℤ). pos 0 ≤ℤ z) (sym (value x).1) (holds x is_point meets)) unshown.never
    (subst (λ (r : List ℤ). IsEmptySet (multiplier_dims (constraints g.premises)) (Con (multiplier_rows (constraints g.premises) r))) (sym nothing) alive.never)

-- if no point meets the premises, -1 >= 0 has some
pub dead_shown : AreLaws → (g : PathFacts) → AllLead g None → IsNotShown g None → ⊥
dead_shown laws g lead alive =
    let n = g.premises.dims in
    let nothing = sym (falsity_is n) ∙ ok_is (falsity (suc n - 1)) alive.row alive.made in
    never_alive laws n (constraints g.premises)
    (subst (λ (r : List ℤ). AreAsWide (constraints g.premises) r) (sym nothing) alive.wide) (λ x is_point meets. lead x is_point meets)
    (subst (λ (r : List ℤ). IsEmptySet (multiplier_dims (constraints g.premises)) (Con (multiplier_rows (constraints g.premises) r))) (sym nothing) alive.never)

-- the claims of a target's rows hold if all points lead to it
pub target_holds : (g : PathFacts) (rows : List LinearRow) → AllLead g (Some rows) → AllHold g (system_of rows)
target_holds g rows lead = λ claim k x is_point meets. con_solves rows (led_to g x) (lead x is_point meets) claim k

-- ---- the grounds of a path
module _ (live : ℕ) (rows : List LinearRow) (path : Path) (g : PathFacts) (of : ArePathFactsOf live rows path.actions g) where
  abbrev along : PathPremises
  along = record { live = live; rows = rows; path = path }

  -- rows as wide as there are variables
  pub all_lead : (target : RowsAtPoint) → ((f : LinearRow) → Contains rows f → length f.row ≡ suc live) → IsInductiveFrom live path.actions (Some rows) target →
      AllLead g target
  all_lead target wide stays = λ x is_point meets.
      let con = subst (λ (gs : List LinearRow). Con gs x) of.premises meets in
      let tests : Con of.walk.tests x = λ f k.
      con f (Contains-append_right (map (padded (width_of live path.actions)) rows) of.walk.tests f k) in
      let source : Con rows (take (suc live) x) = λ f k.
      padded_holds (width_of live path.actions) live f x (wide f k)
      (con (padded (width_of live path.actions) f)
      (Contains-append_left (map (padded (width_of live path.actions)) rows) of.walk.tests (padded (width_of live path.actions) f)
      (map_has (padded (width_of live path.actions)) rows f k))) in
      let long = is_point.width ∙ of.width in
      subst (λ (forms : List (List ℤ)). IsIn target (entry x 0 ∷ map (λ f. product f x) forms)) (sym of.forms)
      (stays (take (suc live) x) (point_at x of.walk) (first_point x long is_point) source (walked_back live path.actions of.walk x of.walks long tests))
    where
      first_entry : (x : List ℤ) → entry (take (suc live) x) 0 ≡ entry x 0
      first_entry [] = refl
      first_entry (d ∷ ds) = refl

      first_point : (x : List ℤ) → length x ≡ width_of live path.actions → IsPoint g.premises.dims x → IsPoint live (take (suc live) x)
      first_point x long is_point = record {
        width = length-take-le (suc live) x (omega (arith, long));
        divisor = subst (λ (z : ℤ). pos 0 <ℤ z) (sym (first_entry x)) is_point.divisor;
      }

  -- over the grounds, and over the path
  claim_is : (claim row : List ℤ) → composed (suc g.premises.dims) claim g.forms.items ≡ Ok row →
      composed (width_of live path.actions) claim of.walk.forms ≡ Ok row
  claim_is claim row made =
      subst (λ (forms : List (List ℤ)). composed (width_of live path.actions) claim forms ≡ Ok row) of.forms
      (subst (λ (n : ℕ). composed n claim g.forms.items ≡ Ok row) of.width made)

  nothing_is : (row : List ℤ) → claim_on g None ≡ Ok row → row ≡ contradiction along
  nothing_is row made = sym (ok_is (falsity (suc g.premises.dims - 1)) row made) ∙ ap (λ (n : ℕ). falsity (n - 1)) of.width

  abbrev Shown : List LinearRow → List ℤ → Multipliers → Type 0
  Shown premises row m = IsAnswer premises row m yes × AreFirst premises row m

  line_premises : (claim : Option (List ℤ)) (m : Multipliers) (line : IsLine g claim m) → Shown (premises_of along of.walk) line.row m
  line_premises claim m line = subst (λ (ps : List LinearRow). Shown ps line.row m) of.premises (line.shown, line.first)

  dead_line : (m : Multipliers) → IsLine g None m → IsShownInfeasible along m × IsFirstInfeasible along m
  dead_line m line =
      let both = subst (λ (r : List ℤ). Shown (premises_of along of.walk) r m) (nothing_is line.row line.made) (line_premises None m line) in
      ((of.walk, of.walks, both.0), (of.walk, of.walks, both.1))

  shown_line : (claim : List ℤ) (m : Multipliers) → IsLine g (Some claim) m → IsClaimImplied along claim m × IsFirstShown along claim m
  shown_line claim m line =
      let both = line_premises (Some claim) m line in
      let made = claim_is claim line.row line.made in
      ((of.walk, line.row, of.walks, made, both.0), (of.walk, line.row, of.walks, made, both.1))

  shown_lines : (claims : List (List ℤ)) (ms : List Multipliers) → AllZip (IsClaimLine g) claims ms →
      AreImplied along claims ms × AllZip (IsFirstShown along) claims ms × AllByRecursion AreNumbers ms
  shown_lines [] [] h = (tt, tt, tt)
  shown_lines [] (m ∷ ms) h = absurd h
  shown_lines (claim ∷ claims) [] h = absurd h
  shown_lines (claim ∷ claims) (m ∷ ms) h =
      let first = shown_line claim m h.0 in
      let rest = shown_lines claims ms h.1 in
      ((first.0, rest.0), (first.1, rest.1), (h.0.numbers, rest.2))

  never_dead : AreLaws → IsNotShown g None → IsNotShownInfeasible along
  never_dead laws alive = λ w m walks shows.
      let same = ok_is of.walk w (sym of.walks ∙ walks) in
      none_show laws (constraints g.premises) alive.row m alive.wide alive.never
      (subst (λ (ps : List LinearRow). IsFarkasCertificate ps alive.row m) (sym of.premises)
      (subst (λ (r : List ℤ). IsFarkasCertificate (premises_of along of.walk) r m) (sym (nothing_is alive.row alive.made))
      (subst (λ (v : SymbolicState). IsFarkasCertificate (premises_of along v) (contradiction along) m) (sym same) shows)))

  pub evidence_found : AreLaws → (target : RowsAtPoint) (evidence : Evidence) → IsEvidence g target evidence → IsEvidenceAlong along target evidence
  evidence_found laws target none h = absurd h
  evidence_found laws target (infeasible m) h = let line = dead_line m h in record { meets = line.0; first = line.1; numbers = h.numbers }
  evidence_found laws None (implies ms) h = absurd h
  evidence_found laws (Some claims) (implies ms) h =
      let lines = shown_lines (system_of claims) ms h.1 in
      record { meets = lines.0; first = (never_dead laws h.0, lines.1); numbers = lines.2 }

  -- strain
  dead_strains : LineStrains g None → MultipliersStrain (premises_of along of.walk) (contradiction along)
  dead_strains (inl (e, passes)) = absurd (ok_err (falsity (suc g.premises.dims - 1)) e passes)
  dead_strains (inr (row, made, strains)) =
      subst (λ (r : List ℤ). MultipliersStrain (premises_of along of.walk) r) (nothing_is row made)
      (subst (λ (ps : List LinearRow). MultipliersStrain ps row) of.premises strains)

  claim_strains : (claim : List ℤ) → LineStrains g (Some claim) → ClaimStrains along of.walk claim
  claim_strains claim (inl (e, passes)) = inl (
    e,
    subst (λ (forms : List (List ℤ)). composed (width_of live path.actions) claim forms ≡ Err e) of.forms
        (subst (λ (n : ℕ). composed n claim g.forms.items ≡ Err e) of.width passes),
  )
  claim_strains claim (inr (row, made, strains)) =
      inr (row, claim_is claim row made, subst (λ (ps : List LinearRow). MultipliersStrain ps row) of.premises strains)

  target_strains : AreLaws → (target : RowsAtPoint) → TargetStrains g target → EvidenceStrains along target of.walk
  target_strains laws None h = inl (dead_strains h)
  target_strains laws (Some claims) (inl h) = inl (dead_strains h)
  target_strains laws (Some claims) (inr (alive, (claim, stops))) =
      inr (never_dead laws alive, claim, stops_has (IsClaimLine g) (ClaimStrained g) (system_of claims) claim stops, claim_strains claim stops.bad)

  pub path_strains : AreLaws → (target : RowsAtPoint) → TargetStrains g target → PathStrains along target
  path_strains laws target h = inr (of.walk, of.walks, target_strains laws target h)
