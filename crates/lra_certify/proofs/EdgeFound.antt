-- What is found over the grounds of a path, as it is said of the path.
use Rattle.std.proofs.Common.{◌≡◌, inl, suc, ℕ, ℤ, List, length, Option, Some, None, Result, Ok, Err, sym, ◌∙◌, subst, OnOk, IfErr, IfSome}
use Rattle.std.specs.{List.All, List.Contains, Prelude.MatchOption}
use Rattle.lra_certify.specs.Crates.lra_certificate_lines.PathCheckViews.{ArePathFactsOf, IsPathCheck, IsWhole, ArePathFacts, AreCounted}
use Rattle.lra_certify.specs.Crates.{lra_certificate_lines.declared.path_checks.PathCheck.PathCheck, lra_certificate_lines.declared.path_checks.PathFacts.PathFacts}
use Rattle.lra_certify.specs.Crates.{lra_certificate_spec.Judged.RowsAtPoint, lra_domain.Actions.Action, lra_linear_spec.Descriptions.LinearRow, lra_linear_spec.Vectors.zeros}
use Rattle.lra_certify.specs.Crates.{lra_linear_spec.declared.ConKind.ConKind, lra_linear_spec.declared.Excess.Excess, lra_multipliers.Symbols.executed_path, lra_path_segments.Segments.violates}
use Rattle.lra_certify.specs.Crates.{lra_paths.Paths.path_by, lra_systems.LinearSystems.LinearSystem, lra_systems.LinearSystems.constraints}
use Rattle.lra_certify.proofs.Crates.lra_multipliers.CheckSteps.{length_zeros}
use Rattle.lra_farkas.proofs.FirstPoints.{as_wide}
use Rattle.lra_certify.specs.PathFactViews.{AllLead, IsEvidence, AddsEvidence, TargetStrains, IfStrained}
use Rattle.lra_certify.specs.{InductiveRows.IsInductiveFrom, WrittenPaths.FoundOn, WrittenPaths.StrainsOn, declared.failures.PathFailure.PathFailure}
use Rattle.lra_certify.proofs.{FoundPaths.all_lead, FoundPaths.evidence_found, FoundPaths.path_strains, NeverUnshown.AreLaws, PathSteps.strained_weaker}

-- the rows of a list have its width
rows_wide : (s : LinearSystem ConKind) (seen : List (List ℤ)) → seen ≡ s.rows → All (λ r. length r ≡ suc s.dims) seen → (f : LinearRow) →
    Contains (constraints s) f →
    length f.row ≡ suc s.dims
rows_wide s seen is wide = λ f k.
    (as_wide s seen (zeros (suc s.dims)) is wide (length_zeros (suc s.dims))).each f k ∙ length_zeros (suc s.dims)

-- ---- a path with its grounds
module _ (rows : LinearSystem ConKind) (steps : List Action) (t : PathCheck) (track : IsPathCheck rows.dims (constraints rows) steps t) (target : RowsAtPoint)
  where
    abbrev HasGrounds : Option PathFacts → Type 0
    HasGrounds o = MatchOption o ((e : Excess) × (executed_path rows.dims steps ≡ Err e)) (ArePathFactsOf rows.dims (constraints rows) steps)

    passes_on : t.facts ≡ None → (e : Excess) × (executed_path rows.dims steps ≡ Err e)
    passes_on none = subst HasGrounds none track.facts

    pub walk_strained : t.facts ≡ None → StrainsOn rows.dims steps (Some (constraints rows)) target
    walk_strained none = λ path is.
        let p = passes_on none in inl (p.0, subst (λ (s : List Action). executed_path rows.dims s ≡ Err p.0) (sym is) p.1)

    module _ (g : PathFacts) (some : t.facts ≡ Some g) where
      grounds_of : ArePathFactsOf rows.dims (constraints rows) steps g
      grounds_of = subst HasGrounds some track.facts

      pub grounds_lead : (seen : List (List ℤ)) → seen ≡ rows.rows → All (λ r. length r ≡ suc rows.dims) seen →
          IsInductiveFrom rows.dims steps (Some (constraints rows)) target → AllLead g target
      grounds_lead seen is wide stays =
          all_lead rows.dims (constraints rows) (path_by 0 (violates 0) steps) g grounds_of target (rows_wide rows seen is wide) stays

      evidence_adds : AreLaws → (old new : List ℕ) → AddsEvidence (IsEvidence g target) old new →
          AddsEvidence (FoundOn rows.dims steps (Some (constraints rows)) target) old new
      evidence_adds laws old new h = record {
        evidence = h.evidence;
        is = λ path e. evidence_found rows.dims (constraints rows) path g
            (subst (λ (s : List Action). ArePathFactsOf rows.dims (constraints rows) s g) (sym e) grounds_of) laws target h.evidence h.is;
        text = h.text;
      }

      evidence_strains : AreLaws → TargetStrains g target → StrainsOn rows.dims steps (Some (constraints rows)) target
      evidence_strains laws h = λ path e. path_strains rows.dims (constraints rows) path g
          (subst (λ (s : List Action). ArePathFactsOf rows.dims (constraints rows) s g) (sym e) grounds_of) laws target h

      -- handed on
      pub evidence_told : {X : Type 0} → AreLaws → (old new : List ℕ) (r : Result X PathFailure) → OnOk r (AddsEvidence (IsEvidence g target) old new) →
          OnOk r (AddsEvidence (FoundOn rows.dims steps (Some (constraints rows)) target) old new)
      evidence_told laws old new (Ok x) h = evidence_adds laws old new h
      evidence_told laws old new (Err e) h = tt

      pub evidence_failed : {X : Type 0} → AreLaws → (r : Result X PathFailure) → IfErr r (IfStrained (TargetStrains g target)) →
          IfErr r (IfStrained (StrainsOn rows.dims steps (Some (constraints rows)) target))
      evidence_failed laws (Ok x) h = tt
      evidence_failed laws (Err e) h =
          strained_weaker (TargetStrains g target) (StrainsOn rows.dims steps (Some (constraints rows)) target) e (evidence_strains laws) h

pub grounds_are : (t : PathCheck) (g : PathFacts) → IsWhole t → t.facts ≡ Some g → ArePathFacts g
grounds_are t g whole some = (subst (λ (o : Option PathFacts). IfSome o (AreCounted t.count)) some whole.grounds).are
