-- What is said of a domain or of its sets, as the options name them.
use Rattle.std.proofs.Common.{◌≡◌, ℕ, zero, suc, ℤ, ◌≤◌, ◌<◌, List, sym, subst, arith}
use Rattle.lra_options.specs.declared.options.Domain.TheVariants.{Poly, Box, Oct}
use Rattle.lra_options.specs.{declared.options.Domain.Domain, declared.options.Options.Options}
use Rattle.lra_analyse_source.specs.Crates.{lra_box.Abstraction.box_abstraction, lra_domain.Abstraction.Abstraction, lra_octagon.Abstraction.octagon_abstraction}
use Rattle.lra_analyse_source.specs.Crates.{lra_powerset.Abstraction.set_abstraction, lra_powerset.Content.SetContent, lra_powerset.Content.SetHead, lra_program.Program.Program}
use Rattle.lra_analyse_source.specs.Crates.{lra_report.Report.Invariant, lra_report.Report.Report, lra_resolution_spec.Resolve.resolve}
use Rattle.lra_poly_domain.specs.Abstraction.{polyhedron_abstraction}
use Rattle.lra_report_build.specs.{Polyhedra.shown_polyhedron, Sets.shown_set, Shown.shown_state}
use Rattle.lra_analyse_source.specs.AnalysisReport.{ReportsIteration}
use Rattle.lra_analyse_source.specs.SourceReports.{DomainProperty, WithParts, ForDomain, ForOptions, IsAnalysisReportOver, ReportsAnalysis, IsAnalysisReport}

module _ (say : DomainProperty) {V H : Type 0} (m : Abstraction V H) (shown : V → Invariant) where
  pub over_sets : (n : ℕ) → 1 < n → say (SetContent V) (SetHead V H) (set_abstraction m) (shown_set shown) → WithParts n say V H m shown
  over_sets zero some h = absurd (omega (arith, some))
  over_sets (suc zero) some h = absurd (omega (arith, some))
  over_sets (suc (suc n)) some h = h

  pub over_one : (n : ℕ) → n ≤ 1 → say V H m shown → WithParts n say V H m shown
  over_one zero few h = h
  over_one (suc zero) few h = h
  over_one (suc (suc n)) few h = absurd (omega (arith, few))

-- what follows over each domain follows over those that the options name
module _ (say tell : DomainProperty) (follows : (V H : Type 0) (m : Abstraction V H) (shown : V → Invariant) → say V H m shown → tell V H m shown) where
  each_number : (n : ℕ) (V H : Type 0) (m : Abstraction V H) (shown : V → Invariant) → WithParts n say V H m shown → WithParts n tell V H m shown
  each_number zero V H m shown h = follows V H m shown h
  each_number (suc zero) V H m shown h = follows V H m shown h
  each_number (suc (suc n)) V H m shown h = follows (SetContent V) (SetHead V H) (set_abstraction m) (shown_set shown) h

  each_domain : (d : Domain) (n : ℕ) → ForDomain d (WithParts n say) → ForDomain d (WithParts n tell)
  each_domain Poly n h = each_number n _ _ _ _ h
  each_domain Box n h = each_number n _ _ _ _ h
  each_domain Oct n h = each_number n _ _ _ _ h

  pub over_each : (o : Options) → ForOptions o say → ForOptions o tell
  over_each o h = each_domain o.domain o.parts h

-- and what doesn't name the domain follows as it is
module _ (X : Type 0) where
  same_number : (n : ℕ) (V H : Type 0) (m : Abstraction V H) (shown : V → Invariant) → WithParts n (λ V H m shown. X) V H m shown → X
  same_number zero V H m shown h = h
  same_number (suc zero) V H m shown h = h
  same_number (suc (suc n)) V H m shown h = h

  same_domain : (d : Domain) (n : ℕ) → ForDomain d (WithParts n (λ V H m shown. X)) → X
  same_domain Poly n h = same_number n _ _ polyhedron_abstraction shown_polyhedron h
  same_domain Box n h = same_number n _ _ box_abstraction (shown_state box_abstraction) h
  same_domain Oct n h = same_number n _ _ octagon_abstraction (shown_state octagon_abstraction) h

  pub over_same : (o : Options) → ForOptions o (λ V H m shown. X) → X
  over_same o h = same_domain o.domain o.parts h

-- what answers over this domain answers as the options say
module _ (d : Domain) (o : Options) (source : List ℕ) {V H : Type 0} (m : Abstraction V H) (shown : V → Invariant) (is : o.domain ≡ d)
    (names : (say : DomainProperty) → say V H m shown → ForDomain d say)
    (r : Report) where
  abbrev Answers : ℕ → Type 0
  Answers n = WithParts n (λ V H m shown. IsAnalysisReportOver m shown o source r) V H m shown

  abbrev Analyses : ℕ → List ℤ → Program → DomainProperty
  Analyses n constants P = WithParts n (λ V H m shown. ReportsIteration m shown o constants P r)

  tells : (constants : List ℤ) (P : Program) → Analyses o.parts constants P V H m shown → ReportsAnalysis o constants P r
  tells constants P h = subst (λ (e : Domain). ForDomain e (Analyses o.parts constants P)) (sym is) (names (Analyses o.parts constants P) h)

  answers : (n : ℕ) → Answers n → ((constants : List ℤ) (P : Program) → Analyses n constants P V H m shown → ReportsAnalysis o constants P r) → IsAnalysisReport o source r
  answers zero a told =
      record { report = a.report; constants = a.constants; own = a.own; analysed = told a.constants (resolve a.report.tree) a.analysed; canonical = a.canonical; readable = a.readable }
  answers (suc zero) a told =
      record { report = a.report; constants = a.constants; own = a.own; analysed = told a.constants (resolve a.report.tree) a.analysed; canonical = a.canonical; readable = a.readable }
  answers (suc (suc n)) a told =
      record { report = a.report; constants = a.constants; own = a.own; analysed = told a.constants (resolve a.report.tree) a.analysed; canonical = a.canonical; readable = a.readable }

  pub over_domain : Answers o.parts → IsAnalysisReport o source r
  over_domain a = answers o.parts a tells
