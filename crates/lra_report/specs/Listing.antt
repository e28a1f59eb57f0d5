-- Which points and verdicts the report of a source lists: all points in the order of their numbers, from 1, each with
-- its path, its place, the names of its live variables, and rows and generators over these; and a verdict on each of
-- what is judged, in order: on each assertion, if it is asked for on each point at which something is computed, and
-- on each access of an array, at each point in the order of evaluation.
use Rattle.std.specs.List.{AllByRecursion, list_any, flat_map}
use Rattle.std.specs.Prelude.{◌≡◌, ℕ, suc, Bool, true, false, List, [], ◌∷◌, ◌++◌, length, map, Option, Some, None, ⊤}
use Rattle.std.specs.Prelude.{◌<◌, ◌≤◌, cond, nat_eq, nat_lt}
use Rattle.lra_report.specs.Crates.lra_program.Assertions.{assertions_from}
use Rattle.lra_report.specs.Crates.lra_syntax.Labels.{Labelled, labels_of, label_at, label_place}
use Rattle.lra_report.specs.Crates.{lra_program.Accesses.op_accesses, lra_program.Program.Element}
use Rattle.lra_report.specs.Crates.{lra_program.Sites.Site, lra_program.Sites.sites_of, lra_syntax.Faults.Language}
use Rattle.lra_report.specs.Crates.{lra_syntax.Trees.FileTree, lra_syntax.declared.trees.Identifier.Identifier}
use Rattle.lra_options.specs.declared.options.Options.{Options}
use Rattle.lra_base.specs.declared.refusals.Place.{Place}
use Rattle.lra_report.specs.Report.{Invariant, PointReport, Verdict, Report, IsSound}
use Rattle.lra_report.specs.ReportText.{CallPlace, path_text}
use Rattle.lra_report.specs.declared.verdict_kinds.VerdictKind.TheVariants.{Assertion, Fit, Access}
use Rattle.lra_report.specs.{Parts.ShowsPart, declared.verdict_kinds.VerdictKind.VerdictKind}
use Rattle.lra_row_text.specs.{Part.ReportGenerator, Part.Part, Rows.ReportRow}
use Rattle.lra_resolution_spec.specs.EntryPoint.{at_main}
use Rattle.lra_resolution_spec.specs.LiveNames.{globals_named, live_names}
use Rattle.lra_resolution_spec.specs.{Refuse.Accepts, Resolve.resolve, ShownNames.shown_names}
use Rattle.lra_operations.specs.CheckedOperations.{OpAtPoint, computing_ops, accessing_ops}
use Rattle.lra_operations.specs.{Agree.IsInlinedTree, Tree.Node}

abbrev pub call_at : Option Identifier → List CallPlace
call_at None = []
call_at (Some x) = record { name = x.word; place = x.place } ∷ []

abbrev pub called_at : Option Labelled → List CallPlace
called_at None = []
called_at (Some l) = call_at l.called

abbrev pub calls_on : List Labelled → List ℕ → List CallPlace
calls_on ls [] = []
calls_on ls (c ∷ outer) = calls_on ls outer ++ called_at (label_at ls c)

-- what is listed, but for the state
abbrev pub listed_point : List (List ℕ) → List Labelled → ℕ → Site → Invariant → PointReport
listed_point outside ls number s state = record {
  number = number;
  point = record { path = s.path; label = s.label };
  path = path_text (calls_on ls s.path);
  place = label_place (label_at ls s.label);
  names = shown_names (live_names outside ls s);
  state = state;
}

-- what is judged: the kind, the point and its number, which of the kind there, counted from 0 in the order of
-- evaluation, and where a verdict on it is printed
pub record Subject : Type 0 where
  pub kind : VerdictKind
  pub number : ℕ
  pub site : Site
  pub which : ℕ
  pub place : Place

-- of a kind of which a point has one, printed at the point's place
abbrev pub subject : List Labelled → VerdictKind → ℕ → Site → Subject
subject ls kind number site = record {
  kind = kind;
  number = number;
  site = site;
  which = 0;
  place = label_place (label_at ls site.label);
}

-- but for whether it holds
abbrev pub listed_verdict : List Labelled → Subject → Bool → Verdict
listed_verdict ls x holds = record {
  kind = x.kind;
  number = x.number;
  point = record { path = x.site.path; label = x.site.label };
  which = x.which;
  path = path_text (calls_on ls x.site.path);
  place = x.place;
  holds = holds;
}

-- these points, each with its number, are judged by this kind
abbrev pub subjects_of : List Labelled → VerdictKind → List (ℕ × Site) → List Subject
subjects_of ls kind points = map (λ (p : ℕ × Site). subject ls kind p.0 p.1) points

-- at the point of this number, from 0, the tree of operations computes something
abbrev pub computes_at : Node → ℕ → Bool
computes_at g q = list_any (λ (a : OpAtPoint). nat_eq a.point q) (computing_ops None g)

-- the points of which that is so, with their numbers from 1; the first of the sites has this number from 0
abbrev pub computing_from : (ℕ → Bool) → ℕ → List Site → List (ℕ × Site)
computing_from computes q [] = []
computing_from computes q (s ∷ ss) =
    cond (computes q) ((suc q, s) ∷ computing_from computes (suc q) ss) (computing_from computes (suc q) ss)

-- what is asked whether it fits, if that is asked for
abbrev pub fits_asked : List Labelled → Bool → Node → List Site → List Subject
fits_asked ls true g sites = subjects_of ls Fit (computing_from (computes_at g) 0 sites)
fits_asked ls false g sites = []

-- the accesses of the operation at the point of this number, from 0
abbrev pub accesses_at : Node → ℕ → List Element
accesses_at g q = flat_map (λ (a : OpAtPoint). cond (nat_eq a.point q) (op_accesses a.op) []) (accessing_ops None g)

abbrev pub accesses_any_at : Node → ℕ → Bool
accesses_any_at g q = nat_lt 0 (length (accesses_at g q))

-- the accesses at the point of this number, from the n-th on, each printed at its array's name
abbrev pub access_subjects : ℕ → Site → ℕ → List Element → List Subject
access_subjects number site n [] = []
access_subjects number site n (x ∷ xs) =
    record { kind = Access; number = number; site = site; which = n; place = x.place } ∷
    access_subjects number site (suc n) xs

-- the accesses at all points, of which the first has this number, from 0
abbrev pub accesses_from : (ℕ → List Element) → ℕ → List Site → List Subject
accesses_from at q [] = []
accesses_from at q (s ∷ ss) = access_subjects (suc q) s 0 (at q) ++ accesses_from at (suc q) ss

-- what is judged of a source's program, by its tree of operations, in order
abbrev pub subjects : Options → Node → FileTree → List Subject
subjects o g t = subjects_of (labels_of t) Assertion (assertions_from 1 (sites_of (resolve t))) ++
    (fits_asked (labels_of t) o.fits g (sites_of (resolve t)) ++
    accesses_from (accesses_at g) 0 (sites_of (resolve t)))

-- a number for each of so many variables
abbrev pub HasWidth : ℕ → Part → Type 0
HasWidth n part = AllByRecursion (λ (r : ReportRow). length r.coefficients ≡ n) part.rows ×
    AllByRecursion (λ (g : ReportGenerator). length g.numbers ≡ n) part.generators

-- the reports are those of these sites, numbered from `number` on
abbrev pub AreListed : List (List ℕ) → List Labelled → ℕ → List Site → List PointReport → Type 0
AreListed outside ls number [] [] = ⊤
AreListed outside ls number [] (p ∷ ps) = ⊥
AreListed outside ls number (s ∷ ss) [] = ⊥
AreListed outside ls number (s ∷ ss) (p ∷ ps) = (p ≡ listed_point outside ls number s p.state) ×
    AllByRecursion (HasWidth s.live) p.state × AreListed outside ls (suc number) ss ps

-- the verdicts are those on these
abbrev pub AreJudged : List Labelled → List Subject → List Verdict → Type 0
AreJudged ls [] [] = ⊤
AreJudged ls [] (v ∷ vs) = ⊥
AreJudged ls (x ∷ rest) [] = ⊥
AreJudged ls (x ∷ rest) (v ∷ vs) = (v ≡ listed_verdict ls x v.holds) × AreJudged ls rest vs

pub record Lists (t : FileTree) (r : Report) : Type 0 where
  pub points : AreListed (globals_named t.parts) (labels_of t) 1 (sites_of (resolve t)) r.points
  -- by each of the program's trees, of which there is one
  pub tree : Node
  pub is_graph : IsInlinedTree (resolve t) tree
  pub verdicts : (g : Node) → IsInlinedTree (resolve t) g → AreJudged (labels_of t) (subjects r.options g t) r.verdicts

-- the number of the first flagged point, if there is one, is that of a point
abbrev pub IsFlag : ℕ → Option ℕ → Type 0
IsFlag count None = ⊤
IsFlag count (Some number) = (0 < number) × (number ≤ count)

-- the report's parts: no more of them than the option says, and each as the domain has it, over the variables that are
-- named
pub record AreParts (o : Options) (p : PointReport) : Type 0 where
  pub few : length p.state ≤ o.parts
  pub tell : AllByRecursion (ShowsPart o.domain (length p.names)) p.state

-- what is written of an accepted source of the language L under these options: all its points and what is judged of
-- them; at each point what every run meets there; no assertion that fails is proved, no run stops by a number if
-- all is reported to fit, and none evaluates an access outside its array that is reported to be in bounds
pub record IsReportOf (L : Language) (o : Options) (source : List ℕ) (r : Report) : Type 0 where
  pub options : r.options ≡ o
  pub tree : FileTree
  pub accepted : Accepts at_main L source tree
  pub lists : Lists tree r
  pub parts : AllByRecursion (AreParts o) r.points
  pub sound : IsSound (resolve tree) r
  pub flag : IsFlag (length r.points) r.flagged
