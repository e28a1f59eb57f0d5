-- When a text says what it was written of: canonical lists, numbers of the range, and names of variables that can be
-- distinguished.
use Rattle.std.specs.List.{AllByRecursion}
use Rattle.std.specs.Prelude.{◌≡◌, ℕ, ℤ, pos, List, ◌∷◌, length, true, false, ⊤, ◌<◌, ◌^◌, Option, Some, None}
use Rattle.lra_report.specs.Crates.lra_linear_spec.declared.ConKind.TheVariants.{Ge, Eq}
use Rattle.lra_report.specs.Crates.lra_linear_spec.declared.GenKind.TheVariants.{Point, Ray, Line}
use Rattle.lra_report.specs.Crates.{lra_linear_spec.LowestTerms.IsPrimitive, lra_linear_spec.Range.InRange}
use Rattle.lra_report.specs.Crates.{lra_linear_spec.declared.ConKind.ConKind, lra_linear_spec.declared.GenKind.GenKind}
use Rattle.lra_report.specs.Crates.{lra_program.Sites.sites_of, lra_syntax.Faults.Language, lra_syntax.Grammar.Spells}
use Rattle.lra_report.specs.Crates.{lra_syntax.Labels.labels_of, lra_syntax.Lexeme.is_name_word}
use Rattle.lra_report.specs.Crates.{lra_syntax.Trees.FileTree}
use Rattle.lra_resolution_spec.specs.EntryPoint.{at_main}
use Rattle.lra_resolution_spec.specs.{LiveNames.live_names, LiveNames.globals_named, Refuse.Accepts, Resolve.resolve}
use Rattle.lra_options.specs.declared.options.Options.{Options}
use Rattle.lra_row_text.specs.{Part.ReportGenerator, Part.Part, Rows.ReportRow, Texts.is_negated}
use Rattle.lra_report.specs.{Listing.Lists, Listing.HasWidth, Listing.IsReportOf, Parts.DividesAs, Report.PointReport}
use Rattle.lra_report.specs.{Report.Report, ReportText.report_text, Rows.IsRowInRange}

-- the first coefficient of an equality that isn't 0 is above 0
abbrev pub IsDirected : ConKind → List ℤ → Type 0
IsDirected Eq cs = is_negated cs ≡ false
IsDirected Ge cs = ⊤

pub record IsSpelledRow (r : ReportRow) : Type 0 where
  pub directed : IsDirected r.kind r.coefficients
  pub in_range : IsRowInRange r

-- only 1 divides the divisor of a point and all its numbers
abbrev pub IsReduced : GenKind → ℕ → List ℤ → Type 0
IsReduced Point d zs = IsPrimitive (pos d ∷ zs)
IsReduced Ray d zs = ⊤
IsReduced Line d zs = ⊤

pub record IsSpelledGenerator (g : ReportGenerator) : Type 0 where
  pub divides : DividesAs g.kind g.divisor
  pub reduced : IsReduced g.kind g.divisor g.numbers
  pub divisor_in : InRange (pos g.divisor)
  pub numbers_in : AllByRecursion InRange g.numbers

pub record IsSpelledPart (part : Part) : Type 0 where
  pub rows : AllByRecursion IsSpelledRow part.rows
  pub generators : AllByRecursion IsSpelledGenerator part.generators

-- of a canonical list, with a number for each of n variables
abbrev pub IsReadablePart : ℕ → Part → Type 0
IsReadablePart n part = HasWidth n part × IsSpelledPart part

abbrev pub IsReadablePoint : PointReport → Type 0
IsReadablePoint p = AllByRecursion (IsReadablePart (length p.names)) p.state

abbrev pub IsSmallFlag : Option ℕ → Type 0
IsSmallFlag None = ⊤
IsSmallFlag (Some number) = number < 2 ^ 64

pub record IsReadable (r : Report) : Type 0 where
  pub points : AllByRecursion IsReadablePoint r.points
  pub flag : IsSmallFlag r.flagged

-- the variables that live together are named by words
pub record AreWords (live : List (List ℕ)) : Type 0 where
  pub words : AllByRecursion (λ n. is_name_word n ≡ true) live
  pub few : length live < 2 ^ 64

-- at each point of the program
abbrev pub HasWords : FileTree → Type 0
HasWords t = AllByRecursion (λ s. AreWords (live_names (globals_named t.parts) (labels_of t) s)) (sites_of (resolve t))

-- one text, one report: two reports of one program under one list of options that have the same text are the same
abbrev pub OneText : Report → Report → Type 0
OneText r s = (t : FileTree) → HasWords t → Lists t r → Lists t s → r.options ≡ s.options → IsReadable r →
    IsReadable s → report_text r ≡ report_text s → r ≡ s

-- one text, one report, of the tree of an accepted source, whose variables are named by words
abbrev pub OneAcceptedText : Report → Report → Type 0
OneAcceptedText r s = (source : List ℕ) (t : FileTree) → Accepts at_main Spells source t → Lists t r → Lists t s →
    r.options ≡ s.options → IsReadable r → IsReadable s → report_text r ≡ report_text s → r ≡ s

-- the source is accepted with one tree at most
abbrev pub HasOneTree : Language → List ℕ → Type 0
HasOneTree L source = (t u : FileTree) → Accepts at_main L source t → Accepts at_main L source u → t ≡ u

-- two reports of one source of the language L under one list of options that have the same text are the same
abbrev pub OneSourceText : Language → Report → Report → Type 0
OneSourceText L r s = (o : Options) (source : List ℕ) → HasOneTree L source → IsReportOf L o source r →
    IsReportOf L o source s → IsReadable r → IsReadable s → report_text r ≡ report_text s → r ≡ s
