-- Texts of reports, whole and in parts. Which slip an example would catch stands beside it.
use Rattle.std.proofs.Common.{◌≡◌, ℕ, ℤ, pos, negsuc, List, [], ◌∷◌, Some, None, Bool, true, false, refl}
use Rattle.std.specs.{Fmt.digits, List.flat_map, Prelude.codes}
use Rattle.lra_options.specs.OptionRows.{default_options}
use Rattle.lra_options.specs.{declared.options.Domain.Domain, declared.options.Domain.TheVariants.Poly, declared.options.Domain.TheVariants.Box, declared.options.Options.Options}
use Rattle.lra_report.specs.ReportText.{state_text, flag_text, report_text, path_text}
use Rattle.lra_report.specs.declared.verdict_kinds.VerdictKind.TheVariants.{Assertion, Fit, Access}
use Rattle.lra_report.specs.{BackText.back_text, Report.Place, Report.PointReport, Report.Verdict, Report.Report}
use Rattle.lra_row_text.specs.{Part.ReportGenerator, Part.Part, Rows.ReportRow, Texts.text_line, Texts.row_text, Texts.generator_text}
use Rattle.lra_report.specs.Crates.lra_linear_spec.declared.ConKind.TheVariants.{Ge, Eq}
use Rattle.lra_report.specs.Crates.lra_linear_spec.declared.GenKind.TheVariants.{Point, Ray, Line}

abbrev at : ℕ → ℕ → Place
at l c = record { line = l; column = c }

abbrev pub defaults : Domain → Options
defaults d = record default_options { domain = d }

-- constant + coefficients is 0, is at least 0
abbrev pub is_zero : ℤ → List ℤ → ReportRow
is_zero c cs = record { kind = Eq; constant = c; coefficients = cs }

abbrev pub is_positive : ℤ → List ℤ → ReportRow
is_positive c cs = record { kind = Ge; constant = c; coefficients = cs }

abbrev pub a_point : ℕ → List ℤ → ReportGenerator
a_point d zs = record { kind = Point; divisor = d; numbers = zs }

abbrev pub a_ray : List ℤ → ReportGenerator
a_ray zs = record { kind = Ray; divisor = 0; numbers = zs }

abbrev pub a_line : List ℤ → ReportGenerator
a_line zs = record { kind = Line; divisor = 0; numbers = zs }

abbrev pub rows_alone : List ReportRow → Part
rows_alone rows = record { rows = rows; generators = [] }

abbrev pub both : List ReportRow → List ReportGenerator → Part
both rows generators = record { rows = rows; generators = generators }

abbrev in_main : ℕ → Place → List (List ℕ) → List Part → PointReport
in_main number place names state = record { number = number; point = record { path = []; label = number }; path = codes "main"; place = place; names = names; state = state }

abbrev verdict : ℕ → Place → Bool → Verdict
verdict number place holds = record { kind = Assertion; number = number; point = record { path = []; label = number }; which = 0; path = codes "main"; place = place; holds = holds }

abbrev lines : List (List ℕ) → List ℕ
lines = flat_map text_line

-- int main(void){ long x; x = 3; assert(x >= 3); }
abbrev pub one_variable : Report
one_variable = record {
  options = defaults Box;
  flagged = None;
  points = in_main 1 (at 1 22) [] (rows_alone [] ∷ [])
      ∷ in_main 2 (at 1 25) (codes "x" ∷ []) (rows_alone [] ∷ [])
      ∷ in_main 3 (at 1 32) (codes "x" ∷ []) (rows_alone (is_zero (negsuc 2) (pos 1 ∷ []) ∷ []) ∷ [])
      ∷ in_main 4 (at 1 48) (codes "x" ∷ []) (rows_alone (is_zero (negsuc 2) (pos 1 ∷ []) ∷ []) ∷ []) ∷ [];
  verdicts = verdict 3 (at 1 32) true ∷ [];
}

-- catches a constant that keeps its sign, `x = -3`, and a factor 1 that is written
one_variable_text : report_text one_variable ≡ lines (
    codes "analysis box parts 1 delay 1 narrow 1 limited no"
    ∷ codes "flagged 0"
    ∷ codes "point 1 main 1:22"
    ∷ codes "  row true"
    ∷ codes "point 2 main 1:25"
    ∷ codes "  row true"
    ∷ codes "point 3 main 1:32"
    ∷ codes "  row x = 3"
    ∷ codes "point 4 main 1:48"
    ∷ codes "  row x = 3"
    ∷ codes "assert 3 main 1:32 proved"
    ∷ codes "verdicts proved 1 unknown 0"
    ∷ [])
unfolding digits
one_variable_text = refl

-- int main(void){ long x; x = 2; assert(x >= 3); } : the end isn't reached
unknown_text : report_text (record one_variable {
  points = in_main 4 (at 1 48) (codes "x" ∷ []) [] ∷ [];
  verdicts = verdict 3 (at 1 32) false ∷ [];
}) ≡ lines (
    codes "analysis box parts 1 delay 1 narrow 1 limited no"
    ∷ codes "flagged 0"
    ∷ codes "point 4 main 1:48"
    ∷ codes "  unreachable"
    ∷ codes "assert 3 main 1:32 unknown"
    ∷ codes "verdicts proved 0 unknown 1"
    ∷ [])
unfolding digits
unknown_text = refl

abbrev fit : ℕ → Place → Bool → Verdict
fit number place holds = record (verdict number place holds) { kind = Fit }

-- int main(void){ int x=1; x=x+1; x=x/x; } at its end, if it is asked what fits
abbrev pub fitting : Report
fitting = record {
  options = record default_options { domain = Box; fits = true };
  flagged = None;
  points = in_main 4 (at 1 40) (codes "x" ∷ [])
      (rows_alone (is_positive (pos 2147483648) (pos 1 ∷ []) ∷ is_positive (pos 2147483647) (negsuc 0 ∷ []) ∷ []) ∷ []) ∷ [];
  verdicts = fit 2 (at 1 26) true ∷ fit 3 (at 1 33) false ∷ [];
}

-- catches a line of what fits that counts, or an option that isn't reported
fitting_text : report_text fitting ≡ lines (
    codes "analysis box parts 1 delay 1 narrow 1 limited no fits yes"
    ∷ codes "flagged 0"
    ∷ codes "point 4 main 1:40"
    ∷ codes "  row x >= -2147483648"
    ∷ codes "  row x <= 2147483647"
    ∷ codes "fit 2 main 1:26 fits"
    ∷ codes "fit 3 main 1:33 may overflow"
    ∷ codes "verdicts proved 0 unknown 0"
    ∷ [])
unfolding digits
fitting_text = refl

abbrev access : ℕ → ℕ → Place → Bool → Verdict
access number which place holds = record (verdict number place holds) { kind = Access; which = which }

-- int main(void){ int a[2]; a[1]=a[0]; a[2]=1; } at its end
abbrev pub accessing : Report
accessing = record {
  options = defaults Box;
  flagged = None;
  points = in_main 4 (at 1 46) [] (rows_alone [] ∷ []) ∷ [];
  verdicts = access 2 0 (at 1 27) true ∷ access 2 1 (at 1 32) true ∷ access 3 0 (at 1 38) false ∷ [];
}

-- catches an access that isn't counted, and one that is given by its number at the point
accessing_text : report_text accessing ≡ lines (
    codes "analysis box parts 1 delay 1 narrow 1 limited no"
    ∷ codes "flagged 0"
    ∷ codes "point 4 main 1:46"
    ∷ codes "  row true"
    ∷ codes "access 2 main 1:27 in bounds"
    ∷ codes "access 2 main 1:32 in bounds"
    ∷ codes "access 3 main 1:38 unknown"
    ∷ codes "verdicts proved 2 unknown 1"
    ∷ [])
unfolding digits
accessing_text = refl

-- int main(void){}
abbrev pub empty_main : Report
empty_main = record { options = defaults Poly; flagged = None; points = in_main 1 (at 1 16) [] (both [] (a_point 1 [] ∷ []) ∷ []) ∷ []; verdicts = [] }

empty_main_text : report_text empty_main ≡ lines (
    codes "analysis poly parts 1 delay 1 narrow 1 limited no"
    ∷ codes "flagged 0"
    ∷ codes "point 1 main 1:16"
    ∷ codes "  row true"
    ∷ codes "  gen point"
    ∷ codes "verdicts proved 0 unknown 0"
    ∷ [])
unfolding digits
empty_main_text = refl

-- two variables: the sign of the first term decides the direction, further terms keep their own sign
i_and_j : state_text (codes "i" ∷ codes "j" ∷ []) (both (is_positive (negsuc 1) (pos 1 ∷ negsuc 1 ∷ []) ∷ is_positive (pos 0) (pos 0 ∷ pos 1 ∷ []) ∷ [])
    (a_point 1 (pos 2 ∷ pos 0 ∷ []) ∷ a_ray (pos 1 ∷ pos 0 ∷ []) ∷ a_ray (pos 2 ∷ pos 1 ∷ []) ∷ []) ∷ []) ≡ lines (
    codes "  row i - 2*j >= 2"
    ∷ codes "  row j >= 0"
    ∷ codes "  gen point i=2 j=0"
    ∷ codes "  gen ray i=1 j=0"
    ∷ codes "  gen ray i=2 j=1"
    ∷ [])
unfolding digits
i_and_j = refl

-- catches an upper bound that is written as `-1*i >= -10`
upper_bound : row_text (codes "i" ∷ []) (is_positive (pos 10) (negsuc 0 ∷ [])) ≡ codes "i <= 10"
unfolding digits
upper_bound = refl

half : (row_text (codes "x" ∷ []) (is_zero (negsuc 0) (pos 2 ∷ [])) ≡ codes "2*x = 1") × (generator_text (codes "x" ∷ []) (a_point 2 (pos 1 ∷ [])) ≡ codes "point x=1/2")
unfolding digits
half = (refl, refl)

-- catches coordinates that aren't in lowest terms: a point (1, 3/2) has the common divisor 2
lowest_terms : generator_text (codes "x" ∷ codes "y" ∷ []) (a_point 2 (negsuc 1 ∷ pos 3 ∷ [])) ≡ codes "point x=-1 y=3/2"
unfolding digits
lowest_terms = refl

-- two parts
two_parts : state_text (codes "x" ∷ codes "y" ∷ [])
    (both (is_positive (negsuc 0) (negsuc 0 ∷ pos 1 ∷ []) ∷ []) (a_point 1 (pos 0 ∷ pos 1 ∷ []) ∷ a_ray (pos 0 ∷ pos 1 ∷ []) ∷ a_line (pos 1 ∷ pos 1 ∷ []) ∷ [])
    ∷ both (is_positive (negsuc 0) (pos 1 ∷ negsuc 0 ∷ []) ∷ []) (a_point 1 (pos 0 ∷ negsuc 0 ∷ []) ∷ a_ray (pos 0 ∷ negsuc 0 ∷ []) ∷ a_line (pos 1 ∷ pos 1 ∷ []) ∷ []) ∷ []) ≡ lines (
    codes "  row x - y <= -1"
    ∷ codes "  gen point x=0 y=1"
    ∷ codes "  gen ray x=0 y=1"
    ∷ codes "  gen line x=1 y=1"
    ∷ codes "  or"
    ∷ codes "  row x - y >= 1"
    ∷ codes "  gen point x=0 y=-1"
    ∷ codes "  gen ray x=0 y=-1"
    ∷ codes "  gen line x=1 y=1"
    ∷ [])
unfolding digits
two_parts = refl

-- 2^126
large_number : row_text (codes "x" ∷ []) (is_zero (negsuc 85070591730234615865843651857942052863) (pos 1 ∷ [])) ≡ codes "x = 85070591730234615865843651857942052864"
unfolding digits
large_number = refl

flagged : flag_text (Some 128) ≡ text_line (codes "flagged at point 128")
unfolding digits
flagged = refl

call_path : path_text (record { name = codes "inc"; place = at 1 61 } ∷ []) ≡ codes "main/inc@1:61"
unfolding digits
call_path = refl

longer_call_path : path_text (record { name = codes "f"; place = at 3 5 } ∷ record { name = codes "g"; place = at 1 20 } ∷ []) ≡ codes "main/f@3:5/g@1:20"
unfolding digits
longer_call_path = refl

-- what is written of going back: catches an outcome with a path and a place, and a number one off
gone_back : back_text (record {
  number = 5;
  flagged = Some 2;
  points = in_main 5 (at 1 48) (codes "x" ∷ []) [] ∷ [];
  proved = true;
}) ≡ lines (
    codes "back point 5"
    ∷ codes "flagged at point 2"
    ∷ codes "point 5 main 1:48"
    ∷ codes "  unreachable"
    ∷ codes "assert 5 proved"
    ∷ [])
unfolding digits
gone_back = refl
