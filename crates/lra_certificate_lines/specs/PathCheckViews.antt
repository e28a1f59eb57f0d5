-- Paths as the code judges their lines.
use Rattle.std.specs.Prelude.{◌≡◌, ◌<◌, ◌+◌, ◌-◌, ◌++◌, ◌^◌, ℕ, suc, ℤ, List, [], map, codes, if◌then◌else◌, length}
use Rattle.std.specs.Prelude.{Result, Ok, Err, Option, None, Some, option_map, MatchOption, IfSome}
use Rattle.std.specs.{Borrow.Bor, List.All}
use Rattle.lra_certificate_lines.specs.Crates.lra_linear_spec.Cones.{with_row}
use Rattle.lra_certificate_lines.specs.Crates.lra_linear_spec.Descriptions.{LinearRow}
use Rattle.lra_certificate_lines.specs.Crates.lra_linear_spec.Polyhedra.{falsity}
use Rattle.lra_certificate_lines.specs.Crates.lra_linear_spec.declared.ConKind.{ConKind}
use Rattle.lra_certificate_lines.specs.Crates.lra_systems.LinearSystems.{LinearSystem, constraints}
use Rattle.lra_certificate_lines.specs.Crates.{lra_domain.Actions.Action, lra_linear_spec.declared.Excess.Excess}
use Rattle.lra_multipliers.specs.Multipliers.{Multipliers, Answer, wide, checked}
use Rattle.lra_multipliers.specs.Symbols.{SymbolicState, composed, executed_path, width_of, tests_in}
use Rattle.lra_certificate_spec.specs.Judged.{Left, Judged, RowsAtPoint, then_judged, by_answer, is_dead_line, line_on}
use Rattle.lra_certificate_spec.specs.{Certificates.padded, Lines.judged_in_turn}
use Rattle.lra_certificate_lines.specs.{MultiplierLineViews.multipliers_on, declared.path_checks.PathCheck.PathCheck}
use Rattle.lra_certificate_lines.specs.{declared.path_checks.PathFacts.PathFacts}
use Rattle.lra_row.specs.declared.row.Row.{Row}

-- all forms are rows over the symbols, as the premises are
pub record ArePathFacts (g : PathFacts) : Type 0 where
  pub forms : All (λ f. length f ≡ suc g.premises.dims) g.forms.items
  pub small : g.premises.dims < 2 ^ 61

abbrev pub claim_row : Option (Bor Row) → Option (List ℤ)
claim_row claim = option_map (λ r. r.now) claim

abbrev pub target_rows : Option (Bor (LinearSystem ConKind)) → RowsAtPoint
target_rows target = option_map (λ r. constraints r.now) target

-- the claim over the symbols: a row over the variables, or that nothing is left
abbrev pub claimed : Option (List ℤ) → ℕ → List (List ℤ) → Result (List ℤ) Excess
claimed None width forms = Ok (falsity (width - 1))
claimed (Some row) width forms = composed width row forms

-- of a claim that may have passed
abbrev pub answered : List LinearRow → Result (List ℤ) Excess → Multipliers → Answer
answered premises (Err e) m = wide
answered premises (Ok row) m = checked premises row m

-- the grounds of a path from a source with so many variables and these rows
pub record ArePathFactsOf (live : ℕ) (rows : List LinearRow) (steps : List Action) (g : PathFacts) : Type 0 where
  pub walk : SymbolicState
  pub walks : executed_path live steps ≡ Ok walk
  pub width : suc g.premises.dims ≡ width_of live steps
  pub premises : constraints g.premises ≡ map (padded (width_of live steps)) rows ++ walk.tests
  pub forms : g.forms.items ≡ walk.forms

pub record IsPathCheck (live : ℕ) (rows : List LinearRow) (steps : List Action) (t : PathCheck) : Type 0 where
  pub count : t.count ≡ length rows + tests_in steps
  pub facts : MatchOption t.facts ((e : Excess) × (executed_path live steps ≡ Err e)) (ArePathFactsOf live rows steps)

-- the lines of the grounds have a factor for each of their premises
pub record AreCounted (count : ℕ) (g : PathFacts) : Type 0 where
  pub are : ArePathFacts g
  pub many : length g.premises.rows ≡ count

pub record IsWhole (t : PathCheck) : Type 0 where
  pub few : t.count < 2 ^ 62
  pub grounds : IfSome t.facts (AreCounted t.count)

-- the answer to a line, and the line
abbrev pub answer_by : Option PathFacts → Option (List ℤ) → Multipliers → Answer
answer_by None claim m = wide
answer_by (Some g) claim m =
    answered (constraints g.premises) (claimed claim (suc g.premises.dims) g.forms.items) m

abbrev pub shown_by : PathCheck → Option (List ℤ) → Left → Multipliers × Left → Judged Left
shown_by t claim l x = by_answer l.number x.1 (answer_by t.facts claim x.0)

abbrev pub line_by : PathCheck → List ℕ → Option (List ℤ) → Left → Judged Left
line_by t word claim l = then_judged (multipliers_on word t.count l) (shown_by t claim l)

-- the claims of a row, of all rows, and of a target
abbrev pub claim_by : PathCheck → List ℤ → Left → Judged Left
claim_by t row l = line_by t (codes "by") (Some row) l

abbrev pub row_by : PathCheck → LinearRow → Left → Judged Left
row_by t g l = judged_in_turn (claim_by t) (with_row g.equal g.row []) l

abbrev pub target_by : PathCheck → RowsAtPoint → Left → Judged Left
target_by t None l = line_by t (codes "by") None l
target_by t (Some rows) l = judged_in_turn (row_by t) rows l

abbrev pub lines_by : PathCheck → RowsAtPoint → Left → Judged Left
lines_by t target l = if is_dead_line (line_on l.pieces) then line_by t (codes "dead") None l else target_by t target l
