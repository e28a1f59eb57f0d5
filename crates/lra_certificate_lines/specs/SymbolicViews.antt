-- Paths as the code walks them.
use Rattle.std.specs.{List.All, Prelude.◌≡◌, Prelude.ℕ, Prelude.suc, Prelude.length}
use Rattle.lra_certificate_lines.specs.Crates.lra_systems.LinearSystems.{constraints}
use Rattle.lra_certificate_lines.specs.declared.symbolic.SymbolicExecution.{SymbolicExecution}
use Rattle.lra_multipliers.specs.Symbols.{SymbolicState}

abbrev pub symbolic_view : SymbolicExecution → SymbolicState
symbolic_view w = record { forms = w.forms.items; tests = constraints w.tests; free = w.free }

-- all rows have this width, and each test has its kind
pub record HasWidth (width : ℕ) (w : SymbolicExecution) : Type 0 where
  pub forms : All (λ f. length f ≡ width) w.forms.items
  pub tests : suc w.tests.dims ≡ width
  pub kinds : length w.tests.kinds ≡ length w.tests.rows
