-- Which rows a loop's head is given, by how it widens.
use Rattle.std.proofs.Common.{◌≡◌, ℕ, ℤ, List, None, Some, refl, ap}
use Rattle.lra_operations.specs.Tree.{Node}
use Rattle.lra_pass_results.specs.Crates.lra_analysis_spec.Plan.{Widening, standard, limited, by_thresholds, constants_in}
use Rattle.lra_pass_results.specs.Crates.lra_analysis_spec.Thresholds.{loop_thresholds, threshold_rows}
use Rattle.lra_pass_results.specs.Crates.{lra_analysis_spec.GuardThresholds.guard_thresholds, lra_program.Program.Cond}

pub rows_by_condition : (w : Widening) (live base : ℕ) (c : Cond) (a : Node) → None ≡ constants_in w →
    guard_thresholds live base c ≡ loop_thresholds w live base c a
rows_by_condition standard live base c a is = refl
rows_by_condition limited live base c a is = refl
rows_by_condition (by_thresholds constants) live base c a is = let wrong : ⊥ = cc in absurd wrong

pub rows_by_thresholds : (w : Widening) (constants : List ℤ) (live base : ℕ) (c : Cond) (a : Node) → Some constants ≡ constants_in w
    → threshold_rows constants live base c a ≡ loop_thresholds w live base c a
rows_by_thresholds standard constants live base c a is = let wrong : ⊥ = cc in absurd wrong
rows_by_thresholds limited constants live base c a is = let wrong : ⊥ = cc in absurd wrong
rows_by_thresholds (by_thresholds own) constants live base c a is =
    let same : constants ≡ own = cc in
    ap (λ (ts : List ℤ). threshold_rows ts live base c a) same
