-- A program's tree, and the same tree with what others do written into it: what is required of the one before it is
-- passed holds of the other.
use Rattle.std.specs.Prelude.{◌≡◌, ℕ, ◌≤◌, ◌↔◌, List, Option, Bool}
use Rattle.lra_threads_instrument.specs.Crates.lra_analysis_spec.Instrumented.{instrumented}
use Rattle.lra_threads_instrument.specs.Crates.lra_analysis_spec.Live.{live_after}
use Rattle.lra_threads_instrument.specs.Crates.lra_analysis_spec.LiveLimit.{most_live}
use Rattle.lra_threads_instrument.specs.Crates.lra_base.declared.number_types.NumberType.{NumberType}
use Rattle.lra_threads_instrument.specs.Crates.lra_pass_results.Dimensions.{JumpsWith, TreeFits}
use Rattle.lra_program.specs.{Sites.Site, Step.Op}
use Rattle.lra_operations.specs.{CheckedOperations.ops_where, Tree.Exit, Tree.Node}
use Rattle.lra_fixpoint.specs.{Lives.PointsHave, Numbers.IsNumbered}

abbrev pub InstrumentKeepsLive : Type 0
InstrumentKeepsLive = (n : ℕ) (g : Node) (k : ℕ) → live_after (instrumented n g) k ≡ live_after g k

abbrev pub InstrumentKeepsJumps : Type 0
InstrumentKeepsJumps = (n : ℕ) (g : Node) (k : ℕ) (j : Exit) (m : ℕ) →
    JumpsWith (instrumented n g) k j m ↔ JumpsWith g k j m

-- begun with k variables
abbrev pub InstrumentKeepsDims : Type 0
InstrumentKeepsDims = (n : ℕ) (g : Node) (k : ℕ) → k ≤ most_live → TreeFits g k → TreeFits (instrumented n g) k

abbrev pub InstrumentKeepsNumbers : Type 0
InstrumentKeepsNumbers = (T : List Site) (n : ℕ) (g : Node) → IsNumbered T g → IsNumbered T (instrumented n g)

abbrev pub InstrumentKeepsPoints : Type 0
InstrumentKeepsPoints = (T : List Site) (n : ℕ) (g : Node) (k : ℕ) → TreeFits g k → PointsHave T g k →
    PointsHave T (instrumented n g) k

abbrev pub InstrumentKeepsOps : Type 0
InstrumentKeepsOps = (asks : Op → Bool) (fresh : Option NumberType) (n : ℕ) (g : Node) →
    ops_where asks fresh (instrumented n g) ≡ ops_where asks fresh g
