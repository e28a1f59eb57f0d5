-- A loop's head while it grows: its value, and what is flagged so far.
use Rattle.std.specs.Prelude.{◌≡◌, ◌≢◌, ℕ, ◌-◌, Option}
use Rattle.lra_pass_results.specs.Crates.lra_analysis_spec.Operations.{lossy_operations}
use Rattle.lra_pass_results.specs.Crates.lra_analysis_spec.Pass.{PassResult, noted}
use Rattle.lra_pass_results.specs.Crates.lra_analysis_spec.Plan.{Widening, mode_at}
use Rattle.lra_pass_results.specs.Crates.lra_domain.Rank.{RankFits, RankBelow}
use Rattle.lra_pass_results.specs.Crates.{lra_domain.Abstraction.Abstraction, lra_domain.declared.Exactness.Exactness}
use Rattle.lra_pass_results.specs.Crates.{lra_domain.declared.Mode.TheVariants.Join}
use Rattle.lra_pass_results.specs.declared.heads.Growing.{Growing}

-- the head's value, with what is flagged after it
abbrev pub IsValued : {V H : Type 0} → Abstraction V H → ℕ → Option ℕ → H → V → Option ℕ → Type 0
IsValued m q f head v f' = (e : Exactness) × (lossy_operations m).valued head e v × (f' ≡ noted q e f)

-- the head grew by what its last round left: one round less of joining is left, or its rank fell
pub record GrowsBy {V H : Type 0} (m : Abstraction V H) (widening : Widening) (q : ℕ) (e : Exactness)
    (old : Growing V H)
    (last : PassResult V) (new : Growing V H) : Type 0 where
  pub grown : (lossy_operations m).grown old.head last.normal (mode_at widening old.left) e new.head
  pub valued : IsValued m q (noted q e last.flag) new.head new.value new.flag
  pub left : new.left ≡ old.left - 1
  pub fits : RankFits (m.rank new.head)
  pub lower : mode_at widening old.left ≢ Join → RankBelow (m.rank new.head) (m.rank old.head)
