-- A program's tree as it is passed among others: where they may act, and where a variable's new value is noted. And
-- what the program's runs give to variables.
use Rattle.std.specs.Prelude.{◌≡◌, ℕ, Option, None, Some, Bool, true, false, nat_lt, if◌then◌else◌, ◌||◌, ◌⊎◌}
use Rattle.lra_analysis_spec.specs.Crates.lra_base.CaseLabels.{is_same_case}
use Rattle.lra_analysis_spec.specs.Crates.lra_program.Step.{State, test}
use Rattle.lra_analysis_spec.specs.Crates.lra_program.WrittenVariables.{written_variable}
use Rattle.lra_analysis_spec.specs.Crates.{lra_base.declared.case_labels.CaseLabel.CaseLabel, lra_program.Traces.Trace}
use Rattle.lra_operations.specs.Traces.{to_end, TrailRounds, Performs, Finds, VisitsAndTests, RunsUpTo}
use Rattle.lra_operations.specs.Tree.{Node, empty, point, probe, act, check, seq, choose, iterate, catch, leave, select}
use Rattle.lra_operations.specs.Tree.{Arms, no_arms, entry, arm}
use Rattle.lra_operations.specs.declared.probes.Probe.TheVariants.{InterferencePoint, RecordWrite}

-- what the variable gets is noted, if it is one of the first n
abbrev pub with_recording : ℕ → ℕ → Option ℕ → Node → Node
with_recording n q None g = g
with_recording n q (Some place) g = if nat_lt place n then seq g (probe q (RecordWrite place)) else g

-- first others may act
abbrev pub with_interference : ℕ → Node → Node
with_interference q g = seq (probe q InterferencePoint) g

abbrev mutual
  -- others may act at each point, before a loop and at the end of its body; what the first n variables get is noted
  pub instrumented : ℕ → Node → Node
  instrumented n empty = empty
  instrumented n (point q) = with_interference q (point q)
  instrumented n (probe q what) = probe q what
  instrumented n (act q op) = with_recording n q (written_variable op) (act q op)
  instrumented n (check q base c) = check q base c
  instrumented n (seq a b) = seq (instrumented n a) (instrumented n b)
  instrumented n (choose q base c a b) = choose q base c (instrumented n a) (instrumented n b)
  instrumented n (iterate q base c a) =
      with_interference q (iterate q base c (seq (instrumented n a) (probe q InterferencePoint)))
  instrumented n (catch q k a) = catch q k (instrumented n a)
  instrumented n (leave live k) = leave live k
  instrumented n (select q base e arms) = select q base e (instrumented_arms n arms)

  pub instrumented_arms : ℕ → Arms → Arms
  instrumented_arms n no_arms = no_arms
  instrumented_arms n (entry l arms) = entry l (instrumented_arms n arms)
  instrumented_arms n (arm a arms) = arm (instrumented n a) (instrumented_arms n arms)

module _ {A : Type 0} (name : ℕ → A) (may : State → State → Type 0) where
  abbrev mutual
    -- a run of the tree from the first trace gives the variable at the place x a value at the point p; so it goes on
    -- with the second
    pub WritesVariable : Node → Trace A → ℕ → ℕ → Trace A → Type 0
    WritesVariable empty a p x b = ⊥
    WritesVariable (point q) a p x b = ⊥
    WritesVariable (probe here what) a p x b = ⊥
    WritesVariable (act q op) a p x b = (p ≡ q) × (written_variable op ≡ Some x) × Performs op a b
    WritesVariable (check q base c) a p x b = ⊥
    WritesVariable (seq g h) a p x b =
        WritesVariable g a p x b ⊎ ((m : Trace A) × RunsUpTo name may g a to_end m × WritesVariable h m p x b)
    WritesVariable (choose q base c g h) a p x b =
        ((m : Trace A) × Performs (test base c true) a m × WritesVariable g m p x b) ⊎
        ((m : Trace A) × Performs (test base c false) a m × WritesVariable h m p x b)
    WritesVariable (iterate q base c g) a p x b = (n : ℕ) × (m : Trace A) ×
        TrailRounds (λ u v. (w : Trace A) × VisitsAndTests name may q base c true u w × RunsUpTo name may g w to_end v)
        n a m ×
        (w : Trace A) × VisitsAndTests name may q base c true m w × WritesVariable g w p x b
    WritesVariable (catch q k g) a p x b = WritesVariable g a p x b
    WritesVariable (leave n k) a p x b = ⊥
    WritesVariable (select q base e arms) a p x b =
        (l : CaseLabel) × (m : Trace A) × Finds base e arms a l m × ArmsWriteVariable l false arms m p x b

    pub ArmsWriteVariable : CaseLabel → Bool → Arms → Trace A → ℕ → ℕ → Trace A → Type 0
    ArmsWriteVariable l met no_arms a p x b = ⊥
    ArmsWriteVariable l met (entry k arms) a p x b = ArmsWriteVariable l (met || is_same_case l k) arms a p x b
    ArmsWriteVariable l false (arm g arms) a p x b = ArmsWriteVariable l false arms a p x b
    ArmsWriteVariable l true (arm g arms) a p x b = WritesVariable g a p x b ⊎
        ((m : Trace A) × RunsUpTo name may g a to_end m × ArmsWriteVariable l true arms m p x b)
