-- What others do, written into a small tree.
use Rattle.std.proofs.Common.{◌≡◌, refl}
use Rattle.lra_threads_instrument.specs.Crates.lra_analysis_spec.Instrumented.{instrumented}
use Rattle.lra_threads_instrument.specs.Crates.{lra_base.declared.case_labels.CaseLabel.TheVariants.Default, lra_base.declared.number_types.NumberType.NumberType}
use Rattle.lra_program.specs.{Program.Cond, Program.Expr, Receivers.variable_at, Step.store_value, Step.havoc, Step.truncate_to}
use Rattle.lra_operations.specs.Tree.{probe, point, act, seq, iterate, select, no_arms, entry, arm}
use Rattle.lra_operations.specs.declared.probes.Probe.TheVariants.{InterferencePoint, RecordWrite}

-- a loop whose body gives the first variable a value: they act before its point, before the loop and at the end of a
-- round, and the value is noted
loop_among : (c : Cond) (e : Expr) (t : NumberType) → instrumented 1 (seq (point 3) (iterate 4 0 c (act 5 (store_value 0 (variable_at 0 t) e)))) ≡
    seq (seq (probe 3 InterferencePoint) (point 3)) (seq (probe 4 InterferencePoint)
    (iterate 4 0 c (seq (seq (act 5 (store_value 0 (variable_at 0 t) e)) (probe 5 (RecordWrite 0))) (probe 4 InterferencePoint))))
loop_among c e t = refl

-- what a later variable gets isn't noted, nor is a cut
later_variable : (t : NumberType) → instrumented 1 (seq (act 2 (havoc (variable_at 1 t))) (act 2 (truncate_to 1))) ≡
    seq (act 2 (havoc (variable_at 1 t))) (act 2 (truncate_to 1))
later_variable t = refl

-- trees of arms as others
arms_among : (e : Expr) → instrumented 0 (select 6 0 e (entry Default (arm (point 7) no_arms))) ≡
    select 6 0 e (entry Default (arm (seq (probe 7 InterferencePoint) (point 7)) no_arms))
arms_among e = refl
