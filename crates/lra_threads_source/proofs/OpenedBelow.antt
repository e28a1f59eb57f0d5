-- In a tree with what others do, whose points are numbered below m, each operation belongs to such a point.
use Rattle.std.proofs.{Common.◌≡◌, Common.◌≤◌, Common.◌<◌, Common.◌+◌, Common.ℕ, Common.Bool, Common.true, Common.false, Common.inl, Common.inr, Common.arith, lemmas.Bool.cases_lt}
use Rattle.std.specs.Prelude.{Option, None, Some, nat_lt, if◌then◌else◌}
use Rattle.lra_threads_source.specs.Crates.lra_analysis_spec.Instrumented.{with_recording, instrumented, instrumented_arms}
use Rattle.lra_threads_source.specs.Crates.lra_fixpoint.Numbers.{ArmsAreBelow, AreBelow, values_in, values_in_arms}
use Rattle.lra_threads_source.specs.Crates.lra_operations.Tree.{Node, empty, probe, point, act, check, seq, choose, iterate, catch, leave, select, Arms, no_arms, entry, arm}
use Rattle.lra_threads_source.specs.Crates.{lra_operations.declared.probes.Probe.TheVariants.RecordWrite, lra_program.Step.Op, lra_program.WrittenVariables.written_variable}
use Rattle.lra_threads_source.proofs.Crates.lra_fixpoint.Counting.{one_same}

module _ (m : ℕ) where
  abbrev NoValues : Node → Type 0
  NoValues g = (q : ℕ) → m ≤ q → values_in g q ≡ 0

  abbrev NoArmsValues : Arms → Type 0
  NoArmsValues arms = (q : ℕ) → m ≤ q → values_in_arms arms q ≡ 0

  below_if : (t : Bool) (q place : ℕ) (op : Op) → q < m → AreBelow m (if t then seq (act q op) (probe q (RecordWrite place)) else act q op)
  below_if true q place op low = (low, low)
  below_if false q place op low = low

  below_noted : (n q : ℕ) (x : Option ℕ) (op : Op) → q < m → AreBelow m (with_recording n q x (act q op))
  below_noted n q None op low = low
  below_noted n q (Some place) op low = below_if (nat_lt place n) q place op low

  point_low : (q : ℕ) → NoValues (point q) → q < m
  point_low q none = elim (cases_lt q m) [ inl low ↦ low | inr high ↦ let zero = none q high in let one = one_same q in absurd (omega (arith, zero, one)) ]

  left : (a b : Node) → ((q : ℕ) → m ≤ q → values_in a q + values_in b q ≡ 0) → NoValues a
  left a b none q h = let all = none q h in omega (arith, all)

  right : (a b : Node) → ((q : ℕ) → m ≤ q → values_in a q + values_in b q ≡ 0) → NoValues b
  right a b none q h = let all = none q h in omega (arith, all)

  mutual
    pub opened_below : (n : ℕ) (g : Node) → NoValues g → AreBelow m g → AreBelow m (instrumented n g)
    opened_below n empty none low = tt
    opened_below n (point q) none low = (point_low q none, tt)
    opened_below n (probe q what) none low = low
    opened_below n (act q op) none low = below_noted n q (written_variable op) op low
    opened_below n (check q base c) none low = low
    opened_below n (seq a b) none low = (opened_below n a (left a b none) low.0, opened_below n b (right a b none) low.1)
    opened_below n (choose q base c a b) none low = (low.0, opened_below n a (left a b none) low.1, opened_below n b (right a b none) low.2)
    opened_below n (iterate q base c a) none low = (low.0, (low.0, (opened_below n a (λ k h. let all = none k h in omega (arith, all)) low.1, low.0)))
    opened_below n (catch q j a) none low = (low.0, opened_below n a none low.1)
    opened_below n (leave k j) none low = tt
    opened_below n (select q base e arms) none low = (low.0, arms_below n arms none low.1)

    arms_below : (n : ℕ) (arms : Arms) → NoArmsValues arms → ArmsAreBelow m arms → ArmsAreBelow m (instrumented_arms n arms)
    arms_below n no_arms none low = tt
    arms_below n (entry l arms) none low = arms_below n arms none low
    arms_below n (arm a arms) none low = (
      opened_below n a (λ k h. let all = none k h in omega (arith, all)) low.0,
      arms_below n arms (λ k h. let all = none k h in omega (arith, all)) low.1,
    )
