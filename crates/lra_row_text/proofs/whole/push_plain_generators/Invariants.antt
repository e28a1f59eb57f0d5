use Rattle.std.proofs.Common.{◌≡◌, ◌++◌, drop, string_bytes}
use Rattle.std.specs.List.{flat_map}
use Rattle.lra_systems.specs.LinearSystems.{FitKinds}
use Rattle.lra_row_text.specs.{Lists.shown_generators, Whole.plain_generator}
use Rattle.lra_row_text.proofs.whole.push_plain_generators.Given as goal

abbrev pub invariant-loop-index : goal.invariant-loop-index
invariant-loop-index l = record {
  fit : FitKinds (drop l.index l.rows) (drop l.index l.kinds);
  written : string_bytes l.text ++ flat_map (plain_generator l.names) (shown_generators (drop l.index l.rows) (drop l.index l.kinds))
      ≡ string_bytes l.initial.text ++ flat_map (plain_generator l.names) (shown_generators l.rows l.kinds);
}
