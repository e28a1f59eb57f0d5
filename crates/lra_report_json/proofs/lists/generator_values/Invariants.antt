use Rattle.std.proofs.Common.{◌≡◌, ◌++◌, drop, map}
use Rattle.serde_json.specs.{Data.string, View.view}
use Rattle.lra_report_json.specs.Crates.lra_systems.LinearSystems.{FitKinds}
use Rattle.lra_row_text.specs.{Lists.shown_generators, Texts.generator_text}
use Rattle.lra_report_json.proofs.lists.generator_values.Given as goal

abbrev pub invariant-loop-index : goal.invariant-loop-index
invariant-loop-index l = record {
  fit : FitKinds (drop l.index l.rows) (drop l.index l.kinds);
  written : map view l.texts.items ++ map (λ g. string (generator_text l.names g)) (shown_generators (drop l.index l.rows) (drop l.index l.kinds))
      ≡ map (λ g. string (generator_text l.names g)) (shown_generators l.rows l.kinds);
}
