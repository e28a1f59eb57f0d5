-- So far the states of the first values are there, one after another, as the values are, and as their texts report
-- them.
use Rattle.std.proofs.Common.{◌≡◌, take}
use Rattle.std.specs.{List.AllByRecursion, Prelude.flat_map}
use Rattle.lra_report.specs.Spelled.{IsSpelledPart}
use Rattle.lra_report_build.specs.{Canonical.AreCanonicallyShown, Shown.IsShown}
use Rattle.lra_report_build.proofs.sets.states_in_turn.Given as goal

abbrev pub invariant-values : goal.invariant-values
invariant-values g l = record {
  shown : l.state.items ≡ flat_map g.D.Show.shown (take l.value-index l.values);
  told : AllByRecursion (λ v. IsShown g.D.Domain.abstraction g.D.Show.named v (g.D.Show.shown v)) (take l.value-index l.values);
  spelled : AllByRecursion IsSpelledPart l.state.items;
  canonical : AreCanonicallyShown g.D.Show.named g.D.Domain.abstraction.dims g.D.Show.shown (take l.value-index l.values);
}
