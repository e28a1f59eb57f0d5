-- So far the states of the first values are there, as the values are, and as their texts report them.
use Rattle.std.proofs.Common.{◌≡◌, map, take}
use Rattle.std.specs.List.{AllByRecursion}
use Rattle.lra_report.specs.Spelled.{IsSpelledPart}
use Rattle.lra_report_build.specs.{Canonical.AreCanonicallyShown, Shown.IsShown}
use Rattle.lra_report_build.proofs.states.states_of.Given as goal

abbrev pub invariant-values : goal.invariant-values
invariant-values g l = record {
  shown : map (λ s. s.items) l.states.items ≡ map g.D.Show.shown (take l.value-index l.values);
  told : AllByRecursion (λ v. IsShown g.D.Domain.abstraction g.D.Show.named v (g.D.Show.shown v)) (take l.value-index l.values);
  spelled : AllByRecursion (AllByRecursion IsSpelledPart) (map (λ s. s.items) l.states.items);
  canonical : AreCanonicallyShown g.D.Show.named g.D.Domain.abstraction.dims g.D.Show.shown (take l.value-index l.values);
}
