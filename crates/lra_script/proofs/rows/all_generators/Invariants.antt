use Rattle.std.proofs.Common.{◌≡◌, drop, map}
use Rattle.std.specs.List.{All}
use Rattle.lra_script.specs.{LineForms.all_of, LineForms.generator_of, Views.texts, Views.IsDivided}
use Rattle.lra_script.specs.Views as view
use Rattle.lra_script.proofs.AllOf.{onto}
use Rattle.lra_script.proofs.rows.all_generators.Given as goal

abbrev pub invariant-loop-part : goal.invariant-loop-part
invariant-loop-part l = record {
  so_far : onto (map view.generator_view l.generators.items) (all_of generator_of (map (λ p. texts p.now) (drop l.part-index l.parts))) ≡ all_of generator_of (map (λ p. texts p.now) l.parts);
  divided : All (λ g. IsDivided g.kind g.numbers) l.generators.items;
}
