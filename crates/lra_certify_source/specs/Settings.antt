-- How a source is analysed that is to be certified.
use Rattle.std.specs.Prelude.{true, false}
use Rattle.lra_certify_source.specs.Crates.lra_options.declared.options.Domain.TheVariants.{Poly}
use Rattle.lra_certify_source.specs.Crates.lra_options.declared.options.Options.{Options}

-- over polyhedra, one for each point; heads aren't narrowed, so what is found is inductive along paths
abbrev pub certify_options : Options
certify_options = record {
  domain = Poly;
  parts = 1;
  delay = 1;
  narrow = 0;
  limited = true;
  thresholds = false;
  fits = false;
}
