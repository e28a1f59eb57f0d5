use Rattle.std.proofs.Common.{length, map}
use Rattle.lra_syntax.specs.Views.{external_view}
use Rattle.lra_parser_spec.specs.Files.{parts_at}
use Rattle.lra_parse.proofs.Headed.{PartsLeft}
use Rattle.lra_parse.proofs.functions.read_file.Given as goal

abbrev pub invariant-parts : goal.invariant-parts
invariant-parts l = record {
  read : PartsLeft 63 (map external_view l.items.items) l.left (parts_at 63 l.fn.rest);
}

abbrev pub decreases-parts : goal.decreases-parts
decreases-parts l = length l.left
