use Rattle.std.proofs.Common.{◌≡◌}
use Rattle.lra_parser_spec.specs.Files.{all_named}
use Rattle.lra_parser_spec.proofs.Named.{so_far}
use Rattle.lra_parse.proofs.functions.all_named.Given as goal

abbrev pub invariant-names : goal.invariant-names
invariant-names l = all_named l.yielded ≡ so_far l.are_named l.items.items
