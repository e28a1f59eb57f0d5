-- Goals of `parse`: the tree of the tokens, whose last and no other is the end, and whose numbers are below 2^63;
-- or the first fault.
use Rattle.lra_syntax.specs.Views.{tree_view}
use Rattle.lra_parser_spec.proofs.Answered.{tree_found}
use Rattle.lra_parse.proofs.parser.parse.Goals as goal

pub returns-in-Ok-clause-found : goal.returns-in-Ok-clause-found
returns-in-Ok-clause-found c = tree_found c.args.tokens.now c.in-Ok._behind.now (tree_view c.in-Ok.tree) c.requires.ends c.in-Ok.ensures
