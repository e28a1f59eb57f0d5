-- Goals of `read_body`: the body of a function, whose brace opens the first level.
use Rattle.lra_parser_spec.specs.Statements.{body_of, items_at, block_at}
use Rattle.lra_parse_expressions.proofs.Turning.{gives_same}
use Rattle.lra_parse_statements.proofs.Stated.{body_is}
use Rattle.lra_parse_statements.proofs.statements.read_body.Goals as goal

pub returns-clause-gives : goal.returns-clause-gives
returns-clause-gives c = gives_same _ c.read_block.result (block_at 64 c.args.rest.now) (body_of (items_at 63) c.args.rest.now) (body_is c.args.rest.now)
    c.read_block.ensures.gives
