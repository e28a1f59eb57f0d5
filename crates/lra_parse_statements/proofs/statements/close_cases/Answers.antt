-- Goals of `close_cases`: what the braces of a `switch` hold, whose last one comes next.
use Rattle.std.proofs.Common.{Ok, sym, ap, map, ◌∙◌}
use Rattle.lra_syntax.specs.declared.tokens.Mark.TheVariants as mark
use Rattle.lra_syntax.specs.{Trees.CasesTree, Views.case_view, Views.cases_of}
use Rattle.lra_parse_expressions.proofs.Turning.{expect_value}
use Rattle.lra_parse_statements.proofs.Stated.{braces_view}
use Rattle.lra_parse_statements.proofs.statements.close_cases.Goals as goal

pub returns-clause-gives : goal.returns-clause-gives
returns-clause-gives c =
    expect_value mark.CloseBrace (tt {0}) (cases_of (map case_view c.args.items.items)) c.args.rest.now c.in_ok-after.after.now c.in_ok-after.ensures.gives
    ∙ ap (λ (t : CasesTree). Ok (t, c.in_ok-after.after.now)) (sym (braces_view (record { items = c.args.items })))
