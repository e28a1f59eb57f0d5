-- Goals of `refusal`: the refusal for the fault at which reading stops.
use Rattle.std.proofs.Common.{subst, arith}
use Rattle.lra_syntax.specs.{Faults.IsTextFault, Grammar.Spells, declared.tokens.Token.Token}
use Rattle.lra_parser_spec.proofs.Answered.{fault_within, text_fault}
use Rattle.lra_parse.proofs.parser.refusal.Goals as goal

pub overflow_sub-index : goal.overflow_sub-index
overflow_sub-index c = let w = fault_within c.args.tokens.now c.args.fault c.requires.ends c.requires.stops in omega (arith, w.0, w.1)

pub bounds-tokens-index : goal.bounds-tokens-index
bounds-tokens-index c = let w = fault_within c.args.tokens.now c.args.fault c.requires.ends c.requires.stops in omega (arith, w.0, w.1)

pub bounds-tokens-index-2 : goal.bounds-tokens-index-2
bounds-tokens-index-2 c = let w = fault_within c.args.tokens.now c.args.fault c.requires.ends c.requires.stops in omega (arith, w.0, w.1)

pub returns : goal.returns
returns c = subst (λ (t : Token). IsTextFault Spells c.args.tokens.now c.args.fault.cause t.place) c.index-tokens-index.is
    (text_fault c.args.tokens.now c.args.fault c.requires.ends c.requires.stops c.index-tokens-index.result c.index-tokens-index.is)
