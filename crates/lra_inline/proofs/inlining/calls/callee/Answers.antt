-- Goals of `callee`: the function that a call names.
use Rattle.lra_inline.proofs.Programs.{called_below, called_found}
use Rattle.lra_inline.proofs.inlining.calls.callee.Goals as goal

pub index-requires : goal.index-requires
index-requires c = called_below c.args.program.now c.requires.0 c.args.call.now c.requires.1

pub returns : goal.returns
returns c = called_found c.args.program.now c.requires.0 c.args.call.now c.requires.1 c.index.result.now c.index.ensures
