-- Goals of `comment_length`: how many bytes a comment at the start has.
use Rattle.std.proofs.Common.{arith}
use Rattle.lra_lex.proofs.GapLemmas.{line_gap, block_gap, no_close}
use Rattle.lra_lex.proofs.gaps.comment_length.Goals as goal

pub returns-then-rest-eq47-clause-found : goal.returns-then-rest-eq47-clause-found
returns-then-rest-eq47-clause-found c = λ fresh. rw c.line_length.ensures (line_gap fresh c.args.rest.now (omega arith) c.requires c.if-rest-eq47.true)

pub returns-in-Some-clause-found : goal.returns-in-Some-clause-found
returns-in-Some-clause-found c = λ fresh. block_gap fresh c.args.rest.now c.in-Some.length (omega arith) c.requires c.if-rest-ne42.false (rw c.split_at.ensures.back at c.in-Some.ensures.found)

pub returns-in-None-clause-none : goal.returns-in-None-clause-none
returns-in-None-clause-none c = λ fresh. no_close fresh c.args.rest.now (omega arith) c.requires c.if-rest-ne42.false (rw c.split_at.ensures.back at c.in-None.ensures.none)
