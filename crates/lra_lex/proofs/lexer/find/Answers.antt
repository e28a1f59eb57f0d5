-- Goals of `find`: what stands at the start.
use Rattle.lra_lex.proofs.ReadingLemmas.{found_token, refusal_at}
use Rattle.lra_lex.proofs.lexer.find.Goals as goal

pub returns-in-Ok-clause-found : goal.returns-in-Ok-clause-found
returns-in-Ok-clause-found c =
    found_token c.args.spot.fresh c.args.rest.now c.in-Ok.length c.in-Ok.kind c.in-None.ensures.none (rw (c.in-Ok.length-is, c.in-Ok.kind-is) c.in-Ok.ensures.found)

pub returns-in-Err-clause-refused : goal.returns-in-Err-clause-refused
returns-in-Err-clause-refused c =
    refusal_at c.args.spot.place c.args.spot.fresh c.args.rest.now c.in-Err.error c.requires c.in-None.ensures.none (rw c.in-Err.error-is at c.in-Err.ensures.refused)
