-- Goals of `tokens`: the tokens of the source, each the longest spelling at its place, and the end after its last
-- byte; or its first fault.
use Rattle.std.proofs.Common.{arith}
use Rattle.lra_lex.proofs.ReadingLemmas.{read_on, read_within}
use Rattle.lra_lex.proofs.lexer.tokens.Goals as goal

pub advance-spot-requires-clause-lines : goal.advance-spot-requires-clause-lines
advance-spot-requires-clause-lines c =
    let w = read_within c.args.source.now c.pieces.rest.now c.pieces.tokens.items c.pieces.spot.place c.pieces.spot.fresh c.pieces.invariant in
    omega (arith, w.0, c.split_at.ensures.front_len, c.in_ok-found.ensures.found.within, c.requires)

pub advance-spot-requires-clause-columns : goal.advance-spot-requires-clause-columns
advance-spot-requires-clause-columns c =
    let w = read_within c.args.source.now c.pieces.rest.now c.pieces.tokens.items c.pieces.spot.place c.pieces.spot.fresh c.pieces.invariant in
    omega (arith, w.1, c.split_at.ensures.front_len, c.in_ok-found.ensures.found.within, c.requires)

pub pieces-preserved : goal.pieces-preserved
pieces-preserved c =
    read_on c.args.source.now c.pieces.rest.now c.split_at.result.0.now c.split_at.result.1.now c.pieces.tokens.items c.keep.new.tokens.items c.pieces.spot.place c.advance-spot.result.place
    c.pieces.spot.fresh c.advance-spot.result.fresh c.in_ok-found.found.length c.in_ok-found.found.kind c.pieces.invariant c.in_ok-found.ensures.found c.split_at.ensures.front c.split_at.ensures.back
    c.in_ok-keep.ensures c.advance-spot.ensures.place c.advance-spot.ensures.fresh
