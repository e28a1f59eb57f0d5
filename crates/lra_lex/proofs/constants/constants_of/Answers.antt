-- Goals of `constants_of`: the constants that the tokens of a source have.
use Rattle.std.proofs.Common.{rules, ◌≡◌, ◌∷◌}
use Rattle.lra_lex.proofs.ConstantLemmas.{token_taken}
use Rattle.lra_lex.proofs.constants.constants_of.Goals as goal

pub tokens-preserved : goal.tokens-preserved
tokens-preserved c =
    let left : c.tokens.left.now ≡ c.in-Some.token.now ∷ c.in-Some.behind.now = search rules in
    token_taken c.tokens.constants.items c.take_token.new.constants.items c.tokens.minus c.is_minus-minus.result c.in-Some.token.now c.in-Some.behind.now c.args.tokens.now
    c.in_ok-take_token.ensures c.is_minus-minus.ensures (rw left at c.tokens.invariant)
