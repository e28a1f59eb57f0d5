-- Goals of `one_reading`: a source has one list of tokens, or one first fault.
use Rattle.lra_lex.proofs.OneReadingLemmas.{one_reading}
use Rattle.lra_lex.proofs.lexer.one_reading.Goals as goal

pub returns : goal.returns
returns c = one_reading
