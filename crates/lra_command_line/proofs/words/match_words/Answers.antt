-- Goals of `match_words`.
use Rattle.lra_command_line.proofs.ParsedWords.{parsed}
use Rattle.lra_command_line.proofs.words.match_words.Goals as goal

pub returns-clause-taken : goal.returns-clause-taken
returns-clause-taken c =
    let parse = c.try_get_matches_from.ensures in
    (parsed _ _ c.try_get_matches_from.result c.in_ok-app.ensures parse.kinds parse.matches parse.passes).0

pub returns-clause-fault : goal.returns-clause-fault
returns-clause-fault c =
    let parse = c.try_get_matches_from.ensures in
    (parsed _ _ c.try_get_matches_from.result c.in_ok-app.ensures parse.kinds parse.matches parse.passes).1
