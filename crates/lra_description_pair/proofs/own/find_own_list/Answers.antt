-- Goals of `find_own_list`: the canonical description of what the rows added to the cone generate.
use Rattle.std.proofs.lemmas.Result.{err_from_is_err_and}
use Rattle.lra_description_pair.proofs.own.find_own_list.Goals as goal

pub returns-in_err-own-clause-excess : goal.returns-in_err-own-clause-excess
returns-in_err-own-clause-excess c =
    let p = err_from_is_err_and c.from_residual.result c.from_residual.ensures.1 in
    rw (p.1, p.2) c.in_err-own.ensures.excess
