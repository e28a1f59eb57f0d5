-- Goals of `into_one`: all parts become one.
use Rattle.std.proofs.lemmas.Result.{IfOk-weaker}
use Rattle.lra_powerset.proofs.AnswerLemmas.{merged_one_is}
use Rattle.lra_powerset.proofs.joins.into_one.Goals as goal

pub returns : goal.returns
returns g c =
    IfOk-weaker c.list_alone.result _ _ (λ one alone. merged_one_is g.D.Domain.abstraction g.met.D.BaseDomain.base_laws
    c.args.parts.now c.in_ok-whole.field-0-1 c.in_ok-whole.whole one.items alone c.in_ok-whole.ensures.merged
    c.in_ok-whole.ensures.dims) c.list_alone.ensures
