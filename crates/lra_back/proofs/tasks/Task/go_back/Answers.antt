-- Goals of `go_back`: all rounds, and then the meets, from heads that start with nothing.
use Rattle.std.proofs.lemmas.Result.{IfOk-weaker}
use Rattle.lra_back.proofs.tasks.Task.go_back.Goals as goal

pub returns-clause-gone : goal.returns-clause-gone
returns-clause-gone g c =
    let last = c.iterate_rounds.new.going in
    IfOk-weaker c.meet_all.result _ _ (λ met is. record {
      first = c.in_ok-start_all.field-0.items;
      started = c.in_ok-start_all.ensures.started;
      last = last.heads.items;
      rounds_flag = last.flag;
      rounds = c.in_ok-iterate_rounds.ensures.rounds;
      met = is;
    }) c.meet_all.ensures.met
