-- Goals of `Names::numbered`: the names x1, x2, and on.
use Rattle.std.proofs.Common.{arith, rules, ap, ◌∙◌, length}
use Rattle.lra_row_text.specs.Whole.{numbered_names}
use Rattle.lra_row_text.proofs.Numbered.{numbered_count, numbered_end, numbered_step}
use Rattle.lra_row_text.proofs.names.Names.numbered.Goals as goal

pub loop-place-preserved : goal.loop-place-preserved
loop-place-preserved c = numbered_step c.args.n c.loop-place.place c.loop-place.names c.push.new.self (numbered_names c.args.n) c.as_str.result.now (omega arith) c.in_ok-push.ensures.ok
    (search rules) c.loop-place.invariant

pub returns-clause-names : goal.returns-clause-names
returns-clause-names c = numbered_end c.args.n c.loop-place.place c.loop-place.names (numbered_names c.args.n) (omega arith) c.loop-place.invariant

pub returns-clause-count : goal.returns-clause-count
returns-clause-count c = ap length (numbered_end c.args.n c.loop-place.place c.loop-place.names (numbered_names c.args.n) (omega arith) c.loop-place.invariant)
    ∙ numbered_count 1 c.args.n
