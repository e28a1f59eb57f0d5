-- Goals of `answer_sample`: the answer to a sample of up to 400 blocks.
use Rattle.std.proofs.Common.{◌∙◌, rules}
use Rattle.lra_commands.specs.Crates.lra_resolution_spec.EntryPoint.{at_main}
use Rattle.lra_commands.specs.Crates.{lra_resolution_spec.Refuse.Refuse, lra_syntax.Grammar.Spells}
use Rattle.lra_commands.proofs.SampleOutcomes.{summary_answer, refusal_answer}
use Rattle.lra_commands.proofs.sample_answer.answer_sample.Goals as goal

pub returns-in-Ok : goal.returns-in-Ok
returns-in-Ok c = summary_answer c.args.seed c.args.size _ _ _ _ c.default_options-options.ensures (c.deref.ensures.value ∙ c.in_ok-source.ensures.source)
    c.in-Ok.ensures.answered c.answer_summary.ensures.text c.answer_summary.ensures.status

pub returns-in-Err-Refused : goal.returns-in-Err-Refused
returns-in-Err-Refused c =
    let refused : Refuse at_main Spells c.deref.result.now c.in-Err-Refused.refusal.cause c.in-Err-Refused.refusal.place = search rules in
    refusal_answer c.args.seed c.args.size _ _ _ (c.deref.ensures.value ∙ c.in_ok-source.ensures.source) refused c.answer_refusal.ensures.text c.answer_refusal.ensures.status
