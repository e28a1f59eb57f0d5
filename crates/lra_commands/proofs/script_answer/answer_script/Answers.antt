-- Goals of `answer_script`: the output or the refusal of a script.
use Rattle.std.proofs.Common.{◌≡◌, rules}
use Rattle.std.specs.Prelude.{Err}
use Rattle.lra_calc.specs.Script as script
use Rattle.lra_calc.specs.Views.{refusal_of}
use Rattle.lra_commands.proofs.ScriptOutcomes.{required_refused}
use Rattle.lra_commands.proofs.script_answer.answer_script.Goals as goal

pub returns-in_ok-text-in-Err-Refused : goal.returns-in_ok-text-in-Err-Refused
returns-in_ok-text-in-Err-Refused c =
    let answers : script.AnswersTo c.args.bytes.now (Err (refusal_of c.in-Err-Refused.refusal)) = search rules in
    let written : c.into_bytes.result.items ≡ script.script_refusal_text (refusal_of c.in-Err-Refused.refusal) = search rules in
    required_refused c.args.bytes.now c.into_bytes.result.items (refusal_of c.in-Err-Refused.refusal) answers written
