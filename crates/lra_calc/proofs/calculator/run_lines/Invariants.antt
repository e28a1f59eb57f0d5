use Rattle.std.proofs.Common.{◌+◌, drop, map, None}
use Rattle.std.specs.Prelude.{option_map, IfSome}
use Rattle.lra_script.specs.{ScriptText.without_return, Views.texts}
use Rattle.lra_calc.specs.{Script.End, Script.CarriesOut, Views.session_of, Views.IsSession}
use Rattle.lra_calc.proofs.calculator.run_lines.Given as goal

abbrev pub invariant-loop-index : goal.invariant-loop-index
invariant-loop-index l = record {
  sound : IfSome l.session IsSession;
  rest : (end : End) → CarriesOut (l.index + 1) (option_map session_of l.session) (map without_return (texts (drop l.index l.lines))) end → CarriesOut 1 None (map without_return (texts l.lines)) end;
}
