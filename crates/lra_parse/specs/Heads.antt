-- What a function has before its body, as the code has it.
use Rattle.std.specs.Prelude.{List}
use Rattle.lra_syntax.specs.declared.trees.Parameter.{Parameter}
use Rattle.lra_parser_spec.specs.Files.{Heading}
use Rattle.lra_parse.specs.declared.functions.Signature.{Signature}

abbrev pub signature_view : Signature → Heading × List Parameter
signature_view s = ((s.result_type, s.name), s.parameters.items.items)
