-- The braces of a `switch` as the code reads them: item by item, each as what it puts before those after it.
use Rattle.std.specs.Prelude.{Bool, cond, List, [], ◌∷◌, length}
use Rattle.lra_parse_statements.specs.Crates.lra_base.declared.refusals.Cause.TheVariants.{Syntax, TooDeep}
use Rattle.lra_syntax.specs.{Trees.labelled, Trees.stated, Views.CasePart, declared.tokens.Mark.TheVariants.OpenBrace}
use Rattle.lra_syntax.specs.{declared.trees.PlacedLabel.PlacedLabel}
use Rattle.lra_parser_spec.specs.Reading.{Text, Parse, map_read, done_with}
use Rattle.lra_parser_spec.specs.{Expressions.after_mark, Statements.label_parser, Statements.LabelledTree, Tests.first}
use Rattle.lra_parser_spec.specs.{Tests.is_mark, Tests.begins_label, declared.reading.Fault.Fault}

-- labels, and the statement after them
abbrev pub label_parts : List PlacedLabel → List CasePart → List CasePart
label_parts [] parts = parts
label_parts (b ∷ bs) parts = labelled b ∷ label_parts bs parts

abbrev pub parts_of : LabelledTree → List CasePart
parts_of c = label_parts c.0 (stated c.1 ∷ [])

-- the first label, if there is one
abbrev pub first_part : Parse (List CasePart)
first_part T = cond (begins_label (first T)) (map_read (λ b. labelled b ∷ []) label_parser T) (done_with [] T)

-- the first label, if there is one, and whether there is one
abbrev pub told_part : Parse (List CasePart × Bool)
told_part T = map_read (λ parts. (parts, begins_label (first T))) first_part T

abbrev pub opened_part : Parse (List CasePart × Bool)
opened_part = after_mark OpenBrace told_part

-- the next token is at fault if braces would open a level too many
abbrev pub fault_at_braces : Text → Fault
fault_at_braces T = record { cause = cond (is_mark OpenBrace (first T)) TooDeep Syntax; left = length T }
