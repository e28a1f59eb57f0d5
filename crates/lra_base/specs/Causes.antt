-- The number and the name of a cause of refusal, as they are written.
use Rattle.std.specs.Prelude.{ℕ, List, codes}
use Rattle.lra_base.specs.declared.refusals.Cause.{Cause}
use Rattle.lra_base.specs.declared.refusals.Cause.TheVariants.{TooLong, BadByte, BadLiteral, Syntax, TooDeep, NoMain}
use Rattle.lra_base.specs.declared.refusals.Cause.TheVariants.{UnknownName, DuplicateName, BadCall, Misplaced}
use Rattle.lra_base.specs.declared.refusals.Cause.TheVariants.{Recursive, TooManyVariables, TooManyPoints}
use Rattle.lra_base.specs.declared.refusals.Cause.TheVariants.{DuplicateCase, BadLength, NotArray, NoThreads}

abbrev pub cause_number : Cause → ℕ
cause_number TooLong = 1
cause_number BadByte = 2
cause_number BadLiteral = 3
cause_number Syntax = 4
cause_number TooDeep = 5
cause_number NoMain = 6
cause_number UnknownName = 7
cause_number DuplicateName = 8
cause_number BadCall = 9
cause_number Misplaced = 10
cause_number Recursive = 11
cause_number TooManyVariables = 12
cause_number TooManyPoints = 13
cause_number DuplicateCase = 14
cause_number BadLength = 15
cause_number NotArray = 16
cause_number NoThreads = 17

abbrev pub cause_name : Cause → List ℕ
cause_name TooLong = codes "TooLong"
cause_name BadByte = codes "BadByte"
cause_name BadLiteral = codes "BadLiteral"
cause_name Syntax = codes "Syntax"
cause_name TooDeep = codes "TooDeep"
cause_name NoMain = codes "NoMain"
cause_name UnknownName = codes "UnknownName"
cause_name DuplicateName = codes "DuplicateName"
cause_name BadCall = codes "BadCall"
cause_name Misplaced = codes "Misplaced"
cause_name Recursive = codes "Recursive"
cause_name TooManyVariables = codes "TooManyVariables"
cause_name TooManyPoints = codes "TooManyPoints"
cause_name DuplicateCase = codes "DuplicateCase"
cause_name BadLength = codes "BadLength"
cause_name NotArray = codes "NotArray"
cause_name NoThreads = codes "NoThreads"
