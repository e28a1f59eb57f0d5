-- So far the types of the first parameters are there.
use Rattle.std.proofs.Common.{◌≡◌, map, take}
use Rattle.lra_syntax.specs.declared.trees.Parameter.{Parameter}
use Rattle.lra_resolve.proofs.functions.types_of.Given as goal

abbrev pub invariant-parameters : goal.invariant-parameters
invariant-parameters l = l.types.items ≡ map (λ (p : Parameter). p.number_type) (take l.parameter-index l.parameters)
