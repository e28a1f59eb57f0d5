-- Goals of `Functions::find`: the first function of this name.
use Rattle.std.proofs.Common.{List, ap, ◌∙◌}
use Rattle.std.specs.Prelude.{option_map}
use Rattle.indexmap.specs.IndexMap.{get_by_text}
use Rattle.lra_syntax.specs.{Functions.function_named, declared.trees.ExternalDeclaration.ExternalDeclaration}
use Rattle.lra_resolution_spec.specs.Resolve.{function_place}
use Rattle.lra_scopes.specs.{Calls.functions_at, Signatures.signature_at}
use Rattle.lra_scopes.proofs.SignatureLaws.{first_is}
use Rattle.lra_scopes.proofs.signatures.Functions.find.Goals as goal

pub returns : goal.returns
returns c =
    let name = c.args.name.now in
    c.copied.ensures ∙ c.get.ensures.value ∙ ap (get_by_text c.self.inside.signatures) c.as_str.ensures
    ∙ c.self.invariant name ∙ first_is name (functions_at c.self.inside.parts.now)
    ∙ ap (λ (parts : List ExternalDeclaration). option_map (signature_at (function_place (functions_at parts) name)) (function_named (functions_at parts) name))
    c.self.view_is
