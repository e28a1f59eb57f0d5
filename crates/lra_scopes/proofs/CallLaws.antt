-- The faults of a call are those of the called name, then those of its arguments in their order.
use Rattle.std.proofs.{Common.◌≡◌, Common.List, Common.map, Common.length, Common.◌++◌, Common.Bool, lemmas.List.length-map, lemmas.List.Folds.flat_map-map, lemmas.Simd.map-map}
use Rattle.std.specs.List.{flat_map}
use Rattle.lra_syntax.specs.{Functions.function_named, Trees.FunctionTree, Views.expr_view, Views.call_view, declared.trees.Call.Call}
use Rattle.lra_resolution_spec.specs.{NameFaults.called_faults, NameFaults.call_faults, NameFaults.expr_faults, Resolve.resolve_expr, Scope.Scope}
use Rattle.lra_scopes.specs.Calls.{argument_faults, resolve_argument}
use Rattle.lra_scopes.proofs.FirstFaults.{tells_front, tells_behind}

pub code_call_faults : (F : List FunctionTree) (s : Scope) (c : Call) (used : Bool)
    → call_faults F s (call_view c) used
    ≡ called_faults (function_named F c.name.word) c.name (length c.arguments.items.items) used ++ flat_map (argument_faults s) c.arguments.items.items
code_call_faults F s c used =
    let n = length-map c.arguments.items.items expr_view in
    let f = flat_map-map (expr_faults s) expr_view c.arguments.items.items in
    rw (n, f)

pub code_arguments : (s : Scope) (c : Call) → map (resolve_expr s) (call_view c).arguments ≡ map (resolve_argument s) c.arguments.items.items
code_arguments s c = map-map (resolve_expr s) expr_view c.arguments.items.items

pub ruleset call_rules = (code_call_faults, code_arguments, tells_front, tells_behind)
