-- Declarators one by one.
use Rattle.std.proofs.{Common.◌≡◌, Common.ℕ, Common.suc, Common.List, Common.[], Common.◌∷◌, Common.◌++◌, Common.map, Common.refl, Common.sym, Common.ap, Common.◌∙◌, lemmas.List.map-append}
use Rattle.lra_base.specs.declared.number_types.NumberType.{NumberType}
use Rattle.lra_program.specs.{ProgramViews.item_view, declared.program.BlockItem.BlockItem}
use Rattle.lra_syntax.specs.Trees.{FunctionTree, DeclaratorTree}
use Rattle.lra_program.specs.Program as program
use Rattle.lra_resolve_simple.specs.Crates.lra_resolution_spec.Scope.{Scope, with_local, declarator_entry}
use Rattle.lra_resolve_simple.specs.Crates.{lra_resolution_spec.NameFaults.declarators_faults, lra_resolution_spec.Resolve.resolve_declared, lra_resolution_spec.Resolve.resolve_declarators}
use Rattle.lra_resolve_simple.specs.Statements.{declarator_faults, followed}
use Rattle.lra_scopes.proofs.FirstFaults.{tells_front, tells_behind}

pub followed_push : (fs : List (program.BlockItems → program.BlockItems)) (f : program.BlockItems → program.BlockItems) (items : program.BlockItems)
    → followed (fs ++ f ∷ []) items ≡ followed fs (f items)
followed_push [] f items = refl
followed_push (g ∷ gs) f items = ap g (followed_push gs f items)

pub declarators_split : (F : List FunctionTree) (s : Scope) (t : NumberType) (d : DeclaratorTree) (ds : List DeclaratorTree)
    → declarators_faults F s t (d ∷ ds) ≡ declarator_faults F s t d ++ declarators_faults F (with_local s (declarator_entry t d)) t ds
declarators_split F s t d ds = refl

pub declarator_found : (F : List FunctionTree) (s s' : Scope) (n n' : ℕ) (t : NumberType) (d : DeclaratorTree) (r : BlockItem) (old new : List BlockItem)
    → new ≡ old ++ r ∷ [] → ((items : program.BlockItems) → item_view r items ≡ resolve_declared F (with_local s (declarator_entry t d)) n t d.name d.shape items)
    → s' ≡ with_local s (declarator_entry t d) → n' ≡ suc n → (rest : List DeclaratorTree) (more : program.BlockItems)
    → followed (map item_view old) (resolve_declarators F s n t (d ∷ rest) more) ≡ followed (map item_view new) (resolve_declarators F s' n' t rest more)
declarator_found F s s' n n' t d r old new is e scope next rest more =
    let behind = resolve_declarators F (with_local s (declarator_entry t d)) (suc n) t rest more in
    rw (is, map-append item_view old (r ∷ []), scope, next)
    (ap (followed (map item_view old)) (sym (e behind)) ∙ sym (followed_push (map item_view old) (item_view r) behind))

pub ruleset declarator_rules = (followed_push, declarators_split, tells_front, tells_behind)
