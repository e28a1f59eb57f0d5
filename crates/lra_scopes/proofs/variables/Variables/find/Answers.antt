-- Goals of `Variables::find`: what the newest of this name means, and how many scalars are before it.
use Rattle.std.proofs.Common.{◌≡◌, ◌∙◌, ℕ, List, Some, None, sym, ap}
use Rattle.std.specs.Prelude.{option_map, slice_get}
use Rattle.lra_program.specs.Program.{Slot}
use Rattle.lra_resolution_spec.specs.Scope.{SymbolEntry, names_in, newest, found_at, found_among}
use Rattle.lra_scopes.specs.{Variables.entries_of, Variables.placed_view, declared.variables.Placed.Placed}
use Rattle.lra_scopes.proofs.VariableLaws.{entries_named, lent_item, entry_found}
use Rattle.lra_scopes.proofs.variables.Variables.find.Goals as goal

pub returns-in-Some : goal.returns-in-Some
returns-in-Some c = λ (slot : ℕ → Slot).
    let xs = c.self.inside.names in
    let ps = c.self.inside.placed.items in
    let there : c.copied.result ≡ slice_get ps c.in-Some.place =
    c.copied.ensures ∙ lent_item c.deref.result.now c.in-Some.place c.get.result c.get.ensures.lookup
    ∙ ap (λ (qs : List Placed). slice_get qs c.in-Some.place) c.deref.ensures.value in
    let at : newest c.args.name.now (names_in (entries_of xs ps)) ≡ Some c.in-Some.place =
    ap (newest c.args.name.now) (entries_named xs ps c.self.invariant.0) ∙ sym c.newest.ensures ∙ c.in-Some.is in
    ap (option_map (placed_view slot)) there ∙ entry_found slot xs ps c.in-Some.place c.self.invariant.0 c.self.invariant.1
    ∙ ap (found_at slot (entries_of xs ps)) (sym at) ∙ ap (λ (es : List SymbolEntry). found_among slot es c.args.name.now) c.self.view_is

pub returns-in-None : goal.returns-in-None
returns-in-None c = λ (slot : ℕ → Slot).
    let xs = c.self.inside.names in
    let ps = c.self.inside.placed.items in
    let at : newest c.args.name.now (names_in (entries_of xs ps)) ≡ None =
    ap (newest c.args.name.now) (entries_named xs ps c.self.invariant.0) ∙ sym c.newest.ensures ∙ c.in-None.is in
    ap (found_at slot (entries_of xs ps)) (sym at) ∙ ap (λ (es : List SymbolEntry). found_among slot es c.args.name.now) c.self.view_is
