-- Goals of `next_item`: the next of some items, or all of them in a row.
use Rattle.std.proofs.{Common.rules, Common.◌≡◌, Common.[], Common.◌∷◌, Common.map, Common.refl, Common.ap, Common.◌∙◌, lemmas.List.nil_from_length}
use Rattle.lra_program.specs.Program.{no_more, declaration, array, statement}
use Rattle.lra_program.specs.ProgramViews.{declarator_view, stmt_view, item_view, items_of}
use Rattle.lra_inline_steps.proofs.ItemRows.{items_last, items_end, declaration_next, array_next, statement_next}
use Rattle.lra_inline_steps.proofs.{OpenFrames.closed_ok, Shown.shown_declaration, Shown.shown_array, Shown.shown_statement}
use Rattle.lra_inline.proofs.inlining.parts.next_item.Goals as goal

pub returns-in_default-clause-leads : goal.returns-in_default-clause-leads
returns-in_default-clause-leads c =
    let rest : c.args.rest.now ≡ [] = nil_from_length c.args.rest.now c.in_default.ensures.cases in
    let none : items_of (map item_view c.args.rest.now) ≡ no_more = ap (λ z. items_of (map item_view z)) rest in
    λ P path S V all loop. closed_ok P c.close.result _ _ c.put_in_a_row.result c.args.live c.close.ensures.written c.put_in_a_row.ensures
    (λ g a. ((rw a (items_end P path c.args.frame S all _ _ c.args.live V loop none), items_last P path c.args.frame S all _ _ c.args.live V loop none), refl))

pub returns-in-Declaration-clause-leads : goal.returns-in-Declaration-clause-leads
returns-in-Declaration-clause-leads c = λ P path S V all loop.
    let others = items_of (map item_view c.in-Some.behind.now) in
    let d = declarator_view c.in-Declaration.declarator in
    let split : c.args.rest.now ≡ c.in-Some.item.now ∷ c.in-Some.behind.now = search rules in
    let is : items_of (map item_view c.args.rest.now) ≡ declaration d others = ap (λ z. items_of (map item_view z)) split ∙ ap (λ z. item_view z others) c.in-Declaration.is
    ∙ shown_declaration c.in-Declaration.declarator others in
    declaration_next P path c.args.frame S all (record { parts = c.args.parts; rest = c.in-Some.behind }) _ c.args.live V loop d is

pub returns-in-Array-clause-leads : goal.returns-in-Array-clause-leads
returns-in-Array-clause-leads c = λ P path S V all loop.
    let others = items_of (map item_view c.in-Some.behind.now) in
    let at = c.in-Array.label in
    let a = c.in-Array.array in
    let split : c.args.rest.now ≡ c.in-Some.item.now ∷ c.in-Some.behind.now = search rules in
    let is : items_of (map item_view c.args.rest.now) ≡ array at a others = ap (λ z. items_of (map item_view z)) split
    ∙ ap (λ z. item_view z others) c.in-Array.is ∙ shown_array at a others in
    array_next P path c.args.frame S all (record { parts = c.args.parts; rest = c.in-Some.behind }) _ c.args.live V loop at a is

pub returns-in-Statement-clause-leads : goal.returns-in-Statement-clause-leads
returns-in-Statement-clause-leads c = λ P path S V all loop.
    let others = items_of (map item_view c.in-Some.behind.now) in
    let s = stmt_view c.in-Statement.stmt in
    let split : c.args.rest.now ≡ c.in-Some.item.now ∷ c.in-Some.behind.now = search rules in
    let is : items_of (map item_view c.args.rest.now) ≡ statement s others = ap (λ z. items_of (map item_view z)) split ∙ ap (λ z. item_view z others) c.in-Statement.is
    ∙ shown_statement c.in-Statement.stmt others in
    statement_next P path c.args.frame S all (record { parts = c.args.parts; rest = c.in-Some.behind }) _ c.args.live V loop s is
