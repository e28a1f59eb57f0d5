-- Goals of `limited_recipe`: the names, and what is said after them.
use Rattle.std.proofs.Common.{Bor, List, ℕ, [], ap, ◌∙◌}
use Rattle.lra_script.specs.LineForms as form
use Rattle.lra_script.specs.Views.{texts}
use Rattle.lra_script.proofs.Names.{limited_first, limited_second, limited_made, limited_none, all_behind}
use Rattle.lra_script.proofs.recipes.limited_recipe.Goals as goal

abbrev nothing : Bor (List ℕ)
nothing = record { ref_ptr = (0, 0); now = [] }

pub returns-in_default-2-clause-recipe : goal.returns-in_default-2-clause-recipe
returns-in_default-2-clause-recipe c = limited_first c.args.words.now nothing c.in_ok-first.field-0 c.in-len2-up.len_at_least c.in_ok-first.ensures c.in_default-2.is

pub returns-in_default-3-clause-recipe : goal.returns-in_default-3-clause-recipe
returns-in_default-3-clause-recipe c =
    limited_second c.args.words.now nothing c.in_ok-first.field-0 c.in_ok-second.field-0 c.in-Some.first c.in-len2-up.len_at_least c.in_ok-first.ensures c.in-Some.is
    c.in_ok-second.ensures c.in_default-3.is

pub returns-in-Some-3-clause-recipe : goal.returns-in-Some-3-clause-recipe
returns-in-Some-3-clause-recipe c =
    limited_made c.args.words.now nothing c.in_ok-first.field-0 c.in_ok-second.field-0 c.in_ok-given.field-0 c.in-Some.first c.in-Some-2.second c.in-Some-3.given
    c.in-len2-up.len_at_least c.in_ok-first.ensures c.in-Some.is c.in_ok-second.ensures c.in-Some-2.is
    (c.in_ok-given.ensures ∙ ap (λ (z : List (Bor (List ℕ))). form.parts_of form.row_of (texts z)) (all_behind 2 c.args.words.now)) c.in-Some-3.is

pub returns-in-None-clause-recipe : goal.returns-in-None-clause-recipe
returns-in-None-clause-recipe c =
    limited_none c.args.words.now nothing c.in_ok-first.field-0 c.in_ok-second.field-0 c.in_ok-given.field-0 c.in-Some.first c.in-Some-2.second
    c.in-len2-up.len_at_least c.in_ok-first.ensures c.in-Some.is c.in_ok-second.ensures c.in-Some-2.is
    (c.in_ok-given.ensures ∙ ap (λ (z : List (Bor (List ℕ))). form.parts_of form.row_of (texts z)) (all_behind 2 c.args.words.now)) c.in-None.is
