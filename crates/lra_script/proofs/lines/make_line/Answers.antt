-- Goals of `make_line`: the name, and what is said after it.
use Rattle.std.proofs.Common.{Bor, List, ℕ, [], ap, ◌∙◌}
use Rattle.lra_script.specs.LineForms as form
use Rattle.lra_script.specs.Views.{texts}
use Rattle.lra_script.proofs.Names.{make_unnamed, make_made, make_none, all_behind}
use Rattle.lra_script.proofs.lines.make_line.Goals as goal

abbrev nothing : Bor (List ℕ)
nothing = record { ref_ptr = (0, 0); now = [] }

pub returns-in_default-2-clause-line : goal.returns-in_default-2-clause-line
returns-in_default-2-clause-line c =
    make_unnamed c.args.word.now c.args.rest.now nothing c.in_ok-name.field-0 c.in-len1-up.len_at_least c.in_ok-name.ensures c.in_default-2.is

pub returns-in-Some-2-clause-line : goal.returns-in-Some-2-clause-line
returns-in-Some-2-clause-line c =
    make_made c.args.word.now c.args.rest.now nothing c.in_ok-name.field-0 c.in_ok-recipe.field-0 c.in-Some.name c.in-Some-2.recipe c.in-len1-up.len_at_least
    c.in_ok-name.ensures c.in-Some.is (c.in_ok-recipe.ensures.recipe ∙ ap (λ (z : List (Bor (List ℕ))). form.recipe_of c.args.word.now (texts z)) (all_behind 1 c.args.rest.now)) c.in-Some-2.is

pub returns-in-None-clause-line : goal.returns-in-None-clause-line
returns-in-None-clause-line c =
    make_none c.args.word.now c.args.rest.now nothing c.in_ok-name.field-0 c.in_ok-recipe.field-0 c.in-Some.name c.in-len1-up.len_at_least
    c.in_ok-name.ensures c.in-Some.is (c.in_ok-recipe.ensures.recipe ∙ ap (λ (z : List (Bor (List ℕ))). form.recipe_of c.args.word.now (texts z)) (all_behind 1 c.args.rest.now)) c.in-None.is
