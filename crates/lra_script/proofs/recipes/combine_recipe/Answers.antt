-- Goals of `combine_recipe`: two words, names or not.
use Rattle.std.proofs.Common.{Bor, List, ℕ, [], refl}
use Rattle.lra_script.specs.LineForms as form
use Rattle.lra_script.proofs.Names.{pair_first, pair_second, pair_said}
use Rattle.lra_script.proofs.recipes.combine_recipe.Goals as goal

abbrev nothing : Bor (List ℕ)
nothing = record { ref_ptr = (0, 0); now = [] }

pub returns-in_default-2-clause-recipe : goal.returns-in_default-2-clause-recipe
returns-in_default-2-clause-recipe c =
    pair_first (form.combine_recipe c.args.how) (form.Combine c.args.how) (λ x y. refl) c.args.words.now nothing c.in_ok-first.field-0
    c.in-len2.len_at_least c.in-len2.len_below c.in_ok-first.ensures c.in_default-2.is

pub returns-in_default-3-clause-recipe : goal.returns-in_default-3-clause-recipe
returns-in_default-3-clause-recipe c =
    pair_second (form.combine_recipe c.args.how) (form.Combine c.args.how) (λ x y. refl) c.args.words.now nothing c.in_ok-first.field-0 c.in_ok-second.field-0 c.in-Some.first
    c.in-len2.len_at_least c.in-len2.len_below c.in_ok-first.ensures c.in-Some.is c.in_ok-second.ensures c.in_default-3.is

pub returns-clause-recipe : goal.returns-clause-recipe
returns-clause-recipe c =
    pair_said (form.combine_recipe c.args.how) (form.Combine c.args.how) (λ x y. refl) c.args.words.now nothing c.in_ok-first.field-0 c.in_ok-second.field-0 c.in-Some.first c.in-Some-2.second
    c.in-len2.len_at_least c.in-len2.len_below c.in_ok-first.ensures c.in-Some.is c.in_ok-second.ensures c.in-Some-2.is
