-- Goals of `include_question`: two words, names or not.
use Rattle.std.proofs.Common.{Bor, List, ℕ, [], refl}
use Rattle.lra_script.specs.LineForms as form
use Rattle.lra_script.proofs.Names.{pair_first, pair_second, pair_said}
use Rattle.lra_script.proofs.questions.include_question.Goals as goal

abbrev nothing : Bor (List ℕ)
nothing = record { ref_ptr = (0, 0); now = [] }

pub returns-in_default-2-clause-question : goal.returns-in_default-2-clause-question
returns-in_default-2-clause-question c =
    pair_first form.include_question form.Include (λ x y. refl) c.args.words.now nothing c.in_ok-first.field-0 c.in-len2.len_at_least c.in-len2.len_below c.in_ok-first.ensures c.in_default-2.is

pub returns-in_default-3-clause-question : goal.returns-in_default-3-clause-question
returns-in_default-3-clause-question c =
    pair_second form.include_question form.Include (λ x y. refl) c.args.words.now nothing c.in_ok-first.field-0 c.in_ok-second.field-0 c.in-Some.first
    c.in-len2.len_at_least c.in-len2.len_below c.in_ok-first.ensures c.in-Some.is c.in_ok-second.ensures c.in_default-3.is

pub returns-clause-question : goal.returns-clause-question
returns-clause-question c =
    pair_said form.include_question form.Include (λ x y. refl) c.args.words.now nothing c.in_ok-first.field-0 c.in_ok-second.field-0 c.in-Some.first c.in-Some-2.second
    c.in-len2.len_at_least c.in-len2.len_below c.in_ok-first.ensures c.in-Some.is c.in_ok-second.ensures c.in-Some-2.is
