-- Goals of `forms_are_right`: linear forms have the value of their expressions wherever it exists, and tests pass
-- exactly if their comparisons are true.
use Rattle.lra_analyse_source.proofs.Crates.lra_analysis_spec.DivisionLemmas.{seen_is_right}
use Rattle.lra_analyse_source.proofs.Crates.lra_analysis_spec.FormLemmas.{forms_are_right, tests_are_right, differs_is_right}
use Rattle.lra_analyse_source.proofs.laws.forms_are_right.Goals as goal

pub returns-clause-forms : goal.returns-clause-forms
returns-clause-forms c = forms_are_right

pub returns-clause-seen : goal.returns-clause-seen
returns-clause-seen c = seen_is_right

pub returns-clause-tests : goal.returns-clause-tests
returns-clause-tests c = tests_are_right

pub returns-clause-differs : goal.returns-clause-differs
returns-clause-differs c = differs_is_right
