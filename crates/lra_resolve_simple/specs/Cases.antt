-- The list of a `switch`, as far as it is resolved.
use Rattle.std.specs.Prelude.{◌≡◌, Bool, List, [], ◌∷◌}
use Rattle.std.specs.{BTreeSet.contains, List.list_any, Ordering.int_cmp}
use Rattle.lra_base.specs.declared.case_labels.CaseLabel.TheVariants.{Case, Default}
use Rattle.lra_base.specs.{CaseLabels.is_same_case, declared.case_labels.CaseLabel.CaseLabel}
use Rattle.lra_program.specs.Program as program
use Rattle.lra_program.specs.ProgramViews.{CasePart}
use Rattle.lra_resolve_simple.specs.declared.cases.CaseList.{CaseList}

-- a label like it is among those so far
abbrev pub has_seen : CaseList → CaseLabel → Bool
has_seen c (Case v) = contains int_cmp c.values v
has_seen c Default = c.has_default

-- the labels so far are these
abbrev pub HasSeen : CaseList → List CaseLabel → Type 0
HasSeen c labels = (l : CaseLabel) → has_seen c l ≡ list_any (is_same_case l) labels

-- some parts, each of which is what it puts before those after it, before others
abbrev pub before_cases : List CasePart → program.Cases → program.Cases
before_cases [] cs = cs
before_cases (f ∷ fs) cs = f (before_cases fs cs)
