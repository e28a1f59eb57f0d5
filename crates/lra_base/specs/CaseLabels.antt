-- The labels of a `switch`, and after which of them it goes on (ISO/IEC 9899:2011, 6.8.1, 6.8.4.2). Values are compared
-- as whole numbers: none is converted.
use Rattle.std.specs.Prelude.{ℤ, Bool, true, false, if◌then◌else◌, List}
use Rattle.std.specs.{List.list_any, Ordering.int_eq}
use Rattle.lra_base.specs.declared.case_labels.CaseLabel.{CaseLabel}
use Rattle.lra_base.specs.declared.case_labels.CaseLabel.TheVariants.{Case, Default}

-- they name one value, or both are `default`
abbrev pub is_same_case : CaseLabel → CaseLabel → Bool
is_same_case (Case y) (Case z) = int_eq y z
is_same_case (Case y) Default = false
is_same_case Default (Case z) = false
is_same_case Default Default = true

-- after the label that names the value, wherever it stands; if none does, after `default`
abbrev pub goal_of : ℤ → List CaseLabel → CaseLabel
goal_of z labels = if list_any (is_same_case (Case z)) labels then Case z else Default
