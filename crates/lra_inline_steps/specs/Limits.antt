-- The points of a program in their order, up to the first that passes a limit.
use Rattle.std.specs.Prelude.{suc, nat_lt, if◌then◌else◌, List, [], ◌∷◌, ◌++◌, length, Result, Ok, Err, ⊤}
use Rattle.lra_inline_steps.specs.Crates.lra_base.declared.refusals.Cause.TheVariants.{TooManyVariables, TooManyPoints}
use Rattle.lra_inline_steps.specs.Crates.lra_base.declared.refusals.Refusal.{Refusal}
use Rattle.lra_inline_steps.specs.Crates.lra_resolution_spec.Refuse.{greatest_live, greatest_points}
use Rattle.lra_inline_steps.specs.Crates.lra_syntax.Labels.{Labelled, label_at, label_place, called_place}
use Rattle.lra_program.specs.Sites.{Site, Event, comes, one_call_more}
use Rattle.lra_inline_steps.specs.declared.points.InlineError.TheVariants.{Passed, Memory}
use Rattle.lra_inline_steps.specs.declared.points.Limit.TheVariants.{Variables, Points, Calls}
use Rattle.lra_inline_steps.specs.{declared.points.InlineError.InlineError, declared.points.Limit.Limit}

-- the points after some others, or the first limit passed
pub data Progress : Type 0 where
  passed : List Site → Progress
  stopped : Limit → Progress

abbrev pub add_points : List Site → List Event → Progress
add_points T [] = passed T
add_points T (comes s ∷ es) =
    if nat_lt greatest_live s.live then stopped (Variables s.label)
    else (if nat_lt greatest_points (suc (length T)) then stopped (Points s.label) else add_points (T ++ s ∷ []) es)
add_points T (one_call_more at ∷ es) = stopped (Calls at)

-- what a source with these labels is refused for
abbrev pub refusal_of : List Labelled → Limit → Refusal
refusal_of ls (Variables at) = record { cause = TooManyVariables; place = label_place (label_at ls at) }
refusal_of ls (Points at) = record { cause = TooManyPoints; place = label_place (label_at ls at) }
refusal_of ls (Calls at) = record { cause = TooManyPoints; place = called_place (label_at ls at) }

-- if a limit is passed, the property holds of it
abbrev pub OnError : InlineError → (Limit → Type 0) → Type 0
OnError (Passed x) P = P x
OnError Memory P = ⊤

abbrev pub OnLimit : {A : Type 0} → Result A InlineError → (Limit → Type 0) → Type 0
OnLimit (Ok a) P = ⊤
OnLimit (Err e) P = OnError e P
