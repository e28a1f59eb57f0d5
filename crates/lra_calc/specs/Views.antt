-- What the values of the code stand for.
use Rattle.std.specs.Prelude.{◌≡◌, ◌≤◌, ◌<◌, ℕ, ◌+◌, pos, ◌<ℤ◌, Bool, true, false, List, ◌∷◌, Option, Some, None}
use Rattle.std.specs.Prelude.{option_map, Result, Ok, Err, Vec, IfSome, string_bytes}
use Rattle.std.specs.{BTreeMap.get_by_text, declared.alloc.Global.Global}
use Rattle.lra_calc.specs.Crates.{lra_duality.declared.inclusion.Inclusion.Inclusion}
use Rattle.lra_calc.specs.Crates.{lra_duality.declared.maximum.Maximum.Maximum, lra_linear_spec.Polyhedra.Polyhedron}
use Rattle.lra_calc.specs.Crates.{lra_poly.declared.outcome.Outcome.Outcome}
use Rattle.lra_calc.specs.Crates.lra_systems.declared.membership.MembershipAnswer as H
use Rattle.lra_calc.specs.Crates.lra_systems.declared.membership.MembershipAnswer.TheVariants as holds
use Rattle.lra_calc.specs.Crates.lra_poly.declared.outcome.Outcome.TheVariants as outcome
use Rattle.lra_calc.specs.Crates.lra_duality.declared.inclusion.Inclusion.TheVariants as inclusion
use Rattle.lra_calc.specs.Crates.lra_duality.declared.maximum.Maximum.TheVariants as maximum
use Rattle.lra_poly_widening.specs.declared.error.WidenError.{WidenError}
use Rattle.lra_poly_widening.specs.declared.error.WidenError.TheVariants as widen_error
use Rattle.lra_script.specs.LineForms.{greatest_dims}
use Rattle.lra_calc.specs.ShownSets.{generator_at}
use Rattle.lra_calc.specs.{declared.refusal.CalcError.CalcError, declared.refusal.LineError.LineError}
use Rattle.lra_calc.specs.Script as script
use Rattle.lra_calc.specs.declared.making.Made as making
use Rattle.lra_calc.specs.declared.answering.Answer as answering
use Rattle.lra_calc.specs.declared.refusal.Fault as F
use Rattle.lra_calc.specs.declared.refusal.Fault.TheVariants as fault
use Rattle.lra_calc.specs.declared.refusal.CalcRefusal as R
use Rattle.lra_calc.specs.declared.refusal.CalcRefusal.TheVariants as refusal
use Rattle.lra_calc.specs.declared.refusal.LineError.TheVariants as line_error
use Rattle.lra_calc.specs.declared.refusal.CalcError.TheVariants as calc_error
use Rattle.lra_calc.specs.declared.session.Session as S

-- recipes and questions --------------------------------------------------------------------------------------------

abbrev pub is_flagged : Outcome → Bool
is_flagged outcome.Exact = false
is_flagged (outcome.Flagged loss) = true

abbrev pub made_of : making.Made → script.Made
made_of m = record { flagged = m.is_flagged; polyhedron = m.polyhedron }

abbrev pub answer_of : answering.Answer → script.Answer
answer_of a = record { text = string_bytes a.text; wide = a.is_wide }

-- yes, no, or wide
abbrev pub answered : H.MembershipAnswer → Option Bool
answered holds.Yes = Some true
answered (holds.No place) = Some false
answered (holds.Wide place) = None

-- a generator that is reported is one of so many
abbrev pub IsPlacedInclusion : ℕ → Inclusion → Type 0
IsPlacedInclusion count inclusion.Yes = Unit {0}
IsPlacedInclusion count (inclusion.No place) = place < count
IsPlacedInclusion count (inclusion.Wide place row) = Unit {0}

abbrev pub IsPlacedMaximum : ℕ → Maximum → Type 0
IsPlacedMaximum count maximum.Empty = Unit {0}
IsPlacedMaximum count (maximum.Wide place) = Unit {0}
IsPlacedMaximum count (maximum.Unbounded place) = place < count
IsPlacedMaximum count (maximum.At num den place) = (place < count) × (pos 0 <ℤ den)

abbrev pub IsPlacedRefusal : ℕ → WidenError → Type 0
IsPlacedRefusal count (widen_error.NotIncluded place) = place < count
IsPlacedRefusal count widen_error.Memory = Unit {0}

-- sessions ---------------------------------------------------------------------------------------------------------

abbrev pub session_of : S.Session → script.Session
session_of s = record {
  dims = s.dims;
  made = get_by_text s.made;
  printed = string_bytes s.printed;
  flagged = s.flagged;
}

-- few dimensions, and each name stands for a polyhedron of so many
pub record IsSession (s : S.Session) : Type 0 where
  pub few : s.dims ≤ greatest_dims
  pub fit : (name : List ℕ) → IfSome (get_by_text s.made name) (λ p. p.dims ≡ s.dims)

-- answers ----------------------------------------------------------------------------------------------------------

abbrev pub fault_of : F.Fault → script.Fault
fault_of fault.BadLine = script.BadLine
fault_of (fault.UnknownName name) = script.UnknownName (string_bytes name)
fault_of (fault.WrongDimension count needed) = script.WrongDimension count needed
fault_of (fault.NotIncluded generator) = script.NotIncluded (string_bytes generator)

-- refused, since no set was made under the name; running out of memory says nothing
abbrev pub IsUnknown : List ℕ → Option Polyhedron → LineError → Type 0
IsUnknown name set (line_error.Refused f) = (set ≡ None) × (fault_of f ≡ script.UnknownName name)
IsUnknown name set line_error.Memory = Unit {0}

-- refused with the generator that is outside; running out of memory says nothing
abbrev pub NamesOutside : Polyhedron → WidenError → LineError → Type 0
NamesOutside p (widen_error.NotIncluded place) (line_error.Refused f) =
    fault_of f ≡ script.NotIncluded (generator_at p place)
NamesOutside p widen_error.Memory (line_error.Refused f) = ⊥
NamesOutside p error line_error.Memory = Unit {0}

-- the answer is one that the definition allows; running out of memory says nothing
abbrev pub Gives : {A B : Type 0} → (A → B) → Result A LineError → (Result B script.Fault → Type 0) → Type 0
Gives view (Ok a) Told = Told (Ok (view a))
Gives view (Err (line_error.Refused f)) Told = Told (Err (fault_of f))
Gives view (Err line_error.Memory) Told = Unit {0}

abbrev pub refusal_of : R.CalcRefusal → script.Refusal
refusal_of (refusal.TooLong place) = script.TooLong place
refusal_of (refusal.Line number f) = script.AtLine (record { number = number; fault = fault_of f })

-- a line of this number, before any others, leaves this session for them, or is the one that is refused
abbrev pub StepsTo : ℕ → Option S.Session → List ℕ → Result (Option S.Session) CalcError → Type 0
StepsTo number s line (Ok t) =
    (rest : List (List ℕ)) (end : script.End) → script.CarriesOut (number + 1) (option_map session_of t) rest end
    → script.CarriesOut number (option_map session_of s) (line ∷ rest) end
StepsTo number s line (Err (calc_error.Refused (refusal.Line at f))) =
    (rest : List (List ℕ)) → (before : Option script.Session)
    × script.CarriesOut number (option_map session_of s) (line ∷ rest) (Err (script.stopped at before (fault_of f)))
StepsTo number s line (Err (calc_error.Refused (refusal.TooLong place))) = ⊥
StepsTo number s line (Err calc_error.Memory) = Unit {0}

-- all lines leave this session, or the one reported is refused
abbrev pub Ends : Result (Option S.Session) CalcError → (script.End → Type 0) → Type 0
Ends (Ok t) Told = Told (Ok (option_map session_of t))
Ends (Err (calc_error.Refused (refusal.Line at f))) Told =
    (before : Option script.Session) × Told (Err (script.stopped at before (fault_of f)))
Ends (Err (calc_error.Refused (refusal.TooLong place))) Told = ⊥
Ends (Err calc_error.Memory) Told = Unit {0}

-- the output is one of those reported, or the refusal
abbrev pub Answers : Result (Vec ℕ Global) CalcError → (Result (List ℕ) script.Refusal → Type 0) → Type 0
Answers (Ok output) Told = Told (Ok output.items)
Answers (Err (calc_error.Refused r)) Told = Told (Err (refusal_of r))
Answers (Err calc_error.Memory) Told = Unit {0}
