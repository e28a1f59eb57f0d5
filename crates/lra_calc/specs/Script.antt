-- What a script may write: its lines are carried out one after the other, and the first that is refused is answered in
-- place of all. A line that makes a set makes its canonical lists, so that what is shown depends on the set alone. Only
-- if what it gives exceeds a limit may it make those of a larger set; then it is flagged. So a script that isn't
-- flagged has one answer.
use Rattle.std.specs.Prelude.{◌≡◌, ◌+◌, ℕ, suc, ℤ, pos, negsuc, Bool, true, false, ◌&&◌, nat_eq, nat_lt, nat_le, List}
use Rattle.std.specs.Prelude.{[], ◌∷◌, ◌++◌, length, take, map, codes, bytes_eq, if◌then◌else◌, Option, Some, None}
use Rattle.std.specs.{Fmt.decimal, List.All, Map.update, Prelude.Result, Prelude.Ok, Prelude.Err}
use Rattle.lra_calc.specs.Crates.lra_duality.Inclusions.{IsInclusion}
use Rattle.lra_calc.specs.Crates.lra_linear_spec.CheckedArithmetic.{checked_product}
use Rattle.lra_calc.specs.Crates.lra_linear_spec.Descriptions.{LinearRow, Con as points_of}
use Rattle.lra_calc.specs.Crates.lra_systems.Membership.{HoldsInRange, IsWide}
use Rattle.lra_calc.specs.Crates.{lra_duality.Maxima.IsMaximum, lra_duality.declared.inclusion.Inclusion.Inclusion}
use Rattle.lra_calc.specs.Crates.{lra_linear_spec.Polyhedra.Polyhedron, lra_linear_spec.declared.Excess.Excess}
use Rattle.lra_calc.specs.Crates.{lra_linear_spec.declared.GenKind.GenKind, lra_systems.FirstPlaces.FirstAt}
use Rattle.lra_calc.specs.Crates.lra_linear_spec.declared.GenKind.TheVariants as gen
use Rattle.lra_calc.specs.Crates.lra_duality.declared.inclusion.Inclusion.TheVariants as inclusion
use Rattle.lra_base.specs.{Places.place_after, Places.greatest_length, declared.refusals.Place.Place}
use Rattle.lra_row_text.specs.Texts.{text_line}
use Rattle.lra_script.specs.LineForms.{Generator, row_of_generator, line_of, Line, Dims, Make, Ask, Recipe, Con, Gen}
use Rattle.lra_script.specs.LineForms.{Combine, Widen, Limited, Map, Forget, Question, Show, Holds, Include, Maximise}
use Rattle.lra_script.specs.ScriptText.{lines, is_skipped, words}
use Rattle.lra_calc.specs.MadeSets.{IsMadeOfRows, IsMadeOfGenerators, IsCombined, IsMapped, IsForgotten, IsWidened}
use Rattle.lra_calc.specs.ShownSets.{show_text, holds_text, include_text, is_wide_inclusion, maximise_text}
use Rattle.lra_calc.specs.{MadeSets.IsLimited, MadeSets.IsAllFlagged, ShownSets.is_wide_maximum, ShownSets.generator_at}

-- why a line is refused
pub data Fault : Type 0 where
  -- it is no line of the format, or the first is no `dims`, or a later one is
  BadLine : Fault
  -- this name was not made before it
  UnknownName : List ℕ → Fault
  -- a vector with so many numbers if so many are needed
  WrongDimension : ℕ → ℕ → Fault
  -- what is to be widened isn't in the other set; the text of its first generator outside
  NotIncluded : List ℕ → Fault

-- after `dims`: what each name stands for, if it was made; what was printed, and the first line that was flagged
pub record Session : Type 0 where
  pub dims : ℕ
  pub made : List ℕ → Option Polyhedron
  pub printed : List ℕ
  pub flagged : Option ℕ

abbrev pub started : ℕ → Session
started n = record { dims = n; made = λ name. None; printed = []; flagged = None }

-- the first flag stays
abbrev pub flagged_by : ℕ → Bool → Option ℕ → Option ℕ
flagged_by number false flag = flag
flagged_by number true (Some first) = Some first
flagged_by number true None = Some number

-- names and numbers ---------------------------------------------------------------------------------------------

-- refused if there is a fault
abbrev pub Unless : {A : Type 0} → Option Fault → (Result A Fault → Type 0) → Result A Fault → Type 0
Unless (Some fault) Told result = result ≡ Err fault
Unless None Told result = Told result

-- what is reported about the set that the name stands for; refused if none was made
abbrev pub WithSet : {A : Type 0} → List ℕ → Option Polyhedron → (Polyhedron → Result A Fault → Type 0)
    → Result A Fault → Type 0
WithSet name None Told result = result ≡ Err (UnknownName name)
WithSet name (Some p) Told result = Told p result

-- a vector with so many numbers, if so many are needed; or the fault of a later one
abbrev pub width_or : ℕ → ℕ → Option Fault → Option Fault
width_or count needed later = if nat_eq count needed then later else Some (WrongDimension count needed)

abbrev pub wrong_width : ℕ → ℕ → Option Fault
wrong_width count needed = width_or count needed None

-- the first row that has not as many numbers as are needed
abbrev pub wrong_row : ℕ → List LinearRow → Option Fault
wrong_row n [] = None
wrong_row n (g ∷ gs) = width_or (length g.row) (suc n) (wrong_row n gs)

-- how many numbers a generator has in n dimensions
abbrev pub numbers_needed : ℕ → GenKind → ℕ
numbers_needed n gen.Point = suc n
numbers_needed n gen.Ray = n
numbers_needed n gen.Line = n

-- the first generator that has not as many numbers as its kind needs
abbrev pub wrong_generator : ℕ → List Generator → Option Fault
wrong_generator n [] = None
wrong_generator n (g ∷ gs) = width_or (length g.numbers) (numbers_needed n g.kind) (wrong_generator n gs)

-- coordinates are numbered from 1 to n
abbrev pub wrong_coordinate : ℕ → ℕ → Option Fault
wrong_coordinate n k = if nat_le 1 k && nat_le k n then None else Some BadLine

-- recipes ----------------------------------------------------------------------------------------------------------

-- a set, and whether the line is flagged for it
pub record Made : Type 0 where
  pub flagged : Bool
  pub polyhedron : Polyhedron

-- made as stated
abbrev pub MakesSet : (Bool → Polyhedron → Type 0) → Result Made Fault → Type 0
MakesSet Told (Ok made) = Told made.flagged made.polyhedron
MakesSet Told (Err fault) = ⊥

-- of P widened by Q: what is reported, if P is in Q; else refused with the first generator of P outside Q; all
-- points, flagged, if a product passes before that is known
abbrev pub WidenedBy : ℕ → Polyhedron → (Bool → Polyhedron → Type 0) → Inclusion → Result Made Fault → Type 0
WidenedBy n p Told inclusion.Yes result = MakesSet Told result
WidenedBy n p Told (inclusion.No place) result = result ≡ Err (NotIncluded (generator_at p place))
WidenedBy n p Told (inclusion.Wide place row) result = MakesSet (IsAllFlagged n) result

pub record Widens (n : ℕ) (p q : Polyhedron) (Told : Bool → Polyhedron → Type 0)
    (result : Result Made Fault) : Type 0 where
  pub answer : Inclusion
  pub is_right : IsInclusion q.rows p.generators answer
  pub gives : WidenedBy n p Told answer result

-- what a recipe makes, or why it is refused
abbrev pub MadeBy : Session → Recipe → Result Made Fault → Type 0
MadeBy s (Con rows) = Unless (wrong_row s.dims rows) (MakesSet (IsMadeOfRows s.dims rows))
MadeBy s (Gen generators) =
    Unless (wrong_generator s.dims generators) (MakesSet (IsMadeOfGenerators s.dims (map row_of_generator generators)))
MadeBy s (Combine how first second) =
    WithSet first (s.made first) (λ p. WithSet second (s.made second) (λ q. MakesSet (IsCombined how s.dims p q)))
MadeBy s (Widen first second) =
    WithSet first (s.made first) (λ p. WithSet second (s.made second) (λ q.
    Widens s.dims p q (IsWidened s.dims p q)))
MadeBy s (Limited first second given) =
    WithSet first (s.made first) (λ p. WithSet second (s.made second) (λ q.
    Unless (wrong_row s.dims given) (Widens s.dims p q (IsLimited s.dims given p q))))
MadeBy s (Map how from k form) =
    Unless (wrong_coordinate s.dims k) (WithSet from (s.made from) (λ p.
    Unless (wrong_width (length form) (suc s.dims)) (MakesSet (IsMapped how s.dims k form p))))
MadeBy s (Forget from k) =
    Unless (wrong_coordinate s.dims k) (WithSet from (s.made from) (λ p. MakesSet (IsForgotten s.dims k p)))

-- questions --------------------------------------------------------------------------------------------------------

-- a text, and whether the line is flagged for it
pub record Answer : Type 0 where
  pub text : List ℕ
  pub wide : Bool

-- the text of an answer that is right, flagged if it is a wide one
pub record Answers {A : Type 0} (IsRight : A → Type 0) (text : A → List ℕ) (is_wide : A → Bool)
    (result : Result Answer Fault) : Type 0 where
  pub answer : A
  pub is_right : IsRight answer
  pub is : result ≡ Ok (record { text = text answer; wide = is_wide answer })

-- holds: whether a constraint's product with a point is as it asks
abbrev pub is_met : Bool → ℤ → Bool
is_met equal (negsuc n) = false
is_met true (pos n) = nat_eq n 0
is_met false (pos n) = true

abbrev pub decided : Bool → Result ℤ Excess → Option Bool → Option Bool
decided equal (Err e) later = None
decided equal (Ok p) later = if is_met equal p then later else Some false

-- whether the point is in the set of points with these constraints, tried in order; none if the product with one
-- passes the range before an answer is found
abbrev pub membership : List LinearRow → List ℤ → Option Bool
membership [] x = Some true
membership (g ∷ gs) x = decided g.equal (checked_product g.row x) (membership gs x)

-- of the constraints, tried in order, the first that doesn't hold in the range is one whose product with the point
-- passes it: a product of two entries or a partial sum does, columns from 0 up
abbrev pub PassesFirst : List LinearRow → List ℤ → Type 0
PassesFirst rows x = (place : ℕ) × FirstAt (HoldsInRange x) (IsWide x) rows place

-- what the answer says of the set of points with these constraints; it is wide exactly if their products with the
-- point pass
abbrev pub IsMembershipAnswer : List LinearRow → List ℤ → Option Bool → Type 0
IsMembershipAnswer rows x (Some true) = points_of rows x × (¬ (PassesFirst rows x))
IsMembershipAnswer rows x (Some false) = (¬ (points_of rows x)) × (¬ (PassesFirst rows x))
IsMembershipAnswer rows x None = PassesFirst rows x

abbrev pub is_none : Option Bool → Bool
is_none (Some answer) = false
is_none None = true

abbrev pub shown : List ℕ → Polyhedron → Answer
shown name p = record { text = show_text name p; wide = false }

-- the canonical constraints decide
abbrev pub held : List ℕ → List ℤ → Polyhedron → Answer
held name x p = let answer = membership p.rows x in record { text = holds_text name answer; wide = is_none answer }

-- what is answered, or why the question is refused
abbrev pub AnswerTo : Session → Question → Result Answer Fault → Type 0
AnswerTo s (Show name) = WithSet name (s.made name) (λ p result. result ≡ Ok (shown name p))
AnswerTo s (Holds name x) =
    WithSet name (s.made name) (λ p. Unless (wrong_width (length x) (suc s.dims))
    (λ result. result ≡ Ok (held name x p)))
AnswerTo s (Include first second) =
    WithSet first (s.made first) (λ p. WithSet second (s.made second) (λ q.
    Answers (IsInclusion q.rows p.generators) (include_text first second p) is_wide_inclusion))
AnswerTo s (Maximise name form) =
    WithSet name (s.made name) (λ p. Unless (wrong_width (length form) (suc s.dims))
    (Answers (IsMaximum form p.generators) (maximise_text name p) is_wide_maximum))

-- lines ------------------------------------------------------------------------------------------------------------

-- the name stands for it from now on
abbrev pub made_as : ℕ → List ℕ → Made → Session → Session
made_as number name m s = record s {
  made = update bytes_eq s.made name (Some m.polyhedron);
  flagged = flagged_by number m.flagged s.flagged;
}

-- the text follows what was printed
abbrev pub printed_by : ℕ → Answer → Session → Session
printed_by number a s = record s {
  printed = s.printed ++ a.text;
  flagged = flagged_by number a.wide s.flagged;
}

-- what comes after a line that gave this, or why it is refused
abbrev pub session_after : {A : Type 0} → (A → Session) → Result A Fault → Result Session Fault
session_after step (Ok a) = Ok (step a)
session_after step (Err fault) = Err fault

-- the line has such a result, and after it stands what the result brings
pub record Brings {A : Type 0} (Told : Result A Fault → Type 0) (step : A → Session)
    (result : Result Session Fault) : Type 0 where
  pub outcome : Result A Fault
  pub told : Told outcome
  pub is : result ≡ session_after step outcome

-- what comes after a line, or why it is refused
abbrev pub AfterLine : ℕ → Session → Line → Result Session Fault → Type 0
AfterLine number s (Dims n) result = result ≡ Err BadLine
AfterLine number s (Make name recipe) result = Brings (MadeBy s recipe) (λ m. made_as number name m s) result
AfterLine number s (Ask question) result = Brings (AnswerTo s question) (λ a. printed_by number a s) result

-- the first line gives the dimensions, and no later one
abbrev pub first_line : Line → Result Session Fault
first_line (Dims n) = Ok (started n)
first_line (Make name recipe) = Err BadLine
first_line (Ask question) = Err BadLine

-- none is before the first line
abbrev pub AfterForm : ℕ → Option Session → Option Line → Result Session Fault → Type 0
AfterForm number s None result = result ≡ Err BadLine
AfterForm number None (Some line) result = result ≡ first_line line
AfterForm number (Some s) (Some line) result = AfterLine number s line result

-- a refused line, by its number, and why
pub record Refused : Type 0 where
  pub number : ℕ
  pub fault : Fault

-- with the session before it
pub record Stopped : Type 0 where
  pub before : Option Session
  pub refused : Refused

-- a script's end: the last session, none if all lines are skipped; or its first refused line
abbrev pub End : Type 0
End = Result (Option Session) Stopped

abbrev pub stopped : ℕ → Option Session → Fault → Stopped
stopped number s fault = record { before = s; refused = record { number = number; fault = fault } }

abbrev pub GoesOn : ℕ → Option Session → Result Session Fault → (Option Session → Type 0) → End → Type 0
GoesOn number s (Err fault) Later end = end ≡ Err (stopped number s fault)
GoesOn number s (Ok t) Later end = Later (Some t)

-- the line of this number is carried out, then those after it
pub record Performs (number : ℕ) (s : Option Session) (line : List ℕ) (Later : Option Session → Type 0)
    (end : End) : Type 0 where
  pub result : Result Session Fault
  pub after : AfterForm number s (line_of (words line)) result
  pub goes_on : GoesOn number s result Later end

abbrev pub SkipsOr : Bool → Type 0 → Type 0 → Type 0
SkipsOr true Later Here = Later
SkipsOr false Later Here = Here

-- the lines are carried out from the one of this number on, to this end; skipped lines are counted
abbrev pub CarriesOut : ℕ → Option Session → List (List ℕ) → End → Type 0
CarriesOut number s [] end = end ≡ Ok s
CarriesOut number s (line ∷ rest) end =
    SkipsOr (is_skipped line) (CarriesOut (number + 1) s rest end)
    (Performs number s line (λ t. CarriesOut (number + 1) t rest end) end)

-- the last line
abbrev pub flag_text : Option ℕ → List ℕ
flag_text None = text_line (codes "flagged 0")
flag_text (Some number) = text_line (codes "flagged at line " ++ decimal number)

-- nothing was printed if all lines are skipped
abbrev pub output : Option Session → List ℕ
output None = flag_text None
output (Some s) = s.printed ++ flag_text s.flagged

-- the whole ---------------------------------------------------------------------------------------------------------

pub data Refusal : Type 0 where
  -- it has more bytes than a script may have; the first that is too many is at this place
  TooLong : Place → Refusal
  -- the script's first refused line
  AtLine : Refused → Refusal

abbrev pub ended : End → Result (List ℕ) Refusal
ended (Ok end) = Ok (output end)
ended (Err stop) = Err (AtLine stop.refused)

-- all lines are carried out
pub record Runs (script : List ℕ) (answer : Result (List ℕ) Refusal) : Type 0 where
  pub end : End
  pub carries_out : CarriesOut 1 None (lines script) end
  pub is : answer ≡ ended end

abbrev pub TooLongOr : Bool → List ℕ → Result (List ℕ) Refusal → Type 0
TooLongOr true script answer = answer ≡ Err (TooLong (place_after (take greatest_length script)))
TooLongOr false script answer = Runs script answer

-- what a script may write, or why it is refused
abbrev pub AnswersTo : List ℕ → Result (List ℕ) Refusal → Type 0
AnswersTo script answer = TooLongOr (nat_lt greatest_length (length script)) script answer

-- the last session before the end, or before the refused line
abbrev pub last_session : End → Option Session
last_session (Ok s) = s
last_session (Err stop) = stop.before

-- no line was flagged
abbrev pub IsUnflagged : Option Session → Type 0
IsUnflagged None = Unit {0}
IsUnflagged (Some s) = s.flagged ≡ None

-- a script has one end if no line is flagged: one output, or one refusal
abbrev pub HasOneEnd : List ℕ → Type 0
HasOneEnd script =
    (e f : End) → CarriesOut 1 None (lines script) e → CarriesOut 1 None (lines script) f
    → IsUnflagged (last_session e) → IsUnflagged (last_session f) → e ≡ f

-- a flagged set may be larger, so whether a set is in another isn't given by the lines alone; all other faults are
abbrev pub IsDeterminedByWords : Fault → Type 0
IsDeterminedByWords BadLine = Unit {0}
IsDeterminedByWords (UnknownName name) = Unit {0}
IsDeterminedByWords (WrongDimension count needed) = Unit {0}
IsDeterminedByWords (NotIncluded generator) = ⊥

abbrev pub IsDeterminedByLines : Result (List ℕ) Refusal → Type 0
IsDeterminedByLines (Ok output) = Unit {0}
IsDeterminedByLines (Err (TooLong place)) = Unit {0}
IsDeterminedByLines (Err (AtLine refused)) = IsDeterminedByWords refused.fault

-- so all are in a script without a widening
abbrev pub is_widening : Recipe → Bool
is_widening (Con rows) = false
is_widening (Gen generators) = false
is_widening (Combine how first second) = false
is_widening (Widen first second) = true
is_widening (Limited first second given) = true
is_widening (Map how from k form) = false
is_widening (Forget from k) = false

abbrev pub widens : Option Line → Bool
widens None = false
widens (Some (Dims n)) = false
widens (Some (Make name recipe)) = is_widening recipe
widens (Some (Ask question)) = false

abbrev pub NeverWidens : List ℕ → Type 0
NeverWidens script = All (λ line. widens (line_of (words line)) ≡ false) (lines script)

-- no answer to the script is an output, or a refusal
abbrev pub NeverRuns : List ℕ → Type 0
NeverRuns script = (output : List ℕ) → ¬ (AnswersTo script (Ok output))

abbrev pub NeverIsRefused : List ℕ → Type 0
NeverIsRefused script = (r : Refusal) → ¬ (AnswersTo script (Err r))

-- both are outputs, or both are one refusal
abbrev pub AgreesWith : {A B : Type 0} → Result A B → Result A B → Type 0
AgreesWith (Ok a) (Ok b) = Unit {0}
AgreesWith (Ok a) (Err g) = ⊥
AgreesWith (Err f) (Ok b) = ⊥
AgreesWith (Err f) (Err g) = f ≡ g

-- the text of a refusal ---------------------------------------------------------------------------------------------

abbrev pub fault_text : Fault → List ℕ
fault_text BadLine = codes "BadLine"
fault_text (UnknownName name) = codes "UnknownName " ++ name
fault_text (WrongDimension count needed) = codes "WrongDimension " ++ decimal count ++ codes " " ++ decimal needed
fault_text (NotIncluded generator) = codes "NotIncluded " ++ generator

-- written in place of all output
abbrev pub script_refusal_text : Refusal → List ℕ
script_refusal_text (TooLong place) =
    text_line (codes "refused 1 TooLong at " ++ decimal place.line ++ codes ":" ++ decimal place.column)
script_refusal_text (AtLine refused) =
    text_line (codes "refused line " ++ decimal refused.number ++ codes " " ++ fault_text refused.fault)
