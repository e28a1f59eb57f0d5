-- Which sources are refused, for which cause and at which place, where the runs begin at an entry point. The first
-- phase with a fault refuses: the bytes' number; tokens; the tree; names; calls written out. In each phase but the last
-- the fault first in text order is answered.
use Rattle.std.specs.Prelude.{◌≡◌, ℕ, suc, ◌≤◌, ◌<◌, nat_lt, if◌then◌else◌, List, [], ◌∷◌, length, take, Option, Some}
use Rattle.std.specs.Prelude.{None}
use Rattle.lra_resolution_spec.specs.Crates.lra_base.Places.{place_after, greatest_length}
use Rattle.lra_resolution_spec.specs.Crates.lra_base.declared.refusals.Cause.{Cause}
use Rattle.lra_resolution_spec.specs.Crates.lra_base.declared.refusals.Cause.TheVariants.{TooLong, Recursive}
use Rattle.lra_resolution_spec.specs.Crates.lra_base.declared.refusals.Cause.TheVariants.{TooManyVariables}
use Rattle.lra_resolution_spec.specs.Crates.lra_base.declared.refusals.Cause.TheVariants.{TooManyPoints}
use Rattle.lra_resolution_spec.specs.Crates.lra_base.declared.refusals.Place.{Place}
use Rattle.lra_resolution_spec.specs.Crates.lra_base.declared.refusals.Refusal.{Refusal}
use Rattle.lra_syntax.specs.Labels.{Labelled, labels_of, label_at, label_place, called_place}
use Rattle.lra_syntax.specs.Reach.{IsFirstRecursive, NotRecursive}
use Rattle.lra_syntax.specs.{Faults.Language, Faults.IsTree, Faults.IsTextFault, Grammar.Spells, Tokens.Lex}
use Rattle.lra_syntax.specs.{Tokens.IsTokenFault, Trees.FileTree, declared.tokens.Token.Token}
pub use Rattle.lra_resolution_spec.specs.Crates.lra_base.Limits.{greatest_live}
use Rattle.lra_resolution_spec.specs.EntryPoint.{EntryPoint, at_main, faults_of, points_of}
use Rattle.lra_resolution_spec.specs.{Resolve.resolve}
use Rattle.lra_program.specs.{Sites.Event, Sites.comes, Sites.one_call_more, WellFormed.IsWellFormed}

-- limits -----------------------------------------------------------------------------------------------------------

abbrev pub greatest_points : ℕ
greatest_points = 2048

-- calls written out: the first point with too many variables, the first past the greatest number, or the first call
-- past the longest path -----

-- after n points
abbrev pub limit_fault : List Labelled → ℕ → List Event → Option Refusal
limit_fault ls n [] = None
limit_fault ls n (comes s ∷ es) =
    if nat_lt greatest_live s.live then Some (record {
      cause = TooManyVariables;
      place = label_place (label_at ls s.label);
    })
    else (if nat_lt greatest_points (suc n) then Some
    (record { cause = TooManyPoints; place = label_place (label_at ls s.label) }) else limit_fault ls (suc n) es)
limit_fault ls n (one_call_more at ∷ es) = Some (record
    { cause = TooManyPoints; place = called_place (label_at ls at) })

-- the refusal ------------------------------------------------------------------------------------------------------

-- a tree's fault of names or of calls
pub data RefusesTree (entry : EntryPoint) (t : FileTree) : Cause → Place → Type 0 where
  bad_name : (r : Refusal) (further : List Refusal) → faults_of entry t ≡ r ∷ further →
      RefusesTree entry t r.cause r.place
  recursive : (at : Place) → faults_of entry t ≡ [] → IsFirstRecursive t at → RefusesTree entry t Recursive at
  past_limit : (r : Refusal) → faults_of entry t ≡ [] → NotRecursive t →
      limit_fault (labels_of t) 0 (points_of entry t) ≡ Some r → RefusesTree entry t r.cause r.place

-- the source has no tree, if L is the language of the sources
pub data NotParsed (L : Language) (source : List ℕ) : Cause → Place → Type 0 where
  too_long : greatest_length < length source → NotParsed L source TooLong (place_after (take greatest_length source))
  bad_token : (c : Cause) (at : Place) → length source ≤ greatest_length → IsTokenFault source c at →
      NotParsed L source c at
  bad_text : (tokens : List Token) (c : Cause) (at : Place) → length source ≤ greatest_length → Lex source tokens →
      IsTextFault L tokens c at → NotParsed L source c at

pub data Refuse (entry : EntryPoint) (L : Language) (source : List ℕ) : Cause → Place → Type 0 where
  not_parsed : (c : Cause) (at : Place) → NotParsed L source c at → Refuse entry L source c at
  bad_tree : (tokens : List Token) (t : FileTree) (c : Cause) (at : Place) → length source ≤ greatest_length →
      Lex source tokens → IsTree L tokens t → RefusesTree entry t c at → Refuse entry L source c at

-- the source is accepted, and has this tree
pub record Accepts (entry : EntryPoint) (L : Language) (source : List ℕ) (t : FileTree) : Type 0 where
  pub tokens : List Token
  pub not_long : length source ≤ greatest_length
  pub lexed : Lex source tokens
  pub parsed : IsTree L tokens t
  pub names : faults_of entry t ≡ []
  pub not_recursive : NotRecursive t
  pub within : limit_fault (labels_of t) 0 (points_of entry t) ≡ None

-- a source is accepted with one tree, or refused for one cause at one place, wherever its runs begin
abbrev pub OneAnswer : Language → Type 0
OneAnswer L = (entry : EntryPoint) (source : List ℕ)
    → ((s t : FileTree) → Accepts entry L source s → Accepts entry L source t → s ≡ t)
    × ((c d : Cause) (p q : Place) → Refuse entry L source c p → Refuse entry L source d q → (c ≡ d) × (p ≡ q))
    × ((t : FileTree) (c : Cause) (p : Place) → Accepts entry L source t → Refuse entry L source c p → ⊥)

-- the program of every accepted source is well-formed
abbrev pub AcceptedAreWellFormed : Type 0
AcceptedAreWellFormed = (source : List ℕ) (t : FileTree) → Accepts at_main Spells source t → IsWellFormed (resolve t)
