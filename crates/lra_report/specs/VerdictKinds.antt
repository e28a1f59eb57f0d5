-- What is judged of a program at its points: a row for each kind. From it come a verdict's line, its place in the JSON,
-- and whether it counts.
use Rattle.std.specs.Prelude.{◌≡◌, refl, ℕ, nat_eq, List, [], ◌∷◌, get_or, Bool, true, false, ◌||◌, codes}
use Rattle.std.specs.{List.list_any, Prelude.if◌then◌else◌, Str.bytes_eq}
use Rattle.lra_options.specs.declared.options.Options.{Options}
use Rattle.lra_report.specs.Crates.{lra_program.Accesses.AccessesOutOfBounds, lra_program.Overflow.Overflows}
use Rattle.lra_report.specs.Crates.{lra_program.Program.Program, lra_program.Run.Point, lra_program.Run.Fails}
use Rattle.lra_report.specs.declared.verdict_kinds.VerdictKind.{VerdictKind}
use Rattle.lra_report.specs.declared.verdict_kinds.VerdictKind.TheVariants.{Assertion, Fit, Access}

-- `word` begins its lines. Its outcome is `if_holds` if no run breaks it, `if_open` if that isn't known. Those
-- that count are in the last line and in the status. `own_place`: they have a place of their own, not their point's,
-- and JSON reports it. In JSON they stand under `key`, if it `stands` for these options and for whether any verdict
-- is reported under it: surely if one is.
pub record VerdictRow : Type 0 where
  pub word : List ℕ
  pub if_holds : List ℕ
  pub if_open : List ℕ
  pub counts : Bool
  pub own_place : Bool
  pub key : List ℕ
  pub stands : Options → Bool → Bool
  pub tells : (options : Options) → stands options true ≡ true
  -- the word begins with another byte than a blank, and the outcomes with different bytes: a text says which it has
  pub begins : nat_eq (get_or word 0 32) 32 ≡ false
  pub apart : nat_eq (get_or if_holds 0 10) (get_or if_open 0 10) ≡ false

abbrev pub assertion_row : VerdictRow
assertion_row = record {
  word = codes "assert";
  if_holds = codes "proved";
  if_open = codes "unknown";
  counts = true;
  own_place = false;
  key = codes "asserts";
  stands = λ options is_listed. true;
  tells = λ options. refl;
  begins = refl;
  apart = refl;
}

-- an operation that computes something; its key stands if it is asked for, be it that nothing computes
abbrev pub fit_row : VerdictRow
fit_row = record {
  word = codes "fit";
  if_holds = codes "fits";
  if_open = codes "may overflow";
  counts = false;
  own_place = false;
  key = codes "fits";
  stands = λ options is_listed. is_listed || options.fits;
  tells = λ options. refl;
  begins = refl;
  apart = refl;
}

-- an access of an array, reported at the array's name; its key stands if there is one
abbrev pub access_row : VerdictRow
access_row = record {
  word = codes "access";
  if_holds = codes "in bounds";
  if_open = codes "unknown";
  counts = true;
  own_place = true;
  key = codes "accesses";
  stands = λ options is_listed. is_listed;
  tells = λ options. refl;
  begins = refl;
  apart = refl;
}

abbrev pub row_of : VerdictKind → VerdictRow
row_of Assertion = assertion_row
row_of Fit = fit_row
row_of Access = access_row

-- all kinds
abbrev pub kinds : List VerdictKind
kinds = Assertion ∷ Fit ∷ Access ∷ []

-- none is left out: each has the key of one of these
pub among_kinds : (kind : VerdictKind) → list_any (λ k. bytes_eq (row_of kind).key (row_of k).key) kinds ≡ true
among_kinds Assertion = refl
among_kinds Fit = refl
among_kinds Access = refl

abbrev pub outcome_text : VerdictKind → Bool → List ℕ
outcome_text kind holds = if holds then (row_of kind).if_holds else (row_of kind).if_open

-- what no run does at a point if of the verdicts of the kind there the n-th, counted from 0, holds
abbrev pub Breaks : VerdictKind → Program → Point → ℕ → Type 0
Breaks Assertion P p n = Fails P p
Breaks Fit P p n = Overflows P p
Breaks Access P p n = AccessesOutOfBounds P p n
