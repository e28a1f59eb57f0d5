-- The lines of an input that is to be a certificate: the first that is refused, and why; or the numbers of points and
-- of listed assertions. Lines are counted from 1 after the source. In one line the form comes first, with how many
-- numbers stand there, how they are spelled and their range; then whether a product or a sum passes the range, of a
-- form in symbols before the check's; then whether the line shows its claim.
use Rattle.std.specs.List.{list_all, slice_split, starts_with, before_first, after_first}
use Rattle.std.specs.Prelude.{ℕ, suc, ◌+◌, ℤ, pos, Bool, true, false, ◌&&◌, ◌||◌, List, [], ◌∷◌, ◌++◌, length, take}
use Rattle.std.specs.Prelude.{drop, Option, None, Some, Result, Ok, Err, nat_eq, nat_le, if◌then◌else◌, codes}
use Rattle.std.specs.{Char.is_ascii_digit, Prelude.slice_get, Str.bytes_eq, Str.Parse.signed_digits_value}
use Rattle.lra_certificate_spec.specs.Crates.lra_linear_spec.Descriptions.{LinearRow, system_of}
use Rattle.lra_certificate_spec.specs.Crates.lra_program.Sites.{Site, sites_of}
use Rattle.lra_certificate_spec.specs.Crates.{lra_linear_spec.Range.in_range, lra_linear_spec.declared.Excess.Excess}
use Rattle.lra_certificate_spec.specs.Crates.{lra_operations.Tree.Node, lra_program.Program.Program}
use Rattle.lra_paths.specs.Paths.{Path, paths_of, violations_of}
use Rattle.lra_multipliers.specs.Multipliers.{Multipliers, Answer, yes, no, wide, checked}
use Rattle.lra_multipliers.specs.Symbols.{SymbolicState, composed, width_of, executed_path, tests_in}
use Rattle.lra_certificate_spec.specs.CertificateText.{point_text, edge_text, assert_text, relation_text}
use Rattle.lra_certificate_spec.specs.Certificates.{PathPremises, premises_of, contradiction, state_from, state_to}
use Rattle.lra_certificate_spec.specs.Certificates.{live_at_source}

-- why a line is refused
pub data LineFault : Type 0 where
  too_long : LineFault
  bad_line : LineFault
  wide_line : LineFault
  not_row : LineFault

-- their names, as they are printed
abbrev pub fault_name : LineFault → List ℕ
fault_name too_long = codes "TooLong"
fault_name bad_line = codes "BadLine"
fault_name wide_line = codes "Wide"
fault_name not_row = codes "NotRow"

pub record Refused : Type 0 where
  pub line : ℕ
  pub fault : LineFault

-- numbers ----------------------------------------------------------------------------------------------------------

abbrev pub begins_with_minus : List ℕ → Bool
begins_with_minus [] = false
begins_with_minus (b ∷ bs) = nat_eq b 45

-- digits, the first of them 1 to 9
abbrev pub is_magnitude : List ℕ → Bool
is_magnitude [] = false
is_magnitude (b ∷ bs) = nat_le 49 b && nat_le b 57 && list_all is_ascii_digit bs

-- a number has one spelling: 0, or such digits, or a `-` and such digits
abbrev pub is_spelled : List ℕ → Bool
is_spelled word = bytes_eq word (codes "0") ||
    is_magnitude (if begins_with_minus word then drop 1 word else word)

abbrev pub number_in : List ℕ → Option ℤ
number_in word = if is_spelled word && in_range (signed_digits_value 10 word) then Some (signed_digits_value 10 word)
    else None

abbrev pub then_number : Option ℤ → Option (List ℤ) → Option (List ℤ)
then_number None rest = None
then_number (Some z) None = None
then_number (Some z) (Some zs) = Some (z ∷ zs)

abbrev pub numbers_in : List (List ℕ) → Option (List ℤ)
numbers_in [] = Some []
numbers_in (word ∷ words) = then_number (number_in word) (numbers_in words)

-- what stands between spaces
abbrev pub words_of : List ℕ → List (List ℕ)
words_of line = slice_split (λ b. nat_eq b 32) line

-- the numbers after the text, each after one space, if they are so many
abbrev pub so_many : ℕ → Option (List ℤ) → Option (List ℤ)
so_many n None = None
so_many n (Some zs) = if nat_eq (length zs) n then Some zs else None

abbrev pub spaced_numbers : List (List ℕ) → Option (List ℤ)
spaced_numbers [] = None
spaced_numbers ([] ∷ words) = numbers_in words
spaced_numbers ((b ∷ bs) ∷ words) = None

abbrev pub numbers_after : List ℕ → ℕ → List ℕ → Option (List ℤ)
numbers_after text n line = if starts_with nat_eq line text
    then so_many n (spaced_numbers (words_of (drop (length text) line))) else None

-- lines ------------------------------------------------------------------------------------------------------------

-- the lines that are left, and the number of the first of them; what comes after the last line feed is no line
pub record Left : Type 0 where
  pub number : ℕ
  pub pieces : List (List ℕ)

abbrev pub Judged : Type 0 → Type 0
Judged A = Result A Refused

abbrev pub then_judged : {A B : Type 0} → Judged A → (A → Judged B) → Judged B
then_judged (Ok x) next = next x
then_judged (Err r) next = Err r

abbrev pub refuses : {A : Type 0} → ℕ → LineFault → Judged A
refuses n fault = Err (record { line = n; fault = fault })

abbrev pub line_on : List (List ℕ) → Option (List ℕ)
line_on [] = None
line_on (last ∷ []) = None
line_on (line ∷ next ∷ more) = Some line

abbrev pub after_line : Left → Left
after_line l = record { number = suc l.number; pieces = drop 1 l.pieces }

-- the next line is this one
abbrev pub is_next_line : List ℕ → Option (List ℕ) → Bool
is_next_line text None = false
is_next_line text (Some line) = bytes_eq line text

abbrev pub takes : List ℕ → Left → Judged Left
takes text l = if is_next_line text (line_on l.pieces) then Ok (after_line l) else refuses l.number bad_line

-- points -----------------------------------------------------------------------------------------------------------

abbrev pub constraint_row : Bool → Option (List ℤ) → Option LinearRow
constraint_row equal None = None
constraint_row equal (Some row) = Some (record { row = row; equal = equal })

abbrev pub or_else : {A : Type 0} → Option A → Option A → Option A
or_else None other = other
or_else (Some x) other = Some x

-- a row of a point with so many variables
abbrev pub row_in : ℕ → List ℕ → Option LinearRow
row_in live line = or_else (constraint_row true (numbers_after (relation_text true) (suc live) line))
    (constraint_row false (numbers_after (relation_text false) (suc live) line))

abbrev pub row_before : LinearRow → Judged (List LinearRow × Left) → Judged (List LinearRow × Left)
row_before g (Ok r) = Ok (g ∷ r.0, r.1)
row_before g (Err r) = Err r

abbrev pub judged_with_row : ℕ → Option LinearRow → Judged (List LinearRow × Left) → Judged (List LinearRow × Left)
judged_with_row n None rest = refuses n bad_line
judged_with_row n (Some g) rest = row_before g rest

-- the rows of a point: the lines that begin with a space
abbrev pub judged_rows : ℕ → ℕ → List (List ℕ) → Judged (List LinearRow × Left)
judged_rows live n [] = Ok ([], record { number = n; pieces = [] })
judged_rows live n (last ∷ []) = Ok ([], record { number = n; pieces = last ∷ [] })
judged_rows live n (line ∷ next ∷ more) = if starts_with nat_eq line (codes " ")
    then judged_with_row n (row_in live line) (judged_rows live (suc n) (next ∷ more))
    else Ok ([], record { number = n; pieces = line ∷ next ∷ more })

abbrev pub RowsAtPoint : Type 0
RowsAtPoint = Option (List LinearRow)

abbrev pub some_rows : Judged (List LinearRow × Left) → Judged (RowsAtPoint × Left)
some_rows (Ok r) = Ok (Some r.0, r.1)
some_rows (Err r) = Err r

-- the point of this number, with so many variables
abbrev pub judged_state : ℕ → ℕ → Left → Judged (RowsAtPoint × Left)
judged_state number live l = if is_next_line (point_text number ++ codes " empty") (line_on l.pieces)
    then Ok (None, after_line l)
    else then_judged (takes (point_text number) l) (λ m. some_rows (judged_rows live m.number m.pieces))

abbrev pub state_before : RowsAtPoint → Judged (List RowsAtPoint × Left) → Judged (List RowsAtPoint × Left)
state_before s (Ok r) = Ok (s ∷ r.0, r.1)
state_before s (Err r) = Err r

abbrev pub judged_states : ℕ → List Site → Left → Judged (List RowsAtPoint × Left)
judged_states number [] l = Ok ([], l)
judged_states number (site ∷ sites) l = then_judged (judged_state number site.live l)
    (λ r. state_before r.0 (judged_states (suc number) sites r.1))

-- multipliers ------------------------------------------------------------------------------------------------------

abbrev pub multipliers_of : List ℤ → Option Multipliers
multipliers_of [] = None
multipliers_of (d ∷ []) = None
multipliers_of (d ∷ k ∷ ls) = Some (record { divisor = d; constant = k; factors = ls })

abbrev pub multipliers_from : Option (List ℤ) → Option Multipliers
multipliers_from None = None
multipliers_from (Some zs) = multipliers_of zs

-- a line of this word, over so many premises
abbrev pub multipliers_in : List ℕ → ℕ → List ℕ → Option Multipliers
multipliers_in word premises line = multipliers_from (numbers_after word (2 + premises) line)

abbrev pub by_answer : ℕ → Left → Answer → Judged Left
by_answer n next yes = Ok next
by_answer n next no = refuses n not_row
by_answer n next wide = refuses n wide_line

-- of a claim over the symbols, which may have passed
abbrev pub judged_claim : PathPremises → SymbolicState → Result (List ℤ) Excess → Multipliers → Left → Judged Left
judged_claim a w (Err e) m l = refuses l.number wide_line
judged_claim a w (Ok row) m l = by_answer l.number (after_line l) (checked (premises_of a w) row m)

abbrev pub judged_walk : PathPremises → Result SymbolicState Excess → (SymbolicState → Result (List ℤ) Excess) →
    Multipliers → Left →
    Judged Left
judged_walk a (Err e) claim m l = refuses l.number wide_line
judged_walk a (Ok w) claim m l = judged_claim a w (claim w) m l

abbrev pub premises_count : PathPremises → ℕ
premises_count a = length a.rows + tests_in a.path.actions

abbrev pub judged_multipliers : PathPremises → (SymbolicState → Result (List ℤ) Excess) → Option Multipliers → Left →
    Judged Left
judged_multipliers a claim None l = refuses l.number bad_line
judged_multipliers a claim (Some m) l = judged_walk a (executed_path a.live a.path.actions) claim m l

abbrev pub line_or_empty : Option (List ℕ) → List ℕ
line_or_empty None = []
line_or_empty (Some line) = line

-- the next line has this word, and shows the claim
abbrev pub judged_line : PathPremises → List ℕ → (SymbolicState → Result (List ℤ) Excess) → Left → Judged Left
judged_line a word claim l =
    judged_multipliers a claim (multipliers_in word (premises_count a) (line_or_empty (line_on l.pieces))) l

abbrev pub judged_dead : PathPremises → Left → Judged Left
judged_dead a l = judged_line a (codes "dead") (λ w. Ok (contradiction a)) l

abbrev pub claim_of : PathPremises → List ℤ → SymbolicState → Result (List ℤ) Excess
claim_of a row w = composed (width_of a.live a.path.actions) row w.forms

abbrev pub judged_claims : PathPremises → List (List ℤ) → Left → Judged Left
judged_claims a [] l = Ok l
judged_claims a (row ∷ rows) l = then_judged (judged_line a (codes "by") (claim_of a row) l)
    (λ next. judged_claims a rows next)

-- what is said of a path from a source with rows: that nothing goes along it, or claim by claim
abbrev pub is_dead_line : Option (List ℕ) → Bool
is_dead_line None = false
is_dead_line (Some line) = starts_with nat_eq line (codes "dead ")

abbrev pub judged_to : PathPremises → RowsAtPoint → Left → Judged Left
judged_to a None l = judged_line a (codes "by") (λ w. Ok (contradiction a)) l
judged_to a (Some rows) l = judged_claims a (system_of rows) l

abbrev pub judged_lines : PathPremises → RowsAtPoint → Left → Judged Left
judged_lines a target l = if is_dead_line (line_on l.pieces) then judged_dead a l else judged_to a target l

abbrev pub judged_from : ℕ → Path → RowsAtPoint → RowsAtPoint → Left → Judged Left
judged_from live path None target l = Ok l
judged_from live path (Some rows) target l =
    judged_lines (record { live = live; rows = rows; path = path }) target l

abbrev pub violation_from : ℕ → Path → RowsAtPoint → Left → Judged Left
violation_from live path None l = Ok l
violation_from live path (Some rows) l = judged_dead (record { live = live; rows = rows; path = path }) l

-- paths and assertions ---------------------------------------------------------------------------------------------

abbrev pub one_more : Judged (ℕ × Left) → Judged (ℕ × Left)
one_more (Ok r) = Ok (suc r.0, r.1)
one_more (Err r) = Err r

module _ (P : Program) (g : Node) (states : List RowsAtPoint) where
  abbrev pub judged_path : Path → Left → Judged Left
  judged_path path l = then_judged (takes (edge_text path) l)
      (λ m. judged_from (live_at_source P path.source) path (state_from states path.source) (state_to states path.goal)
      m)

  abbrev pub judged_paths : List Path → Left → Judged Left
  judged_paths [] l = Ok l
  judged_paths (path ∷ paths) l = then_judged (judged_path path l) (λ next. judged_paths paths next)

  abbrev pub judged_violations : List Path → Left → Judged Left
  judged_violations [] l = Ok l
  judged_violations (path ∷ paths) l =
      then_judged (violation_from (live_at_source P path.source) path (state_from states path.source) l)
      (λ next. judged_violations paths next)

  -- how many of the assertions are listed; q is the number of the first site
  abbrev pub judged_listed : ℕ → List Site → Left → Judged (ℕ × Left)
  judged_listed q [] l = Ok (0, l)
  judged_listed q (site ∷ sites) l = if site.asserts && is_next_line (assert_text q) (line_on l.pieces)
      then then_judged (judged_violations (violations_of P g q) (after_line l))
      (λ next. one_more (judged_listed (suc q) sites next))
      else judged_listed (suc q) sites l

-- `end`, and nothing after it
abbrev pub is_nothing : List (List ℕ) → Bool
is_nothing [] = true
is_nothing ([] ∷ []) = true
is_nothing (line ∷ more) = false

abbrev pub judged_end : Left → Judged Left
judged_end l = then_judged (takes (codes "end") l)
    (λ m. if is_nothing m.pieces then Ok m else refuses m.number bad_line)

-- the number of points, and that of the assertions that are listed
abbrev pub counted : ℕ → ℕ × Left → Judged (ℕ × ℕ)
counted points r = then_judged (judged_end r.1) (λ m. Ok (points, r.0))

abbrev pub lines_left : List ℕ → Left
lines_left bytes = record { number = 1; pieces = slice_split (λ b. nat_eq b 10) bytes }

-- what comes after the source
abbrev pub judged : Program → Node → List ℕ → Judged (ℕ × ℕ)
judged P g bytes =
    then_judged (judged_states 1 (sites_of P) (lines_left bytes)) (λ r.
    then_judged (judged_paths P g r.0 (paths_of P g) r.1) (λ l.
    then_judged (judged_listed P g r.0 0 (sites_of P) l) (λ x. counted (length (sites_of P)) x)))

-- the head ---------------------------------------------------------------------------------------------------------

pub record Head : Type 0 where
  pub source : List ℕ
  pub rest : List ℕ

-- so many bytes, and a line feed after them
abbrev pub has_feed : Option ℕ → Bool
has_feed None = false
has_feed (Some b) = nat_eq b 10

abbrev pub headed : Option (List ℤ) → List ℕ → Option Head
headed (Some (pos n ∷ [])) bytes = if has_feed (slice_get bytes n)
    then Some (record { source = take n bytes; rest = drop (suc n) bytes }) else None
headed other bytes = None

abbrev pub head_of : List ℕ → Option Head
head_of bytes = headed (numbers_after (codes "certificate bytes") 1 (before_first (λ b. nat_eq b 10) bytes))
    (after_first (λ b. nat_eq b 10) bytes)
