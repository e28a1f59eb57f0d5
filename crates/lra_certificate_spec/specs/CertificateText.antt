-- The text of a certificate. Every line ends with a line feed; points are numbered from 1.
use Rattle.std.specs.Prelude.{ℕ, suc, ℤ, Bool, true, false, List, [], ◌∷◌, ◌++◌, length, Option, None, Some, codes}
use Rattle.std.specs.{Fmt.decimal, Fmt.signed_decimal, List.flat_map}
use Rattle.lra_certificate_spec.specs.Crates.lra_linear_spec.Descriptions.{LinearRow}
use Rattle.lra_certificate_spec.specs.Crates.lra_path_segments.Segments.{Goal, comes_to, violates}
use Rattle.lra_row_text.specs.Texts.{text_line}
use Rattle.lra_paths.specs.Paths.{Path}
use Rattle.lra_multipliers.specs.Multipliers.{Multipliers}
use Rattle.lra_certificate_spec.specs.Certificates.{Evidence, none, infeasible, implies, ListedAssertion, Certificate}

-- each after a space
abbrev pub numbers_text : List ℤ → List ℕ
numbers_text zs = flat_map (λ z. codes " " ++ signed_decimal z) zs

abbrev pub relation_text : Bool → List ℕ
relation_text true = codes "  ="
relation_text false = codes "  >="

abbrev pub row_text : LinearRow → List ℕ
row_text g = relation_text g.equal ++ numbers_text g.row

-- the lines of a word with a number
abbrev pub numbered_text : List ℕ → ℕ → List ℕ
numbered_text word n = word ++ codes " " ++ decimal n

abbrev pub point_text : ℕ → List ℕ
point_text number = numbered_text (codes "point") number

abbrev pub state_text : ℕ → Option (List LinearRow) → List ℕ
state_text number None = text_line (point_text number ++ codes " empty")
state_text number (Some rows) = text_line (point_text number) ++ flat_map (λ g. text_line (row_text g)) rows

-- the points, from this number on
abbrev pub states_text : ℕ → List (Option (List LinearRow)) → List ℕ
states_text number [] = []
states_text number (s ∷ ss) = state_text number s ++ states_text (suc number) ss

abbrev pub multipliers_text : List ℕ → Multipliers → List ℕ
multipliers_text word m = word ++ numbers_text (m.divisor ∷ m.constant ∷ m.factors)

abbrev pub evidence_text : Evidence → List ℕ
evidence_text none = []
evidence_text (infeasible m) = text_line (multipliers_text (codes "dead") m)
evidence_text (implies ms) = flat_map (λ m. text_line (multipliers_text (codes "by") m)) ms

abbrev pub goal_number : Goal → ℕ
goal_number (comes_to q) = suc q
goal_number (violates q) = suc q

abbrev pub edge_text : Path → List ℕ
edge_text path = numbered_text (numbered_text (codes "edge") path.source) (goal_number path.goal)

abbrev pub edges_text : List Path → List Evidence → List ℕ
edges_text [] ls = []
edges_text (path ∷ paths) [] = []
edges_text (path ∷ paths) (l ∷ ls) = text_line (edge_text path) ++ evidence_text l ++ edges_text paths ls

abbrev pub assert_text : ℕ → List ℕ
assert_text q = numbered_text (codes "assert") (suc q)

abbrev pub listed_text : ListedAssertion → List ℕ
listed_text one = text_line (assert_text one.number) ++ flat_map evidence_text one.evidence

abbrev pub head_text : List ℕ → List ℕ
head_text source = text_line (numbered_text (codes "certificate bytes") (length source)) ++ text_line source

abbrev pub end_text : List ℕ
end_text = text_line (codes "end")

-- after the source
abbrev pub body_text : List Path → Certificate → List ℕ
body_text paths c = states_text 1 c.states ++ edges_text paths c.paths ++ flat_map listed_text c.asserted ++ end_text

abbrev pub certificate_text : List Path → Certificate → List ℕ
certificate_text paths c = head_text c.source ++ body_text paths c
