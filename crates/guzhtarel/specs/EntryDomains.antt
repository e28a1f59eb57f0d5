-- Domains with an entry for each dimension, and a mark of those values that have no store: what the author gives of an
-- entry, and the domain that follows. A test says nothing.
use Rattle.std.specs.Cmp.Lexicographic.{pointwise}
use Rattle.std.specs.Prelude.{◌≡◌, ◌≤◌, ◌<◌, ◌^◌, ◌↔◌, ℕ, ◌+◌, ◌-◌, ℤ, pos, Bool, true, false, not, ◌&&◌, ◌||◌, List}
use Rattle.std.specs.Prelude.{[], ◌∷◌, ◌++◌, length, replicate, slice_set, take, IsTrue}
use Rattle.lra_linear_forms.specs.Form.{Form, form_value}
use Rattle.guzhtarel.specs.Crates.lra_linear_spec.declared.ConKind.{ConKind}
use Rattle.guzhtarel.specs.Crates.{lra_linear_spec.Vectors.entry, lra_linear_spec.declared.ConKind.TheVariants.Ge}
use Rattle.lra_systems.specs.LinearSystems.{LinearSystem}
use Rattle.lra_domain.specs.Actions.{Action, assign, forget, test, embed, remove_last}
use Rattle.lra_domain.specs.ExactDomains.{ExactDomain}
use Rattle.guzhtarel.specs.Entries.{AllHave, AllHold, join_each, rows_from, total}

-- of an entry: which numbers it has, which other covers it, the join of two, the one that has all numbers, the one that
-- stands in a value without a store, a number that falls, and its rows of n + 1 columns, of inequalities on a column;
-- and what is known of a form's value. Nothing is proved of the bottom entry: a join with a value without a store gives
-- `join bottom e`, which loses nothing if it is e.
pub record EachEntry (E : Type 0) : Type 1 where
  pub gamma : E → ℤ → Type 0
  pub leq : E → E → Bool
  pub join : E → E → E
  pub top : E
  pub bottom : E
  pub number : E → ℕ
  pub rows : ℕ → ℕ → E → List (List ℤ)
  pub value : Form → List E → E

-- what its author proves
pub record EntryFacts {E : Type 0} (p : EachEntry E) : Type 0 where
  pub top_gamma : (x : ℤ) → p.gamma p.top x
  pub reflexive : (e : E) → p.leq e e ≡ true
  pub leq_gamma : (e d : E) (x : ℤ) → p.leq e d ≡ true → p.gamma e x → p.gamma d x
  pub left : (e d : E) → p.leq e (p.join e d) ≡ true
  pub right : (e d : E) → p.leq d (p.join e d) ≡ true
  pub few : (e : E) → p.number e ≤ 2 ^ 31
  pub less : (e d : E) → p.number (p.join e d) ≤ p.number e
  pub falls : (e d : E) → p.leq d e ≡ false → p.number (p.join e d) < p.number e
  -- at a point whose divisor is 1, as a store is one
  pub rows_have : (n column : ℕ) (e : E) (x : List ℤ) → column ≤ n → entry x 0 ≡ pos 1
      → AllHold Ge (p.rows n column e) x ↔ p.gamma e (entry x column)
  pub value_gamma : (f : Form) (es : List E) (s : List ℤ) → length f.coefficients ≡ length es
      → AllHave p.gamma es s → p.gamma (p.value f es) (form_value f s)

pub record EntriesContent (E : Type 0) : Type 0 where
  pub nothing : Bool
  pub entries : List E

abbrev pub entries_after : {E : Type 0} → EachEntry E → Action → List E → List E
entries_after p (assign x f) es = slice_set es x (p.value f es)
entries_after p (forget x) es = slice_set es x p.top
entries_after p (test kind f) es = es
entries_after p (embed k) es = es ++ replicate k p.top
entries_after p (remove_last k) es = take (length es - k) es

-- the first has no store, or the second has some; and entry by entry it is covered
abbrev pub lies_in : {E : Type 0} → EachEntry E → EntriesContent E → EntriesContent E → Bool
lies_in p a b = (a.nothing || not b.nothing) && pointwise p.leq a.entries b.entries

abbrev pub system_of_entries : {E : Type 0} → EachEntry E → List E → LinearSystem ConKind
system_of_entries p es = record {
  dims = length es;
  rows = rows_from p.rows (length es) 1 es;
  kinds = replicate (length (rows_from p.rows (length es) 1 es)) Ge;
}

abbrev pub parts_of : {E : Type 0} → EachEntry E → Bool → List E → List (LinearSystem ConKind)
parts_of p true es = []
parts_of p false es = system_of_entries p es ∷ []

abbrev pub one_if : Bool → ℕ
one_if false = 0
one_if true = 1

abbrev pub of_entries : {E : Type 0} → EachEntry E → ExactDomain (EntriesContent E)
of_entries p = record {
  gamma = λ v s. (v.nothing ≡ false) × AllHave p.gamma v.entries s;
  dims = λ v. length v.entries;
  parts = λ v. parts_of p v.nothing v.entries;
  leq = λ a b. IsTrue (lies_in p a b);
  top = λ n. record { nothing = false; entries = replicate n p.top };
  bottom = λ n. record { nothing = true; entries = replicate n p.bottom };
  transfer = λ step v. record v { entries = entries_after p step v.entries };
  joined = λ a b. record { nothing = a.nothing && b.nothing; entries = join_each p.join a.entries b.entries };
  number = λ v. one_if v.nothing + total p.number v.entries;
}
