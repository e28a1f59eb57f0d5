-- Lists with an entry for each dimension: what is said of a store number by number, a join entry by entry, rows column
-- by column. (That each entry is covered by its partner is `pointwise` of std.)
use Rattle.std.specs.Prelude.{ℕ, suc, ◌+◌, ℤ, List, [], ◌∷◌, ◌++◌}
use Rattle.guzhtarel.specs.Crates.lra_linear_spec.Kinds.{is_equality}
use Rattle.guzhtarel.specs.Crates.{lra_linear_spec.Descriptions.Holds, lra_linear_spec.declared.ConKind.ConKind}

-- as many entries as numbers, and each entry has its number
abbrev pub AllHave : {E : Type 0} → (E → ℤ → Type 0) → List E → List ℤ → Type 0
AllHave has [] [] = Unit {0}
AllHave has [] (x ∷ s) = ⊥
AllHave has (e ∷ es) [] = ⊥
AllHave has (e ∷ es) (x ∷ s) = has e x × AllHave has es s

abbrev pub join_each : {E : Type 0} → (E → E → E) → List E → List E → List E
join_each join [] ds = []
join_each join (e ∷ es) [] = e ∷ es
join_each join (e ∷ es) (d ∷ ds) = join e d ∷ join_each join es ds

abbrev pub total : {E : Type 0} → (E → ℕ) → List E → ℕ
total number [] = 0
total number (e ∷ es) = number e + total number es

-- the rows of n + 1 columns of all entries, the first of which stands in this column
abbrev pub rows_from : {E : Type 0} → (ℕ → ℕ → E → List (List ℤ)) → ℕ → ℕ → List E → List (List ℤ)
rows_from rows n column [] = []
rows_from rows n column (e ∷ es) = rows n column e ++ rows_from rows n (suc column) es

-- rows of one kind that hold at the point, one after another
abbrev pub AllHold : ConKind → List (List ℤ) → List ℤ → Type 0
AllHold kind [] x = Unit {0}
AllHold kind (r ∷ rows) x = Holds (record { row = r; equal = is_equality kind }) x × AllHold kind rows x
