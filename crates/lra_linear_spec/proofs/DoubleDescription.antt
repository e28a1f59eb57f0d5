-- One step of the double description method (Motzkin, Raiffa, Thompson and Thrall 1953; Chernikova 1965; Le Verge 1992;
-- Fukuda and Prodon 1996): what a further inequality or equality makes of the lines and rays of a cone. Said of what
-- the new rows generate and contain, so that each way of listing them is a step: all pairs, adjacent pairs, rows in
-- lowest terms.
use Rattle.std.specs.List.{Contains}
use Rattle.std.specs.Prelude.{◌≡◌, ℕ, ◌<◌, ◌⊎◌, ℤ, pos, ◌+ℤ◌, ◌*ℤ◌, neg_ℤ, ◌≤ℤ◌, ◌<ℤ◌, int_lt, int_le, Bool, cond, List, [], ◌∷◌, ◌++◌, length}
use Rattle.lra_linear_spec.specs.{Cones.Generated, LowestTerms.IsPrimitive, Vectors.entry, Vectors.dot, Vectors.negated, Vectors.blend}

-- ---- the inequality c, if each line has product 0 with it
-- Each row with a product that is not negative can be generated, as can each pair with products of opposite signs,
-- combined so that the product is 0; and nothing else is there.
pub record StepOf (c : List ℤ) (rows target : List (List ℤ)) : Type 0 where
  pub keeps : (r : List ℤ) → Contains rows r → pos 0 ≤ℤ dot c (entry r) → Generated target (entry r)
  pub pairs : (p n : List ℤ) → Contains rows p → Contains rows n → pos 0 <ℤ dot c (entry p) → dot c (entry n) <ℤ pos 0 →
      Generated target (λ j. (neg_ℤ (dot c (entry n)) *ℤ entry p j) +ℤ (dot c (entry p) *ℤ entry n j))
  pub from : (t : List ℤ) → Contains target t → (Contains rows t × (pos 0 ≤ℤ dot c (entry t))) ⊎
      (dot c (entry t) ≡ pos 0)
  pub inside : (t : List ℤ) → Contains target t → Generated rows (entry t)

-- the rows that all pairs give: those with a product that is not negative, then a pair for each two of opposite signs
abbrev pub kept : List ℤ → List (List ℤ) → List (List ℤ)
kept c [] = []
kept c (r ∷ rays) = cond (int_le (pos 0) (dot c (entry r))) (r ∷ kept c rays) (kept c rays)

abbrev pub pair : List ℤ → List ℤ → List ℤ → List ℤ
pair c u n = blend (neg_ℤ (dot c (entry n))) (dot c (entry u)) u n

abbrev pub pairs_of : List ℤ → List ℤ → List (List ℤ) → List (List ℤ)
pairs_of c u [] = []
pairs_of c u (n ∷ rays) = cond (int_lt (dot c (entry n)) (pos 0)) (pair c u n ∷ pairs_of c u rays) (pairs_of c u rays)

abbrev pub pairs : List ℤ → List (List ℤ) → List (List ℤ) → List (List ℤ)
pairs c [] all = []
pairs c (u ∷ rays) all = cond (int_lt (pos 0) (dot c (entry u))) (pairs_of c u all) [] ++ pairs c rays all

abbrev pub step_rows : List ℤ → List (List ℤ) → List (List ℤ)
step_rows c rays = kept c rays ++ pairs c rays rays

-- ---- a further row that some line has a product other than 0 with
-- some row l has a positive product with c: it stays, and each row, combined with it so that the product is 0, can be
-- generated
pub record LineStepOf (c l : List ℤ) (rows target : List (List ℤ)) : Type 0 where
  pub positive : pos 0 <ℤ dot c (entry l)
  pub flat : (r : List ℤ) → Contains rows r → Generated target
      (λ j. (dot c (entry l) *ℤ entry r j) +ℤ (dot c (entry r) *ℤ neg_ℤ (entry l j)))
  pub ray : Generated target (entry l)

-- t is r combined with l so that its product with c is 0, in lowest terms
pub record Flat (c l r t : List ℤ) : Type 0 where
  pub times : ℕ
  pub positive : 0 < times
  pub is : (j : ℕ) → pos times *ℤ entry t j ≡ (dot c (entry l) *ℤ entry r j) +ℤ (neg_ℤ (dot c (entry r)) *ℤ entry l j)
  pub lowest : IsPrimitive t ⊎ ((j : ℕ) → entry t j ≡ pos 0)
  pub same_length : length t ≡ length r

-- row by row
abbrev pub Flats : List ℤ → List ℤ → List (List ℤ) → List (List ℤ) → Type 0
Flats c l [] [] = Unit {0}
Flats c l [] (t ∷ ts) = ⊥
Flats c l (r ∷ rs) [] = ⊥
Flats c l (r ∷ rs) (t ∷ ts) = Flat c l r t × Flats c l rs ts

-- The last line, by pivot, whose product with c isn't 0, with the sign that makes its product positive: each other row
-- is combined with it, and it becomes a ray if the further row is an inequality, and goes if that is an equality.
pub record LineCase (equal : Bool) (c : List ℤ) (lines rays new_lines new_rays : List (List ℤ)) : Type 0 where
  pub before : List (List ℤ)
  pub line : List ℤ
  pub after : List (List ℤ)
  pub is_lines : lines ≡ before ++ line ∷ after
  pub signed : List ℤ
  pub sign : (signed ≡ line) ⊎ (signed ≡ negated line)
  pub above : pos 0 <ℤ dot c (entry signed)
  pub flat_after : (k : List ℤ) → Contains after k → dot c (entry k) ≡ pos 0
  pub new_before : List (List ℤ)
  pub lines_flat : Flats c signed before new_before
  pub are_lines : new_lines ≡ new_before ++ after
  pub flat_rays : List (List ℤ)
  pub rays_flat : Flats c signed rays flat_rays
  pub are_rays : new_rays ≡ cond equal flat_rays (signed ∷ flat_rays)
