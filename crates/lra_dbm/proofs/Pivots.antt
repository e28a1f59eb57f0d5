-- Shortest paths by pivots: each closes its triangles and keeps those of the pivots before.
use Rattle.std.proofs.{Common.ℕ, Common.ℤ, Common.pos, Common.Option, Common.None, Common.Some, Common.sym, Common.arith, lemmas.Int.ints}
use Rattle.lra_dbm.specs.{Entry.◌⊑◌, Entry.◌⊞◌, Tight.Entries}
use Rattle.lra_dbm.proofs.EntryLemmas.{le_refl, le_same, le_trans, sum_grows, sum_assoc, lesser_left, lesser_right, le_lesser, le_sums, around}
use Rattle.lra_dbm.proofs.Ways.{by_way_of, HasTriangles, Below}

-- an entry at the pivot is as it was
at_column : (p : ℕ) (m : Entries) (i : ℕ) → Some (pos 0) ⊑ m p p → m i p ⊑ m i p ⊞ m p p
at_column p m i h = stay (m i p) (m p p) h
  where
    stay : (a b : Option ℤ) → Some (pos 0) ⊑ b → a ⊑ a ⊞ b
    stay None b h = record { at_most = tt }
    stay (Some a) None h = record { at_most = tt }
    stay (Some a) (Some b) h = let q = h.at_most in record { at_most = omega (arith, ints) }

at_row : (p : ℕ) (m : Entries) (j : ℕ) → Some (pos 0) ⊑ m p p → m p j ⊑ m p p ⊞ m p j
at_row p m j h = stay (m p p) (m p j) h
  where
    stay : (b a : Option ℤ) → Some (pos 0) ⊑ b → a ⊑ b ⊞ a
    stay None a h = record { at_most = tt }
    stay (Some b) None h = record { at_most = tt }
    stay (Some b) (Some a) h = let q = h.at_most in record { at_most = omega (arith, ints) }

-- the pivot's own triangles
pub way_closes : (p : ℕ) (m : Entries) → Some (pos 0) ⊑ m p p → HasTriangles p (by_way_of p m)
way_closes p m h = record {
  triangle = λ i j.
      le_sums (by_way_of p m i j) (m i p) (m i p ⊞ m p p) (m p j) (m p p ⊞ m p j)
      (lesser_right (m i j) (m i p ⊞ m p j))
      (le_trans (lesser_right (m i j) (m i p ⊞ m p j)) (sum_grows (le_refl (m i p)) (at_row p m j h)))
      (le_trans (lesser_right (m i j) (m i p ⊞ m p j)) (sum_grows (at_column p m i h) (le_refl (m p j))))
      (le_trans (lesser_right (m i j) (m i p ⊞ m p j)) (sum_grows (at_column p m i h) (at_row p m j h)));
}

-- the triangles of a pivot before
pub way_keeps : (p q : ℕ) (m : Entries) → Some (pos 0) ⊑ m p p → HasTriangles q m → HasTriangles q (by_way_of p m)
way_keeps p q m h t = record {
  triangle = λ i j.
      let old = lesser_left (m i j) (m i p ⊞ m p j) in
      let new = lesser_right (m i j) (m i p ⊞ m p j) in
      le_sums (by_way_of p m i j) (m i q) (m i p ⊞ m p q) (m q j) (m q p ⊞ m p j)
      (le_trans old (t.triangle i j))
      (le_trans new (le_trans (sum_grows (t.triangle i p) (le_refl (m p j))) (le_same (sum_assoc (m i q) (m q p) (m p j)))))
      (le_trans new (le_trans (sum_grows (le_refl (m i p)) (t.triangle p j)) (le_same (sym (sum_assoc (m i p) (m p q) (m q j))))))
      (le_trans new (around (m i p) (m p q) (m q p) (m p j) (le_trans h (t.triangle p p))));
}

pub way_lowers : (p : ℕ) (m : Entries) → Below (by_way_of p m) m
way_lowers p m = record { at = λ i j. lesser_left (m i j) (m i p ⊞ m p j) }

-- what is below a matrix and passes the pivot is below the matrix after it
pub below_way : (p : ℕ) (c m : Entries) → HasTriangles p c → Below c m → Below c (by_way_of p m)
below_way p c m t b = record { at = λ i j. le_lesser (b.at i j) (le_trans (t.triangle i j) (sum_grows (b.at i p) (b.at p j))) }
