-- Which rows of a system are tight at a vector (have product 0 with it), and adjacent rays (Fukuda and Prodon 1996). A row that is tight
-- at no more rows of the system than another still lies in the cone when a part of that other is taken from it.
use Rattle.std.proofs.Common.{List, [], arith, inl, inr, length, neg_ℤ, negsuc, pos, refl, subst, suc, sym, zero, ℕ, ℤ, ◌*ℤ◌, ◌*◌, ◌++◌, ◌+ℤ◌, ◌+◌, ◌<ℤ◌, ◌<◌, ◌∙◌, ◌∷◌, ◌≡◌, ◌≤ℤ◌, ◌≤◌, ◌⊎◌}
use Rattle.std.proofs.lemmas.Int.{ints}
use Rattle.std.specs.List.{Contains}
use Rattle.lra_linear_spec.specs.{Cones.AreDual, Cones.Generated, Cones.Solves, Vectors.dot, Vectors.entry}
use Rattle.lra_linear_spec.proofs.Membership.{contains_cases, contains_head, contains_tail}
use Rattle.lra_linear_spec.proofs.{DoubleDescription.pair, Products.dot_linear, Ring.ring, Ring.v, Ring.⊖, Ring.◌⊕◌, Ring.◌⊗◌}

-- ---- what is said of rays
-- each row of the system that is tight at u is tight at w: w saturates each row that u saturates
abbrev pub TightToo : List (List ℤ) → (ℕ → ℤ) → (ℕ → ℤ) → Type 0
TightToo system u w = (s : List ℤ) → Contains system s → dot s u ≡ pos 0 → dot s w ≡ pos 0

-- some positive multiple of t is a multiple of r, up to a line
pub record Beside (lines : List (List ℤ)) (r t : List ℤ) : Type 0 where
  pub times : ℕ
  pub positive : 0 < times
  pub other : ℕ
  pub line : ℕ → ℤ
  pub on_line : Generated lines line
  pub is_beside : (j : ℕ) → pos times *ℤ entry t j ≡ (pos other *ℤ entry r j) +ℤ line j

-- r is no line, and if it is the sum of two vectors of the cone, the first is r up to a multiple and a line
pub record IsExtreme (cone lines : List (List ℤ)) (r : List ℤ) : Type 0 where
  pub apart : ¬ (Generated lines (entry r))
  pub splits : (k : ℕ) (t : List ℤ) (y : ℕ → ℤ) → Generated cone (entry t) → Generated cone y →
      ((j : ℕ) → entry t j +ℤ y j ≡ pos k *ℤ entry r j) → Beside lines r t

-- p and n are not adjacent: a third ray is tight at each row at which both are
pub record NotAdjacent (system rays : List (List ℤ)) (p n : List ℤ) : Type 0 where
  pub ray : List ℤ
  pub has : Contains rays ray
  pub not_p : ¬ (ray ≡ p)
  pub not_n : ¬ (ray ≡ n)
  pub tight : (s : List ℤ) → Contains system s → dot s (entry p) ≡ pos 0 → dot s (entry n) ≡ pos 0 →
      dot s (entry ray) ≡ pos 0

-- The rays and lines of a cone, each ray extreme, no two rays the same up to a line, no line but those spanned by the
-- lines; and a target that has the rays with a product that isn't negative, the lines, and for each two rays of
-- opposite signs their pair, unless they are not adjacent.
pub record AdjacentStep (w : ℕ) (c : List ℤ) (system rays lines target : List (List ℤ)) : Type 0 where
  pub dual : AreDual w system (rays ++ lines)
  pub line_flat : (l : List ℤ) → Contains lines l → dot c (entry l) ≡ pos 0
  pub extremes : (r : List ℤ) → Contains rays r → IsExtreme (rays ++ lines) lines r
  pub distinct : (r t : List ℤ) → Contains rays r → Contains rays t → Beside lines r t → t ≡ r
  pub reversed : (u : ℕ → ℤ) → Generated lines u → Generated lines (λ j. neg_ℤ (u j))
  pub hidden : (u : List ℤ) → length u ≡ w → ((s : List ℤ) → Contains system s → dot s (entry u) ≡ pos 0) →
      Generated lines (entry u)
  pub keeps : (r : List ℤ) → Contains rays r → pos 0 ≤ℤ dot c (entry r) → Generated target (entry r)
  pub line_kept : (l : List ℤ) → Contains lines l → Generated target (entry l)
  pub pairs : (p n : List ℤ) → Contains rays p → Contains rays n → pos 0 <ℤ dot c (entry p) → dot c (entry n) <ℤ pos 0 →
      Generated target (entry (pair c p n)) ⊎ NotAdjacent system rays p n

-- ---- the lemmas
-- k a - b is not negative for all large k
enough : (a b : ℤ) → pos 0 ≤ℤ a → pos 0 ≤ℤ b → (a ≡ pos 0 → b ≡ pos 0) → (k : ℕ) × ((m : ℕ) → k ≤ m → pos 0 ≤ℤ ((pos m *ℤ a) +ℤ neg_ℤ b))
enough (negsuc a) b h k t = absurd (omega (arith, ints, h))
enough a (negsuc b) h k t = absurd (omega (arith, ints, k))
enough (pos zero) (pos b) h k t = (0, λ m l. let e : pos b ≡ pos 0 = t refl in omega (arith, ints))
enough (pos (suc a)) (pos b) h k t = (b, λ m l. times_above a b m l)
  where
    nat_above : (a b m : ℕ) → b ≤ m → b ≤ m * suc a
    nat_above a b m l = grind arith

    times_above : (a b m : ℕ) → b ≤ m → pos 0 ≤ℤ ((pos m *ℤ pos (suc a)) +ℤ neg_ℤ (pos b))
    times_above a b m l = omega (arith, ints, nat_above a b m l)

dot_minus : (s : List ℤ) (k : ℕ) (u w : ℕ → ℤ) → dot s (λ j. (pos k *ℤ u j) +ℤ (negsuc 0 *ℤ w j)) ≡ (pos k *ℤ dot s u) +ℤ neg_ℤ (dot s w)
dot_minus s k u w = dot_linear s (pos k) (negsuc 0) u w ∙ ring (v (pos k) ⊗ v (dot s u) ⊕ v (negsuc 0) ⊗ v (dot s w)) (v (pos k) ⊗ v (dot s u) ⊕ ⊖ (v (dot s w))) (omega arith)

-- so k u - w solves the system for all large k, if w is tight wherever u is
pub room : (system : List (List ℤ)) (u w : ℕ → ℤ) → Solves system u → Solves system w → TightToo system u w →
    (k : ℕ) × ((m : ℕ) → k ≤ m → Solves system (λ j. (pos m *ℤ u j) +ℤ (negsuc 0 *ℤ w j)))
room [] u w hu hw t = (0, λ m l s k. absurd (omega (arith, k.1)))
room (s ∷ system) u w hu hw t =
    let i = room system u w (λ c k. hu c (contains_tail s c system k)) (λ c k. hw c (contains_tail s c system k)) (λ c k. t c (contains_tail s c system k)) in
    let e = enough (dot s u) (dot s w) (hu s (contains_head s system)) (hw s (contains_head s system)) (t s (contains_head s system)) in (
      i.0 + e.0,
      λ m l c k. elim (contains_cases s c system k) [
        | inl q ↦ subst (λ y. pos 0 ≤ℤ dot y (λ j. (pos m *ℤ u j) +ℤ (negsuc 0 *ℤ w j))) q (subst (λ z. pos 0 ≤ℤ z) (sym (dot_minus s m u w)) (e.1 m (omega arith)))
        | inr d ↦ i.1 m (omega arith) c d
      ],
    )

-- the other way: if u is a sum with w among the rows, each row tight at u is tight at w
pub tight_sum : (a b f : ℤ) (n : ℕ) → pos 0 ≤ℤ a → pos 0 ≤ℤ b → (pos (suc n) *ℤ a) +ℤ b ≡ pos 0 → a ≡ pos 0
tight_sum (pos zero) b f n h k e = refl
tight_sum (pos (suc a)) (pos b) f n h k e = absurd (omega (arith, ints, e))
tight_sum (pos (suc a)) (negsuc b) f n h k e = absurd (omega (arith, ints, k))
tight_sum (negsuc a) b f n h k e = absurd (omega (arith, ints, h))
