-- How large the trees of a row are together, and the arms of a `switch`, also in the other order.
use Rattle.std.proofs.Common.{◌≡◌, ◌∙◌, ℕ, ◌+◌, List, [], ◌∷◌, ◌++◌, map, reverse, ap, refl, sym, arith}
use Rattle.std.proofs.{lemmas.List.reverse-append, lemmas.List.Sums.sum_by-cons, lemmas.List.Sums.sum_by_push}
use Rattle.std.specs.List.{sum_by}
use Rattle.lra_operations.specs.{Sizes.arm_sizes, Sizes.arms_tree_sizes, Sizes.sizes, Sizes.whole_size, declared.tree.Arm.Arm, declared.tree.Node.Node}

pub same_wholes : (gs : List Node) → sum_by (λ (g : ℕ × ℕ). g.0) (map sizes gs) ≡ sum_by whole_size gs
same_wholes [] = refl
same_wholes (g ∷ gs) = sum_by-cons (λ (p : ℕ × ℕ). p.0) (sizes g) (map sizes gs) ∙ ap (λ k. whole_size g + k) (same_wholes gs) ∙
    sym (sum_by-cons whole_size g gs)

-- the first comes last
pub reversed : {X : Type 0} (x : X) (xs : List X) → reverse (x ∷ xs) ≡ reverse xs ++ x ∷ []
reversed x xs = reverse-append (x ∷ []) xs

pub wholes_reversed : (gs : List Node) → sum_by whole_size (reverse gs) ≡ sum_by whole_size gs
wholes_reversed [] = refl
wholes_reversed (g ∷ gs) = omega (
  arith,
  ap (sum_by whole_size) (reversed g gs),
  sum_by_push whole_size (reverse gs) g,
  wholes_reversed gs,
  sum_by-cons whole_size g gs,
)

pub arms_pushed : (arms : List Arm) (a : Arm) → arms_tree_sizes (map arm_sizes (arms ++ a ∷ [])) ≡ arms_tree_sizes (map arm_sizes arms) + (1 + (arm_sizes a).0)
arms_pushed [] a = omega arith
arms_pushed (b ∷ arms) a = omega (arith, arms_pushed arms a)

pub arms_reversed : (arms : List Arm) → arms_tree_sizes (map arm_sizes (reverse arms)) ≡ arms_tree_sizes (map arm_sizes arms)
arms_reversed [] = refl
arms_reversed (a ∷ arms) = omega (
  arith,
  ap (λ xs. arms_tree_sizes (map arm_sizes xs)) (reversed a arms),
  arms_pushed (reverse arms) a,
  arms_reversed arms,
)
