-- Points that are one by path and label, and points that are distinct.
use Rattle.std.proofs.Common.{◌≡◌, ◌∙◌, sym, ap, ℕ, zero, suc, Option, Some, None, refl, arith}
use Rattle.lra_program.specs.Sites.{Site, sites_of}
use Rattle.lra_program.specs.Program as program
use Rattle.lra_operations.specs.Agree.{AreDistinct}
use Rattle.lra_program.proofs.RunExamples.{main_alone}

-- no program of a source, but a program: its two points are one by path and label
labelled_twice : AreDistinct (sites_of (main_alone (program.statement (program.nothing 1) program.no_more) 1)) → ⊥
labelled_twice h = let same = h 0 1 _ _ refl refl refl refl in omega (arith, same)

abbrev label_or : Option Site → ℕ
label_or None = 0
label_or (Some s) = s.label

-- int main(void){ ; } : the point of `;` and that of the end
labelled_once : AreDistinct (sites_of (main_alone (program.statement (program.nothing 1) program.no_more) 2))
labelled_once zero zero a b at_i at_j paths labels = refl
labelled_once (suc zero) (suc zero) a b at_i at_j paths labels = refl
labelled_once zero (suc zero) a b at_i at_j paths labels = absurd (let l : 1 ≡ 2 = ap label_or at_i ∙ labels ∙ sym (ap label_or at_j) in omega (arith, l))
labelled_once (suc zero) zero a b at_i at_j paths labels = absurd (let l : 2 ≡ 1 = ap label_or at_i ∙ labels ∙ sym (ap label_or at_j) in omega (arith, l))
labelled_once zero (suc (suc j)) a b at_i at_j paths labels = absurd cc
labelled_once (suc zero) (suc (suc j)) a b at_i at_j paths labels = absurd cc
labelled_once (suc (suc i)) j a b at_i at_j paths labels = absurd cc
