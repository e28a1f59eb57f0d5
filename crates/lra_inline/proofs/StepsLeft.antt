-- If the innermost place goes on after its part, fewer steps are left in all.
use Rattle.std.proofs.{Common.◌≡◌, Common.◌+◌, Common.◌<◌, Common.List, Common.[], Common.◌∷◌, Common.◌++◌, Common.sym, Common.subst, Common.arith, lemmas.List.Sums.sum_by_push}
use Rattle.std.specs.List.{sum_by}
use Rattle.lra_program.specs.Program.{Program}
use Rattle.lra_inline_steps.specs.{Steps.place_left, Steps.next_left, Steps.all_left, declared.stack.InlineFrame.InlineFrame}
use Rattle.lra_inline_steps.specs.declared.stack.Written as written
use Rattle.lra_inline_steps.specs.declared.stack.Next as next_type
use Rattle.lra_inline_steps.specs.declared.stack.Next.TheVariants as next

pub fewer_left : (P : Program) (os os' : List InlineFrame) (o : InlineFrame) (k k' : next_type.Next) (w : written.Written) → os ≡ os' ++ o ∷ [] → k ≡ next.Written w → next_left P k' < place_left P o
    → all_left P os' k' < all_left P os k
fewer_left P os os' o k k' w e is falls =
    let sum : sum_by (place_left P) (os' ++ o ∷ []) ≡ sum_by (place_left P) os' + place_left P o = sum_by_push (place_left P) os' o in
    let less : sum_by (place_left P) os' + next_left P k' < sum_by (place_left P) (os' ++ o ∷ []) + 0 = omega (arith, sum, falls) in
    subst (λ z. all_left P os' k' < all_left P z k) (sym e) (subst (λ z. all_left P os' k' < all_left P (os' ++ o ∷ []) z) (sym is) less)
