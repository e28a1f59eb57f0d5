-- Runs of the programs that sources mean.
use Rattle.std.proofs.Common.{◌≡◌, pos, [], ◌∷◌, refl}
use Rattle.lra_resolution_spec.specs.Resolve.{resolve}
use Rattle.lra_syntax.proofs.TreeSamples.{call_in_step, repeated_step}
use Rattle.lra_program.proofs.RunExamples.{visited}

-- long k(long d){ return d+1; } long h(long a){ for(long i=0;i<a;i=k(i)) ; return k(a); } int main(void){ long m=h(2); }
-- each round's step calls k from the step's label, and m gets what the call in `return` gives
call_in_step_run : visited (resolve call_in_step) (pos 7 ∷ pos 8 ∷ []) ≡
    ([], 9, []) ∷ (9 ∷ [], 4, pos 7 ∷ pos 2 ∷ []) ∷ (9 ∷ [], 3, pos 7 ∷ pos 2 ∷ pos 0 ∷ []) ∷ (9 ∷ [], 6, pos 7 ∷ pos 2 ∷ pos 0 ∷ [])
    ∷ (9 ∷ [], 5, pos 7 ∷ pos 2 ∷ pos 0 ∷ []) ∷ (5 ∷ 9 ∷ [], 1, pos 7 ∷ pos 2 ∷ pos 0 ∷ pos 0 ∷ []) ∷ (9 ∷ [], 3, pos 7 ∷ pos 2 ∷ pos 1 ∷ [])
    ∷ (9 ∷ [], 6, pos 7 ∷ pos 2 ∷ pos 1 ∷ []) ∷ (9 ∷ [], 5, pos 7 ∷ pos 2 ∷ pos 1 ∷ []) ∷ (5 ∷ 9 ∷ [], 1, pos 7 ∷ pos 2 ∷ pos 1 ∷ pos 1 ∷ [])
    ∷ (9 ∷ [], 3, pos 7 ∷ pos 2 ∷ pos 2 ∷ []) ∷ (9 ∷ [], 7, pos 7 ∷ pos 2 ∷ []) ∷ (7 ∷ 9 ∷ [], 1, pos 7 ∷ pos 2 ∷ pos 2 ∷ []) ∷ ([], 10, pos 3 ∷ []) ∷ []
call_in_step_run = refl

-- long k(long d){ return d+1; } int main(void){ for(long i=0;i<9;i=k(i)){ if(i<2) continue; break; } ; }
-- the step comes after each `continue`, with its call, and never after `break`
repeated_step_run : visited (resolve repeated_step) (pos 6 ∷ []) ≡
    ([], 4, []) ∷ ([], 3, pos 0 ∷ []) ∷ ([], 6, pos 0 ∷ []) ∷ ([], 7, pos 0 ∷ []) ∷ ([], 5, pos 0 ∷ []) ∷ (5 ∷ [], 1, pos 0 ∷ pos 0 ∷ [])
    ∷ ([], 3, pos 1 ∷ []) ∷ ([], 6, pos 1 ∷ []) ∷ ([], 7, pos 1 ∷ []) ∷ ([], 5, pos 1 ∷ []) ∷ (5 ∷ [], 1, pos 1 ∷ pos 1 ∷ [])
    ∷ ([], 3, pos 2 ∷ []) ∷ ([], 6, pos 2 ∷ []) ∷ ([], 8, pos 2 ∷ []) ∷ ([], 10, []) ∷ ([], 11, []) ∷ []
repeated_step_run = refl
