-- Programs that are well-formed, and programs that no source means. Which slip an example would catch stands beside it.
use Rattle.std.proofs.Common.{◌≡◌, ap, ℕ, [], ◌∷◌, length, Option, Some, None, true, false, refl, arith}
use Rattle.std.specs.Prelude.{get_or}
use Rattle.lra_base.specs.declared.number_types.NumberType.TheVariants.{Int, Long}
use Rattle.lra_program.specs.Program.{global, literal, read, nothing, break, statement, no_more, Function}
use Rattle.lra_program.specs.WellFormed.{AreInTextOrder, no_jumps, IsGoodExpr, IsGoodStmt, IsGoodCall, IsGoodFunction}
use Rattle.lra_program.proofs.RunExamples as run

-- int main(void){ for (long i=0; ; i=i+1) { long j=i; if (j==1) break; continue; } }
-- catches a `for` whose labels are reported with its body before its step, and a declared variable that doesn't live in
-- the loop
left_blocks_are_good : AreInTextOrder (run.left_blocks.main ∷ []) × IsGoodFunction run.left_blocks run.left_blocks.main
left_blocks_are_good = (refl, (((refl, tt), refl, (omega arith, (((omega arith, refl), refl, tt), (refl, tt))), (omega arith, (omega arith, refl))), tt))

-- a literal of 2^63, and an `int` of 2^31
wide_literal : (IsGoodExpr run.one_variable 0 (literal Long 9223372036854775807)) × (IsGoodExpr run.one_variable 0 (literal Long 9223372036854775808) → ⊥)
wide_literal = (refl, λ h. let e : false ≡ true = h in cc)

wide_int : (IsGoodExpr run.one_variable 0 (literal Int 2147483647)) × (IsGoodExpr run.one_variable 0 (literal Int 2147483648) → ⊥)
wide_int = (refl, λ h. let e : false ≡ true = h in cc)

-- a second global variable, if there is one
second_global : IsGoodExpr run.counted 0 (read (run.long_variable (global 0))) × (IsGoodExpr run.counted 0 (read (run.long_variable (global 1))) → ⊥)
second_global = (omega arith, λ h. omega (arith, h))

-- long inc(long x): a call without an argument, and one of a function that isn't there
no_argument : IsGoodCall run.called_twice 4 1 (record { label = 4; function = 0; arguments = [] }) → ⊥
no_argument h = let p : 1 ≡ length h.callee.parameters = ap parameters_or h.is_callee in omega (arith, p, h.width)
  where
    parameters_or : Option Function → ℕ
    parameters_or None = 0
    parameters_or (Some f) = length f.parameters

no_callee : IsGoodCall run.called_twice 4 1 (record { label = 4; function = 1; arguments = [] }) → ⊥
no_callee h = let missing = h.is_callee in cc

-- `break` outside a loop
break_alone : IsGoodStmt run.one_variable no_jumps 0 (break 1) → ⊥
break_alone h = let e : false ≡ true = h in cc

-- a label twice, and labels from 2 on
labels_out_of_order : (AreInTextOrder ((run.main_alone (statement (nothing 1) no_more) 1).main ∷ []) → ⊥) × (AreInTextOrder ((run.main_alone no_more 2).main ∷ []) → ⊥)
labels_out_of_order = (
  λ h. let p : 1 ≡ 2 = ap (λ ns. get_or ns 1 0) h in omega (arith, p),
  λ h. let p : 2 ≡ 1 = ap (λ ns. get_or ns 0 0) h in omega (arith, p),
)
