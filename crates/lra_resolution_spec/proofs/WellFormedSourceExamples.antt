-- The program of a source is well-formed.
use Rattle.std.proofs.Common.{[], ◌∷◌, refl, arith}
use Rattle.lra_resolution_spec.specs.Crates.lra_base.declared.number_types.NumberType.TheVariants.{Int}
use Rattle.lra_program.specs.{Program.local, Program.literal, Program.read, WellFormed.IsGoodCall, WellFormed.IsWellFormed}
use Rattle.lra_resolution_spec.specs.Resolve.{resolve}
use Rattle.lra_program.proofs.RunExamples.{long_variable}
use Rattle.lra_syntax.proofs.TreeSamples.{called_twice}

-- long inc(long x){ x=x+1; return x; } int main(void){ long x=inc(1); x=inc(x); assert(x==3); }
called_twice_is_well_formed : IsWellFormed (resolve called_twice)
called_twice_is_well_formed = record {
  globals = tt;
  labels = refl;
  functions = (((omega arith, (omega arith, refl)), (omega arith, tt)), ((inc_of_1, ((omega arith, inc_of_x), ((omega arith, refl), tt))), tt));
  main = (1, omega arith, refl);
  alone = refl;
}
  where
    -- x is there in its own declarator
    inc_of_1 : IsGoodCall (resolve called_twice) 4 1 (record { label = 4; function = 0; arguments = literal Int 1 ∷ [] })
    inc_of_1 = record { label = refl; callee = _; is_callee = refl; width = refl; arguments = (refl, tt) }

    inc_of_x : IsGoodCall (resolve called_twice) 5 1 (record { label = 5; function = 0; arguments = read (long_variable (local 0)) ∷ [] })
    inc_of_x = record { label = refl; callee = _; is_callee = refl; width = refl; arguments = (omega arith, tt) }
