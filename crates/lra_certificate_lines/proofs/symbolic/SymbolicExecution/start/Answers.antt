-- Goals of `start`: a path at its source.
use Rattle.std.proofs.Common.{◌≡◌, ◌∙◌, ◌++◌, List, ℤ, ap, sym, subst, arith, length}
use Rattle.std.specs.List.{All}
use Rattle.lra_certificate_lines.specs.Crates.lra_linear_spec.declared.ConKind.{ConKind}
use Rattle.lra_multipliers.specs.Symbols.{symbols}
use Rattle.lra_certificate_lines.proofs.WalkChanges.{symbols_wide}
use Rattle.lra_certificate_lines.proofs.symbolic.SymbolicExecution.start.Goals as goal

pub returns-clause-wide : goal.returns-clause-wide
returns-clause-wide c =
    let l = c.requires.live in
    let d = c.new.ensures.dims in
    record {
      forms = subst (λ (fs : List (List ℤ)). All (λ f. length f ≡ c.args.width) fs)
          (sym (c.in_ok-push_symbols.ensures ∙ ap (λ (fs : List (List ℤ)). fs ++ symbols c.args.width 1 c.args.live) c.new-forms.ensures.items))
          (symbols_wide c.args.width 1 c.args.live);
      tests = omega (arith, l, d);
      kinds = ap (λ (k : List ConKind). length k) c.new.ensures.kinds ∙ sym (ap (λ (r : List (List ℤ)). length r) c.new.ensures.rows);
    }
