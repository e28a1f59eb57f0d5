-- Goals of `embed`: so many variables come last, each of a symbol of its own.
use Rattle.std.proofs.{Common.◌≡◌, Common.◌+◌, Common.List, Common.ℕ, Common.ℤ, Common.arith, Common.sym, Common.subst, Common.suc, Common.length, lemmas.List.Elements.All-append}
use Rattle.std.specs.List.{All}
use Rattle.lra_multipliers.specs.Symbols.{symbols}
use Rattle.lra_certificate_lines.proofs.WalkChanges.{symbols_wide}
use Rattle.lra_certificate_lines.proofs.symbolic.SymbolicExecution.embed.Goals as goal

pub returns-clause-wide : goal.returns-clause-wide
returns-clause-wide c =
    let d = c.dims-width.ensures in
    record {
      forms = subst (λ (fs : List (List ℤ)). All (λ f. length f ≡ suc c.args.self.now.tests.dims) fs) (sym c.in_ok-push_symbols.ensures)
          (All-append (λ f. length f ≡ suc c.args.self.now.tests.dims) c.args.self.now.forms.items
          (symbols (c.dims-width.result + 1) c.args.self.now.free c.args.count) c.requires.wide.forms
          (subst (λ (n : ℕ). All (λ f. length f ≡ n) (symbols (c.dims-width.result + 1) c.args.self.now.free c.args.count))
          (let n : c.dims-width.result + 1 ≡ suc c.args.self.now.tests.dims = omega (arith, d) in n)
          (symbols_wide (c.dims-width.result + 1) c.args.self.now.free c.args.count)));
      tests = c.requires.wide.tests;
      kinds = c.requires.wide.kinds;
    }
