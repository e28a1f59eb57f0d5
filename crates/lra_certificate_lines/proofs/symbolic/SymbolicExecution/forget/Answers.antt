-- Goals of `forget`: the variable gets a symbol of its own.
use Rattle.std.proofs.{Common.◌≡◌, Common.◌∙◌, Common.List, Common.ℤ, Common.ap, Common.sym, Common.subst, Common.suc, Common.length, lemmas.List.Elements.All-set}
use Rattle.std.specs.List.{All}
use Rattle.lra_certificate_spec.proofs.WalkedRows.{symbol_width}
use Rattle.lra_certificate_lines.proofs.symbolic.SymbolicExecution.forget.Goals as goal

pub returns-clause-wide : goal.returns-clause-wide
returns-clause-wide c =
    let d = c.dims.ensures in
    record {
      forms = subst (λ (fs : List (List ℤ)). All (λ f. length f ≡ suc c.args.self.now.tests.dims) fs) (sym c.put.ensures)
          (All-set (λ f. length f ≡ suc c.args.self.now.tests.dims) c.args.self.now.forms.items c.args.place c.in_ok-row.row
          (ap (λ (r : List ℤ). length r) c.in_ok-row.ensures ∙ symbol_width (suc c.dims.result) c.args.self.now.free ∙ ap suc d)
          c.requires.wide.forms);
      tests = c.requires.wide.tests;
      kinds = c.requires.wide.kinds;
    }
