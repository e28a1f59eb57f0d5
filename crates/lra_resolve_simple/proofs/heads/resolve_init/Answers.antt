-- Goals of `resolve_init`: begins the scope of a `for`, and resolves how it begins.
use Rattle.std.proofs.Common.{◌+◌, ℕ, ap, sym, ◌∙◌}
use Rattle.lra_resolve_simple.proofs.StatementLaws.{code_init_count}
use Rattle.lra_resolve_simple.proofs.heads.resolve_init.Goals as goal

pub returns-in_ok-add_declaration-in-Declaration-clause-counted : goal.returns-in_ok-add_declaration-in-Declaration-clause-counted
returns-in_ok-add_declaration-in-Declaration-clause-counted c =
    c.in_ok-add_declaration-in-Declaration.ensures.counted
    ∙ ap (λ (k : ℕ). c.args.labels.now.next + k) (sym (code_init_count c.args.init.now c.in-Declaration.declaration c.in-Declaration.is))
