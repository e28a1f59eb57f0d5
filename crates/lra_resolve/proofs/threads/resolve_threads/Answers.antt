-- Goals of `resolve_threads`: without faults of names the source has two threads, or it is refused when they are
-- missing.
use Rattle.std.proofs.Common.{◌≡◌, ◌<◌, ◌≤◌, List, ap, sym, ◌∙◌, subst}
use Rattle.lra_syntax.specs.{Functions.functions_of, Views.tree_view, declared.trees.ExternalDeclaration.ExternalDeclaration}
use Rattle.lra_resolve.specs.Crates.lra_resolution_spec.Threads.{greatest_threads, thread_places_from, thread_faults}
use Rattle.lra_scopes.specs.{Calls.functions_at, Outcome.StopsAtFirstFault}
use Rattle.lra_resolve.proofs.ThreadLaws.{few_told, two_clean}
use Rattle.lra_resolve.proofs.threads.resolve_threads.Goals as goal

pub returns-then-len-lt2-clause-told : goal.returns-then-len-lt2-clause-told
returns-then-len-lt2-clause-told c =
    let t = tree_view c.args.tree.now in
    let are : c.in_ok-threads.threads.items ≡ thread_places_from (functions_of t) greatest_threads 0 =
    c.in_ok-threads.ensures ∙ ap (λ (xs : List ExternalDeclaration). thread_places_from (functions_at xs) greatest_threads 0) c.deref.ensures.value in
    subst (λ r. StopsAtFirstFault (thread_faults t) r) (sym c.refuse.ensures)
    (few_told t c.in_ok-resolved.ensures.told c.in_ok-threads.threads.items are
    (subst (λ n. n < 2) (c.len.ensures ∙ c.in_ok-threads.threads.ok.0) c.if-len-lt2.true))

pub returns-clause-told : goal.returns-clause-told
returns-clause-told c =
    let t = tree_view c.args.tree.now in
    let are : c.in_ok-threads.threads.items ≡ thread_places_from (functions_of t) greatest_threads 0 =
    c.in_ok-threads.ensures ∙ ap (λ (xs : List ExternalDeclaration). thread_places_from (functions_at xs) greatest_threads 0) c.deref.ensures.value in
    two_clean t c.in_ok-resolved.ensures.told c.in_ok-threads.threads.items are
    (subst (λ n. 2 ≤ n) (c.len.ensures ∙ c.in_ok-threads.threads.ok.0) c.if-len-lt2.false)
