use Rattle.use_reach.proofs.burner.leaks.Goals as goal

-- what `reach` says of the lists of changes is said of the actions that they are
pub returns-clause-safe : goal.returns-clause-safe
returns-clause-safe g c = λ is s t begins run ends.
    c.in_ok-found.ensures.safe is s t
    (rw c.as_slice.ensures.value (rw c.in_ok-begin.ensures begins))
    (simp (c.as_slice-2.ensures.value, c.in_ok-steps.ensures.items, c.in_ok-leak.ensures, c.in_ok-pause.ensures) run)
    (rw c.as_slice-3.ensures.value (rw c.in_ok-end.ensures ends))
