-- Goals of `grow_by`: the head grows by what its round left, unless it is stable under that.
use Rattle.std.proofs.Common.{sym}
use Rattle.lra_pass_results.proofs.heads.grow_by.Goals as goal

pub returns-in-Stable-clause-stays : goal.returns-in-Stable-clause-stays
returns-in-Stable-clause-stays g c = λ e.
    (rw (← c.mode_of-mode.ensures) (c.in_ok-grow.ensures.stays c.in-Stable.is), sym c.requires)

pub returns-in-Stable-clause-grew : goal.returns-in-Stable-clause-grew
returns-in-Stable-clause-grew g c = λ e. let wrong : ⊥ = cc in absurd wrong

pub returns-in_ok-value-in-Grew-clause-grew : goal.returns-in_ok-value-in-Grew-clause-grew
returns-in_ok-value-in-Grew-clause-grew g c = λ e. (
  c.in-Grew.exactness,
  record {
    grown = (
      rw (← c.mode_of-mode.ensures) (c.in_ok-grow.ensures.grew c.in-Grew.exactness c.in-Grew.is),
      sym c.requires,
      c.grow.ensures.dims,
      c.grow.ensures.capped,
    );
    valued = rw c.note-so_far.ensures at c.in_ok-value-in-Grew.ensures;
    left = c.saturating_sub-growing.ensures;
    fits = c.in_ok-grow.ensures.fits;
    lower = rw (← c.mode_of-mode.ensures) (c.in_ok-grow.ensures.lower c.in-Grew.exactness c.in-Grew.is);
  },
)

pub returns-in_ok-value-in-Grew-clause-stays : goal.returns-in_ok-value-in-Grew-clause-stays
returns-in_ok-value-in-Grew-clause-stays g c = λ e. let wrong : ⊥ = cc in absurd wrong
