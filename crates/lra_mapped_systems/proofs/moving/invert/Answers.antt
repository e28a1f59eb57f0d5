-- Goals of `invert`: the form that takes the form back; none if that has neither 1 nor -1 at the column.
use Rattle.std.proofs.Common.{inl, inr, length, refl, subst, sym}
use Rattle.lra_mapped_systems.specs.Moving.{IsInverse}
use Rattle.lra_mapped_systems.proofs.{MovingLosses.never, TakenBack.minus_one_back, TakenBack.one_back}
use Rattle.lra_mapped_systems.proofs.moving.invert.Goals as goal

pub returns-then-is_minus_one-clause-back : goal.returns-then-is_minus_one-clause-back
returns-then-is_minus_one-clause-back c =
    let form = c.args.form.now in
    subst (IsInverse c.args.column (length form) form) (sym c.in_ok-same.ensures)
    (minus_one_back c.args.column (length form) form c.requires refl (c.if-is_minus_one.ensures.0 refl))

pub returns-then-is_one-clause-back : goal.returns-then-is_one-clause-back
returns-then-is_one-clause-back c =
    let form = c.args.form.now in
    subst (IsInverse c.args.column (length form) form) (sym c.in_ok-opposite.ensures)
    (one_back c.args.column (length form) form c.requires refl (c.if-is_one.ensures.0 refl))

pub returns-clause-none : goal.returns-clause-none
returns-clause-none c = λ h. elim h [
  | inl one ↦ never c.is_one.result c.if-is_one.false (c.is_one.ensures.1 one)
  | inr minus ↦ never c.is_minus_one.result c.if-is_minus_one.false (c.is_minus_one.ensures.1 minus)
]
