-- Goals of `Session::make`: what a recipe makes.
use Rattle.lra_calc.proofs.session.Session.make.Goals as goal

pub returns-in-Combine-clause-gives : goal.returns-in-Combine-clause-gives
returns-in-Combine-clause-gives c = rw c.in-Combine.is (rw (c.as_str.ensures.value, c.as_str-in-Combine.ensures.value) at c.combine.ensures.gives)

pub returns-in-Forget-clause-gives : goal.returns-in-Forget-clause-gives
returns-in-Forget-clause-gives c = rw c.in-Forget.is (rw c.as_str-in-Forget.ensures.value at c.forget.ensures.gives)

pub returns-in-Map-clause-gives : goal.returns-in-Map-clause-gives
returns-in-Map-clause-gives c = rw c.in-Map.is (rw (c.as_str-in-Map.ensures.value, c.deref-in-Map.ensures.value) at c.map.ensures.gives)

pub returns-in-Widen-clause-gives : goal.returns-in-Widen-clause-gives
returns-in-Widen-clause-gives c = rw c.in-Widen.is (rw (c.as_str-in-Widen.ensures.value, c.as_str-in-Widen-2.ensures.value) at c.widen.ensures.gives)

pub returns-in-Limited-clause-gives : goal.returns-in-Limited-clause-gives
returns-in-Limited-clause-gives c =
    rw c.in-Limited.is (rw (c.as_str-in-Limited.ensures.value, c.as_str-in-Limited-2.ensures.value, c.deref-in-Limited.ensures.value) at c.limit.ensures.gives)
