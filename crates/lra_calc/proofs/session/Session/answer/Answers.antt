-- Goals of `Session::answer`: the answer to a question.
use Rattle.lra_calc.proofs.session.Session.answer.Goals as goal

pub returns-in-Show : goal.returns-in-Show
returns-in-Show c = rw c.in-Show.is (rw c.as_str.ensures.value at c.show.ensures)

pub returns-in-Holds : goal.returns-in-Holds
returns-in-Holds c = rw c.in-Holds.is (rw (c.as_str-in-Holds.ensures.value, c.deref.ensures.value) at c.hold.ensures)

pub returns-in-Include : goal.returns-in-Include
returns-in-Include c = rw c.in-Include.is (rw (c.as_str-in-Include.ensures.value, c.as_str-in-Include-2.ensures.value) at c.include.ensures)

pub returns-in-Maximise : goal.returns-in-Maximise
returns-in-Maximise c = rw c.in-Maximise.is (rw (c.as_str-in-Maximise.ensures.value, c.deref-in-Maximise.ensures.value) at c.maximise.ensures)
