-- Goals of `test_ge`: refines by `constant + factors >= 0`.
use Rattle.std.proofs.Common.{rules, ◌≡◌, false, true, None}
use Rattle.std.specs.Prelude.{pos, int_lt}
use Rattle.lra_box.specs.{Content.bounds_view, Refine.some_occurs}
use Rattle.lra_box.proofs.TestLemmas.{none_tested, constant_fails, constant_holds}
use Rattle.lra_box.proofs.bounds.test_ge.Goals as goal

pub returns-in_default : goal.returns-in_default
returns-in_default c = let none : bounds_view c.args.bounds.now ≡ None = search rules in record { tested = rw none (none_tested c.args.constant c.args.factors.now _ _) }

pub returns-then-constant-lt0 : goal.returns-then-constant-lt0
returns-then-constant-lt0 c =
    let occurs : some_occurs c.args.factors.now ≡ false = search rules in
    let below : int_lt c.args.constant (pos 0) ≡ true = search rules in
    record { tested = constant_fails c.args.constant c.args.factors.now (bounds_view c.args.bounds.now) _ occurs below }

pub returns-else-constant-lt0 : goal.returns-else-constant-lt0
returns-else-constant-lt0 c =
    let occurs : some_occurs c.args.factors.now ≡ false = search rules in
    let below : int_lt c.args.constant (pos 0) ≡ false = search rules in
    record { tested = rw c.in-Some.is (constant_holds c.args.constant c.args.factors.now _ _ _ occurs below (rw c.in-Some.is at c.requires.sound)) }
