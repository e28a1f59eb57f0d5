-- Goals of `Session::set`: the set that the name stands for.
use Rattle.std.proofs.Common.{rules, ◌≡◌, Some}
use Rattle.std.specs.BTreeMap.{get_by_text}
use Rattle.lra_calc.proofs.session.Session.set.Goals as goal

pub returns-in-Some-clause-dims : goal.returns-in-Some-clause-dims
returns-in-Some-clause-dims c =
    let found : get_by_text c.args.self.now.made c.args.name.now ≡ Some c.in-Some.set.now = search rules in
    rw found at (c.requires.fit c.args.name.now)
