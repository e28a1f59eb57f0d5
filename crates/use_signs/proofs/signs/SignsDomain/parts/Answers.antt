use Rattle.std.proofs.Common.{rules, ◌≡◌}
use Rattle.guzhtarel.specs.EntryDomains.{parts_of}
use Rattle.guzhtarel.proofs.EntryDomains.{parts_hold}
use Rattle.use_signs.specs.{Laws.sign_facts, Signs.sign}
use Rattle.use_signs.proofs.signs.SignsDomain.parts.Goals as goal

pub returns-clause-hold : goal.returns-clause-hold
returns-clause-hold c = λ s h.
    let is : c.if-not-self.parts.items ≡ parts_of sign c.args.self.now.nothing c.args.self.now.entries = search rules in
    rw is (parts_hold sign sign_facts c.args.self.now s h)
