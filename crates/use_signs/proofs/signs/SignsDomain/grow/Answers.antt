use Rattle.std.proofs.Common.{rules, ◌≡◌}
use Rattle.guzhtarel.specs.{Domains.Exactness.TheVariants.Exact, EntryDomains.of_entries}
use Rattle.guzhtarel.proofs.{Calls.ExactCalls.grew, EntryDomains.rank_falls}
use Rattle.use_signs.specs.{Laws.sign_facts, Laws.signs_facts, Signs.sign}
use Rattle.use_signs.proofs.signs.SignsDomain.grow.Goals as goal

pub returns-clause-grew : goal.returns-clause-grew
returns-clause-grew c = λ a is.
    let same : a ≡ Exact = cc in
    rw same (grew (of_entries sign) signs_facts c.args.head.now c.args.next.now _ c.args._mode c.requires (search rules) (search rules))

pub returns-clause-lower : goal.returns-clause-lower
returns-clause-lower c = λ a is differs. rank_falls sign sign_facts c.args.head.now c.args.next.now _ c.requires (search rules) (search rules)
