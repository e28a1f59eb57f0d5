-- Goals of `Names::has_behind`: whether the name is one of those after the oldest `count`.
use Rattle.std.proofs.Common.{◌∙◌, sym}
use Rattle.lra_scopes.proofs.NameLaws.{among_later}
use Rattle.lra_scopes.proofs.names.Names.has_behind.Goals as goal

pub returns-in-Some : goal.returns-in-Some
returns-in-Some c = among_later c.args.name.now c.args.count c.args.self.now _ (sym c.in-Some.is ∙ c.newest.ensures)

pub returns-in-None : goal.returns-in-None
returns-in-None c = among_later c.args.name.now c.args.count c.args.self.now _ (sym c.in-None.is ∙ c.newest.ensures)
