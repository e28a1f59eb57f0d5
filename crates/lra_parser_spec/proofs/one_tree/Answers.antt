-- Goals of `one_tree`: a law of the language.
use Rattle.lra_parser_spec.proofs.Laws.{spelled_one, spelled_one_fault}
use Rattle.lra_parser_spec.proofs.one_tree.Goals as goal

pub returns-clause-tree : goal.returns-clause-tree
returns-clause-tree c = spelled_one

pub returns-clause-fault : goal.returns-clause-fault
returns-clause-fault c = spelled_one_fault
