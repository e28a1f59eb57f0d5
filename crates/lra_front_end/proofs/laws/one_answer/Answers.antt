-- Goals of `one_answer`: a source is accepted with at most one tree, or refused for at most one cause at one place;
-- never both.
use Rattle.lra_front_end.specs.Crates.lra_syntax.Grammar.{Spells}
use Rattle.lra_front_end.proofs.OneAnswer as law
use Rattle.lra_front_end.proofs.laws.one_answer.Goals as goal

pub returns : goal.returns
returns c = law.one_answer Spells c.one_reading.ensures c.one_tree.ensures.tree c.one_tree.ensures.fault
