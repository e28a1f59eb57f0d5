-- The head of a `for`, as the code has it.
use Rattle.std.specs.Prelude.{Option, option_map}
use Rattle.lra_syntax.specs.Trees.{CondTree, AssignTree, InitTree}
use Rattle.lra_syntax.specs.Views.{assign_view, cond_view, init_view}
use Rattle.lra_parse_heads.specs.declared.loops.ForHead.{ForHead}

abbrev pub head_view : ForHead → InitTree × Option CondTree × Option AssignTree
head_view h = (init_view h.init, option_map cond_view h.test, option_map assign_view h.step)
