-- What each source must get, wherever its runs begin: its one refusal, or its tree with a tree of operations for each
-- of its programs.
use Rattle.std.specs.{List.AllZip, Prelude.◌≡◌, Prelude.◌≤◌, Prelude.◌⊎◌, Prelude.ℕ, Prelude.List, Prelude.slice_get}
use Rattle.std.specs.Prelude.{Some}
use Rattle.lra_base.specs.{declared.refusals.Cause.Cause, declared.refusals.Place.Place}
use Rattle.lra_front_end.specs.Crates.lra_operations.Agree.{IsInlinedTree, Agrees}
use Rattle.lra_front_end.specs.Crates.lra_resolution_spec.EntryPoint.{EntryPoint, programs_of}
use Rattle.lra_front_end.specs.Crates.lra_resolution_spec.Refuse.{greatest_live, Refuse, Accepts}
use Rattle.lra_front_end.specs.Crates.{lra_operations.Tree.Node, lra_program.Program.Program, lra_program.Sites.Site}
use Rattle.lra_front_end.specs.Crates.{lra_syntax.Grammar.Spells, lra_syntax.Trees.FileTree}

-- the source is refused for some cause at some place; if it is too long, for that
abbrev pub HasRefusal : EntryPoint → List ℕ → Type 0
HasRefusal entry source = (cause : Cause) × (at : Place) × Refuse entry Spells source cause at

-- a tree of operations of the program, that reaches the points of its runs
abbrev pub IsProgramTree : Program → Node → Type 0
IsProgramTree P g = IsInlinedTree P g × Agrees P g

-- the source is accepted, with tokens and a tree, and each of its programs has such a tree
pub record IsAccepted (entry : EntryPoint) (source : List ℕ) : Type 0 where
  pub tree : FileTree
  pub accepted : Accepts entry Spells source tree
  pub operations : List Node
  pub are_graphs : AllZip IsProgramTree (programs_of entry tree) operations

-- every list of bytes is refused or accepted, and none is both
abbrev pub EachAnswer : Type 0
EachAnswer = (entry : EntryPoint) (source : List ℕ) → (HasRefusal entry source ⊎ IsAccepted entry source)
    × (HasRefusal entry source → IsAccepted entry source → ⊥)

-- no more variables live at a point than are accepted
abbrev pub AreFew : List Site → Type 0
AreFew T = (q : ℕ) (s : Site) → slice_get T q ≡ Some s → s.live ≤ greatest_live
