-- What is known of a source of several threads between the stages of its reading.
use Rattle.std.specs.Prelude.{◌≡◌, ℕ, map}
use Rattle.lra_front_end.specs.Crates.lra_operations.Agree.{IsInlinedTree, Agrees}
use Rattle.lra_front_end.specs.Crates.lra_operations.TreeViews.{node_view, site_view}
use Rattle.lra_front_end.specs.Crates.lra_operations.declared.tree.InlinedProgram.{InlinedProgram}
use Rattle.lra_front_end.specs.Crates.lra_resolution_spec.Threads.{thread_program}
use Rattle.lra_front_end.specs.Crates.{lra_program.Program.Program, lra_program.Sites.sites_of}
use Rattle.lra_front_end.specs.Crates.{lra_program.WellFormed.IsWellFormed, lra_syntax.Trees.FileTree}
use Rattle.lra_front_end.specs.Claims.{AreFew}

-- the tree of operations of a well-formed program, and its points
pub record IsInlinedOf (P : Program) (g : InlinedProgram) : Type 0 where
  pub well : IsWellFormed P
  pub few : AreFew (sites_of P)
  pub is_graph : IsInlinedTree P (node_view g.tree)
  pub agrees : Agrees P (node_view g.tree)
  pub points : map site_view g.sites.items ≡ sites_of P

-- the tree of operations of the thread whose function stands at this place
abbrev pub IsThreadInlined : FileTree → ℕ → InlinedProgram → Type 0
IsThreadInlined t place g = IsInlinedOf (thread_program t place) g
