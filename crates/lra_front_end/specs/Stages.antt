-- What is known of a source between the stages of its reading.
use Rattle.std.specs.Prelude.{◌≡◌, ℕ, ◌≤◌, ℤ, List, [], length, None}
use Rattle.lra_base.specs.Places.{greatest_length}
use Rattle.lra_base.specs.{declared.refusals.Cause.TheVariants.Recursive, declared.refusals.Refusal.Refusal}
use Rattle.lra_front_end.specs.Crates.lra_operations.Agree.{IsInlinedTree, Agrees}
use Rattle.lra_front_end.specs.Crates.lra_program.Sites.{Site, events_of, sites_of}
use Rattle.lra_front_end.specs.Crates.lra_resolution_spec.EntryPoint.{EntryPoint, faults_of, points_of}
use Rattle.lra_front_end.specs.Crates.lra_syntax.Reach.{IsFirstRecursive, NotRecursive}
use Rattle.lra_front_end.specs.Crates.{lra_operations.Tree.Node, lra_program.WellFormed.IsWellFormed}
use Rattle.lra_front_end.specs.Crates.{lra_resolution_spec.NameFaults.name_faults}
use Rattle.lra_front_end.specs.Crates.{lra_resolution_spec.Refuse.limit_fault, lra_resolution_spec.Resolve.resolve}
use Rattle.lra_front_end.specs.Crates.{lra_syntax.Constants.constants_of, lra_syntax.Faults.IsTree}
use Rattle.lra_front_end.specs.Crates.{lra_syntax.Grammar.Spells, lra_syntax.Labels.labels_of, lra_syntax.Tokens.Lex}
use Rattle.lra_front_end.specs.Crates.{lra_syntax.Trees.FileTree, lra_syntax.declared.tokens.Token.Token}
use Rattle.lra_front_end.specs.Claims.{AreFew}

-- a source that isn't too long, and its tree
pub record HasTree (source : List ℕ) (t : FileTree) : Type 0 where
  pub tokens : List Token
  pub not_long : length source ≤ greatest_length
  pub lexed : Lex source tokens
  pub parsed : IsTree Spells tokens t

-- the constants of a source that has tokens: those are its one list (`OneReading`), so these are its own
pub record HasConstants (source : List ℕ) (constants : List ℤ) : Type 0 where
  pub tokens : List Token
  pub lexed : Lex source tokens
  pub are : constants ≡ constants_of tokens

-- a source has one list of constants
abbrev pub OneConstants : Type 0
OneConstants = (source : List ℕ) (one two : List ℤ) → HasConstants source one → HasConstants source two → one ≡ two

-- the refusal of a tree's first recursive call
abbrev pub IsRecursionRefusal : FileTree → Refusal → Type 0
IsRecursionRefusal t r = (r.cause ≡ Recursive) × IsFirstRecursive t r.place

-- a tree that has no fault of names, no recursion, and whose programs pass no limit
pub record IsFaultless (entry : EntryPoint) (t : FileTree) : Type 0 where
  pub names : faults_of entry t ≡ []
  pub straight : NotRecursive t
  pub within : limit_fault (labels_of t) 0 (points_of entry t) ≡ None

-- a tree whose names have no fault, that has no recursion and whose program passes no limit, the tree of operations of
-- that program, and its points
pub record HasInlinedTree (t : FileTree) (tree : Node) (sites : List Site) : Type 0 where
  pub names : name_faults t ≡ []
  pub straight : NotRecursive t
  pub well : IsWellFormed (resolve t)
  pub within : limit_fault (labels_of t) 0 (events_of (resolve t)) ≡ None
  pub few : AreFew (sites_of (resolve t))
  pub is_graph : IsInlinedTree (resolve t) tree
  pub agrees : Agrees (resolve t) tree
  pub points : sites ≡ sites_of (resolve t)
