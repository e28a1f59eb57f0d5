-- What the calls that go back ask and give, over the code's types.
use Rattle.std.specs.Prelude.{◌≡◌, ◌≤◌, ◌^◌, ℕ, List, [], length, Option, None, Some, Contains, slice_get, Bool, false}
use Rattle.std.specs.{List.sum_by, Prelude.◌&&◌, Prelude.suc, Prelude.nat_eq}
use Rattle.lra_domain.specs.Actions.{Action, assign, forget, test, embed, remove_last}
use Rattle.lra_domain.specs.{Backward.BackwardAbstraction, Changes.AllCanBeMade, Changes.dims_after_actions}
use Rattle.lra_domain.specs.{Abstraction.Abstraction, Abstraction.worse, Rank.RankFits, declared.Exactness.Exactness}
use Rattle.lra_domain.proofs.RankNumbers.{digits}
use Rattle.lra_program.specs.{Assertions.IsAssertion, declared.program.GlobalVariable.GlobalVariable}
use Rattle.lra_program.specs.{Program.Cond, ProgramViews.cond_view, Sites.Site}
use Rattle.lra_operations.specs.Tree.{Node}
use Rattle.lra_back.specs.Crates.lra_path_disjuncts.Disjuncts.{greatest_paths}
use Rattle.lra_back.specs.Crates.lra_path_segments.Segments.{comes_to, violates}
use Rattle.lra_back.specs.Crates.lra_path_segments.TreeSegments.{AreSegmentsOf, End, exits, reaches, TreeSegment}
use Rattle.lra_back.specs.Crates.{lra_analysis_spec.Pass.Filters, lra_path_disjuncts.Tables.IsTable}
use Rattle.lra_paths.specs.Paths.{AreFewIn, actions_between_in, same_goal}
use Rattle.lra_paths.specs.{Sources.to_goal, declared.paths.PathsFailure.PathsFailure, declared.sources.Source.Source}
use Rattle.lra_paths.specs.declared.paths.PathsFailure.TheVariants as paths_failure
use Rattle.lra_back.specs.BackwardAnalysis.{AreAsserted, AreWide, IsAsserted, PathsFit}
use Rattle.lra_back.specs.Operations.{BackwardOperations, lossy_back_operations}
use Rattle.lra_back.specs.Preconditions.{PreAlong, IsNext}
use Rattle.lra_back.specs.Rounds.{AreBackwardValues, AreStarted, Rounds, seed_at}
use Rattle.lra_back.specs.declared.analysis.BackFailure.{BackFailure}
use Rattle.lra_back.specs.declared.analysis.BackFailure.TheVariants.{Memory, TooMany}
use Rattle.lra_back.specs.{declared.seeds.Asserted.Asserted, declared.tasks.Task.Task}
use Rattle.lra_back.specs.Rounds as rounds

-- changes and paths --------------------------------------------------------------------------------------------------

-- the change whose places and dimensions going back over this one has
abbrev pub reversed : Action → Action
reversed (assign x f) = assign x f
reversed (forget x) = forget x
reversed (test kind f) = test kind f
reversed (embed k) = remove_last k
reversed (remove_last k) = embed k

-- the path can be made of a value of n dimensions, and leaves k
abbrev pub Fits : List Action → ℕ → ℕ → Type 0
Fits path n k = (n ≤ 2 ^ 30) × AllCanBeMade path n × (dims_after_actions path n ≡ k)

abbrev pub AllFit : List (List Action) → ℕ → ℕ → Type 0
AllFit paths n k = (path : List Action) → Contains paths path → Fits path n k

-- from the value after the path, gone over, and met with the forward value at the path's source
abbrev pub PreAlongMet : {V H : Type 0} → BackwardOperations V H → V → V → List Action → Exactness → V → Type 0
PreAlongMet {V} ops forward v path e w =
    (u : V) × (d i : Exactness) × PreAlong ops path v d u × ops.meet u forward i w × (e ≡ worse d i)

-- a value that may be there has so many dimensions
abbrev pub IfThereHas : {V H : Type 0} → Abstraction V H → ℕ → Option V → Type 0
IfThereHas m n None = Unit {0}
IfThereHas m n (Some v) = m.dims v ≡ n

-- sources and heads --------------------------------------------------------------------------------------------------

abbrev pub paths_from : Source → ℕ → List (List Action)
paths_from s q = to_goal s.entries.items s.segments.items (comes_to q)

abbrev pub paths_at : Option Source → ℕ → List (List Action)
paths_at None q = []
paths_at (Some s) q = paths_from s q

-- paths can be written out of the table
pub record IsWritable (s : Source) : Type 0 where
  pub table : IsTable s.entries.items
  pub few : (q : ℕ) → length (paths_from s q) ≤ greatest_paths

-- the paths to each point lead from n dimensions to those of its head
abbrev pub FitHeads : {V H : Type 0} → Abstraction V H → Source → ℕ → List H → Type 0
FitHeads {V} {H} m s n heads = (q : ℕ) (h : H) → slice_get heads q ≡ Some h → AllFit (paths_from s q) n (m.head_dims h)

-- heads have the dimensions of the forward values, and ranks that fit
pub record AreHeads {V H : Type 0} (m : Abstraction V H) (forward : List V) (heads : List H) : Type 0 where
  pub count : length heads ≡ length forward
  pub dims : (q : ℕ) (h : H) (x : V) → slice_get heads q ≡ Some h → slice_get forward q ≡ Some x →
      m.head_dims h ≡ m.dims x
  pub ranks : (q : ℕ) (h : H) → slice_get heads q ≡ Some h → RankFits (m.rank h)

-- the ranks as one number
abbrev pub rank_of : {V H : Type 0} → Abstraction V H → H → ℕ
rank_of m h = digits (2 ^ 64) (m.rank h)

abbrev pub ranks_of : {V H : Type 0} → Abstraction V H → List H → ℕ
ranks_of m heads = sum_by (rank_of m) heads

-- tasks --------------------------------------------------------------------------------------------------------------

-- what is gone back over, as the definitions have it
abbrev pub task_view : {V : Type 0} → Task V → rounds.Task V
task_view t = record {
  paths = λ p q. paths_at (slice_get t.sources.items p) q;
  forward = t.forward.now;
  assertion = t.assertion;
  seed = t.seed;
}

-- there is a source for each point, whose paths lead from the dimensions of its forward value to those of the others
pub record IsTask {V H : Type 0} (m : Abstraction V H) (t : Task V) : Type 0 where
  pub count : length t.sources.items ≡ length t.forward.now
  pub few : (p : ℕ) (x : V) → slice_get t.forward.now p ≡ Some x → m.dims x ≤ 2 ^ 30
  pub writable : (p : ℕ) (s : Source) → slice_get t.sources.items p ≡ Some s → IsWritable s
  pub fit : (p q : ℕ) (s : Source) (x y : V) → slice_get t.sources.items p ≡ Some s →
      slice_get t.forward.now p ≡ Some x → slice_get t.forward.now q ≡ Some y →
      AllFit (paths_from s q) (m.dims x) (m.dims y)
  pub seed : (x : V) → slice_get t.forward.now t.assertion ≡ Some x → m.dims t.seed ≡ m.dims x

-- the next value of the point, over these heads
abbrev pub IsNextAt : {V H : Type 0} → BackwardOperations V H → rounds.Task V → ℕ → List H → Exactness → V → Type 0
IsNextAt {V} ops task p heads e w =
    (x : V) × (slice_get task.forward p ≡ Some x) × IsNext ops (task.paths p) x (seed_at task p) heads e w

-- from heads that start with nothing over all rounds to the meets
pub record IsBackwardSolution {V H : Type 0} (ops : BackwardOperations V H) (task : rounds.Task V) (f : Option ℕ)
    (values : List V)
    (flag : Option ℕ) : Type 0 where
  pub first : List H
  pub started : AreStarted ops task.forward first
  pub last : List H
  pub rounds_flag : Option ℕ
  pub rounds : Rounds ops task (length task.forward) f first rounds_flag last
  pub met : AreBackwardValues ops 0 rounds_flag last task.forward flag values

-- seeds --------------------------------------------------------------------------------------------------------------

abbrev pub is_source : ℕ → Option ℕ → Bool
is_source p None = false
is_source p (Some q) = nat_eq q p

abbrev pub violates_at : ℕ → End → Bool
violates_at p (exits h) = false
violates_at p (reaches goal) = same_goal goal (violates p)

-- the segment leads from the point to where its assertion is false
abbrev pub is_violation : ℕ → TreeSegment → Bool
is_violation p s = is_source p s.source && violates_at p s.end

abbrev pub condition_seen : Option Asserted → Option (ℕ × Cond)
condition_seen None = None
condition_seen (Some a) = Some (a.base, cond_view a.condition.now)

-- programs -----------------------------------------------------------------------------------------------------------

-- whether the point asserts
abbrev pub asserts_of : Option Site → Bool
asserts_of None = false
asserts_of (Some s) = s.asserts

abbrev pub asserts_at : List Site → ℕ → Bool
asserts_at sites p = asserts_of (slice_get sites p)

-- of each point its source, whose paths are those of the tree
pub record IsSourceOf (globals : List GlobalVariable) (sites : List Site) (g : Node) (p : ℕ) (s : Source) : Type 0 where
  pub writable : IsWritable s
  pub leads : (q : ℕ) → paths_from s q ≡ actions_between_in globals sites g (suc p) (comes_to q)

pub record AreSources (globals : List GlobalVariable) (sites : List Site) (g : Node) (sources : List Source) : Type 0
  where
    pub count : length sources ≡ length sites
    pub are : (p : ℕ) (s : Source) → slice_get sources p ≡ Some s → IsSourceOf globals sites g p s

-- what going back from the point asks of a tree of these segments
pub record BackNeeds {V H : Type 0} (m : Abstraction V H) (globals : List GlobalVariable) (sites : List Site)
    (ways : List TreeSegment) (forward : List V) (p : ℕ) (tree : Node) : Type 0 where
  pub is_tree : AreSegmentsOf ways tree
  pub few : AreFewIn globals sites tree
  pub wide : AreWide m sites forward
  pub fit : PathsFit globals sites tree
  pub asserts : IsAssertion sites p
  pub asserted : AreAsserted sites tree

-- what is gone back over from the point, if the seed has this exactness
pub record IsPrepared {V H : Type 0} (m : Abstraction V H) (b : BackwardAbstraction V) (globals : List GlobalVariable)
    (sites : List Site) (g : Node) (forward : List V) (p : ℕ) (t : Task V) (e : Exactness) : Type 0 where
  pub base : ℕ
  pub condition : Cond
  pub asserted : IsAsserted g p base condition
  pub at_assertion : V
  pub is_there : slice_get forward p ≡ Some at_assertion
  pub violated : Filters (lossy_back_operations m b).forward base condition false at_assertion e t.seed
  pub sources : AreSources globals sites g t.sources.items

-- what the failure to find paths means here
abbrev pub failed_by : PathsFailure → BackFailure
failed_by paths_failure.Memory = Memory
failed_by (paths_failure.TooMany q) = TooMany q
