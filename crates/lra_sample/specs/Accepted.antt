-- Which sample sources are accepted.
use Rattle.std.specs.Prelude.{ℕ, ◌≤◌}
use Rattle.lra_sample.specs.Crates.lra_resolution_spec.EntryPoint.{at_main}
use Rattle.lra_sample.specs.Crates.lra_syntax.Trees.{FileTree}
use Rattle.lra_sample.specs.Crates.{lra_resolution_spec.Refuse.Accepts, lra_syntax.Grammar.Spells}
use Rattle.lra_sample.specs.Sample.{sample_source}

-- with at most 400 blocks a source of any seed has a tree, and nothing refuses it
abbrev pub SamplesAreAccepted : Type 0
SamplesAreAccepted = (seed size : ℕ) → size ≤ 400 → (t : FileTree) × Accepts at_main Spells (sample_source seed size) t
