-- A source has one program, with one tree of operations.
use Rattle.std.proofs.Common.{◌≡◌, ℕ, List, ap, sym, subst}
use Rattle.lra_certificate_spec.specs.Crates.lra_resolution_spec.EntryPoint.{at_main}
use Rattle.lra_certificate_spec.specs.Crates.lra_operations.Agree.{IsInlinedTree}
use Rattle.lra_certificate_spec.specs.Crates.{lra_operations.Tree.Node, lra_program.Program.Program, lra_resolution_spec.Refuse.Accepts, lra_resolution_spec.Resolve.resolve, lra_syntax.Grammar.Spells}
use Rattle.lra_certificate_spec.proofs.Crates.lra_analysis_spec.OneTree.{one_tree}
use Rattle.lra_front_end.proofs.EachAnswer.{each_answer}
use Rattle.lra_front_end.proofs.StageSteps as stages
use Rattle.lra_certificate_spec.specs.Claims.{IsProgram, program_of}

pub accepted_of : (source : List ℕ) (x : IsProgram source) → Accepts at_main Spells source x.tree
accepted_of source x = stages.accepted at_main source x.tree x.read (stages.faultless_main x.tree x.graph.names x.graph.straight x.graph.within)

same_program : (source : List ℕ) (x y : IsProgram source) → program_of x ≡ program_of y
same_program source x y = ap resolve ((each_answer at_main source).0 x.tree y.tree (accepted_of source x) (accepted_of source y))

same_operations : (source : List ℕ) (x y : IsProgram source) → x.operations ≡ y.operations
same_operations source x y =
    let graph : IsInlinedTree (program_of y) x.operations = subst (λ P. IsInlinedTree P x.operations) (same_program source x y) x.graph.is_graph in
    one_tree (program_of y) x.operations y.operations graph y.graph.is_graph

-- what is said of a program with its operations is said of the same with these
pub as_said : (S : Program → Node → Type 0) (source : List ℕ) (x y : IsProgram source) → S (program_of y) y.operations → S (program_of x) x.operations
as_said S source x y h =
    subst (λ g. S (program_of x) g) (sym (same_operations source x y)) (subst (λ P. S P y.operations) (sym (same_program source x y)) h)
