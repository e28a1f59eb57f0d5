use Rattle.std.proofs.Common.{drop, string_bytes}
use Rattle.lra_certify.specs.Crates.{lra_path_disjuncts.TableDisjuncts.lists_done, lra_systems.LinearSystems.constraints}
use Rattle.lra_certify.specs.WrittenPaths.{DeadLeft}
use Rattle.lra_certify.proofs.listed.push_dead_paths.Given as goal

abbrev pub invariant-loop-path : goal.invariant-loop-path
invariant-loop-path l = DeadLeft l.rows.dims (constraints l.rows) (lists_done (drop l.path-index l.paths)) (lists_done l.paths) (string_bytes l.text)
    (string_bytes l.initial.text)
