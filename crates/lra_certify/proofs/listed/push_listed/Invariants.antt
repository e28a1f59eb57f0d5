use Rattle.std.proofs.Common.{drop, string_bytes}
use Rattle.lra_certify.specs.WrittenPaths.{ListedLeft}
use Rattle.lra_certify.proofs.listed.push_listed.Given as goal

abbrev pub invariant-loop-point : goal.invariant-loop-point
invariant-loop-point l = ListedLeft l.ways (drop l.point-index l.proved) l.proved (string_bytes l.text) (string_bytes l.initial.text)
