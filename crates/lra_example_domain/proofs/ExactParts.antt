-- What the parts of a gauge report is all of it.
use Rattle.std.proofs.Common.{ℕ, zero, suc, ◌<◌, ℤ, List, arith}
use Rattle.lra_domain.specs.{Laws.PartsAreExact, Parts.SomePartHolds}
use Rattle.lra_example_domain.specs.{Abstraction.example_abstraction, Abstraction.example_parts, declared.example.ExampleDomain.ExampleDomain}

some_part : (n bound : ℕ) (s : List ℤ) → SomePartHolds (example_parts n bound) s → 0 < bound
some_part n zero s h = absurd h
some_part n (suc bound) s h = omega arith

pub parts_tell : (v : ExampleDomain) → PartsAreExact example_abstraction v
parts_tell v = λ s long h. (long, some_part v.dims v.bound s h)
