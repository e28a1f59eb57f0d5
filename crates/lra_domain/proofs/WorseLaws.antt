-- The worse of two answers is exact only if both are; of three it is the same in either grouping.
use Rattle.std.proofs.Common.{◌≡◌, refl}
use Rattle.lra_domain.specs.{Abstraction.worse, declared.Exactness.Exactness, declared.Exactness.TheVariants.Exact, declared.Exactness.TheVariants.Flagged}

pub exact_parts : (c d : Exactness) → worse c d ≡ Exact → (c ≡ Exact) × (d ≡ Exact)
exact_parts Exact d h = (refl, h)
exact_parts Flagged d h = cc

pub worse_behind : (a b c : Exactness) → worse a (worse b c) ≡ worse (worse a b) c
worse_behind Exact b c = refl
worse_behind Flagged b c = refl
