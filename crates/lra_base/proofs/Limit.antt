-- The most bytes of a source or a script, as a number. The definition doesn't unfold by itself.
use Rattle.std.proofs.{Common.◌≡◌, Common.◌<◌, Common.ℕ, Common.List, Common.length, Common.take, Common.refl, Common.arith, lemmas.List.length-take}
use Rattle.lra_base.specs.Places.{greatest_length}

pub limit_is : greatest_length ≡ 65536
unfolding greatest_length
limit_is = refl

-- the first n bytes of a longer source are n
pub taken : (n : ℕ) (source : List ℕ) → n < length source → n ≡ length (take n source)
taken n source h = omega (arith, length-take n source)
