-- What moves do to a value: nothing, an action of the domain, one thing after the other, or what one leaves joined
-- with what another leaves.
use Rattle.std.specs.Prelude.{◌≡◌}
use Rattle.lra_domain.specs.Moves.{Moves, stay, make, first_then, join_of}
use Rattle.lra_domain.specs.{Abstraction.worse, declared.Exactness.Exactness, declared.Exactness.TheVariants.Exact}
use Rattle.lra_analysis_spec.specs.Operations.{Operations}

-- from the first value to the second one, with this exactness: flagged if any of it is
abbrev pub AreMade : {V H : Type 0} → Operations V H → Moves → V → Exactness → V → Type 0
AreMade ops stay v e w = (w ≡ v) × (e ≡ Exact)
AreMade ops (make step) v e w = ops.changed step v e w
AreMade {V} ops (first_then a b) v e w =
    (x : V) × (c d : Exactness) × AreMade ops a v c x × AreMade ops b x d w × (e ≡ worse c d)
AreMade {V} ops (join_of a b) v e w = (x y : V) × (c d i : Exactness) × AreMade ops a v c x × AreMade ops b v d y ×
    ops.joined x y i w × (e ≡ worse (worse c d) i)

-- from the first value, to which something of exactness d led, to the second one: with the exactness of all of it
abbrev pub Takes : {V H : Type 0} → Operations V H → Moves → V → Exactness → V → Exactness → Type 0
Takes ops p v d w e = (c : Exactness) × AreMade ops p v c w × (e ≡ worse d c)
