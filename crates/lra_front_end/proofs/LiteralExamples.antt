-- Literals that are small, and literals that aren't. Which slip an example would catch stands beside it.
use Rattle.std.proofs.Common.{◌≡◌, [], Some, true, false, refl}
use Rattle.std.specs.Prelude.{codes}
use Rattle.lra_base.specs.declared.number_types.NumberType.TheVariants.{Int, Long}
use Rattle.lra_front_end.specs.Crates.lra_syntax.Trees.{literal, unary, term, value, test, conjunction, assert, statement, no_items, function}
use Rattle.lra_front_end.specs.Literals.{IsSmallUnary, IsSmallPart}

-- the greatest literal, and the next number
wide_literal : IsSmallUnary (literal Long 9223372036854775807) × (IsSmallUnary (literal Long 9223372036854775808) → ⊥)
wide_literal = (refl, λ h. let e : false ≡ true = h in cc)

-- the greatest `int`, and the next number
wide_int : IsSmallUnary (literal Int 2147483647) × (IsSmallUnary (literal Int 2147483648) → ⊥)
wide_int = (refl, λ h. let e : false ≡ true = h in cc)

-- int main(void){ assert(9223372036854775808); }: catches a body that isn't looked into
wide_in_body : IsSmallPart (function (record {
  result_type = Some Int;
  name = record { word = codes "main"; place = record { line = 1; column = 5 } };
  parameters = [];
  body = statement (assert (record { line = 1; column = 17 }) (conjunction (test (value (term (unary (literal Long 9223372036854775808))))))) no_items;
  end = record { line = 1; column = 46 };
})) → ⊥
wide_in_body h = let e : false ≡ true = h.0 in cc
