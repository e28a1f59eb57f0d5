-- What lines say whose words are known. Which slip an example would catch stands beside it.
use Rattle.std.proofs.Common.{◌≡◌, ℕ, pos, negsuc, List, [], ◌∷◌, ◌++◌, refl, Option, Some, None, true, false}
use Rattle.std.specs.Prelude.{codes}
use Rattle.lra_script.specs.Crates.lra_linear_spec.Descriptions.{inequality, equality, generator, line}
use Rattle.lra_script.specs.Crates.lra_linear_spec.declared.GenKind.TheVariants as gen
use Rattle.lra_script.specs.LineForms.{Line, Dims, Make, Ask, Con, Gen, Combine, Widen, Limited, Map, Forget, Show, Holds, Include, Maximise, row_of_generator, line_of}
use Rattle.lra_script.specs.ScriptText.{lines, words, is_skipped, is_name, number_of}
use Rattle.lra_script.specs.declared.recipes.Combination.TheVariants.{Meet, Hull, Elapse}
use Rattle.lra_script.specs.declared.recipes.Mapping.TheVariants.{Image, Preimage}

-- catches a return that stays if no line feed follows it, and one that is dropped twice
returns : lines (codes "a" ++ 13 ∷ 10 ∷ 13 ∷ 13 ∷ 10 ∷ (codes "b" ++ 13 ∷ [])) ≡ codes "a" ∷ (13 ∷ []) ∷ codes "b" ∷ []
returns = refl

-- catches a tab as a space, and a comment after a space
skipped_lines : (is_skipped [] ≡ true) × (is_skipped (codes "  ") ≡ true) × (is_skipped (codes "# con") ≡ true) × (is_skipped (codes " #") ≡ false) × (is_skipped (9 ∷ []) ≡ false)
skipped_lines = (refl, refl, refl, refl, refl)

some_words : words (codes " con  P >= 1 ") ≡ codes "con" ∷ codes "P" ∷ codes ">=" ∷ codes "1" ∷ []
some_words = refl

some_names : (is_name (codes "P2x") ≡ true) × (is_name (codes "p") ≡ false) × (is_name (codes "P_") ≡ false) × (is_name (codes "2P") ≡ false)
some_names = (refl, refl, refl, refl)

some_numbers : (number_of (codes "-12") ≡ Some (negsuc 11)) × (number_of (codes "007") ≡ Some (pos 7)) × (number_of (codes "-0") ≡ Some (pos 0)) × (number_of (codes "+1") ≡ None) ×
    (number_of (codes "-") ≡ None) × (number_of (codes "--1") ≡ None)
some_numbers = (refl, refl, refl, refl, refl, refl)

-- catches -2^127 as a number of the range
range_ends : (number_of (codes "-170141183460469231731687303715884105728") ≡ None)
    × (number_of (codes "170141183460469231731687303715884105727") ≡ Some (pos 170141183460469231731687303715884105727))
range_ends = (refl, refl)

-- what the words of a line say
abbrev said : List ℕ → Option Line
said line = line_of (words line)

constraints_line : said (codes "con P >= 0 1 ; = -3 1") ≡ Some (Make (codes "P") (Con (inequality (pos 0 ∷ pos 1 ∷ []) ∷ equality (negsuc 2 ∷ pos 1 ∷ []) ∷ [])))
constraints_line = refl

-- catches a row that is read as none, a row without a relation, and a `;` that is no word of its own
bad_constraints : (said (codes "con P") ≡ Some (Make (codes "P") (Con []))) × (said (codes "con P ;") ≡ None) × (said (codes "con P >= 1 ;") ≡ None) × (said (codes "con P 1") ≡ None) ×
    (said (codes "con P >= 1; >= 2") ≡ None)
    × (said (codes "con") ≡ None) × (said (codes "con p") ≡ None)
bad_constraints = (refl, refl, refl, refl, refl, refl, refl)

-- catches a divisor that is asked of a ray, one of a point that isn't, and a generator without a kind
generators_line : (said (codes "gen P point 2 0 ; ray 0 ; line -1") ≡ Some (Make (codes "P") (Gen (
    record { kind = gen.Point; numbers = pos 2 ∷ pos 0 ∷ [] } ∷ record { kind = gen.Ray; numbers = pos 0 ∷ [] } ∷ record { kind = gen.Line; numbers = negsuc 0 ∷ [] } ∷ []))))
    × (said (codes "gen P") ≡ Some (Make (codes "P") (Gen []))) × (said (codes "gen P point 0 1") ≡ None) × (said (codes "gen P 1 0") ≡ None) × (said (codes "gen P point 1 0 ;") ≡ None) ×
    (said (codes "gen p") ≡ None)
generators_line = (refl, refl, refl, refl, refl, refl)

-- catches a 0 that is left out before a ray's numbers, and a line as a ray
given_rows : (row_of_generator (record { kind = gen.Point; numbers = pos 2 ∷ pos 0 ∷ [] }) ≡ generator (pos 2 ∷ pos 0 ∷ []))
    × (row_of_generator (record { kind = gen.Ray; numbers = pos 3 ∷ [] }) ≡ generator (pos 0 ∷ pos 3 ∷ []))
    × (row_of_generator (record { kind = gen.Line; numbers = pos 3 ∷ [] }) ≡ line (pos 0 ∷ pos 3 ∷ []))
given_rows = (refl, refl, refl)

show_lines : (said (codes "show P") ≡ Some (Ask (Show (codes "P")))) × (said (codes "show") ≡ None) × (said (codes "show P Q") ≡ None) × (said (codes "show 1") ≡ None)
show_lines = (refl, refl, refl, refl)

-- catches 33 dimensions, and a divisor 0
limits : (said (codes "dims 32") ≡ Some (Dims 32)) × (said (codes "dims 33") ≡ None) × (said (codes "dims -1") ≡ None) × (said (codes "dims 1 2") ≡ None) × (said (codes "dims") ≡ None)
    × (said (codes "holds P 0 1") ≡ None) × (said (codes "holds P -1 1") ≡ None) × (said (codes "holds P") ≡ Some (Ask (Holds (codes "P") [])))
limits = (refl, refl, refl, refl, refl, refl, refl, refl)

-- catches an operand that is no name, a name too few, and one too many
combined_lines : (said (codes "meet R P Q") ≡ Some (Make (codes "R") (Combine Meet (codes "P") (codes "Q")))) ×
    (said (codes "hull P P P") ≡ Some (Make (codes "P") (Combine Hull (codes "P") (codes "P")))) ×
    (said (codes "elapse R P Q") ≡ Some (Make (codes "R") (Combine Elapse (codes "P") (codes "Q")))) × (said (codes "meet R P q") ≡ None) × (said (codes "meet R P") ≡ None) ×
    (said (codes "hull R P Q S") ≡ None)
combined_lines = (refl, refl, refl, refl, refl, refl)

-- catches given constraints that a `widen` may have, a `limited` whose second set is a row, and a `;` after the sets
widened_lines : (said (codes "widen R P Q") ≡ Some (Make (codes "R") (Widen (codes "P") (codes "Q")))) × (said (codes "widen R P") ≡ None) × (said (codes "widen R P Q >= 1 0") ≡ None) ×
    (said (codes "limited R P Q >= 1 0") ≡ Some (Make (codes "R") (Limited (codes "P") (codes "Q") (inequality (pos 1 ∷ pos 0 ∷ []) ∷ [])))) ×
    (said (codes "limited R P Q") ≡ Some (Make (codes "R") (Limited (codes "P") (codes "Q") []))) × (said (codes "limited R P >= 1 0") ≡ None) × (said (codes "limited R P Q ; >= 1 0") ≡ None)
widened_lines = (refl, refl, refl, refl, refl, refl, refl)

-- catches a form before its coordinate, and a coefficient of more than 64 bits
map_lines : (said (codes "image R P 1 0 2") ≡ Some (Make (codes "R") (Map Image (codes "P") 1 (pos 0 ∷ pos 2 ∷ [])))) ×
    (said (codes "preimage R P 2") ≡ Some (Make (codes "R") (Map Preimage (codes "P") 2 []))) × (said (codes "image R P") ≡ None) × (said (codes "image R P 33 0 1") ≡ None) ×
    (said (codes "image R P 1 0 9223372036854775808") ≡ None)
map_lines = (refl, refl, refl, refl, refl)

-- catches a coordinate that is no number, and one that can be none
forget_lines : (said (codes "forget R P 2") ≡ Some (Make (codes "R") (Forget (codes "P") 2))) × (said (codes "forget R P") ≡ None) × (said (codes "forget R P 33") ≡ None) ×
    (said (codes "forget R P -1") ≡ None) × (said (codes "forget R P x1") ≡ None) × (said (codes "forget R P 1 2") ≡ None)
forget_lines = (refl, refl, refl, refl, refl, refl)

-- catches the largest number of 64 bits that is refused, and the next one that is taken
question_lines : (said (codes "include P Q") ≡ Some (Ask (Include (codes "P") (codes "Q")))) × (said (codes "include P") ≡ None) × (said (codes "include P Q R") ≡ None) ×
    (said (codes "maximise P 1 -2") ≡ Some (Ask (Maximise (codes "P") (pos 1 ∷ negsuc 1 ∷ [])))) × (said (codes "maximise P") ≡ Some (Ask (Maximise (codes "P") []))) ×
    (said (codes "maximise P 9223372036854775807 -9223372036854775808") ≡ Some (Ask (Maximise (codes "P") (pos 9223372036854775807 ∷ negsuc 9223372036854775807 ∷ [])))) ×
    (said (codes "maximise P 9223372036854775808") ≡ None) × (said (codes "maximise P -9223372036854775809") ≡ None) × (said (codes "maximise 1") ≡ None)
question_lines = (refl, refl, refl, refl, refl, refl, refl, refl, refl)
