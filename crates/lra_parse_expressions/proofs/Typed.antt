-- The words of a type, as the code reads them.
use Rattle.std.proofs.Common.{◌≡◌, true, false, Ok, refl, ◌∙◌}
use Rattle.lra_base.specs.declared.number_types.NumberType.TheVariants.{Int, Long}
use Rattle.lra_syntax.specs.declared.tokens.Mark.TheVariants as mark
use Rattle.lra_parser_spec.specs.{Reading.Text, Reading.expect, Reading.ParsesAsErr, Statements.skip, Statements.type_words, Tests.first, Tests.is_mark, declared.reading.Stopped.Stopped}
use Rattle.lra_parser_spec.specs.declared.reading.Stopped.TheVariants as stopped
use Rattle.lra_parse_expressions.proofs.Turning.{expect_value, expect_err, on_side, off_side}

pub int_gives : (T R : Text) → true ≡ is_mark mark.Int (first T) → expect mark.Int (tt {0}) T ≡ Ok (tt {0}, R) → type_words T ≡ Ok (Int, R)
int_gives T R on e = on_side (is_mark mark.Int (first T)) _ _ on ∙ expect_value mark.Int (tt {0}) Int T R e

pub int_exit : (T : Text) (s : Stopped) → true ≡ is_mark mark.Int (first T) → ParsesAsErr s (expect mark.Int (tt {0}) T) → ParsesAsErr s (type_words T)
int_exit T stopped.Memory on e = tt
int_exit T (stopped.Fault f) on e = on_side (is_mark mark.Int (first T)) _ _ on ∙ expect_err mark.Int (tt {0}) Int T f e

pub long_gives : (T R : Text) → false ≡ is_mark mark.Int (first T) → expect mark.Long (tt {0}) T ≡ Ok (tt {0}, R) → type_words T ≡ Ok (Long, skip mark.Int (skip mark.Long R))
long_gives T R off e = off_side (is_mark mark.Int (first T)) _ _ off ∙ rw e refl

pub long_exit : (T : Text) (s : Stopped) → false ≡ is_mark mark.Int (first T) → ParsesAsErr s (expect mark.Long (tt {0}) T) → ParsesAsErr s (type_words T)
long_exit T stopped.Memory off e = tt
long_exit T (stopped.Fault f) off e = off_side (is_mark mark.Int (first T)) _ _ off ∙ rw e refl

pub ruleset type_rules = (int_gives, int_exit, long_gives, long_exit)
