-- The tokens of a source end with the end, and have no other; their numbers are those of their types.
use Rattle.std.proofs.Common.{◌≡◌, ◌≢◌, ◌≤◌, ℕ, pos, Bool, true, false, List, [], ◌∷◌, ◌++◌, refl, sym, subst, arith}
use Rattle.std.proofs.{lemmas.Bool.leb-true, lemmas.Int.ints}
use Rattle.std.specs.{List.AllByRecursion, Prelude.nat_le, Prelude.if◌then◌else◌}
use Rattle.lra_base.specs.{NumberTypes.fits, declared.number_types.NumberType.NumberType, declared.number_types.NumberType.TheVariants.Int, declared.number_types.NumberType.TheVariants.Long}
use Rattle.lra_base.proofs.TypeLimits.{natural_fits}
use Rattle.lra_syntax.specs.Lexeme.{greatest_literal, greatest_int_literal, literal_type, SpellsToken, name, literal_text, mark_of, reserved, comment}
use Rattle.lra_syntax.specs.Tokens.{Fragment, gap, token, tokens_of, IsReading, end_token, Lex}
use Rattle.lra_syntax.specs.{declared.tokens.Kind.Kind, declared.tokens.Kind.TheVariants.End, declared.tokens.Token.Token}
use Rattle.lra_parser_spec.specs.Files.{EndsOnce, IsSmallKind, AreSmall}

not_end : (s : List ℕ) (k : Kind) → SpellsToken s k → k ≢ End
not_end s k (name w n f) = λ e. cc
not_end s k (literal_text n t w l is g) = λ e. cc
not_end s k (mark_of m w) = λ e. cc
not_end s k (reserved w) = λ e. cc
not_end s k (comment w) = λ e. cc

no_end : (before after : List ℕ) (ps : List Fragment) → IsReading before ps after → AllByRecursion (λ (t : Token). t.kind ≢ End) (tokens_of ps)
no_end before after [] h = tt
no_end before after (gap bytes ∷ ps) h = no_end (before ++ bytes) after ps h.1
no_end before after (token bytes t ∷ ps) h = (not_end bytes t.kind h.0.spells, no_end (before ++ bytes) after ps h.1)

pub lexed_end : (source : List ℕ) (tokens : List Token) → Lex source tokens → EndsOnce tokens
lexed_end source tokens (ps, parts, reading, are) = record { front = tokens_of ps; last = end_token source; parts = are; is_end = refl; no_other = no_end [] [] ps reading }

-- a literal is a number of its type
literal_fits : (suffix : List ℕ) (n : ℕ) → n ≤ greatest_literal → fits (literal_type suffix n) (pos n) ≡ true
literal_fits [] n small = by_test (nat_le n greatest_int_literal) refl
  where
    by_test : (b : Bool) → nat_le n greatest_int_literal ≡ b → fits (if b then Int else Long) (pos n) ≡ true
    by_test true is = let low = leb-true n greatest_int_literal is in natural_fits Int n (omega (arith, ints, low))
    by_test false is = natural_fits Long n (omega (arith, ints, small))
literal_fits (c ∷ cs) n small = natural_fits Long n (omega (arith, ints, small))

-- and so are its numbers
spelled_small : (s : List ℕ) (k : Kind) → SpellsToken s k → IsSmallKind k
spelled_small s k (name w n f) = tt
spelled_small s k (literal_text n t w l is g) = subst (λ (u : NumberType). fits u (pos n) ≡ true) (sym is) (literal_fits l.suffix n g)
spelled_small s k (mark_of m w) = tt
spelled_small s k (reserved w) = tt
spelled_small s k (comment w) = tt

read_small : (before after : List ℕ) (ps : List Fragment) (rest : List Token) → IsReading before ps after → AreSmall rest → AreSmall (tokens_of ps ++ rest)
read_small before after [] rest h k = k
read_small before after (gap bytes ∷ ps) rest h k = read_small (before ++ bytes) after ps rest h.1 k
read_small before after (token bytes t ∷ ps) rest h k = (spelled_small bytes t.kind h.0.spells, read_small (before ++ bytes) after ps rest h.1 k)

pub lexed_small : (source : List ℕ) (tokens : List Token) → Lex source tokens → AreSmall tokens
lexed_small source tokens (ps, parts, reading, are) = subst AreSmall (sym are) (read_small [] [] ps (end_token source ∷ []) reading (tt, tt))
