-- Lists with commas as the code takes them: all items in one list.
use Rattle.std.proofs.Common.{◌≡◌, ◌≤◌, true, false, List, [], ◌∷◌, ◌++◌, length, Ok, refl, sym, ap, ◌∙◌, arith}
use Rattle.lra_syntax.specs.declared.tokens.Mark.TheVariants as mark
use Rattle.lra_parser_spec.specs.Reading.{Text, Parse, map_read, tail, list_step, list_of, ParsesAsErr}
use Rattle.lra_parser_spec.specs.{Expressions.after_mark, Statements.commas, Statements.listed, Tests.first, Tests.is_mark, declared.reading.Stopped.Stopped}
use Rattle.lra_parse_expressions.proofs.Turning.{Left, turn_off, comma_turn, comma_exit, commas_gives, commas_exit}

module _ {A : Type 0} (p : Parse A) where
  -- these items were read from S, and the loop goes on at T
  abbrev pub ManyLeft : List A → Text → Text → Type 0
  ManyLeft all T S =
      (a : A) × (is : List A) × (all ≡ a ∷ is) × (M : Text) × (p S ≡ Ok (a, M)) × Left (is_mark mark.Comma) (list_step (after_mark mark.Comma p)) is T
      (list_of (is_mark mark.Comma) (after_mark mark.Comma p) M)

  pub many_start : (all : List A) (a : A) (S M : Text) → all ≡ a ∷ [] → p S ≡ Ok (a, M) → ManyLeft all M S
  many_start all a S M e g = (a, [], e, M, g, (length M, omega arith, refl))

  pub many_turn : (all bs : List A) (i : A) (S T U R : Text) → bs ≡ all ++ i ∷ [] → ManyLeft all T S → true ≡ is_mark mark.Comma (first T) → U ≡ tail T → p U ≡ Ok (i, R) → length R ≤ length U →
      ManyLeft bs R S
  many_turn all bs i S T U R e (a, is, f, M, g, l) on u k less =
      (a, is ++ i ∷ [], e ∙ ap (λ (s : List A). s ++ i ∷ []) f, M, g, comma_turn mark.Comma p is (is ++ i ∷ []) i T U R (list_of (is_mark mark.Comma) (after_mark mark.Comma p) M) refl l on u k less)

  -- the exit by `?` in a turn
  pub many_exit : (all : List A) (S T U : Text) (s : Stopped) → ManyLeft all T S → true ≡ is_mark mark.Comma (first T) → U ≡ tail T → ParsesAsErr s (p U) → ParsesAsErr s (map_read listed (commas p) S)
  many_exit all S T U s (a, is, f, M, g, l) on u k = commas_exit p listed a S M s g (comma_exit mark.Comma p is T U s (list_of (is_mark mark.Comma) (after_mark mark.Comma p) M) l on u k)

  pub many_gives : (all : List A) (S T : Text) → ManyLeft all T S → false ≡ is_mark mark.Comma (first T) → map_read listed (commas p) S ≡ Ok (all, T)
  many_gives all S T (a, is, f, M, g, l) off =
      commas_gives p listed a is S M T g (turn_off (is_mark mark.Comma) (list_step (after_mark mark.Comma p)) is T (list_of (is_mark mark.Comma) (after_mark mark.Comma p) M) l (sym off)) ∙
      ap (λ (s : List A). Ok (s, T)) (sym f)
