-- Goals of `parse_literal`: the literal that the word is, if it is one.
use Rattle.std.proofs.Common.{◌≡◌, ℕ, List, take, drop}
use Rattle.std.specs.List.{prefix_len}
use Rattle.lra_syntax.specs.Lexeme.{is_digit_of, Base}
use Rattle.lra_lex.specs.Literal.{base_of, base_at, front_size}
use Rattle.lra_lex.proofs.{LiteralLemmas.body_long, LiteralLemmas.typed_in, LiteralLemmas.none_in, LiteralLemmas.no_literal, LiteralLemmas.IsSplit, RunLemmas.differ}
use Rattle.lra_lex.proofs.literals.parse_literal.Goals as goal

split : (b : Base) (word body digits suffix : List ℕ) (front n : ℕ) → b ≡ base_at word → front ≡ front_size b → body ≡ drop front word → n ≡ prefix_len (is_digit_of b) body
    → digits ≡ take n body → suffix ≡ drop n body → IsSplit b word digits suffix
split b word body digits suffix front n e f g h k m = record { base = e; digits_are = cc; suffix_is = cc }

pub split_at-requires-2 : goal.split_at-requires-2
split_at-requires-2 c = rw (c.digits_length.ensures, c.split_at.ensures.back, c.front_size.ensures) (body_long (base_of c.of_word-radix.result) c.args.word.now)

pub returns-then-not-is_well_cut-clause-none : goal.returns-then-not-is_well_cut-clause-none
returns-then-not-is_well_cut-clause-none c n l k =
    let s = split (base_of c.of_word-radix.result) c.args.word.now c.split_at.result.1.now c.split_at-2.result.0.now c.split_at-2.result.1.now c.front_size.result c.digits_length.result
    c.of_word-radix.ensures.base c.front_size.ensures c.split_at.ensures.back c.digits_length.ensures c.split_at-2.ensures.front c.split_at-2.ensures.back in
    no_literal (base_of c.of_word-radix.result) c.args.word.now c.split_at-2.result.0.now c.split_at-2.result.1.now s
    (λ f d. differ (c.is_well_cut.ensures.cut f d) c.if-not-is_well_cut.true) n l

pub returns-in-Some-clause-value : goal.returns-in-Some-clause-value
returns-in-Some-clause-value c =
    let s = split (base_of c.of_word-radix.result) c.args.word.now c.split_at.result.1.now c.split_at-2.result.0.now c.split_at-2.result.1.now c.front_size.result c.digits_length.result
    c.of_word-radix.ensures.base c.front_size.ensures c.split_at.ensures.back c.digits_length.ensures c.split_at-2.ensures.front c.split_at-2.ensures.back in
    typed_in (base_of c.of_word-radix.result) c.args.word.now c.split_at-2.result.0.now c.split_at-2.result.1.now c.in-Some.value c.literal_type.result s
    (c.is_well_cut.ensures.suffix c.if-not-is_well_cut.false) (c.is_well_cut.ensures.digits c.if-not-is_well_cut.false) c.in-Some.ensures.value c.literal_type.ensures

pub returns-in-None-clause-none : goal.returns-in-None-clause-none
returns-in-None-clause-none c =
    let s = split (base_of c.of_word-radix.result) c.args.word.now c.split_at.result.1.now c.split_at-2.result.0.now c.split_at-2.result.1.now c.front_size.result c.digits_length.result
    c.of_word-radix.ensures.base c.front_size.ensures c.split_at.ensures.back c.digits_length.ensures c.split_at-2.ensures.front c.split_at-2.ensures.back in
    none_in (base_of c.of_word-radix.result) c.args.word.now c.split_at-2.result.0.now c.split_at-2.result.1.now s c.in-None.ensures.too_large
