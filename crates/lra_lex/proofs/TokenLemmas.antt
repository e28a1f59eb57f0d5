-- The token at the start.
use Rattle.std.proofs.Common.{◌≡◌, ℕ, suc, ◌<◌, ◌≤◌, true, false, List, [], ◌∷◌, length, get_or, take, drop, Option, Some, None, refl, sym, ap, ◌∙◌, subst, arith, inl, inr, min}
use Rattle.std.proofs.{lemmas.Bool.cases_lt, lemmas.Bool.and_from, lemmas.Bool.leb-true, lemmas.List.take_at, lemmas.List.take_all, lemmas.List.length-take, lemmas.List.Sums.prefix_len-le-length}
use Rattle.std.specs.List.{list_all, prefix_len}
use Rattle.lra_base.specs.declared.number_types.NumberType.{NumberType}
use Rattle.lra_syntax.specs.Lexeme.{is_word_byte, is_letter, is_digit, is_name_word, is_number_word, mark_text, IsLiteral, greatest_literal, word, number_word, unclosed, IsUnclosed, SpellsToken}
use Rattle.lra_syntax.specs.{Lexeme.literal_text, Lexeme.mark_of, Lexeme.comment, Lexeme.literal_type, Tokens.IsLongest, declared.tokens.Kind.Kind, declared.tokens.Mark.Mark}
use Rattle.lra_syntax.specs.declared.tokens.Kind.TheVariants as kind
use Rattle.lra_lex.specs.{Prefixes.opens_comment, Prefixes.found_mark, Prefixes.operator_at, Read.BeginsToken}
use Rattle.lra_lex.proofs.{LexemeLemmas.longest_word, LexemeLemmas.longest_whole, LexemeLemmas.operator_found, LexemeLemmas.letter_is, LexemeLemmas.digit_is, MarkLemmas.mark_some, RunLemmas.run_is}

-- a run of word bytes, if one is there
run_front : (c : ℕ) (cs : List ℕ) → is_word_byte c ≡ true → take (prefix_len is_word_byte (c ∷ cs)) (c ∷ cs) ≡ c ∷ take (prefix_len is_word_byte cs) cs
run_front c cs h = let e : prefix_len is_word_byte (c ∷ cs) ≡ suc (prefix_len is_word_byte cs) = rw h (omega arith) in ap (λ (n : ℕ). take n (c ∷ cs)) e

run_some : (rest : List ℕ) → 0 < length rest → is_word_byte (get_or rest 0 0) ≡ true → 0 < prefix_len is_word_byte rest
run_some [] l h = absurd (omega arith)
run_some (c ∷ cs) l h = rw h (omega arith)

pub word_at : (rest s : List ℕ) → 0 < length rest → is_letter (get_or rest 0 0) ≡ true → s ≡ take (prefix_len is_word_byte rest) rest → is_name_word s ≡ true
word_at [] s l h e = absurd (omega arith)
word_at (c ∷ cs) s l h e = rw (e, run_front c cs (letter_is c h)) (and_from (is_letter c) (list_all is_word_byte (take (prefix_len is_word_byte cs) cs)) h (run_is is_word_byte cs).passes)

pub number_at : (rest s : List ℕ) → 0 < length rest → is_digit (get_or rest 0 0) ≡ true → s ≡ take (prefix_len is_word_byte rest) rest → is_number_word s ≡ true
number_at [] s l h e = absurd (omega arith)
number_at (c ∷ cs) s l h e = rw (e, run_front c cs (digit_is c h)) (and_from (is_digit c) (list_all is_word_byte (take (prefix_len is_word_byte cs) cs)) h (run_is is_word_byte cs).passes)

longest_at : (rest : List ℕ) → 0 < length rest → is_letter (get_or rest 0 0) ≡ true → IsLongest (take (prefix_len is_word_byte rest) rest) rest
longest_at rest l h = longest_word rest (take (prefix_len is_word_byte rest) rest) (drop (prefix_len is_word_byte rest) rest) (run_is is_word_byte rest) (letter_is (get_or rest 0 0) h)
    (word (word_at rest (take (prefix_len is_word_byte rest) rest) l h refl))

longest_number : (rest : List ℕ) → 0 < length rest → is_digit (get_or rest 0 0) ≡ true → IsLongest (take (prefix_len is_word_byte rest) rest) rest
longest_number rest l h = longest_word rest (take (prefix_len is_word_byte rest) rest) (drop (prefix_len is_word_byte rest) rest) (run_is is_word_byte rest) (digit_is (get_or rest 0 0) h)
    (number_word (number_at rest (take (prefix_len is_word_byte rest) rest) l h refl))

pub word_token_is : (rest s : List ℕ) (n : ℕ) (k : Kind) → 0 < length rest → is_letter (get_or rest 0 0) ≡ true → n ≡ prefix_len is_word_byte rest → s ≡ take n rest → SpellsToken s k →
    BeginsToken rest n k
word_token_is rest s n k l h e f t = record {
  some = rw e (run_some rest l (letter_is (get_or rest 0 0) h));
  within = rw e (prefix_len-le-length is_word_byte rest);
  longest = rw e (longest_at rest l h);
  spells = subst (λ (z : List ℕ). SpellsToken z k) f t;
}

pub number_token_is : (rest s : List ℕ) (n v : ℕ) (t : NumberType) → 0 < length rest → is_digit (get_or rest 0 0) ≡ true → n ≡ prefix_len is_word_byte rest → s ≡ take n rest →
    (lit : IsLiteral s v) → t ≡ literal_type lit.suffix v → v ≤ greatest_literal → BeginsToken rest n (kind.Number t v)
number_token_is rest s n v t l h e f lit is b = record {
  some = rw e (run_some rest l (digit_is (get_or rest 0 0) h));
  within = rw e (prefix_len-le-length is_word_byte rest);
  longest = rw e (longest_number rest l h);
  spells = subst (λ (z : List ℕ). SpellsToken z (kind.Number t v)) f (literal_text v t (number_at rest s l h (f ∙ ap (λ (z : ℕ). take z rest) e)) lit is b);
}

pub bad_literal : (rest s : List ℕ) (n : ℕ) → 0 < length rest → is_digit (get_or rest 0 0) ≡ true → n ≡ prefix_len is_word_byte rest → s ≡ take n rest →
    ((v : ℕ) → IsLiteral s v → v ≤ greatest_literal → ⊥)
    → (x : List ℕ) × IsLongest x rest × (is_number_word x ≡ true) × ((v : ℕ) → IsLiteral x v → v ≤ greatest_literal → ⊥)
bad_literal rest s n l h e f k =
    let g : s ≡ take (prefix_len is_word_byte rest) rest = f ∙ ap (λ (z : ℕ). take z rest) e in
    (s, subst (λ (z : List ℕ). IsLongest z rest) (sym g) (longest_number rest l h), number_at rest s l h g, k)

pub comment_is : (rest : List ℕ) → 0 < length rest → IsUnclosed rest → BeginsToken rest (length rest) kind.Unclosed
comment_is rest l u = record {
  some = l;
  within = omega arith;
  longest = rw (take_all (length rest) rest (omega arith)) (longest_whole rest (unclosed u));
  spells = rw (take_all (length rest) rest (omega arith)) (comment u);
}

-- operators --------------------------------------------------------------------------------------------------------------

pub pair_is : (rest : List ℕ) (n : ℕ) → n ≡ min (length rest) 2 → take n rest ≡ take 2 rest
pair_is rest n e = elim (cases_lt (length rest) 2) [
  | inl lt ↦ take_all n rest (omega (arith, e, lt)) ∙ sym (take_all 2 rest (omega (arith, lt)))
  | inr ge ↦ let f : n ≡ 2 = omega (arith, e, ge) in ap (λ (z : ℕ). take z rest) f
]

pub operator_other : (rest pair single : List ℕ) (n : ℕ) (o : Option Mark) → n ≡ min (length rest) 2 → pair ≡ take n rest → None ≡ found_mark pair → single ≡ take 1 rest → o ≡ found_mark single →
    o ≡ operator_at rest
operator_other rest pair single n o e f g h k = let i : found_mark (take 2 rest) ≡ None = ap found_mark (sym (f ∙ pair_is rest n e)) ∙ sym g in rw i (k ∙ ap found_mark h)

pub operator_token_is : (rest s : List ℕ) (m : Mark) → is_word_byte (get_or rest 0 0) ≡ false → opens_comment rest ≡ false → Some m ≡ operator_at rest → s ≡ mark_text m →
    BeginsToken rest (length s) (kind.Mark m)
operator_token_is rest s m h o e f =
    let l = operator_found rest m h o (sym e) in
    let t : take (length s) rest ≡ mark_text m = ap (λ (z : ℕ). take z rest) (ap (λ (z : List ℕ). length z) f) ∙ ap (take (length (mark_text m))) l.front ∙
    take_at (mark_text m) l.after (length (mark_text m)) refl in
    let n = leb-true 1 (length (mark_text m)) (mark_some m) in
    let k = ap (λ (z : List ℕ). length z) t in
    let q = ap (λ (z : List ℕ). length z) f in
    record {
      some = omega (arith, n, q);
      within = omega (arith, k, q, length-take (length s) rest);
      longest = rw t l;
      spells = rw t (mark_of m refl);
    }
