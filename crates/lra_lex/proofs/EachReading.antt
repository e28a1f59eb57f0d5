-- Each source has a reading: at each place stands a gap, a token, or a fault.
use Rattle.std.proofs.Common.{◌≡◌, ℕ, zero, suc, ◌+◌, ◌-◌, ◌<◌, ◌≤◌, Bool, true, false, nat_eq, List, [], ◌∷◌, ◌++◌, length, get_or, take, drop, Some, None, bytes_eq, refl, sym, ap, ◌∙◌, subst, arith}
use Rattle.std.proofs.Common.{inl, inr, ◌⊎◌, codes}
use Rattle.std.proofs.{lemmas.Bool.cases_Bool, lemmas.Bool.cases_lt, lemmas.Bool.eqb-true, lemmas.Bool.eqb-false, lemmas.List.append-nil, lemmas.List.length-drop, lemmas.Slice.Eq.bytes_eq-Decides}
use Rattle.std.specs.{List.prefix_len, Prelude.◌≢◌}
use Rattle.lra_base.specs.declared.refusals.Cause.TheVariants.{BadByte, BadLiteral}
use Rattle.lra_base.specs.{Places.place_from, declared.refusals.Cause.Cause, declared.refusals.Place.Place, declared.refusals.Refusal.Refusal}
use Rattle.lra_syntax.specs.Lexeme.{is_letter, is_digit, is_word_byte, is_name_word, is_among, further_words, suffixes, Base, octal, decimal_base, hexadecimal, number_after, IsLiteral}
use Rattle.lra_syntax.specs.Lexeme.{greatest_literal, literal_type, mark_text, SpellsToken, name, mark_of, reserved}
use Rattle.lra_syntax.specs.{Tokens.is_blank, Tokens.bytes_of, Tokens.Lex, Tokens.IsTokenFault, Tokens.end_token, declared.tokens.Kind.Kind, declared.tokens.Token.Token}
use Rattle.lra_syntax.specs.declared.tokens.Kind.TheVariants as kind
use Rattle.lra_lex.specs.Prefixes.{found_mark, operator_at, opens_comment, IsCloseAt, IsFirstClose, IsInclude, BeginsGap, HasNoGap}
use Rattle.lra_lex.specs.{Literal.base_at, Places.fresh_after_bytes, Read.BeginsToken, Read.HasFault, Read.BeginsFound, Read.FaultsAt, Read.found_tokens, declared.lexer.Found.Found}
use Rattle.lra_lex.proofs.GapLemmas.{blank_gap, line_gap, block_gap, no_close, include_is, is_include, include_word, skip_gap, else_no_gap, slash_no_gap}
use Rattle.lra_lex.proofs.TokenLemmas.{word_at, word_token_is, number_token_is, bad_literal, comment_is, operator_token_is}
use Rattle.lra_lex.proofs.{LexemeLemmas.operator_none, LiteralLemmas.literal_cut, LiteralLemmas.cut_literal, LiteralLemmas.digits_of, LiteralLemmas.suffix_of, MarkLemmas.found_is}
use Rattle.lra_lex.proofs.{MarkLemmas.not_named, ReadingLemmas.IsReadTo, ReadingLemmas.found_token, ReadingLemmas.fault_at, ReadingLemmas.read_on, RunLemmas.differ}

-- gaps -----------------------------------------------------------------------------------------------------------------------

-- whether the two bytes at k are `*/`
close_at : (text : List ℕ) (k : ℕ) → IsCloseAt text k ⊎ (IsCloseAt text k → ⊥)
close_at text k = elim (cases_Bool (nat_eq (get_or text k 0) 42)) [
  | inr isnt ↦ inr (λ c. eqb-false (get_or text k 0) 42 isnt c.0)
  | inl star ↦ elim (cases_Bool (nat_eq (get_or text (k + 1) 0) 47)) [
    | inr isnt ↦ inr (λ c. eqb-false (get_or text (k + 1) 0) 47 isnt c.1)
    | inl slash ↦ inl (eqb-true (get_or text k 0) 42 star, eqb-true (get_or text (k + 1) 0) 47 slash)
  ]
]

abbrev NoneBelow : List ℕ → ℕ → Type 0
NoneBelow text n = (k : ℕ) → k < n → IsCloseAt text k → ⊥

none_more : (text : List ℕ) (n : ℕ) → NoneBelow text n → (IsCloseAt text n → ⊥) → NoneBelow text (suc n)
none_more text n none isnt k l c = elim (cases_lt k n) [
  | inl lt ↦ none k lt c
  | inr ge ↦ let same : k ≡ n = omega (arith, l, ge) in isnt (subst (IsCloseAt text) same c)
]

-- the first `*/` among those that begin before the n-th byte, if the text has one more
first_close : (text : List ℕ) (n : ℕ) → n < length text → ((m : ℕ) × IsFirstClose text m) ⊎ NoneBelow text n
first_close text zero l = inr (λ k h c. omega (arith, h))
first_close text (suc n) l = elim (first_close text n (omega (arith, l))) [
  | inl found ↦ inl found
  | inr none ↦ elim (close_at text n) [
    | inr isnt ↦ inr (none_more text n none isnt)
    | inl c ↦ inl (
      n + 2,
      record {
        at_least = omega arith;
        within = omega (arith, l);
        closes = let e : n ≡ n + 2 - 2 = omega arith in subst (IsCloseAt text) e c;
        none_before = λ k h d. none k (omega (arith, h)) d;
      },
    )
  ]
]

abbrev Closes : List ℕ → Type 0
Closes text = ((m : ℕ) × IsFirstClose text m) ⊎ ((k : ℕ) → k + 1 < length text → IsCloseAt text k → ⊥)

closes : (text : List ℕ) → Closes text
closes [] = inr (λ k h c. omega (arith, h))
closes (b ∷ text) = elim (first_close (b ∷ text) (length text) (omega arith)) [
  | inl found ↦ inl found
  | inr none ↦ inr (λ k h c. none k (omega (arith, h)) c)
]

abbrev Gaps : Bool → List ℕ → Type 0
Gaps fresh rest = ((n : ℕ) × BeginsGap fresh rest n) ⊎ HasNoGap fresh rest

short_second : (rest : List ℕ) → length rest ≤ 1 → get_or rest 1 0 ≡ 0
short_second [] h = refl
short_second (c ∷ []) h = refl
short_second (c ∷ d ∷ cs) h = absurd (omega (arith, h))

-- after a `/`
slash_gap : (fresh : Bool) (rest : List ℕ) → get_or rest 0 0 ≡ 47 → Gaps fresh rest
slash_gap fresh rest s = elim (cases_lt 1 (length rest)) [
  | inr short ↦ let none = short_second rest short in inr (slash_no_gap fresh rest s (λ e. omega (arith, e, none)) (λ e. omega (arith, e, none)))
  | inl two ↦ elim (cases_Bool (nat_eq (get_or rest 1 0) 47)) [
    | inl line ↦ inl (_, line_gap fresh rest two s (eqb-true (get_or rest 1 0) 47 line))
    | inr no_line ↦ elim (cases_Bool (nat_eq (get_or rest 1 0) 42)) [
      | inr no_star ↦ inr (slash_no_gap fresh rest s (eqb-false (get_or rest 1 0) 47 no_line) (eqb-false (get_or rest 1 0) 42 no_star))
      | inl star ↦
          let c : get_or rest 1 0 ≡ 42 = eqb-true (get_or rest 1 0) 42 star in
          elim (closes (drop 2 rest)) [ inl found ↦ inl (_, block_gap fresh rest found.0 two s c found.1) | inr none ↦ inr (no_close fresh rest two s c none) ]
    ]
  ]
]

abbrev Includes : List ℕ → Type 0
Includes rest = IsInclude rest ⊎ (IsInclude rest → ⊥)

same_bytes : (s t : List ℕ) → (s ≡ t) ⊎ (s ≡ t → ⊥)
same_bytes s t = elim (cases_Bool (bytes_eq s t)) [
  | inl same ↦ inl ((bytes_eq-Decides s t).0 same)
  | inr isnt ↦ inr (λ e. differ ((bytes_eq-Decides s t).1 e) isnt)
]

includes : (rest : List ℕ) → Includes rest
includes rest = elim (same_bytes (take 1 rest) (codes "#")) [
  | inr isnt ↦ inr (λ i. isnt (is_include rest i).0)
  | inl sharp ↦ elim (same_bytes (include_word rest) (codes "include")) [
    | inr isnt ↦ inr (λ i. isnt (is_include rest i).1)
    | inl word ↦ inl (include_is rest sharp word)
  ]
]

gaps : (fresh : Bool) (rest : List ℕ) → 0 < length rest → Gaps fresh rest
gaps fresh rest l = elim (cases_Bool (is_blank (get_or rest 0 0))) [
  | inl is ↦ inl (1, blank_gap fresh rest l is)
  | inr no_blank ↦ elim (cases_Bool (nat_eq (get_or rest 0 0) 47)) [
    | inl slash ↦ slash_gap fresh rest (eqb-true (get_or rest 0 0) 47 slash)
    | inr no_slash ↦ elim (cases_Bool fresh) [
      | inr stale ↦ inr (else_no_gap fresh rest no_blank (eqb-false (get_or rest 0 0) 47 no_slash) (λ f i. differ f stale))
      | inl f ↦ elim (includes rest) [
        | inl i ↦ inl (_, skip_gap fresh rest f i)
        | inr isnt ↦ inr (else_no_gap fresh rest no_blank (eqb-false (get_or rest 0 0) 47 no_slash) (λ _ i. isnt i))
      ]
    ]
  ]
]

-- tokens ---------------------------------------------------------------------------------------------------------------------

word_kind : (s : List ℕ) → is_name_word s ≡ true → (k : Kind) × SpellsToken s k
word_kind s w = elim (found_mark s) as (λ o. found_mark s ≡ o → (k : Kind) × SpellsToken s k) [
  | Some m ↦ λ e. (kind.Mark m, mark_of m (found_is s m e))
  | None ↦ λ e. elim (cases_Bool (is_among s further_words)) [
    | inl further ↦ (kind.Reserved, reserved further)
    | inr isnt ↦ (kind.Name s, name w (not_named s e) isnt)
  ]
] refl

abbrev Literals : List ℕ → Type 0
Literals s = ((n : ℕ) × IsLiteral s n × (n ≤ greatest_literal)) ⊎ ((n : ℕ) → IsLiteral s n → n ≤ greatest_literal → ⊥)

no_octal : (b : Base) → (b ≡ octal) ⊎ (b ≢ octal)
no_octal octal = inl refl
no_octal decimal_base = inr (λ e. cc)
no_octal hexadecimal = inr (λ e. cc)

some_or_none : (xs : List ℕ) → (xs ≡ []) ⊎ (xs ≢ [])
some_or_none [] = inl refl
some_or_none (x ∷ xs) = inr (λ e. cc)

literals_within : (s : List ℕ) → is_among (suffix_of (base_at s) s) suffixes ≡ true → (base_at s ≢ octal → digits_of (base_at s) s ≢ []) → Literals s
literals_within s suffix digits =
    let n : ℕ = number_after (base_at s) 0 (digits_of (base_at s) s) in
    elim (cases_lt greatest_literal n) [
      | inl large ↦ inr (λ m lit small. let e : m ≡ n = (literal_cut s m lit).number in omega (arith, e, large, small))
      | inr small ↦ inl (n, cut_literal s n (record { suffix = suffix; digits = digits; number = refl }), small)
    ]

literals : (s : List ℕ) → Literals s
literals s = elim (cases_Bool (is_among (suffix_of (base_at s) s) suffixes)) [
  | inr isnt ↦ inr (λ n lit _. differ (literal_cut s n lit).suffix isnt)
  | inl suffix ↦ elim (no_octal (base_at s)) [
    | inl eight ↦ literals_within s suffix (λ isnt. absurd (isnt eight))
    | inr base ↦ elim (some_or_none (digits_of (base_at s) s)) [
      | inr some ↦ literals_within s suffix (λ _. some)
      | inl none ↦ inr (λ n lit _. (literal_cut s n lit).digits base none)
    ]
  ]
]

abbrev Tokens : List ℕ → Type 0
Tokens rest = ((n : ℕ) × (k : Kind) × BeginsToken rest n k) ⊎ ((c : Cause) × HasFault c rest)

word_token : (rest : List ℕ) → 0 < length rest → is_letter (get_or rest 0 0) ≡ true → Tokens rest
word_token rest l h =
    let s = take (prefix_len is_word_byte rest) rest in
    let k = word_kind s (word_at rest s l h refl) in
    inl (_, k.0, word_token_is rest s (prefix_len is_word_byte rest) k.0 l h refl refl k.1)

number_token : (rest : List ℕ) → 0 < length rest → is_digit (get_or rest 0 0) ≡ true → Tokens rest
number_token rest l h =
    let s = take (prefix_len is_word_byte rest) rest in
    elim (literals s) [
      | inl lit ↦ inl (
        _,
        kind.Number (literal_type lit.1.suffix lit.0) lit.0,
        number_token_is rest s (prefix_len is_word_byte rest) lit.0 (literal_type lit.1.suffix lit.0) l h refl refl lit.1 refl lit.2,
      )
      | inr none ↦ inr (BadLiteral, bad_literal rest s (prefix_len is_word_byte rest) l h refl refl none)
    ]

operator_token : (rest : List ℕ) → is_word_byte (get_or rest 0 0) ≡ false → opens_comment rest ≡ false → Tokens rest
operator_token rest no_word no_comment = elim (operator_at rest) as (λ o. operator_at rest ≡ o → Tokens rest) [
  | Some m ↦ λ e. inl (_, kind.Mark m, operator_token_is rest (mark_text m) m no_word no_comment (sym e) refl)
  | None ↦ λ e. inr (BadByte, operator_none rest no_word no_comment e)
] refl

token_or_fault : (fresh : Bool) (rest : List ℕ) → 0 < length rest → HasNoGap fresh rest → Tokens rest
token_or_fault fresh rest l none = elim (cases_Bool (is_letter (get_or rest 0 0))) [
  | inl letter ↦ word_token rest l letter
  | inr no_letter ↦ elim (cases_Bool (is_digit (get_or rest 0 0))) [
    | inl digit ↦ number_token rest l digit
    | inr no_digit ↦ elim (cases_Bool (opens_comment rest)) [
      | inl opens ↦ inl (_, kind.Unclosed, comment_is rest l (none.unclosed opens))
      | inr no_comment ↦ operator_token rest (rw (no_letter, no_digit) refl) no_comment
    ]
  ]
]

-- a piece --------------------------------------------------------------------------------------------------------------------

abbrev Finds : Place → Bool → List ℕ → Type 0
Finds place fresh rest = ((f : Found) × BeginsFound fresh rest f) ⊎ ((r : Refusal) × FaultsAt place fresh rest r)

found_gap : (fresh : Bool) (rest : List ℕ) (n : ℕ) → BeginsGap fresh rest n → BeginsFound fresh rest (record { length = n; kind = None })
found_gap fresh rest n g = record { some = g.some; within = g.within; is_found = g.is_gap }

finds : (place : Place) (fresh : Bool) (rest : List ℕ) → 0 < length rest → Finds place fresh rest
finds place fresh rest l = elim (gaps fresh rest l) [
  | inl g ↦ inl (record { length = g.0; kind = None }, found_gap fresh rest g.0 g.1)
  | inr none ↦ elim (token_or_fault fresh rest l none) [
    | inl t ↦ inl (record { length = t.0; kind = Some t.1 }, found_token fresh rest t.0 t.1 none t.2)
    | inr f ↦ inr (record { cause = f.0; place = place }, fault_at place fresh rest (record { cause = f.0; place = place }) l none (refl, f.1))
  ]
]

-- the whole ------------------------------------------------------------------------------------------------------------------

abbrev pub Reads : List ℕ → Type 0
Reads source = ((T : List Token) × Lex source T) ⊎ ((c : Cause) × (at : Place) × IsTokenFault source c at)

-- what was read to the end is all
all_read : (source : List ℕ) (tokens : List Token) (place : Place) (fresh : Bool) → IsReadTo source [] tokens place fresh → Lex source (tokens ++ end_token source ∷ [])
all_read source tokens place fresh r = (
  r.pieces,
  r.parts ∙ append-nil (bytes_of r.pieces),
  r.reading,
  ap (λ (z : List Token). z ++ end_token source ∷ []) r.tokens_are,
)

stops_there : (source rest : List ℕ) (tokens : List Token) (place : Place) (fresh : Bool) (r : Refusal) → IsReadTo source rest tokens place fresh → FaultsAt place fresh rest r
    → IsTokenFault source r.cause r.place
stops_there source rest tokens place fresh r read f =
    (read.pieces, rest, read.parts, read.reading, f.faulty (bytes_of read.pieces) read.fresh_is, f.at_place ∙ read.place_is)

-- with at most n bytes left
reads_on : (n : ℕ) (source rest : List ℕ) (tokens : List Token) (place : Place) (fresh : Bool) → length rest ≤ n → IsReadTo source rest tokens place fresh → Reads source
reads_on n source [] tokens place fresh l r = inl (_, all_read source tokens place fresh r)
reads_on zero source (c ∷ cs) tokens place fresh l r = absurd (omega (arith, l))
reads_on (suc n) source (c ∷ cs) tokens place fresh l r =
    let rest : List ℕ = c ∷ cs in
    elim (finds place fresh rest (omega arith)) [
      | inr f ↦ inr (f.0.cause, f.0.place, stops_there source rest tokens place fresh f.0 r f.1)
      | inl f ↦
          let k = f.0.length in
          let left : length (drop k rest) ≤ n = omega (arith, l, length-drop k rest, f.1.some) in
          reads_on n source (drop k rest) (tokens ++ found_tokens f.0.kind place) (place_from place (take k rest)) (fresh_after_bytes fresh (take k rest)) left
          (read_on source rest (take k rest) (drop k rest) tokens _ place _ fresh _ k f.0.kind r f.1 refl refl refl refl refl)
    ]

pub each_reading : (source : List ℕ) → Reads source
each_reading source = reads_on (length source) source source [] (record { line = 1; column = 1 }) true (omega arith)
    (record { pieces = []; parts = refl; reading = tt; tokens_are = refl; place_is = refl; fresh_is = refl })
