-- Lines by the place where they begin.
use Rattle.std.proofs.Common.{◌≡◌, ◌⊎◌, ◌<◌, ◌≤◌, ◌+◌, ℕ, suc, Bool, true, false, List, [], ◌∷◌, ◌++◌, length, take, drop, refl, ap, sym, ◌∙◌, subst, arith, inl, inr, Option, Some, None, append_assoc}
use Rattle.std.proofs.Common.{take-append-drop, nat_eq, cond, drop-drop, length-drop}
use Rattle.std.proofs.lemmas.List.Splits.{slice_split_first, slice_split_none, slice_split_at, length-slice_split, join_with_byte-slice_split}
use Rattle.std.proofs.{Math.Seq.drop-append_seam, lemmas.Bool.cases_lt, lemmas.Bool.Decides.Decides-eqb, lemmas.Grind.common_steps, lemmas.List.Sums.sum_by-append, lemmas.List.Sums.fails_before_first}
use Rattle.std.proofs.{lemmas.Option.same_Some, lemmas.Option.none-some, lemmas.Slice.Eq.bytes_eq-Decides, lemmas.Slice.Eq.starts_is}
use Rattle.std.specs.List.{All, slice_split, starts_with, join_with_byte, position_or_len, count_by}
use Rattle.lra_certificate_spec.specs.Lines.{is_feed, pieces_at, line_number_at, left_at, IsLineAt}
use Rattle.lra_row_text.specs.Texts.{text_line}
use Rattle.lra_certificate_spec.specs.{Judged.line_on, Judged.after_line, Judged.is_next_line}

some_parts : (parts : List (List ℕ)) (line : List ℕ) → 0 < length parts → line_on (line ∷ parts) ≡ Some line
some_parts [] line h = absurd (omega (arith, h))
some_parts (part ∷ parts) line h = refl

pub no_line : (bytes : List ℕ) (at : ℕ) → position_or_len is_feed (drop at bytes) ≡ length (drop at bytes) → line_on (pieces_at bytes at) ≡ None
no_line bytes at e = ap line_on (slice_split_none is_feed (drop at bytes) (λ k d h. fails_before_first is_feed (drop at bytes) k d (omega (arith, e, h))))

count_none : (xs : List ℕ) → All (λ b. is_feed b ≡ false) xs → count_by is_feed xs ≡ 0
count_none xs h = omega (arith, length-slice_split is_feed xs, ap length (slice_split_none is_feed xs h))

counted : (bytes : List ℕ) (k : ℕ) → count_by is_feed bytes ≡ count_by is_feed (take k bytes) + count_by is_feed (drop k bytes)
counted bytes k = ap (count_by is_feed) (sym (take-append-drop k bytes)) ∙ sum_by-append (λ b. cond (is_feed b) 1 0) (take k bytes) (drop k bytes)

module _ (bytes : List ℕ) (at : ℕ) (inside : at ≤ length bytes) where
  abbrev behind : List ℕ
  behind = drop at bytes

  abbrev n : ℕ
  n = position_or_len is_feed behind

  after_it : drop (n + 1) behind ≡ drop (at + n + 1) bytes
  after_it = drop-drop (n + 1) at bytes ∙ ap (λ j. drop j bytes) (let e : at + (n + 1) ≡ at + n + 1 = omega arith in e)

  module _ (l : n < length behind) where
    count_one : count_by is_feed behind ≡ suc (count_by is_feed (drop (at + n + 1) bytes))
    count_one = omega (
      arith,
      length-slice_split is_feed behind,
      ap length (slice_split_first is_feed behind 0 l),
      length-slice_split is_feed (drop (n + 1) behind),
      ap (count_by is_feed) after_it,
    )

    number_behind : suc (line_number_at bytes at) ≡ line_number_at bytes (at + n + 1)
    number_behind = omega (arith, counted bytes at, counted bytes (at + n + 1), count_one)

    pieces_behind : drop 1 (pieces_at bytes at) ≡ pieces_at bytes (at + n + 1)
    pieces_behind = ap (λ (x : List (List ℕ)). drop 1 x) (slice_split_first is_feed behind 0 l) ∙ ap (slice_split is_feed) after_it

    line_length : length (take n behind) ≡ n
    line_length = grind (arith, common_steps)

    on_it : line_on (pieces_at bytes at) ≡ Some (take n behind)
    on_it = ap line_on (slice_split_first is_feed behind 0 l) ∙
        some_parts (slice_split is_feed (drop (n + 1) behind)) (take n behind) (omega (arith, length-slice_split is_feed (drop (n + 1) behind)))

    pub line_there : IsLineAt bytes at (take n behind)
    line_there = record {
      on = on_it;
      after = subst (λ (m : ℕ). after_line (left_at bytes at) ≡ left_at bytes (at + m + 1)) (sym line_length)
          (λ i. record { number = number_behind i; pieces = pieces_behind i });
      within = omega (arith, line_length, l, length-drop at bytes);
    }

-- ---- as the code finds it
pub line_none : (bytes rest : List ℕ) (at n : ℕ) → rest ≡ drop at bytes → n ≡ position_or_len is_feed rest → n ≡ length rest → line_on (pieces_at bytes at) ≡
    None
line_none bytes rest at n r e l =
    no_line bytes at (ap (position_or_len is_feed) (sym r) ∙ sym e ∙ l ∙ ap (λ (x : List ℕ). length x) r)

pub line_found : (bytes rest line : List ℕ) (at n : ℕ) → at ≤ length bytes → rest ≡ drop at bytes → n ≡ position_or_len is_feed rest → (n ≡ length rest →
    ⊥) → n ≤ length rest →
    line ≡ take n rest → IsLineAt bytes at line
line_found bytes rest line at n inside r e other few w =
    let p : n ≡ position_or_len is_feed (drop at bytes) = e ∙ ap (position_or_len is_feed) r in
    let long = ap (λ (x : List ℕ). length x) r in
    let less : n < length rest = omega (arith, other, few) in
    subst (λ (x : List ℕ). IsLineAt bytes at x) (ap (λ (k : ℕ). take k (drop at bytes)) (sym p) ∙ ap (take n) (sym r) ∙ sym w)
    (line_there bytes at inside (omega (arith, sym p, less, long)))

-- a line that begins here
pub line_at_on : (bytes : List ℕ) (at : ℕ) (line : List ℕ) → at ≤ length bytes → line_on (pieces_at bytes at) ≡ Some line → IsLineAt bytes at line
line_at_on bytes at line inside on = by (cases_lt (position_or_len is_feed (drop at bytes)) (length (drop at bytes)))
  where
    by : (position_or_len is_feed (drop at bytes) < length (drop at bytes)) ⊎ (length (drop at bytes) ≤ position_or_len is_feed (drop at bytes)) →
        IsLineAt bytes at line
    by (inl l) =
        let k = line_there bytes at inside l in
        subst (λ (x : List ℕ). IsLineAt bytes at x) (same_Some (take (position_or_len is_feed (drop at bytes)) (drop at bytes)) line (sym k.on ∙ on)) k
    by (inr h) =
        absurd (none-some line (sym (ap line_on (slice_split_none is_feed (drop at bytes) (λ k d j. fails_before_first is_feed (drop at bytes) k d (omega
        (arith, h, j))))) ∙ on))

pub line_text : (pieces : List (List ℕ)) (line : List ℕ) → line_on pieces ≡ Some line → join_with_byte 10 pieces ≡
    text_line line ++ join_with_byte 10 (drop 1 pieces)
line_text [] line e = absurd (none-some line e)
line_text (last ∷ []) line e = absurd (none-some line e)
line_text (x ∷ y ∷ more) line e =
    ap (λ (z : List ℕ). z ++ 10 ∷ join_with_byte 10 (y ∷ more)) (same_Some x line e) ∙ sym (append_assoc line (10 ∷ []) (join_with_byte 10 (y ∷ more)))

line_splits : (rest line : List ℕ) → line_on (slice_split is_feed rest) ≡ Some line → (more : List ℕ) × (rest ≡ line ++ 10 ∷ more)
line_splits rest line e = (
  join_with_byte 10 (drop 1 (slice_split is_feed rest)),
  sym (join_with_byte-slice_split 10 rest) ∙ line_text (slice_split is_feed rest) line e ∙
      append_assoc line (10 ∷ []) (join_with_byte 10 (drop 1 (slice_split is_feed rest))),
)

pub is_line_on : (text : List ℕ) (o : Option (List ℕ)) → is_next_line text o ≡ true → o ≡ Some text
is_line_on text None e = cc
is_line_on text (Some line) e = ap Some ((bytes_eq-Decides line text).0 e)

module _ (bytes rest text : List ℕ) (at : ℕ) (r : rest ≡ drop at bytes) where
  abbrev here : Option (List ℕ)
  here = line_on (pieces_at bytes at)

  stands : here ≡ Some text → (more : List ℕ) × (rest ≡ text ++ 10 ∷ more)
  stands e = let k = line_splits (drop at bytes) text e in (k.0, r ∙ k.1)

  by_stands : ((more : List ℕ) → rest ≡ text ++ 10 ∷ more → ⊥) → is_next_line text here ≡ false
  by_stands never = go (is_next_line text here) refl
    where
      go : (b : Bool) → is_next_line text here ≡ b → is_next_line text here ≡ false
      go true e = absurd (let k = stands (is_line_on text here e) in never k.0 k.1)
      go false e = e

  pub text_none : starts_with nat_eq rest text ≡ false → is_next_line text here ≡ false
  text_none s = by_stands (λ more e. absurd (true_false (sym ((starts_is Decides-eqb rest text (starts_with nat_eq rest text) refl).1 (10 ∷ more) e) ∙ s)))
    where
      true_false : (let b : Bool = true in b) ≡ false → ⊥
      true_false e = cc

  feed_behind : (more : List ℕ) → rest ≡ text ++ 10 ∷ more → drop (length text) rest ≡ 10 ∷ more
  feed_behind more e = ap (λ (x : List ℕ). drop (length text) x) e ∙ drop-append_seam text (10 ∷ more)

  pub text_unended : starts_with nat_eq (drop (length text) rest) (10 ∷ []) ≡ false → is_next_line text here ≡ false
  text_unended s = by_stands (λ more e. absurd (true_false (sym
      ((starts_is Decides-eqb (drop (length text) rest) (10 ∷ []) (starts_with nat_eq (drop (length text) rest) (10 ∷ [])) refl).1 more (feed_behind more
      e)) ∙ s)))
    where
      true_false : (let b : Bool = true in b) ≡ false → ⊥
      true_false e = cc

  module _ (inside : at ≤ length bytes) (clean : All (λ b. is_feed b ≡ false) text) (s : starts_with nat_eq rest text ≡ true)
      (f : starts_with nat_eq (drop (length text) rest) (10 ∷ []) ≡ true) where
    abbrev after : List ℕ
    after = drop 1 (drop (length text) rest)

    found_on : here ≡ Some text
    found_on =
        ap (λ (x : List ℕ). line_on (slice_split is_feed x)) (sym r ∙ (starts_is Decides-eqb rest text (starts_with nat_eq rest text) refl).0 s ∙
        ap (λ (x : List ℕ). text ++ x)
        ((starts_is Decides-eqb (drop (length text) rest) (10 ∷ []) (starts_with nat_eq (drop (length text) rest) (10 ∷ [])) refl).0 f)) ∙
        ap line_on (slice_split_at is_feed text 10 after clean refl) ∙ some_parts (slice_split is_feed after) text (omega (
          arith,
          length-slice_split is_feed
              after,
        ))

    pub text_found : (at + length text + 1 ≤ length bytes) × (is_next_line text here ≡ true) × (after_line (left_at bytes at) ≡
        left_at bytes (at + length text + 1))
    text_found =
        let k = line_at_on bytes at text inside found_on in
        let w = k.within in
        (omega (arith, w), ap (is_next_line text) found_on ∙ (bytes_eq-Decides text text).1 refl, k.after)
