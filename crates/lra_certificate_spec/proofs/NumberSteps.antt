-- Numbers of a line, word by word.
use Rattle.std.proofs.Common.{◌≡◌, ◌⊎◌, ◌<◌, ◌≤◌, ◌+◌, ℕ, suc, ℤ, Bool, true, false, cond, ◌&&◌, not, nat_eq, List, [], ◌∷◌, ◌++◌, length, take, drop, refl, ap, sym, ◌∙◌, subst, arith, inl, inr}
use Rattle.std.proofs.Common.{Option, Some, None, append_assoc, append-nil, get_or, drop-cons, add-one, length-append, eq-eqb}
use Rattle.std.proofs.{lemmas.Bool.and_parts, lemmas.List.Splits.slice_split_first, lemmas.List.Splits.slice_split_none, lemmas.List.Splits.slice_split-cons_no}
use Rattle.std.proofs.{lemmas.Bool.cases_lt, lemmas.Bool.ne_eqb, lemmas.Bool.Decides.nat_tests, lemmas.Bool.Decides.Decides-eqb, lemmas.Grind.common_steps, lemmas.List.take_all, lemmas.List.drop_all}
use Rattle.std.proofs.{lemmas.List.length-take-le, lemmas.List.Sums.fails_before_first, lemmas.List.Sums.passes_at_first, lemmas.Slice.Eq.starts_is}
use Rattle.std.specs.List.{list_all, slice_split, starts_with, onto_first, position_or_len}
use Rattle.std.specs.{Char.is_ascii_digit, Prelude.◌||◌, Prelude.codes, Prelude.if◌then◌else◌, Str.bytes_eq, Str.Parse.signed_digits_value}
use Rattle.lra_certificate_spec.specs.Crates.lra_linear_spec.Range.{in_range}
use Rattle.lra_script.specs.ScriptText.{is_number, number_of}
use Rattle.lra_certificate_spec.specs.Judged.{is_magnitude, begins_with_minus, is_spelled, number_in, then_number, numbers_in, words_of, spaced_numbers, so_many}
use Rattle.lra_certificate_spec.specs.NumberViews.{HasNoWord, IsWordOf}

-- ---- one number
magnitude_digits : (ds : List ℕ) → is_magnitude ds ≡ true → not (nat_eq (length ds) 0) && list_all is_ascii_digit ds ≡ true
magnitude_digits [] h = cc
magnitude_digits (b ∷ bs) h = grind (arith, nat_tests)

pub zero_word : (word : List ℕ) → bytes_eq word (codes "0") ≡ true → word ≡ 48 ∷ []
zero_word [] h = cc
zero_word (b ∷ []) h = let p = and_parts (nat_eq b 48) true h in ap (λ x. x ∷ []) (let q = p.0 in grind (arith, nat_tests))
zero_word (b ∷ c ∷ cs) h = let p = and_parts (nat_eq b 48) false h in absurd (let q = p.1 in cc)

pub either : (a b : Bool) → a || b ≡ true → (a ≡ true) ⊎ (b ≡ true)
either true b h = inl refl
either false b h = inr h

spelled_is : (word : List ℕ) → (bytes_eq word (codes "0") ≡ true) ⊎ (is_magnitude (if begins_with_minus word then drop 1 word else word) ≡ true) →
    is_number word ≡ true
spelled_is word (inl h) = subst (λ (w : List ℕ). is_number w ≡ true) (sym (zero_word word h)) refl
spelled_is [] (inr h) = cc
spelled_is (c ∷ cs) (inr h) = magnitude_digits (if nat_eq c 45 then cs else c ∷ cs) h

spelled_is_number : (word : List ℕ) → is_spelled word ≡ true → is_number word ≡ true
spelled_is_number word h = spelled_is word (either _ _ h)

pub spelled_number : (word : List ℕ) → is_spelled word ≡ true → number_of word ≡ number_in word
spelled_number word h =
    ap (λ (b : Bool). cond (b && in_range (signed_digits_value 10 word)) (Some (signed_digits_value 10 word)) None) (spelled_is_number word h ∙ sym h)

pub no_spelling : (word : List ℕ) → is_spelled word ≡ false → None ≡ number_in word
no_spelling word h = sym (ap (λ (b : Bool). cond (b && in_range (signed_digits_value 10 word)) (Some (signed_digits_value 10 word)) None) h)

-- ---- words
abbrev is_space : ℕ → Bool
is_space b = nat_eq b 32

abbrev numbers_at : List ℕ → Option (List ℤ)
numbers_at text = spaced_numbers (words_of text)

is_32 : (b : ℕ) → is_space b ≡ true → b ≡ 32
is_32 b h = grind (arith, nat_tests)

module _ (rest : List ℕ) where
  abbrev n : ℕ
  n = position_or_len is_space rest

  first_by : (n < length rest) ⊎ (length rest ≤ n) → numbers_in (words_of rest) ≡ then_number (number_in (take n rest)) (numbers_at (drop n rest))
  first_by (inl l) =
      ap numbers_in (slice_split_first is_space rest 0 l) ∙
      ap (λ (x : List ℕ). then_number (number_in (take n rest)) (numbers_at x))
      (sym (drop-cons rest n 0 l ∙ ap (λ (b : ℕ). b ∷ drop (suc n) rest) (is_32 (get_or rest n 0) (passes_at_first is_space rest 0 l))
      ∙ ap (λ (k : ℕ). 32 ∷ drop k rest) (let e : suc n ≡ n + 1 = omega arith in e)))
  first_by (inr h) =
      ap numbers_in (slice_split_none is_space rest (λ k d j. fails_before_first is_space rest k d (omega (arith, h, j)))) ∙
      ap (λ (x : List ℕ). then_number (number_in x) (Some [])) (sym (take_all n rest h)) ∙
      ap (λ (x : List ℕ). then_number (number_in (take n rest)) (numbers_at x)) (sym (drop_all n rest h))

  pub word_behind : numbers_in (words_of rest) ≡ then_number (number_in (take n rest)) (numbers_at (drop n rest))
  word_behind = first_by (cases_lt n (length rest))

  few : length (take n rest) + 1 ≤ length (32 ∷ rest)
  few = grind (arith, common_steps)

  all_taken : (n < length rest) ⊎ (length rest ≤ n) → drop (length (take n rest) + 1) (32 ∷ rest) ≡ drop n rest
  all_taken (inl l) = ap (λ (j : ℕ). drop (j + 1) (32 ∷ rest)) (length-take-le n rest (omega (arith, l))) ∙ ap (λ (j : ℕ). drop j (32 ∷ rest)) (add-one n)
  all_taken (inr h) =
      ap (λ (x : List ℕ). drop (length x + 1) (32 ∷ rest)) (take_all n rest h) ∙ ap (λ (j : ℕ). drop j (32 ∷ rest)) (add-one (length rest)) ∙
      drop_all (length rest) rest (omega arith) ∙ sym (drop_all n rest h)

  pub word_of : IsWordOf (32 ∷ rest) (take n rest)
  word_of = record {
    within = few;
    numbers = word_behind ∙ ap (λ (x : List ℕ). then_number (number_in (take n rest)) (numbers_at x)) (sym (all_taken (cases_lt n (length rest))));
  }

other_first : (b : ℕ) (parts : List (List ℕ)) → spaced_numbers (onto_first b parts) ≡ None
other_first b [] = refl
other_first b (part ∷ parts) = refl

not_behind : (b : ℕ) (bs : List ℕ) → is_space b ≡ false → numbers_at (b ∷ bs) ≡ None
not_behind b bs h = ap spaced_numbers (slice_split-cons_no is_space b bs h) ∙ other_first b (slice_split is_space bs)

-- ---- the numbers so far
abbrev pub onto : {A : Type 0} → List A → Option (List A) → Option (List A)
onto xs None = None
onto xs (Some ys) = Some (xs ++ ys)

onto_more : (xs : List ℤ) (z : ℤ) (r : Option (List ℤ)) → onto (xs ++ z ∷ []) r ≡ onto xs (then_number (Some z) r)
onto_more xs z None = refl
onto_more xs z (Some ys) = ap Some (append_assoc xs (z ∷ []) ys)

module _ (count : ℕ) (xs : List ℤ) (rest : List ℕ) (all : Option (List ℤ)) (so_far : onto xs (numbers_at rest) ≡ all) where
  pub number_more : (word : List ℕ) (z : ℤ) → IsWordOf rest word → Some z ≡ number_in word → onto (xs ++ z ∷ []) (numbers_at (drop (length word + 1) rest)) ≡
      all
  number_more word z w e =
      onto_more xs z (numbers_at (drop (length word + 1) rest)) ∙ ap (λ (o : Option ℤ). onto xs (then_number o (numbers_at (drop (length word + 1) rest))))
      e ∙
      ap (onto xs) (sym w.numbers) ∙ so_far

  pub number_none : (word : List ℕ) → IsWordOf rest word → None ≡ number_in word → None ≡ so_many count all
  number_none word w e =
      ap (λ (o : Option ℤ). so_many count (onto xs (then_number o (numbers_at (drop (length word + 1) rest))))) e ∙
      ap (λ (o : Option (List ℤ)). so_many count (onto xs o)) (sym w.numbers) ∙ ap (so_many count) so_far

  few_of : (o : Option (List ℤ)) → numbers_at rest ≡ o → length xs < count → (o ≡ Some []) ⊎ (o ≡ None) → None ≡ so_many count all
  few_of o e l (inl h) =
      sym (ap (λ (b : Bool). if b then Some (xs ++ []) else None) (ne_eqb (length (xs ++ [])) count (λ k. absurd (omega (
        arith,
        k,
        ap length (append-nil xs),
        l,
      ))))) ∙
      ap (λ (o : Option (List ℤ)). so_many count (onto xs o)) (sym (e ∙ h)) ∙ ap (so_many count) so_far
  few_of o e l (inr h) = ap (λ (o : Option (List ℤ)). so_many count (onto xs o)) (sym (e ∙ h)) ∙ ap (so_many count) so_far

  pub word_none : length xs < count → HasNoWord rest → None ≡ so_many count all
  word_none l h = few_of (numbers_at rest) refl l h

  pub numbers_done : length xs ≡ count → rest ≡ [] → Some xs ≡ so_many count all
  numbers_done e nil =
      sym (ap (λ (b : Bool). if b then Some (xs ++ []) else None) (eq-eqb (length (xs ++ [])) count (ap length (append-nil xs) ∙ e)) ∙
      ap Some (append-nil xs)) ∙
      ap (λ (r : List ℕ). so_many count (onto xs (numbers_at r))) (sym nil) ∙ ap (so_many count) so_far

  longer : (o : Option (List ℤ)) → length xs ≡ count → (z : Option ℤ) (r : Option (List ℤ)) → o ≡ then_number z r → None ≡ so_many count (onto xs o)
  longer o e None r h = ap (λ (o : Option (List ℤ)). so_many count (onto xs o)) (sym h)
  longer o e (Some z) None h = ap (λ (o : Option (List ℤ)). so_many count (onto xs o)) (sym h)
  longer o e (Some z) (Some ys) h =
      sym (ap (λ (b : Bool). if b then Some (xs ++ z ∷ ys) else None)
      (ne_eqb (length (xs ++ z ∷ ys)) count (λ k. absurd (omega (arith, k, length-append xs (z ∷ ys), e))))) ∙
      ap (λ (o : Option (List ℤ)). so_many count (onto xs o)) (sym h)

  pub too_many : length xs ≡ count → 0 < length rest → None ≡ so_many count all
  too_many e l = by rest l refl ∙ ap (so_many count) so_far
    where
      by : (text : List ℕ) → 0 < length text → text ≡ rest → None ≡ so_many count (onto xs (numbers_at rest))
      by [] l h = absurd (omega (arith, l))
      by (b ∷ bs) l h = each (is_space b) refl
        where
          each : (t : Bool) → is_space b ≡ t → None ≡ so_many count (onto xs (numbers_at rest))
          each true s = longer (numbers_at rest) e _ _ (ap numbers_at (sym h ∙ ap (λ (c : ℕ). c ∷ bs) (is_32 b s)) ∙ word_behind bs)
          each false s = ap (λ (o : Option (List ℤ)). so_many count (onto xs o)) (sym (ap numbers_at (sym h) ∙ not_behind b bs s))

other_byte : (b : ℕ) → nat_eq 32 b && true ≡ false → is_space b ≡ false
other_byte b h = grind (arith, nat_tests)

pub no_word : (text : List ℕ) → starts_with nat_eq text (32 ∷ []) ≡ false → HasNoWord text
no_word [] h = inl refl
no_word (b ∷ bs) h = inr (not_behind b bs (other_byte b h))

-- the word after the space, as it is cut off
pub word_cut : (text rest word : List ℕ) (n : ℕ) → starts_with nat_eq text (32 ∷ []) ≡ true → rest ≡ drop 1 text → n ≡ position_or_len is_space rest → word ≡
    take n rest →
    IsWordOf text word
word_cut text rest word n s r e w =
    subst (λ (x : List ℕ). IsWordOf x word) (ap (λ (x : List ℕ). 32 ∷ x) r ∙ sym ((starts_is Decides-eqb text (32 ∷ []) (starts_with nat_eq text (32 ∷ []))
    refl).0 s))
    (subst (λ (x : List ℕ). IsWordOf (32 ∷ rest) x) (ap (λ (k : ℕ). take k rest) (sym e) ∙ sym w) (word_of rest))
