-- The names of variables that live together are distinguished by what is printed.
use Rattle.std.proofs.Common.{◌≡◌, ◌≢◌, ℕ, zero, suc, ◌+◌, ◌<◌, ◌≤◌, ◌^◌, Bool, true, false, cond, List, [], ◌∷◌, ◌++◌, length, codes, count_by, bytes_eq, refl, ap, sym, ◌∙◌, subst, arith}
use Rattle.std.proofs.Common.{append_assoc, append-nil}
use Rattle.std.proofs.{lemmas.Bool.and_parts, lemmas.Bool.Decides.nat_tests, lemmas.List.Sums.sum_by-cons, lemmas.List.Sums.count_by-le-length, lemmas.Slice.Eq.bytes_eq-Decides}
use Rattle.std.specs.{Char.is_ascii_digit, Fmt.decimal, List.AllByRecursion, List.list_all}
use Rattle.lra_report.specs.Crates.lra_syntax.Lexeme.{is_letter, is_word_byte, is_name_word}
use Rattle.lra_resolution_spec.specs.ShownNames.{shown_name, shown_names}
use Rattle.lra_report.specs.Spelled.{AreWords}
use Rattle.lra_report.proofs.Fronts.{is_visible, AllVisible, IsShownName, AreShownNames, Passes, Ends, front_same, rest_same}
use Rattle.lra_report.proofs.{Numbers.IsShort, Numbers.decimal_passes, Numbers.decimal_same, RowTexts.digit_visible}

-- words --------------------------------------------------------------------------

letter_word_byte : (b : ℕ) → is_letter b ≡ true → is_word_byte b ≡ true
letter_word_byte b h = grind (arith, nat_tests)

letter_no_digit : (b : ℕ) → is_letter b ≡ true → is_ascii_digit b ≡ false
letter_no_digit b h = grind (arith, nat_tests)

word_byte_visible : (b : ℕ) → is_word_byte b ≡ true → is_visible b ≡ true
word_byte_visible b h = grind (arith, nat_tests)

all_pass : (p : ℕ → Bool) (bs : List ℕ) → list_all p bs ≡ true → Passes p bs
all_pass p [] h = tt
all_pass p (b ∷ bs) h = let (here, behind) = and_parts (p b) (list_all p bs) h in (here, all_pass p bs behind)

word_passes : (n : List ℕ) → is_name_word n ≡ true → Passes is_word_byte n
word_passes [] h = cc
word_passes (c ∷ cs) h = let (here, behind) = and_parts (is_letter c) (list_all is_word_byte cs) h in (letter_word_byte c here, all_pass is_word_byte cs behind)

passes_visible : (bs : List ℕ) → Passes is_word_byte bs → AllVisible bs
passes_visible [] h = tt
passes_visible (b ∷ bs) h = (word_byte_visible b h.0, passes_visible bs h.1)

digits_visible : (bs : List ℕ) → Passes is_ascii_digit bs → AllVisible bs
digits_visible [] h = tt
digits_visible (b ∷ bs) h = (digit_visible b h.0, digits_visible bs h.1)

visible_append : (xs ys : List ℕ) → AllVisible xs → AllVisible ys → AllVisible (xs ++ ys)
visible_append [] ys hx hy = hy
visible_append (x ∷ xs) ys hx hy = (hx.0, visible_append xs ys hx.1 hy)

-- a name with its mark -----------------------------------------------------------

abbrev mark : ℕ → List ℕ
mark zero = []
mark (suc k) = 126 ∷ decimal (suc k)

shown_is : (k : ℕ) (n : List ℕ) → shown_name k n ≡ n ++ mark k
shown_is zero n = sym (append-nil n)
shown_is (suc k) n = append_assoc n (codes "~") (decimal (suc k))

mark_ends : (k : ℕ) → Ends is_word_byte (mark k)
mark_ends zero = tt
mark_ends (suc k) = refl

mark_same : (k l : ℕ) → IsShort k → IsShort l → mark k ≡ mark l → k ≡ l
mark_same zero zero hk hl e = refl
mark_same zero (suc l) hk hl e = cc
mark_same (suc k) zero hk hl e = cc
mark_same (suc k) (suc l) hk hl e = (decimal_same (suc k) (suc l) [] [] hk hl tt tt (ap (λ t. t ++ []) (rest_same e))).0

shown_same : (k l : ℕ) (n m : List ℕ) → IsShort k → IsShort l → is_name_word n ≡ true → is_name_word m ≡ true → shown_name k n ≡ shown_name l m → (n ≡ m) × (k ≡ l)
shown_same k l n m hk hl hn hm e =
    let s = front_same is_word_byte n m (mark k) (mark l) (word_passes n hn) (word_passes m hm) (mark_ends k) (mark_ends l) (sym (shown_is k n) ∙ e ∙ shown_is l m) in
    (s.0, mark_same k l hk hl s.1)

mark_visible : (k : ℕ) → AllVisible (mark k)
mark_visible zero = tt
mark_visible (suc k) = (refl, digits_visible (decimal (suc k)) (decimal_passes (suc k)))

marked_word : (k : ℕ) (n : List ℕ) → is_name_word n ≡ true → IsShownName (n ++ mark k)
marked_word k [] hn = cc
marked_word k (c ∷ cs) hn =
    let (here, behind) = and_parts (is_letter c) (list_all is_word_byte cs) hn in
    (letter_no_digit c here, word_byte_visible c (letter_word_byte c here), visible_append cs (mark k) (passes_visible cs (all_pass is_word_byte cs behind)) (mark_visible k))

-- names that live together -------------------------------------------------------

counted : (n m : List ℕ) (ns : List (List ℕ)) → count_by (bytes_eq n) (m ∷ ns) ≡ cond (bytes_eq n m) 1 0 + count_by (bytes_eq n) ns
counted n m ns = sum_by-cons (λ x. cond (bytes_eq n x) 1 0) m ns

count_behind : (n m : List ℕ) (ns : List (List ℕ)) → count_by (bytes_eq n) ns ≤ count_by (bytes_eq n) (m ∷ ns)
count_behind n m ns = let e = counted n m ns in omega (arith, e)

count_itself : (n : List ℕ) (ns : List (List ℕ)) → count_by (bytes_eq n) ns < count_by (bytes_eq n) (n ∷ ns)
count_itself n ns =
    let e = counted n n ns in
    let one : (let x : ℕ = cond (bytes_eq n n) 1 0 in x) ≡ 1 = ap (λ b. (let x : ℕ = cond b 1 0 in x)) ((bytes_eq-Decides n n).1 refl) in
    omega (arith, e, one)

short_count : (n : List ℕ) (ns : List (List ℕ)) → length ns < 2 ^ 64 → IsShort (count_by (bytes_eq n) ns)
short_count n ns few = let most = count_by-le-length (bytes_eq n) ns in omega (arith, most)

-- a name with a mark that is no less than its count differs from all that are shown of the newer ones
others : (n : List ℕ) (k : ℕ) (ns : List (List ℕ)) → is_name_word n ≡ true → IsShort k → count_by (bytes_eq n) ns ≤ k → AllByRecursion (λ m. is_name_word m ≡ true) ns → length ns < 2 ^ 64 →
    AllByRecursion (λ x. shown_name k n ≢ x) (shown_names ns)
others n k [] hn hk most words few = tt
others n k (m ∷ ns) hn hk most words few = (
  λ e.
      let s = shown_same k (count_by (bytes_eq m) ns) n m hk (short_count m ns (omega arith)) hn words.0 e in
      let own : count_by (bytes_eq n) ns < count_by (bytes_eq n) (m ∷ ns) = subst (λ x. count_by (bytes_eq n) ns < count_by (bytes_eq n) (x ∷ ns)) s.0 (count_itself n ns) in
      let same : k ≡ count_by (bytes_eq n) ns = s.1 ∙ ap (λ x. count_by (bytes_eq x) ns) (sym s.0) in
      omega arith,
  others n k ns hn hk (let behind = count_behind n m ns in omega arith) words.1 (omega arith),
)

each_shown : (ns : List (List ℕ)) → AllByRecursion (λ m. is_name_word m ≡ true) ns → length ns < 2 ^ 64 → AreShownNames (shown_names ns)
each_shown [] words few = tt
each_shown (n ∷ ns) words few =
    let k = count_by (bytes_eq n) ns in
    let short : IsShort k = short_count n ns (omega arith) in
    (subst IsShownName (sym (shown_is k n)) (marked_word k n words.0), others n k ns words.0 short (omega arith) words.1 (omega arith), each_shown ns words.1 (omega arith))

pub are_shown : (live : List (List ℕ)) → AreWords live → AreShownNames (shown_names live)
are_shown live h = each_shown live h.words h.few
