-- A spelling has one mark at most, and a search finds it.
use Rattle.std.proofs.Common.{◌≡◌, ℕ, Bool, true, false, not, ◌||◌, nat_le, List, [], ◌∷◌, length, get_or, Option, Some, None, bytes_eq, find, refl, sym, ap, ◌∙◌, inl, inr}
use Rattle.std.proofs.{lemmas.Bool.cases_Bool, lemmas.Bool.or_cases, lemmas.Slice.Eq.bytes_eq-Decides}
use Rattle.std.specs.List.{list_all}
use Rattle.lra_syntax.specs.{Lexeme.is_word_byte, Lexeme.is_name_word, Lexeme.is_number_word, Lexeme.mark_text, Lexeme.is_among, Lexeme.named_words, Lexeme.further_words, declared.tokens.Mark.Mark}
use Rattle.lra_syntax.specs.declared.tokens.Mark.TheVariants as mark
use Rattle.lra_lex.specs.{Prefixes.found_mark, declared.marks.TheConstants.MARKS}

-- no operator and no reserved word that the grammar names
abbrev pub IsNoMark : List ℕ → Type 0
IsNoMark s = (m : Mark) → s ≡ mark_text m → ⊥

found_back : (m : Mark) → found_mark (mark_text m) ≡ Some m
found_back mark.Plus = refl
found_back _ = refl

some_is : {m k : Mark} → Some m ≡ Some k → m ≡ k
some_is e = cc

-- two marks have two spellings
pub mark_one : (m k : Mark) → mark_text m ≡ mark_text k → m ≡ k
mark_one m k e = some_is (sym (found_back m) ∙ ap found_mark e ∙ found_back k)

find_passes : {X : Type 0} (p : X → Bool) (xs : List X) (x : X) → find p xs ≡ Some x → p x ≡ true
find_passes p [] x e = absurd (cc)
find_passes p (y ∷ xs) x e = elim (cases_Bool (p y)) [
  | inl h ↦ let f : Some y ≡ Some x = rw h at e in let g : y ≡ x = cc in rw (← g) h
  | inr h ↦ let f : find p xs ≡ Some x = rw h at e in find_passes p xs x f
]

pub found_is : (s : List ℕ) (m : Mark) → found_mark s ≡ Some m → s ≡ mark_text m
found_is s m e = sym ((bytes_eq-Decides (mark_text m) s).0 (find_passes (λ k. bytes_eq (mark_text k) s) MARKS m e))

pub found_none : (s : List ℕ) → found_mark s ≡ None → IsNoMark s
found_none s e m f = let g : found_mark s ≡ Some m = ap found_mark f ∙ found_back m in cc

-- what all marks have in common ------------------------------------------------------------------------------------------

pub mark_some : (m : Mark) → nat_le 1 (length (mark_text m)) ≡ true
mark_some mark.Plus = refl
mark_some _ = refl

-- a mark that begins like a word is one
pub mark_wordy : (m : Mark) → (not (is_word_byte (get_or (mark_text m) 0 0)) || list_all is_word_byte (mark_text m)) ≡ true
mark_wordy mark.Plus = refl
mark_wordy _ = refl

pub mark_short : (m : Mark) → (is_word_byte (get_or (mark_text m) 0 0) || nat_le (length (mark_text m)) 2) ≡ true
mark_short mark.Plus = refl
mark_short _ = refl

pub mark_named : (m : Mark) → (not (is_name_word (mark_text m)) || is_among (mark_text m) named_words) ≡ true
mark_named mark.Plus = refl
mark_named _ = refl

pub mark_no_number : (m : Mark) → is_number_word (mark_text m) ≡ false
mark_no_number mark.Plus = refl
mark_no_number _ = refl

pub mark_no_further : (m : Mark) → is_among (mark_text m) further_words ≡ false
mark_no_further mark.Plus = refl
mark_no_further _ = refl

-- a word that is among some has what all of them have
pub among_all : (test : List ℕ → Bool) (s : List ℕ) (words : List (List ℕ)) → list_all test words ≡ true → is_among s words ≡ true → test s ≡ true
among_all test s [] h e = absurd (cc)
among_all test s (w ∷ words) h e = elim (or_cases (bytes_eq s w) (is_among s words) e) [
  | inl k ↦ let same = (bytes_eq-Decides s w).0 k in rw same (elim (cases_Bool (test w)) [ inl t ↦ t | inr f ↦ let g : false ≡ true = rw f at h in absurd (cc) ])
  | inr k ↦ among_all test s words (elim (cases_Bool (test w)) [ inl t ↦ rw t at h | inr f ↦ let g : false ≡ true = rw f at h in absurd (cc) ]) k
]

-- a spelling without a mark is no reserved word that the grammar names
abbrev is_found : Option Mark → Bool
is_found None = false
is_found (Some m) = true

pub not_named : (s : List ℕ) → found_mark s ≡ None → is_among s named_words ≡ false
not_named s e = elim (cases_Bool (is_among s named_words)) [
  | inl h ↦ let f : is_found (found_mark s) ≡ true = among_all (λ z. is_found (found_mark z)) s named_words refl h in let g : is_found None ≡ true = rw e at f in absurd (cc)
  | inr h ↦ h
]
