-- Places and prefixes of lines, a piece at a time.
use Rattle.std.proofs.Common.{◌≡◌, ℕ, ◌+◌, ◌≤◌, Bool, true, ◌||◌, ◌&&◌, nat_eq, List, [], ◌∷◌, ◌++◌, length, refl, sym, ap, ◌∙◌, subst, arith, inl, inr, ◌⊎◌, append_assoc}
use Rattle.std.proofs.{lemmas.Bool.and_parts, lemmas.Bool.cases_Bool, lemmas.Bool.or_cases, lemmas.Bool.Decides.nat_tests, lemmas.List.append-nil}
use Rattle.std.specs.List.{list_all}
use Rattle.lra_base.specs.{Places.next_place, Places.place_from, declared.refusals.Place.Place}
use Rattle.lra_syntax.specs.Tokens.{is_space_or_tab, IsLineStart}
use Rattle.lra_lex.specs.Places.{fresh_after_bytes}

pub place_from-append : (p : Place) (xs ys : List ℕ) → place_from p (xs ++ ys) ≡ place_from (place_from p xs) ys
place_from-append p [] ys = refl
place_from-append p (c ∷ xs) ys = place_from-append (next_place p c) xs ys

pub fresh_behind-append : (f : Bool) (xs ys : List ℕ) → fresh_after_bytes f (xs ++ ys) ≡ fresh_after_bytes (fresh_after_bytes f xs) ys
fresh_behind-append f [] ys = refl
fresh_behind-append f (c ∷ xs) ys = fresh_behind-append (nat_eq c 10 || (is_space_or_tab c && f)) xs ys

-- a byte goes on by a line or a column at most
next_within : (p : Place) (c : ℕ) → ((next_place p c).line ≤ p.line + 1) × ((next_place p c).column ≤ p.column + 1)
next_within p c = elim (cases_Bool (nat_eq c 10)) [ inl e ↦ rw e (omega arith, omega arith) | inr e ↦ rw e (omega arith, omega arith) ]

pub within : (p : Place) (xs : List ℕ) → ((place_from p xs).line ≤ p.line + length xs) × ((place_from p xs).column ≤ p.column + length xs)
within p [] = (omega arith, omega arith)
within p (c ∷ xs) = let r = within (next_place p c) xs in let n = next_within p c in (omega arith, omega arith)

-- the test on the bytes before says what the start of a line is -------------------------------------------------------

blanks_fresh : (blanks : List ℕ) → list_all is_space_or_tab blanks ≡ true → fresh_after_bytes true blanks ≡ true
blanks_fresh [] h = refl
blanks_fresh (c ∷ blanks) h =
    let k = and_parts (is_space_or_tab c) (list_all is_space_or_tab blanks) h in
    let e : (nat_eq c 10 || (is_space_or_tab c && true)) ≡ true = grind (arith, nat_tests) in rw e (blanks_fresh blanks k.1)

lines_fresh : (lines : List ℕ) → (lines ≡ []) ⊎ ((ls : List ℕ) × (lines ≡ ls ++ 10 ∷ [])) → fresh_after_bytes true lines ≡ true
lines_fresh lines (inl e) = rw e refl
lines_fresh lines (inr (ls, e)) = rw (e, fresh_behind-append true ls (10 ∷ [])) refl

pub front_fresh : (before : List ℕ) → IsLineStart before → fresh_after_bytes true before ≡ true
front_fresh before h = rw (h.parts, fresh_behind-append true h.lines h.blanks, lines_fresh h.lines h.whole_lines) (blanks_fresh h.blanks h.only_blanks)

after_feed : (before : List ℕ) → IsLineStart (before ++ 10 ∷ [])
after_feed before = record { lines = before ++ 10 ∷ []; blanks = []; parts = sym (append-nil (before ++ 10 ∷ [])); whole_lines = inr (before, refl); only_blanks = refl }

all_more : (xs : List ℕ) (c : ℕ) → list_all is_space_or_tab xs ≡ true → is_space_or_tab c ≡ true → list_all is_space_or_tab (xs ++ c ∷ []) ≡ true
all_more [] c h k = rw k refl
all_more (x ∷ xs) c h k = let s = and_parts (is_space_or_tab x) (list_all is_space_or_tab xs) h in rw s.0 (all_more xs c s.1 k)

after_blank : (before : List ℕ) (c : ℕ) → is_space_or_tab c ≡ true → IsLineStart before → IsLineStart (before ++ c ∷ [])
after_blank before c e h = record {
  lines = h.lines;
  blanks = h.blanks ++ c ∷ [];
  parts = ap (λ (z : List ℕ). z ++ c ∷ []) h.parts ∙ append_assoc h.lines h.blanks (c ∷ []);
  whole_lines = h.whole_lines;
  only_blanks = all_more h.blanks c h.only_blanks e;
}

one_more : (f : Bool) (before : List ℕ) (c : ℕ) → (f ≡ true → IsLineStart before) → (nat_eq c 10 || (is_space_or_tab c && f)) ≡ true → IsLineStart (before ++ c ∷ [])
one_more f before c h e = elim (or_cases (nat_eq c 10) (is_space_or_tab c && f) e) [
  | inl k ↦ let feed : c ≡ 10 = grind (arith, nat_tests) in rw feed (after_feed before)
  | inr k ↦ let s = and_parts (is_space_or_tab c) f k in after_blank before c s.0 (h s.1)
]

fresh_on : (f : Bool) (before xs : List ℕ) → (f ≡ true → IsLineStart before) → fresh_after_bytes f xs ≡ true → IsLineStart (before ++ xs)
fresh_on f before [] h e = rw append-nil (h e)
fresh_on f before (c ∷ xs) h e =
    subst IsLineStart (append_assoc before (c ∷ []) xs) (fresh_on (nat_eq c 10 || (is_space_or_tab c && f)) (before ++ c ∷ []) xs (one_more f before c h) e)

pub fresh_front : (before : List ℕ) → fresh_after_bytes true before ≡ true → IsLineStart before
fresh_front before e = fresh_on true [] before (λ _. record { lines = []; blanks = []; parts = refl; whole_lines = inl refl; only_blanks = refl }) e
