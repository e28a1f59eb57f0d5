-- The newest of a name among one more, and whether a name is among the later ones; the index of names.
use Rattle.std.proofs.Common.{◌≡◌, ◌≤◌, ◌<◌, ◌+◌, ℕ, zero, suc, Bool, true, false, cond, ◌||◌, List, [], ◌∷◌, ◌++◌, length, drop, refl, sym, ap, ◌∙◌, subst, bytes_eq, Option, Some, None, nat_le}
use Rattle.std.proofs.Common.{append_assoc, append-nil, arith, String, IsSome}
use Rattle.std.proofs.{Math.Bool.or-false, Math.Bool.or-true, lemmas.Bool.Decides.nat_tests, lemmas.List.length-map, lemmas.Slice.Eq.bytes_eq-Decides}
use Rattle.std.specs.{List.list_any, declared.alloc.Global.Global}
use Rattle.indexmap.specs.IndexMap.{IndexMap, get_by_text}
use Rattle.lra_resolution_spec.specs.Scope.{newest, newest_from}
use Rattle.lra_scopes.specs.{Names.words_of, Names.Hide, Names.IsIndexed, declared.names.Declared.Declared}

-- one more name ----------------------------------------------------------------------------------------------------

newest_from_push : (k : ℕ) (found : Option ℕ) (name : List ℕ) (xs : List (List ℕ)) (x : List ℕ)
    → newest_from k found name (xs ++ x ∷ []) ≡ cond (bytes_eq x name) (Some (k + length xs)) (newest_from k found name xs)
newest_from_push k found name [] x =
    let here : k ≡ k + 0 = omega arith in
    ap (λ (j : ℕ). cond (bytes_eq x name) (Some j) found) here
newest_from_push k found name (y ∷ ys) x =
    let later = cond (bytes_eq y name) (Some k) found in
    let here : suc k + length ys ≡ k + suc (length ys) = omega arith in
    newest_from_push (suc k) later name ys x ∙ ap (λ (j : ℕ). cond (bytes_eq x name) (Some j) (newest_from (suc k) later name ys)) here

pub newest_push : (name : List ℕ) (xs : List (List ℕ)) (x : List ℕ)
    → newest name (xs ++ x ∷ []) ≡ cond (bytes_eq x name) (Some (length xs)) (newest name xs)
newest_push name xs x =
    let here : 0 + length xs ≡ length xs = omega arith in
    newest_from_push 0 None name xs x ∙ ap (λ (n : ℕ). cond (bytes_eq x name) (Some n) (newest name xs)) here

-- one more declaration ---------------------------------------------------------------------------------------------

pub words_push : (ds : List Declared) (d : Declared) → words_of (ds ++ d ∷ []) ≡ words_of ds ++ d.word ∷ []
words_push [] d = refl
words_push (c ∷ ds) d = ap (λ (ws : List (List ℕ)). c.word ∷ ws) (words_push ds d)

hide_push : (before : List (List ℕ)) (ds : List Declared) (d : Declared) → Hide before ds → d.hidden ≡ newest d.word (before ++ words_of ds) → Hide before (ds ++ d ∷ [])
hide_push before [] d h e = (e ∙ ap (newest d.word) (append-nil before), tt {0})
hide_push before (c ∷ ds) d h e =
    (h.0, hide_push (before ++ c.word ∷ []) ds d h.1 (e ∙ ap (newest d.word) (sym (append_assoc before (c.word ∷ []) (words_of ds)))))

hide_pop : (before : List (List ℕ)) (ds : List Declared) (d : Declared) → Hide before (ds ++ d ∷ []) → Hide before ds × (d.hidden ≡ newest d.word (before ++ words_of ds))
hide_pop before [] d h = (tt {0}, h.0 ∙ ap (newest d.word) (sym (append-nil before)))
hide_pop before (c ∷ ds) d h =
    let p = hide_pop (before ++ c.word ∷ []) ds d h.1 in
    ((h.0, p.0), p.1 ∙ ap (newest d.word) (append_assoc before (c.word ∷ []) (words_of ds)))

-- the index ---------------------------------------------------------------------------------------------------------

module _ {S : Type 0} (old new : IndexMap (String Global) ℕ S) where
  pub indexed_push : (ds es : List Declared) (d : Declared) → es ≡ ds ++ d ∷ [] → d.hidden ≡ get_by_text old d.word
      → ((name : List ℕ) → get_by_text new name ≡ cond (bytes_eq d.word name) (Some (length ds)) (get_by_text old name))
      → IsIndexed old ds → IsIndexed new es
  indexed_push ds es d pushed hidden updated is =
      subst (IsIndexed new) (sym pushed) (record {
        found = λ name.
            let count : length (words_of ds) ≡ length ds = length-map ds (λ (c : Declared). c.word) in
            updated name
            ∙ ap (cond (bytes_eq d.word name) (Some (length ds))) (is.found name)
            ∙ sym (ap (newest name) (words_push ds d) ∙ newest_push name (words_of ds) d.word
            ∙ ap (λ (n : ℕ). cond (bytes_eq d.word name) (Some n) (newest name (words_of ds))) count);
        hidden = hide_push [] ds d is.hidden (hidden ∙ is.found d.word);
      })

  restored : (b : Bool) (name : List ℕ) (ds : List Declared) (d : Declared) (p q r : Option ℕ) → bytes_eq d.word name ≡ b
      → p ≡ cond (bytes_eq d.word name) d.hidden q → q ≡ cond (bytes_eq d.word name) r (newest name (words_of ds))
      → d.hidden ≡ newest d.word (words_of ds) → p ≡ newest name (words_of ds)
  restored true name ds d p q r is found before hidden =
      found ∙ ap (λ (c : Bool). cond c d.hidden q) is ∙ hidden ∙ ap (λ (w : List ℕ). newest w (words_of ds)) ((bytes_eq-Decides d.word name).0 is)
  restored false name ds d p q r is found before hidden =
      found ∙ ap (λ (c : Bool). cond c d.hidden q) is ∙ before ∙ ap (λ (c : Bool). cond c r (newest name (words_of ds))) is

  pub indexed_pop : (ds es : List Declared) (d : Declared) → ds ≡ es ++ d ∷ []
      → ((name : List ℕ) → get_by_text new name ≡ cond (bytes_eq d.word name) d.hidden (get_by_text old name))
      → IsIndexed old ds → IsIndexed new es
  indexed_pop ds es d popped updated is =
      let hidden = hide_pop [] es d (subst (Hide []) popped is.hidden) in
      record {
        found = λ name. restored (bytes_eq d.word name) name es d (get_by_text new name) (get_by_text old name) (Some (length (words_of es))) refl
            (updated name)
            (is.found name ∙ ap (λ (cs : List Declared). newest name (words_of cs)) popped ∙ ap (newest name) (words_push es d) ∙ newest_push name (words_of es) d.word)
            hidden.1;
        hidden = hidden.0;
      }

  -- the newest name is in the index
  pub newest_indexed : (ds es : List Declared) (d : Declared) → ds ≡ es ++ d ∷ [] → IsIndexed old ds → IsSome (get_by_text old d.word)
  newest_indexed ds es d popped is =
      let self : bytes_eq d.word d.word ≡ true = (bytes_eq-Decides d.word d.word).1 refl in
      let at : get_by_text old d.word ≡ Some (length (words_of es)) =
      is.found d.word ∙ ap (λ (cs : List Declared). newest d.word (words_of cs)) popped ∙ ap (newest d.word) (words_push es d) ∙ newest_push d.word (words_of es) d.word
      ∙ ap (λ (c : Bool). cond c (Some (length (words_of es))) (newest d.word (words_of es))) self in
      rw at (refl)

-- among the later names ----------------------------------------------------------------------------------------------

-- a place at or after the count
abbrev pub is_behind : ℕ → Option ℕ → Bool
is_behind count None = false
is_behind count (Some k) = nat_le count k

pub same_words : (x name : List ℕ) → bytes_eq x name ≡ bytes_eq name x
same_words x name = by (bytes_eq name x) refl
  where
    by : (b : Bool) → bytes_eq name x ≡ b → bytes_eq x name ≡ bytes_eq name x
    by true e = (bytes_eq-Decides x name).1 (sym ((bytes_eq-Decides name x).0 e)) ∙ sym e
    by false e = grind (arith, e, bytes_eq-Decides)

not_before : (count k : ℕ) → count ≤ k → nat_le count k ≡ true
not_before count k h = grind (arith, nat_tests)

before_it : (count k : ℕ) → k < count → nat_le count k ≡ false
before_it count k h = grind (arith, nat_tests)

scan_case : (b old rest : Bool) (count k : ℕ) (found : Option ℕ) → count ≤ k → old ≡ is_behind count found
    → (is_behind count (cond b (Some k) found) || rest) ≡ (old || (b || rest))
scan_case true old rest count k found h e = ap (λ (c : Bool). c || rest) (not_before count k h) ∙ sym (or-true old)
scan_case false old rest count k found h e = ap (λ (c : Bool). c || rest) (sym e)

scanned : (k count : ℕ) (found : Option ℕ) (name : List ℕ) (xs : List (List ℕ)) → count ≤ k
    → is_behind count (newest_from k found name xs) ≡ (is_behind count found || list_any (bytes_eq name) xs)
scanned k count found name [] h = sym (or-false (is_behind count found))
scanned k count found name (x ∷ xs) h =
    scanned (suc k) count (cond (bytes_eq x name) (Some k) found) name xs (omega (arith, h))
    ∙ scan_case (bytes_eq x name) (is_behind count found) (list_any (bytes_eq name) xs) count k found h refl
    ∙ ap (λ (b : Bool). is_behind count found || (b || list_any (bytes_eq name) xs)) (same_words x name)

skip_case : (b : Bool) (count k : ℕ) (found : Option ℕ) → k < count → is_behind count found ≡ false → is_behind count (cond b (Some k) found) ≡ false
skip_case true count k found h e = before_it count k h
skip_case false count k found h e = e

skipped : (skip k count : ℕ) (found : Option ℕ) (name : List ℕ) (xs : List (List ℕ)) → count ≡ skip + k → is_behind count found ≡ false
    → is_behind count (newest_from k found name xs) ≡ list_any (bytes_eq name) (drop skip xs)
skipped zero k count found name xs is e =
    scanned k count found name xs (omega (arith, is)) ∙ ap (λ (b : Bool). b || list_any (bytes_eq name) xs) e
skipped (suc skip) k count found name [] is e = e
skipped (suc skip) k count found name (x ∷ xs) is e =
    skipped skip (suc k) count (cond (bytes_eq x name) (Some k) found) name xs (omega (arith, is)) (skip_case (bytes_eq x name) count k found (omega (arith, is)) e)

-- a name is among those after the count if the newest of it is
pub among_later : (name : List ℕ) (count : ℕ) (xs : List (List ℕ)) (found : Option ℕ) → found ≡ newest name xs
    → is_behind count found ≡ list_any (bytes_eq name) (drop count xs)
among_later name count xs found is = let none : count ≡ count + 0 = omega arith in ap (is_behind count) is ∙ skipped count 0 count None name xs none refl
