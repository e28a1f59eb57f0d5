-- Terms of a row, one at a time.
use Rattle.std.proofs.Common.{codes, int_cmp, inl, inr, ◌⊎◌, ◌-◌, min, arith, ◌≡◌, ◌<◌, ◌≤◌, ◌+◌, ℕ, zero, suc, ℤ, pos, negsuc, Bool, true, false, List, [], ◌∷◌, ◌++◌, length, drop, map, get_or}
use Rattle.std.proofs.Common.{add-one, refl, ap, sym, ◌∙◌, append_assoc, append-nil}
use Rattle.std.proofs.{Math.Seq.drop-cons, lemmas.Bool.cases_lt, lemmas.Int.ints, lemmas.List.drop_all}
use Rattle.std.specs.{Cmp.int_cmp_is, declared.cmp.Ordering.TheVariants.Less, declared.cmp.Ordering.TheVariants.Equal, declared.cmp.Ordering.TheVariants.Greater}
use Rattle.lra_row_text.specs.Crates.lra_linear_spec.Vectors.{entry}
use Rattle.lra_row_text.proofs.Crates.lra_row.RowLemmas.{entry_at}
use Rattle.lra_row_text.specs.{Shown.rest_text, Shown.is_first_after, Texts.is_negated, Texts.negated_if, Texts.terms_text, Texts.product_text}

pub drop_entry : (cs : List ℤ) (j : ℕ) → j < length cs → drop j cs ≡ entry cs j ∷ drop (j + 1) cs
drop_entry cs j h = rw (entry_at, add-one) (drop-cons cs j (pos 0) h)

above : (n : ℕ) → Greater ≡ int_cmp (pos (suc n)) (pos 0)
above n = int_cmp_is (pos (suc n)) (pos 0) Greater (omega (arith, ints))

-- the first coefficient that is not 0
less_first : (c : ℤ) (cs : List ℤ) → int_cmp c (pos 0) ≡ Less → is_negated (c ∷ cs) ≡ true
less_first (pos zero) cs e = cc
less_first (pos (suc n)) cs e = let a = above n in cc
less_first (negsuc n) cs e = refl

greater_first : (c : ℤ) (cs : List ℤ) → int_cmp c (pos 0) ≡ Greater → is_negated (c ∷ cs) ≡ false
greater_first (pos zero) cs e = cc
greater_first (pos (suc n)) cs e = refl
greater_first (negsuc n) cs e = cc

equal_first : (c : ℤ) (cs : List ℤ) → int_cmp c (pos 0) ≡ Equal → is_negated (c ∷ cs) ≡ is_negated cs
equal_first (pos zero) cs e = refl
equal_first (pos (suc n)) cs e = let a = above n in cc
equal_first (negsuc n) cs e = cc

pub turned_less : (cs : List ℤ) (j : ℕ) (c : ℤ) (all : Bool) → is_negated (drop j cs) ≡ all → c ≡ entry cs j → j < length cs → int_cmp c (pos 0) ≡ Less → true ≡ all
turned_less cs j c all e at h less = sym (less_first (entry cs j) (drop (j + 1) cs) (ap (λ z. int_cmp z (pos 0)) (sym at) ∙ less)) ∙ ap is_negated (sym (drop_entry cs j h)) ∙ e

pub turned_greater : (cs : List ℤ) (j : ℕ) (c : ℤ) (all : Bool) → is_negated (drop j cs) ≡ all → c ≡ entry cs j → j < length cs → int_cmp c (pos 0) ≡ Greater → false ≡ all
turned_greater cs j c all e at h greater = sym (greater_first (entry cs j) (drop (j + 1) cs) (ap (λ z. int_cmp z (pos 0)) (sym at) ∙ greater)) ∙ ap is_negated (sym (drop_entry cs j h)) ∙ e

pub turned_equal : (cs : List ℤ) (j : ℕ) (c : ℤ) (all : Bool) → is_negated (drop j cs) ≡ all → c ≡ entry cs j → j < length cs → int_cmp c (pos 0) ≡ Equal → is_negated (drop (j + 1) cs) ≡ all
turned_equal cs j c all e at h equal = sym (equal_first (entry cs j) (drop (j + 1) cs) (ap (λ z. int_cmp z (pos 0)) (sym at) ∙ equal)) ∙ ap is_negated (sym (drop_entry cs j h)) ∙ e

pub turned_end : (cs : List ℤ) (j : ℕ) (all : Bool) → is_negated (drop j cs) ≡ all → length cs ≤ j → false ≡ all
turned_end cs j all e h = ap is_negated (sym (drop_all j cs h)) ∙ e

pub ruleset turned_rules = (turned_less, turned_greater, turned_equal, turned_end)

-- ---- a term, and what follows
terms_none : (b : Bool) (cs : List ℤ) → rest_text b cs [] ≡ []
terms_none true [] = refl
terms_none true (c ∷ cs) = refl
terms_none false [] = refl
terms_none false (c ∷ cs) = refl

joined : (first : Bool) (c : ℤ) (cs : List ℤ) (n : List ℕ) (ns : List (List ℕ)) →
    rest_text first (c ∷ cs) (n ∷ ns) ≡ rest_text first (c ∷ []) (n ∷ []) ++ rest_text (is_first_after first c) cs ns
joined true (pos zero) cs n ns = refl
joined true (pos (suc k)) cs n ns = ap (λ t. t ++ terms_text cs ns) (sym (append-nil (product_text (suc k) n)))
joined true (negsuc k) cs n ns = ap (λ t. t ++ terms_text cs ns) (sym (append-nil (product_text (suc k) n)))
joined false (pos zero) cs n ns = refl
joined false (pos (suc k)) cs n ns = ap (λ t. t ++ terms_text cs ns) (sym (append-nil (codes " + " ++ product_text (suc k) n)))
joined false (negsuc k) cs n ns = ap (λ t. t ++ terms_text cs ns) (sym (append-nil (codes " - " ++ product_text (suc k) n)))

pub term_step : {A : Type 0} (f : A → List ℕ) (t0 t1 all : List ℕ) (first next : Bool) (cs : List ℤ) (names : List A) (turn : Bool) (j : ℕ) (c : ℤ) (x : A) →
    t0 ++ rest_text first (map (negated_if turn) (drop (j + 1) cs)) (map f (drop j names)) ≡ all → c ≡ negated_if turn (entry cs (j + 1)) → x ≡ get_or names j x → j + 1 < length cs →
    j < length names →
    t1 ≡ t0 ++ rest_text first (c ∷ []) (f x ∷ []) → next ≡ (is_first_after first c) →
    t1 ++ rest_text next (map (negated_if turn) (drop (j + 1 + 1) cs)) (map f (drop (j + 1) names)) ≡ all
term_step f t0 t1 all first next cs names turn j c x before is name inside named written flag =
    let rest = map (negated_if turn) (drop (j + 1 + 1) cs) in
    let later = map f (drop (j + 1) names) in
    let coefficients : map (negated_if turn) (drop (j + 1) cs) ≡ c ∷ rest =
    ap (map (negated_if turn)) (drop_entry cs (j + 1) inside) ∙ ap (λ z. z ∷ rest) (sym is) in
    let variables : map f (drop j names) ≡ f x ∷ later = ap (map f) (drop-cons names j x named ∙ ap (λ y. y ∷ drop (suc j) names) (sym name)) ∙
    ap (λ k. f x ∷ map f (drop k names)) (sym (add-one j)) in
    ap (λ t. t ++ rest_text next rest later) written
    ∙ ap (λ b. (t0 ++ rest_text first (c ∷ []) (f x ∷ [])) ++ rest_text b rest later) flag
    ∙ append_assoc t0 (rest_text first (c ∷ []) (f x ∷ [])) (rest_text (is_first_after first c) rest later)
    ∙ ap (λ t. t0 ++ t) (sym (joined first c rest (f x) later))
    ∙ ap (λ ns. t0 ++ rest_text first (c ∷ rest) ns) (sym variables)
    ∙ ap (λ zs. t0 ++ rest_text first zs (map f (drop j names))) (sym coefficients)
    ∙ before

forms_none : (b : Bool) (ns : List (List ℕ)) → rest_text b [] ns ≡ []
forms_none true ns = refl
forms_none false ns = refl

cut_at : (m n j : ℕ) → min m (n - 1) ≤ j → (j < m) ⊎ (m ≤ j) → (m ≤ j) ⊎ (n ≤ j + 1)
cut_at m n j h (inl more) = inr (omega arith)
cut_at m n j h (inr less) = inl less

pub min_cases : (m n j : ℕ) → min m (n - 1) ≤ j → (m ≤ j) ⊎ (n ≤ j + 1)
min_cases m n j h = cut_at m n j h (cases_lt j m)

ends : {A B C : Type 0} → (A → C) → (B → C) → A ⊎ B → C
ends f g (inl a) = f a
ends f g (inr b) = g b

pub terms_end : {A : Type 0} (f : A → List ℕ) (t0 all : List ℕ) (first : Bool) (cs : List ℤ) (names : List A) (turn : Bool) (j : ℕ) →
    t0 ++ rest_text first (map (negated_if turn) (drop (j + 1) cs)) (map f (drop j names)) ≡ all → min (length names) (length cs - 1) ≤ j → t0 ≡ all
terms_end f t0 all first cs names turn j before end =
    ends (λ cut. sym (append-nil t0) ∙ ap (λ t. t0 ++ t) (sym (terms_none first _))
    ∙ ap (λ ns. t0 ++ rest_text first (map (negated_if turn) (drop (j + 1) cs)) (map f ns)) (sym (drop_all j names cut)) ∙
    before)
    (λ cut. sym (append-nil t0) ∙ ap (λ t. t0 ++ t) (sym (forms_none first _)) ∙ ap (λ zs. t0 ++ rest_text first (map (negated_if turn) zs) (map f (drop j names))) (sym (drop_all (j + 1) cs cut)) ∙
    before)
    (min_cases (length names) (length cs) j end)
