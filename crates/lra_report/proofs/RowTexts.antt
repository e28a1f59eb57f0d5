-- One text, one row.
use Rattle.std.specs.{Char.is_ascii_digit, Fmt.decimal, Fmt.signed_decimal, List.AllByRecursion, Prelude.⊤}
use Rattle.std.proofs.Common.{◌≡◌, ◌≢◌, ℕ, zero, suc, ◌<◌, ℤ, pos, negsuc, nat_eq, nat_lt, not, Bool, true, false, List, [], ◌∷◌, ◌++◌, length, map, codes, if◌then◌else◌, refl, ap, sym, ◌∙◌, arith}
use Rattle.std.proofs.{Common.append_assoc, Common.zero-add, lemmas.Bool.both_ways, lemmas.Bool.eqb-true, lemmas.Bool.Decides.nat_tests, lemmas.Int.ints}
use Rattle.lra_report.specs.Crates.lra_linear_spec.declared.ConKind.{ConKind}
use Rattle.lra_report.specs.Crates.{lra_linear_spec.Range.InRange, lra_linear_spec.declared.ConKind.TheVariants.Ge, lra_linear_spec.declared.ConKind.TheVariants.Eq}
use Rattle.lra_row_text.specs.{Rows.ReportRow, Texts.product_text, Texts.terms_text, Texts.form_text, Texts.relation_text, Texts.row_text, Texts.is_negated, Texts.negated_if}
use Rattle.lra_report.specs.Spelled.{IsDirected, IsSpelledRow}
use Rattle.lra_report.proofs.Fronts.{is_visible, IsShownName, AreShownNames, Passes, Ends, front_same, front_first, first_same, rest_same, both_same, visible_passes}
use Rattle.lra_report.proofs.Numbers.{IsShort, decimal_first, decimal_same, signed_same, short_in_range}

-- products -----------------------------------------------------------------------

name_passes : (n : List ℕ) → IsShownName n → Passes is_visible n
name_passes [] h = absurd h
name_passes (b ∷ bs) h = (h.1, visible_passes bs h.2)

name_some : (n : List ℕ) → IsShownName n → 0 < length n
name_some [] h = absurd h
name_some (b ∷ bs) h = omega arith

-- a name doesn't begin as a number does
name_no_number : (k : ℕ) (n u v : List ℕ) → IsShort k → IsShownName n → n ++ u ≡ decimal k ++ v → ⊥
name_no_number k [] u v hk hn e = absurd hn
name_no_number k (b ∷ bs) u v hk hn e = both_ways (is_ascii_digit b) hn.0 (decimal_first k v (bs ++ u) b hk (sym e))

scaled : Bool → ℕ → List ℕ → List ℕ
scaled b k n = if b then n else decimal k ++ codes "*" ++ n

product_cases : (b c : Bool) (k l : ℕ) (n m u v : List ℕ) → nat_eq k 1 ≡ b → nat_eq l 1 ≡ c → IsShort k → IsShort l → IsShownName n → IsShownName m → Ends is_visible u → Ends is_visible v →
    (if b then n else decimal k ++ codes "*" ++ n) ++ u ≡ (if c then m else decimal l ++ codes "*" ++ m) ++ v → (k ≡ l) × (n ≡ m) × (u ≡ v)
product_cases true true k l n m u v bk bl hk hl hn hm eu ev e =
    let s = front_same is_visible n m u v (name_passes n hn) (name_passes m hm) eu ev e in
    (eqb-true k 1 bk ∙ sym (eqb-true l 1 bl), s.0, s.1)
product_cases true false k l n m u v bk bl hk hl hn hm eu ev e =
    absurd (name_no_number l n u (42 ∷ m ++ v) hl hn (e ∙ ap (λ t. t ++ v) (append_assoc (decimal l) (codes "*") m) ∙ append_assoc (decimal l) (42 ∷ m) v))
product_cases false true k l n m u v bk bl hk hl hn hm eu ev e =
    absurd (name_no_number k m v (42 ∷ n ++ u) hk hm (sym e ∙ ap (λ t. t ++ u) (append_assoc (decimal k) (codes "*") n) ∙ append_assoc (decimal k) (42 ∷ n) u))
product_cases false false k l n m u v bk bl hk hl hn hm eu ev e =
    let here : decimal k ++ (42 ∷ (n ++ u)) ≡ decimal l ++ (42 ∷ (m ++ v)) =
    sym (ap (λ t. t ++ u) (append_assoc (decimal k) (codes "*") n) ∙ append_assoc (decimal k) (42 ∷ n) u) ∙ e ∙ ap (λ t. t ++ v) (append_assoc (decimal l) (codes "*") m) ∙
    append_assoc (decimal l) (42 ∷ m) v in
    let s = decimal_same k l (42 ∷ (n ++ u)) (42 ∷ (m ++ v)) hk hl refl refl here in
    let t = front_same is_visible n m u v (name_passes n hn) (name_passes m hm) eu ev (rest_same s.1) in
    (s.0, t.0, t.1)

pub product_same : (k l : ℕ) (n m u v : List ℕ) → IsShort k → IsShort l → IsShownName n → IsShownName m → Ends is_visible u → Ends is_visible v →
    product_text k n ++ u ≡ product_text l m ++ v → (k ≡ l) × (n ≡ m) × (u ≡ v)
product_same k l n m u v hk hl hn hm eu ev e = product_cases (nat_eq k 1) (nat_eq l 1) k l n m u v refl refl hk hl hn hm eu ev e

pub digit_visible : (b : ℕ) → is_ascii_digit b ≡ true → is_visible b ≡ true
digit_visible b h = grind (arith, nat_tests)

product_first_cases : (c : Bool) (k : ℕ) (n u v : List ℕ) (b : ℕ) → IsShort k → IsShownName n → (if c then n else decimal k ++ codes "*" ++ n) ++ u ≡ b ∷ v → is_visible b ≡ true
product_first_cases true k n u v b hk hn e = front_first is_visible n u v b (name_some n hn) (name_passes n hn) e
product_first_cases false k n u v b hk hn e = digit_visible b (decimal_first k (42 ∷ n ++ u) v b hk
    (sym (ap (λ t. t ++ u) (append_assoc (decimal k) (codes "*") n) ∙ append_assoc (decimal k) (42 ∷ n) u) ∙ e))

pub product_first : (k : ℕ) (n u v : List ℕ) (b : ℕ) → IsShort k → IsShownName n → product_text k n ++ u ≡ b ∷ v → is_visible b ≡ true
product_first k n u v b hk hn e = product_first_cases (nat_eq k 1) k n u v b hk hn e

-- terms --------------------------------------------------------------------------

-- a blank, and then a byte above `+` and `-`, as when a relation follows
abbrev pub IsBehindTerms : List ℕ → Type 0
IsBehindTerms [] = ⊥
IsBehindTerms (a ∷ []) = ⊥
IsBehindTerms (a ∷ (b ∷ w)) = (a ≡ 32) × (nat_lt 45 b ≡ true)

behind_ends : (u : List ℕ) → IsBehindTerms u → Ends is_visible u
behind_ends [] h = absurd h
behind_ends (a ∷ []) h = absurd h
behind_ends (a ∷ (b ∷ w)) h = ap is_visible h.0

-- no term begins so
no_term : (s : ℕ) (u w : List ℕ) → nat_lt 45 s ≡ false → IsBehindTerms u → u ≡ 32 ∷ (s ∷ w) → ⊥
no_term s [] w hs h e = absurd h
no_term s (a ∷ []) w hs h e = absurd h
no_term s (a ∷ (b ∷ t)) w hs h e = both_ways (nat_lt 45 s) hs (sym (ap (nat_lt 45) (first_same (rest_same e))) ∙ h.1)

terms_ends : (cs : List ℤ) (ns : List (List ℕ)) (u : List ℕ) → IsBehindTerms u → Ends is_visible (terms_text cs ns ++ u)
terms_ends [] ns u h = behind_ends u h
terms_ends (c ∷ cs) [] u h = behind_ends u h
terms_ends (pos zero ∷ cs) (n ∷ ns) u h = terms_ends cs ns u h
terms_ends (pos (suc k) ∷ cs) (n ∷ ns) u h = refl
terms_ends (negsuc k ∷ cs) (n ∷ ns) u h = refl

-- the terms of other variables don't begin with a term of this one
term_absent : (cs : List ℤ) (ns : List (List ℕ)) (u : List ℕ) (s k : ℕ) (n w : List ℕ) → AllByRecursion InRange cs → AreShownNames ns → IsBehindTerms u →
    nat_lt 45 s ≡ false → IsShort k → IsShownName n → AllByRecursion (λ m. n ≢ m) ns → Ends is_visible w → terms_text cs ns ++ u ≡ 32 ∷ (s ∷ (32 ∷ (product_text k n ++ w))) → ⊥
term_absent [] ns u s k n w hc hns hu hs hk hn other ew e = no_term s u _ hs hu e
term_absent (c ∷ cs) [] u s k n w hc hns hu hs hk hn other ew e = no_term s u _ hs hu e
term_absent (pos zero ∷ cs) (m ∷ ns) u s k n w hc hns hu hs hk hn other ew e = term_absent cs ns u s k n w hc.1 hns.2 hu hs hk hn other.1 ew e
term_absent (pos (suc j) ∷ cs) (m ∷ ns) u s k n w hc hns hu hs hk hn other ew e =
    let same = product_same (suc j) k m n (terms_text cs ns ++ u) w (short_in_range (pos (suc j)) hc.0) hk hns.0 hn (terms_ends cs ns u hu) ew
    (sym (append_assoc (product_text (suc j) m) (terms_text cs ns) u) ∙ rest_same (rest_same (rest_same e))) in
    other.0 (sym same.1)
term_absent (negsuc j ∷ cs) (m ∷ ns) u s k n w hc hns hu hs hk hn other ew e =
    let same = product_same (suc j) k m n (terms_text cs ns ++ u) w (short_in_range (negsuc j) hc.0) hk hns.0 hn (terms_ends cs ns u hu) ew
    (sym (append_assoc (product_text (suc j) m) (terms_text cs ns) u) ∙ rest_same (rest_same (rest_same e))) in
    other.0 (sym same.1)

pos_same : {m n : ℕ} → m ≡ n → pos m ≡ pos n
pos_same e = ap pos e

suc_same : {m n : ℕ} → suc m ≡ suc n → m ≡ n
suc_same e = cc

-- a term and what follows it
term_rest : (k l : ℕ) (n : List ℕ) (cs ds : List ℤ) (ns : List (List ℕ)) (u v : List ℕ) → IsShort k → IsShort l → IsShownName n → IsBehindTerms u → IsBehindTerms v →
    (product_text k n ++ terms_text cs ns) ++ u ≡ (product_text l n ++ terms_text ds ns) ++ v → (k ≡ l) × (terms_text cs ns ++ u ≡ terms_text ds ns ++ v)
term_rest k l n cs ds ns u v hk hl hn hu hv e =
    let same = product_same k l n n (terms_text cs ns ++ u) (terms_text ds ns ++ v) hk hl hn hn (terms_ends cs ns u hu) (terms_ends ds ns v hv)
    (sym (append_assoc (product_text k n) (terms_text cs ns) u) ∙ e ∙ append_assoc (product_text l n) (terms_text ds ns) v) in
    (same.0, same.2)

no_signs : (let n : ℕ = 43 in n) ≡ 45 → ⊥
no_signs e = cc

pub terms_same : (cs ds : List ℤ) (ns : List (List ℕ)) (u v : List ℕ) → length cs ≡ length ns → length ds ≡ length ns → AllByRecursion InRange cs → AllByRecursion InRange ds → AreShownNames ns →
    IsBehindTerms u → IsBehindTerms v → terms_text cs ns ++ u ≡ terms_text ds ns ++ v → (cs ≡ ds) × (u ≡ v)
terms_same [] [] ns u v lc ld hc hd hn hu hv e = (refl, e)
terms_same [] (d ∷ ds) [] u v lc ld hc hd hn hu hv e = absurd (omega arith)
terms_same [] (d ∷ ds) (n ∷ ns) u v lc ld hc hd hn hu hv e = absurd (omega arith)
terms_same (c ∷ cs) [] [] u v lc ld hc hd hn hu hv e = absurd (omega arith)
terms_same (c ∷ cs) [] (n ∷ ns) u v lc ld hc hd hn hu hv e = absurd (omega arith)
terms_same (c ∷ cs) (d ∷ ds) [] u v lc ld hc hd hn hu hv e = absurd (omega arith)
terms_same (pos zero ∷ cs) (pos zero ∷ ds) (n ∷ ns) u v lc ld hc hd hn hu hv e =
    let s = terms_same cs ds ns u v (omega arith) (omega arith) hc.1 hd.1 hn.2 hu hv e in (ap (λ t. pos 0 ∷ t) s.0, s.1)
terms_same (pos zero ∷ cs) (pos (suc l) ∷ ds) (n ∷ ns) u v lc ld hc hd hn hu hv e =
    absurd (term_absent cs ns u 43 (suc l) n (terms_text ds ns ++ v) hc.1 hn.2 hu refl (short_in_range (pos (suc l)) hd.0) hn.0 hn.1 (terms_ends ds ns v hv)
    (e ∙ ap (λ t. 32 ∷ (43 ∷ (32 ∷ t))) (append_assoc (product_text (suc l) n) (terms_text ds ns) v)))
terms_same (pos zero ∷ cs) (negsuc l ∷ ds) (n ∷ ns) u v lc ld hc hd hn hu hv e =
    absurd (term_absent cs ns u 45 (suc l) n (terms_text ds ns ++ v) hc.1 hn.2 hu refl (short_in_range (negsuc l) hd.0) hn.0 hn.1 (terms_ends ds ns v hv)
    (e ∙ ap (λ t. 32 ∷ (45 ∷ (32 ∷ t))) (append_assoc (product_text (suc l) n) (terms_text ds ns) v)))
terms_same (pos (suc k) ∷ cs) (pos zero ∷ ds) (n ∷ ns) u v lc ld hc hd hn hu hv e =
    absurd (term_absent ds ns v 43 (suc k) n (terms_text cs ns ++ u) hd.1 hn.2 hv refl (short_in_range (pos (suc k)) hc.0) hn.0 hn.1 (terms_ends cs ns u hu)
    (sym e ∙ ap (λ t. 32 ∷ (43 ∷ (32 ∷ t))) (append_assoc (product_text (suc k) n) (terms_text cs ns) u)))
terms_same (negsuc k ∷ cs) (pos zero ∷ ds) (n ∷ ns) u v lc ld hc hd hn hu hv e =
    absurd (term_absent ds ns v 45 (suc k) n (terms_text cs ns ++ u) hd.1 hn.2 hv refl (short_in_range (negsuc k) hc.0) hn.0 hn.1 (terms_ends cs ns u hu)
    (sym e ∙ ap (λ t. 32 ∷ (45 ∷ (32 ∷ t))) (append_assoc (product_text (suc k) n) (terms_text cs ns) u)))
terms_same (pos (suc k) ∷ cs) (pos (suc l) ∷ ds) (n ∷ ns) u v lc ld hc hd hn hu hv e =
    let t = term_rest (suc k) (suc l) n cs ds ns u v (short_in_range (pos (suc k)) hc.0) (short_in_range (pos (suc l)) hd.0) hn.0 hu hv (rest_same (rest_same (rest_same e))) in
    let s = terms_same cs ds ns u v (omega arith) (omega arith) hc.1 hd.1 hn.2 hu hv t.1 in
    (both_same (ap pos t.0) s.0, s.1)
terms_same (negsuc k ∷ cs) (negsuc l ∷ ds) (n ∷ ns) u v lc ld hc hd hn hu hv e =
    let t = term_rest (suc k) (suc l) n cs ds ns u v (short_in_range (negsuc k) hc.0) (short_in_range (negsuc l) hd.0) hn.0 hu hv (rest_same (rest_same (rest_same e))) in
    let s = terms_same cs ds ns u v (omega arith) (omega arith) hc.1 hd.1 hn.2 hu hv t.1 in
    (both_same (ap negsuc (suc_same t.0)) s.0, s.1)
terms_same (pos (suc k) ∷ cs) (negsuc l ∷ ds) (n ∷ ns) u v lc ld hc hd hn hu hv e = absurd (no_signs (first_same (rest_same e)))
terms_same (negsuc k ∷ cs) (pos (suc l) ∷ ds) (n ∷ ns) u v lc ld hc hd hn hu hv e = absurd (no_signs (sym (first_same (rest_same e))))

-- forms --------------------------------------------------------------------------

not_down : {A : Type 0} → true ≡ false → A
not_down e = absurd cc

no_product : (k : ℕ) (n u w : List ℕ) → IsShort k → IsShownName n → IsBehindTerms u → u ≡ product_text k n ++ w → ⊥
no_product k n [] w hk hn hu e = absurd hu
no_product k n (a ∷ u) w hk hn hu e = both_ways (is_visible a) (behind_ends (a ∷ u) hu) (product_first k n w u a hk hn (sym e))

form_absent : (cs : List ℤ) (ns : List (List ℕ)) (u : List ℕ) (k : ℕ) (n w : List ℕ) → is_negated cs ≡ false → AllByRecursion InRange cs → AreShownNames ns → IsBehindTerms u →
    IsShort k → IsShownName n → AllByRecursion (λ m. n ≢ m) ns → Ends is_visible w → form_text cs ns ++ u ≡ product_text k n ++ w → ⊥
form_absent [] ns u k n w up hc hns hu hk hn other ew e = no_product k n u w hk hn hu e
form_absent (c ∷ cs) [] u k n w up hc hns hu hk hn other ew e = no_product k n u w hk hn hu e
form_absent (pos zero ∷ cs) (m ∷ ns) u k n w up hc hns hu hk hn other ew e = form_absent cs ns u k n w up hc.1 hns.2 hu hk hn other.1 ew e
form_absent (pos (suc j) ∷ cs) (m ∷ ns) u k n w up hc hns hu hk hn other ew e =
    let same = product_same (suc j) k m n (terms_text cs ns ++ u) w (short_in_range (pos (suc j)) hc.0) hk hns.0 hn (terms_ends cs ns u hu) ew
    (sym (append_assoc (product_text (suc j) m) (terms_text cs ns) u) ∙ e) in
    other.0 (sym same.1)
form_absent (negsuc j ∷ cs) (m ∷ ns) u k n w up hc hns hu hk hn other ew e = not_down up

pub form_same : (cs ds : List ℤ) (ns : List (List ℕ)) (u v : List ℕ) → is_negated cs ≡ false → is_negated ds ≡ false → length cs ≡ length ns → length ds ≡ length ns → AllByRecursion InRange cs →
    AllByRecursion InRange ds →
    AreShownNames ns → IsBehindTerms u → IsBehindTerms v → form_text cs ns ++ u ≡ form_text ds ns ++ v → (cs ≡ ds) × (u ≡ v)
form_same [] [] ns u v uc ud lc ld hc hd hn hu hv e = (refl, e)
form_same [] (d ∷ ds) [] u v uc ud lc ld hc hd hn hu hv e = absurd (omega arith)
form_same [] (d ∷ ds) (n ∷ ns) u v uc ud lc ld hc hd hn hu hv e = absurd (omega arith)
form_same (c ∷ cs) [] [] u v uc ud lc ld hc hd hn hu hv e = absurd (omega arith)
form_same (c ∷ cs) [] (n ∷ ns) u v uc ud lc ld hc hd hn hu hv e = absurd (omega arith)
form_same (c ∷ cs) (d ∷ ds) [] u v uc ud lc ld hc hd hn hu hv e = absurd (omega arith)
form_same (pos zero ∷ cs) (pos zero ∷ ds) (n ∷ ns) u v uc ud lc ld hc hd hn hu hv e =
    let s = form_same cs ds ns u v uc ud (omega arith) (omega arith) hc.1 hd.1 hn.2 hu hv e in (ap (λ t. pos 0 ∷ t) s.0, s.1)
form_same (pos zero ∷ cs) (pos (suc l) ∷ ds) (n ∷ ns) u v uc ud lc ld hc hd hn hu hv e =
    absurd (form_absent cs ns u (suc l) n (terms_text ds ns ++ v) uc hc.1 hn.2 hu (short_in_range (pos (suc l)) hd.0) hn.0 hn.1 (terms_ends ds ns v hv)
    (e ∙ append_assoc (product_text (suc l) n) (terms_text ds ns) v))
form_same (pos (suc k) ∷ cs) (pos zero ∷ ds) (n ∷ ns) u v uc ud lc ld hc hd hn hu hv e =
    absurd (form_absent ds ns v (suc k) n (terms_text cs ns ++ u) ud hd.1 hn.2 hv (short_in_range (pos (suc k)) hc.0) hn.0 hn.1 (terms_ends cs ns u hu)
    (sym e ∙ append_assoc (product_text (suc k) n) (terms_text cs ns) u))
form_same (pos (suc k) ∷ cs) (pos (suc l) ∷ ds) (n ∷ ns) u v uc ud lc ld hc hd hn hu hv e =
    let t = term_rest (suc k) (suc l) n cs ds ns u v (short_in_range (pos (suc k)) hc.0) (short_in_range (pos (suc l)) hd.0) hn.0 hu hv e in
    let s = terms_same cs ds ns u v (omega arith) (omega arith) hc.1 hd.1 hn.2 hu hv t.1 in
    (both_same (ap pos t.0) s.0, s.1)
form_same (pos zero ∷ cs) (negsuc l ∷ ds) (n ∷ ns) u v uc ud lc ld hc hd hn hu hv e = not_down ud
form_same (pos (suc k) ∷ cs) (negsuc l ∷ ds) (n ∷ ns) u v uc ud lc ld hc hd hn hu hv e = not_down ud
form_same (negsuc k ∷ cs) (d ∷ ds) (n ∷ ns) u v uc ud lc ld hc hd hn hu hv e = not_down uc

-- relations ----------------------------------------------------------------------

relation_behind : (k : ConKind) (b : Bool) (w : List ℕ) → IsBehindTerms (relation_text k b ++ w)
relation_behind Eq b w = (refl, refl)
relation_behind Ge true w = (refl, refl)
relation_behind Ge false w = (refl, refl)

abbrev Given : ConKind → Bool → Type 0
Given Eq b = b ≡ false
Given Ge b = ⊤

second : {a b c d : ℕ} {t u : List ℕ} → a ∷ (b ∷ t) ≡ c ∷ (d ∷ u) → b ≡ d
second e = cc

record RelationSame (k l : ConKind) (b c : Bool) (u v : List ℕ) : Type 0 where
  kind : k ≡ l
  turn : b ≡ c
  rest : u ≡ v

relation_same : (k l : ConKind) (b c : Bool) (u v : List ℕ) → Given k b → Given l c → relation_text k b ++ u ≡ relation_text l c ++ v → RelationSame k l b c u v
relation_same Eq Eq b c u v gb gc e = record { kind = refl; turn = gb ∙ sym gc; rest = rest_same (rest_same (rest_same e)) }
relation_same Ge Ge true true u v gb gc e = record { kind = refl; turn = refl; rest = rest_same (rest_same (rest_same (rest_same e))) }
relation_same Ge Ge false false u v gb gc e = record { kind = refl; turn = refl; rest = rest_same (rest_same (rest_same (rest_same e))) }
relation_same Ge Ge true false u v gb gc e = let wrong : (let n : ℕ = 60 in n) ≡ 62 = second e in absurd (omega (arith, wrong))
relation_same Ge Ge false true u v gb gc e = let wrong : (let n : ℕ = 62 in n) ≡ 60 = second e in absurd (omega (arith, wrong))
relation_same Eq Ge b true u v gb gc e = let wrong : (let n : ℕ = 61 in n) ≡ 60 = second e in absurd (omega (arith, wrong))
relation_same Eq Ge b false u v gb gc e = let wrong : (let n : ℕ = 61 in n) ≡ 62 = second e in absurd (omega (arith, wrong))
relation_same Ge Eq true c u v gb gc e = let wrong : (let n : ℕ = 60 in n) ≡ 61 = second e in absurd (omega (arith, wrong))
relation_same Ge Eq false c u v gb gc e = let wrong : (let n : ℕ = 62 in n) ≡ 61 = second e in absurd (omega (arith, wrong))

-- rows ---------------------------------------------------------------------------

turned_twice : (b : Bool) (z : ℤ) → negated_if b (negated_if b z) ≡ z
turned_twice true z = omega (arith, ints)
turned_twice false z = refl

turned_same : (b : Bool) (y z : ℤ) → negated_if b y ≡ negated_if b z → y ≡ z
turned_same b y z e = sym (turned_twice b y) ∙ ap (negated_if b) e ∙ turned_twice b z

all_turned_same : (b : Bool) (cs ds : List ℤ) → map (negated_if b) cs ≡ map (negated_if b) ds → cs ≡ ds
all_turned_same b [] [] e = refl
all_turned_same b [] (d ∷ ds) e = cc
all_turned_same b (c ∷ cs) [] e = cc
all_turned_same b (c ∷ cs) (d ∷ ds) e = both_same (turned_same b c d (first_same e)) (all_turned_same b cs ds (rest_same e))

turned_in : (b : Bool) (z : ℤ) → InRange z → InRange (negated_if b z)
turned_in true z h = omega (arith, ints, h)
turned_in false z h = h

all_turned_in : (b : Bool) (cs : List ℤ) → AllByRecursion InRange cs → AllByRecursion InRange (map (negated_if b) cs)
all_turned_in b [] h = h
all_turned_in b (c ∷ cs) h = (turned_in b c h.0, all_turned_in b cs h.1)

length_turned : (b : Bool) (cs : List ℤ) → length (map (negated_if b) cs) ≡ length cs
length_turned b [] = refl
length_turned b (c ∷ cs) = ap suc (length_turned b cs)

-- turned by its own first coefficient, that is above 0
up_kept : (cs : List ℤ) → is_negated cs ≡ false → is_negated (map (negated_if false) cs) ≡ false
up_kept [] e = refl
up_kept (pos zero ∷ cs) e = up_kept cs e
up_kept (pos (suc n) ∷ cs) e = refl
up_kept (negsuc n ∷ cs) e = e

up_turned : (cs : List ℤ) → is_negated cs ≡ true → is_negated (map (negated_if true) cs) ≡ false
up_turned [] e = refl
up_turned (pos zero ∷ cs) e = up_turned cs e
up_turned (pos (suc n) ∷ cs) e = cc
up_turned (negsuc n ∷ cs) e = ap (λ k. is_negated (pos k ∷ map (negated_if true) cs)) (zero-add (suc n))

up_cases : (b : Bool) (cs : List ℤ) → is_negated cs ≡ b → is_negated (map (negated_if b) cs) ≡ false
up_cases true cs e = up_turned cs e
up_cases false cs e = up_kept cs e

directed : (k : ConKind) (cs : List ℤ) → IsDirected k cs → Given k (is_negated cs)
directed Eq cs h = h
directed Ge cs h = h

row_pieces : (ns : List (List ℕ)) (r : ReportRow) (u : List ℕ) →
    row_text ns r ++ u ≡ form_text (map (negated_if (is_negated r.coefficients)) r.coefficients) ns ++
    (relation_text r.kind (is_negated r.coefficients) ++ (signed_decimal (negated_if (not (is_negated r.coefficients)) r.constant) ++ u))
row_pieces ns r u = simp append_assoc

row_by : (k l : ConKind) (c d : ℤ) (cs ds : List ℤ) → k ≡ l → c ≡ d → cs ≡ ds →
    (let x : ReportRow = record { kind = k; constant = c; coefficients = cs } in x) ≡
    record { kind = l; constant = d; coefficients = ds }
row_by k l c d cs ds p q r = ap (λ x. record { kind = x; constant = c; coefficients = cs }) p ∙ ap (λ x. record { kind = l; constant = x; coefficients = cs }) q ∙
    ap (λ x. record { kind = l; constant = d; coefficients = x }) r

pub row_same : (ns : List (List ℕ)) (r s : ReportRow) (u v : List ℕ) → AreShownNames ns → length r.coefficients ≡ length ns → length s.coefficients ≡ length ns → IsSpelledRow r → IsSpelledRow s →
    Ends is_ascii_digit u → Ends is_ascii_digit v →
    row_text ns r ++ u ≡ row_text ns s ++ v → (r ≡ s) × (u ≡ v)
row_same ns r s u v hn lr ls hr hs eu ev e =
    let b = is_negated r.coefficients in
    let c = is_negated s.coefficients in
    let behind_r = signed_decimal (negated_if (not b) r.constant) ++ u in
    let behind_s = signed_decimal (negated_if (not c) s.constant) ++ v in
    let forms = form_same (map (negated_if b) r.coefficients) (map (negated_if c) s.coefficients) ns (relation_text r.kind b ++ behind_r) (relation_text s.kind c ++ behind_s)
    (up_cases b r.coefficients refl) (up_cases c s.coefficients refl) (length_turned b r.coefficients ∙ lr) (length_turned c s.coefficients ∙ ls)
    (all_turned_in b r.coefficients hr.in_range.coefficients_in) (all_turned_in c s.coefficients hs.in_range.coefficients_in) hn (relation_behind r.kind b behind_r) (relation_behind s.kind c behind_s)
    (sym (row_pieces ns r u) ∙ e ∙ row_pieces ns s v) in
    let relations = relation_same r.kind s.kind b c behind_r behind_s (directed r.kind r.coefficients hr.directed) (directed s.kind s.coefficients hs.directed) forms.1 in
    let numbers = signed_same (negated_if (not b) r.constant) (negated_if (not c) s.constant) u v
    (short_in_range (negated_if (not b) r.constant) (turned_in (not b) r.constant hr.in_range.constant_in))
    (short_in_range (negated_if (not c) s.constant) (turned_in (not c) s.constant hs.in_range.constant_in)) eu ev relations.rest in
    let coefficients : r.coefficients ≡ s.coefficients = all_turned_same b r.coefficients s.coefficients (forms.0 ∙ ap (λ t. map (negated_if t) s.coefficients) (sym relations.turn)) in
    let constants : r.constant ≡ s.constant = turned_same (not b) r.constant s.constant (numbers.0 ∙ ap (λ t. negated_if (not t) s.constant) (sym relations.turn)) in
    (row_by r.kind s.kind r.constant s.constant r.coefficients s.coefficients relations.kind constants coefficients, numbers.1)

-- a row isn't written `true` -----------------------------------------------------

terms_blank : (cs : List ℤ) (ns : List (List ℕ)) (u w : List ℕ) (b : ℕ) → IsBehindTerms u → terms_text cs ns ++ u ≡ b ∷ w → b ≡ 32
terms_blank [] ns [] w b h e = absurd h
terms_blank [] ns (a ∷ []) w b h e = absurd h
terms_blank [] ns (a ∷ (c ∷ u)) w b h e = sym (first_same e) ∙ h.0
terms_blank (d ∷ cs) [] [] w b h e = absurd h
terms_blank (d ∷ cs) [] (a ∷ []) w b h e = absurd h
terms_blank (d ∷ cs) [] (a ∷ (c ∷ u)) w b h e = sym (first_same e) ∙ h.0
terms_blank (pos zero ∷ cs) (n ∷ ns) u w b h e = terms_blank cs ns u w b h e
terms_blank (pos (suc k) ∷ cs) (n ∷ ns) u w b h e = sym (first_same e)
terms_blank (negsuc k ∷ cs) (n ∷ ns) u w b h e = sym (first_same e)

no_digit : is_ascii_digit 116 ≡ true → ⊥
no_digit e = cc

product_not_true : (c : Bool) (k : ℕ) (n u w : List ℕ) → IsShort k → IsShownName n → Ends is_visible u → (u ≡ 10 ∷ w → ⊥) →
    (if c then n else decimal k ++ codes "*" ++ n) ++ u ≡ codes "true" ++ (10 ∷ w) → ⊥
product_not_true true k n u w hk hn eu other e = other (front_same is_visible n (codes "true") u (10 ∷ w) (name_passes n hn) (refl, (refl, (refl, (refl, tt)))) eu refl e).1
product_not_true false k n u w hk hn eu other e =
    no_digit (decimal_first k (42 ∷ n ++ u) (codes "rue" ++ (10 ∷ w)) 116 hk (sym (ap (λ t. t ++ u) (append_assoc (decimal k) (codes "*") n) ∙ append_assoc (decimal k) (42 ∷ n) u) ∙ e))

no_blank : (let n : ℕ = 10 in n) ≡ 32 → ⊥
no_blank e = omega (arith, e)

no_letter : (let n : ℕ = 116 in n) ≡ 32 → ⊥
no_letter e = omega (arith, e)

form_not_true : (cs : List ℤ) (ns : List (List ℕ)) (u w : List ℕ) → AllByRecursion InRange cs → AreShownNames ns → IsBehindTerms u → form_text cs ns ++ u ≡ codes "true" ++ (10 ∷ w) → ⊥
form_not_true [] ns u w hc hn hu e = no_letter (terms_blank [] ns u _ 116 hu e)
form_not_true (c ∷ cs) [] u w hc hn hu e = no_letter (terms_blank [] [] u _ 116 hu e)
form_not_true (pos zero ∷ cs) (n ∷ ns) u w hc hn hu e = form_not_true cs ns u w hc.1 hn.2 hu e
form_not_true (pos (suc k) ∷ cs) (n ∷ ns) u w hc hn hu e =
    product_not_true (nat_eq (suc k) 1) (suc k) n (terms_text cs ns ++ u) w (short_in_range (pos (suc k)) hc.0) hn.0 (terms_ends cs ns u hu) (λ f. no_blank (terms_blank cs ns u w 10 hu f))
    (sym (append_assoc (product_text (suc k) n) (terms_text cs ns) u) ∙ e)
form_not_true (negsuc k ∷ cs) (n ∷ ns) u w hc hn hu e =
    product_not_true (nat_eq (suc k) 1) (suc k) n (terms_text cs ns ++ u) w (short_in_range (negsuc k) hc.0) hn.0 (terms_ends cs ns u hu) (λ f. no_blank (terms_blank cs ns u w 10 hu f))
    (sym (append_assoc (product_text (suc k) n) (terms_text cs ns) u) ∙ e)

pub row_not_true : (ns : List (List ℕ)) (r : ReportRow) (u w : List ℕ) → AreShownNames ns → IsSpelledRow r → row_text ns r ++ u ≡ codes "true" ++ (10 ∷ w) → ⊥
row_not_true ns r u w hn hr e =
    let b = is_negated r.coefficients in
    let behind = signed_decimal (negated_if (not b) r.constant) ++ u in
    form_not_true (map (negated_if b) r.coefficients) ns (relation_text r.kind b ++ behind) w (all_turned_in b r.coefficients hr.in_range.coefficients_in) hn (relation_behind r.kind b behind)
    (sym (row_pieces ns r u) ∙ e)
