-- One text, one generator.
use Rattle.std.proofs.Common.{◌≡◌, ℕ, zero, suc, ◌<◌, ◌≤◌, ◌*◌, ◌/◌, ◌%◌, ℤ, pos, negsuc, nat_abs, nat_eq, neg_ℤ, ◌*ℤ◌, int_div, Bool, true, false, List, [], ◌∷◌, ◌++◌, length, codes, if◌then◌else◌}
use Rattle.std.proofs.Common.{refl, ap, sym, ◌∙◌, subst, arith, append_assoc}
use Rattle.std.proofs.Math.Nat.{one-dvd, pos_of_dvd_of_pos, mul-div_cancel', div-le_self}
use Rattle.std.proofs.{lemmas.Bool.both_ways, lemmas.Bool.eqb-true, lemmas.Bool.eqb-false, lemmas.Bool.Decides.nat_tests, lemmas.List.append_cancel_left, lemmas.Nat.Gcd.dvd_of_mod-eq-zero}
use Rattle.std.specs.{Char.is_ascii_digit, Fmt.decimal, Fmt.signed_decimal, Int.◌∣◌, List.AllByRecursion, Prelude.⊤}
use Rattle.lra_report.specs.Crates.lra_linear_spec.declared.GenKind.TheVariants.{Point, Ray, Line}
use Rattle.lra_report.specs.Crates.{lra_linear_spec.LowestTerms.IsPrimitive, lra_linear_spec.Range.InRange, lra_linear_spec.Vectors.entry, lra_linear_spec.declared.GenKind.GenKind}
use Rattle.lra_report.proofs.Crates.lra_linear_spec.LowestTerms.{same_multiple, signed_quotient_is}
use Rattle.lra_report.proofs.Crates.{lra_linear_spec.Products.row_same, lra_linear_spec.Ring.v as atom, lra_linear_spec.Ring.◌⊗◌, lra_linear_spec.Ring.ring, lra_linear_spec.Signs.cancel_same}
use Rattle.lra_row_text.specs.Part.{ReportGenerator}
use Rattle.lra_row_text.specs.Texts.{greatest_divisor, fraction_text, coordinate_text, value_text, values_text, generator_kind_text, generator_text}
use Rattle.lra_report.specs.Spelled.{IsSpelledGenerator}
use Rattle.lra_report.proofs.{Fronts.is_visible, Fronts.Ends, Fronts.first_same, Fronts.rest_same, Fronts.both_same, Numbers.IsShort, Numbers.decimal_same, Numbers.signed_same, Numbers.short_in_range}

-- values -------------------------------------------------------------------------

visible_cases : (b : ℕ) → is_visible b ≡ false → is_ascii_digit b ≡ false
visible_cases b h = grind (arith, nat_tests)

pub digit_ends : (u : List ℕ) → Ends is_visible u → Ends is_ascii_digit u
digit_ends [] h = h
digit_ends (b ∷ u) h = visible_cases b h

-- a fraction and what follows it
solidus : (u w : List ℕ) → Ends is_visible u → u ≡ 47 ∷ w → ⊥
solidus [] w h e = cc
solidus (b ∷ u) w h e = both_ways (is_visible b) h (ap is_visible (first_same e))

fraction_cases : (p q : Bool) (a b : ℤ) (m n : ℕ) (u v : List ℕ) → nat_eq m 1 ≡ p → nat_eq n 1 ≡ q → IsShort (nat_abs a) → IsShort (nat_abs b) → IsShort m → IsShort n → Ends is_visible u →
    Ends is_visible v →
    (if p then signed_decimal a else signed_decimal a ++ codes "/" ++ decimal m) ++ u ≡ (if q then signed_decimal b else signed_decimal b ++ codes "/" ++ decimal n) ++ v → (a ≡ b) × (m ≡ n) × (u ≡ v)
fraction_cases true true a b m n u v ep eq ha hb hm hn eu ev e =
    let s = signed_same a b u v ha hb (digit_ends u eu) (digit_ends v ev) e in (s.0, eqb-true m 1 ep ∙ sym (eqb-true n 1 eq), s.1)
fraction_cases true false a b m n u v ep eq ha hb hm hn eu ev e =
    let s = signed_same a b u (47 ∷ (decimal n ++ v)) ha hb (digit_ends u eu) refl (e ∙ ap (λ t. t ++ v) (append_assoc (signed_decimal b) (codes "/") (decimal n)) ∙
    append_assoc (signed_decimal b) (47 ∷ decimal n) v) in
    absurd (solidus u (decimal n ++ v) eu s.1)
fraction_cases false true a b m n u v ep eq ha hb hm hn eu ev e =
    let s = signed_same b a v (47 ∷ (decimal m ++ u)) hb ha (digit_ends v ev) refl (sym e ∙ ap (λ t. t ++ u) (append_assoc (signed_decimal a) (codes "/") (decimal m)) ∙
    append_assoc (signed_decimal a) (47 ∷ decimal m) u) in
    absurd (solidus v (decimal m ++ u) ev s.1)
fraction_cases false false a b m n u v ep eq ha hb hm hn eu ev e =
    let s = signed_same a b (47 ∷ (decimal m ++ u)) (47 ∷ (decimal n ++ v)) ha hb refl refl
    (sym (ap (λ t. t ++ u) (append_assoc (signed_decimal a) (codes "/") (decimal m)) ∙ append_assoc (signed_decimal a) (47 ∷ decimal m) u) ∙ e ∙
    ap (λ t. t ++ v) (append_assoc (signed_decimal b) (codes "/") (decimal n)) ∙ append_assoc (signed_decimal b) (47 ∷ decimal n) v) in
    let t = decimal_same m n u v hm hn (digit_ends u eu) (digit_ends v ev) (rest_same s.1) in
    (s.0, t.0, t.1)

pub fraction_same : (a b : ℤ) (m n : ℕ) (u v : List ℕ) → IsShort (nat_abs a) → IsShort (nat_abs b) → IsShort m → IsShort n → Ends is_visible u → Ends is_visible v →
    fraction_text a m ++ u ≡ fraction_text b n ++ v → (a ≡ b) × (m ≡ n) × (u ≡ v)
fraction_same a b m n u v ha hb hm hn eu ev e = fraction_cases (nat_eq m 1) (nat_eq n 1) a b m n u v refl refl ha hb hm hn eu ev e

-- lowest terms -------------------------------------------------------------------

-- what is divided by is a divisor of both
abbrev Divides : ℕ → ℕ → ℕ → Type 0
Divides g m n = (g ∣ m) × (g ∣ n)

chosen : (a b : Bool) (k rest m n : ℕ) → (a ≡ true → b ≡ true → Divides k m n) → Divides rest m n → Divides (if a then (if b then k else rest) else rest) m n
chosen true true k rest m n h r = h refl refl
chosen true false k rest m n h r = r
chosen false b k rest m n h r = r

pub divides_both : (k m n : ℕ) → Divides (greatest_divisor k m n) m n
divides_both zero m n = (one-dvd m, one-dvd n)
divides_both (suc k) m n =
    chosen (nat_eq (m % suc k) 0) (nat_eq (n % suc k) 0) (suc k) (greatest_divisor k m n) m n
    (λ a b. (dvd_of_mod-eq-zero (suc k) (eqb-true (m % suc k) 0 a), dvd_of_mod-eq-zero (suc k) (eqb-true (n % suc k) 0 b))) (divides_both k m n)

whole_part : (g n : ℕ) → g ∣ n → g * (n / g) ≡ n
whole_part g n h = mul-div_cancel' g h

exact_part : (g : ℕ) (z : ℤ) → g ∣ nat_abs z → pos g *ℤ int_div z (pos g) ≡ z
exact_part g (pos n) h = signed_quotient_is g (pos n) h
exact_part g (negsuc n) h = signed_quotient_is g (negsuc n) h

quotient_short : (g n : ℕ) → 0 < g → IsShort n → IsShort (n / g)
quotient_short g n some h = let below : n / g ≤ n = div-le_self n g in omega (arith, below)

negative_size : (n : ℕ) → nat_abs (neg_ℤ (pos n)) ≡ n
negative_size zero = refl
negative_size (suc n) = refl

part_short : (g : ℕ) (z : ℤ) → 0 < g → IsShort (nat_abs z) → IsShort (nat_abs (int_div z (pos g)))
part_short g (pos n) some h = quotient_short g n some h
part_short g (negsuc n) some h = subst IsShort (sym (negative_size (suc n / g))) (quotient_short g (suc n) some h)

swapped : (h q g b : ℤ) → (h *ℤ q) *ℤ (g *ℤ b) ≡ (g *ℤ q) *ℤ (h *ℤ b)
swapped h q g b = ring ((atom h ⊗ atom q) ⊗ (atom g ⊗ atom b)) ((atom g ⊗ atom q) ⊗ (atom h ⊗ atom b)) (omega arith)

pub coordinate_same : (y z : ℤ) (d e : ℕ) (u v : List ℕ) → 0 < d → 0 < e → IsShort (nat_abs y) → IsShort (nat_abs z) → IsShort d → IsShort e → Ends is_visible u → Ends is_visible v →
    coordinate_text y d ++ u ≡ coordinate_text z e ++ v → (pos e *ℤ y ≡ pos d *ℤ z) × (u ≡ v)
coordinate_same y z d e u w some_d some_e hy hz hd he eu ew same =
    let g = greatest_divisor d (nat_abs y) d in
    let h = greatest_divisor e (nat_abs z) e in
    let dg = divides_both d (nat_abs y) d in
    let eh = divides_both e (nat_abs z) e in
    let some_g : 0 < g = pos_of_dvd_of_pos dg.1 some_d in
    let some_h : 0 < h = pos_of_dvd_of_pos eh.1 some_e in
    let a = int_div y (pos g) in
    let b = int_div z (pos h) in
    let s = fraction_same a b (d / g) (e / h) u w (part_short g y some_g hy) (part_short h z some_h hz) (quotient_short g d some_g hd) (quotient_short h e some_h he) eu ew same in
    let top_y : pos g *ℤ a ≡ y = exact_part g y dg.0 in
    let top_z : pos h *ℤ b ≡ z = exact_part h z eh.0 in
    let low_d : pos g *ℤ pos (d / g) ≡ pos d = ap pos (whole_part g d dg.1) in
    let low_e : pos h *ℤ pos (e / h) ≡ pos e = ap pos (whole_part h e eh.1) in
    let crossed : (pos h *ℤ pos (e / h)) *ℤ (pos g *ℤ a) ≡ (pos g *ℤ pos (d / g)) *ℤ (pos h *ℤ b) =
    ap (λ x. (pos h *ℤ pos (e / h)) *ℤ (pos g *ℤ x)) s.0 ∙ ap (λ x. (pos h *ℤ pos x) *ℤ (pos g *ℤ b)) (sym s.1)
    ∙ swapped (pos h) (pos (d / g)) (pos g) b in
    (ap (λ x. x *ℤ y) (sym low_e) ∙ ap (λ x. (pos h *ℤ pos (e / h)) *ℤ x) (sym top_y) ∙ crossed ∙ ap (λ x. (pos g *ℤ pos (d / g)) *ℤ x) top_z ∙ ap (λ x. x *ℤ z) low_d, s.2)

-- generators ---------------------------------------------------------------------

-- the numbers of one point are those of the other, times the divisors crosswise
abbrev Crossed : ℕ → ℕ → List ℤ → List ℤ → Type 0
Crossed d e [] [] = ⊤
Crossed d e [] (z ∷ zs) = ⊥
Crossed d e (y ∷ ys) [] = ⊥
Crossed d e (y ∷ ys) (z ∷ zs) = (pos e *ℤ y ≡ pos d *ℤ z) × Crossed d e ys zs

values_end : (value : ℤ → List ℕ) (ns : List (List ℕ)) (zs : List ℤ) (u : List ℕ) → Ends is_visible (values_text value ns zs ++ (10 ∷ u))
values_end value [] zs u = refl
values_end value (n ∷ ns) [] u = refl
values_end value (n ∷ ns) (z ∷ zs) u = refl

pub value_pieces : (a t r u : List ℕ) → ((a ++ t) ++ r) ++ u ≡ a ++ (t ++ (r ++ u))
value_pieces a t r u = ap (λ x. x ++ u) (append_assoc a t r) ∙ append_assoc a (t ++ r) u ∙ ap (λ x. a ++ x) (append_assoc t r u)

-- the first of the values, without its name
value_front : (f g : ℤ → List ℕ) (n : List ℕ) (ns : List (List ℕ)) (y z : ℤ) (ys zs : List ℤ) (u w : List ℕ) →
    values_text f (n ∷ ns) (y ∷ ys) ++ (10 ∷ u) ≡ values_text g (n ∷ ns) (z ∷ zs) ++ (10 ∷ w) → f y ++ (values_text f ns ys ++ (10 ∷ u)) ≡ g z ++ (values_text g ns zs ++ (10 ∷ w))
value_front f g n ns y z ys zs u w e =
    let name = codes " " ++ n ++ codes "=" in
    append_cancel_left name _ _ (sym (value_pieces name (f y) (values_text f ns ys) (10 ∷ u)) ∙ e ∙ value_pieces name (g z) (values_text g ns zs) (10 ∷ w))

pub whole_values : (ns : List (List ℕ)) (ys zs : List ℤ) (u w : List ℕ) → length ys ≡ length ns → length zs ≡ length ns → AllByRecursion InRange ys → AllByRecursion InRange zs →
    values_text signed_decimal ns ys ++ (10 ∷ u) ≡ values_text signed_decimal ns zs ++ (10 ∷ w) → (ys ≡ zs) × (u ≡ w)
whole_values [] [] [] u w ly lz hy hz e = (refl, rest_same e)
whole_values [] [] (z ∷ zs) u w ly lz hy hz e = absurd (omega arith)
whole_values [] (y ∷ ys) zs u w ly lz hy hz e = absurd (omega arith)
whole_values (n ∷ ns) [] zs u w ly lz hy hz e = absurd (omega arith)
whole_values (n ∷ ns) (y ∷ ys) [] u w ly lz hy hz e = absurd (omega arith)
whole_values (n ∷ ns) (y ∷ ys) (z ∷ zs) u w ly lz hy hz e =
    let s = signed_same y z (values_text signed_decimal ns ys ++ (10 ∷ u)) (values_text signed_decimal ns zs ++ (10 ∷ w)) (short_in_range y hy.0) (short_in_range z hz.0)
    (digit_ends (values_text signed_decimal ns ys ++ (10 ∷ u)) (values_end signed_decimal ns ys u)) (digit_ends (values_text signed_decimal ns zs ++ (10 ∷ w)) (values_end signed_decimal ns zs w))
    (value_front signed_decimal signed_decimal n ns y z ys zs u w e) in
    let t = whole_values ns ys zs u w (omega arith) (omega arith) hy.1 hz.1 s.1 in
    (both_same s.0 t.0, t.1)

pub point_values : (ns : List (List ℕ)) (d e : ℕ) (ys zs : List ℤ) (u w : List ℕ) → 0 < d → 0 < e → IsShort d → IsShort e → length ys ≡ length ns → length zs ≡ length ns → AllByRecursion InRange ys →
    AllByRecursion InRange zs →
    values_text (λ z. coordinate_text z d) ns ys ++ (10 ∷ u) ≡ values_text (λ z. coordinate_text z e) ns zs ++ (10 ∷ w) → Crossed d e ys zs × (u ≡ w)
point_values [] d e [] [] u w sd se hd he ly lz hy hz eq = (tt, rest_same eq)
point_values [] d e [] (z ∷ zs) u w sd se hd he ly lz hy hz eq = absurd (omega arith)
point_values [] d e (y ∷ ys) zs u w sd se hd he ly lz hy hz eq = absurd (omega arith)
point_values (n ∷ ns) d e [] zs u w sd se hd he ly lz hy hz eq = absurd (omega arith)
point_values (n ∷ ns) d e (y ∷ ys) [] u w sd se hd he ly lz hy hz eq = absurd (omega arith)
point_values (n ∷ ns) d e (y ∷ ys) (z ∷ zs) u w sd se hd he ly lz hy hz eq =
    let f : ℤ → List ℕ = λ x. coordinate_text x d in
    let g : ℤ → List ℕ = λ x. coordinate_text x e in
    let s = coordinate_same y z d e (values_text f ns ys ++ (10 ∷ u)) (values_text g ns zs ++ (10 ∷ w)) sd se (short_in_range y hy.0) (short_in_range z hz.0) hd he
    (values_end f ns ys u) (values_end g ns zs w) (value_front f g n ns y z ys zs u w eq) in
    let t = point_values ns d e ys zs u w sd se hd he (omega arith) (omega arith) hy.1 hz.1 s.1 in
    ((s.0, t.0), t.1)

crossed_entry : (d e : ℕ) (ys zs : List ℤ) (j : ℕ) → Crossed d e ys zs → pos e *ℤ entry ys j ≡ pos d *ℤ entry zs j
crossed_entry d e [] [] j h = swapped_zero e d
  where
    swapped_zero : (a b : ℕ) → pos a *ℤ pos 0 ≡ pos b *ℤ pos 0
    swapped_zero a b = ring (atom (pos a) ⊗ atom (pos 0)) (atom (pos 0)) (omega arith) ∙ sym (ring (atom (pos b) ⊗ atom (pos 0)) (atom (pos 0)) (omega arith))
crossed_entry d e [] (z ∷ zs) j h = absurd h
crossed_entry d e (y ∷ ys) [] j h = absurd h
crossed_entry d e (y ∷ ys) (z ∷ zs) zero h = h.0
crossed_entry d e (y ∷ ys) (z ∷ zs) (suc j) h = crossed_entry d e ys zs j h.1

crossed_length : (d e : ℕ) (ys zs : List ℤ) → Crossed d e ys zs → length ys ≡ length zs
crossed_length d e [] [] h = refl
crossed_length d e [] (z ∷ zs) h = absurd h
crossed_length d e (y ∷ ys) [] h = absurd h
crossed_length d e (y ∷ ys) (z ∷ zs) h = ap suc (crossed_length d e ys zs h.1)

commuted : (a b : ℤ) → a *ℤ b ≡ b *ℤ a
commuted a b = ring (atom a ⊗ atom b) (atom b ⊗ atom a) (omega arith)

-- points of the same coordinates, both in lowest terms
point_same : (d e : ℕ) (ys zs : List ℤ) → 0 < d → 0 < e → IsPrimitive (pos d ∷ ys) → IsPrimitive (pos e ∷ zs) → Crossed d e ys zs → (d ≡ e) × (ys ≡ zs)
point_same d e ys zs sd se py pz h =
    let all : (j : ℕ) → pos e *ℤ entry (pos d ∷ ys) j ≡ pos d *ℤ entry (pos e ∷ zs) j = columns in
    let same : e ≡ d = same_multiple e d (pos d ∷ ys) (pos e ∷ zs) py pz all in
    (sym same, row_same ys zs (crossed_length d e ys zs h) (λ j. cancel_same d (entry ys j) (entry zs j) sd (ap (λ k. pos k *ℤ entry ys j) (sym same) ∙ crossed_entry d e ys zs j h)))
  where
    columns : (j : ℕ) → pos e *ℤ entry (pos d ∷ ys) j ≡ pos d *ℤ entry (pos e ∷ zs) j
    columns zero = commuted (pos e) (pos d)
    columns (suc j) = crossed_entry d e ys zs j h

generator_by : (k : GenKind) (d e : ℕ) (ys zs : List ℤ) → d ≡ e → ys ≡ zs → (let x : ReportGenerator = record { kind = k; divisor = d; numbers = ys } in x) ≡
    record { kind = k; divisor = e; numbers = zs }
generator_by k d e ys zs p q = ap (λ x. record { kind = k; divisor = x; numbers = ys }) p ∙ ap (λ x. record { kind = k; divisor = e; numbers = x }) q

other_kind : {A : Type 0} (a b : ℕ) (t u : List ℕ) → nat_eq a b ≡ false → a ∷ t ≡ b ∷ u → A
other_kind a b t u h e = absurd (eqb-false a b h (first_same e))

generator_cases : (ns : List (List ℕ)) (k l : GenKind) (d e : ℕ) (ys zs : List ℤ) (u w : List ℕ) → length ys ≡ length ns → length zs ≡ length ns →
    IsSpelledGenerator (record { kind = k; divisor = d; numbers = ys }) → IsSpelledGenerator (record { kind = l; divisor = e; numbers = zs }) →
    generator_kind_text k ++ (values_text (value_text k d) ns ys ++ (10 ∷ u)) ≡ generator_kind_text l ++ (values_text (value_text l e) ns zs ++ (10 ∷ w)) →
    ((let x : ReportGenerator = record { kind = k; divisor = d; numbers = ys } in x) ≡ record { kind = l; divisor = e; numbers = zs }) × (u ≡ w)
generator_cases ns Point Point d e ys zs u w ly lz hy hz eq =
    let s = point_values ns d e ys zs u w hy.divides hz.divides (short_in_range (pos d) hy.divisor_in) (short_in_range (pos e) hz.divisor_in) ly lz hy.numbers_in hz.numbers_in
    (append_cancel_left (codes "point") _ _ eq) in
    let t = point_same d e ys zs hy.divides hz.divides hy.reduced hz.reduced s.0 in
    (generator_by Point d e ys zs t.0 t.1, s.1)
generator_cases ns Ray Ray d e ys zs u w ly lz hy hz eq =
    let s = whole_values ns ys zs u w ly lz hy.numbers_in hz.numbers_in (append_cancel_left (codes "ray") _ _ eq) in
    (generator_by Ray d e ys zs (hy.divides ∙ sym hz.divides) s.0, s.1)
generator_cases ns Line Line d e ys zs u w ly lz hy hz eq =
    let s = whole_values ns ys zs u w ly lz hy.numbers_in hz.numbers_in (append_cancel_left (codes "line") _ _ eq) in
    (generator_by Line d e ys zs (hy.divides ∙ sym hz.divides) s.0, s.1)
generator_cases ns Point Ray d e ys zs u w ly lz hy hz eq = other_kind 112 114 _ _ refl eq
generator_cases ns Point Line d e ys zs u w ly lz hy hz eq = other_kind 112 108 _ _ refl eq
generator_cases ns Ray Point d e ys zs u w ly lz hy hz eq = other_kind 114 112 _ _ refl eq
generator_cases ns Ray Line d e ys zs u w ly lz hy hz eq = other_kind 114 108 _ _ refl eq
generator_cases ns Line Point d e ys zs u w ly lz hy hz eq = other_kind 108 112 _ _ refl eq
generator_cases ns Line Ray d e ys zs u w ly lz hy hz eq = other_kind 108 114 _ _ refl eq

pub generator_same : (ns : List (List ℕ)) (g h : ReportGenerator) (u w : List ℕ) → length g.numbers ≡ length ns → length h.numbers ≡ length ns → IsSpelledGenerator g → IsSpelledGenerator h →
    generator_text ns g ++ (10 ∷ u) ≡ generator_text ns h ++ (10 ∷ w) → (g ≡ h) × (u ≡ w)
generator_same ns g h u w lg lh hg hh eq =
    generator_cases ns g.kind h.kind g.divisor h.divisor g.numbers h.numbers u w lg lh hg hh
    (sym (append_assoc (generator_kind_text g.kind) (values_text (value_text g.kind g.divisor) ns g.numbers) (10 ∷ u)) ∙ eq ∙
    append_assoc (generator_kind_text h.kind) (values_text (value_text h.kind h.divisor) ns h.numbers) (10 ∷ w))
