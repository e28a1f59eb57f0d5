-- What signs keep.
use Rattle.std.proofs.Common.{◌≡◌, ◌<◌, ◌≤◌, ◌^◌, ℕ, ℤ, pos, negsuc, ◌≤ℤ◌, ◌+ℤ◌, ◌*ℤ◌, Bool, true, false, not, ◌&&◌}
use Rattle.std.proofs.Common.{◌||◌, List, [], ◌∷◌, length, refl, subst, sym, arith, ◌↔◌}
use Rattle.std.proofs.lemmas.Bool.{and_parts}
use Rattle.std.proofs.{Math.Bool.or-not_self, lemmas.Int.ints}
use Rattle.std.specs.{Ordering.int_eq, Prelude.int_le}
use Rattle.guzhtarel.specs.Domains.ExactDomains.{Facts, abstraction_of, laws_of}
use Rattle.guzhtarel.specs.EntryDomains.{EntryFacts, one_if, of_entries}
use Rattle.guzhtarel.specs.Linear.Vectors.{entry, product}
use Rattle.guzhtarel.specs.{Domains.Laws.Laws, Entries.AllHave, Entries.AllHold, Linear.ConKind.TheVariants.Ge}
use Rattle.guzhtarel.proofs.{EntryDomains.facts_of, Rows.UnitRows.unit_product}
use Rattle.use_signs.specs.Signs.{Known, is_sum_known, sign_row, sign}

-- ---- the value of a form that is known
times_known : (c x : ℤ) → pos 0 ≤ℤ c → pos 0 ≤ℤ x → pos 0 ≤ℤ (c *ℤ x)
times_known (pos c) (pos x) h p = grind (arith, ints)
times_known (pos c) (negsuc x) h p = absurd (omega (arith, ints))
times_known (negsuc c) x h p = absurd (omega (arith, ints))

one_known : (c x : ℤ) (k : Bool) → (int_le (pos 0) c && (k || int_eq c (pos 0))) ≡ true → Known k x → pos 0 ≤ℤ (c *ℤ x)
one_known c x true t h = let p = and_parts (int_le (pos 0) c) true t in times_known c x (grind (arith, ints)) h
one_known c x false t h =
    let p = and_parts (int_le (pos 0) c) (int_eq c (pos 0)) t in
    let none : c ≡ pos 0 = grind (arith, ints) in
    rw none (grind (arith, ints))

sum_known : (cs : List ℤ) (ks : List Bool) (s : List ℤ) → is_sum_known cs ks ≡ true → length cs ≡ length ks →
    AllHave Known ks s → pos 0 ≤ℤ product cs s
sum_known [] ks s t f a = omega (arith, ints)
sum_known (c ∷ cs) [] s t f a = absurd (omega (arith, f))
sum_known (c ∷ cs) (k ∷ ks) [] t f a = absurd a
sum_known (c ∷ cs) (k ∷ ks) (x ∷ s) t f a =
    let p = and_parts (int_le (pos 0) c && (k || int_eq c (pos 0))) (is_sum_known cs ks) t in
    let one = one_known c x k p.0 a.0 in
    let rest = sum_known cs ks s p.1 (omega (arith, f)) a.1 in
    omega (arith, ints)

form_known : (z : ℤ) (cs : List ℤ) (ks : List Bool) (s : List ℤ) → length cs ≡ length ks → AllHave Known ks s →
    Known (int_le (pos 0) z && is_sum_known cs ks) (z +ℤ product cs s)
form_known z cs ks s f a = by_test (int_le (pos 0) z && is_sum_known cs ks) refl
  where
    by_test : (b : Bool) → (int_le (pos 0) z && is_sum_known cs ks) ≡ b → Known b (z +ℤ product cs s)
    by_test false t = tt
    by_test true t =
        let p = and_parts (int_le (pos 0) z) (is_sum_known cs ks) t in
        let low : pos 0 ≤ℤ z = grind (arith, ints) in
        let rest = sum_known cs ks s p.1 f a in
        omega (arith, ints)

-- ---- one sign
less_known : (k j : Bool) (x : ℤ) → (k || not j) ≡ true → Known k x → Known j x
less_known k false x t h = tt
less_known true true x t h = h
less_known false true x t h = cc

left : (k j : Bool) → (k || not (k && j)) ≡ true
left true j = refl
left false j = refl

right : (k j : Bool) → (j || not (k && j)) ≡ true
right k true = refl
right true false = refl
right false false = refl

few : (k : Bool) → one_if k ≤ 2 ^ 31
few true = omega arith
few false = omega arith

less : (k j : Bool) → one_if (k && j) ≤ one_if k
less false j = omega arith
less true true = omega arith
less true false = omega arith

falls : (k j : Bool) → (j || not k) ≡ false → one_if (k && j) < one_if k
falls false true t = cc
falls false false t = cc
falls true true t = cc
falls true false t = omega arith

row_holds : (n column : ℕ) (k : Bool) (x : List ℤ) → column ≤ n → entry x 0 ≡ pos 1 →
    AllHold Ge (sign_row n column k) x ↔ Known k (entry x column)
row_holds n column false x h d = (λ a. tt, λ a. tt)
row_holds n column true x h d =
    let is = unit_product n column x (omega (arith, h)) in
    (λ a. subst (λ z. pos 0 ≤ℤ z) is a.0, λ a. (subst (λ z. pos 0 ≤ℤ z) (sym is) a, tt))

pub sign_facts : EntryFacts sign
sign_facts = record {
  top_gamma = λ x. tt;
  reflexive = or-not_self;
  leq_gamma = less_known;
  left = left;
  right = right;
  few = few;
  less = less;
  falls = falls;
  rows_have = row_holds;
  value_gamma = λ f ks s wide a. form_known f.constant f.coefficients ks s wide a;
}

pub signs_facts : Facts (of_entries sign)
signs_facts = facts_of sign sign_facts

pub signs_laws : Laws (abstraction_of (of_entries sign))
signs_laws = laws_of (of_entries sign) signs_facts
