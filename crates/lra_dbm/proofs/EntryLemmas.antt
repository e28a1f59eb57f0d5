-- The order and the sum of entries.
use Rattle.std.proofs.Common.{◌≡◌, ◌⊎◌, inl, inr, ℤ, pos, Option, None, Some, refl, ap, arith}
use Rattle.std.proofs.lemmas.Int.{ints, clamps}
use Rattle.std.specs.Prelude.{int_lt, cond, true, false}
use Rattle.lra_dbm.specs.Entry.{◌⊑◌, ◌⊞◌, lesser}

pub le_refl : (b : Option ℤ) → b ⊑ b
le_refl None = record { at_most = tt }
le_refl (Some b) = record { at_most = omega (arith, ints) }

pub le_same : {a b : Option ℤ} → a ≡ b → a ⊑ b
le_same {a} {b} e = rw e (le_refl b)

pub le_none : (a : Option ℤ) → a ⊑ None
le_none a = record { at_most = tt }

le_trans_by : (a b c : Option ℤ) → a ⊑ b → b ⊑ c → a ⊑ c
le_trans_by a b None h k = record { at_most = tt }
le_trans_by a None (Some c) h k = absurd k.at_most
le_trans_by None (Some b) (Some c) h k = absurd h.at_most
le_trans_by (Some a) (Some b) (Some c) h k = let p = h.at_most in let q = k.at_most in record { at_most = omega (arith, ints) }

pub le_trans : {a b c : Option ℤ} → a ⊑ b → b ⊑ c → a ⊑ c
le_trans {a} {b} {c} h k = le_trans_by a b c h k

le_antisym_by : (a b : Option ℤ) → a ⊑ b → b ⊑ a → a ≡ b
le_antisym_by None None h k = refl
le_antisym_by None (Some b) h k = absurd h.at_most
le_antisym_by (Some a) None h k = absurd k.at_most
le_antisym_by (Some a) (Some b) h k = let p = h.at_most in let q = k.at_most in let e : a ≡ b = omega (arith, ints) in ap Some e

pub le_antisym : {a b : Option ℤ} → a ⊑ b → b ⊑ a → a ≡ b
le_antisym {a} {b} h k = le_antisym_by a b h k

sum_grows_by : (a b c d : Option ℤ) → a ⊑ c → b ⊑ d → a ⊞ b ⊑ c ⊞ d
sum_grows_by a b None d h k = record { at_most = tt }
sum_grows_by a b (Some c) None h k = record { at_most = tt }
sum_grows_by None b (Some c) (Some d) h k = absurd h.at_most
sum_grows_by (Some a) None (Some c) (Some d) h k = absurd k.at_most
sum_grows_by (Some a) (Some b) (Some c) (Some d) h k = let p = h.at_most in let q = k.at_most in record { at_most = omega (arith, ints) }

pub sum_grows : {a b c d : Option ℤ} → a ⊑ c → b ⊑ d → a ⊞ b ⊑ c ⊞ d
sum_grows {a} {b} {c} {d} h k = sum_grows_by a b c d h k

pub sum_swap : (a b : Option ℤ) → a ⊞ b ≡ b ⊞ a
sum_swap None None = refl
sum_swap None (Some b) = refl
sum_swap (Some a) None = refl
sum_swap (Some a) (Some b) = ap Some (omega (arith, ints))

pub lesser_left : (a b : Option ℤ) → lesser a b ⊑ a
lesser_left None b = record { at_most = tt }
lesser_left (Some a) None = record { at_most = omega (arith, ints) }
lesser_left (Some a) (Some b) = record { at_most = omega (arith, ints, clamps) }

pub lesser_right : (a b : Option ℤ) → lesser a b ⊑ b
lesser_right a None = record { at_most = tt }
lesser_right None (Some b) = record { at_most = omega (arith, ints) }
lesser_right (Some a) (Some b) = record { at_most = omega (arith, ints, clamps) }

pub lesser_is : (a b : Option ℤ) → (lesser a b ≡ a) ⊎ (lesser a b ≡ b)
lesser_is None b = inr refl
lesser_is (Some a) None = inl refl
lesser_is (Some a) (Some b) = elim (int_lt b a) as (λ v. (Some (cond v b a) ≡ Some a) ⊎ (Some (cond v b a) ≡ Some b)) [ true ↦ inr refl | false ↦ inl refl ]

pub le_lesser : {a b c : Option ℤ} → c ⊑ a → c ⊑ b → c ⊑ lesser a b
le_lesser {a} {b} {c} h k = elim (lesser_is a b) as (λ _. c ⊑ lesser a b) [ inl e ↦ rw e h | inr e ↦ rw e k ]

-- below the sum of two lesser ones, if below the four sums
pub le_sums : (c a1 a2 b1 b2 : Option ℤ) → c ⊑ a1 ⊞ b1 → c ⊑ a1 ⊞ b2 → c ⊑ a2 ⊞ b1 → c ⊑ a2 ⊞ b2 → c ⊑ lesser a1 a2 ⊞ lesser b1 b2
le_sums c a1 a2 b1 b2 p q r s =
    elim (lesser_is a1 a2) as (λ _. c ⊑ lesser a1 a2 ⊞ lesser b1 b2) [
      | inl e ↦ elim (lesser_is b1 b2) as (λ _. c ⊑ lesser a1 a2 ⊞ lesser b1 b2) [ inl f ↦ rw (e, f) p | inr f ↦ rw (e, f) q ]
      | inr e ↦ elim (lesser_is b1 b2) as (λ _. c ⊑ lesser a1 a2 ⊞ lesser b1 b2) [ inl f ↦ rw (e, f) r | inr f ↦ rw (e, f) s ]
    ]

-- a + b + c + d with b + c from 0 on
pub around : (a b c d : Option ℤ) → Some (pos 0) ⊑ b ⊞ c → a ⊞ d ⊑ (a ⊞ b) ⊞ (c ⊞ d)
around None b c d h = record { at_most = tt }
around (Some a) None c d h = record { at_most = tt }
around (Some a) (Some b) None d h = record { at_most = tt }
around (Some a) (Some b) (Some c) None h = record { at_most = tt }
around (Some a) (Some b) (Some c) (Some d) h = let p = h.at_most in record { at_most = omega (arith, ints) }

pub sum_assoc : (a b c : Option ℤ) → (a ⊞ b) ⊞ c ≡ a ⊞ (b ⊞ c)
sum_assoc None b c = refl
sum_assoc (Some a) None c = refl
sum_assoc (Some a) (Some b) None = refl
sum_assoc (Some a) (Some b) (Some c) = ap Some (omega (arith, ints))
