-- The head of an input, as the code reads it.
use Rattle.std.proofs.Common.{◌≡◌, ◌≤◌, ◌+◌, ℕ, suc, ℤ, pos, negsuc, Bool, false, List, [], ◌∷◌, length, take, drop, Option, Some, None, Vec, refl, ap, sym, ◌∙◌, arith, add-one, drop-drop}
use Rattle.std.proofs.lemmas.Option.{slice_get_past, same_Some}
use Rattle.std.specs.{Global.Global, List.position_or_len, Prelude.if◌then◌else◌, Prelude.slice_get, Prelude.codes, Prelude.nat_eq}
use Rattle.lra_verify.specs.Crates.lra_certificate_spec.Judged.{Head, has_feed, headed, head_of, numbers_after}
use Rattle.lra_verify.specs.Crates.lra_script.Views.{option_items}

abbrev pub head : List ℕ → List ℕ → Head
head source rest = record { source = source; rest = rest }

module _ (bytes : List ℕ) (n : ℕ) where
  abbrev by : Option ℕ → Option Head
  by o = if has_feed o then Some (head (take n bytes) (drop (suc n) bytes)) else None

  pub head_there : (source rest : List ℕ) → slice_get bytes n ≡ Some 10 → source ≡ take n bytes → rest ≡ drop (n + 1) bytes →
      Some (head source rest) ≡ headed (Some (pos n ∷ [])) bytes
  head_there source rest got s r =
      ap (λ (x : List ℕ). Some (head x rest)) s ∙ ap (λ (x : List ℕ). Some (head (take n bytes) x)) (r ∙ ap (λ (k : ℕ). drop k bytes) (add-one n)) ∙
      sym (ap by got)

  pub head_none : has_feed (slice_get bytes n) ≡ false → (let o : Option Head = None in o) ≡ headed (Some (pos n ∷ [])) bytes
  head_none e = sym (ap (λ (b : Bool). if b then Some (head (take n bytes) (drop (suc n) bytes)) else None) e)

-- a number below 0, or one past all bytes
pub head_past : (z : ℤ) (bytes : List ℕ) → ((n : ℕ) → z ≡ pos n → length bytes ≤ n) → (let o : Option Head = None in o) ≡ headed (Some (z ∷ [])) bytes
head_past (pos n) bytes h = head_none bytes n (ap has_feed (slice_get_past bytes n (h n refl)))
head_past (negsuc n) bytes h = refl

-- the only number
pub only_number : (zs : List ℤ) (z : ℤ) → length zs ≡ 1 → slice_get zs 0 ≡ Some z → zs ≡ z ∷ []
only_number [] z n e = absurd (omega (arith, n))
only_number (x ∷ []) z n e = ap (λ (y : ℤ). y ∷ []) (same_Some x z e)
only_number (x ∷ y ∷ more) z n e = absurd (omega (arith, n))

-- the head, as it is read
pub head_told : (bytes line behind rest : List ℕ) (n : ℕ) (o : Option (Vec ℤ Global)) (v : Vec ℤ Global) (z : ℤ) (h : Option Head) →
    n ≡ position_or_len (λ b. nat_eq b 10) bytes → line ≡ take n bytes → behind ≡ drop n bytes → rest ≡ drop 1 behind →
    option_items o ≡ numbers_after (codes "certificate bytes") 1 line → o ≡ Some v → length v.items ≡ 1 → slice_get v.items 0 ≡ Some z →
    h ≡ headed (Some (z ∷ [])) rest → h ≡ head_of bytes
head_told bytes line behind rest n o v z h place front back cut numbers some one first is =
    let read : numbers_after (codes "certificate bytes") 1 (take (position_or_len (λ b. nat_eq b 10) bytes) bytes) ≡ Some (z ∷ []) =
    ap (numbers_after (codes "certificate bytes") 1) (ap (λ (k : ℕ). take k bytes) (sym place) ∙ sym front) ∙ sym numbers ∙ ap option_items some ∙
    ap Some (only_number v.items z one first) in
    let left : rest ≡ drop (position_or_len (λ b. nat_eq b 10) bytes + 1) bytes =
    cut ∙ ap (drop 1) back ∙ drop-drop 1 n bytes ∙ ap (λ (k : ℕ). drop (k + 1) bytes) place in
    is ∙ ap (headed (Some (z ∷ []))) left ∙ ap (λ (r : Option (List ℤ)). headed r (drop (position_or_len (λ b. nat_eq b 10) bytes + 1) bytes)) (sym read)
