-- What a JSON text is written of is given by the text: strings, members of objects and items of lists.
use Rattle.std.proofs.Common.{◌≡◌, ℕ, Bool, true, false, List, [], ◌∷◌, ◌++◌, map, Some, refl, ap, sym, ◌∙◌, append_assoc}
use Rattle.std.proofs.{lemmas.Bool.eqb-false, lemmas.List.append_cancel_left}
use Rattle.std.specs.List.{AllByRecursion}
use Rattle.json.specs.{Print.escape, Print.quoted, Text.content, Text.plain}
use Rattle.json.proofs.Printed.Strings.{content-escape}
use Rattle.serde_json.specs.{Data.Data, View.items_of, Written.compact_text, Written.items_text}
use Rattle.lra_report.proofs.Fronts.{first_same, rest_same, both_same}
use Rattle.lra_report_json.specs.ReportJson.{list_of}

some_same : {A : Type 0} {x y : A} → Some x ≡ Some y → x ≡ y
some_same e = cc

-- a string ends at its mark
pub quoted_same : (s t u v : List ℕ) → quoted s ++ u ≡ quoted t ++ v → (s ≡ t) × (u ≡ v)
quoted_same s t u v e =
    let here : escape s ++ 34 ∷ u ≡ escape t ++ 34 ∷ v = sym (append_assoc (escape s) (34 ∷ []) u) ∙ rest_same e ∙ append_assoc (escape t) (34 ∷ []) v in
    let same : s ≡ t = some_same (sym (content-escape s u) ∙ ap (content plain) here ∙ content-escape t v) in
    (same, rest_same (append_cancel_left (escape t) (34 ∷ u) (34 ∷ v) (ap (λ x. escape x ++ 34 ∷ u) (sym same) ∙ here)))

member_pieces : (q a b u : List ℕ) → (q ++ 58 ∷ (a ++ b)) ++ u ≡ q ++ 58 ∷ (a ++ (b ++ u))
member_pieces q a b u = append_assoc q (58 ∷ (a ++ b)) u ∙ ap (λ t. q ++ 58 ∷ t) (append_assoc a b u)

-- two members of one key: a and c are their values' texts
pub member_same : (k a b c d u v : List ℕ) → (quoted k ++ 58 ∷ (a ++ b)) ++ u ≡ (quoted k ++ 58 ∷ (c ++ d)) ++ v → a ++ (b ++ u) ≡ c ++ (d ++ v)
member_same k a b c d u v e = rest_same (append_cancel_left (quoted k) _ _ (sym (member_pieces (quoted k) a b u) ∙ e ∙ member_pieces (quoted k) c d v))

module _ {A : Type 0} (write : A → Data) (Good : A → Type 0)
    (told : (a b : A) (u v : List ℕ) → Good a → Good b → compact_text (write a) ++ u ≡ compact_text (write b) ++ v → (a ≡ b) × (u ≡ v))
    (opens : (a : A) (u v : List ℕ) → compact_text (write a) ++ u ≡ 93 ∷ v → ⊥) where
  one_more : (x y : A) (xs ys : List A) (a b u v : List ℕ) → Good x → Good y → ((a ++ u ≡ b ++ v) → (xs ≡ ys) × (u ≡ v)) →
      (compact_text (write x) ++ a) ++ u ≡ (compact_text (write y) ++ b) ++ v → (x ∷ xs ≡ y ∷ ys) × (u ≡ v)
  one_more x y xs ys a b u v gx gy more e =
      let first = told x y (a ++ u) (b ++ v) gx gy (sym (append_assoc (compact_text (write x)) a u) ∙ e ∙ append_assoc (compact_text (write y)) b v) in
      let further = more first.1 in
      (both_same first.0 further.0, further.1)

  shut : (x : A) (a u v : List ℕ) → (compact_text (write x) ++ a) ++ u ≡ 93 ∷ v → ⊥
  shut x a u v e = opens x (a ++ u) v (sym (append_assoc (compact_text (write x)) a u) ∙ e)

  pub items_same : (later : Bool) (xs ys : List A) (u v : List ℕ) → AllByRecursion Good xs → AllByRecursion Good ys →
      items_text later (items_of (map write xs)) ++ u ≡ items_text later (items_of (map write ys)) ++ v → (xs ≡ ys) × (u ≡ v)
  items_same later [] [] u v gx gy e = (refl, rest_same e)
  items_same true [] (y ∷ ys) u v gx gy e = absurd (eqb-false 93 44 refl (first_same e))
  items_same true (x ∷ xs) [] u v gx gy e = absurd (eqb-false 44 93 refl (first_same e))
  items_same false [] (y ∷ ys) u v gx gy e = absurd (shut y _ v u (sym e))
  items_same false (x ∷ xs) [] u v gx gy e = absurd (shut x _ u v e)
  items_same true (x ∷ xs) (y ∷ ys) u v gx gy e = one_more x y xs ys _ _ u v gx.0 gy.0 (items_same true xs ys u v gx.1 gy.1) (rest_same e)
  items_same false (x ∷ xs) (y ∷ ys) u v gx gy e = one_more x y xs ys _ _ u v gx.0 gy.0 (items_same true xs ys u v gx.1 gy.1) e

  pub list_same : (xs ys : List A) (u v : List ℕ) → AllByRecursion Good xs → AllByRecursion Good ys →
      compact_text (list_of write xs) ++ u ≡ compact_text (list_of write ys) ++ v → (xs ≡ ys) × (u ≡ v)
  list_same xs ys u v gx gy e = items_same false xs ys u v gx gy (rest_same e)
