-- Names among the words of a line: what a line makes of words that are names, and of others.
use Rattle.std.proofs.Common.{◌≡◌, ◌<◌, ◌≤◌, ℕ, Bool, true, false, List, [], ◌∷◌, length, refl, ap, sym, ◌∙◌, arith, Option, Some, None, option_map, Bor, slice_index_or, string_bytes, map, take, drop}
use Rattle.std.proofs.{Common.◌-◌, Common.Vec, Math.Seq.take-length, lemmas.List.length-drop, lemmas.Option.same_Some, lemmas.Option.none-some}
use Rattle.std.specs.{Prelude.if◌then◌else◌, Prelude.String, declared.alloc.Global.Global}
use Rattle.lra_script.specs.Views.{texts, constraint_of, constraints_of, recipe_said, recipe_view}
use Rattle.lra_script.specs.{LineForms.with_name, ScriptText.is_name, declared.recipes.Recipe.Recipe, declared.rows.Constraint.Constraint}
use Rattle.lra_script.specs.LineForms as form

abbrev Words : Type 0
Words = List (Bor (List ℕ))

-- what the word is as a name
abbrev IsNamed : List ℕ → Option (String Global) → Type 0
IsNamed word o = option_map string_bytes o ≡ (if is_name word then Some word else None)

choose : {A : Type 0} (b : Bool) (word : List ℕ) (s : String Global) (rest : Option A) → Some (string_bytes s) ≡ (if b then Some word else None)
    → ((if b then rest else None) ≡ rest) × (string_bytes s ≡ word)
choose true word s rest e = (refl, same_Some (string_bytes s) word e)
choose false word s rest e = absurd (none-some (string_bytes s) (sym e))

refuse : {A : Type 0} (b : Bool) (word : List ℕ) (rest : Option A) → None ≡ (if b then Some word else None) → None ≡ (if b then rest else None)
refuse true word rest e = absurd (none-some word e)
refuse false word rest e = refl

-- after a name, and after what is none
pub behind_name : {A : Type 0} (word : List ℕ) (o : Option (String Global)) (s : String Global) (rest : Option A) → IsNamed word o → o ≡ Some s → (with_name word rest ≡ rest) × (string_bytes s ≡ word)
behind_name word o s rest e is = choose (is_name word) word s rest (sym (ap (option_map string_bytes) is) ∙ e)

pub behind_none : {A : Type 0} (word : List ℕ) (o : Option (String Global)) (rest : Option A) → IsNamed word o → o ≡ None → None ≡ with_name word rest
behind_none word o rest e is = refuse (is_name word) word rest (sym (ap (option_map string_bytes) is) ∙ e)

-- what is made of two names
pair_made : {A : Type 0} (make : List ℕ → List ℕ → A) (x y : List ℕ) (o p : Option (String Global)) (s t : String Global) → IsNamed x o → o ≡ Some s → IsNamed y p → p ≡ Some t
    → Some (make (string_bytes s) (string_bytes t)) ≡ with_name x (with_name y (Some (make x y)))
pair_made make x y o p s t n is m js =
    let a = behind_name x o s (with_name y (Some (make x y))) n is in
    let b = behind_name y p t (Some (make x y)) m js in
    ap (λ (z : List ℕ). Some (make z (string_bytes t))) a.1 ∙ ap (λ (z : List ℕ). Some (make x z)) b.1 ∙ sym b.0 ∙ sym a.0

pair_none : {A : Type 0} (x y : List ℕ) (o p : Option (String Global)) (s : String Global) (rest : Option A) → IsNamed x o → o ≡ Some s → IsNamed y p → p ≡ None → None ≡ with_name x (with_name y rest)
pair_none x y o p s rest n is m js = behind_none y p rest m js ∙ sym (behind_name x o s (with_name y rest) n is).0

two : (ws : Words) (d : Bor (List ℕ)) → 2 ≤ length ws → length ws < 3 → texts ws ≡ (slice_index_or ws 0 d).now ∷ (slice_index_or ws 1 d).now ∷ []
two [] d l h = absurd (omega (arith, l))
two (a ∷ []) d l h = absurd (omega (arith, l))
two (a ∷ b ∷ []) d l h = refl
two (a ∷ b ∷ c ∷ ws) d l h = absurd (omega (arith, h))

-- lines of two names, and of nothing else ------------------------------------------------------------------------------

module _ {A : Type 0} (of : List (List ℕ) → Option A) (make : List ℕ → List ℕ → A) (says : (x y : List ℕ) → of (x ∷ y ∷ []) ≡ with_name x (with_name y (Some (make x y)))) where
  told : (ws : Words) (d : Bor (List ℕ)) → 2 ≤ length ws → length ws < 3
      → with_name (slice_index_or ws 0 d).now (with_name (slice_index_or ws 1 d).now (Some (make (slice_index_or ws 0 d).now (slice_index_or ws 1 d).now))) ≡ of (texts ws)
  told ws d l h = sym (ap of (two ws d l h) ∙ says (slice_index_or ws 0 d).now (slice_index_or ws 1 d).now)

  pub pair_first : (ws : Words) (d : Bor (List ℕ)) (o : Option (String Global)) → 2 ≤ length ws → length ws < 3 → IsNamed (slice_index_or ws 0 d).now o → o ≡ None → None ≡ of (texts ws)
  pair_first ws d o l h n is = behind_none (slice_index_or ws 0 d).now o _ n is ∙ told ws d l h

  pub pair_second : (ws : Words) (d : Bor (List ℕ)) (o p : Option (String Global)) (s : String Global) → 2 ≤ length ws → length ws < 3 → IsNamed (slice_index_or ws 0 d).now o → o ≡ Some s
      → IsNamed (slice_index_or ws 1 d).now p → p ≡ None → None ≡ of (texts ws)
  pair_second ws d o p s l h n is m js = pair_none (slice_index_or ws 0 d).now (slice_index_or ws 1 d).now o p s _ n is m js ∙ told ws d l h

  pub pair_said : (ws : Words) (d : Bor (List ℕ)) (o p : Option (String Global)) (s t : String Global) → 2 ≤ length ws → length ws < 3 → IsNamed (slice_index_or ws 0 d).now o → o ≡ Some s
      → IsNamed (slice_index_or ws 1 d).now p → p ≡ Some t → Some (make (string_bytes s) (string_bytes t)) ≡ of (texts ws)
  pair_said ws d o p s t l h n is m js = pair_made make (slice_index_or ws 0 d).now (slice_index_or ws 1 d).now o p s t n is m js ∙ told ws d l h

-- lines with words after their names ----------------------------------------------------------------------------------

pub limited_first : (ws : Words) (d : Bor (List ℕ)) (o : Option (String Global)) → 2 ≤ length ws → IsNamed (slice_index_or ws 0 d).now o → o ≡ None → None ≡ form.limited_recipe (texts ws)
limited_first [] d o l n is = absurd (omega (arith, l))
limited_first (a ∷ []) d o l n is = absurd (omega (arith, l))
limited_first (a ∷ b ∷ ws) d o l n is = behind_none a.now o _ n is

pub limited_second : (ws : Words) (d : Bor (List ℕ)) (o p : Option (String Global)) (s : String Global) → 2 ≤ length ws → IsNamed (slice_index_or ws 0 d).now o → o ≡ Some s
    → IsNamed (slice_index_or ws 1 d).now p → p ≡ None → None ≡ form.limited_recipe (texts ws)
limited_second [] d o p s l n is m js = absurd (omega (arith, l))
limited_second (a ∷ []) d o p s l n is m js = absurd (omega (arith, l))
limited_second (a ∷ b ∷ ws) d o p s l n is m js = pair_none a.now b.now o p s _ n is m js

pub make_unnamed : (word : List ℕ) (ws : Words) (d : Bor (List ℕ)) (o : Option (String Global)) → 1 ≤ length ws → IsNamed (slice_index_or ws 0 d).now o → o ≡ None
    → None ≡ form.make_line word (texts ws)
make_unnamed word [] d o l n is = absurd (omega (arith, l))
make_unnamed word (a ∷ ws) d o l n is = behind_none a.now o _ n is

-- what comes after the first words
pub all_behind : (n : ℕ) (ws : Words) → take (length ws - n) (drop n ws) ≡ drop n ws
all_behind n ws = ap (λ (k : ℕ). take k (drop n ws)) (sym (length-drop n ws)) ∙ take-length (drop n ws)

-- what is said after the names
said : {S A B : Type 0} (o : Option S) (view : S → A) (v : S) (made : Option A) (make : A → B) → option_map view o ≡ made → o ≡ Some v → Some (make (view v)) ≡ option_map make made
said o view v made make e is = ap (option_map make) (sym (ap (option_map view) is) ∙ e)

unsaid : {S A B : Type 0} (o : Option S) (view : S → A) (made : Option A) (make : A → B) → option_map view o ≡ made → o ≡ None → None ≡ option_map make made
unsaid o view made make e is = ap (option_map make) (sym (ap (option_map view) is) ∙ e)

pub limited_made : (ws : Words) (d : Bor (List ℕ)) (o p : Option (String Global)) (g : Option (Vec Constraint Global)) (s t : String Global) (v : Vec Constraint Global) → 2 ≤ length ws
    → IsNamed (slice_index_or ws 0 d).now o → o ≡ Some s → IsNamed (slice_index_or ws 1 d).now p → p ≡ Some t → constraints_of g ≡ form.parts_of form.row_of (texts (drop 2 ws)) → g ≡ Some v
    → Some (form.Limited (string_bytes s) (string_bytes t) (map constraint_of v.items)) ≡ form.limited_recipe (texts ws)
limited_made [] d o p g s t v l n is m js e ks = absurd (omega (arith, l))
limited_made (a ∷ []) d o p g s t v l n is m js e ks = absurd (omega (arith, l))
limited_made (a ∷ b ∷ ws) d o p g s t v l n is m js e ks =
    let rest : Option form.Recipe = option_map (form.Limited a.now b.now) (form.parts_of form.row_of (texts ws)) in
    let x = behind_name a.now o s (with_name b.now rest) n is in
    let y = behind_name b.now p t rest m js in
    ap (λ (z : List ℕ). Some (form.Limited z (string_bytes t) (map constraint_of v.items))) x.1
    ∙ ap (λ (z : List ℕ). Some (form.Limited a.now z (map constraint_of v.items))) y.1
    ∙ said g (λ (w : Vec Constraint Global). map constraint_of w.items) v (form.parts_of form.row_of (texts ws)) (form.Limited a.now b.now) e ks
    ∙ sym y.0 ∙ sym x.0

pub limited_none : (ws : Words) (d : Bor (List ℕ)) (o p : Option (String Global)) (g : Option (Vec Constraint Global)) (s t : String Global) → 2 ≤ length ws
    → IsNamed (slice_index_or ws 0 d).now o → o ≡ Some s → IsNamed (slice_index_or ws 1 d).now p → p ≡ Some t → constraints_of g ≡ form.parts_of form.row_of (texts (drop 2 ws)) → g ≡ None
    → None ≡ form.limited_recipe (texts ws)
limited_none [] d o p g s t l n is m js e ks = absurd (omega (arith, l))
limited_none (a ∷ []) d o p g s t l n is m js e ks = absurd (omega (arith, l))
limited_none (a ∷ b ∷ ws) d o p g s t l n is m js e ks =
    let rest : Option form.Recipe = option_map (form.Limited a.now b.now) (form.parts_of form.row_of (texts ws)) in
    unsaid g (λ (w : Vec Constraint Global). map constraint_of w.items) (form.parts_of form.row_of (texts ws)) (form.Limited a.now b.now) e ks
    ∙ sym (behind_name b.now p t rest m js).0 ∙ sym (behind_name a.now o s (with_name b.now rest) n is).0

pub make_made : (word : List ℕ) (ws : Words) (d : Bor (List ℕ)) (o : Option (String Global)) (g : Option Recipe) (s : String Global) (r : Recipe) → 1 ≤ length ws
    → IsNamed (slice_index_or ws 0 d).now o → o ≡ Some s → recipe_view g ≡ form.recipe_of word (texts (drop 1 ws)) → g ≡ Some r
    → Some (form.Make (string_bytes s) (recipe_said r)) ≡ form.make_line word (texts ws)
make_made word [] d o g s r l n is e ks = absurd (omega (arith, l))
make_made word (a ∷ ws) d o g s r l n is e ks =
    let x = behind_name a.now o s (option_map (form.Make a.now) (form.recipe_of word (texts ws))) n is in
    ap (λ (z : List ℕ). Some (form.Make z (recipe_said r))) x.1 ∙ said g recipe_said r (form.recipe_of word (texts ws)) (form.Make a.now) e ks ∙ sym x.0

pub make_none : (word : List ℕ) (ws : Words) (d : Bor (List ℕ)) (o : Option (String Global)) (g : Option Recipe) (s : String Global) → 1 ≤ length ws
    → IsNamed (slice_index_or ws 0 d).now o → o ≡ Some s → recipe_view g ≡ form.recipe_of word (texts (drop 1 ws)) → g ≡ None → None ≡ form.make_line word (texts ws)
make_none word [] d o g s l n is e ks = absurd (omega (arith, l))
make_none word (a ∷ ws) d o g s l n is e ks =
    unsaid g recipe_said (form.recipe_of word (texts ws)) (form.Make a.now) e ks
    ∙ sym (behind_name a.now o s (option_map (form.Make a.now) (form.recipe_of word (texts ws))) n is).0
