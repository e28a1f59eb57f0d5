-- The products of a row with the rows of a cone, as the code goes through them.
use Rattle.std.proofs.Common.{◌≡◌, ◌∙◌, ℕ, zero, suc, ◌+◌, ◌<◌, refl, arith, List, [], ◌∷◌, ◌++◌, length, get_or, map, take, ap, sym, subst, ℤ, Result, Err}
use Rattle.std.proofs.{lemmas.List.get_or_default, lemmas.List.map-append, lemmas.List.take_more, lemmas.List.Elements.All-append}
use Rattle.std.specs.List.{All}
use Rattle.lra_double_description.specs.Crates.lra_linear_spec.declared.Excess as E
use Rattle.lra_double_description.specs.Crates.{lra_linear_spec.CheckedArithmetic.checked_product, lra_linear_spec.Range.InRange, lra_linear_spec.Vectors.product}
use Rattle.lra_double_description.specs.{Strains.NamesProduct, declared.strained.Family.Family, declared.strained.Strained.TheVariants.Product}

-- those with the first rows, and one more
pub products_more : (c : List ℤ) (rows : List (List ℤ)) (place : ℕ) (r : List ℤ) (p : ℤ) (old new : List ℤ) → place < length rows → r ≡ get_or rows place r → p ≡ product c r → InRange p →
    new ≡ old ++ p ∷ [] → (old ≡ map (product c) (take place rows)) × All InRange old → (new ≡ map (product c) (take (place + 1) rows)) × All InRange new
products_more c rows place r p old new h er ep range en before = (
  en ∙ ap (λ (xs : List ℤ). xs ++ p ∷ []) before.0 ∙ ap (λ (x : ℤ). map (product c) (take place rows) ++ x ∷ []) (ep ∙ ap (product c) er) ∙
      sym (map-append (product c) (take place rows) (get_or rows place r ∷ [])) ∙ ap (map (product c)) (sym (take_more rows place r h)),
  subst (All InRange) (sym en) (All-append InRange old (p ∷ []) before.1 (one p range)),
)
  where
    one : (p : ℤ) → InRange p → All InRange (p ∷ [])
    one p range zero d h = range
    one p range (suc i) d h = absurd (omega (arith, h))

-- one that passes
pub product_named : (c : List ℤ) (rows : List (List ℤ)) (family : Family) (place : ℕ) (r : List ℤ) (told : Result ℤ E.Excess) (excess : E.Excess) → place < length rows → r ≡ get_or rows place r →
    told ≡ checked_product c r → told ≡ Err excess → NamesProduct c rows family (Product (record { family = family; place = place }) excess)
product_named c rows family place r told excess h er et ee = record {
  place = place;
  row = r;
  stands = record { inside = h; is = sym (er ∙ get_or_default rows place r [] h) };
  excess = excess;
  passes = sym et ∙ ee;
  is = refl;
}
