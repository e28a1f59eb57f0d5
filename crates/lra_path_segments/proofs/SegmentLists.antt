-- Steps of loops over segments: what is seen of the lists that they make.
use Rattle.std.proofs.Common.{◌≡◌, ℕ, ◌+◌, ◌<◌, List, [], ◌∷◌, ◌++◌, map, filter, length, take, get_or, Bool, true, false, not, cond, refl, sym, ap, ◌∙◌, subst, append_assoc, append-nil}
use Rattle.std.proofs.{lemmas.Grind.flat_map-append, lemmas.List.map-append, lemmas.List.take_more, lemmas.List.Elements.filter-append}
use Rattle.std.specs.Prelude as outcome
use Rattle.std.specs.Prelude.{OnOk}
use Rattle.lra_path_segments.specs.TreeSegmentViews.{tree_segment_view, seen}
use Rattle.lra_path_segments.specs.TreeSegments.{TreeSegment, Kind, is_of, segments_of_kind, segments_not_of_kind, joined_segments, all_joined}
use Rattle.lra_path_segments.specs.declared.segments.TreeSegment as declared

abbrev D : Type 0
D = declared.TreeSegment

seen_more : (front : List D) (x : D) → seen (front ++ x ∷ []) ≡ seen front ++ tree_segment_view x ∷ []
seen_more front x = map-append tree_segment_view front (x ∷ [])

-- of one kind, and the others ----------------------------------------------------------------------------------------------

seen_on : (b : Bool) (x : D) → seen (cond b (x ∷ []) []) ≡ cond b (tree_segment_view x ∷ []) []
seen_on true x = refl
seen_on false x = refl

seen_off : (b : Bool) (x : D) → seen (cond b [] (x ∷ [])) ≡ cond (not b) (tree_segment_view x ∷ []) []
seen_off true x = refl
seen_off false x = refl

module _ (p : TreeSegment → Bool) (front : List D) (x : D) (old new added : List D) where
  picked_more : new ≡ old ++ added → seen added ≡ filter p (tree_segment_view x ∷ []) → seen old ≡ filter p (seen front) → seen new ≡ filter p
      (seen (front ++ x ∷ []))
  picked_more en ea eo =
      ap seen en ∙ map-append tree_segment_view old added ∙ ap (λ u. u ++ seen added) eo ∙ ap (λ u. filter p (seen front) ++ u) ea
      ∙ sym (filter-append p (seen front) (tree_segment_view x ∷ [])) ∙ ap (filter p) (sym (seen_more front x))

module _ (k : Kind) (front : List D) (x : D) (old new : List D) (b : Bool) (is : b ≡ is_of k (tree_segment_view x)) where
  pub those_more : new ≡ old ++ cond b (x ∷ []) [] → seen old ≡ segments_of_kind k (seen front) → seen new ≡ segments_of_kind k (seen (front ++ x ∷ []))
  those_more en eo =
      picked_more (λ s. is_of k s) front x old new (cond b (x ∷ []) []) en (seen_on b x ∙ ap (λ c. cond c (tree_segment_view x ∷ []) []) is) eo

  pub others_more : new ≡ old ++ cond b [] (x ∷ []) → seen old ≡ segments_not_of_kind k (seen front) →
      seen new ≡ segments_not_of_kind k (seen (front ++ x ∷ []))
  others_more en eo =
      picked_more (λ s. not (is_of k s)) front x old new (cond b [] (x ∷ [])) en (seen_off b x ∙ ap (λ c. cond (not c) (tree_segment_view x ∷ []) []) is) eo

-- each made into another, after all -----------------------------------------------------------------------------------

module _ (f : TreeSegment → TreeSegment) (before old new : List D) (y : D) (en : new ≡ old ++ y ∷ []) where
  pub mapped_more : (front : List D) (x : D) → tree_segment_view y ≡ f (tree_segment_view x) → seen old ≡ seen before ++ map f (seen front) →
      seen new ≡ seen before ++
      map f (seen (front ++ x ∷ []))
  mapped_more front x ey eo =
      ap seen en ∙ seen_more old y ∙ ap (λ u. u ++ tree_segment_view y ∷ []) eo ∙ ap (λ v. (seen before ++ map f (seen front)) ++ v ∷ []) ey
      ∙ append_assoc (seen before) (map f (seen front)) (f (tree_segment_view x) ∷ [])
      ∙ ap (λ u. seen before ++ u) (sym (map-append f (seen front) (tree_segment_view x ∷ [])) ∙ ap (map f) (sym (seen_more front x)))

  pub mapped_at : (xs : List D) (i : ℕ) (x : D) → tree_segment_view y ≡ f (tree_segment_view x) → i < length xs → x ≡ get_or xs i x →
      seen old ≡ seen before ++ map f
      (seen (take i xs))
      → seen new ≡ seen before ++ map f (seen (take (i + 1) xs))
  mapped_at xs i x ey inside at eo =
      mapped_more (take i xs) x ey eo ∙ ap (λ u. seen before ++ map f (seen u)) (ap (λ z. take i xs ++ z ∷ []) at ∙ sym (take_more xs i x inside))

-- each of the ones with one of the others more -----------------------------------------------------------------------------

joined_more : (xs ys : List TreeSegment) (y : TreeSegment) → all_joined xs (ys ++ y ∷ []) ≡ all_joined xs ys ++ map (λ x. joined_segments x y) xs
joined_more xs ys y =
    flat_map-append (λ z. map (λ x. joined_segments x z) xs) ys (y ∷ []) ∙ ap (λ u. all_joined xs ys ++ u) (append-nil (map (λ x. joined_segments x y) xs))

pub joined_at : (xs ys before old new : List D) (i : ℕ) (y : D) → seen new ≡ seen old ++ map (λ x. joined_segments x (tree_segment_view y)) (seen xs) →
    i < length ys → y ≡
    get_or ys i y
    → seen old ≡ seen before ++ all_joined (seen xs) (seen (take i ys)) → seen new ≡ seen before ++ all_joined (seen xs) (seen (take (i + 1) ys))
joined_at xs ys before old new i y en inside at eo =
    let upto = ap (λ z. take i ys ++ z ∷ []) at ∙ sym (take_more ys i y inside) in
    en ∙ ap (λ u. u ++ map (λ x. joined_segments x (tree_segment_view y)) (seen xs)) eo
    ∙ append_assoc (seen before) (all_joined (seen xs) (seen (take i ys))) (map (λ x. joined_segments x (tree_segment_view y)) (seen xs))
    ∙ ap (λ u. seen before ++ u) (sym (joined_more (seen xs) (seen (take i ys)) (tree_segment_view y)) ∙ ap (all_joined (seen xs))
    (sym (seen_more (take i ys) y) ∙ ap seen upto))

-- nothing yet
pub none_yet : (xs : List TreeSegment) → xs ≡ xs ++ []
none_yet xs = sym (append-nil xs)

-- lists after each other
pub seen_append : (xs ys zs : List D) → zs ≡ xs ++ ys → seen zs ≡ seen xs ++ seen ys
seen_append xs ys zs e = ap seen e ∙ map-append tree_segment_view xs ys

pub seen_push : (xs ys : List D) (x : D) → ys ≡ xs ++ x ∷ [] → seen ys ≡ seen xs ++ tree_segment_view x ∷ []
seen_push xs ys x e = ap seen e ∙ seen_more xs x

-- those of a kind, each made into another, after all
module _ (k : Kind) (f : TreeSegment → TreeSegment) where
  pub if_so : {T E : Type 0} (r : outcome.Result T E) (b : Bool) (v : TreeSegment) (old new : List TreeSegment) → b ≡ is_of k v → b ≡ true
      → OnOk r (new ≡ old ++ f v ∷ []) → OnOk r (new ≡ old ++ map f (segments_of_kind k (v ∷ [])))
  if_so r b v old new is so led = subst (λ c. OnOk r (new ≡ old ++ map f (cond c (v ∷ []) []))) (sym so ∙ is) led

  pub if_not : (b : Bool) (v : TreeSegment) (old : List TreeSegment) → b ≡ is_of k v → b ≡ false → old ≡ old ++ map f (segments_of_kind k (v ∷ []))
  if_not b v old is so = subst (λ c. old ≡ old ++ map f (cond c (v ∷ []) [])) (sym so ∙ is) (none_yet old)

  pub one_picked : (before old new : List TreeSegment) (xs : List D) (i : ℕ) (x : D) → i < length xs → x ≡ get_or xs i x
      → new ≡ old ++ map f (segments_of_kind k (tree_segment_view x ∷ [])) → old ≡ before ++ map f (segments_of_kind k (seen (take i xs)))
      → new ≡ before ++ map f (segments_of_kind k (seen (take (i + 1) xs)))
  one_picked before old new xs i x inside is en eo =
      let front = segments_of_kind k (seen (take i xs)) in
      let last = segments_of_kind k (tree_segment_view x ∷ []) in
      let upto : segments_of_kind k (seen (take (i + 1) xs)) ≡ front ++ last =
      ap (λ z. segments_of_kind k (seen z)) (take_more xs i x inside ∙ ap (λ z. take i xs ++ z ∷ []) (sym is))
      ∙ ap (segments_of_kind k) (seen_more (take i xs) x) ∙ filter-append (λ s. is_of k s) (seen (take i xs)) (tree_segment_view x ∷ []) in
      en ∙ ap (λ u. u ++ map f last) eo ∙ append_assoc before (map f front) (map f last)
      ∙ ap (λ u. before ++ u) (sym (map-append f front last) ∙ ap (map f) (sym upto))
