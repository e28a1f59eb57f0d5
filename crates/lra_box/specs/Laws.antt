-- The laws of boxes.
use Rattle.std.proofs.Common.{◌≡◌, ◌≤◌, ℕ, ℤ, List, [], length, Option, None, Some, refl, ap, sym, subst, ◌∙◌, arith}
use Rattle.std.proofs.{Common.inl, Common.inr, Common.pos, Common.replicate, lemmas.List.length-replicate}
use Rattle.lra_box.specs.Crates.lra_linear_forms.Form.{Form, form_value}
use Rattle.lra_domain.specs.Bounds.{IsLowerBound, IsBetween, IsUpperBound}
use Rattle.lra_domain.specs.{Actions.Within, Laws.Laws, Laws.BaseLaws, Laws.SingleLaws}
use Rattle.lra_box.specs.Abstraction.{BoxGamma, BoxWithin, top_box, box_abstraction}
use Rattle.lra_box.specs.Content.{BoundsFit, WellFormedBox, BoxContent}
use Rattle.lra_box.specs.Covering.{in_open, has_wider, within_refl, within_trans, least_within}
use Rattle.lra_box.specs.Tables.{has_bounds, BoundsWithin}
use Rattle.lra_box.specs.declared.interval.Side.TheVariants.{Low, High}
use Rattle.lra_box.specs.{Bounds.BoundHolds, Bounds.InBounds, Ends.BoundsTell, Ends.IsEnd, Parts.box_parts}
use Rattle.lra_box.specs.{Sums.end_sum_holds, declared.interval.Interval.Interval, declared.interval.Side.Side}

whole_has : (n : ℕ) (b : BoxContent) → b ≡ top_box n → (s : List ℤ) → length s ≡ n → BoxGamma b s
whole_has n b e s l = subst (λ (c : BoxContent). BoxGamma c s) (sym e) (l, in_open s n l)

none_has : (n : ℕ) (b : BoxContent) → b ≡ record { dims = n; bounds = None } → (s : List ℤ) → ¬ BoxGamma b s
none_has n b e s h = (subst (λ (c : BoxContent). BoxGamma c s) e h).1

partless_has : (n : ℕ) (b : Option (List Interval)) (s : List ℤ) → box_parts n b ≡ [] → ¬ has_bounds b s
partless_has n None s e h = h
partless_has n (Some is) s e h = let wrong : ⊥ = cc in wrong

one_box_part : (n : ℕ) (b : Option (List Interval)) → length (box_parts n b) ≤ 1
one_box_part n None = omega arith
one_box_part n (Some is) = omega arith

few_parts : (b : BoxContent) (c : ℕ) → 1 ≤ c → length (box_parts b.dims b.bounds) ≤ c
few_parts b c some = let one = one_box_part b.dims b.bounds in omega arith

pub box_wider : (a b : BoxContent) → BoxWithin a b → Within (BoxGamma a) (BoxGamma b)
box_wider a b w s h = (h.0 ∙ w.0, has_wider a.bounds b.bounds s w.1 h.1)

partless_within : (n k : ℕ) (a b : Option (List Interval)) → BoundsWithin a b → box_parts k b ≡ [] → box_parts n a ≡ []
partless_within n k None b w e = refl
partless_within n k (Some is) None w e = absurd w
partless_within n k (Some is) (Some js) w e = cc

-- ---- what is reported about a form

low_above : (o : Option ℤ) (z : ℤ) → BoundHolds Low o z → IsLowerBound o z
low_above None z h = tt
low_above (Some l) z h = h

high_under : (o : Option ℤ) (z : ℤ) → BoundHolds High o z → IsUpperBound o z
high_under None z h = tt
high_under (Some u) z h = h

-- the end that is reported is on its side of the form's value at each store
pub end_holds : (side : Side) (f : Form) (is : List Interval) (o : Option ℤ) (s : List ℤ)
    → length f.coefficients ≡ length is → InBounds is s → IsEnd side f is o → BoundHolds side o (form_value f s)
end_holds side f is o s wide inside (inl (fits, same)) =
    subst (λ (x : Option ℤ). BoundHolds side x (form_value f s)) (sym same)
    (end_sum_holds side f.constant f.coefficients is s inside wide)
end_holds side f is o s wide inside (inr (passes, none)) =
    subst (λ (x : Option ℤ). BoundHolds side x (form_value f s)) (sym none) tt

pub ends_between : (f : Form) (is : List Interval) (l h : Option ℤ) (s : List ℤ)
    → length f.coefficients ≡ length is → InBounds is s → IsEnd Low f is l → IsEnd High f is h
    → IsBetween l h (form_value f s)
ends_between f is l h s wide inside low high = (
  low_above l (form_value f s) (end_holds Low f is l s wide inside low),
  high_under h (form_value f s) (end_holds High f is h s wide inside high),
)

told_between : (n : ℕ) (b : Option (List Interval)) (f : Form) (l h : Option ℤ) (s : List ℤ) → BoundsFit n b
    → length f.coefficients ≡ n → BoundsTell b f l h → has_bounds b s → IsBetween l h (form_value f s)
told_between n None f l h s fit wide told has = absurd has
told_between n (Some is) f l h s fit wide told has = ends_between f is l h s (wide ∙ sym fit) has told.0 told.1

pub one_end : (side : Side) (f : Form) (is : List Interval) (o p : Option ℤ) → IsEnd side f is o → IsEnd side f is p
    → o ≡ p
one_end side f is o p (inl (fits, e)) (inl (too, d)) = e ∙ sym d
one_end side f is o p (inl (fits, e)) (inr (passes, d)) = absurd (fits passes)
one_end side f is o p (inr (passes, e)) (inl (fits, d)) = absurd (fits passes)
one_end side f is o p (inr (passes, e)) (inr (too, d)) = e ∙ sym d

one_told : (b : Option (List Interval)) (f : Form) (l h j k : Option ℤ) → BoundsTell b f l h → BoundsTell b f j k
    → (l ≡ j) × (h ≡ k)
one_told None f l h j k told so = (told.0 ∙ sym so.0, told.1 ∙ sym so.1)
one_told (Some is) f l h j k told so = (one_end Low f is l j told.0 so.0, one_end High f is h k told.1 so.1)

partless_told : (n : ℕ) (b : Option (List Interval)) (f : Form) (l h : Option ℤ) → box_parts n b ≡ []
    → BoundsTell b f l h → (l ≡ None) × (h ≡ None)
partless_told n None f l h e told = told
partless_told n (Some is) f l h e told = let wrong : ⊥ = cc in absurd wrong

pub box_laws : Laws box_abstraction
box_laws = record {
  sized = λ v s fine h. h.0;
  head_sized = λ h s fine own. own.0;
  top_dims = λ n cap v e. ap (λ (c : BoxContent). c.dims) e;
  top_stores = λ n cap v fine e s l. whole_has n v e s l;
  bottom_dims = λ n cap v e. ap (λ (c : BoxContent). c.dims) e;
  bottom_stores = λ n cap v fine e s h. none_has n v e s h;
  capped_parts = λ v c some. few_parts v c some;
  top_capped = λ n cap v some e. some;
  bottom_capped = λ n cap v some e. some;
  partless = λ v fine e s h. partless_has v.dims v.bounds s e h.1;
  bounded_stores = λ v f l h s fine wide told has. told_between v.dims v.bounds f l h s fine.0 wide told has.1;
  one_bounded = λ v f l h j k fine told so. one_told v.bounds f l h j k told so;
  bounded_partless = λ v f l h fine e told. partless_told v.dims v.bounds f l h e told;
  leq_stores = λ a b fine too w. box_wider a b w;
  head_leq_stores = λ a b fine too w. box_wider a b w;
  kept_stores = λ step v w fine too k. k;
  old_stores = λ old next new fine too k. k.0;
  next_stores = λ old next new fine too k. k.1;
  stays_stores = λ h v mode fine too w. box_wider v h w;
  answers_yes = λ h v mode w. w;
  answers_no = λ h v mode w. w;
  given_up_stores = λ old mode new fine too e s l. whole_has old.dims new e s l;
  given_up_valued = λ old mode new fine too e. (new, refl);
  given_up_value = λ old mode new v fine too e is. (1, is ∙ e);
}

pub box_single : SingleLaws box_abstraction
box_single = record {
  one_top = λ n cap v w e d. e ∙ sym d;
  one_bottom = λ n cap v w e d. e ∙ sym d;
  one_transferred = λ step a v w e d. e.table ∙ sym d.table;
  one_joined = λ a b v w e d. e ∙ sym d;
  one_started = λ v given g h e d. e ∙ sym d;
  one_grown = λ h v mode i j e d. e ∙ sym d;
  one_valued = λ h v w e d. e ∙ sym d;
}

box_within_refl : (a : BoxContent) → BoxWithin a a
box_within_refl a = (refl, within_refl a.bounds)

box_within_trans : (a b c : BoxContent) → BoxWithin a b → BoxWithin b c → BoxWithin a c
box_within_trans a b c v w = (v.0 ∙ w.0, within_trans a.bounds b.bounds c.bounds v.1 w.1)

joined_within : (a b j c : BoxContent) → box_abstraction.joined a b j → BoxWithin a c → BoxWithin b c → BoxWithin j c
joined_within a b j c e v w = subst (λ (d : BoxContent). BoxWithin d c) (sym e)
    (v.0, least_within a.bounds b.bounds c.bounds v.1 w.1)

pub same_within : (a b : BoxContent) → a ≡ b → BoxWithin a b
same_within a b e = subst (λ (c : BoxContent). BoxWithin a c) e (box_within_refl a)

pub box_base : BaseLaws box_abstraction
box_base = record {
  one_part = λ v. one_box_part v.dims v.bounds;
  one_top = λ n c d v w e f. e ∙ sym f;
  one_joined = λ a b v w e f. e ∙ sym f;
  one_started = λ v given g h e f. e ∙ sym f;
  one_valued = λ h v w e f. e ∙ sym f;
  leq_reflexive = box_within_refl;
  leq_transitive = box_within_trans;
  included_leq = λ a b. (λ w. w, λ w. w);
  partless_leq = λ a b w e. partless_within a.dims b.dims a.bounds b.bounds w.1 e;
  joined_covered = joined_within;
  stays_covered = λ h a b mode v w. box_within_trans a b h v w;
  stays_joined = λ h a b j mode e v w. joined_within a b j h e v w;
  stays_value = λ h v mode e. same_within v h e;
  stays_started = λ h v given mode e. same_within v h (sym e);
  started_formed = λ h v given e fine. subst WellFormedBox e fine;
  universal_filled = λ n cap v is e. partless_has v.dims v.bounds (replicate n (pos 0)) e
      (whole_has n v is (replicate n (pos 0)) (length-replicate n (pos 0))).1;
  started_stores = λ h v given e. box_wider h v (same_within h v e);
  rank_first = λ h. refl;
}
