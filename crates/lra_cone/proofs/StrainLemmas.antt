-- What is reported about a row that is not added, from what the parts of a step report.
use Rattle.std.proofs.Common.{◌≡◌, ◌≢◌, ℕ, zero, suc, ◌+◌, ◌<◌, ◌≤◌, Bool, true, false, cond, List, [], ◌∷◌, ◌++◌, length, get_or, map, take, refl, ap, sym, ◌∙◌, subst, arith, pos, ℤ, neg_ℤ, ◌<ℤ◌}
use Rattle.std.proofs.{Common.inl, Common.inr, Common.◌⊎◌, Common.int_lt, Common.Ok, Common.Err, lemmas.Int.ints, lemmas.List.get_or-map, lemmas.List.get_or-take, lemmas.List.length-map}
use Rattle.std.proofs.{lemmas.List.length-append, lemmas.List.Elements.Contains-append_left, lemmas.List.Elements.Contains-append_right, lemmas.List.Elements.Contains-get_or}
use Rattle.std.specs.List.{Contains}
use Rattle.lra_cone.specs.Crates.lra_linear_spec.ConeStrain.{HasTooMany, PairPasses, ProductPasses}
use Rattle.lra_cone.specs.Crates.lra_linear_spec.Vectors.{entry, product, negated}
use Rattle.lra_cone.specs.Crates.{lra_bits.Matrix.Matrix, lra_linear_spec.CheckedArithmetic.checked_blend, lra_linear_spec.Cones.all_rows, lra_linear_spec.Cones.both_ways}
use Rattle.lra_cone.specs.Crates.{lra_linear_spec.Descriptions.LinearRow, lra_linear_spec.Echelon.IsEchelon, lra_linear_spec.declared.Cause.Cause}
use Rattle.lra_cone.specs.Crates.lra_linear_spec.declared.Excess as E
use Rattle.lra_cone.specs.Crates.lra_linear_spec.declared.Cause.TheVariants as cause
use Rattle.lra_cone.proofs.Crates.lra_linear_spec.Products.{entry_negated, dot_negated, negated_twice}
use Rattle.lra_cone.proofs.Crates.{lra_linear_spec.Combinations.generated_row, lra_linear_spec.Combinations.generated_same, lra_linear_spec.LinearMaps.generated_right, lra_linear_spec.Lines.in_lines}
use Rattle.lra_cone.proofs.Crates.{lra_linear_spec.Lines.in_lines_negated, lra_linear_spec.LowestTerms.lowest_exists, lra_linear_spec.Membership.contains_split, lra_linear_spec.Signs.not_both}
use Rattle.lra_double_description.specs.Strains.{cause_of, StandsAt, IsProductError, strained_pair, IsFlatteningError, NamesPair, IsCutError}
use Rattle.lra_double_description.specs.declared.strained.Strained.TheVariants.{Product, Pair, TooMany}
use Rattle.lra_double_description.specs.{Pairs.IsAdjacentPair, Pairs.ArePairs, Pairs.pair_sum, Pairs.AreCombined, declared.strained.Family.TheVariants.Lines, declared.strained.Family.TheVariants.Rays}
use Rattle.lra_double_description.specs.{Steps.IsTurned, Steps.flattening, Steps.inside_count, declared.line_step.Across.Across, declared.strained.Family.Family, declared.strained.Strained.Strained}
use Rattle.lra_double_description.specs.declared.pairs.Pair as Q
use Rattle.lra_double_description.specs.declared.strained.ConeError as C
use Rattle.lra_double_description.specs.declared.strained.ConeError.TheVariants as of_cone
use Rattle.lra_cone.specs.{Cones.ConeContent, Cones.IsCone, Cones.saturation_rows, Cones.cone_saturation, Strains.IsMember, Strains.IsSignedMember, Strains.IsStrain, Strains.IsConeError}
use Rattle.lra_double_description.proofs.{Cuts.above_inside, Cuts.below_inside, PairLists.less_said}
use Rattle.lra_cone.proofs.{Cutting.inside_rays, Cutting.cut_case, Stepped.turned_down, Stepped.ray_met, Stepped.ray_canonical, Stepped.inside_length, Stepped.combined_length}

-- ---- products
pub product_lines : (s : ConeContent) (equal : Bool) (c : List ℤ) (rows : List (List ℤ)) (e : C.ConeError) → rows ≡ s.lines → IsProductError c rows Lines e → IsConeError s equal c e
product_lines s equal c rows of_cone.Memory el x = tt
product_lines s equal c rows (of_cone.Strained strained) el x =
    subst (IsStrain s equal c) (sym x.is) (record { row = x.row; is = subst (λ (y : List (List ℤ)). StandsAt y x.place x.row) el x.stands; passes = x.passes })

pub product_rays : (s : ConeContent) (equal : Bool) (c : List ℤ) (rows : List (List ℤ)) (e : C.ConeError) → rows ≡ s.rays → IsProductError c rows Rays e → IsConeError s equal c e
product_rays s equal c rows of_cone.Memory el x = tt
product_rays s equal c rows (of_cone.Strained strained) el x =
    subst (IsStrain s equal c) (sym x.is) (record { row = x.row; is = subst (λ (y : List (List ℤ)). StandsAt y x.place x.row) el x.stands; passes = x.passes })

-- ---- rows that are not each other's opposites
-- two rays
rays_apart : (s : ConeContent) → IsCone s → (u d : List ℤ) → Contains s.rays u → Contains s.rays d → u ≢ negated d
rays_apart s k u d hu hd e =
    let all = all_rows s.lines s.rays in
    k.canonical.pointed d hd (generated_same all (entry u) (λ j. neg_ℤ (entry d j)) (λ j. ap (λ (y : List ℤ). entry y j) e ∙ entry_negated d j)
    (generated_row all u (Contains-append_left s.rays (both_ways s.lines) u hu)))

-- a ray lies on no line
ray_off : (s : ConeContent) → IsCone s → (r : List ℤ) → Contains s.rays r → ¬ (Contains (both_ways s.lines) r)
ray_off s k r m i =
    let x = contains_split s.rays r m in
    k.canonical.needed x.front r x.back x.is (generated_right (x.front ++ x.back) (both_ways s.lines) (entry r) (generated_row (both_ways s.lines) r i))

-- a later line is 0 where an earlier one leads
later_zero : (rows : List (List ℤ)) (ps : List ℕ) (i at : ℕ) → IsEchelon rows ps → i < at → at < length rows → (p : ℕ) × (pos 0 <ℤ entry (get_or rows i []) p) × (entry (get_or rows at []) p ≡ pos 0)
later_zero [] ps i at e h l = absurd (omega (arith, l))
later_zero (r ∷ rows) [] i at e h l = absurd e
later_zero (r ∷ rows) (p ∷ ps) i zero e h l = absurd (omega (arith, h))
later_zero (r ∷ rows) (p ∷ ps) zero (suc at) e h l = (p, e.0.here, e.2 (get_or rows at []) (Contains-get_or rows at [] (omega (arith, l))) p (inr refl))
later_zero (r ∷ rows) (p ∷ ps) (suc i) (suc at) e h l = later_zero rows ps i at e.4 (omega (arith, h)) (omega (arith, l))

-- so they are no opposites, and not the same
lines_apart : (s : ConeContent) → IsCone s → (i at : ℕ) (l : List ℤ) → i < at → at < length s.lines → (l ≡ get_or s.lines at []) ⊎ (l ≡ negated (get_or s.lines at [])) → get_or s.lines i [] ≢ l
lines_apart s k i at l h m sign e =
    let z = later_zero s.lines k.canonical.pivots i at k.canonical.echelon h m in
    let there : entry l z.0 ≡ pos 0 = elim sign [
      | inl f ↦ ap (λ (y : List ℤ). entry y z.0) f ∙ z.2
      | inr f ↦ ap (λ (y : List ℤ). entry y z.0) f ∙ entry_negated (get_or s.lines at []) z.0 ∙ ap neg_ℤ z.2
    ] in
    not_both (entry (get_or s.lines i []) z.0) z.1 (ap (λ (y : List ℤ). entry y z.0) e ∙ there)

take_short : {A : Type 0} (n : ℕ) (xs : List A) → length (take n xs) ≤ n
take_short zero xs = omega arith
take_short (suc n) [] = omega arith
take_short (suc n) (x ∷ xs) = let i = take_short n xs in omega (arith, i)

-- ---- a row with the line across
-- the line in both directions
up_sign : (line : List ℤ) (place : ℕ) (p : ℤ) (across : Across) → IsTurned line place p across → (across.up ≡ line) ⊎ (across.up ≡ negated line)
up_sign line place p across t = elim t.sign [ inl s ↦ inl s.0 | inr s ↦ inr s.0 ]

down_sign : (line : List ℤ) (place : ℕ) (p : ℤ) (across : Across) → IsTurned line place p across → (across.down ≡ line) ⊎ (across.down ≡ negated line)
down_sign line place p across t = elim t.sign [ inl s ↦ inr s.1 | inr s ↦ inl s.1 ]

signed_in : (lines : List (List ℤ)) (line l : List ℤ) → Contains lines line → (l ≡ line) ⊎ (l ≡ negated line) → Contains (both_ways lines) l
signed_in lines line l m (inl e) = subst (Contains (both_ways lines)) (sym e) (in_lines lines line m)
signed_in lines line l m (inr e) = subst (Contains (both_ways lines)) (sym e) (in_lines_negated lines line m)

module _ (s : ConeContent) (k : IsCone s) (equal : Bool) (c : List ℤ) (at : ℕ) (line : Across) (inside : at < length s.lines)
    (t : IsTurned (get_or s.lines at []) at (product c (get_or s.lines at [])) line) where
  abbrev all : List (List ℤ)
  all = all_rows s.lines s.rays

  has_line : Contains s.lines (get_or s.lines at [])
  has_line = Contains-get_or s.lines at [] inside

  product_up : line.product ≡ product c line.up
  product_up = elim t.sign [
    | inl x ↦ x.2 ∙ sym (ap (product c) x.0)
    | inr x ↦ x.2 ∙ sym (ap (product c) x.0 ∙ dot_negated c (get_or s.lines at []))
  ]

  product_down : product c line.down ≡ neg_ℤ line.product
  product_down = ap (product c) (turned_down (get_or s.lines at []) at (product c (get_or s.lines at [])) line t) ∙ dot_negated c line.up ∙ ap neg_ℤ (sym product_up)

  has_up : Contains all line.up
  has_up = Contains-append_right s.rays (both_ways s.lines) line.up (signed_in s.lines (get_or s.lines at []) line.up has_line
      (up_sign (get_or s.lines at []) at (product c (get_or s.lines at [])) line t))

  has_down : Contains all line.down
  has_down = Contains-append_right s.rays (both_ways s.lines) line.down (signed_in s.lines (get_or s.lines at []) line.down has_line
      (down_sign (get_or s.lines at []) at (product c (get_or s.lines at [])) line t))

  opposite_down : negated line.down ≡ line.up
  opposite_down = ap negated (turned_down (get_or s.lines at []) at (product c (get_or s.lines at [])) line t) ∙ negated_twice line.up

  directed : (l : List ℤ) → (l ≡ get_or s.lines at []) ⊎ (l ≡ negated (get_or s.lines at [])) → IsSignedMember s Lines line.place l
  directed l sign = (get_or s.lines at [], record { inside = subst (λ (n : ℕ). n < length s.lines) (sym t.is_place) inside; is = ap (λ (n : ℕ). get_or s.lines n []) t.is_place }, sign)

  below_zero : (z y : ℤ) → pos 0 <ℤ z → y ≡ neg_ℤ z → y <ℤ pos 0
  below_zero z y h e = omega (arith, ints, h, e)

  -- the row at the place of its family, with this product, and neither direction of the line
  pub flattening_strain : (family : Family) (place : ℕ) (p : ℤ) (r : List ℤ) (e : E.Excess) → IsSignedMember s family place r → Contains all r → p ≡ product c r → r ≢ line.up → line.up ≢ negated r →
      flattening line p r ≡ Err e →
      IsStrain s equal c (strained_pair (record { family = family; place = place }) p line.place e)
  flattening_strain family place p r e dr hr ep nu nn f = go (int_lt (pos 0) p) refl f
    where
      go : (b : Bool) → int_lt (pos 0) p ≡ b → cond b (checked_blend line.product p r line.down) (cond (int_lt p (pos 0)) (checked_blend (neg_ℤ p) line.product line.up r) (Ok r)) ≡ Err e →
          IsStrain s equal c (cond b (Pair (record { family = family; place = place }) (record { family = Lines; place = line.place }) e)
          (Pair (record { family = Lines; place = line.place }) (record { family = family; place = place }) e))
      go true h x = record {
        up = r;
        is_up = dr;
        down = line.down;
        is_down = directed line.down (down_sign (get_or s.lines at []) at (product c (get_or s.lines at [])) line t);
        across = record {
          has_up = hr;
          has_down = has_down;
          above = subst (λ z. pos 0 <ℤ z) ep (less_said (pos 0) p h);
          below = below_zero line.product (product c line.down) t.above product_down;
          apart = λ q. nu (q ∙ opposite_down);
        };
        passes = ap (λ z. checked_blend (neg_ℤ z) (product c r) r line.down) product_down ∙ ap (λ z. checked_blend z (product c r) r line.down) (minus_minus line.product) ∙
            ap (λ z. checked_blend line.product z r line.down) (sym ep) ∙ x;
      }
        where
          minus_minus : (z : ℤ) → neg_ℤ (neg_ℤ z) ≡ z
          minus_minus z = omega (arith, ints)
      go false h x = low (int_lt p (pos 0)) refl x
        where
          low : (b : Bool) → int_lt p (pos 0) ≡ b → cond b (checked_blend (neg_ℤ p) line.product line.up r) (Ok r) ≡ Err e →
              IsStrain s equal c (Pair (record { family = Lines; place = line.place }) (record { family = family; place = place }) e)
          low true l y = record {
            up = line.up;
            is_up = directed line.up (up_sign (get_or s.lines at []) at (product c (get_or s.lines at [])) line t);
            down = r;
            is_down = dr;
            across = record {
              has_up = has_up;
              has_down = hr;
              above = subst (λ z. pos 0 <ℤ z) product_up t.above;
              below = subst (λ z. z <ℤ pos 0) ep (less_said p (pos 0) l);
              apart = nn;
            };
            passes = ap (λ z. checked_blend (neg_ℤ z) (product c line.up) line.up r) (sym ep) ∙ ap (λ z. checked_blend (neg_ℤ p) z line.up r) (sym product_up) ∙ y;
          }
          low false l y = absurd (no y)
            where
              no : Ok r ≡ Err e → ⊥
              no q = cc

  -- the rays
  pub flat_rays_error : (products : List ℤ) (rays : List (List ℤ)) (e : C.ConeError) → rays ≡ s.rays → products ≡ map (product c) s.rays → IsFlatteningError line products rays Rays e →
      IsConeError s equal c e
  flat_rays_error products rays of_cone.Memory er ep x = tt
  flat_rays_error products rays (of_cone.Strained strained) er ep x =
      let h : x.place < length s.rays = subst (λ (y : List (List ℤ)). x.place < length y) er x.inside in
      let r = get_or s.rays x.place [] in
      let m : Contains s.rays r = Contains-get_or s.rays x.place [] h in
      let same : get_or rays x.place [] ≡ r = ap (λ (y : List (List ℤ)). get_or y x.place []) er in
      let value : get_or products x.place (pos 0) ≡ product c r = ap (λ (y : List ℤ). get_or y x.place (pos 0)) ep ∙ get_or-map (product c) s.rays x.place [] (pos 0) h in
      let off = ray_off s k r m in
      subst (IsStrain s equal c) (sym x.is)
      (flattening_strain Rays x.place (get_or products x.place (pos 0)) r x.excess (record { inside = h; is = refl }) (Contains-append_left s.rays (both_ways s.lines) r m) value
      (λ q. off (subst (Contains (both_ways s.lines)) (sym q) (signed_in s.lines (get_or s.lines at []) line.up has_line
      (up_sign (get_or s.lines at []) at (product c (get_or s.lines at [])) line t))))
      (λ q. off (subst (Contains (both_ways s.lines)) (turned_down (get_or s.lines at []) at (product c (get_or s.lines at [])) line t ∙ ap negated q ∙ negated_twice r)
      (signed_in s.lines (get_or s.lines at []) line.down has_line (down_sign (get_or s.lines at []) at (product c (get_or s.lines at [])) line t))))
      (ap (flattening line (get_or products x.place (pos 0))) (sym same) ∙ x.passes))

  -- the lines before the one across; `front` and `products` are theirs
  pub flat_lines_error : (products : List ℤ) (front : List (List ℤ)) (e : C.ConeError) → length front ≤ at → ((i : ℕ) → i < length front → get_or front i [] ≡ get_or s.lines i []) →
      ((i : ℕ) → i < length front → get_or products i (pos 0) ≡ product c (get_or s.lines i [])) →
      IsFlatteningError line products front Lines e → IsConeError s equal c e
  flat_lines_error products front of_cone.Memory h same value x = tt
  flat_lines_error products front (of_cone.Strained strained) h same value x =
      let i = x.place in
      let before : i < at = omega (arith, x.inside, h) in
      let has : i < length s.lines = omega (arith, before, inside) in
      let r = get_or s.lines i [] in
      let m : Contains s.lines r = Contains-get_or s.lines i [] has in
      let up = up_sign (get_or s.lines at []) at (product c (get_or s.lines at [])) line t in
      let down = down_sign (get_or s.lines at []) at (product c (get_or s.lines at [])) line t in
      subst (IsStrain s equal c) (sym x.is)
      (flattening_strain Lines i (get_or products i (pos 0)) r x.excess (r, record { inside = has; is = refl }, inl refl) (Contains-append_right s.rays (both_ways s.lines) r (in_lines s.lines r m))
      (value i x.inside)
      (lines_apart s k i at line.up before inside up)
      (λ q. lines_apart s k i at line.down before inside down (sym (negated_twice r) ∙ ap negated (sym q) ∙ sym (turned_down (get_or s.lines at []) at (product c (get_or s.lines at [])) line t)))
      (ap (flattening line (get_or products i (pos 0))) (sym (same i x.inside)) ∙ x.passes))

  -- as the code hands them over
  pub flat_front_error : (of_lines : List ℤ) (lines : List (List ℤ)) (e : C.ConeError) → lines ≡ s.lines → of_lines ≡ map (product c) s.lines →
      IsFlatteningError line (take line.place of_lines) (take line.place lines) Lines e → IsConeError s equal c e
  flat_front_error of_lines lines e el ep x =
      let p = line.place in
      flat_lines_error (take p of_lines) (take p lines) e (omega (arith, take_short p lines, t.is_place))
      (λ i h. get_or-take p lines i [] (omega (arith, h, take_short p lines)) ∙ ap (λ (y : List (List ℤ)). get_or y i []) el)
      (λ i h.
      let l : i < p = omega (arith, h, take_short p lines) in
      get_or-take p of_lines i (pos 0) l ∙ ap (λ (y : List ℤ). get_or y i (pos 0)) ep ∙ get_or-map (product c) s.lines i [] (pos 0) (omega (arith, l, t.is_place, inside))) x

-- ---- pairs of rays
-- each pair has a combination in lowest terms, whatever passes
combinations_exist : (products : List ℤ) (rays : List (List ℤ)) (pairs : List Q.Pair) → (ts : List (List ℤ)) × AreCombined products rays pairs ts
combinations_exist products rays [] = ([], tt)
combinations_exist products rays (p ∷ pairs) =
    let first = lowest_exists (pair_sum products rays p) in
    let rest = combinations_exist products rays pairs in
    (first.0 ∷ rest.0, (first.1, rest.1))

pub cut_cone_error : (s : ConeContent) (g : LinearRow) (products : List ℤ) (m : Matrix) (e : C.ConeError) → IsCone s → length g.row ≡ suc s.dims →
    ((l : List ℤ) → Contains s.lines l → product g.row l ≡ pos 0) →
    products ≡ map (product g.row) s.rays → m ≡ cone_saturation s.taken s.rays →
    IsCutError g.equal products s.rays m e → IsConeError s g.equal g.row e
cut_cone_error s g products m of_cone.Memory k w flat ep em x = tt
cut_cone_error s g products m (of_cone.Strained strained) k w flat ep em x =
    let rows = saturation_rows s.taken s.rays in
    let of_rays = map (product g.row) s.rays in
    let pairs : ArePairs of_rays rows (length of_rays) 0 x.pairs = subst (λ (q : List ℤ). ArePairs q rows (length q) 0 x.pairs) ep
    (subst (λ (y : Matrix). ArePairs products y.rows (length products) 0 x.pairs) em x.are_pairs) in
    elim x.names [
      | inl n ↦ named n.0 (pairs.each n.0 n.1) n.2
      | inr n ↦
          let ts = combinations_exist of_rays s.rays x.pairs in
          let case = cut_case (suc s.dims) g.row s.taken s.lines s.rays k.dual k.canonical g.equal x.pairs ts.0 pairs ts.1 in
          let new = inside_rays g.equal g.row s.rays ++ ts.0 in
          let count : inside_count g.equal products + length x.pairs ≡ length new = omega (
            arith,
            ap (inside_count g.equal) ep,
            inside_length g.equal g.row s.rays,
            combined_length of_rays s.rays x.pairs ts.0 ts.1,
            length-append (inside_rays g.equal g.row s.rays) ts.0,
          ) in
          subst (IsStrain s g.equal g.row) (sym n.0)
          (record {
            new_lines = s.lines;
            new_rays = new;
            met = ray_met s g new k w flat case;
            canonical = ray_canonical s g new k flat case;
            are = sym count;
            long = n.1;
          })
    ]
  where
    named : (p : Q.Pair) → IsAdjacentPair (map (product g.row) s.rays) (saturation_rows s.taken s.rays) p → NamesPair products s.rays p strained → IsStrain s g.equal g.row strained
    named p a n =
        let of_rays = map (product g.row) s.rays in
        let up : p.up < length s.rays = omega (arith, above_inside of_rays p.up a.above, length-map s.rays (product g.row)) in
        let down : p.down < length s.rays = omega (arith, below_inside of_rays p.down a.below, length-map s.rays (product g.row)) in
        let u = get_or s.rays p.up [] in
        let d = get_or s.rays p.down [] in
        let hu : Contains s.rays u = Contains-get_or s.rays p.up [] up in
        let hd : Contains s.rays d = Contains-get_or s.rays p.down [] down in
        let pu : get_or of_rays p.up (pos 0) ≡ product g.row u = get_or-map (product g.row) s.rays p.up [] (pos 0) up in
        let pd : get_or of_rays p.down (pos 0) ≡ product g.row d = get_or-map (product g.row) s.rays p.down [] (pos 0) down in
        subst (IsStrain s g.equal g.row) (sym n.is)
        (record {
          up = u;
          is_up = record { inside = up; is = refl };
          down = d;
          is_down = record { inside = down; is = refl };
          across = record {
            has_up = Contains-append_left s.rays (both_ways s.lines) u hu;
            has_down = Contains-append_left s.rays (both_ways s.lines) d hd;
            above = subst (λ z. pos 0 <ℤ z) pu a.above;
            below = subst (λ z. z <ℤ pos 0) pd a.below;
            apart = rays_apart s k u d hu hd;
          };
          passes = ap (λ z. checked_blend (neg_ℤ z) (product g.row u) u d) (sym (ap (λ (y : List ℤ). get_or y p.down (pos 0)) ep ∙ pd)) ∙
              ap (λ z. checked_blend (neg_ℤ (get_or products p.down (pos 0))) z u d) (sym (ap (λ (y : List ℤ). get_or y p.up (pos 0)) ep ∙ pu)) ∙ n.passes;
        })

-- the product that the line was turned by
pub turned_at : (s : ConeContent) (c : List ℤ) (of_lines : List ℤ) (at : ℕ) (line : Across) → of_lines ≡ map (product c) s.lines → at < length s.lines →
    IsTurned (get_or s.lines at []) at (get_or of_lines at (pos 0)) line →
    IsTurned (get_or s.lines at []) at (product c (get_or s.lines at [])) line
turned_at s c of_lines at line e h t =
    subst (λ z. IsTurned (get_or s.lines at []) at z line) (ap (λ (y : List ℤ). get_or y at (pos 0)) e ∙ get_or-map (product c) s.lines at [] (pos 0) h) t

-- ---- without places: the cone exceeds a limit
pub place_in : (rows : List (List ℤ)) (place : ℕ) (r : List ℤ) → StandsAt rows place r → Contains rows r
place_in rows place r x = subst (Contains rows) x.is (Contains-get_or rows place [] x.inside)

member_in : (s : ConeContent) (family : Family) (place : ℕ) (r : List ℤ) → IsMember s family place r → Contains (all_rows s.lines s.rays) r
member_in s Lines place r x = Contains-append_right s.rays (both_ways s.lines) r (in_lines s.lines r (place_in s.lines place r x))
member_in s Rays place r x = Contains-append_left s.rays (both_ways s.lines) r (place_in s.rays place r x)

-- When a cone of lines and rays exceeds a limit as the row c is added
abbrev pub ConeStrains : ℕ → Bool → List ℤ → List (List ℤ) → List (List ℤ) → Cause → Type 0
ConeStrains w equal c lines rays (cause.Excess e) = ProductPasses c (all_rows lines rays) e ⊎ PairPasses c (all_rows lines rays) e
ConeStrains w equal c lines rays (cause.TooMany count) = HasTooMany w equal c lines rays count

pub strain_cause : (s : ConeContent) (equal : Bool) (c : List ℤ) (strained : Strained) → IsStrain s equal c strained → ConeStrains (suc s.dims) equal c s.lines s.rays (cause_of strained)
strain_cause s equal c (Product member e) x = inl (record { row = x.row; has = member_in s member.family member.place x.row x.is; passes = x.passes })
strain_cause s equal c (Pair above below e) x = inr (record { up = x.up; down = x.down; across = x.across; passes = x.passes })
strain_cause s equal c (TooMany count) x = x
