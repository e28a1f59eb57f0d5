-- How a head grows.
use Rattle.std.proofs.Common.{◌≡◌, ◌≢◌, ◌∙◌, ℕ, ℤ, Bool, true, false, ◌⊎◌, List, [], ◌∷◌, ◌++◌, inl, inr, sym, refl, subst}
use Rattle.std.proofs.lemmas.Bool.{or_from}
use Rattle.std.proofs.{lemmas.Bool.false≢true, lemmas.Bool.or_parts, lemmas.List.Elements.Contains-append_right}
use Rattle.std.specs.{List.Contains, Prelude.◌||◌, Prelude.IsTrue}
use Rattle.lra_domain.specs.{Abstraction.Grew, Rank.RankBelow, declared.Exactness.Exactness, declared.Mode.Mode}
use Rattle.lra_domain.specs.declared.Exactness.TheVariants as degree
use Rattle.lra_domain.specs.declared.Grown.TheVariants as Grown
use Rattle.lra_domain.specs.declared.Mode.TheVariants as how
use Rattle.lra_linear_spec.specs.declared.Excess as E
use Rattle.lra_linear_spec.specs.OperationStrain.{HullStrains, InclusionStrains, ProductsPass, WideningPasses, valid_on}
use Rattle.lra_linear_spec.specs.{Descriptions.Con, Descriptions.LinearRow, Points.IsPoint, Points.IsWithin, Polyhedra.IsPolyhedron, Polyhedra.IsPolyhedronOf, Polyhedra.Polyhedron, Strain.Loss}
use Rattle.lra_linear_spec.specs.{Widening.LimitedWidening, Widening.StandardWidening, Widening.StandardFrom, declared.Cause.TheVariants.Excess}
use Rattle.lra_linear_spec.proofs.{Descriptions.con_none, Polyhedra.polyhedron_unique}
use Rattle.lra_poly_domain.specs.Crates.{lra_poly.Outcomes.Becomes, lra_poly.declared.outcome.Outcome.Outcome}
use Rattle.lra_duality.specs.declared.inclusion.Inclusion.TheVariants as inclusion
use Rattle.lra_duality.proofs.InclusionLemmas.{inclusion_tells}
use Rattle.lra_poly_widening.specs.Rank.{Falls, IsLowerRank, kept_thresholds, rank_of}
use Rattle.lra_poly_widening.specs.{Widenings.HaveColumns, Widenings.IsOutside, Widenings.IsRefusal, declared.error.WidenError.WidenError, declared.error.WidenError.TheVariants.NotIncluded}
use Rattle.lra_poly_domain.specs.Growth.{HasGrown, IsJoined, IsStruck, IsWidening, StrikePasses, exactness_of, head, some_passes, takes_thresholds}
use Rattle.lra_poly_domain.specs.Heads.{PolyhedronGrowthStrains, IsGrown, IsLeft, WideningStrains, thresholds_left, grown_set, head_rank}
use Rattle.lra_poly_domain.specs.{Abstraction.polyhedron_abstraction, Content.PolyhedronLeq, Content.HeadContent, Content.WellFormedHead, Covering.covered_from, Sets.IsJoin, Sets.hull_of}
use Rattle.lra_poly_domain.proofs.ChangeLemmas.{left_in_hull, right_in_hull}
use Rattle.lra_poly_domain.proofs.{OutcomeLemmas.of_exact, OutcomeLemmas.of_flagged, StrikeLemmas.kept_valid, StrikeLemmas.some_product, UniverseLemmas.all_no_row, UniverseLemmas.up_falls}

-- ---- joins
pub is_joined : (p next q : Polyhedron) (o : Outcome) → Becomes p.dims (hull_of p next) (HullStrains p next) q o → IsJoined p next q (exactness_of o)
is_joined p next q o b = record {
  dims = b.dims;
  canonical = b.canonical;
  within = b.within;
  exact = λ e. of_exact (IsJoin p next q) o b.exact e;
  flagged = λ e. of_flagged (HullStrains p next) o b.flagged e;
}

pub old_in_join : (p next q : Polyhedron) (e : Exactness) → IsJoined p next q e → IsWithin p.dims (Con p.rows) (Con q.rows)
old_in_join p next q e j x i c = j.within x i (left_in_hull p next x i c)

pub next_in_join : (p next q : Polyhedron) (e : Exactness) → IsJoined p next q e → IsWithin p.dims (Con next.rows) (Con q.rows)
next_in_join p next q e j x i c = j.within x i (right_in_hull p next x i c)

-- the join that is defined lies in it
defined_in_join : (p next q join : Polyhedron) (e : Exactness) → IsJoined p next q e → IsJoin p next join → IsWithin p.dims (Con join.rows) (Con q.rows)
defined_in_join p next q join e j is x i c = j.within x i (is.points.1 x i c)

pub grown_by_join : (p next q : Polyhedron) (given left : List LinearRow) (e : Exactness) → left ≡ given → IsJoined p next q e →
    HasGrown (head p given) next how.Join (head q left) e
grown_by_join p next q given left e same j = record {
  dims = j.dims;
  canonical = j.canonical;
  old = old_in_join p next q e j;
  added = next_in_join p next q e j;
  covers = λ g is x i c. defined_in_join p next q is.join e j is.is_join x i (is.made.points.1 x i c);
  exact = λ f. record {
    join = q;
    is_join = j.exact f;
    made = record { dimensions = j.dims; canonical = j.canonical; points = (λ x i c. c, λ x i c. c) };
    left = same;
  };
  flagged = λ f. inl (j.flagged f);
  falls = λ other apart. absurd (other refl);
  left = inl same;
}

-- ---- widenings
pub never_outside : (p q : Polyhedron) (place : ℕ) → IsPolyhedron p → IsWithin p.dims (Con p.rows) (Con q.rows) → ¬ (IsOutside p q place)
never_outside p q place h w o = inclusion_tells p q (inclusion.No place) h o w

pub never_refused : (p q : Polyhedron) (e : WidenError) (place : ℕ) → IsPolyhedron p → IsWithin p.dims (Con p.rows) (Con q.rows) → e ≡ NotIncluded place → IsRefusal p q e → ⊥
never_refused p q e place h w is r = never_outside p q place h w (subst (IsRefusal p q) is r)

pub is_widening : (mode : Mode) (p q r : Polyhedron) (given : List LinearRow) (o : Outcome) → Becomes p.dims (grown_set mode p q given) (λ loss. WideningStrains mode p q given loss) r o →
    IsWithin p.dims (Con p.rows) (Con r.rows) → (r ≢ p → Falls p r given) → IsWidening mode p q given r (exactness_of o)
is_widening mode p q r given o b old falls = record {
  dims = b.dims;
  canonical = b.canonical;
  within = b.within;
  old = old;
  exact = λ e. of_exact (IsPolyhedronOf p.dims (grown_set mode p q given) r) o b.exact e;
  flagged = λ e. of_flagged (λ loss. WideningStrains mode p q given loss) o b.flagged e;
  falls = falls;
}

-- ---- strikes
or_true : (a b : Bool) → b ≡ true → IsTrue (a || b)
or_true true b e = refl
or_true false b e = e

not_true : (b : Bool) → ¬ (IsTrue b) → b ≡ false
not_true true h = absurd (h refl)
not_true false h = refl

left_valid : (p r : Polyhedron) (given : List LinearRow) → ¬ (IsTrue (some_passes p.generators given || some_passes r.generators given)) → kept_thresholds p r given ≡ valid_on p r given
left_valid p r given none =
    let n = or_parts (some_passes p.generators given) (some_passes r.generators given) (not_true (some_passes p.generators given || some_passes r.generators given) none) in
    kept_valid p r given n.0 n.1

-- if none of them flags, the rows that are kept are those that the definition leaves
left_is : (mode : Mode) (p r : Polyhedron) (given : List LinearRow) → mode ≢ how.Join → ¬ StrikePasses mode p r given →
    kept_thresholds p r given ≡ thresholds_left mode p r given
left_is how.Join p r given other none = absurd (other refl)
left_is how.Widen p r given other none = refl
left_is how.Limited p r given other none = left_valid p r given none
left_is how.Tightest p r given other none = left_valid p r given none

-- what the code finds
pub struck_other : (e : Exactness) (mode : Mode) (p r : Polyhedron) (given : List LinearRow) → takes_thresholds mode ≡ false → IsStruck e mode p r given e
struck_other degree.Flagged mode p r given other = inl refl
struck_other degree.Exact how.Join p r given other = (refl, λ t. t)
struck_other degree.Exact how.Widen p r given other = (refl, λ t. t)
struck_other degree.Exact how.Limited p r given other = let wrong : ⊥ = cc in absurd wrong
struck_other degree.Exact how.Tightest p r given other = let wrong : ⊥ = cc in absurd wrong

pub struck_first : (e : Exactness) (mode : Mode) (p r : Polyhedron) (given : List LinearRow) → takes_thresholds mode ≡ true → some_passes p.generators given ≡ true →
    IsStruck e mode p r given degree.Flagged
struck_first e how.Limited p r given is t = inr (rw t refl)
struck_first e how.Tightest p r given is t = inr (rw t refl)
struck_first e how.Join p r given is t = let wrong : ⊥ = cc in absurd wrong
struck_first e how.Widen p r given is t = let wrong : ⊥ = cc in absurd wrong

pub struck_second : (e : Exactness) (mode : Mode) (p r : Polyhedron) (given : List LinearRow) → takes_thresholds mode ≡ true → some_passes r.generators given ≡ true →
    IsStruck e mode p r given degree.Flagged
struck_second e how.Limited p r given is t = inr (or_true (some_passes p.generators given) (some_passes r.generators given) t)
struck_second e how.Tightest p r given is t = inr (or_true (some_passes p.generators given) (some_passes r.generators given) t)
struck_second e how.Join p r given is t = let wrong : ⊥ = cc in absurd wrong
struck_second e how.Widen p r given is t = let wrong : ⊥ = cc in absurd wrong

none_struck : (p r : Polyhedron) (given : List LinearRow) → some_passes p.generators given ≡ false → some_passes r.generators given ≡ false →
    ¬ (IsTrue (some_passes p.generators given || some_passes r.generators given))
none_struck p r given f g t = false≢true (sym (or_from (some_passes p.generators given) (some_passes r.generators given) f g) ∙ t)

pub struck_none : (e : Exactness) (mode : Mode) (p r : Polyhedron) (given : List LinearRow) → some_passes p.generators given ≡ false → some_passes r.generators given ≡ false →
    IsStruck e mode p r given e
struck_none degree.Flagged mode p r given f g = inl refl
struck_none degree.Exact how.Join p r given f g = (refl, λ t. t)
struck_none degree.Exact how.Widen p r given f g = (refl, λ t. t)
struck_none degree.Exact how.Limited p r given f g = (refl, none_struck p r given f g)
struck_none degree.Exact how.Tightest p r given f g = (refl, none_struck p r given f g)

-- the loss of a widening threshold in such a product
abbrev loss_of : LinearRow → E.Excess → Loss
loss_of r e = record { chosen = []; further = r; cause = Excess e }

strike_passes : (p q r : Polyhedron) (given : List LinearRow) → IsPolyhedronOf p.dims (LimitedWidening p q given) r → IsTrue (some_passes p.generators given || some_passes r.generators given)
    → (loss : Loss) × WideningPasses p q given (LimitedWidening p q given) loss
strike_passes p q r given is t = by_value (some_passes p.generators given) (some_passes r.generators given) refl refl t
  where
    with_row : (generators : List LinearRow) (e : E.Excess) → ProductsPass given generators e → ProductsPass (q.rows ++ given) generators e
    with_row generators e x = record {
      row = x.row;
      has_row = Contains-append_right q.rows given x.row x.has_row;
      generator = x.generator;
      has_generator = x.has_generator;
      passes = x.passes;
    }

    by_value : (a b : Bool) → some_passes p.generators given ≡ a → some_passes r.generators given ≡ b → IsTrue (a || b) → (loss : Loss) × WideningPasses p q given (LimitedWidening p q given) loss
    by_value true b e f t =
        let x = some_product p.generators given e in (
          loss_of x.1.row x.0,
          record {
            excess = x.0;
            is_cause = refl;
            generators = p.generators;
            of = inl refl;
            passes = with_row p.generators x.0 x.1;
            is_further = refl;
            nothing = refl;
          },
        )
    by_value false true e f t =
        let x = some_product r.generators given f in (
          loss_of x.1.row x.0,
          record {
            excess = x.0;
            is_cause = refl;
            generators = r.generators;
            of = inr (inr (record { result = r; is_result = is; are = refl }));
            passes = with_row r.generators x.0 x.1;
            is_further = refl;
            nothing = refl;
          },
        )
    by_value false false e f t = let wrong : ⊥ = cc in absurd wrong

strike_strains : (mode : Mode) (p q r : Polyhedron) (given : List LinearRow) → IsPolyhedronOf p.dims (grown_set mode p q given) r → StrikePasses mode p r given
    → (loss : Loss) × WideningStrains mode p q given loss
strike_strains how.Join p q r given is t = absurd t
strike_strains how.Widen p q r given is t = absurd t
strike_strains how.Limited p q r given is t = let x = strike_passes p q r given is t in (x.0, inr x.1)
strike_strains how.Tightest p q r given is t = let x = strike_passes p q r given is t in (x.0, inr x.1)

-- ---- a growth by widening with the defined join
struck_exact : (before after : Exactness) (mode : Mode) (p r : Polyhedron) (given : List LinearRow) → IsStruck before mode p r given after →
    after ≡ degree.Exact →
    (before ≡ degree.Exact) × ¬ StrikePasses mode p r given
struck_exact before degree.Exact mode p r given s e = s
struck_exact before degree.Flagged mode p r given s e = let wrong : ⊥ = cc in absurd wrong

struck_flagged : (before after : Exactness) (mode : Mode) (p r : Polyhedron) (given : List LinearRow) → IsStruck before mode p r given after → after ≡ degree.Flagged →
    (before ≡ degree.Flagged) ⊎ StrikePasses mode p r given
struck_flagged before degree.Exact mode p r given s e = let wrong : ⊥ = cc in absurd wrong
struck_flagged before degree.Flagged mode p r given s e = s

widening_flagged : (mode : Mode) (p next q r : Polyhedron) (given : List LinearRow) (before : Exactness) → mode ≢ how.Join → IsJoin p next q → IsWidening mode p q given r before →
    (before ≡ degree.Flagged) ⊎ StrikePasses mode p r given → PolyhedronGrowthStrains (head p given) next mode
widening_flagged mode p next q r given before other is w (inl f) =
    let l = w.flagged f in inr (record { join = q; is_join = is; loss = l.0; strains = l.1 })
widening_flagged mode p next q r given degree.Flagged other is w (inr t) =
    let l = w.flagged refl in inr (record { join = q; is_join = is; loss = l.0; strains = l.1 })
widening_flagged mode p next q r given degree.Exact other is w (inr t) =
    let l = strike_strains mode p q r given (w.exact refl) t in inr (record { join = q; is_join = is; loss = l.0; strains = l.1 })

-- the join lies in its widening
join_in_standard : (p q : Polyhedron) (x : List ℤ) → Con q.rows x → StandardWidening p q x
join_in_standard p q x c = by_generators p.generators
  where
    by_generators : (generators : List LinearRow) → StandardFrom generators p q x
    by_generators [] = c
    by_generators (g ∷ generators) = λ r k t. c r k

join_in_limited : (p q : Polyhedron) (given : List LinearRow) → q.dims ≡ p.dims → IsWithin p.dims (Con q.rows) (LimitedWidening p q given)
join_in_limited p q given d x i c = (join_in_standard p q x c, λ g k valid also. also x (subst (λ (n : ℕ). IsPoint n x) (sym d) i) c)

join_in_set : (mode : Mode) (p q : Polyhedron) (given : List LinearRow) → q.dims ≡ p.dims → IsWithin p.dims (Con q.rows) (grown_set mode p q given)
join_in_set how.Join p q given d x i c = c
join_in_set how.Widen p q given d x i c = join_in_standard p q x c
join_in_set how.Limited p q given d x i c = join_in_limited p q given d x i c
join_in_set how.Tightest p q given d x i c = join_in_limited p q given d x i c

below_by_left : (p r : Polyhedron) (given left : List LinearRow) → left ≡ kept_thresholds p r given → Falls p r given →
    IsLowerRank (rank_of r left) (rank_of p given)
below_by_left p r given left e f = subst (λ l. IsLowerRank (rank_of r l) (rank_of p given)) (sym e) f

left_kept : (mode : Mode) (h new : HeadContent) → mode ≢ how.Join → new.thresholds ≡ kept_thresholds h.value new.value h.thresholds → IsLeft h mode new
left_kept how.Join h new other e = absurd (other refl)
left_kept how.Widen h new other e = e
left_kept how.Limited h new other e = e
left_kept how.Tightest h new other e = e

pub grown_by_widening : (mode : Mode) (p next q r : Polyhedron) (given left : List LinearRow) (joining before after : Exactness) → mode ≢ how.Join → IsJoined p next q joining →
    joining ≡ degree.Exact →
    IsWidening mode p q given r before → left ≡ kept_thresholds p r given → IsStruck before mode p r given after →
    HasGrown (head p given) next mode (head r left) after
grown_by_widening mode p next q r given left joining before after other j f w kept_are s = record {
  dims = w.dims;
  canonical = w.canonical;
  old = w.old;
  added = λ x i c. w.within x i (join_in_set mode p q given j.dims x i (next_in_join p next q joining j x i c));
  covers = λ g is x i c. w.within x i (same_set g is x i c);
  exact = λ e.
      let t = struck_exact before after mode p r given s e in record {
        join = q;
        is_join = j.exact f;
        made = w.exact t.0;
        left = kept_are ∙ left_is mode p r given other t.1;
      };
  flagged = λ e. widening_flagged mode p next q r given before other (j.exact f) w (struck_flagged before after mode p r given s e);
  falls = λ m apart. below_by_left p r given left kept_are (w.falls apart);
  left = left_kept mode (head p given) (head r left) other kept_are;
}
  where
    same_set : (g : HeadContent) → IsGrown (head p given) next mode g → IsWithin p.dims (Con g.value.rows) (grown_set mode p q given)
    same_set g is x i c =
        subst (λ (k : Polyhedron). grown_set mode p k given x) (polyhedron_unique p.dims (hull_of p next) (hull_of p next) is.join q (λ y k m. m, λ y k m. m) is.is_join (j.exact f))
        (is.made.points.1 x i c)

-- ---- all points
-- if the join is flagged
pub grown_up : (mode : Mode) (p next q u : Polyhedron) (given left : List LinearRow) (joining after : Exactness) → mode ≢ how.Join → IsPolyhedron p → HaveColumns p.dims given →
    IsJoined p next q joining → joining ≡ degree.Flagged → IsPolyhedronOf p.dims (Con []) u → left ≡ kept_thresholds p u given → after ≡ degree.Flagged →
    HasGrown (head p given) next mode (head u left) after
grown_up mode p next q u given left joining after other h columns j f is kept_are flags = record {
  dims = is.dimensions;
  canonical = is.canonical;
  old = λ x i c. is.points.0 x i (con_none x);
  added = λ x i c. is.points.0 x i (con_none x);
  covers = λ g k x i c. is.points.0 x i (con_none x);
  exact = λ e. let wrong : ⊥ = cc in absurd wrong;
  flagged = λ e. inl (j.flagged f);
  falls = λ m apart. below_by_left p u given left kept_are (up_falls p u given h is columns apart);
  left = left_kept mode (head p given) (head u left) other kept_are;
}

-- if the inclusion is wide: a product has a row of P, and the polyhedron of all points has none
other_where_wide : (p next u : Polyhedron) (e : E.Excess) → InclusionStrains next p e → IsPolyhedronOf p.dims (Con []) u → u ≢ p
other_where_wide p next u e x is same = all_no_row p.dims u is x.row (subst (λ (y : Polyhedron). Contains y.rows x.row) (sym same) x.has_row)

wide_falls : (p next u : Polyhedron) (given left : List LinearRow) (e : E.Excess) → IsPolyhedron p → HaveColumns p.dims given → InclusionStrains next p e → IsPolyhedronOf p.dims (Con []) u →
    left ≡ kept_thresholds p u given → IsLowerRank (rank_of u left) (rank_of p given)
wide_falls p next u given left e h columns x is kept_are = below_by_left p u given left kept_are (up_falls p u given h is columns (other_where_wide p next u e x is))

-- ---- a head that grows
pub grew : (h : HeadContent) (next : Polyhedron) (mode : Mode) (new : HeadContent) (e : Exactness) → WellFormedHead new → next.dims ≡ h.value.dims →
    ¬ (PolyhedronLeq next h.value) → HasGrown h next mode new e → Grew polyhedron_abstraction h next mode e new
grew h next mode new e fine d outside g = record {
  formed = fine;
  both = record {
    dims = (sym g.dims, d ∙ sym g.dims);
    left = subst (λ (n : ℕ). IsWithin n (Con h.value.rows) (Con new.value.rows)) (sym g.dims) g.old;
    right = subst (λ (n : ℕ). IsWithin n (Con next.rows) (Con new.value.rows)) (sym g.dims) g.added;
  };
  left = g.left;
  covers = λ k is. covered_from k.value new.value is.made.canonical (is.made.dimensions ∙ sym g.dims)
      (subst (λ (n : ℕ). IsWithin n (Con k.value.rows) (Con new.value.rows)) (sym is.made.dimensions) (g.covers k is));
  moved = λ f. outside;
  exact = g.exact;
  flagged = λ f. inr (outside, g.flagged f);
}

rank_below : (a b : HeadContent) → IsLowerRank (rank_of a.value a.thresholds) (rank_of b.value b.thresholds) → RankBelow (head_rank a) (head_rank b)
rank_below a b (inl l) = inr (inl (refl, l))
rank_below a b (inr (e, inl l)) = inr (inr (inl (refl, e, l)))
rank_below a b (inr (e, inr (f, l))) = inr (inr (inr (refl, e, f, l)))

pub grew_lower : (h : HeadContent) (next : Polyhedron) (mode : Mode) (new : HeadContent) (e : Exactness) → IsPolyhedron next → next.dims ≡ h.value.dims →
    ¬ (PolyhedronLeq next h.value) → HasGrown h next mode new e → mode ≢ how.Join → RankBelow (head_rank new) (head_rank h)
grew_lower h next mode new e hn d outside g widens = rank_below new h (g.falls widens apart)
  where
    apart : new.value ≢ h.value
    apart same = outside (covered_from next h.value hn d
        (subst (λ (y : Polyhedron). IsWithin next.dims (Con next.rows) (Con y.rows)) same (subst (λ (n : ℕ). IsWithin n (Con next.rows) (Con new.value.rows)) (sym d) g.added)))

-- a head that is given up
pub left_up : (mode : Mode) (h new : HeadContent) → IsPolyhedronOf h.value.dims (Con []) new.value → new.thresholds ≡ kept_thresholds h.value new.value h.thresholds → IsLeft h mode new
left_up how.Join h new is e = inr (record { all = is; left = e })
left_up how.Widen h new is e = e
left_up how.Limited h new is e = e
left_up how.Tightest h new is e = e

pub grew_wide : (h : HeadContent) (next : Polyhedron) (mode : Mode) (new : HeadContent) → WellFormedHead new → next.dims ≡ h.value.dims →
    (e : E.Excess) × InclusionStrains next h.value e → IsPolyhedronOf h.value.dims (Con []) new.value →
    new.thresholds ≡ kept_thresholds h.value new.value h.thresholds →
    Grew polyhedron_abstraction h next mode degree.Flagged new
grew_wide h next mode new fine d x is kept_are = record {
  formed = fine;
  both = record {
    dims = (sym is.dimensions, d ∙ sym is.dimensions);
    left = λ y i c. is.points.0 y (subst (λ (n : ℕ). IsPoint n y) is.dimensions i) (con_none y);
    right = λ y i c. is.points.0 y (subst (λ (n : ℕ). IsPoint n y) is.dimensions i) (con_none y);
  };
  left = left_up mode h new is kept_are;
  covers = λ k g. covered_from k.value new.value g.made.canonical (g.made.dimensions ∙ sym is.dimensions)
      (λ y i c. is.points.0 y (subst (λ (n : ℕ). IsPoint n y) g.made.dimensions i) (con_none y));
  moved = λ f. let wrong : ⊥ = cc in absurd wrong;
  exact = λ f. let wrong : ⊥ = cc in absurd wrong;
  flagged = λ f. inl (x, record { all = is; left = kept_are });
}

pub wide_lower : (h : HeadContent) (next : Polyhedron) (new : HeadContent) → IsPolyhedron h.value → HaveColumns h.value.dims h.thresholds → (e : E.Excess) × InclusionStrains next h.value e →
    IsPolyhedronOf h.value.dims (Con []) new.value → new.thresholds ≡ kept_thresholds h.value new.value h.thresholds → RankBelow (head_rank new) (head_rank h)
wide_lower h next new hp columns x is kept_are = rank_below new h (wide_falls h.value next new.value h.thresholds new.thresholds x.0 hp columns x.1 is kept_are)

pub flagged_alone : (a : Exactness) (P : Exactness → Type 0) → Grown.Grew degree.Flagged ≡ Grown.Grew a → P degree.Flagged → P a
flagged_alone degree.Flagged P e h = h
flagged_alone degree.Exact P e h = let wrong : ⊥ = cc in absurd wrong
