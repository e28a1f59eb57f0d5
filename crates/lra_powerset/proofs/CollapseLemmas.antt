-- Lemmas on lists that are kept within their cap.
use Rattle.std.proofs.Common.{◌≡◌, ◌⊎◌, ℕ, zero, suc, ◌≤◌, ◌<◌, List, [], ◌∷◌, ◌++◌, length, refl, sym, subst, inl, inr, arith}
use Rattle.lra_domain.specs.Abstraction.{Abstraction, Joins, worse}
use Rattle.lra_domain.specs.{Laws.BaseLaws, declared.Exactness.Exactness, declared.Exactness.TheVariants.Exact, declared.Exactness.TheVariants.Flagged}
use Rattle.lra_domain.proofs.WorseLaws.{exact_parts}
use Rattle.lra_powerset.specs.Joins.{JoinsOnStrains, LastTwoJoin, LastTwoStrain, CollapsesTo, CollapseStrains}
use Rattle.lra_powerset.specs.Outcomes.{IsReduced, IsMerged, LastTwoBecomeJoin, IsCollapsed}
use Rattle.lra_powerset.specs.{Content.PartFits, ListLemmas.each_map, Lists.EachPart, Lists.SomePart, Reduction.Reduces, Single.join_same, Single.leaves_same, Values.PartsIncluded}
use Rattle.lra_powerset.proofs.PartLists.{each_append, each_left, each_right, some_left, some_right}
use Rattle.lra_powerset.proofs.ReductionLemmas.{cover_trans, reduced_covers, reduced_exact, reduced_strains, leaves_each, reduced_more, reduced_each}

-- covering ----------------------------------------------------------------------------------------------------------------

pub covers_itself : {V H : Type 0} (m : Abstraction V H) → BaseLaws m → (ps : List V) → PartsIncluded m.leq ps ps
covers_itself m pl [] = tt
covers_itself m pl (p ∷ ps) = (
  inl (pl.leq_reflexive p),
  each_map (λ q. SomePart (m.leq q) ps) (λ q. SomePart (m.leq q) (p ∷ ps)) (λ q some. inr some) ps (covers_itself m pl ps),
)

pub cover_left : {V H : Type 0} (m : Abstraction V H) (ps qs rs : List V) → PartsIncluded m.leq ps qs
    → PartsIncluded m.leq ps (qs ++ rs)
cover_left m ps qs rs c = each_map (λ p. SomePart (m.leq p) qs) (λ p. SomePart (m.leq p) (qs ++ rs))
    (λ p some. some_left (m.leq p) qs rs some) ps c

pub one_covers : {V H : Type 0} (m : Abstraction V H) (j : V) (ps : List V) → EachPart (λ p. m.leq p j) ps
    → PartsIncluded m.leq ps (j ∷ [])
one_covers m j ps each = each_map (λ p. m.leq p j) (λ p. SomePart (m.leq p) (j ∷ [])) (λ p c. inl c) ps each

-- a step in which the last two become one covers what was there
pub meet_covers : {V H : Type 0} (m : Abstraction V H) → BaseLaws m → (ps : List V) (e : Exactness) (qs : List V)
    → LastTwoBecomeJoin m ps e qs → PartsIncluded m.leq ps qs
meet_covers {V} m pl ps e qs t =
    let both : PartsIncluded m.leq (t.one ∷ t.two ∷ []) (t.front ++ t.both ∷ []) = (
      some_right (m.leq t.one) t.front (t.both ∷ []) (inl t.joined.left),
      (some_right (m.leq t.two) t.front (t.both ∷ []) (inl t.joined.right), tt),
    ) in
    let front = cover_left m t.front t.front (t.both ∷ []) (covers_itself m pl t.front) in
    subst (λ (xs : List V). PartsIncluded m.leq xs qs) (sym t.old)
    (subst (λ (ys : List V). PartsIncluded m.leq ((t.front ++ t.one ∷ []) ++ t.two ∷ []) ys) (sym t.new)
    (each_append (λ p. SomePart (m.leq p) (t.front ++ t.both ∷ [])) (t.front ++ t.one ∷ []) (t.two ∷ [])
    (each_append (λ p. SomePart (m.leq p) (t.front ++ t.both ∷ [])) t.front (t.one ∷ []) front (both.0, tt)) (both.1.0, tt)))

pub meet_exact : {V H : Type 0} (m : Abstraction V H) (ps qs : List V) → LastTwoBecomeJoin m ps Exact qs → LastTwoJoin m ps qs
meet_exact m ps qs t = record {
  front = t.front;
  one = t.one;
  two = t.two;
  both = t.both;
  old = t.old;
  joined = t.joined.exact refl;
  new = t.new;
}

pub meet_strains : {V H : Type 0} (m : Abstraction V H) (ps qs : List V) → LastTwoBecomeJoin m ps Flagged qs → LastTwoStrain m ps
meet_strains m ps qs t = record {
  front = t.front;
  one = t.one;
  two = t.two;
  old = t.old;
  strains = t.joined.flagged refl;
}

-- what covers all parts covers what comes of them
join_under : {V H : Type 0} (m : Abstraction V H) → BaseLaws m → (j : V) (ps qs : List V) → LastTwoJoin m ps qs
    → EachPart (λ p. m.leq p j) ps → EachPart (λ p. m.leq p j) qs
join_under {V} m pl j ps qs t each =
    let all : EachPart (λ p. m.leq p j) ((t.front ++ t.one ∷ []) ++ t.two ∷ []) =
    subst (λ (xs : List V). EachPart (λ p. m.leq p j) xs) t.old each in
    let early = each_left (λ p. m.leq p j) (t.front ++ t.one ∷ []) (t.two ∷ []) all in
    let one = (each_right (λ p. m.leq p j) t.front (t.one ∷ []) early).0 in
    let two = (each_right (λ p. m.leq p j) (t.front ++ t.one ∷ []) (t.two ∷ []) all).0 in
    subst (λ (xs : List V). EachPart (λ p. m.leq p j) xs) (sym t.new)
    (each_append (λ p. m.leq p j) t.front (t.both ∷ []) (each_left (λ p. m.leq p j) t.front (t.one ∷ []) early)
    (pl.joined_covered t.one t.two t.both j t.joined one two, tt))

pub settles_under : {V H : Type 0} (m : Abstraction V H) → BaseLaws m → (j : V) (cap joins : ℕ) (ps zs : List V)
    → CollapsesTo m cap joins ps zs → EachPart (λ p. m.leq p j) ps → EachPart (λ p. m.leq p j) zs
settles_under m pl j cap zero ps zs s each = leaves_each m (λ p. m.leq p j) [] ps zs s.0 each
settles_under m pl j cap (suc n) ps zs (left, next, red, over, two, more) each =
    settles_under m pl j cap n next zs more
    (join_under m pl j left next two (leaves_each m (λ p. m.leq p j) [] ps left red each))

-- settled -----------------------------------------------------------------------------------------------------------------

few_covers : {V H : Type 0} (m : Abstraction V H) → BaseLaws m → (cap : ℕ) (ps : List V) (e : Exactness) (qs : List V)
    → IsReduced m ps e qs → length qs ≤ cap → (joins : ℕ) (zs : List V) → CollapsesTo m cap joins ps zs
    → PartsIncluded m.leq zs qs
few_covers m pl cap ps e qs r few zero zs s =
    leaves_each m (λ p. SomePart (m.leq p) qs) [] ps zs s.0 (reduced_covers m pl ps e qs r)
few_covers m pl cap ps e qs r few (suc n) zs (left, next, red, over, two, more) =
    let fewer = reduced_more m ps e qs left r red in
    let wrong : ⊥ = omega (arith, fewer) in absurd wrong

-- reduced to no more than the cap
pub settled_ends : {V H : Type 0} (m : Abstraction V H) → BaseLaws m → (n cap : ℕ) (ps : List V) (e : Exactness)
    (qs : List V) → IsReduced m ps e qs → length qs ≤ cap → EachPart (PartFits m n) ps → IsCollapsed m n cap ps e qs
settled_ends m pl n cap ps e qs r few fit = record {
  parts = reduced_covers m pl ps e qs r;
  covers = few_covers m pl cap ps e qs r few;
  exact = λ x. (0, (reduced_exact m ps e qs r x, few));
  flagged = λ x. (0, inl (reduced_strains m ps e qs r x));
  few = few;
  fit = reduced_each m (PartFits m n) ps e qs r fit;
}

on_covers : {V H : Type 0} (m : Abstraction V H) → BaseLaws m → (n cap : ℕ) (ps mid next : List V) (e : Exactness)
    (qs : List V) → Reduces m ps mid → cap < length mid → LastTwoJoin m mid next → IsCollapsed m n cap next e qs
    → (joins : ℕ) (zs : List V) → CollapsesTo m cap joins ps zs → PartsIncluded m.leq zs qs
on_covers {V} m pl n cap ps mid next e qs red over two s zero zs z =
    let fewer : length mid ≤ cap = subst (λ (xs : List V). length xs ≤ cap) (leaves_same m [] ps zs mid z.0 red) z.1 in
    let wrong : ⊥ = omega (arith, fewer) in absurd wrong
on_covers {V} m pl n cap ps mid next e qs red over two s (suc k) zs (left, after, red_too, over_too, join, more) =
    let one : left ≡ mid = leaves_same m [] ps left mid red_too red in
    let joined : LastTwoJoin m mid after = subst (λ (xs : List V). LastTwoJoin m xs after) one join in
    let same : after ≡ next = join_same m pl.one_joined mid after next joined two in
    s.covers k zs (subst (λ (xs : List V). CollapsesTo m cap k xs zs) same more)

-- one join more
pub settled_on : {V H : Type 0} (m : Abstraction V H) → BaseLaws m → (n cap : ℕ) (ps mid next : List V) (e : Exactness)
    (qs : List V) → IsReduced m ps Exact mid → cap < length mid → LastTwoBecomeJoin m mid Exact next
    → IsCollapsed m n cap next e qs → IsCollapsed m n cap ps e qs
settled_on m pl n cap ps mid next e qs r over t s =
    let red = reduced_exact m ps Exact mid r refl in
    let two = meet_exact m mid next t in
    record {
      parts = cover_trans m pl ps mid qs (reduced_covers m pl ps Exact mid r)
          (cover_trans m pl mid next qs (meet_covers m pl mid Exact next t) s.parts);
      covers = on_covers m pl n cap ps mid next e qs red over two s;
      exact = λ x. let more = s.exact x in (suc more.0, (mid, next, red, over, two, more.1));
      flagged = λ x. let more = s.flagged x in (suc more.0, (mid, next, red, over, two, more.1));
      few = s.few;
      fit = s.fit;
    }

-- all parts became one
pub settled_whole : {V H : Type 0} (m : Abstraction V H) → BaseLaws m → (n cap : ℕ) (ps : List V) (j : V) → 1 ≤ cap
    → EachPart (λ p. m.leq p j) ps → ((joins : ℕ) × CollapseStrains m cap joins ps) → PartFits m n j
    → IsCollapsed m n cap ps Flagged (j ∷ [])
settled_whole m pl n cap ps j some each strains fit = record {
  parts = one_covers m j ps each;
  covers = λ joins zs s. one_covers m j zs (settles_under m pl j cap joins ps zs s each);
  exact = λ e. let wrong : ⊥ = cc in absurd wrong;
  flagged = λ e. strains;
  few = some;
  fit = (fit, tt);
}

-- the parts under a merge
pub merged_each : {V H : Type 0} (m : Abstraction V H) → BaseLaws m → (ps mid : List V) (j : V)
    → PartsIncluded m.leq ps mid → EachPart (λ p. m.leq p j) mid → EachPart (λ p. m.leq p j) ps
merged_each m pl ps mid j c each = each_map (λ p. SomePart (m.leq p) mid) (λ p. m.leq p j)
    (λ p some. under m pl j p mid each some) ps c
  where
    under : {V H : Type 0} (m : Abstraction V H) → BaseLaws m → (j p : V) (qs : List V) → EachPart (λ q. m.leq q j) qs
        → SomePart (m.leq p) qs → m.leq p j
    under m pl j p [] each some = absurd some
    under m pl j p (q ∷ qs) each (inl c) = pl.leq_transitive p q j c each.0
    under m pl j p (q ∷ qs) each (inr some) = under m pl j p qs each.1 some

-- the part and the others, joined in order ------------------------------------------------------------------------------------

pub merged_none : {V H : Type 0} (m : Abstraction V H) → BaseLaws m → (a : V) → m.well_formed a → IsMerged m a [] Exact a
merged_none m pl a fine = record { formed = fine; first = pl.leq_reflexive a; others = tt; exact = λ e. refl; flagged = λ e. cc }

merge_flagged : {V H : Type 0} (m : Abstraction V H) (a p b : V) (ps : List V) (one two : Exactness) → Joins m a p one b
    → (two ≡ Flagged → JoinsOnStrains m b ps) → worse one two ≡ Flagged
    → m.join_strains a p ⊎ ((c : V) × m.joined a p c × JoinsOnStrains m c ps)
merge_flagged m a p b ps Exact two j f e = inr (b, j.exact refl, f e)
merge_flagged m a p b ps Flagged two j f e = inl (j.flagged refl)

pub merged_more : {V H : Type 0} (m : Abstraction V H) → BaseLaws m → (a p b : V) (ps : List V) (one two : Exactness) (j : V)
    → Joins m a p one b → IsMerged m b ps two j → IsMerged m a (p ∷ ps) (worse one two) j
merged_more m pl a p b ps one two j t more = record {
  formed = more.formed;
  first = pl.leq_transitive a b j t.left more.first;
  others = (pl.leq_transitive p b j t.right more.first, more.others);
  exact = λ e. let both = exact_parts one two e in (b, t.exact both.0, more.exact both.1);
  flagged = λ e. merge_flagged m a p b ps one two t more.flagged e;
}
