-- Lemmas on parts that are changed one by one.
use Rattle.std.proofs.Common.{◌≡◌, ◌≢◌, ◌⊎◌, ℕ, zero, suc, ◌≤◌, List, [], ◌∷◌, ◌++◌, length, refl, ap, sym, subst, ◌∙◌, inl, inr, arith, append_assoc, append-nil, length-append}
use Rattle.lra_domain.specs.Abstraction.{Abstraction, TransfersTo, Joins, worse}
use Rattle.lra_domain.specs.{Actions.Action, Actions.dims_after, Laws.Laws, Laws.BaseLaws, declared.Exactness.Exactness, declared.Exactness.TheVariants.Exact, declared.Exactness.TheVariants.Flagged}
use Rattle.lra_domain.proofs.WorseLaws.{exact_parts}
use Rattle.lra_powerset.specs.Content.{SetContent, nonempty_parts, with_nonempty, PartFits}
use Rattle.lra_powerset.specs.{Abstraction.set_abstraction, Joins.CollapsesTo, Joins.CollapseStrains, ListLemmas.each_map, Lists.EachPart, Lists.SomePart, Lists.PartByPart, Outcomes.HaveDims}
use Rattle.lra_powerset.specs.{Outcomes.IsAppended, Outcomes.IsCollapsed, Outcomes.AreChanged, Reduction.ReducesAfter, Values.PartsIncluded, Values.SetTransferred, Values.SetStrains}
use Rattle.lra_powerset.proofs.{PartLists.each_append, PartLists.each_left, PartLists.each_right, PartLists.some_left, PartLists.some_right, ReductionLemmas.cover_trans, ReductionLemmas.leaves_each}

-- parts that aren't empty -------------------------------------------------------------------------------------------------

with_filled_more : {V R : Type 0} (rows : List R) (p : V) (qs : List V) → with_nonempty rows p qs ≡ with_nonempty rows p [] ++ qs
with_filled_more [] p qs = refl
with_filled_more (r ∷ rows) p qs = refl

pub with_filled_each : {V R : Type 0} (P : V → Type 0) (rows : List R) (p : V) → (rows ≢ [] → P p) → EachPart P (with_nonempty rows p [])
with_filled_each P [] p f = tt
with_filled_each P (r ∷ rows) p f = (f (λ e. cc), tt)

pub with_filled_some : {V R : Type 0} (P : V → Type 0) (rows : List R) (p : V) → rows ≢ [] → P p → SomePart P (with_nonempty rows p [])
with_filled_some P [] p n h = absurd (n refl)
with_filled_some P (r ∷ rows) p n h = inl h

pub with_filled_few : {V R : Type 0} (rows : List R) (p : V) → length (with_nonempty rows p []) ≤ 1
with_filled_few [] p = omega arith
with_filled_few (r ∷ rows) p = omega arith

pub with_filled_inside : {V R : Type 0} (C : V → V → Type 0) (old new : List R) (v q : V) → (new ≡ [] → old ≡ []) → C v q
    → PartsIncluded C (with_nonempty old v []) (with_nonempty new q [])
with_filled_inside C [] new v q f c = tt
with_filled_inside C (r ∷ old) [] v q f c = let e = f refl in let wrong : ⊥ = cc in absurd wrong
with_filled_inside C (r ∷ old) (s ∷ new) v q f c = (inl c, tt)

inside_both : {V : Type 0} (C : V → V → Type 0) (xs ys ps qs : List V) → PartsIncluded C xs ps → PartsIncluded C ys qs
    → PartsIncluded C (xs ++ ys) (ps ++ qs)
inside_both C xs ys ps qs a b = each_append (λ x. SomePart (C x) (ps ++ qs)) xs ys
    (each_map (λ x. SomePart (C x) ps) (λ x. SomePart (C x) (ps ++ qs)) (λ x h. some_left (C x) ps qs h) xs a)
    (each_map (λ x. SomePart (C x) qs) (λ x. SomePart (C x) (ps ++ qs)) (λ x h. some_right (C x) ps qs h) ys b)

-- one part more -----------------------------------------------------------------------------------------------------------

pub changed_none : {V H : Type 0} (m : Abstraction V H) (step : Action) → AreChanged m step [] Exact []
changed_none m step = record {
  changed = [];
  left = refl;
  keeps = tt;
  covers = none m step;
  exact = λ e. tt;
  flagged = λ e. let wrong : ⊥ = cc in absurd wrong;
  few = omega arith;
  fit = λ n d. tt;
}
  where
    none : {V H : Type 0} (m : Abstraction V H) (step : Action) (vs : List V) → PartByPart (m.transferred step) [] vs
        → PartsIncluded m.leq (nonempty_parts m vs) []
    none m step [] d = tt
    none m step (v ∷ vs) d = absurd d

more_covers : {V H : Type 0} (m : Abstraction V H) → BaseLaws m → (step : Action) (p q : V) (ps qs : List V) (one two : Exactness)
    → TransfersTo m step p one q → AreChanged m step ps two qs → (vs : List V) → PartByPart (m.transferred step) (p ∷ ps) vs
    → PartsIncluded m.leq (nonempty_parts m vs) (nonempty_parts m (q ∷ []) ++ qs)
more_covers m pl step p q ps qs one two a c [] d = absurd d
more_covers {V} m pl step p q ps qs one two a c (v ∷ vs) d =
    let covered = a.covers v d.0 in
    subst (λ (xs : List V). PartsIncluded m.leq xs (nonempty_parts m (q ∷ []) ++ qs)) (sym (with_filled_more (m.parts v) v (nonempty_parts m vs)))
    (inside_both m.leq (nonempty_parts m (v ∷ [])) (nonempty_parts m vs) (nonempty_parts m (q ∷ [])) qs
    (with_filled_inside m.leq (m.parts v) (m.parts q) v q (pl.partless_leq v q covered) covered) (c.covers vs d.1))

worse_flagged : (a b : Exactness) → worse a b ≡ Flagged → (a ≡ Flagged) ⊎ ((a ≡ Exact) × (b ≡ Flagged))
worse_flagged Exact b e = inr (refl, e)
worse_flagged Flagged b e = inl refl

more_flagged : {V H : Type 0} (m : Abstraction V H) (step : Action) (p q : V) (ps qs : List V) (one two : Exactness)
    → TransfersTo m step p one q → AreChanged m step ps two qs → (one ≡ Flagged) ⊎ ((one ≡ Exact) × (two ≡ Flagged))
    → m.strains step p ⊎ SomePart (m.strains step) ps
more_flagged m step p q ps qs one two a c (inl e) = inl (a.flagged e)
more_flagged m step p q ps qs one two a c (inr e) = inr (c.flagged e.1)

pub changed_more : {V H : Type 0} (m : Abstraction V H) → Laws m → BaseLaws m → (step : Action) (p q : V) (ps qs : List V)
    (one two : Exactness) → TransfersTo m step p one q → m.dims q ≡ dims_after step (m.dims p) → AreChanged m step ps two qs
    → AreChanged m step (p ∷ ps) (worse one two) (nonempty_parts m (q ∷ []) ++ qs)
changed_more {V} m l pl step p q ps qs one two a dims c = record {
  changed = q ∷ c.changed;
  left = ap (λ (xs : List V). nonempty_parts m (q ∷ []) ++ xs) c.left ∙ sym (with_filled_more (m.parts q) q (nonempty_parts m c.changed));
  keeps = (record { keeps = a.keeps; dims = dims; formed = a.formed }, c.keeps);
  covers = more_covers m pl step p q ps qs one two a c;
  exact = λ e. let both = exact_parts one two e in (a.exact both.0, c.exact both.1);
  flagged = λ e. more_flagged m step p q ps qs one two a c (worse_flagged one two e);
  few = omega (arith, c.few, with_filled_few (m.parts q) q, length-append (nonempty_parts m (q ∷ [])) qs);
  fit = λ n d. each_append (PartFits m (dims_after step n)) (nonempty_parts m (q ∷ [])) qs
      (with_filled_each (PartFits m (dims_after step n)) (m.parts q) q
      (λ full. record { formed = a.formed; dims = dims ∙ ap (dims_after step) d.0; full = full })) (c.fit n d.1);
}

-- the set -----------------------------------------------------------------------------------------------------------------

leaves_fewer : {V H : Type 0} (m : Abstraction V H) (before ps zs : List V) → ReducesAfter m before ps zs → length zs ≤ length ps
leaves_fewer {V} m before [] zs e = subst (λ (xs : List V). length xs ≤ 0) (sym e) (omega arith)
leaves_fewer m before (p ∷ ps) zs (inl a) = omega (arith, leaves_fewer m (before ++ p ∷ []) ps zs a.1)
leaves_fewer {V} m before (p ∷ ps) zs (inr (r, stays, e, rest)) =
    subst (λ (xs : List V). length xs ≤ suc (length ps)) (sym e) (omega (arith, leaves_fewer m (before ++ p ∷ []) ps r rest))

few_settle : {V H : Type 0} (m : Abstraction V H) (P : V → Type 0) (cap joins : ℕ) (ps zs : List V) → length ps ≤ cap
    → CollapsesTo m cap joins ps zs → EachPart P ps → EachPart P zs
few_settle m P cap zero ps zs few s each = leaves_each m P [] ps zs s.0 each
few_settle m P cap (suc n) ps zs few (left, next, red, over, two, more) each =
    let fewer = leaves_fewer m [] ps left red in
    let wrong : ⊥ = omega (arith, fewer) in absurd wrong

filled_fewer : {V H : Type 0} (m : Abstraction V H) (ps : List V) → length (nonempty_parts m ps) ≤ length ps
filled_fewer m [] = omega arith
filled_fewer {V} m (p ∷ ps) =
    let split : length (nonempty_parts m (p ∷ ps)) ≡ length (nonempty_parts m (p ∷ []) ++ nonempty_parts m ps) =
    ap length (with_filled_more (m.parts p) p (nonempty_parts m ps)) in
    omega (arith, filled_fewer m ps, with_filled_few (m.parts p) p, split, length-append (nonempty_parts m (p ∷ [])) (nonempty_parts m ps))

parts_same_length : {V : Type 0} (R : V → V → Type 0) (ps qs : List V) → PartByPart R ps qs → length qs ≡ length ps
parts_same_length R [] [] h = refl
parts_same_length R [] (q ∷ qs) h = absurd h
parts_same_length R (p ∷ ps) [] h = absurd h
parts_same_length R (p ∷ ps) (q ∷ qs) h = ap suc (parts_same_length R ps qs h.1)

set_covers : {V H : Type 0} (m : Abstraction V H) → BaseLaws m → (step : Action) (n : ℕ) (old : SetContent V) (one two : Exactness)
    (qs rs : List V) → length old.parts ≤ old.cap → AreChanged m step old.parts one qs → IsCollapsed m n old.cap qs two rs
    → (v : SetContent V) → SetTransferred m step old v → PartsIncluded m.leq v.parts rs
set_covers m pl step n old one two qs rs few c s v d =
    let same = parts_same_length (m.transferred step) old.parts d.changed d.done in
    let fewer = filled_fewer m d.changed in
    few_settle m (λ z. SomePart (m.leq z) rs) old.cap d.joins (nonempty_parts m d.changed) v.parts (omega (arith, same, fewer)) d.settled
    (cover_trans m pl (nonempty_parts m d.changed) qs rs (c.covers d.changed d.done) s.parts)

set_flagged : {V H : Type 0} (m : Abstraction V H) (step : Action) (n : ℕ) (old : SetContent V) (one two : Exactness) (qs rs : List V)
    → AreChanged m step old.parts one qs → IsCollapsed m n old.cap qs two rs
    → (one ≡ Flagged) ⊎ ((one ≡ Exact) × (two ≡ Flagged)) → SetStrains m step old
set_flagged m step n old one two qs rs c s (inl e) = inl (c.flagged e)
set_flagged {V} m step n old one two qs rs c s (inr e) =
    let more = s.flagged e.1 in
    inr (c.changed, more.0, c.exact e.0, subst (λ (xs : List V). CollapseStrains m old.cap more.0 xs) c.left more.1)

set_exact : {V H : Type 0} (m : Abstraction V H) (step : Action) (n : ℕ) (old new : SetContent V) (one two : Exactness) (qs : List V)
    → new.dims ≡ dims_after step old.dims → new.cap ≡ old.cap
    → AreChanged m step old.parts one qs → IsCollapsed m n old.cap qs two new.parts → (one ≡ Exact) × (two ≡ Exact)
    → SetTransferred m step old new
set_exact {V} m step n old new one two qs dims cap c s e =
    let more = s.exact e.1 in record {
      dims = dims;
      cap = cap;
      changed = c.changed;
      done = c.exact e.0;
      joins = more.0;
      settled = subst (λ (xs : List V). CollapsesTo m old.cap more.0 xs new.parts) c.left more.1;
    }

-- a set whose parts were changed, reduced and kept within its cap
pub set_meets : {V H : Type 0} (m : Abstraction V H) → Laws m → BaseLaws m → (step : Action) (old new : SetContent V)
    (one two : Exactness) (qs : List V) → new.dims ≡ dims_after step old.dims → new.cap ≡ old.cap
    → length old.parts ≤ old.cap → HaveDims m old.dims old.parts → AreChanged m step old.parts one qs
    → IsCollapsed m (dims_after step old.dims) old.cap qs two new.parts
    → TransfersTo (set_abstraction m) step old (worse one two) new
set_meets {V} m l pl step old new one two qs dims cap few alike c s = record {
  formed = (
    subst (λ (n : ℕ). EachPart (PartFits m n) new.parts) (sym dims) s.fit,
    subst (λ (k : ℕ). length new.parts ≤ k) (sym cap) s.few,
  );
  keeps = record {
    dims = dims;
    changed = c.changed;
    kept = c.keeps;
    covered = subst (λ (xs : List V). PartsIncluded m.leq xs new.parts) c.left s.parts;
  };
  covers = λ v d. (d.dims ∙ sym dims, set_covers m pl step (dims_after step old.dims) old one two qs new.parts few c s v d);
  exact = λ e. set_exact m step (dims_after step old.dims) old new one two qs dims cap c s (exact_parts one two e);
  flagged = λ e. set_flagged m step (dims_after step old.dims) old one two qs new.parts c s (worse_flagged one two e);
}

-- the join of two sets
pub set_joins : {V H : Type 0} (m : Abstraction V H) (one two new : SetContent V) (e : Exactness) → one.dims ≡ two.dims
    → new.dims ≡ one.dims → new.cap ≡ one.cap → IsCollapsed m one.dims one.cap (one.parts ++ two.parts) e new.parts
    → Joins (set_abstraction m) one two e new
set_joins m one two new e same dims cap s = record {
  formed = (
    subst (λ (n : ℕ). EachPart (PartFits m n) new.parts) (sym dims) s.fit,
    subst (λ (k : ℕ). length new.parts ≤ k) (sym cap) s.few,
  );
  left = (sym dims, each_left (λ p. SomePart (m.leq p) new.parts) one.parts two.parts s.parts);
  right = (sym same ∙ sym dims, each_right (λ p. SomePart (m.leq p) new.parts) one.parts two.parts s.parts);
  covers = λ v d. (d.dims ∙ sym dims, s.covers d.joins v.parts d.settled);
  exact = λ x. let k = s.exact x in record { dims = dims; cap = cap; joins = k.0; settled = k.1 };
  flagged = λ x. s.flagged x;
}

-- parts that are appended -------------------------------------------------------------------------------------------------

-- what is after the old list are parts that were changed
abbrev pub Appended : {V H : Type 0} → Abstraction V H → Action → List V → List V → Exactness → List V → Type 0
Appended {V} m step old ps e new = (qs : List V) × (new ≡ old ++ qs) × AreChanged m step ps e qs

pub append_none : {V H : Type 0} (m : Abstraction V H) (step : Action) (old ps : List V) → ps ≡ []
    → Appended m step old ps Exact old
append_none {V} m step old ps e = (
  [],
  sym (append-nil old),
  subst (λ (xs : List V). AreChanged m step xs Exact []) (sym e) (changed_none m step),
)

pub append_more : {V H : Type 0} (m : Abstraction V H) → Laws m → BaseLaws m → (step : Action) (old ps : List V) (p : V)
    (later : List V) (one : Exactness) (mid : List V) (two : Exactness) (new : List V)
    → ps ≡ p ∷ later → IsAppended m step p one old mid → Appended m step mid later two new
    → Appended m step old ps (worse one two) new
append_more {V} m l pl step old ps p later one mid two new cut a (qs, ends, c) = (
  nonempty_parts m (a.part ∷ []) ++ qs,
  ends ∙ ap (λ (xs : List V). xs ++ qs) a.appended ∙ append_assoc old (nonempty_parts m (a.part ∷ [])) qs,
  subst (λ (xs : List V). AreChanged m step xs (worse one two) (nonempty_parts m (a.part ∷ []) ++ qs)) (sym cut)
      (changed_more m l pl step p a.part later qs one two a.meets a.dims c),
)

pub one_appended : {V H : Type 0} (m : Abstraction V H) (step : Action) (p copied q : V) (e : Exactness) (before after : List V)
    → copied ≡ p → TransfersTo m step copied e q → m.dims q ≡ dims_after step (m.dims copied)
    → after ≡ before ++ nonempty_parts m (q ∷ []) → IsAppended m step p e before after
one_appended {V} m step p copied q e before after same a dims is = record {
  part = q;
  meets = subst (λ (x : V). TransfersTo m step x e q) same a;
  dims = dims ∙ ap (λ (x : V). dims_after step (m.dims x)) same;
  appended = is;
}
