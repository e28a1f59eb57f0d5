-- Lemmas on answers and reductions.
use Rattle.std.proofs.Common.{◌≡◌, ◌⊎◌, suc, ◌≤◌, List, [], ◌∷◌, ◌++◌, length, refl, sym, subst, ◌∙◌, inl, inr, arith, append_assoc}
use Rattle.lra_domain.specs.{Abstraction.Abstraction, Laws.BaseLaws, declared.Exactness.Exactness, declared.Exactness.TheVariants.Exact, declared.Exactness.TheVariants.Flagged}
use Rattle.lra_domain.specs.{declared.Included.Included, declared.Included.TheVariants.Yes, declared.Included.TheVariants.No, declared.Included.TheVariants.Wide}
use Rattle.lra_powerset.specs.Outcomes.{AnswersWhether, either, all_decided, AnswerDropped, kept, IsReduced}
use Rattle.lra_powerset.specs.Reduction.{IsDropped, ReducesAfter, ReducesAfterStrains, Reduces, ReduceStrains}
use Rattle.lra_powerset.specs.{ListLemmas.each_map, ListLemmas.some_map, ListLemmas.some_of_each, Lists.EachPart, Lists.SomePart, Values.PartsIncluded}
use Rattle.lra_powerset.proofs.PartLists.{each_append, some_left, some_right}

-- answers -----------------------------------------------------------------------------------------------------------------

none_of : {A B : Type 0} → ¬ A → ¬ B → ¬ (A ⊎ B)
none_of na nb (inl a) = na a
none_of na nb (inr b) = nb b

pub told_either : (A B S T : Type 0) (i j : Included) → AnswersWhether A S i → AnswersWhether B T j → AnswersWhether (A ⊎ B) (S ⊎ T) (either i j)
told_either A B S T Yes j a b = inl a
told_either A B S T No Yes a b = inr b
told_either A B S T No No a b = none_of a b
told_either A B S T No Wide a b = inr b
told_either A B S T Wide Yes a b = inr b
told_either A B S T Wide No a b = inl a
told_either A B S T Wide Wide a b = inl a

-- what covers what --------------------------------------------------------------------------------------------------------

pub inside_trans : {V H : Type 0} (m : Abstraction V H) → BaseLaws m → (a b c : V) → m.included a b → m.included b c → m.included a c
inside_trans m pl a b c i j =
    (pl.included_leq a c).1 (pl.leq_transitive a b c ((pl.included_leq a b).0 i) ((pl.included_leq b c).0 j))

pub cover_trans : {V H : Type 0} (m : Abstraction V H) → BaseLaws m → (ps qs rs : List V) → PartsIncluded m.leq ps qs
    → PartsIncluded m.leq qs rs → PartsIncluded m.leq ps rs
cover_trans m pl ps qs rs c d = each_map (λ p. SomePart (m.leq p) qs) (λ p. SomePart (m.leq p) rs)
    (λ p some. some_of_each (λ q. SomePart (m.leq q) rs) (m.leq p) (SomePart (m.leq p) rs)
    (λ q more pq. some_map (m.leq q) (m.leq p) (λ r qr. pl.leq_transitive p q r pq qr) rs more) qs d some) ps c

-- the part lies in what stays so far, or below one that comes after
abbrev Holds : {V H : Type 0} → Abstraction V H → List V → List V → V → Type 0
Holds m front rest x = SomePart (m.leq x) front ⊎ SomePart (λ q. m.included x q × ¬ m.included q x) rest

below_behind : {V H : Type 0} (m : Abstraction V H) → BaseLaws m → (rest : List V) (x y : V) → m.included x y
    → SomePart (λ q. m.included y q × ¬ m.included q y) rest → SomePart (λ q. m.included x q × ¬ m.included q x) rest
below_behind m pl rest x y xy some = some_map (λ q. m.included y q × ¬ m.included q y) (λ q. m.included x q × ¬ m.included q x)
    (λ q b. (inside_trans m pl x y q xy b.0, λ qx. b.1 (inside_trans m pl q x y qx xy))) rest some

held_by : {V H : Type 0} (m : Abstraction V H) → BaseLaws m → (front rest : List V) (p x y : V) → m.included x y → m.included p y
    → Holds m front (p ∷ rest) y → Holds m front rest x
held_by m pl front rest p x y xy py (inl c) =
    inl (some_map (m.leq y) (m.leq x) (λ q d. pl.leq_transitive x y q ((pl.included_leq x y).0 xy) d) front c)
held_by m pl front rest p x y xy py (inr (inl b)) = absurd (b.1 py)
held_by m pl front rest p x y xy py (inr (inr some)) = inr (below_behind m pl rest x y xy some)

-- what lies in a part that goes
below_goes : {V H : Type 0} (m : Abstraction V H) → BaseLaws m → (front rest before : List V) (p x : V) → m.included x p
    → EachPart (Holds m front (p ∷ rest)) before → IsDropped m before p rest → Holds m front rest x
below_goes m pl front rest before p x xp held (inl some) =
    some_of_each (Holds m front (p ∷ rest)) (m.included p) (Holds m front rest x)
    (λ y hold py. held_by m pl front rest p x y (inside_trans m pl x p y xp py) py hold) before held some
below_goes m pl front rest before p x xp held (inr some) = inr (below_behind m pl rest x p xp some)

still_held : {V H : Type 0} (m : Abstraction V H) → BaseLaws m → (front rest before : List V) (p : V)
    → EachPart (Holds m front (p ∷ rest)) before → IsDropped m before p rest
    → (x : V) → Holds m front (p ∷ rest) x → Holds m front rest x
still_held m pl front rest before p held g x (inl c) = inl c
still_held m pl front rest before p held g x (inr (inl b)) = below_goes m pl front rest before p x b.0 held g
still_held m pl front rest before p held g x (inr (inr some)) = inr some

held_goes : {V H : Type 0} (m : Abstraction V H) → BaseLaws m → (front rest before : List V) (p : V)
    → EachPart (Holds m front (p ∷ rest)) before → IsDropped m before p rest → EachPart (Holds m front rest) (before ++ p ∷ [])
held_goes m pl front rest before p held g = each_append (Holds m front rest) before (p ∷ [])
    (each_map (Holds m front (p ∷ rest)) (Holds m front rest) (still_held m pl front rest before p held g) before held)
    (below_goes m pl front rest before p p ((pl.included_leq p p).1 (pl.leq_reflexive p)) held g, tt)

also_held : {V H : Type 0} (m : Abstraction V H) → BaseLaws m → (front rest : List V) (p x : V)
    → Holds m front (p ∷ rest) x → Holds m (front ++ p ∷ []) rest x
also_held m pl front rest p x (inl c) = inl (some_left (m.leq x) front (p ∷ []) c)
also_held m pl front rest p x (inr (inl b)) =
    inl (some_right (m.leq x) front (p ∷ []) (inl ((pl.included_leq x p).0 b.0)))
also_held m pl front rest p x (inr (inr some)) = inr some

held_stays : {V H : Type 0} (m : Abstraction V H) → BaseLaws m → (front rest before : List V) (p : V)
    → EachPart (Holds m front (p ∷ rest)) before → EachPart (Holds m (front ++ p ∷ []) rest) (before ++ p ∷ [])
held_stays m pl front rest before p held = each_append (Holds m (front ++ p ∷ []) rest) before (p ∷ [])
    (each_map (Holds m front (p ∷ rest)) (Holds m (front ++ p ∷ []) rest) (also_held m pl front rest p) before held)
    (inl (some_right (m.leq p) front (p ∷ []) (inl (pl.leq_reflexive p))), tt)

abbrev CoveredBy : {V H : Type 0} → Abstraction V H → List V → List V → Type 0
CoveredBy m qs ps = EachPart (λ p. SomePart (m.leq p) qs) ps

held_last : {V H : Type 0} (m : Abstraction V H) (front : List V) (x : V) → Holds m front [] x → SomePart (m.leq x) (front ++ [])
held_last m front x (inl c) = some_left (m.leq x) front [] c
held_last m front x (inr none) = absurd none

kept_covers : {V H : Type 0} (m : Abstraction V H) → BaseLaws m → (front before ps : List V) (is : List Included)
    → AnswerDropped m before ps is → EachPart (Holds m front ps) before → CoveredBy m (front ++ kept ps is) (before ++ ps)
kept_covers m pl front before [] [] told held = each_append (λ p. SomePart (m.leq p) (front ++ [])) before []
    (each_map (Holds m front []) (λ p. SomePart (m.leq p) (front ++ [])) (held_last m front) before held) tt
kept_covers m pl front before [] (i ∷ is) told held = absurd told
kept_covers m pl front before (p ∷ ps) [] told held = absurd told
kept_covers {V} m pl front before (p ∷ ps) (Yes ∷ is) told held =
    subst (λ (xs : List V). CoveredBy m (front ++ kept ps is) xs) (append_assoc before (p ∷ []) ps)
    (kept_covers m pl front (before ++ p ∷ []) ps is told.1 (held_goes m pl front ps before p held told.0))
kept_covers {V} m pl front before (p ∷ ps) (No ∷ is) told held =
    subst (λ (xs : List V). CoveredBy m (front ++ p ∷ kept ps is) xs) (append_assoc before (p ∷ []) ps)
    (subst (λ (ys : List V). CoveredBy m ys ((before ++ p ∷ []) ++ ps)) (append_assoc front (p ∷ []) (kept ps is))
    (kept_covers m pl (front ++ p ∷ []) (before ++ p ∷ []) ps is told.1 (held_stays m pl front ps before p held)))
kept_covers {V} m pl front before (p ∷ ps) (Wide ∷ is) told held =
    subst (λ (xs : List V). CoveredBy m (front ++ p ∷ kept ps is) xs) (append_assoc before (p ∷ []) ps)
    (subst (λ (ys : List V). CoveredBy m ys ((before ++ p ∷ []) ++ ps)) (append_assoc front (p ∷ []) (kept ps is))
    (kept_covers m pl (front ++ p ∷ []) (before ++ p ∷ []) ps is told.1 (held_stays m pl front ps before p held)))

-- a reduction covers all parts
pub reduced_covers : {V H : Type 0} (m : Abstraction V H) → BaseLaws m → (ps : List V) (e : Exactness) (qs : List V)
    → IsReduced m ps e qs → PartsIncluded m.leq ps qs
reduced_covers {V} m pl ps e qs r = subst (λ (xs : List V). CoveredBy m xs ps) (sym r.left)
    (kept_covers m pl [] [] ps r.answers r.told tt)

-- what is defined ---------------------------------------------------------------------------------------------------------

kept_leaves : {V H : Type 0} (m : Abstraction V H) (before ps : List V) (is : List Included) → AnswerDropped m before ps is
    → all_decided is ≡ Exact → ReducesAfter m before ps (kept ps is)
kept_leaves m before [] [] told e = refl
kept_leaves m before [] (i ∷ is) told e = absurd told
kept_leaves m before (p ∷ ps) [] told e = absurd told
kept_leaves m before (p ∷ ps) (Yes ∷ is) told e = inl (told.0, kept_leaves m (before ++ p ∷ []) ps is told.1 e)
kept_leaves m before (p ∷ ps) (No ∷ is) told e =
    inr (kept ps is, told.0, refl, kept_leaves m (before ++ p ∷ []) ps is told.1 e)
kept_leaves m before (p ∷ ps) (Wide ∷ is) told e = let wrong : ⊥ = cc in absurd wrong

kept_strains : {V H : Type 0} (m : Abstraction V H) (before ps : List V) (is : List Included) → AnswerDropped m before ps is
    → all_decided is ≡ Flagged → ReducesAfterStrains m before ps
kept_strains m before [] [] told e = let wrong : ⊥ = cc in absurd wrong
kept_strains m before [] (i ∷ is) told e = absurd told
kept_strains m before (p ∷ ps) [] told e = absurd told
kept_strains m before (p ∷ ps) (Yes ∷ is) told e = inr (kept_strains m (before ++ p ∷ []) ps is told.1 e)
kept_strains m before (p ∷ ps) (No ∷ is) told e = inr (kept_strains m (before ++ p ∷ []) ps is told.1 e)
kept_strains m before (p ∷ ps) (Wide ∷ is) told e = inl told.0

pub reduced_exact : {V H : Type 0} (m : Abstraction V H) (ps : List V) (e : Exactness) (qs : List V) → IsReduced m ps e qs
    → e ≡ Exact → Reduces m ps qs
reduced_exact {V} m ps e qs r x = subst (λ (xs : List V). ReducesAfter m [] ps xs) (sym r.left)
    (kept_leaves m [] ps r.answers r.told (sym r.exactness ∙ x))

pub reduced_strains : {V H : Type 0} (m : Abstraction V H) (ps : List V) (e : Exactness) (qs : List V) → IsReduced m ps e qs
    → e ≡ Flagged → ReduceStrains m ps
reduced_strains m ps e qs r x = kept_strains m [] ps r.answers r.told (sym r.exactness ∙ x)

-- lists that are left -----------------------------------------------------------------------------------------------------

pub leaves_each : {V H : Type 0} (m : Abstraction V H) (P : V → Type 0) (before ps zs : List V) → ReducesAfter m before ps zs
    → EachPart P ps → EachPart P zs
leaves_each {V} m P before [] zs e each = subst (λ (xs : List V). EachPart P xs) (sym e) tt
leaves_each m P before (p ∷ ps) zs (inl a) each = leaves_each m P (before ++ p ∷ []) ps zs a.1 each.1
leaves_each {V} m P before (p ∷ ps) zs (inr (r, stays, e, rest)) each =
    subst (λ (xs : List V). EachPart P xs) (sym e) (each.0, leaves_each m P (before ++ p ∷ []) ps r rest each.1)

-- what is kept is no less than what is left
kept_more : {V H : Type 0} (m : Abstraction V H) (before ps zs : List V) (is : List Included) → AnswerDropped m before ps is
    → ReducesAfter m before ps zs → length zs ≤ length (kept ps is)
kept_more {V} m before [] zs [] told e = subst (λ (xs : List V). length xs ≤ 0) (sym e) (omega arith)
kept_more m before [] zs (i ∷ is) told e = absurd told
kept_more m before (p ∷ ps) zs [] told a = absurd told
kept_more m before (p ∷ ps) zs (Yes ∷ is) told (inl a) = kept_more m (before ++ p ∷ []) ps zs is told.1 a.1
kept_more m before (p ∷ ps) zs (Yes ∷ is) told (inr (r, stays, e, rest)) = absurd (stays told.0)
kept_more m before (p ∷ ps) zs (No ∷ is) told (inl a) = absurd (told.0 a.0)
kept_more {V} m before (p ∷ ps) zs (No ∷ is) told (inr (r, stays, e, rest)) =
    let more = kept_more m (before ++ p ∷ []) ps r is told.1 rest in
    subst (λ (xs : List V). length xs ≤ suc (length (kept ps is))) (sym e) (omega (arith, more))
kept_more m before (p ∷ ps) zs (Wide ∷ is) told (inl a) =
    let more = kept_more m (before ++ p ∷ []) ps zs is told.1 a.1 in omega (arith, more)
kept_more {V} m before (p ∷ ps) zs (Wide ∷ is) told (inr (r, stays, e, rest)) =
    let more = kept_more m (before ++ p ∷ []) ps r is told.1 rest in
    subst (λ (xs : List V). length xs ≤ suc (length (kept ps is))) (sym e) (omega (arith, more))

pub reduced_more : {V H : Type 0} (m : Abstraction V H) (ps : List V) (e : Exactness) (qs zs : List V) → IsReduced m ps e qs
    → Reduces m ps zs → length zs ≤ length qs
reduced_more {V} m ps e qs zs r left = subst (λ (xs : List V). length zs ≤ length xs) (sym r.left)
    (kept_more m [] ps zs r.answers r.told left)

pub kept_each : {V : Type 0} (P : V → Type 0) (ps : List V) (is : List Included) → EachPart P ps → EachPart P (kept ps is)
kept_each P [] is each = tt
kept_each P (p ∷ ps) [] each = each
kept_each P (p ∷ ps) (Yes ∷ is) each = kept_each P ps is each.1
kept_each P (p ∷ ps) (No ∷ is) each = (each.0, kept_each P ps is each.1)
kept_each P (p ∷ ps) (Wide ∷ is) each = (each.0, kept_each P ps is each.1)

pub kept_fewer : {V : Type 0} (ps : List V) (is : List Included) → length (kept ps is) ≤ length ps
kept_fewer [] is = omega arith
kept_fewer (p ∷ ps) [] = omega arith
kept_fewer (p ∷ ps) (Yes ∷ is) = omega (arith, kept_fewer ps is)
kept_fewer (p ∷ ps) (No ∷ is) = omega (arith, kept_fewer ps is)
kept_fewer (p ∷ ps) (Wide ∷ is) = omega (arith, kept_fewer ps is)

pub reduced_each : {V H : Type 0} (m : Abstraction V H) (P : V → Type 0) (ps : List V) (e : Exactness) (qs : List V)
    → IsReduced m ps e qs → EachPart P ps → EachPart P qs
reduced_each {V} m P ps e qs r each = subst (λ (xs : List V). EachPart P xs) (sym r.left) (kept_each P ps r.answers each)

pub reduced_fewer : {V H : Type 0} (m : Abstraction V H) (ps : List V) (e : Exactness) (qs : List V) → IsReduced m ps e qs
    → length qs ≤ length ps
reduced_fewer {V} m ps e qs r = subst (λ (xs : List V). length xs ≤ length ps) (sym r.left) (kept_fewer ps r.answers)
