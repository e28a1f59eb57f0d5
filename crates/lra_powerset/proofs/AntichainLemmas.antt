-- Lemmas on parts of which none lies in another: what a reduction leaves, and a reduction in which only the last is new.
use Rattle.std.proofs.Common.{◌≡◌, ◌⊎◌, ℕ, List, [], ◌∷◌, ◌++◌, refl, ap, sym, subst, ◌∙◌, inl, inr, append_assoc, append-nil}
use Rattle.lra_domain.specs.declared.Included.TheVariants.{Yes, No, Wide}
use Rattle.lra_domain.specs.{Abstraction.Abstraction, declared.Exactness.TheVariants.Exact, declared.Included.Included}
use Rattle.lra_powerset.specs.Outcomes.{AnswerDropped, HaveDims, IsReduced, CollapsesOnce, AnswersWhether, all_decided, kept}
use Rattle.lra_powerset.specs.{Antichains.IsAntichain, Antichains.PrefixIsAntichain, ListLemmas.each_map, ListLemmas.some_of_each, Lists.EachPart, Lists.SomePart, Reduction.BelowStrains}
use Rattle.lra_powerset.specs.{Reduction.IsDropped, Reduction.DropStrains, Values.IsUndecided, declared.joins.Collapsing.TheVariants.Further}
use Rattle.lra_powerset.proofs.PartLists.{each_append, each_left, each_right, some_left, some_right}

-- what a reduction leaves ---------------------------------------------------------------------------------------------------

each_not : {V : Type 0} (P : V → Type 0) (qs : List V) → ¬ SomePart P qs → EachPart (λ q. ¬ P q) qs
each_not P [] n = tt
each_not P (q ∷ qs) n = (λ h. n (inl h), each_not P qs (λ h. n (inr h)))

-- a part that stays, and those after it that stay
kept_from : {V H : Type 0} (m : Abstraction V H) (before : List V) (p : V) (ps : List V) (is : List Included)
    → AnswerDropped m before ps is → all_decided is ≡ Exact → ((x : V) → m.included x p → SomePart (m.included x) before)
    → EachPart (λ q. ¬ (m.included p q × ¬ m.included q p)) ps
    → EachPart (λ q. (¬ m.included p q) × (¬ m.included q p)) (kept ps is)
kept_from m before p [] [] told e at below = tt
kept_from m before p [] (i ∷ is) told e at below = absurd told
kept_from m before p (q ∷ ps) [] told e at below = absurd told
kept_from m before p (q ∷ ps) (Yes ∷ is) told e at below =
    kept_from m (before ++ q ∷ []) p ps is told.1 e (λ x i. some_left (m.included x) before (q ∷ []) (at x i)) below.1
kept_from m before p (q ∷ ps) (No ∷ is) told e at below =
    let out : ¬ m.included q p = λ i. told.0 (inl (at q i)) in (
      (λ i. below.0 (i, out), out),
      kept_from m (before ++ q ∷ []) p ps is told.1 e (λ x i. some_left (m.included x) before (q ∷ []) (at x i)) below.1,
    )
kept_from m before p (q ∷ ps) (Wide ∷ is) told e at below = let wrong : ⊥ = cc in absurd wrong

kept_apart : {V H : Type 0} (m : Abstraction V H) (before ps : List V) (is : List Included) → AnswerDropped m before ps is
    → all_decided is ≡ Exact → IsAntichain m (kept ps is)
kept_apart m before [] [] told e = tt
kept_apart m before [] (i ∷ is) told e = absurd told
kept_apart m before (p ∷ ps) [] told e = absurd told
kept_apart m before (p ∷ ps) (Yes ∷ is) told e = kept_apart m (before ++ p ∷ []) ps is told.1 e
kept_apart m before (p ∷ ps) (No ∷ is) told e = (
  kept_from m (before ++ p ∷ []) p ps is told.1 e (λ x i. some_right (m.included x) before (p ∷ []) (inl i))
      (each_not (λ q. m.included p q × ¬ m.included q p) ps (λ some. told.0 (inr some))),
  kept_apart m (before ++ p ∷ []) ps is told.1 e,
)
kept_apart m before (p ∷ ps) (Wide ∷ is) told e = let wrong : ⊥ = cc in absurd wrong

reduced_apart : {V H : Type 0} (m : Abstraction V H) (ps qs : List V) → IsReduced m ps Exact qs → IsAntichain m qs
reduced_apart {V} m ps qs r = subst (λ (xs : List V). IsAntichain m xs) (sym r.left)
    (kept_apart m [] ps r.answers r.told (sym r.exactness))

apart_left : {V H : Type 0} (m : Abstraction V H) (ps qs : List V) → IsAntichain m (ps ++ qs) → IsAntichain m ps
apart_left m [] qs a = tt
apart_left m (p ∷ ps) qs a = (each_left (λ q. (¬ m.included p q) × (¬ m.included q p)) ps qs a.0, apart_left m ps qs a.1)

-- after a join only the last part is new
pub further_apart : {V H : Type 0} (m : Abstraction V H) (cap : ℕ) (ps qs : List V) → CollapsesOnce m cap ps Further qs
    → PrefixIsAntichain m qs
further_apart {V} m cap ps qs (left, r, over, t) = record {
  front = t.front;
  last = t.both;
  all = t.new;
  apart = apart_left m t.front (t.one ∷ []) (apart_left m (t.front ++ t.one ∷ []) (t.two ∷ [])
      (subst (λ (xs : List V). IsAntichain m xs) t.old (reduced_apart m ps left r)));
}

-- what is reported if only the last is new ----------------------------------------------------------------------------

apart_before : {V H : Type 0} (m : Abstraction V H) (before : List V) (p : V) (behind : List V)
    → IsAntichain m (before ++ p ∷ behind) → EachPart (λ b. ¬ m.included p b) before
apart_before m [] p behind a = tt
apart_before m (b ∷ before) p behind a = (
  (each_right (λ q. (¬ m.included b q) × (¬ m.included q b)) before (p ∷ behind) a.0).0.1,
  apart_before m before p behind a.1,
)

apart_behind : {V H : Type 0} (m : Abstraction V H) (before : List V) (p : V) (behind : List V)
    → IsAntichain m (before ++ p ∷ behind) → EachPart (λ q. ¬ (m.included p q × ¬ m.included q p)) behind
apart_behind m [] p behind a = each_map (λ q. (¬ m.included p q) × (¬ m.included q p)) (λ q. ¬ (m.included p q × ¬ m.included q p))
    (λ q n h. n.0 h.0) behind a.0
apart_behind m (b ∷ before) p behind a = apart_behind m before p behind a.1

-- a part goes if it lies below the last
told_before : {V H : Type 0} (m : Abstraction V H) (before : List V) (p : V) (behind : List V) (last : V) (i : Included)
    → IsAntichain m (before ++ p ∷ behind)
    → AnswersWhether (m.included p last × ¬ m.included last p) (BelowStrains m p last) i
    → AnswersWhether (IsDropped m before p (behind ++ last ∷ [])) (DropStrains m before p (behind ++ last ∷ [])) i
told_before m before p behind last Yes a t = inr (some_right (λ q. m.included p q × ¬ m.included q p) behind (last ∷ []) (inl t))
told_before m before p behind last No a t = goes_not
    (some_of_each (λ b. ¬ m.included p b) (m.included p) ⊥ (λ b n h. n h) before (apart_before m before p behind a))
    (some_of_each (λ q. ¬ (m.included p q × ¬ m.included q p)) (λ q. m.included p q × ¬ m.included q p) ⊥ (λ q n h. n h)
    (behind ++ last ∷ []) (each_append (λ q. ¬ (m.included p q × ¬ m.included q p)) behind (last ∷ [])
    (apart_behind m before p behind a) (t, tt)))
  where
    goes_not : {A B : Type 0} → (A → ⊥) → (B → ⊥) → A ⊎ B → ⊥
    goes_not na nb (inl h) = na h
    goes_not na nb (inr h) = nb h
told_before m before p behind last Wide a t = (
  inr (some_right (BelowStrains m p) behind (last ∷ []) (inl t)),
  each_map (λ b. ¬ m.included p b) (λ b. m.inclusion_strains p b ⊎ ¬ m.included p b) (λ b n. inr n) before
      (apart_before m before p behind a),
  each_append (λ q. BelowStrains m p q ⊎ ¬ (m.included p q × ¬ m.included q p)) behind (last ∷ [])
      (each_map (λ q. ¬ (m.included p q × ¬ m.included q p)) (λ q. BelowStrains m p q ⊎ ¬ (m.included p q × ¬ m.included q p))
      (λ q n. inr n) behind (apart_behind m before p behind a)) (inl t, tt),
)

-- the last goes if it lies in one before it
told_at_last : {V H : Type 0} (m : Abstraction V H) (front : List V) (last : V) (i : Included)
    → AnswersWhether (SomePart (m.included last) front) (IsUndecided m front last) i
    → AnswersWhether (IsDropped m front last []) (DropStrains m front last []) i
told_at_last m front last Yes t = inl t
told_at_last m front last No t = only t
  where
    only : {A : Type 0} → (A → ⊥) → A ⊎ ⊥ → ⊥
    only n (inl h) = n h
    only n (inr h) = h
told_at_last m front last Wide t = (inl t.0, t.1, tt)

-- what was reported about the parts before the rest, and what will be reported of the rest and the last, is reported of
-- all
pub record LastLoop {V H : Type 0} (m : Abstraction V H) (front rest : List V) (last : V) (told : List Included) : Type 0 where
  pub before : List V
  pub cut : front ≡ before ++ rest
  pub more : (is : List Included) → AnswerDropped m before (rest ++ last ∷ []) is → AnswerDropped m [] (front ++ last ∷ []) (told ++ is)

pub last_starts : {V H : Type 0} (m : Abstraction V H) (front : List V) (last : V) → LastLoop m front front last []
last_starts m front last = record { before = []; cut = refl; more = λ is t. t }

pub last_next : {V H : Type 0} (m : Abstraction V H) (front rest behind : List V) (p last : V) (told : List Included) (i : Included)
    → LastLoop m front rest last told → rest ≡ p ∷ behind → IsAntichain m front
    → AnswersWhether (m.included p last × ¬ m.included last p) (BelowStrains m p last) i
    → LastLoop m front behind last (told ++ i ∷ [])
last_next {V} m front rest behind p last told i l e a t =
    let here : front ≡ l.before ++ p ∷ behind = l.cut ∙ ap (λ (xs : List V). l.before ++ xs) e in
    let one = told_before m l.before p behind last i (subst (λ (xs : List V). IsAntichain m xs) here a) t in
    record {
      before = l.before ++ p ∷ [];
      cut = here ∙ sym (append_assoc l.before (p ∷ []) behind);
      more = λ is later. subst (λ (js : List Included). AnswerDropped m [] (front ++ last ∷ []) js)
          (sym (append_assoc told (i ∷ []) is)) (l.more (i ∷ is)
          (subst (λ (xs : List V). AnswerDropped m l.before (xs ++ last ∷ []) (i ∷ is)) (sym e) (one, later)));
    }

pub last_ends : {V H : Type 0} (m : Abstraction V H) (front rest : List V) (last : V) (told : List Included) (i : Included)
    → LastLoop m front rest last told → rest ≡ [] → AnswersWhether (SomePart (m.included last) front) (IsUndecided m front last) i
    → AnswerDropped m [] (front ++ last ∷ []) (told ++ i ∷ [])
last_ends {V} m front rest last told i l e t =
    let whole : front ≡ l.before = l.cut ∙ ap (λ (xs : List V). l.before ++ xs) e ∙ append-nil l.before in
    let at = told_at_last m l.before last i
    (subst (λ (xs : List V). AnswersWhether (SomePart (m.included last) xs) (IsUndecided m xs last) i) whole t) in
    l.more (i ∷ []) (subst (λ (xs : List V). AnswerDropped m l.before (xs ++ last ∷ []) (i ∷ [])) (sym e) (at, tt))

-- a part of the prefix has the dimensions of each
pub last_alike : {V H : Type 0} (m : Abstraction V H) (n : ℕ) (front rest behind : List V) (p last : V) (told : List Included)
    → LastLoop m front rest last told → rest ≡ p ∷ behind → HaveDims m n front → m.dims p ≡ n
last_alike {V} m n front rest behind p last told l e dims = (each_right (λ q. m.dims q ≡ n) l.before (p ∷ behind)
    (subst (λ (xs : List V). HaveDims m n xs) (l.cut ∙ ap (λ (xs : List V). l.before ++ xs) e) dims)).0
