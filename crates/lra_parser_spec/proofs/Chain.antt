-- Chains, items with operators between them; and lists, items one after the other.
use Rattle.std.proofs.Common.{◌≡◌, ℕ, Bool, true, false, List, [], ◌∷◌, ◌++◌, Option, Some, None, refl, sym, ap, subst, ◌∙◌, append_assoc}
use Rattle.std.proofs.lemmas.List.{append-nil}
use Rattle.lra_base.specs.declared.refusals.Place.{Place}
use Rattle.lra_syntax.specs.{Texts.Pieces, Texts.Texts, Texts.◌⋅◌, Texts.empty, Texts.mark, declared.tokens.Kind.TheVariants.Mark as MarkOf, declared.tokens.Mark.Mark, declared.tokens.Token.Token}
use Rattle.lra_parser_spec.specs.Reading.{Parse, take_by, has, chain_step, chain_rest, chain, list_step, list_of}
use Rattle.lra_parser_spec.proofs.Turns.{Steps, none, turn, step_last, exact_turns}
use Rattle.lra_parser_spec.proofs.{Exact.Exact, Exact.Any, Exact.Free, Exact.first_or, Exact.then, Forms.rename, Forms.retell, Forms.entry, Forms.mapped, Tokens.IsInner}

-- pieces in other brackets
pub regroup : (x y a b : Pieces) → x ≡ a ++ b → x ++ y ≡ a ++ (b ++ y)
regroup x y a b e = ap (λ (k : Pieces). k ++ y) e ∙ append_assoc a b y

pub joined_right : (R S T : Texts) (z : Pieces) → ((R ⋅ S) ⋅ T) z → (R ⋅ (S ⋅ T)) z
joined_right R S T z (x, y, e, (u, v, f, r, s), t) = (u, v ++ y, e ∙ regroup x y u v f, r, (v, y, refl, s, t))

pub joined_left : (R S T : Texts) (z : Pieces) → (R ⋅ (S ⋅ T)) z → ((R ⋅ S) ⋅ T) z
joined_left R S T z (x, y, e, r, (u, v, f, s, t)) = (x ++ u, v, e ∙ ap (λ (k : Pieces). x ++ k) f ∙ sym (append_assoc x u v), (x, u, refl, r, s), t)

-- chains -----------------------------------------------------------------------------------------------------------

module _ {I A O : Type 0} (mark_of : O → Mark) (start : I → A) (grow : A → O → I → A) (IsItem : I → Pieces → Type 0) where
  abbrev pub Grown : A → O → A → Pieces → Type 0
  Grown a k b x = (i : I) × (grow a k i ≡ b) × IsItem i x

  -- an operator and an item
  abbrev pub Step_to : A → A → Pieces → Type 0
  Step_to a b z = (k : O) × (mark (mark_of k) ⋅ Grown a k b) z

  -- an item, and then steps
  abbrev pub Split : A → Pieces → Type 0
  Split a z = (i : I) × (IsItem i ⋅ (λ y. Steps Step_to a (start i) y)) z

  -- one more turn at the end
  pub split_more : (a : A) (k : O) (i : I) (z x y : Pieces) → Split a x → z ≡ x ++ y → (mark (mark_of k) ⋅ IsItem i) y → Split (grow a k i) z
  split_more a k i z x y (j, (u, v, e, s, t)) f (q, r, g, m, h) =
      (j, (u, v ++ y, f ∙ regroup x y u v e, s, step_last Step_to a (start j) (grow a k i) v y t (k, (q, r, g, m, (i, refl, h)))))

  pub split_start : (i : I) (z : Pieces) → IsItem i z → Split (start i) z
  split_start i z s = (i, (z, [], sym (append-nil z), s, none))

  module _ (P : A → Type 0) (grown : (a : A) (k : O) (i : I) → P (grow a k i) → ⊥) where
    steps_not : (b a : A) (y : Pieces) → (P a → ⊥) → Steps Step_to b a y → P b → ⊥
    steps_not b a y h none = h
    steps_not b a y h (turn {a = _} {c = c} {x = u} {y = v} (k, (q, r, e, m, (i, g, s))) t) = steps_not b c v (λ j. grown a k i (subst P (sym g) j)) t

    -- nothing that a step grew has P
    pub no_steps : (b a : A) (y : Pieces) → Steps Step_to b a y → P b → (y ≡ []) × (b ≡ a)
    no_steps b a y none j = (refl, refl)
    no_steps b a y (turn {a = _} {c = c} {x = u} {y = v} (k, (q, r, e, m, (i, g, s))) t) j = absurd (steps_not b c v (λ j. grown a k i (subst P (sym g) j)) t j)

  -- the first token of steps, or of what comes after none
  pub first_of_steps : (b a : A) (y : Pieces) (o : Option Token) (P : Option Token → Type 0) → Steps Step_to b a y →
      ((k : O) (at : Place) → P (Some (record { kind = MarkOf (mark_of k); place = at })))
      → (y ≡ [] → b ≡ a → P o) → P (first_or y o)
  first_of_steps b a y o P none marks f = f refl refl
  first_of_steps b a y o P (turn {a = _} {c = c} {x = u} {y = v} (k, (q, r, e, m, g)) t) marks f =
      subst (λ (w : Pieces). P (first_or (w ++ v) o)) (sym (e ∙ ap (λ (w : Pieces). w ++ r) m.1)) (marks k m.0)

  module _ (IsChain : A → Pieces → Type 0) (grows : (a : A) (k : O) (i : I) (x y : Pieces) → IsChain a x → (mark (mark_of k) ⋅ IsItem i) y → IsChain (grow a k i) (x ++ y)) where
    pub whole : (b a : A) (x y : Pieces) → IsChain a x → Steps Step_to b a y → IsChain b (x ++ y)
    whole b a x y h none = subst (IsChain b) (sym (append-nil x)) h
    whole b a x y h (turn {a = _} {c = c} {x = u} {y = v} (k, (q, r, e, m, (i, g, s))) t) =
        let next : IsChain c (x ++ u) = subst (λ (d : A). IsChain d (x ++ u)) g (grows a k i x u h (q, r, e, m, s)) in
        subst (IsChain b) (append_assoc x u v) (whole b c (x ++ u) v next t)

-- what may follow an item follows the chain that ends in it, and an operator may follow each chain
pub record IsFollow {I A O : Type 0} (op : Option Token → Option O) (start : I → A) (grow : A → O → I → A) (FI : I → Option Token → Type 0) (FA : A → Option Token → Type 0) : Type 0 where
  pub start_out : (i : I) (o : Option Token) → FA (start i) o → FI i o
  pub start_in : (i : I) (o : Option Token) → FI i o → FA (start i) o
  pub grow_out : (a : A) (k : O) (i : I) (o : Option Token) → FA (grow a k i) o → FI i o
  pub grow_in : (a : A) (k : O) (i : I) (o : Option Token) → FI i o → FA (grow a k i) o
  pub allowed : (a : A) (o : Option Token) → has (op o) ≡ true → FA a o

-- the operators of a table
pub record IsOperator {O : Type 0} (n : ℕ) (op : Option Token → Option O) (mark_of : O → Mark) : Type 0 where
  pub exact : Exact n IsInner (take_by op) Any (λ k z. mark (mark_of k) z) (λ k z. mark (mark_of k) z) Free
  pub at_end : op None ≡ None
  pub self : (k : O) (at : Place) → op (Some (record { kind = MarkOf (mark_of k); place = at })) ≡ Some k

module _ {n : ℕ} {I A O : Type 0} {op : Option Token → Option O} {mark_of : O → Mark}
    (OP : IsOperator n op mark_of) {start : I → A} {grow : A → O → I → A} {FI : I → Option Token → Type 0} {FA : A → Option Token → Type 0}
    (F : IsFollow op start grow FI FA) where
  step_begins : (IsItem : I → Pieces → Type 0) (a c : A) (x : Pieces) → Step_to mark_of start grow IsItem a c x → has (op (first_or x None)) ≡ true
  step_begins IsItem a c x (k, (u, v, e, m, g)) = rw (e, m.1) (rw (OP.self k m.0) refl)

  long_step : (IsItem : I → Pieces → Type 0) (a c : A) (x z : Pieces) (o : Option Token) → Step_to mark_of start grow IsItem a c x → has (op (first_or (x ++ z) o)) ≡ true
  long_step IsItem a c [] z o s = let t = step_begins IsItem a c [] s in let e : has (op None) ≡ false = rw (OP.at_end) refl in absurd cc
  long_step IsItem a c (k ∷ x) z o s = step_begins IsItem a c (k ∷ x) s

  -- what follows an item in a chain may follow it
  pub steps_first : (IsItem : I → Pieces → Type 0) (a b : A) (y : Pieces) (o : Option Token) → Steps (Step_to mark_of start grow IsItem) b a y → (y ≡ [] → FA b o × (has (op o) ≡ false)) →
      FA a (first_or y o)
  steps_first IsItem a b y o none f = (f refl).0
  steps_first IsItem a b y o (turn {a = _} {c = c} {x = u} {y = v} s r) f = F.allowed a (first_or (u ++ v) o) (long_step IsItem a c u v o s)

  module _ {p : Parse I} {IsItem : I → Pieces → Type 0} (P : Exact n IsInner p Any IsItem IsItem FI) (some_item : (i : I) × (x : Pieces) × IsItem i x) where
    exact_step : (a : A) → Exact n IsInner (chain_step op grow p a) (λ o. has (op o) ≡ true) (Step_to mark_of start grow IsItem a) (Step_to mark_of start grow IsItem a) FA
    exact_step a =
        let t = then OP.exact (λ k. mapped P (grow a k) FA (λ i o f. F.grow_in a k i o f) (λ i o f. F.grow_out a k i o f)) (Step_to mark_of start grow IsItem a)
        (λ k b y o s f. tt)
        (λ k z v. (grow a k some_item.0, some_item.1, (k, (z, some_item.1, refl, v, (some_item.0, refl, some_item.2)))))
        (λ k b x y s r. (k, (x, y, refl, s, r))) in
        entry t (λ o. has (op o) ≡ true) (λ o h. tt)

    pub exact_rest : (a : A) → Exact n IsInner (chain_rest op grow p a) (FA a) (λ b x. Steps (Step_to mark_of start grow IsItem) b a x) (λ b x. Steps (Step_to mark_of start grow IsItem) b a x)
        (λ b o. FA b o × (has (op o) ≡ false))
    exact_rest a = exact_turns (λ o. has (op o)) exact_step (λ a b x. Steps (Step_to mark_of start grow IsItem) b a x) (rw (OP.at_end) refl) (step_begins IsItem)
        (λ a c z s. (c, [], turn s none)) (λ a c b x y s r. turn s r) F.allowed a

    pub exact_chain : (IsChain : A → Pieces → Type 0) (starts : (i : I) (z : Pieces) → IsItem i z → IsChain (start i) z)
        (grows : (a : A) (k : O) (i : I) (x y : Pieces) → IsChain a x → (mark (mark_of k) ⋅ IsItem i) y → IsChain (grow a k i) (x ++ y))
        → (split : (a : A) (z : Pieces) → IsChain a z → Split mark_of start grow IsItem a z)
        → Exact n IsInner (chain op start grow p) Any IsChain IsChain (λ a o. FA a o × (has (op o) ≡ false))
    exact_chain IsChain starts grows split =
        let all = whole mark_of start grow IsItem IsChain grows in
        let t = then P (λ i. entry (exact_rest (start i)) (FI i) (λ o f. F.start_in i o f)) IsChain
        (λ i b y o s f. F.start_out i (first_or y o) (steps_first IsItem (start i) b y o s f))
        (λ i z s. (start i, [], subst (IsChain (start i)) (sym (append-nil z)) (starts i z s)))
        (λ i b x y s r. all b (start i) x y (starts i x s) r) in
        rename t IsChain (λ a z s. subst (IsChain a) (sym s.1.2) (all a (start s.0) s.1.0 s.1.1 (starts s.0 s.1.0 s.1.3) s.1.4)) split

-- lists ------------------------------------------------------------------------------------------------------------

abbrev pub Items : {I : Type 0} → (I → Texts) → List I → Texts
Items S [] = empty
Items S (i ∷ is) = S i ⋅ Items S is

-- what may follow the last item, or the place before the first
abbrev pub AfterLast : {I : Type 0} → (I → Option Token → Type 0) → (Option Token → Type 0) → List I → Option Token → Type 0
AfterLast F G [] o = G o
AfterLast F G (i ∷ is) o = AfterLast F (F i) is o

module _ {I : Type 0} (S : I → Texts) where
  abbrev pub Added : List I → List I → Pieces → Type 0
  Added a b x = (i : I) × (a ++ i ∷ [] ≡ b) × S i x

  pub steps_items : (b a : List I) (z : Pieces) → Steps Added b a z → (is : List I) × (b ≡ a ++ is) × Items S is z
  steps_items b a z none = ([], sym (append-nil b), refl)
  steps_items b a z (turn {a = _} {c = c} {x = x} {y = y} (i, e, s) r) =
      let k = steps_items b c y r in
      (i ∷ k.0, k.1 ∙ ap (λ (l : List I). l ++ k.0) (sym e) ∙ append_assoc a (i ∷ []) k.0, (x, y, refl, s, k.2))

  pub items_steps : (a is : List I) (z : Pieces) → Items S is z → Steps Added (a ++ is) a z
  items_steps a [] z e = subst (λ (y : Pieces). Steps Added (a ++ []) a y) (sym e) (subst (λ (b : List I). Steps Added b a []) (sym (append-nil a)) none)
  items_steps a (i ∷ is) z (x, y, e, s, r) =
      let k : Steps Added ((a ++ i ∷ []) ++ is) (a ++ i ∷ []) y = items_steps (a ++ i ∷ []) is y r in
      let k' : Steps Added (a ++ i ∷ is) (a ++ i ∷ []) y = subst (λ (b : List I). Steps Added b (a ++ i ∷ []) y) (append_assoc a (i ∷ []) is) k in
      subst (λ (w : Pieces). Steps Added (a ++ i ∷ is) a w) (sym e) (turn (i, refl, s) k')

last_in : {I : Type 0} (F : I → Option Token → Type 0) (G : Option Token → Type 0) (a : List I) (i : I) (o : Option Token) → F i o → AfterLast F G (a ++ i ∷ []) o
last_in F G [] i o f = f
last_in F G (j ∷ a) i o f = last_in F (F j) a i o f

last_out : {I : Type 0} (F : I → Option Token → Type 0) (G : Option Token → Type 0) (a : List I) (i : I) (o : Option Token) → AfterLast F G (a ++ i ∷ []) o → F i o
last_out F G [] i o f = f
last_out F G (j ∷ a) i o f = last_out F (F j) a i o f

pub all_last : {I : Type 0} (F : I → Option Token → Type 0) (G : Option Token → Type 0) (a : List I) (o : Option Token) → G o → ((i : I) → F i o) → AfterLast F G a o
all_last F G [] o g f = g
all_last F G (i ∷ a) o g f = all_last F (F i) a o (f i) f

pub exact_list : {n : ℕ} {Q : Token → Type 0} {I : Type 0} (more : Option Token → Bool) {p : Parse I} {S : I → Pieces → Type 0} {F : I → Option Token → Type 0} → Exact n Q p (λ o. more o ≡ true) S S F
    → (G : Option Token → Type 0) (at_end : more None ≡ false) (begins : (i : I) (x : Pieces) → S i x → more (first_or x None) ≡ true)
    → (allowed : (i : I) (o : Option Token) → more o ≡ true → F i o) → (starts : (o : Option Token) → more o ≡ true → G o)
    → Exact n Q (list_of more p) G (λ is z. Items S is z) (λ is z. Items S is z) (λ is o. AfterLast F G is o × (more o ≡ false))
exact_list {I = I} more {p = p} {S = S} {F = F} P G at_end begins allowed starts =
    let t = exact_turns more {step = list_step p} {S = Added S} {V = Added S} {F = λ a o. AfterLast F G a o}
    (λ a. mapped P (λ i. a ++ i ∷ []) (λ b o. AfterLast F G b o) (λ i o f. last_in F G a i o f) (λ i o f. last_out F G a i o f))
    (λ a b x. Steps (Added S) b a x) at_end (λ a c x s. begins s.0 x s.2) (λ a c z s. (c, [], turn s none)) (λ a c b x y s r. turn s r)
    (λ a o m. all_last F G a o (starts o m) (λ i. allowed i o m)) [] in
    retell t (λ is z. Items S is z)
    (λ b z s. let k = steps_items S b [] z s in subst (λ (l : List I). Items S l z) (sym k.1) k.2)
    (λ b z s. items_steps S [] b z s)
