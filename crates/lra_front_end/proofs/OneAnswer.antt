-- A source is accepted with one tree, or refused for one cause at one place: from one reading of its bytes, one tree and one first fault of its tokens.
use Rattle.std.proofs.Common.{◌≡◌, ℕ, ◌≤◌, ◌<◌, List, [], ◌∷◌, ◌++◌, length, None, refl, sym, ap, ◌∙◌, subst, arith}
use Rattle.std.proofs.lemmas.Option.{none-some, same_Some}
use Rattle.std.specs.List.{AllByRecursion}
use Rattle.lra_base.specs.{Places.greatest_length, declared.refusals.Cause.Cause, declared.refusals.Place.Place, declared.refusals.Refusal.Refusal}
use Rattle.lra_front_end.specs.Crates.lra_resolution_spec.Refuse.{limit_fault, RefusesTree, bad_name, recursive, past_limit, NotParsed, too_long, bad_token, bad_text, Refuse, not_parsed, bad_tree, Accepts, OneAnswer}
use Rattle.lra_front_end.specs.Crates.lra_resolution_spec.EntryPoint.{EntryPoint, faults_of, points_of}
use Rattle.lra_front_end.specs.Crates.lra_syntax.Faults.{Language, IsTree, IsTextFault, OneTree, OneTextFault}
use Rattle.lra_front_end.specs.Crates.lra_syntax.Reach.{IsRecursive, IsFirstRecursive, NotRecursive}
use Rattle.lra_front_end.specs.Crates.{lra_syntax.Labels.labels_of, lra_syntax.Tokens.Lex}
use Rattle.lra_front_end.specs.Crates.{lra_syntax.Tokens.OneReading, lra_syntax.Trees.FileTree, lra_syntax.declared.tokens.Token.Token, lra_syntax.declared.trees.Identifier.Identifier}

not_both : {A : Type 0} (x : A) (xs ys : List A) → xs ≡ [] → xs ≡ x ∷ ys → ⊥
not_both x xs ys e f = cc

pub heads : {A : Type 0} (x y : A) (xs ys : List A) → x ∷ xs ≡ y ∷ ys → x ≡ y
heads x y xs ys e = cc

pub tails : {A : Type 0} (x y : A) (xs ys : List A) → x ∷ xs ≡ y ∷ ys → xs ≡ ys
tails x y xs ys e = cc

-- the first of a list of which something holds is one
first_of : {A : Type 0} (P : A → Type 0) (b b' : List A) (c d : A) (a a' : List A) → b ++ c ∷ a ≡ b' ++ d ∷ a' → P c → P d
    → AllByRecursion (λ x. P x → ⊥) b → AllByRecursion (λ x. P x → ⊥) b' → c ≡ d
first_of P [] [] c d a a' e p q n m = heads c d a a' e
first_of P [] (y ∷ b') c d a a' e p q n m = absurd (m.0 (subst P (heads c y a (b' ++ d ∷ a') e) p))
first_of P (x ∷ b) [] c d a a' e p q n m = absurd (n.0 (subst P (sym (heads x d (b ++ c ∷ a) a' e)) q))
first_of P (x ∷ b) (y ∷ b') c d a a' e p q n m = first_of P b b' c d a a' (tails x y (b ++ c ∷ a) (b' ++ d ∷ a') e) p q n.1 m.1

one_recursive : (t : FileTree) (p q : Place) → IsFirstRecursive t p → IsFirstRecursive t q → p ≡ q
one_recursive t p q (b, a, c, e, at, r, none) (b', a', d, f, at', r', none') =
    at ∙ ap (λ (x : List ℕ × Identifier). x.1.place) (first_of (IsRecursive t) b b' c d a a' (sym e ∙ f) r r' none none') ∙ sym at'

abbrev Same : Cause → Cause → Place → Place → Type 0
Same c d p q = (c ≡ d) × (p ≡ q)

same_refusal : (r s : Refusal) → r ≡ s → Same r.cause s.cause r.place s.place
same_refusal r s e = (ap (λ (x : Refusal). x.cause) e, ap (λ (x : Refusal). x.place) e)

one_tree_fault : (entry : EntryPoint) (t : FileTree) (c d : Cause) (p q : Place) → RefusesTree entry t c p → RefusesTree entry t d q → Same c d p q
one_tree_fault entry t _ _ _ _ (bad_name r x e) (bad_name s y f) = same_refusal r s (heads r s x y (sym e ∙ f))
one_tree_fault entry t _ _ _ _ (bad_name r x e) (recursive at f g) = absurd (not_both r _ x f e)
one_tree_fault entry t _ _ _ _ (bad_name r x e) (past_limit s f g h) = absurd (not_both r _ x f e)
one_tree_fault entry t _ _ _ _ (recursive at f g) (bad_name r x e) = absurd (not_both r _ x f e)
one_tree_fault entry t _ _ _ _ (recursive at e f) (recursive at' g h) = (refl, one_recursive t at at' f h)
one_tree_fault entry t _ _ _ _ (recursive at e f) (past_limit s g n h) = absurd (n at f)
one_tree_fault entry t _ _ _ _ (past_limit s f g h) (bad_name r x e) = absurd (not_both r _ x f e)
one_tree_fault entry t _ _ _ _ (past_limit s g n h) (recursive at e f) = absurd (n at f)
one_tree_fault entry t _ _ _ _ (past_limit r e n h) (past_limit s f m g) = same_refusal r s (same_Some r s (sym h ∙ g))

faultless : (entry : EntryPoint) (t : FileTree) (c : Cause) (p : Place) → faults_of entry t ≡ [] → NotRecursive t → limit_fault (labels_of t) 0 (points_of entry t) ≡ None
    → RefusesTree entry t c p → ⊥
faultless entry t _ _ e n l (bad_name r x f) = not_both r _ x e f
faultless entry t _ _ e n l (recursive at f g) = n at g
faultless entry t _ _ e n l (past_limit r f m h) = none-some r (sym l ∙ h)

module _ (L : Language) (reading : OneReading) (tree : OneTree L) (fault : OneTextFault L) where
  same_tokens : (source : List ℕ) (T U : List Token) → Lex source T → Lex source U → T ≡ U
  same_tokens source T U a b = (reading source).0 T U a b

  same_tree : (source : List ℕ) (T U : List Token) (s t : FileTree) → Lex source T → Lex source U → IsTree L T s → IsTree L U t → s ≡ t
  same_tree source T U s t a b (x, is, plain, low) (y, is', plain', low') = (tree s t x y is is' (plain ∙ same_tokens source T U a b ∙ sym plain')).0

  not_long : (source : List ℕ) → (n : ℕ) → n < length source → length source ≤ n → ⊥
  not_long source n a b = omega arith

  text_and_tree : (source : List ℕ) (T U : List Token) (c : Cause) (p : Place) (t : FileTree) → Lex source T → Lex source U → IsTextFault L T c p
      → IsTree L U t → ⊥
  text_and_tree source T U c p t a b f is = (fault T).1 t c p (subst (λ (V : List Token). IsTree L V t) (sym (same_tokens source T U a b)) is) f

  one_unread : (source : List ℕ) (c d : Cause) (p q : Place) → NotParsed L source c p → NotParsed L source d q → Same c d p q
  one_unread source _ _ _ _ (too_long l) (too_long m) = (refl, refl)
  one_unread source _ _ _ _ (too_long l) (bad_token d q m f) = absurd (not_long source _ l m)
  one_unread source _ _ _ _ (too_long l) (bad_text T d q m a f) = absurd (not_long source _ l m)
  one_unread source _ _ _ _ (bad_token c p l e) (too_long m) = absurd (not_long source _ m l)
  one_unread source _ _ _ _ (bad_token c p l e) (bad_token d q m f) = (reading source).1 c d p q e f
  one_unread source _ _ _ _ (bad_token c p l e) (bad_text T d q m a f) = absurd ((reading source).2 T c p a e)
  one_unread source _ _ _ _ (bad_text T c p l a e) (too_long m) = absurd (not_long source _ m l)
  one_unread source _ _ _ _ (bad_text T c p l a e) (bad_token d q m f) = absurd ((reading source).2 T d q a f)
  one_unread source c d p q (bad_text T _ _ l a e) (bad_text U _ _ m b f) =
      (fault T).0 c d p q e (subst (λ (V : List Token). IsTextFault L V d q) (sym (same_tokens source T U a b)) f)

  -- a source that has a tree is read
  unread_tree : (source : List ℕ) (T : List Token) (t : FileTree) (c : Cause) (p : Place) → length source ≤ greatest_length → Lex source T → IsTree L T t
      → NotParsed L source c p → ⊥
  unread_tree source T t _ _ m b is (too_long l) = not_long source _ l m
  unread_tree source T t _ _ m b is (bad_token c p l e) = (reading source).2 T c p b e
  unread_tree source T t _ _ m b is (bad_text U c p l a e) = text_and_tree source U T c p t a b e is

  one_refusal : (entry : EntryPoint) (source : List ℕ) (c d : Cause) (p q : Place) → Refuse entry L source c p → Refuse entry L source d q → Same c d p q
  one_refusal entry source _ _ _ _ (not_parsed c p e) (not_parsed d q f) = one_unread source c d p q e f
  one_refusal entry source _ _ _ _ (not_parsed c p e) (bad_tree T t d q m b is f) = absurd (unread_tree source T t c p m b is e)
  one_refusal entry source _ _ _ _ (bad_tree T t c p l a is e) (not_parsed d q f) = absurd (unread_tree source T t d q l a is f)
  one_refusal entry source _ _ _ _ (bad_tree T t c p l a is e) (bad_tree U s d q m b is' f) =
      one_tree_fault entry t c d p q e (subst (λ (v : FileTree). RefusesTree entry v d q) (same_tree source U T s t b a is' is) f)

  accepted_not_refused : (entry : EntryPoint) (source : List ℕ) (t : FileTree) (c : Cause) (p : Place) → Accepts entry L source t → Refuse entry L source c p → ⊥
  accepted_not_refused entry source t _ _ x (not_parsed c p e) = unread_tree source x.tokens t c p x.not_long x.lexed x.parsed e
  accepted_not_refused entry source t _ _ x (bad_tree T s c p l a is e) =
      faultless entry t c p x.names x.not_recursive x.within (subst (λ (v : FileTree). RefusesTree entry v c p) (same_tree source T x.tokens s t a x.lexed is x.parsed) e)

  pub one_answer : OneAnswer L
  one_answer entry source = (
    λ s t x y. same_tree source x.tokens y.tokens s t x.lexed y.lexed x.parsed y.parsed,
    one_refusal entry source,
    accepted_not_refused entry source,
  )
