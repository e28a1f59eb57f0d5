-- Lists of which something is found for each, joined, and written one after the other.
use Rattle.std.proofs.Common.{◌≡◌, ℕ, List, [], ◌∷◌, ◌++◌, refl, ap, sym, ◌∙◌, subst, append_assoc, append-nil}
use Rattle.std.proofs.lemmas.List.Elements.{Contains-append_right}
use Rattle.std.specs.List.{Contains, AllZip}
use Rattle.lra_certify.proofs.Crates.lra_linear_spec.Membership.{contains_head}
use Rattle.lra_certify.specs.Each.{Stops, each_text, AddsEach, IsLeft}

module _ {A B : Type 0} (Is : A → B → Type 0) where
  pub each_joined : (xs us : List A) (ys vs : List B) → AllZip Is xs ys → AllZip Is us vs → AllZip Is (xs ++ us) (ys ++ vs)
  each_joined [] us [] vs h k = k
  each_joined [] us (y ∷ ys) vs h k = absurd h
  each_joined (x ∷ xs) us [] vs h k = absurd h
  each_joined (x ∷ xs) us (y ∷ ys) vs h k = (h.0, each_joined xs us ys vs h.1 k)

  module _ (show : A → B → List ℕ) where
    pub text_joined : (xs us : List A) (ys vs : List B) → AllZip Is xs ys → each_text show (xs ++ us) (ys ++ vs) ≡
        each_text show xs ys ++ each_text show us vs
    text_joined [] us [] vs h = refl
    text_joined [] us (y ∷ ys) vs h = absurd h
    text_joined (x ∷ xs) us [] vs h = absurd h
    text_joined (x ∷ xs) us (y ∷ ys) vs h =
        ap (λ (t : List ℕ). show x y ++ t) (text_joined xs us ys vs h.1) ∙
        sym (append_assoc (show x y) (each_text show xs ys) (each_text show us vs))

    pub adds_none : (old : List ℕ) → AddsEach Is show [] old old
    adds_none old = record { found = []; are = tt; text = sym (append-nil old) }

    pub adds_one : (x : A) (y : B) (old new : List ℕ) → Is x y → new ≡ old ++ show x y → AddsEach Is show (x ∷ []) old new
    adds_one x y old new h e =
        record { found = y ∷ []; are = (h, tt); text = e ∙ ap (λ (t : List ℕ). old ++ t) (sym (append-nil (show x y))) }

    pub adds_both : (xs us : List A) (a b c : List ℕ) → AddsEach Is show xs a b → AddsEach Is show us b c → AddsEach Is show (xs ++ us) a c
    adds_both xs us a b c h k = record {
      found = h.found ++ k.found;
      are = each_joined xs us h.found k.found h.are k.are;
      text = k.text ∙ ap (λ (t : List ℕ). t ++ each_text show us k.found) h.text ∙
          append_assoc a (each_text show xs h.found) (each_text show us k.found) ∙
          ap (λ (t : List ℕ). a ++ t) (sym (text_joined xs us h.found k.found h.are));
    }

    module _ (Bad : A → Type 0) where
      pub stops_first : (xs us : List A) (x : A) → Stops Is Bad xs x → Stops Is Bad (xs ++ us) x
      stops_first xs us x h = record {
        before = h.before;
        behind = h.behind ++ us;
        is = ap (λ (l : List A). l ++ us) h.is ∙ append_assoc h.before (x ∷ h.behind) us;
        found = h.found;
        are = h.are;
        bad = h.bad;
      }

      pub stops_later : (xs us : List A) (x : A) (a b : List ℕ) → AddsEach Is show xs a b → Stops Is Bad us x → Stops Is Bad (xs ++ us) x
      stops_later xs us x a b h k = record {
        before = xs ++ k.before;
        behind = k.behind;
        is = ap (λ (l : List A). xs ++ l) k.is ∙ sym (append_assoc xs k.before (x ∷ k.behind));
        found = h.found ++ k.found;
        are = each_joined xs k.before h.found k.found h.are k.are;
        bad = k.bad;
      }

      pub stops_one : (x : A) → Bad x → Stops Is Bad (x ∷ []) x
      stops_one x h = record { before = []; behind = []; is = refl; found = []; are = tt; bad = h }

      -- what is left to be written of a list
      pub left_all : (all : List A) (start : List ℕ) → IsLeft Is Bad show all all start start
      left_all all start = record { adds = λ end h. h; stops = λ x h. h }

      module _ (xs us rest all : List A) (is : rest ≡ xs ++ us) (now start : List ℕ) (left : IsLeft Is Bad show rest all now start) where
        pub left_next : (next : List ℕ) → AddsEach Is show xs now next → IsLeft Is Bad show us all next start
        left_next next h = record {
          adds = λ end k. left.adds end (subst (λ (l : List A). AddsEach Is show l now end) (sym is) (adds_both xs us now next end h k));
          stops = λ x k. left.stops x (subst (λ (l : List A). Stops Is Bad l x) (sym is) (stops_later xs us x now next h k));
        }

        pub left_stops : (x : A) → Stops Is Bad xs x → Stops Is Bad all x
        left_stops x h = left.stops x (subst (λ (l : List A). Stops Is Bad l x) (sym is) (stops_first xs us x h))

      pub left_end : (rest all : List A) (now start : List ℕ) → rest ≡ [] → IsLeft Is Bad show rest all now start → AddsEach Is show all start now
      left_end rest all now start none left = left.adds now (subst (λ (l : List A). AddsEach Is show l now now) (sym none) (adds_none now))

-- another relation that the first gives
pub each_weaker : {A B : Type 0} (Is Are : A → B → Type 0) → ((x : A) (y : B) → Is x y → Are x y) → (xs : List A) (ys : List B) → AllZip Is xs ys → AllZip Are xs ys
each_weaker Is Are f [] [] h = tt
each_weaker Is Are f [] (y ∷ ys) h = absurd h
each_weaker Is Are f (x ∷ xs) [] h = absurd h
each_weaker Is Are f (x ∷ xs) (y ∷ ys) h = (f x y h.0, each_weaker Is Are f xs ys h.1)

-- one that stops is of the list
pub stops_has : {A B : Type 0} (Is : A → B → Type 0) (Bad : A → Type 0) (xs : List A) (x : A) → Stops Is Bad xs x → Contains xs x
stops_has {A = A} Is Bad xs x h = subst (λ (l : List A). Contains l x) (sym h.is) (Contains-append_right h.before (x ∷ h.behind) x (contains_head x h.behind))
