-- Exact readers of single tokens, and of one of several forms.
use Rattle.std.proofs.Common.{◌≡◌, ℕ, ◌≤◌, ◌<◌, Bool, true, false, cond, ◌⊎◌, [], ◌∷◌, ◌++◌, length, Option, Some, None, Ok, Err, refl, sym, ap, subst, ◌∙◌, arith, inl, inr}
use Rattle.std.specs.Bool.{⊤}
use Rattle.lra_base.specs.declared.refusals.Cause.TheVariants.{Syntax, TooDeep}
use Rattle.lra_syntax.specs.{Texts.Piece, Texts.Pieces, Texts.plain, declared.tokens.Token.Token}
use Rattle.lra_parser_spec.specs.Reading.{Text, Read, Parse, stop, ◌>>=◌, map_read, done_with, taken, take_by}
use Rattle.lra_parser_spec.specs.{Tests.first, declared.reading.Fault.Fault}
use Rattle.lra_parser_spec.proofs.Exact.{Low, Within, Fails, Exact, Any, Free, bind_ok, bind_err, ok_is, first_same, first_or, first_or-is, first_or-on, nonempty}

free : (x : Pieces) → Within (λ t. ⊤) x
free [] = tt
free (t ∷ x) = (tt, free x)

-- other texts, the same reader -------------------------------------------------------------------------------------

module _ {n : ℕ} {Q : Token → Type 0} {A : Type 0} {p : Parse A} {E : Option Token → Type 0} {S V : A → Pieces → Type 0} {F : A → Option Token → Type 0} (P : Exact n Q p E S V F) where
  -- more texts begin so
  pub widen : (W : A → Pieces → Type 0) → ((a : A) (x : Pieces) → V a x → W a x) → Exact n Q p E S W F
  widen W h = record {
    ok = P.ok;
    err = λ T f i e. let l = P.err T f i e in record {
      done = l.done;
      rest = l.rest;
      parts = l.parts;
      low = l.low;
      inner = l.inner;
      left = l.left;
      tree = l.tree;
      tail = l.tail;
      viable = h _ _ l.viable;
      goes = l.goes;
      local = l.local;
    };
    again = P.again;
    deep = P.deep;
    one = P.one;
  }

  -- the same texts, stated differently
  pub rename : (S' : A → Pieces → Type 0) → ((a : A) (x : Pieces) → S a x → S' a x) → ((a : A) (x : Pieces) → S' a x → S a x) → Exact n Q p E S' V F
  rename S' to from = record {
    ok = λ T a R i e. let l = P.ok T a R i e in (l.0, l.1, l.2, l.3, to a l.0 l.4, l.5);
    err = P.err;
    again = λ x a R s low i h. P.again x a R (from a x s) low i h;
    deep = λ x t w a Y s low past i. P.deep x t w a Y (from a _ s) low past i;
    one = λ x y a b R s s' low low' i h h' e. P.one x y a b R (from a x s) (from b y s') low low' i h h' e;
  }

  -- from fewer texts on
  pub entry : (E' : Option Token → Type 0) → ((o : Option Token) → E' o → E o) → Exact n Q p E' S V F
  entry E' h = record {
    ok = λ T a R i e. P.ok T a R (h _ i) e;
    err = λ T f i e. P.err T f (h _ i) e;
    again = λ x a R s low i f. P.again x a R s low (h _ i) f;
    deep = λ x t w a Y s low past i. P.deep x t w a Y s low past (h _ i);
    one = λ x y a b R s s' low low' i f f' e. P.one x y a b R s s' low low' (h _ i) f f' e;
  }

  -- of the tokens that are read less is reported
  pub loose : Exact n (λ t. ⊤) p E S V F
  loose = record {
    ok = λ T a R i e. let l = P.ok T a R i e in (l.0, l.1, l.2, free l.0, l.4, l.5);
    err = λ T f i e. let l = P.err T f i e in record {
      done = l.done;
      rest = l.rest;
      parts = l.parts;
      low = l.low;
      inner = free l.done;
      left = l.left;
      tree = l.tree;
      tail = l.tail;
      viable = l.viable;
      goes = l.goes;
      local = l.local;
    };
    again = P.again;
    deep = P.deep;
    one = P.one;
  }

  -- the same follow, stated differently
  pub follows : (F' : A → Option Token → Type 0) → ((a : A) (o : Option Token) → F a o → F' a o) → ((a : A) (o : Option Token) → F' a o → F a o) → Exact n Q p E S V F'
  follows F' out into = record {
    ok = λ T a R i e. let l = P.ok T a R i e in (l.0, l.1, l.2, l.3, l.4, out a _ l.5);
    err = P.err;
    again = λ x a R s low i h. P.again x a R s low i (into a _ h);
    deep = P.deep;
    one = λ x y a b R s s' low low' i f f' e. P.one x y a b R s s' low low' i (into a _ f) (into b _ f') e;
  }

  -- what its beginning says of the token after a text
  pub noted : (G : A → Option Token → Type 0) → ((a : A) (x : Pieces) (o : Option Token) → S a x → E (first_or x o) → G a o) → Exact n Q p E S V (λ a o. F a o × G a o)
  noted G h = record {
    ok = λ T a R i e. let l = P.ok T a R i e in (l.0, l.1, l.2, l.3, l.4, (l.5, h a l.0 (first R) l.4 (subst E (ap first l.1 ∙ sym (first_or-is l.0 R)) i)));
    err = P.err;
    again = λ x a R s low i f. P.again x a R s low i f.0;
    deep = P.deep;
    one = λ x y a b R s s' low low' i f f' e. P.one x y a b R s s' low low' i f.0 f'.0 e;
  }

  -- a fact that holds wherever the reader begins
  pub given : (G : Type 0) → ((o : Option Token) → E o → G) → Exact n Q p E (λ a x. S a x × G) (λ a x. V a x × G) F
  given G h = record {
    ok = λ T a R i e. let l = P.ok T a R i e in (l.0, l.1, l.2, l.3, (l.4, h (first T) i), l.5);
    err = λ T f i e. let l = P.err T f i e in record {
      done = l.done;
      rest = l.rest;
      parts = l.parts;
      low = l.low;
      inner = l.inner;
      left = l.left;
      tree = l.tree;
      tail = l.tail;
      viable = (l.viable, h (first T) i);
      goes = l.goes;
      local = l.local;
    };
    again = λ x a R s low i f. P.again x a R s.0 low i f;
    deep = λ x t w a Y s low past i. P.deep x t w a Y s.0 low past i;
    one = λ x y a b R s s' low low' i f f' e. P.one x y a b R s.0 s'.0 low low' i f f' e;
  }

  -- another function that does the same from there on
  pub same_where : (p' : Parse A) → ((T : Text) → E (first T) → p T ≡ p' T) → Exact n Q p' E S V F
  same_where p' h = record {
    ok = λ T a R i e. P.ok T a R i (h T i ∙ e);
    err = λ T f i e.
        let l = P.err T f i (h T i ∙ e) in
        record {
          done = l.done;
          rest = l.rest;
          parts = l.parts;
          low = l.low;
          inner = l.inner;
          left = l.left;
          tree = l.tree;
          tail = l.tail;
          viable = l.viable;
          goes = l.goes;
          local = λ Y k.
              let begins : E (first (plain l.done ++ Y)) = subst E (ap first l.parts ∙ first_same (plain l.done) l.rest Y (sym k)) i in
              sym (h (plain l.done ++ Y) begins) ∙ l.local Y k;
        };
    again = λ x a R s low i f. sym (h (plain x ++ R) i) ∙ P.again x a R s low i f;
    deep = λ x t w a Y s low past i. sym (h (plain x ++ t.0 ∷ Y) i) ∙ P.deep x t w a Y s low past i;
    one = P.one;
  }

  -- its values changed
  abbrev pub Image : {B : Type 0} → (A → B) → (A → Pieces → Type 0) → B → Pieces → Type 0
  Image f T b x = (a : A) × (f a ≡ b) × T a x

  pub mapped : {B : Type 0} (f : A → B) (F' : B → Option Token → Type 0) → ((a : A) (o : Option Token) → F a o → F' (f a) o) → ((a : A) (o : Option Token) → F' (f a) o → F a o)
      → Exact n Q (map_read f p) E (λ b x. (a : A) × (f a ≡ b) × S a x) (λ b x. (a : A) × (f a ≡ b) × V a x) F'
  mapped {B} f F' out into = record {
    ok = λ T b R i e.
        let m = bind_ok (p T) (λ r. Ok (f r.0, r.1)) (b, R) e in
        let l = P.ok T m.0.0 m.0.1 i m.1 in
        subst (λ (r : B × Text). (x : Pieces) × (T ≡ plain x ++ r.1) × Low n x × Within Q x × ((a : A) × (f a ≡ r.0) × S a x) × F' r.0 (first r.1)) (ok_is (f m.0.0, m.0.1) (b, R) m.2)
        (l.0, l.1, l.2, l.3, (m.0.0, refl, l.4), out m.0.0 (first m.0.1) l.5);
    err = λ T d i e. elim (bind_err (p T) (λ r. Ok (f r.0, r.1)) d e) [
      | inl g ↦
          let l = P.err T d i g in
          record {
            done = l.done;
            rest = l.rest;
            parts = l.parts;
            low = l.low;
            inner = l.inner;
            left = l.left;
            tree = f l.tree;
            tail = l.tail;
            viable = (l.tree, refl, l.viable);
            goes = l.goes;
            local = λ Y h. ap (λ (r : Read A). r >>= λ s. Ok (f s.0, s.1)) (l.local Y h);
          }
      | inr m ↦ absurd cc
    ];
    again = λ x b R s low i h. rw (P.again x s.0 R s.2 low i (into s.0 (first R) (subst (λ (c : B). F' c (first R)) (sym s.1) h))) (ap (λ (c : B). Ok (c, R)) s.1);
    deep = λ x t w b Y s low past i. ap (λ (r : Read A). r >>= λ s. Ok (f s.0, s.1)) (P.deep x t w s.0 Y s.2 low past i);
    one = λ x y b b' R s s' low low' i h h' e.
        P.one x y s.0 s'.0 R s.2 s'.2 low low' i (into s.0 (first R) (subst (λ (c : B). F' c (first R)) (sym s.1) h)) (into s'.0 (first R) (subst (λ (c : B). F' c (first R)) (sym s'.1) h')) e;
  }

-- the same texts, stated differently, also if reading stops
pub retell : {n : ℕ} {Q : Token → Type 0} {A : Type 0} {p : Parse A} {E : Option Token → Type 0} {S : A → Pieces → Type 0} {F : A → Option Token → Type 0} → Exact n Q p E S S F
    → (S' : A → Pieces → Type 0) → ((a : A) (x : Pieces) → S a x → S' a x) → ((a : A) (x : Pieces) → S' a x → S a x) → Exact n Q p E S' S' F
retell P S' to from = rename (widen P S' to) S' to from

-- a text of the form, if the next token reports v
module _ {n : ℕ} {Q : Token → Type 0} {A K : Type 0} {p : Parse A} {E : Option Token → Type 0} {S V : A → Pieces → Type 0} {F : A → Option Token → Type 0} (P : Exact n Q p E S V F)
    (key : Option Token → K) (v : K) (long : (a : A) (x : Pieces) → S a x → x ≡ [] → ⊥) where
  told : (x : Pieces) (R : Text) (o : Option Token) → (x ≡ [] → ⊥) → first (plain x ++ R) ≡ first_or x o
  told [] R o h = absurd (h refl)
  told (t ∷ x) R o h = refl

  pub where_told : Exact n Q p (λ o. (key o ≡ v) × E o) (λ a x. S a x × (key (first_or x None) ≡ v)) V F
  where_told = record {
    ok = λ T a R i e. let l = P.ok T a R i.1 e in (l.0, l.1, l.2, l.3, (l.4, ap key (sym (ap first l.1 ∙ told l.0 R None (long a l.0 l.4))) ∙ i.0), l.5);
    err = λ T f i e. P.err T f i.1 e;
    again = λ x a R s low i h. P.again x a R s.0 low i.1 h;
    deep = λ u t w a Y s low past i. P.deep u t w a Y s.0 low past i.1;
    one = λ x y a b R s s' low low' i f f' e. P.one x y a b R s.0 s'.0 low low' i.1 f f' e;
  }

-- one of several forms, given by the next token ---------------------------------------------------------------------

module _ {n : ℕ} {Q : Token → Type 0} {A K : Type 0} (key : Option Token → K) {sel : K → Parse A} {S : K → A → Pieces → Type 0} {W : A → Pieces → Type 0} {E : Option Token → Type 0}
    {F : A → Option Token → Type 0}
    (each : (k : K) → Exact n Q (sel k) (λ o. (key o ≡ k) × E o) (S k) W F) where
  pub choose : ((k : K) (a : A) (x : Pieces) (o : Option Token) → S k a x → (x ≡ [] → F a o) → key (first_or x o) ≡ k) → Exact n Q (λ T. sel (key (first T)) T) E (λ a x. (k : K) × S k a x) W F
  choose begins = record {
    ok = λ T a R i e. let l = (each (key (first T))).ok T a R (refl, i) e in (l.0, l.1, l.2, l.3, (key (first T), l.4), l.5);
    err = λ T f i e.
        let l = (each (key (first T))).err T f (refl, i) e in
        record {
          done = l.done;
          rest = l.rest;
          parts = l.parts;
          low = l.low;
          inner = l.inner;
          left = l.left;
          tree = l.tree;
          tail = l.tail;
          viable = l.viable;
          goes = l.goes;
          local = λ Y h.
              let same : key (first (plain l.done ++ Y)) ≡ key (first T) = ap key (sym (ap first l.parts ∙ first_same (plain l.done) l.rest Y (sym h))) in
              rw same (l.local Y h);
        };
    again = λ x a R s low i h.
        let b : key (first (plain x ++ R)) ≡ s.0 = ap key (sym (first_or-is x R)) ∙ begins s.0 a x (first R) s.1 (λ e. h) in
        rw b ((each s.0).again x a R s.1 low (b, i) h);
    deep = λ u t w a Y s low past i.
        let b : key (first (plain u ++ t.0 ∷ Y)) ≡ s.0 = ap key (sym (first_or-on u t w Y None)) ∙ begins s.0 a (u ++ t ∷ w) None s.1 (λ n. absurd (nonempty u t w n)) in
        rw b ((each s.0).deep u t w a Y s.1 low past (b, i));
    one = λ x y a b R s s' low low' i h h' e.
        let k : key (first (plain x ++ R)) ≡ s.0 = ap key (sym (first_or-is x R)) ∙ begins s.0 a x (first R) s.1 (λ e. h) in
        let k' : key (first (plain y ++ R)) ≡ s'.0 = ap key (sym (first_or-is y R)) ∙ begins s'.0 b y (first R) s'.1 (λ e. h') in
        let same : s'.0 ≡ s.0 = sym k' ∙ ap (λ (t : Text). key (first (t ++ R))) (sym e) ∙ k in
        (each s.0).one x y a b R s.1 (subst (λ (c : K). S c b y) same s'.1) low low' (k, i) h h' e;
  }

-- one of two forms, given by a test
module _ {n : ℕ} {Q : Token → Type 0} {A : Type 0} (tells : Option Token → Bool) {p q : Parse A} {S S' W : A → Pieces → Type 0} {E : Option Token → Type 0} {F : A → Option Token → Type 0}
    (P : Exact n Q p (λ o. E o × (tells o ≡ true)) S W F) (R' : Exact n Q q (λ o. E o × (tells o ≡ false)) S' W F) where
  picked : Bool → Parse A
  picked b T = cond b (p T) (q T)

  abbrev Either : Bool → A → Pieces → Type 0
  Either true = S
  Either false = S'

  to_either : (a : A) (x : Pieces) → ((b : Bool) × Either b a x) → S a x ⊎ S' a x
  to_either a x (true, s) = inl s
  to_either a x (false, s) = inr s

  from_either : (a : A) (x : Pieces) → S a x ⊎ S' a x → (b : Bool) × Either b a x
  from_either a x (inl s) = (true, s)
  from_either a x (inr s) = (false, s)

  abbrev side : Bool → Parse A
  side true = p
  side false = q

  each_side : (b : Bool) → Exact n Q (side b) (λ o. (tells o ≡ b) × E o) (Either b) W F
  each_side true = entry P (λ o. (tells o ≡ true) × E o) (λ o i. (i.1, i.0))
  each_side false = entry R' (λ o. (tells o ≡ false) × E o) (λ o i. (i.1, i.0))

  begun : (yes : (a : A) (x : Pieces) (o : Option Token) → S a x → (x ≡ [] → F a o) → tells (first_or x o) ≡ true)
      → (no : (a : A) (x : Pieces) (o : Option Token) → S' a x → (x ≡ [] → F a o) → tells (first_or x o) ≡ false)
      → (b : Bool) (a : A) (x : Pieces) (o : Option Token) → Either b a x → (x ≡ [] → F a o) → tells (first_or x o) ≡ b
  begun on off true = on
  begun on off false = off

  side_is : (b : Bool) (T : Text) → side b T ≡ cond b (p T) (q T)
  side_is true T = refl
  side_is false T = refl

  pub branch : (yes : (a : A) (x : Pieces) (o : Option Token) → S a x → (x ≡ [] → F a o) → tells (first_or x o) ≡ true)
      → (no : (a : A) (x : Pieces) (o : Option Token) → S' a x → (x ≡ [] → F a o) → tells (first_or x o) ≡ false)
      → Exact n Q (λ T. cond (tells (first T)) (p T) (q T)) E (λ a x. S a x ⊎ S' a x) W F
  branch on off =
      let c = choose tells each_side (begun on off) in
      rename (same_where c (λ T. cond (tells (first T)) (p T) (q T)) (λ T i. side_is (tells (first T)) T)) (λ a x. S a x ⊎ S' a x) to_either from_either

-- nothing, and stops -----------------------------------------------------------------------------------------------

module _ (n : ℕ) (Q : Token → Type 0) {A : Type 0} (a : A) (E : Option Token → Type 0) (W : A → Pieces → Type 0) (F : A → Option Token → Type 0) (h : (o : Option Token) → E o → F a o) where
  done_ok : (T : Text) (b : A) (R : Text) → F a (first T) → done_with a T ≡ Ok (b, R) → (x : Pieces) × (T ≡ plain x ++ R) × Low n x × Within Q x × ((b ≡ a) × (x ≡ [])) × F b (first R)
  done_ok T b R f e = subst (λ (r : A × Text). (x : Pieces) × (T ≡ plain x ++ r.1) × Low n x × Within Q x × ((r.0 ≡ a) × (x ≡ [])) × F r.0 (first r.1)) (ok_is (a, T) (b, R) e)
      ([], refl, tt, tt, (refl, refl), f)

  done_again : (b : A) (x : Pieces) (R : Text) → b ≡ a → x ≡ [] → done_with a (plain x ++ R) ≡ Ok (b, R)
  done_again b x R e f = rw (e, f) refl

  -- nothing is read
  pub exact_done : Exact n Q (done_with a) E (λ b x. (b ≡ a) × (x ≡ [])) W F
  exact_done = record {
    ok = λ T b R i e. done_ok T b R (h (first T) i) e;
    err = λ T f i e. absurd cc;
    again = λ x b R s low i f. done_again b x R s.0 s.1;
    deep = λ u t w b Y s low past i. absurd (nonempty u t w s.1);
    one = λ x y b b' R s s' low low' i f f' e. s.1 ∙ sym s'.1;
  }

-- no text begins so
pub exact_stop : {n : ℕ} {Q : Token → Type 0} {A : Type 0} (E : Option Token → Type 0) (W : A → Pieces → Type 0) (F : A → Option Token → Type 0) (a : A) (x : Pieces) → W a x →
    Exact n Q (stop Syntax) E (λ b y. ⊥) W F
exact_stop {n} {Q} E W F a x h = record {
  ok = λ T b R i e. absurd cc;
  err = λ T f i e.
      let is : record { cause = Syntax; left = length T } ≡ f = cc in
      subst (λ (g : Fault). Fails n Q (stop Syntax) W T g) is (record {
        done = [];
        rest = T;
        parts = refl;
        low = tt;
        inner = tt;
        left = refl;
        tree = a;
        tail = x;
        viable = h;
        goes = tt;
        local = λ Y s. refl;
      });
  again = λ x b R s low i f. absurd s;
  deep = λ x t w b Y s low past i. absurd s;
  one = λ x y b b' R s s' low low' i f f' e. absurd s;
}

-- each text opens a level past n at its first token
module _ (n : ℕ) (Q : Token → Type 0) {A : Type 0} (E : Option Token → Type 0) (S W : A → Pieces → Type 0) (F : A → Option Token → Type 0)
    (over : (a : A) (z : Pieces) → S a z → (t : Piece) × (w : Pieces) × (z ≡ t ∷ w) × (n < t.1))
    (some : (t : Token) → E (Some t) → (a : A) × (o : ℕ) × (w : Pieces) × W a ((t, o) ∷ w) × (n < o)) (none : E None → ⊥) where
  deep_fails : (T : Text) (f : Fault) → E (first T) → (let r : Read A = stop TooDeep T in r) ≡ Err f → Fails {A = A} n Q (stop TooDeep) W T f
  deep_fails [] f i e = absurd (none i)
  deep_fails (r ∷ T) f i e =
      let is : record { cause = TooDeep; left = length (r ∷ T) } ≡ f = cc in
      let s = some r i in
      subst (λ (g : Fault). Fails {A = A} n Q (stop TooDeep) W (r ∷ T) g) is
      (record { done = []; rest = r ∷ T; parts = refl; low = tt; inner = tt; left = refl; tree = s.0; tail = (r, s.1) ∷ s.2; viable = s.3; goes = (refl, s.4); local = λ Y k. refl })

  never_low : (x : Pieces) (t : Piece) (w : Pieces) → x ≡ t ∷ w → Low n x → n < t.1 → ⊥
  never_low [] t w e low over' = cc
  never_low (s ∷ x) t w e low over' = let same : s ≡ t = cc in let h : s.1 ≤ n = low.0 in omega (arith, ap (λ (p : Piece). p.1) same)

  deep_deep : (x : Pieces) (t' : Piece) (v : Pieces) (a : A) (Y : Text) → S a (x ++ t' ∷ v) → Low n x → (let r : Read A = stop TooDeep (plain x ++ t'.0 ∷ Y) in r) ≡ stop TooDeep (t'.0 ∷ Y)
  deep_deep [] t' v a Y s low = refl
  deep_deep (r ∷ x) t' v a Y s low =
      let o = over a (r ∷ (x ++ t' ∷ v)) s in
      let same : r ≡ o.0 = (let e = o.2 in cc) in
      let h : r.1 ≤ n = low.0 in
      absurd (omega (arith, ap (λ (p : Piece). p.1) same, o.3))

  pub exact_deep : Exact n Q (stop TooDeep) E S W F
  exact_deep = record {
    ok = λ T b R i e. absurd cc;
    err = λ T f i e. deep_fails T f i e;
    again = λ x b R s low i f. let o = over b x s in absurd (never_low x o.0 o.1 o.2 low o.3);
    deep = λ x t' w b Y s low past' i. deep_deep x t' w b Y s low;
    one = λ x y b b' R s s' low low' i f f' e. let o = over b x s in absurd (never_low x o.0 o.1 o.2 low o.3);
  }

-- one token --------------------------------------------------------------------------------------------------------

-- a token that has a, and opens o
abbrev pub Taken : {A : Type 0} → (Option Token → Option A) → ℕ → A → Pieces → Type 0
Taken pick o a z = (t : Token) × (z ≡ (t, o) ∷ []) × (pick (Some t) ≡ Some a)

module _ (n : ℕ) (Q : Token → Type 0) {A : Type 0} (pick : Option Token → Option A) (o : ℕ) (low : o ≤ n) (none : pick None ≡ None) (inner : (t : Token) (a : A) → pick (Some t) ≡ Some a → Q t)
    (w : A) (k : Token) (witness : pick (Some k) ≡ Some w) where
  take_ok : (T : Text) (c : Option A) (b : A) (R : Text) → pick (first T) ≡ c → taken c T ≡ Ok (b, R) → (x : Pieces) × (T ≡ plain x ++ R) × Low n x × Within Q x × Taken pick o b x × ⊤
  take_ok [] None b R h e = absurd cc
  take_ok [] (Some a) b R h e = let k : None ≡ Some a = sym none ∙ h in absurd cc
  take_ok (t ∷ T) None b R h e = absurd cc
  take_ok (t ∷ T) (Some a) b R h e =
      subst (λ (r : A × Text). (x : Pieces) × (t ∷ T ≡ plain x ++ r.1) × Low n x × Within Q x × Taken pick o r.0 x × ⊤) (ok_is (a, T) (b, R) e)
      ((t, o) ∷ [], refl, (low, tt), (inner t a h, tt), (t, refl, h), tt)

  take_err : (T : Text) (f : Fault) (c : Option A) → pick (first T) ≡ c → taken c T ≡ Err f → Fails n Q (take_by pick) (Taken pick o) T f
  take_err T f (Some a) h e = absurd cc
  take_err T f None h e =
      let is : record { cause = Syntax; left = length T } ≡ f = cc in
      subst (λ (g : Fault). Fails n Q (take_by pick) (Taken pick o) T g) is
      (record { done = []; rest = T; parts = refl; low = tt; inner = tt; left = refl; tree = w; tail = (k, o) ∷ []; viable = (k, refl, witness); goes = tt; local = λ Y s. rw (ap pick s ∙ h) refl })

  take_again : (b : A) (R : Text) (x : Pieces) → Taken pick o b x → take_by pick (plain x ++ R) ≡ Ok (b, R)
  take_again b R x s = rw s.1 (rw s.2 refl)

  take_deep : (x : Pieces) (t' : Piece) (v : Pieces) (b : A) → Taken pick o b (x ++ t' ∷ v) → n < t'.1 → ⊥
  take_deep [] t' v b s past = let same : t' ≡ (s.0, o) = (let e = s.1 in cc) in omega (arith, ap (λ (p : Piece). p.1) same)
  take_deep (r ∷ x) t' v b s past = nonempty x t' v (let e = s.1 in let k : x ++ t' ∷ v ≡ [] = cc in k)

  take_one : (x y : Pieces) (a b : A) → Taken pick o a x → Taken pick o b y → plain x ≡ plain y → x ≡ y
  take_one x y a b s s' e =
      let same : s.0 ∷ [] ≡ s'.0 ∷ [] = ap plain (sym s.1) ∙ e ∙ ap plain s'.1 in
      let k : s.0 ≡ s'.0 = cc in
      s.1 ∙ ap (λ (t : Token). (t, o) ∷ []) k ∙ sym s'.1

  pub exact_take : Exact n Q (take_by pick) Any (Taken pick o) (Taken pick o) Free
  exact_take = record {
    ok = λ T b R i e. take_ok T (pick (first T)) b R refl e;
    err = λ T f i e. take_err T f (pick (first T)) refl e;
    again = λ x b R s h i f. take_again b R x s;
    deep = λ x t' v b Y s h past i. absurd (take_deep x t' v b s past);
    one = λ x y a b R s s' h h' i f f' e. take_one x y a b s s' e;
  }
