-- Exact readers. `Exact n Q p E S V F` says of the reader p, from a next token that meets E on:
-- it reads a value a if the text begins with one of a's texts S a, whose levels are at most n, and F a holds of the
-- token after it; then no other; else it stops at the first token with which no text of V begins, or that opens a level
-- past n, having looked at nothing after it. Each token that is read meets Q. V has the texts of which those of S are
-- some; mostly it is S.
use Rattle.std.proofs.Common.{◌≡◌, ℕ, ◌≤◌, ◌<◌, Bool, true, false, ◌⊎◌, [], ◌∷◌, ◌++◌, length, Option, Some, None, Ok, Err, refl, sym, ap, subst, ◌∙◌, append_assoc, inl, inr}
use Rattle.std.proofs.lemmas.List.{append_cancel_right}
use Rattle.std.specs.{Bool.⊤, List.AllByRecursion}
use Rattle.lra_base.specs.{declared.refusals.Cause.Cause, declared.refusals.Cause.TheVariants.Syntax, declared.refusals.Cause.TheVariants.TooDeep}
use Rattle.lra_syntax.specs.{Texts.Piece, Texts.Pieces, Texts.plain, Texts.◌⋅◌, declared.tokens.Token.Token}
use Rattle.lra_parser_spec.specs.{Reading.Text, Reading.Read, Reading.Parse, Reading.stop, Reading.◌>>=◌, Reading.seq, Tests.first, declared.reading.Fault.Fault}

-- no token opens a level past n
abbrev pub Low : ℕ → Pieces → Type 0
Low n x = AllByRecursion (λ (p : Piece). p.1 ≤ n) x

abbrev pub Within : (Token → Type 0) → Pieces → Type 0
Within Q x = AllByRecursion (λ (p : Piece). Q p.0) x

-- what goes on from a stop: anything at a syntax fault, and else the token at fault, which opens a level past n
abbrev pub Goes : ℕ → Cause → Pieces → Text → Type 0
Goes n Syntax w rest = ⊤
Goes n TooDeep [] rest = ⊥
Goes n TooDeep (t ∷ w) [] = ⊥
Goes n TooDeep (t ∷ w) (r ∷ rest) = (t.0 ≡ r) × (n < t.1)
Goes n c w rest = ⊥

pub record Fails {A : Type 0} (n : ℕ) (Q : Token → Type 0) (p : Parse A) (V : A → Pieces → Type 0) (T : Text) (f : Fault) : Type 0 where
  pub done : Pieces
  pub rest : Text
  pub parts : T ≡ plain done ++ rest
  pub low : Low n done
  pub inner : Within Q done
  pub left : f.left ≡ length rest
  -- some text of the language begins so
  pub tree : A
  pub tail : Pieces
  pub viable : V tree (done ++ tail)
  pub goes : Goes n f.cause tail rest
  -- nothing after the token at fault was looked at
  pub local : (Y : Text) → first Y ≡ first rest → p (plain done ++ Y) ≡ stop f.cause Y

pub record Exact {A : Type 0} (n : ℕ) (Q : Token → Type 0) (p : Parse A) (E : Option Token → Type 0) (S V : A → Pieces → Type 0) (F : A → Option Token → Type 0) : Type 0 where
  -- what is read is one of the texts,
  pub ok : (T : Text) (a : A) (R : Text) → E (first T) → p T ≡ Ok (a, R) → (x : Pieces) × (T ≡ plain x ++ R) × Low n x × Within Q x × S a x × F a (first R)
  -- and if nothing is, there is a first fault;
  pub err : (T : Text) (f : Fault) → E (first T) → p T ≡ Err f → Fails n Q p V T f
  -- each text is read,
  pub again : (x : Pieces) (a : A) (R : Text) → S a x → Low n x → E (first (plain x ++ R)) → F a (first R) → p (plain x ++ R) ≡ Ok (a, R)
  -- or stops at its first token that opens a level past n;
  pub deep : (x : Pieces) (t : Piece) (w : Pieces) (a : A) (Y : Text) → S a (x ++ t ∷ w) → Low n x → n < t.1 → E (first (plain x ++ t.0 ∷ Y)) → p (plain x ++ t.0 ∷ Y) ≡ stop TooDeep (t.0 ∷ Y)
  -- and its levels are given by its tokens
  pub one : (x y : Pieces) (a b : A) (R : Text) → S a x → S b y → Low n x → Low n y → E (first (plain x ++ R)) → F a (first R) → F b (first R) → plain x ≡ plain y → x ≡ y

abbrev pub Any : Option Token → Type 0
Any o = ⊤

abbrev pub Free : {A : Type 0} → A → Option Token → Type 0
Free a o = ⊤

-- lemmas on texts --------------------------------------------------------------------------------------------------

pub bind_ok : {A B : Type 0} (r : Read A) (f : A × Text → Read B) (y : B × Text) → (r >>= f) ≡ Ok y → (x : A × Text) × (r ≡ Ok x) × (f x ≡ Ok y)
bind_ok (Ok x) f y e = (x, refl, e)
bind_ok (Err d) f y e = absurd cc

-- how a sequence failed
pub bind_err : {A B : Type 0} (r : Read A) (f : A × Text → Read B) (d : Fault) → (r >>= f) ≡ Err d → (r ≡ Err d) ⊎ ((x : A × Text) × (r ≡ Ok x) × (f x ≡ Err d))
bind_err (Ok x) f d e = inr (x, refl, e)
bind_err (Err c) f d e = inl cc

pub ok_is : {A : Type 0} (x y : A × Text) → (let r : Read A = Ok x in r) ≡ Ok y → x ≡ y
ok_is x y e = cc

pub test : (b : Bool) → (b ≡ true) ⊎ (b ≡ false)
test true = inl refl
test false = inr refl

pub first_same : (a X Y : Text) → first X ≡ first Y → first (a ++ X) ≡ first (a ++ Y)
first_same [] X Y e = e
first_same (t ∷ a) X Y e = refl

pub plain-append : (x y : Pieces) → plain (x ++ y) ≡ plain x ++ plain y
plain-append [] y = refl
plain-append (t ∷ x) y = ap (λ (s : Text). t.0 ∷ s) (plain-append x y)

pub plain-then : (x y : Pieces) (R : Text) → plain (x ++ y) ++ R ≡ plain x ++ (plain y ++ R)
plain-then x y R = rw (plain-append x y) (append_assoc (plain x) (plain y) R)

pub all-append : (P : Piece → Type 0) (x y : Pieces) → AllByRecursion P x → AllByRecursion P y → AllByRecursion P (x ++ y)
all-append P [] y h k = k
all-append P (t ∷ x) y h k = (h.0, all-append P x y h.1 k)

pub all-left : (P : Piece → Type 0) (x y : Pieces) → AllByRecursion P (x ++ y) → AllByRecursion P x
all-left P [] y h = tt
all-left P (t ∷ x) y h = (h.0, all-left P x y h.1)

pub all-right : (P : Piece → Type 0) (x y : Pieces) → AllByRecursion P (x ++ y) → AllByRecursion P y
all-right P [] y h = h
all-right P (t ∷ x) y h = all-right P x y h.1

pub Low-append : (n : ℕ) (x y : Pieces) → Low n x → Low n y → Low n (x ++ y)
Low-append n x y h k = all-append (λ (p : Piece). p.1 ≤ n) x y h k

pub Low-left : (n : ℕ) (x y : Pieces) → Low n (x ++ y) → Low n x
Low-left n x y h = all-left (λ (p : Piece). p.1 ≤ n) x y h

pub Low-right : (n : ℕ) (x y : Pieces) → Low n (x ++ y) → Low n y
Low-right n x y h = all-right (λ (p : Piece). p.1 ≤ n) x y h

pub Within-append : (Q : Token → Type 0) (x y : Pieces) → Within Q x → Within Q y → Within Q (x ++ y)
Within-append Q x y h k = all-append (λ (p : Piece). Q p.0) x y h k

pub Goes-more : (n : ℕ) (c : Cause) (w y : Pieces) (R : Text) → Goes n c w R → Goes n c (w ++ y) R
Goes-more n Syntax w y R g = tt
Goes-more n TooDeep [] y R g = absurd g
Goes-more n TooDeep (t ∷ w) y [] g = absurd g
Goes-more n TooDeep (t ∷ w) y (r ∷ R) g = g
Goes-more n c w y R g = absurd g

-- where a piece lies in two texts, one after the other
pub data Lies (x y u : Pieces) (t : Piece) (w : Pieces) : Type 0 where
  in_first : (v : Pieces) → x ≡ u ++ t ∷ v → Lies x y u t w
  in_second : (v : Pieces) → u ≡ x ++ v → y ≡ v ++ t ∷ w → Lies x y u t w

pub lies : (x y u : Pieces) (t : Piece) (w : Pieces) → x ++ y ≡ u ++ t ∷ w → Lies x y u t w
lies [] y u t w e = in_second u refl e
lies (s ∷ x) y [] t w e = in_first x cc
lies (s ∷ x) y (r ∷ u) t w e =
    let same : s ≡ r = cc in
    elim (lies x y u t w cc) [
      | in_first v p ↦ in_first v (cc)
      | in_second v p q ↦ in_second v (cc) q
    ]

-- the first token of the pieces, or else o
abbrev pub first_or : Pieces → Option Token → Option Token
first_or [] o = o
first_or (t ∷ x) o = Some t.0

pub first_or-is : (y : Pieces) (R : Text) → first_or y (first R) ≡ first (plain y ++ R)
first_or-is [] R = refl
first_or-is (t ∷ y) R = refl

pub first_or-on : (v : Pieces) (t : Piece) (w : Pieces) (Y : Text) (o : Option Token) → first_or (v ++ t ∷ w) o ≡ first (plain v ++ t.0 ∷ Y)
first_or-on [] t w Y o = refl
first_or-on (s ∷ v) t w Y o = refl

pub first_or-both : (x y : Pieces) (o : Option Token) → first_or (x ++ y) o ≡ first_or x (first_or y o)
first_or-both [] y o = refl
first_or-both (t ∷ x) y o = refl

pub nonempty : (v : Pieces) (t : Piece) (w : Pieces) → v ++ t ∷ w ≡ [] → ⊥
nonempty [] t w e = cc
nonempty (s ∷ v) t w e = cc

-- one after the other ----------------------------------------------------------------------------------------------

abbrev pub Both : {A B : Type 0} → (A → Pieces → Type 0) → (A → B → Pieces → Type 0) → B → Pieces → Type 0
Both {A} S S' b z = (a : A) × (S a ⋅ S' a b) z

-- two texts of one reader with the same tokens up to the end
pub same_split : {A : Type 0} (n : ℕ) (Q : Token → Type 0) (p : Parse A) (E : Option Token → Type 0) (S V : A → Pieces → Type 0) (F : A → Option Token → Type 0) → Exact n Q p E S V F
    → (x x' : Pieces) (a a' : A) (M M' : Text) → S a x → S a' x' → Low n x → Low n x' → E (first (plain x ++ M)) → F a (first M) → F a' (first M') → plain x ++ M ≡ plain x' ++ M'
    → (a ≡ a') × (M ≡ M') × (x ≡ x')
same_split n Q p E S V F P x x' a a' M M' s s' low low' i f f' e =
    let k : p (plain x ++ M) ≡ Ok (a, M) = P.again x a M s low i f in
    let k' : p (plain x' ++ M') ≡ Ok (a', M') = P.again x' a' M' s' low' (subst (λ (T : Text). E (first T)) e i) f' in
    let q : (a, M) ≡ (a', M') = ok_is (a, M) (a', M') (sym k ∙ ap p e ∙ k') in
    let rest : M ≡ M' = ap (λ (r : _ × Text). r.1) q in
    let front : plain x ≡ plain x' = append_cancel_right (plain x) (plain x') M (e ∙ ap (λ (T : Text). plain x' ++ T) (sym rest)) in
    (ap (λ (r : _ × Text). r.0) q, rest, P.one x x' a a' M s s' low low' i f (subst (λ (T : Text). F a' (first T)) (sym rest) f') front)

module _ {n : ℕ} {Q : Token → Type 0} {A B : Type 0} {p : Parse A} {E : Option Token → Type 0} {S V : A → Pieces → Type 0} {F : A → Option Token → Type 0} (P : Exact n Q p E S V F)
    {q : A → Parse B} {S' V' : A → B → Pieces → Type 0} {F' : B → Option Token → Type 0} (R' : (a : A) → Exact n Q (q a) (F a) (S' a) (V' a) F')
    (W : B → Pieces → Type 0) where
  pub then : (follow : (a : A) (b : B) (y : Pieces) (o : Option Token) → S' a b y → (y ≡ [] → F' b o) → F a (first_or y o))
      → (more : (a : A) (z : Pieces) → V a z → (b : B) × (y : Pieces) × W b (z ++ y))
      → (both : (a : A) (b : B) (x y : Pieces) → S a x → V' a b y → W b (x ++ y))
      → Exact n Q (seq p q) E (Both S S') W F'
  then follow more both = record {
    ok = λ T b R i e.
        let m = bind_ok (p T) (λ r. q r.0 r.1) (b, R) e in
        let l = P.ok T m.0.0 m.0.1 i m.1 in
        let r = (R' m.0.0).ok m.0.1 b R l.5 m.2 in
        (l.0 ++ r.0, l.1 ∙ ap (λ (t : Text). plain l.0 ++ t) r.1 ∙ sym (plain-then l.0 r.0 R), Low-append n l.0 r.0 l.2 r.2, Within-append Q l.0 r.0 l.3 r.3, (m.0.0, (l.0, r.0, refl, l.4, r.4)), r.5);
    err = λ T f i e. elim (bind_err (p T) (λ r. q r.0 r.1) f e) [
      | inl d ↦
          let l = P.err T f i d in
          let v = more l.tree (l.done ++ l.tail) l.viable in
          record {
            done = l.done;
            rest = l.rest;
            parts = l.parts;
            low = l.low;
            inner = l.inner;
            left = l.left;
            tree = v.0;
            tail = l.tail ++ v.1;
            viable = subst (λ (t : Pieces). W v.0 t) (append_assoc l.done l.tail v.1) v.2;
            goes = Goes-more n f.cause l.tail v.1 l.rest l.goes;
            local = λ Y h. ap (λ (r : Read A). r >>= λ s. q s.0 s.1) (l.local Y h);
          }
      | inr m ↦
          let a = m.0.0 in
          let l = P.ok T a m.0.1 i m.1 in
          let x = l.0 in
          let r = (R' a).err m.0.1 f l.5 m.2 in
          record {
            done = x ++ r.done;
            rest = r.rest;
            parts = l.1 ∙ ap (λ (t : Text). plain x ++ t) r.parts ∙ sym (plain-then x r.done r.rest);
            low = Low-append n x r.done l.2 r.low;
            inner = Within-append Q x r.done l.3 r.inner;
            left = r.left;
            tree = r.tree;
            tail = r.tail;
            viable = subst (λ (t : Pieces). W r.tree t) (sym (append_assoc x r.done r.tail)) (both a r.tree x (r.done ++ r.tail) l.4 r.viable);
            goes = r.goes;
            local = λ Y h.
                let same : first m.0.1 ≡ first (plain r.done ++ Y) = ap first r.parts ∙ first_same (plain r.done) r.rest Y (sym h) in
                let fine : F a (first (plain r.done ++ Y)) = subst (F a) same l.5 in
                let begins : E (first (plain x ++ (plain r.done ++ Y))) = subst E (ap first l.1 ∙ first_same (plain x) m.0.1 (plain r.done ++ Y) same) i in
                rw (plain-then x r.done Y, P.again x a (plain r.done ++ Y) l.4 l.2 begins fine) (r.local Y h);
          }
    ];
    again = λ z b R s low i h.
        let a = s.0 in
        let x = s.1.0 in
        let y = s.1.1 in
        let low' : Low n (x ++ y) = subst (Low n) s.1.2 low in
        let fine : F a (first (plain y ++ R)) = subst (F a) (first_or-is y R) (follow a b y (first R) s.1.4 (λ e. h)) in
        let same : plain z ++ R ≡ plain x ++ (plain y ++ R) = ap (λ (t : Pieces). plain t ++ R) s.1.2 ∙ plain-then x y R in
        rw (same, P.again x a (plain y ++ R) s.1.3 (Low-left n x y low') (subst (λ (t : Text). E (first t)) same i) fine) ((R' a).again y b R s.1.4 (Low-right n x y low') fine h);
    deep = λ u t w b Y s low past i.
        let a = s.0 in
        let x = s.1.0 in
        let y = s.1.1 in
        elim (lies x y u t w (sym s.1.2)) [
          | in_first v e ↦ ap (λ (r : Read A). r >>= λ n. q n.0 n.1) (P.deep u t v a Y (subst (S a) e s.1.3) low past i)
          | in_second v e e' ↦
              let s' : S' a b (v ++ t ∷ w) = subst (S' a b) e' s.1.4 in
              let fine : F a (first (plain v ++ t.0 ∷ Y)) = subst (F a) (first_or-on v t w Y None) (follow a b (v ++ t ∷ w) None s' (λ n. absurd (nonempty v t w n))) in
              let low' : Low n (x ++ v) = subst (Low n) e low in
              let same : plain u ++ t.0 ∷ Y ≡ plain x ++ (plain v ++ t.0 ∷ Y) = ap (λ (k : Pieces). plain k ++ t.0 ∷ Y) e ∙ plain-then x v (t.0 ∷ Y) in
              rw (same, P.again x a (plain v ++ t.0 ∷ Y) s.1.3 (Low-left n x v low') (subst (λ (k : Text). E (first k)) same i) fine)
              ((R' a).deep v t w b Y s' (Low-right n x v low') past fine)
        ];
    one = λ z z' b b' R s s' low low' i h h' e.
        let a = s.0 in
        let x = s.1.0 in
        let y = s.1.1 in
        let a' = s'.0 in
        let x' = s'.1.0 in
        let y' = s'.1.1 in
        let lows : Low n (x ++ y) = subst (Low n) s.1.2 low in
        let lows' : Low n (x' ++ y') = subst (Low n) s'.1.2 low' in
        let fine : F a (first (plain y ++ R)) = subst (F a) (first_or-is y R) (follow a b y (first R) s.1.4 (λ e. h)) in
        let fine' : F a' (first (plain y' ++ R)) = subst (F a') (first_or-is y' R) (follow a' b' y' (first R) s'.1.4 (λ e. h')) in
        let same : plain z ++ R ≡ plain x ++ (plain y ++ R) = ap (λ (t : Pieces). plain t ++ R) s.1.2 ∙ plain-then x y R in
        let same' : plain z' ++ R ≡ plain x' ++ (plain y' ++ R) = ap (λ (t : Pieces). plain t ++ R) s'.1.2 ∙ plain-then x' y' R in
        let k = same_split n Q p E S V F P x x' a a' (plain y ++ R) (plain y' ++ R) s.1.3 s'.1.3 (Low-left n x y lows) (Low-left n x' y' lows')
        (subst (λ (t : Text). E (first t)) same i) fine fine' (sym same ∙ ap (λ (t : Text). t ++ R) e ∙ same') in
        let back : S' a b' y' = subst (λ (c : A). S' c b' y') (sym k.0) s'.1.4 in
        let second : y ≡ y' = (R' a).one y y' b b' R s.1.4 back (Low-right n x y lows) (Low-right n x' y' lows') fine h h' (append_cancel_right (plain y) (plain y') R k.1) in
        s.1.2 ∙ ap (λ (t : Pieces). t ++ y) k.2 ∙ ap (λ (t : Pieces). x' ++ t) second ∙ sym s'.1.2;
  }
