-- Turns of a reader, one after the other, are exact if each turn is.
use Rattle.std.proofs.Common.{◌≡◌, ℕ, zero, suc, ◌≤◌, ◌<◌, Bool, true, false, [], ◌∷◌, ◌++◌, length, Option, None, Ok, Err, refl, sym, ap, subst, ◌∙◌, append_assoc, length-append, arith, inl, inr}
use Rattle.std.proofs.lemmas.List.{append-nil, append_cancel_right}
use Rattle.lra_base.specs.{declared.refusals.Cause.Cause, declared.refusals.Cause.TheVariants.TooDeep}
use Rattle.lra_syntax.specs.{Texts.Piece, Texts.Pieces, Texts.plain, declared.tokens.Token.Token}
use Rattle.lra_parser_spec.specs.{Reading.Text, Reading.Read, Reading.Parse, Reading.stop, Reading.◌>>=◌, Reading.done_with, Reading.loop, Reading.turns, Tests.first, declared.reading.Fault.Fault}
use Rattle.lra_parser_spec.proofs.Exact.{Low, Within, Goes, Exact, bind_ok, bind_err, ok_is, test, first_same, plain-then, Low-append, Low-left, Low-right, Within-append, Goes-more, in_first}
use Rattle.lra_parser_spec.proofs.Exact.{in_second, lies, first_or, first_or-on, nonempty, same_split}

-- b comes from a by steps, one after the other
pub data Steps {A : Type 0} (S : A → A → Pieces → Type 0) (b : A) : A → Pieces → Type 0 where
  none : Steps S b b []
  turn : {a c : A} {x y : Pieces} → S a c x → Steps S b c y → Steps S b a (x ++ y)

pub step_last : {A : Type 0} (S : A → A → Pieces → Type 0) (b a c : A) (y z : Pieces) → Steps S b a y → S b c z → Steps S c a (y ++ z)
step_last S b a c y z none s = subst (Steps S c a) (append-nil z) (turn s none)
step_last S b a c y z (turn {a = _} {c = d} {x = x} {y = y'} s r) t = subst (Steps S c a) (sym (append_assoc x y' z)) (turn s (step_last S b d c y' z r t))

module _ {n : ℕ} {Q : Token → Type 0} {A : Type 0} (more : Option Token → Bool) {step : A → Parse A} {S V : A → A → Pieces → Type 0} {F : A → Option Token → Type 0}
    (P : (a : A) → Exact n Q (step a) (λ o. more o ≡ true) (S a) (V a) F)
    (W : A → A → Pieces → Type 0)
    (at_end : more None ≡ false)
    (begins : (a c : A) (x : Pieces) → S a c x → more (first_or x None) ≡ true)
    (goes_on : (a c : A) (z : Pieces) → V a c z → (b : A) × (y : Pieces) × W a b (z ++ y))
    (both : (a c b : A) (x y : Pieces) → S a c x → W c b y → W a b (x ++ y)) where
  abbrev Past : A → Option Token → Type 0
  Past a o = F a o × (more o ≡ false)

  shorter : (a c : A) (x : Pieces) (M : Text) → S a c x → (m : ℕ) → length (plain x ++ M) ≤ suc m → length M ≤ m
  shorter a c [] M s m h = let t = begins a c [] s in absurd cc
  shorter a c (k ∷ x) M s m h = omega (arith, length-append (plain x) M)

  begins_with : (a c : A) (x : Pieces) (M : Text) → S a c x → more (first (plain x ++ M)) ≡ true
  begins_with a c [] M s = let t = begins a c [] s in absurd cc
  begins_with a c (k ∷ x) M s = begins a c (k ∷ x) s

  loop_ok : (m : ℕ) (a b : A) (T R : Text) → length T ≤ m → F a (first T) → loop more step m a T ≡ Ok (b, R) → (x : Pieces) × (T ≡ plain x ++ R) × Low n x × Within Q x × Steps S b a x ×
      Past b (first R)
  unfolding loop
  loop_ok zero a b [] R h i e = subst (λ (r : A × Text). (x : Pieces) × ([] ≡ plain x ++ r.1) × Low n x × Within Q x × Steps S r.0 a x × Past r.0 (first r.1)) (ok_is (a, []) (b, R) e)
      ([], refl, tt, tt, none, (i, at_end))
  loop_ok zero a b (t ∷ T) R h i e = absurd (omega arith)
  loop_ok (suc m) a b T R h i e = elim (test (more (first T))) [
    | inl on ↦
        let e' : (step a T >>= λ r. loop more step m r.0 r.1) ≡ Ok (b, R) = rw on at e in
        let k = bind_ok (step a T) (λ r. loop more step m r.0 r.1) (b, R) e' in
        let l = (P a).ok T k.0.0 k.0.1 on k.1 in
        let less : length k.0.1 ≤ m = shorter a k.0.0 l.0 k.0.1 l.4 m (subst (λ (t : Text). length t ≤ suc m) l.1 h) in
        let r = loop_ok m k.0.0 b k.0.1 R less l.5 k.2 in
        (l.0 ++ r.0, l.1 ∙ ap (λ (t : Text). plain l.0 ++ t) r.1 ∙ sym (plain-then l.0 r.0 R), Low-append n l.0 r.0 l.2 r.2, Within-append Q l.0 r.0 l.3 r.3, turn l.4 r.4, r.5)
    | inr off ↦
        let e' : done_with a T ≡ Ok (b, R) = rw off at e in
        subst (λ (r : A × Text). (x : Pieces) × (T ≡ plain x ++ r.1) × Low n x × Within Q x × Steps S r.0 a x × Past r.0 (first r.1)) (ok_is (a, T) (b, R) e') ([], refl, tt, tt, none, (i, off))
  ]

  -- a loop whose first turn stops, or is done
  loop_stops : (m : ℕ) (a : A) (T : Text) (c : Cause) (Y : Text) → length T ≤ m → more (first T) ≡ true → step a T ≡ stop c Y → loop more step m a T ≡ stop c Y
  unfolding loop
  loop_stops zero a [] c Y h e s = absurd cc
  loop_stops zero a (t ∷ T) c Y h e s = absurd (omega arith)
  loop_stops (suc m) a T c Y h e s = rw (e, s) refl

  loop_after : (m : ℕ) (a c : A) (x : Pieces) (M : Text) → S a c x → Low n x → length (plain x ++ M) ≤ m → F c (first M) → (result : Read A)
      → ((k : ℕ) → length M ≤ k → loop more step k c M ≡ result) → loop more step m a (plain x ++ M) ≡ result
  unfolding loop
  loop_after zero a c [] M s low h f result go = let t = begins a c [] s in absurd cc
  loop_after zero a c (k ∷ x) M s low h f result go = absurd (omega arith)
  loop_after (suc m) a c x M s low h f result go =
      let e = begins_with a c x M s in
      rw (e, (P a).again x c M s low e f) (go m (shorter a c x M s m h))

  record LoopFails (a : A) (T : Text) (f : Fault) : Type 0 where
    pub done : Pieces
    pub rest : Text
    pub parts : T ≡ plain done ++ rest
    pub low : Low n done
    pub inner : Within Q done
    pub left : f.left ≡ length rest
    pub tree : A
    pub tail : Pieces
    pub viable : W a tree (done ++ tail)
    pub goes : Goes n f.cause tail rest
    pub local : (Y : Text) (m : ℕ) → length (plain done ++ Y) ≤ m → first Y ≡ first rest → loop more step m a (plain done ++ Y) ≡ stop f.cause Y

  loop_fails : (m : ℕ) (a : A) (T : Text) (f : Fault) → length T ≤ m → F a (first T) → loop more step m a T ≡ Err f → LoopFails a T f
  unfolding loop
  loop_fails zero a T f h i e = absurd cc
  loop_fails (suc m) a T f h i e = elim (test (more (first T))) [
    | inr off ↦ let e' : done_with a T ≡ Err f = rw off at e in absurd cc
    | inl on ↦
        let e' : (step a T >>= λ r. loop more step m r.0 r.1) ≡ Err f = rw on at e in
        elim (bind_err (step a T) (λ r. loop more step m r.0 r.1) f e') [
          | inl d ↦
              let l = (P a).err T f on d in
              let v = goes_on a l.tree (l.done ++ l.tail) l.viable in
              record {
                done = l.done;
                rest = l.rest;
                parts = l.parts;
                low = l.low;
                inner = l.inner;
                left = l.left;
                tree = v.0;
                tail = l.tail ++ v.1;
                viable = subst (λ (t : Pieces). W a v.0 t) (append_assoc l.done l.tail v.1) v.2;
                goes = Goes-more n f.cause l.tail v.1 l.rest l.goes;
                local = λ Y k h' s.
                    let begin : more (first (plain l.done ++ Y)) ≡ true = ap more (first_same (plain l.done) Y l.rest s ∙ sym (ap first l.parts)) ∙ on in
                    loop_stops k a (plain l.done ++ Y) f.cause Y h' begin (l.local Y s);
              }
          | inr q ↦
              let c = q.0.0 in
              let l = (P a).ok T c q.0.1 on q.1 in
              let x = l.0 in
              let less : length q.0.1 ≤ m = shorter a c x q.0.1 l.4 m (subst (λ (t : Text). length t ≤ suc m) l.1 h) in
              let r = loop_fails m c q.0.1 f less l.5 q.2 in
              record {
                done = x ++ r.done;
                rest = r.rest;
                parts = l.1 ∙ ap (λ (t : Text). plain x ++ t) r.parts ∙ sym (plain-then x r.done r.rest);
                low = Low-append n x r.done l.2 r.low;
                inner = Within-append Q x r.done l.3 r.inner;
                left = r.left;
                tree = r.tree;
                tail = r.tail;
                viable = subst (λ (t : Pieces). W a r.tree t) (sym (append_assoc x r.done r.tail)) (both a c r.tree x (r.done ++ r.tail) l.4 r.viable);
                goes = r.goes;
                local = λ Y k h' s.
                    let same : first q.0.1 ≡ first (plain r.done ++ Y) = ap first r.parts ∙ first_same (plain r.done) r.rest Y (sym s) in
                    let fine : F c (first (plain r.done ++ Y)) = subst (F c) same l.5 in
                    let whole : plain (x ++ r.done) ++ Y ≡ plain x ++ (plain r.done ++ Y) = plain-then x r.done Y in
                    rw whole (loop_after k a c x (plain r.done ++ Y) l.4 l.2 (subst (λ (t : Text). length t ≤ k) whole h') fine (stop f.cause Y) (λ j j'. r.local Y j j' s));
              }
        ]
  ]

  module _ (allowed : (a : A) (o : Option Token) → more o ≡ true → F a o) where
    -- what stands after some turns may follow a turn
    may_follow : (b a : A) (y : Pieces) (R : Text) → Steps S b a y → F b (first R) → F a (first (plain y ++ R))
    may_follow b a y R none f = f
    may_follow b a y R (turn {a = _} {c = c} {x = x} {y = z} s r) f =
        subst (F a) (sym (ap first (plain-then x z R))) (allowed a (first (plain x ++ (plain z ++ R))) (begins_with a c x (plain z ++ R) s))

    begins_long : (a c : A) (x z : Pieces) → S a c x → more (first_or (x ++ z) None) ≡ true
    begins_long a c [] z s = let t = begins a c [] s in absurd cc
    begins_long a c (k ∷ x) z s = begins a c (k ∷ x) s

    begins_some : (b a : A) (x v : Pieces) (t : Piece) (w : Pieces) → Steps S b a x → x ≡ v ++ t ∷ w → more (first_or x None) ≡ true
    begins_some b a x v t w none e = absurd (nonempty v t w (sym e))
    begins_some b a x v t w (turn {a = _} {c = c} {x = y} {y = z} s r) e = begins_long a c y z s

    may_follow_deep : (b a : A) (v : Pieces) (t : Piece) (w : Pieces) (Y : Text) → Steps S b a (v ++ t ∷ w) → F a (first (plain v ++ t.0 ∷ Y))
    may_follow_deep b a v t w Y s = subst (F a) (first_or-on v t w Y None) (allowed a (first_or (v ++ t ∷ w) None) (begins_some b a (v ++ t ∷ w) v t w s refl))

    loop_again : (b a : A) (x : Pieces) (R : Text) → Steps S b a x → Low n x → Past b (first R) → (m : ℕ) → length (plain x ++ R) ≤ m → loop more step m a (plain x ++ R) ≡ Ok (b, R)
    unfolding loop
    loop_again b a x R none low f zero h = refl
    loop_again b a x R none low f (suc m) h = rw f.1 refl
    loop_again b a x R (turn {a = _} {c = c} {x = y} {y = z} s r) low f m h =
        let whole : plain (y ++ z) ++ R ≡ plain y ++ (plain z ++ R) = plain-then y z R in
        rw whole (loop_after m a c y (plain z ++ R) s (Low-left n y z low) (subst (λ (t : Text). length t ≤ m) whole h)
        (may_follow b c z R r f.0) (Ok (b, R)) (λ k k'. loop_again b c z R r (Low-right n y z low) f k k'))

    loop_deep : (b a : A) (x u : Pieces) (t : Piece) (w : Pieces) (Y : Text) → Steps S b a x → x ≡ u ++ t ∷ w → Low n u → n < t.1 → (m : ℕ) → length (plain u ++ t.0 ∷ Y) ≤ m →
        loop more step m a (plain u ++ t.0 ∷ Y) ≡ stop TooDeep (t.0 ∷ Y)
    loop_deep b a x u t w Y none e low over m h = absurd (nonempty u t w (sym e))
    loop_deep b a x u t w Y (turn {a = _} {c = c} {x = y} {y = z} s r) e low over m h = elim (lies y z u t w e) [
      | in_first v e' ↦
          let s' : S a c (u ++ t ∷ v) = subst (S a c) e' s in
          let on : more (first (plain u ++ t.0 ∷ Y)) ≡ true = ap more (sym (first_or-on u t v Y None)) ∙ begins a c (u ++ t ∷ v) s' in
          loop_stops m a (plain u ++ t.0 ∷ Y) TooDeep (t.0 ∷ Y) h on ((P a).deep u t v c Y s' low over on)
      | in_second v e' e'' ↦
          let low' : Low n (y ++ v) = subst (Low n) e' low in
          let same : plain u ++ t.0 ∷ Y ≡ plain y ++ (plain v ++ t.0 ∷ Y) = ap (λ (k : Pieces). plain k ++ t.0 ∷ Y) e' ∙ plain-then y v (t.0 ∷ Y) in
          rw same (loop_after m a c y (plain v ++ t.0 ∷ Y) s (Low-left n y v low') (subst (λ (k : Text). length k ≤ m) same h)
          (may_follow_deep b c v t w Y (subst (Steps S b c) e'' r)) (stop TooDeep (t.0 ∷ Y))
          (λ k k'. loop_deep b c z v t w Y r e'' (Low-right n y v low') over k k'))
    ]

    plain_long : (k : Piece) (x y : Pieces) (R : Text) → plain ((k ∷ x) ++ y) ≡ plain [] → ⊥
    plain_long k x y R e = cc

    loop_one : (b b' a : A) (x x' : Pieces) (R : Text) → Steps S b a x → Steps S b' a x' → Low n x → Low n x' → Past b (first R) → Past b' (first R) → plain x ≡ plain x' → x ≡ x'
    loop_one b b' a x x' R none none low low' f f' e = refl
    loop_one b b' a x x' R none (turn {a = _} {c = c} {x = []} {y = z} s r) low low' f f' e = let t = begins a c [] s in absurd cc
    loop_one b b' a x x' R none (turn {a = _} {c = c} {x = k ∷ y} {y = z} s r) low low' f f' e = absurd cc
    loop_one b b' a x x' R (turn {a = _} {c = c} {x = []} {y = z} s r) none low low' f f' e = let t = begins a c [] s in absurd cc
    loop_one b b' a x x' R (turn {a = _} {c = c} {x = k ∷ y} {y = z} s r) none low low' f f' e = absurd cc
    loop_one b b' a x x' R (turn {a = _} {c = c} {x = y} {y = z} s r) (turn {a = _} {c = c'} {x = y'} {y = z'} s' r') low low' f f' e =
        let same : plain y ++ (plain z ++ R) ≡ plain y' ++ (plain z' ++ R) = sym (plain-then y z R) ∙ ap (λ (t : Text). t ++ R) e ∙ plain-then y' z' R in
        let k = same_split n Q (step a) (λ o. more o ≡ true) (S a) (V a) F (P a) y y' c c' (plain z ++ R) (plain z' ++ R) s s' (Low-left n y z low) (Low-left n y' z' low')
        (begins_with a c y (plain z ++ R) s) (may_follow b c z R r f.0) (may_follow b' c' z' R r' f'.0) same in
        let back : Steps S b' c z' = subst (λ (d : A). Steps S b' d z') (sym k.0) r' in
        let second : z ≡ z' = loop_one b b' c z z' R r back (Low-right n y z low) (Low-right n y' z' low') f f' (append_cancel_right (plain z) (plain z') R k.1) in
        ap (λ (t : Pieces). t ++ z) k.2 ∙ ap (λ (t : Pieces). y' ++ t) second

    pub exact_turns : (a : A) → Exact n Q (turns more step a) (F a) (λ b x. Steps S b a x) (W a) (λ b o. F b o × (more o ≡ false))
    exact_turns a = record {
      ok = λ T b R i e. loop_ok (length T) a b T R (omega arith) i e;
      err = λ T f i e.
          let l = loop_fails (length T) a T f (omega arith) i e in
          record {
            done = l.done;
            rest = l.rest;
            parts = l.parts;
            low = l.low;
            inner = l.inner;
            left = l.left;
            tree = l.tree;
            tail = l.tail;
            viable = l.viable;
            goes = l.goes;
            local = λ Y s. l.local Y (length (plain l.done ++ Y)) (omega arith) s;
          };
      again = λ x b R s low i f. loop_again b a x R s low f (length (plain x ++ R)) (omega arith);
      deep = λ u t w b Y s low over i. loop_deep b a (u ++ t ∷ w) u t w Y s refl low over (length (plain u ++ t.0 ∷ Y)) (omega arith);
      one = λ x y b b' R s s' low low' i f f' e. loop_one b b' a x y R s s' low low' f f' e;
    }
