-- A turn of a loop, as the code takes it.
use Rattle.std.proofs.Common.{◌≡◌, ℕ, zero, suc, ◌≤◌, ◌<◌, Bool, true, false, cond, List, [], ◌∷◌, ◌++◌, length, map, Option, Some, None, Result, Ok, Err, IfOk, Bor, refl, sym, ap, subst, ◌∙◌, arith}
use Rattle.std.proofs.{Common.inl, Common.inr, lemmas.List.map_push, lemmas.Result.err_from_is_err_and}
use Rattle.std.specs.Result.{IsErrAnd}
use Rattle.lra_base.specs.{declared.refusals.Cause.Cause, declared.refusals.Cause.TheVariants.Syntax}
use Rattle.lra_syntax.specs.{declared.tokens.Mark.Mark, declared.tokens.Token.Token}
use Rattle.lra_parser_spec.specs.Expressions.{after_mark, ended, in_parens}
use Rattle.lra_parser_spec.specs.Reading.{Text, Read, Parse, stop, seq, loop, expect, ParsesAs, ParsesAsErr, has, map_read, tail, turns, chain, chain_step, list_step, list_of}
use Rattle.lra_parser_spec.specs.{Statements.commas_from, Statements.commas, Statements.up_to, Tests.first, Tests.is_mark, declared.reading.Fault.Fault, declared.reading.Stopped.Stopped}
use Rattle.lra_parser_spec.specs.declared.reading.Stopped.TheVariants as stopped
use Rattle.lra_syntax.specs.declared.tokens.Mark.TheVariants as mark
use Rattle.lra_parser_spec.proofs.Exact.{test, ok_is}

module _ {A : Type 0} (more : Option Token → Bool) (step : A → Parse A) where
  -- the loop, from here on, gives the result
  abbrev pub Left : A → Text → Read A → Type 0
  Left a T result = (n : ℕ) × (length T ≤ n) × (loop more step n a T ≡ result)

  pub turn_on : (a b : A) (T R : Text) (result : Read A) → Left a T result → more (first T) ≡ true → step a T ≡ Ok (b, R) → length R < length T → Left b R result
  unfolding loop
  turn_on a b T R result (zero, le, e) on s sh = absurd (omega arith)
  turn_on a b T R result (suc n, le, e) on s sh = (n, omega arith, sym (rw (on, s) refl) ∙ e)

  pub turn_err : (a : A) (T : Text) (f : Fault) (result : Read A) → Left a T result → more (first T) ≡ true → 0 < length T → step a T ≡ Err f → result ≡ Err f
  unfolding loop
  turn_err a T f result (zero, le, e) on some s = absurd (omega arith)
  turn_err a T f result (suc n, le, e) on some s = sym e ∙ rw (on, s) refl

  pub turn_off : (a : A) (T : Text) (result : Read A) → Left a T result → more (first T) ≡ false → result ≡ Ok (a, T)
  unfolding loop
  turn_off a T result (zero, le, e) off = sym e
  turn_off a T result (suc n, le, e) off = sym e ∙ rw off refl

-- a result that is handed on
pub ok_shorter : {X : Type 0} (result : Result (X × Bor Text) Stopped) (T S : Text) → length T < length S
    → IfOk result (λ r. length r.1.now < length T) → IfOk result (λ r. length r.1.now < length S)
ok_shorter (Ok x) T S less h = omega (arith, h)
ok_shorter (Err e) T S less h = tt

-- and one from which nothing more has to be taken
pub ok_less : {X : Type 0} (result : Result (X × Bor Text) Stopped) (T S : Text) → length T < length S
    → IfOk result (λ r. length r.1.now ≤ length T) → IfOk result (λ r. length r.1.now < length S)
ok_less (Ok x) T S less h = omega (arith, h)
ok_less (Err e) T S less h = tt

pub gives_same : {X Y : Type 0} (view : X → Y × Text) (result : Result X Stopped) (a b : Read Y) → b ≡ a → ParsesAs view result a → ParsesAs view result b
gives_same view result a b e g = subst (λ r. ParsesAs view result r) (sym e) g

-- an exit by `?`
pub exit_gives : {X Y : Type 0} (view : X → Y × Text) (result : Result X Stopped) (e : Stopped) (read : Read Y) → IsErrAnd result (λ s. s ≡ e) → ParsesAsErr e read → ParsesAs view result read
exit_gives view result e read is g = let p = err_from_is_err_and result is in rw (p.1, p.2) g

-- an exit at a fault here
pub stop_gives : {X Y : Type 0} (view : X → Y × Text) (result : Result X Stopped) (c : Cause) (T : Text) (read : Read Y) → read ≡ stop c T
    → result ≡ Err (stopped.Fault (record { cause = c; left = length T })) → ParsesAs view result read
stop_gives view result c T read e is = rw is e

pub err_same : {Y : Type 0} (s : Stopped) (a b : Read Y) → b ≡ a → ParsesAsErr s a → ParsesAsErr s b
err_same s a b e g = subst (λ r. ParsesAsErr s r) (sym e) g

-- the exit by `?` if the first of two stops
pub seq_exit : {A B : Type 0} (p : Parse A) (q : A → Parse B) (T : Text) (s : Stopped) → ParsesAsErr s (p T) → ParsesAsErr s (seq p q T)
seq_exit p q T stopped.Memory g = tt
seq_exit p q T (stopped.Fault f) g = rw g refl

-- and if the second does
pub seq_then : {A B : Type 0} (p : Parse A) (q : A → Parse B) (T U : Text) (a : A) (s : Stopped) → p T ≡ Ok (a, U) → ParsesAsErr s (q a U) →
    ParsesAsErr s (seq p q T)
seq_then p q T U a stopped.Memory e g = tt
seq_then p q T U a (stopped.Fault f) e g = rw (e, g) refl

pub seq_handed : {A B : Type 0} (p : Parse A) (q : A → Parse B) (T U : Text) (a : A) → p T ≡ Ok (a, U) → seq p q T ≡ q a U
seq_handed p q T U a e = rw e refl

-- the side of a test that is taken
pub on_side : {A : Type 0} (b : Bool) (x y : A) → true ≡ b → cond b x y ≡ x
on_side true x y e = refl
on_side false x y e = absurd cc

pub off_side : {A : Type 0} (b : Bool) (x y : A) → false ≡ b → cond b x y ≡ y
off_side true x y e = absurd cc
off_side false x y e = refl

pub map_exit : {A B : Type 0} (f : A → B) (p : Parse A) (T : Text) (s : Stopped) → ParsesAsErr s (p T) → ParsesAsErr s (map_read f p T)
map_exit f p T stopped.Memory g = tt
map_exit f p T (stopped.Fault d) g = rw g refl

-- before the first turn
pub turns_start : {A Y : Type 0} (more : Option Token → Bool) (step : A → Parse A) (all : List Y → A) (ys : List Y) (a : A) (T : Text)
    → ys ≡ [] → all [] ≡ a → Left more step (all ys) T (turns more step a T)
turns_start {A} more step all ys a T e f = (length T, omega arith, ap (λ (b : A). loop more step (length T) b T) (ap all e ∙ f))

pub chain_start : {I A O Y : Type 0} (op : Option Token → Option O) (start : I → A) (grow : A → O → I → A) (p : Parse I) (all : List Y → A) (ys : List Y) (i : I) (T M : Text)
    → p T ≡ Ok (i, M) → ys ≡ [] → all [] ≡ start i → Left (λ o. has (op o)) (chain_step op grow p) (all ys) M (chain op start grow p T)
chain_start {A = A} op start grow p all ys i T M g e f =
    let whole : chain op start grow p T ≡ turns (λ o. has (op o)) (chain_step op grow p) (start i) M = rw g refl in
    subst (λ (r : Read A). Left (λ o. has (op o)) (chain_step op grow p) (all ys) M r) (sym whole) (turns_start (λ o. has (op o)) (chain_step op grow p) all ys (start i) M e f)

-- chains: an operator and an item a turn
module _ {I A O : Type 0} (op : Option Token → Option O) (at_end : op None ≡ None) (grow : A → O → I → A) (p : Parse I) where
  abbrev More : Option Token → Bool
  More o = has (op o)

  none_some : (k : O) → op None ≡ Some k → ⊥
  none_some k e = let f : None ≡ Some k = sym at_end ∙ e in cc

  pub chain_turn : (a : A) (k : O) (i : I) (T U R : Text) (result : Read A) → Left More (chain_step op grow p) a T result → op (first T) ≡ Some k → U ≡ tail T → p U ≡ Ok (i, R) → length R ≤ length U
      → Left More (chain_step op grow p) (grow a k i) R result
  chain_turn a k i [] U R result l on u e sh = absurd (none_some k on)
  chain_turn a k i (t ∷ T) U R result l on u e sh =
      let e' : p T ≡ Ok (i, R) = subst (λ (W : Text). p W ≡ Ok (i, R)) u e in
      let s : chain_step op grow p a (t ∷ T) ≡ Ok (grow a k i, R) = rw (on, e') refl in
      let less : length R ≤ length T = subst (λ (W : Text). length R ≤ length W) u sh in
      turn_on More (chain_step op grow p) a (grow a k i) (t ∷ T) R result l (rw on refl) s (omega arith)

  pub grown_turn : (a b : A) (k : O) (i : I) (T U R : Text) (result : Read A) → b ≡ grow a k i → Left More (chain_step op grow p) a T result → op (first T) ≡ Some k → U ≡ tail T → p U ≡ Ok (i, R) →
      length R ≤ length U
      → Left More (chain_step op grow p) b R result
  grown_turn a b k i T U R result g l on u e sh = subst (λ (c : A). Left More (chain_step op grow p) c R result) (sym g) (chain_turn a k i T U R result l on u e sh)

  chain_err : (a : A) (k : O) (T U : Text) (f : Fault) (result : Read A) → Left More (chain_step op grow p) a T result → op (first T) ≡ Some k → U ≡ tail T → p U ≡ Err f → result ≡ Err f
  chain_err a k [] U f result l on u e = absurd (none_some k on)
  chain_err a k (t ∷ T) U f result l on u e =
      let e' : p T ≡ Err f = subst (λ (W : Text). p W ≡ Err f) u e in
      turn_err More (chain_step op grow p) a (t ∷ T) f result l (rw on refl) (omega arith) (rw (on, e') refl)

  -- the exit by `?` in a turn
  pub chain_exit : (a : A) (k : O) (T U : Text) (e : Stopped) (result : Read A) → Left More (chain_step op grow p) a T result → op (first T) ≡ Some k → U ≡ tail T → ParsesAsErr e (p U) →
      ParsesAsErr e result
  chain_exit a k T U stopped.Memory result l on u g = tt
  chain_exit a k T U (stopped.Fault f) result l on u g = chain_err a k T U f result l on u g

  pub chain_end : (a : A) (T : Text) (result : Read A) → Left More (chain_step op grow p) a T result → op (first T) ≡ None → result ≡ Ok (a, T)
  chain_end a T result l off = turn_off More (chain_step op grow p) a T result l (rw off refl)

-- an accumulator that grows at the end of a list
module _ {I A O X : Type 0} (op : Option Token → Option O) (at_end : op None ≡ None) (grow : A → O → I → A) (p : Parse I) (all : List (O × I) → A)
    (all_push : (xs : List (O × I)) (x : O × I) → all (xs ++ x ∷ []) ≡ grow (all xs) x.0 x.1) (view : X → O × I) where
  pub pushed_turn : (items : List X) (item : X) (pushed : List X) (k : O) (i : I) (T U R : Text) (result : Read A) → pushed ≡ items ++ item ∷ [] → view item ≡ (k, i)
      → Left (λ o. has (op o)) (chain_step op grow p) (all (map view items)) T result → Some k ≡ op (first T) → U ≡ tail T → p U ≡ Ok (i, R) → length R ≤ length U
      → Left (λ o. has (op o)) (chain_step op grow p) (all (map view pushed)) R result
  pushed_turn items item pushed k i T U R result e f l on u s sh =
      let turned = chain_turn op at_end grow p (all (map view items)) k i T U R result l (sym on) u s sh in
      let grown : all (map view pushed) ≡ grow (all (map view items)) k i =
      ap (λ (xs : List X). all (map view xs)) e ∙ ap all (map_push view items item ∙ ap (λ (x : O × I). map view items ++ x ∷ []) f) ∙ all_push (map view items) (k, i) in
      subst (λ (a : A). Left (λ o. has (op o)) (chain_step op grow p) a R result) (sym grown) turned

-- a list that got one more item
pub list_grown : {X Y A : Type 0} (all : List Y → A) (view : X → Y) (items pushed : List X) (item : X) → pushed ≡ items ++ item ∷ [] → all (map view pushed) ≡ all (map view items ++ view item ∷ [])
list_grown all view items pushed item e = ap (λ xs. all (map view xs)) e ∙ ap all (map_push view items item)

-- marks whose value isn't kept
pub expect_value : {A B : Type 0} (m : Mark) (a : A) (b : B) (T R : Text) → expect m a T ≡ Ok (a, R) → expect m b T ≡ Ok (b, R)
expect_value {A} m a b T R e = elim (test (is_mark m (first T))) [
  | inl on ↦ let e' : (let r : Read A = Ok (a, tail T) in r) ≡ Ok (a, R) = rw on at e in rw on (ap (λ (r : A × Text). Ok (b, r.1)) (ok_is (a, tail T) (a, R) e'))
  | inr off ↦ let e' : (let r : Read A = stop Syntax T in r) ≡ Ok (a, R) = rw off at e in absurd cc
]

pub expect_err : {A B : Type 0} (m : Mark) (a : A) (b : B) (T : Text) (f : Fault) → expect m a T ≡ Err f → expect m b T ≡ Err f
expect_err {A} m a b T f e = elim (test (is_mark m (first T))) [
  | inl on ↦ let e' : (let r : Read A = Ok (a, tail T) in r) ≡ Err f = rw on at e in absurd cc
  | inr off ↦
      let e' : (let r : Read A = stop Syntax T in r) ≡ Err f = rw off at e in
      let same : record { cause = Syntax; left = length T } ≡ f = cc in
      rw off (ap (λ (g : Fault). Err g) same)
]

-- items with commas between them, if the first stops
pub commas_first : {I B : Type 0} (p : Parse I) (f : I × List I → B) (T : Text) (s : Stopped) → ParsesAsErr s (p T) → ParsesAsErr s (map_read f (commas p) T)
commas_first p f T stopped.Memory g = tt
commas_first p f T (stopped.Fault d) g = rw g refl

-- between two marks
module _ {A : Type 0} (m k : Mark) (p : Parse A) where
  pub between_give : (T U R S : Text) (a : A) → expect m (tt {0}) T ≡ Ok (tt {0}, U) → p U ≡ Ok (a, R)
      → expect k (tt {0}) R ≡ Ok (tt {0}, S) → after_mark m (ended k p) T ≡ Ok (a, S)
  between_give T U R S a o g c = rw (o, g) (expect_value k (tt {0}) a R S c)

  pub between_first : (T : Text) (s : Stopped) → ParsesAsErr s (expect m (tt {0}) T) → ParsesAsErr s (after_mark m (ended k p) T)
  between_first T s g = seq_exit (expect m (tt {0})) (λ _. ended k p) T s g

  pub between_part : (T U : Text) (s : Stopped) → expect m (tt {0}) T ≡ Ok (tt {0}, U) → ParsesAsErr s (p U)
      → ParsesAsErr s (after_mark m (ended k p) T)
  between_part T U s o g = seq_then (expect m (tt {0})) (λ _. ended k p) T U (tt {0}) s o (seq_exit p (λ a. expect k a) U s g)

  pub between_exit : (T U R : Text) (a : A) (s : Stopped) → expect m (tt {0}) T ≡ Ok (tt {0}, U) → p U ≡ Ok (a, R)
      → ParsesAsErr s (expect k (tt {0}) R) → ParsesAsErr s (after_mark m (ended k p) T)
  between_exit T U R a stopped.Memory o g c = tt
  between_exit T U R a (stopped.Fault f) o g c = rw (o, g) (expect_err k (tt {0}) a R f c)

-- parentheses
module _ {A : Type 0} (p : Parse A) where
  pub parens_give : (T U R S : Text) (a : A) → expect mark.OpenParen (tt {0}) T ≡ Ok (tt {0}, U) → p U ≡ Ok (a, R) → expect mark.CloseParen (tt {0}) R ≡ Ok (tt {0}, S) → in_parens p T ≡ Ok (a, S)
  parens_give = between_give mark.OpenParen mark.CloseParen p

  pub parens_exit : (T U R : Text) (a : A) (s : Stopped) → expect mark.OpenParen (tt {0}) T ≡ Ok (tt {0}, U) → p U ≡ Ok (a, R) → ParsesAsErr s (expect mark.CloseParen (tt {0}) R)
      → ParsesAsErr s (in_parens p T)
  parens_exit = between_exit mark.OpenParen mark.CloseParen p

-- the exit by `?` if the mark doesn't come after a part
pub up_to_exit : {A : Type 0} (m : Mark) (p : Parse A) (T M : Text) (a : A) (e : Stopped) → false ≡ is_mark m (first T) → p T ≡ Ok (a, M) → ParsesAsErr e (expect m (tt {0}) M) →
    ParsesAsErr e (up_to m p T)
up_to_exit m p T M a stopped.Memory off g h = tt
up_to_exit m p T M a (stopped.Fault f) off g h = rw (sym off, g) (expect_err m (tt {0}) (Some a) M f h)

-- and if the part itself stops
pub up_to_first : {A : Type 0} (m : Mark) (p : Parse A) (T : Text) (e : Stopped) → false ≡ is_mark m (first T) → ParsesAsErr e (p T) →
    ParsesAsErr e (up_to m p T)
up_to_first m p T stopped.Memory off g = tt
up_to_first m p T (stopped.Fault f) off g = rw (sym off, g) refl

-- lists: items one after the other, as long as the next token passes the test
module _ {I : Type 0} (more : Option Token → Bool) (at_end : more None ≡ false) (p : Parse I) where
  -- the list from here on gives the result
  abbrev pub ListLeft : List I → Text → Read (List I) → Type 0
  ListLeft is T result = Left more (list_step p) is T result

  pub list_start : (is : List I) (S : Text) → is ≡ [] → ListLeft is S (list_of more p S)
  list_start is S e = subst (λ (js : List I). ListLeft js S (list_of more p S)) (sym e) (length S, omega arith, refl)

  pub list_turn : (is js : List I) (i : I) (T R : Text) (result : Read (List I)) → js ≡ is ++ i ∷ [] → ListLeft is T result → true ≡ more (first T)
      → p T ≡ Ok (i, R) → length R < length T
      → ListLeft js R result
  list_turn is js i T R result e l on g less =
      let s : list_step p is T ≡ Ok (is ++ i ∷ [], R) = rw g refl in
      subst (λ (ks : List I). ListLeft ks R result) (sym e) (turn_on more (list_step p) is (is ++ i ∷ []) T R result l (sym on) s less)

  some_text : (T : Text) → true ≡ more (first T) → 0 < length T
  some_text [] e = let never : true ≡ false = e ∙ at_end in absurd cc
  some_text (t ∷ T) e = omega arith

  pub list_err : (is : List I) (T : Text) (f : Fault) (result : Read (List I)) → ListLeft is T result → true ≡ more (first T) → p T ≡ Err f → result ≡ Err f
  list_err is T f result l on g =
      let s : list_step p is T ≡ Err f = rw g refl in
      turn_err more (list_step p) is T f result l (sym on) (some_text T on) s

  -- the exit by `?` in a turn
  pub list_exit : (is : List I) (T : Text) (e : Stopped) (result : Read (List I)) → ListLeft is T result → true ≡ more (first T) → ParsesAsErr e (p T)
      → ParsesAsErr e result
  list_exit is T stopped.Memory result l on g = tt
  list_exit is T (stopped.Fault f) result l on g = list_err is T f result l on g

  pub list_end : (is : List I) (T : Text) (result : Read (List I)) → ListLeft is T result → false ≡ more (first T) → result ≡ Ok (is, T)
  list_end is T result l off = turn_off more (list_step p) is T result l (sym off)

-- lists: a turn after a mark
module _ {I : Type 0} (m : Mark) (p : Parse I) where
  pub comma_turn : (a b : List I) (i : I) (T U R : Text) (result : Read (List I)) → b ≡ a ++ i ∷ [] → Left (is_mark m) (list_step (after_mark m p)) a T result → true ≡ is_mark m (first T) →
      U ≡ tail T →
      p U ≡ Ok (i, R) → length R ≤ length U
      → Left (is_mark m) (list_step (after_mark m p)) b R result
  comma_turn a b i [] U R result g l on u e sh = absurd cc
  comma_turn a b i (t ∷ T) U R result g l on u e sh =
      let e' : p T ≡ Ok (i, R) = subst (λ (W : Text). p W ≡ Ok (i, R)) u e in
      let s : list_step (after_mark m p) a (t ∷ T) ≡ Ok (a ++ i ∷ [], R) = rw (sym on, e') refl in
      let less : length R ≤ length T = subst (λ (W : Text). length R ≤ length W) u sh in
      subst (λ (c : List I). Left (is_mark m) (list_step (after_mark m p)) c R result) (sym g)
      (turn_on (is_mark m) (list_step (after_mark m p)) a (a ++ i ∷ []) (t ∷ T) R result l (sym on) s (omega arith))

  comma_err : (a : List I) (T U : Text) (f : Fault) (result : Read (List I)) → Left (is_mark m) (list_step (after_mark m p)) a T result → true ≡ is_mark m (first T) → U ≡ tail T → p U ≡ Err f →
      result ≡ Err f
  comma_err a [] U f result l on u e = absurd cc
  comma_err a (t ∷ T) U f result l on u e =
      let e' : p T ≡ Err f = subst (λ (W : Text). p W ≡ Err f) u e in
      turn_err (is_mark m) (list_step (after_mark m p)) a (t ∷ T) f result l (sym on) (omega arith) (rw (sym on, e') refl)

  pub comma_exit : (a : List I) (T U : Text) (e : Stopped) (result : Read (List I)) → Left (is_mark m) (list_step (after_mark m p)) a T result → true ≡ is_mark m (first T) → U ≡ tail T →
      ParsesAsErr e (p U) → ParsesAsErr e result
  comma_exit a T U stopped.Memory result l on u g = tt
  comma_exit a T U (stopped.Fault f) result l on u g = comma_err a T U f result l on u g

-- an item, and then a list
module _ {A B : Type 0} (p : Parse A) (f : A × List A → B) where
  pub commas_gives : (a : A) (is : List A) (T M R : Text) → p T ≡ Ok (a, M) → list_of (is_mark mark.Comma) (after_mark mark.Comma p) M ≡ Ok (is, R) → map_read f (commas p) T ≡ Ok (f (a, is), R)
  commas_gives a is T M R e g = rw (e, g) refl

  pub commas_exit : (a : A) (T M : Text) (s : Stopped) → p T ≡ Ok (a, M) → ParsesAsErr s (list_of (is_mark mark.Comma) (after_mark mark.Comma p) M) → ParsesAsErr s (map_read f (commas p) T)
  commas_exit a T M stopped.Memory e g = tt
  commas_exit a T M (stopped.Fault d) e g = rw (e, g) refl

-- if q reads the items after the first
module _ {A B : Type 0} (p q : Parse A) (f : A × List A → B) where
  pub from_gives : (a : A) (is : List A) (T M R : Text) → p T ≡ Ok (a, M) → list_of (is_mark mark.Comma) (after_mark mark.Comma q) M ≡ Ok (is, R) → map_read f (commas_from p q) T ≡ Ok (f (a, is), R)
  from_gives a is T M R e g = rw (e, g) refl

  pub from_exit : (a : A) (T M : Text) (s : Stopped) → p T ≡ Ok (a, M) → ParsesAsErr s (list_of (is_mark mark.Comma) (after_mark mark.Comma q) M) → ParsesAsErr s (map_read f (commas_from p q) T)
  from_exit a T M stopped.Memory e g = tt
  from_exit a T M (stopped.Fault d) e g = rw (e, g) refl
