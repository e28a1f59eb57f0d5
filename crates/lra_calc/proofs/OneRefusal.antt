-- Whether a script is refused, and why, is given by its lines alone, whatever its sets are made as, unless a set isn't
-- in the other that it is widened by.
use Rattle.std.proofs.Common.{◌≡◌, ◌+◌, ℕ, suc, Bool, true, false, cond, nat_eq, nat_lt, List, [], ◌∷◌, length, map, refl, ap, sym, subst, bytes_eq, nat_le, ◌&&◌, arith, Option, Some, None, Result}
use Rattle.std.proofs.Common.{Ok, Err}
use Rattle.std.specs.{List.All, Prelude.is_some, Prelude.IfSome}
use Rattle.lra_base.specs.Places.{greatest_length}
use Rattle.lra_calc.specs.Crates.lra_duality.Inclusions.{IsInclusion}
use Rattle.lra_calc.specs.Crates.{lra_duality.Maxima.IsMaximum, lra_duality.declared.inclusion.Inclusion.Inclusion, lra_linear_spec.Descriptions.LinearRow, lra_linear_spec.Polyhedra.Polyhedron}
use Rattle.lra_calc.specs.Crates.lra_duality.declared.inclusion.Inclusion.TheVariants as inclusion
use Rattle.lra_script.specs.LineForms.{Generator, Line, Dims, Make, Ask, Recipe, Con, Gen, Combine, Widen, Limited, Map, Forget, Question, Show, Holds, Include, Maximise, line_of, row_of_generator}
use Rattle.lra_script.specs.ScriptText.{is_skipped, words, lines}
use Rattle.lra_calc.specs.MadeSets.{IsMadeOfRows, IsMadeOfGenerators, IsCombined, IsMapped, IsForgotten}
use Rattle.lra_calc.specs.Script.{Fault, UnknownName, Session, Unless, WithSet, wrong_width, wrong_row, numbers_needed, wrong_generator, wrong_coordinate, Made, MakesSet, WidenedBy, Widens, MadeBy}
use Rattle.lra_calc.specs.Script.{Answer, Answers, AnswerTo, made_as, printed_by, session_after, Brings, AfterLine, AfterForm, End, GoesOn, Performs, SkipsOr, CarriesOut, Refusal, AtLine, ended}
use Rattle.lra_calc.specs.Script.{TooLongOr, AnswersTo, BadLine, WrongDimension, IsDeterminedByWords, IsDeterminedByLines, is_widening, widens, NeverWidens, AgreesWith, shown, held}
use Rattle.lra_calc.specs.ShownSets.{include_text, is_wide_inclusion, maximise_text, is_wide_maximum}
use Rattle.lra_calc.proofs.MakingLemmas.{all_tail}

-- the same dimensions, and the same names were made
pub record Alike (s t : Session) : Type 0 where
  pub dims : s.dims ≡ t.dims
  pub names : (name : List ℕ) → is_some (s.made name) ≡ is_some (t.made name)

abbrev AlikeOptions : Option Session → Option Session → Type 0
AlikeOptions None None = Unit {0}
AlikeOptions None (Some t) = ⊥
AlikeOptions (Some s) None = ⊥
AlikeOptions (Some s) (Some t) = Alike s t

abbrev pub AlikeResults : Result Session Fault → Result Session Fault → Type 0
AlikeResults (Ok s) (Ok t) = Alike s t
AlikeResults (Ok s) (Err g) = ⊥
AlikeResults (Err f) (Ok t) = ⊥
AlikeResults (Err f) (Err g) = f ≡ g

pub alike_by : (r q x y : Result Session Fault) → r ≡ x → q ≡ y → AlikeResults x y → AlikeResults r q
alike_by r q x y e f h = subst (λ (z : Result Session Fault). AlikeResults r z) (sym f) (subst (λ (z : Result Session Fault). AlikeResults z y) (sym e) h)

pub agrees_by : {A B : Type 0} (a b x y : Result A B) → a ≡ x → b ≡ y → AgreesWith x y → AgreesWith a b
agrees_by {A = A} {B = B} a b x y h k g = subst (λ (z : Result A B). AgreesWith a z) (sym k) (subst (λ (z : Result A B). AgreesWith z y) (sym h) g)

-- ---- recipes and questions
unless_agrees : {A : Type 0} (P Q : Result A Fault → Type 0) (o u : Option Fault) (r q : Result A Fault) → o ≡ u → (P r → Q q → AgreesWith r q) → Unless o P r → Unless u Q q → AgreesWith r q
unless_agrees P Q (Some f) (Some g) r q e both h k = agrees_by r q (Err f) (Err g) h k (cc)
unless_agrees P Q (Some f) None r q e both h k = absurd (cc)
unless_agrees P Q None (Some g) r q e both h k = absurd (cc)
unless_agrees P Q None None r q e both h k = both h k

set_agrees : {A : Type 0} (P Q : Polyhedron → Result A Fault → Type 0) (name : List ℕ) (o u : Option Polyhedron) (r q : Result A Fault) → is_some o ≡ is_some u →
    ((p t : Polyhedron) → o ≡ Some p → u ≡ Some t → P p r → Q t q → AgreesWith r q) → WithSet name o P r → WithSet name u Q q → AgreesWith r q
set_agrees P Q name None None r q e both h k = agrees_by r q (Err (UnknownName name)) (Err (UnknownName name)) h k refl
set_agrees P Q name None (Some t) r q e both h k = absurd (cc)
set_agrees P Q name (Some p) None r q e both h k = absurd (cc)
set_agrees P Q name (Some p) (Some t) r q e both h k = both p t refl refl h k

made_agree : (P Q : Bool → Polyhedron → Type 0) (r q : Result Made Fault) → MakesSet P r → MakesSet Q q → AgreesWith r q
made_agree P Q (Ok m) (Ok l) h k = tt
made_agree P Q (Ok m) (Err g) h k = absurd k
made_agree P Q (Err f) q h k = absurd h

width_agrees : (count n m : ℕ) → n ≡ m → wrong_width count (suc n) ≡ wrong_width count (suc m)
width_agrees count n m e = ap (λ (k : ℕ). wrong_width count (suc k)) e

-- two widenings, of the sets that names stand for in two sessions, agree
abbrev pub WideningsAgree : Session → Session → Result Made Fault → Result Made Fault → Type 1
WideningsAgree s t r q = (first second : List ℕ) (p u x y : Polyhedron) (n m : ℕ) (P Q : Bool → Polyhedron → Type 0) → s.made first ≡ Some p → t.made first ≡ Some u → s.made second ≡ Some x →
    t.made second ≡ Some y → Widens n p x P r → Widens m u y Q q → AgreesWith r q

pub recipe_agrees : (s t : Session) (recipe : Recipe) (r q : Result Made Fault) → Alike s t → WideningsAgree s t r q → MadeBy s recipe r → MadeBy t recipe q → AgreesWith r q
recipe_agrees s t (Con rows) r q a w h k = unless_agrees _ _ _ _ r q (ap (λ (n : ℕ). wrong_row n rows) a.dims) (made_agree _ _ r q) h k
recipe_agrees s t (Gen gs) r q a w h k = unless_agrees _ _ _ _ r q (ap (λ (n : ℕ). wrong_generator n gs) a.dims) (made_agree _ _ r q) h k
recipe_agrees s t (Combine how first second) r q a w h k =
    set_agrees _ _ first _ _ r q (a.names first) (λ p u b c x y. set_agrees _ _ second _ _ r q (a.names second) (λ o v d f. made_agree _ _ r q) x y) h k
recipe_agrees s t (Widen first second) r q a w h k =
    set_agrees _ _ first _ _ r q (a.names first)
    (λ p u b c x y. set_agrees _ _ second _ _ r q (a.names second) (λ o v d f x1 y1. w first second p u o v s.dims t.dims _ _ b c d f x1 y1) x y) h k
recipe_agrees s t (Limited first second rows) r q a w h k =
    set_agrees _ _ first _ _ r q (a.names first)
    (λ p u b c x y. set_agrees _ _ second _ _ r q (a.names second)
    (λ o v d f x1 y1. unless_agrees _ _ _ _ r q (ap (λ (n : ℕ). wrong_row n rows) a.dims) (w first second p u o v s.dims t.dims _ _ b c d f) x1 y1) x y) h k
recipe_agrees s t (Map how from n form) r q a w h k =
    unless_agrees _ _ _ _ r q (ap (λ (d : ℕ). wrong_coordinate d n) a.dims)
    (λ x y. set_agrees _ _ from _ _ r q (a.names from)
    (λ p u b c x1 y1. unless_agrees _ _ _ _ r q (width_agrees (length form) s.dims t.dims a.dims) (made_agree _ _ r q) x1 y1) x y) h k
recipe_agrees s t (Forget from n) r q a w h k =
    unless_agrees _ _ _ _ r q (ap (λ (d : ℕ). wrong_coordinate d n) a.dims) (λ x y. set_agrees _ _ from _ _ r q (a.names from) (λ p u b c. made_agree _ _ r q) x y) h k

answers_agree : {A B : Type 0} (P : A → Type 0) (Q : B → Type 0) (f : A → List ℕ) (g : B → List ℕ) (b : A → Bool) (c : B → Bool) (r q : Result Answer Fault) → Answers P f b r → Answers Q g c q →
    AgreesWith r q
answers_agree P Q f g b c r q h k = agrees_by r q _ _ h.is k.is tt

pub question_agrees : (s t : Session) (question : Question) (r q : Result Answer Fault) → Alike s t → AnswerTo s question r → AnswerTo t question q → AgreesWith r q
question_agrees s t (Show name) r q a h k = set_agrees _ _ name _ _ r q (a.names name) (λ p u b c x y. agrees_by r q _ _ x y tt) h k
question_agrees s t (Holds name x) r q a h k =
    set_agrees _ _ name _ _ r q (a.names name) (λ p u b c x1 y1. unless_agrees _ _ _ _ r q (width_agrees (length x) s.dims t.dims a.dims) (λ x2 y2. agrees_by r q _ _ x2 y2 tt) x1 y1) h k
question_agrees s t (Include first second) r q a h k =
    set_agrees _ _ first _ _ r q (a.names first) (λ p u b c x y. set_agrees _ _ second _ _ r q (a.names second) (λ o v d f. answers_agree _ _ _ _ _ _ r q) x y) h k
question_agrees s t (Maximise name form) r q a h k =
    set_agrees _ _ name _ _ r q (a.names name)
    (λ p u b c x y. unless_agrees _ _ _ _ r q (width_agrees (length form) s.dims t.dims a.dims) (answers_agree _ _ _ _ _ _ r q) x y) h k

-- ---- faults that words report
abbrev IsToldResult : {A : Type 0} → Result A Fault → Type 0
IsToldResult (Ok a) = Unit {0}
IsToldResult (Err fault) = IsDeterminedByWords fault

told_by : {A : Type 0} (f : Fault) (r : Result A Fault) → r ≡ Err f → IsToldResult r → IsDeterminedByWords f
told_by {A = A} f r e h = subst (λ (x : Result A Fault). IsToldResult x) e h

told_given : {A : Type 0} (step : A → Session) (given : Result A Fault) (r : Result Session Fault) → r ≡ session_after step given → IsToldResult r →
    IsToldResult given
told_given step (Ok a) r e h = tt
told_given step (Err f) r e h = told_by f r e h

-- a widening with no other fault is made
told_widening : (n : ℕ) (p : Polyhedron) (P : Bool → Polyhedron → Type 0) (a : Inclusion) (r : Result Made Fault) → IsToldResult r → WidenedBy n p P a r → (m : Made) × (r ≡ Ok m)
told_widening n p P inclusion.Yes (Ok m) told h = (m, refl)
told_widening n p P inclusion.Yes (Err f) told h = absurd h
told_widening n p P (inclusion.No place) r told h = absurd (told_by _ r h told)
told_widening n p P (inclusion.Wide place row) (Ok m) told h = (m, refl)
told_widening n p P (inclusion.Wide place row) (Err f) told h = absurd h

told_widenings_agree : (s t : Session) (r q : Result Made Fault) → IsToldResult r → IsToldResult q → WideningsAgree s t r q
told_widenings_agree s t r q told_r told_q = λ first second p u x y n m P Q b c d f h k.
    agrees_by r q _ _ (told_widening n p P h.answer r told_r h.gives).1 (told_widening m u Q k.answer q told_q k.gives).1 tt

-- ---- lines
both_named : (b : Bool) (p q : Polyhedron) (o u : Option Polyhedron) → is_some o ≡ is_some u → is_some (cond b (Some p) o) ≡ is_some (cond b (Some q) u)
both_named true p q o u e = refl
both_named false p q o u e = e

both_made : (number : ℕ) (name : List ℕ) (m l : Made) (s t : Session) → Alike s t → Alike (made_as number name m s) (made_as number name l t)
both_made number name m l s t a = record { dims = a.dims; names = λ n. both_named (bytes_eq name n) m.polyhedron l.polyhedron (s.made n) (t.made n) (a.names n) }

both_printed : (number : ℕ) (x y : Answer) (s t : Session) → Alike s t → Alike (printed_by number x s) (printed_by number y t)
both_printed number x y s t a = record { dims = a.dims; names = a.names }

behind_alike : {A : Type 0} (f g : A → Session) (r q : Result A Fault) → AgreesWith r q → ((a b : A) → Alike (f a) (g b)) → AlikeResults (session_after f r) (session_after g q)
behind_alike f g (Ok a) (Ok b) e both = both a b
behind_alike f g (Ok a) (Err y) e both = absurd e
behind_alike f g (Err x) (Ok b) e both = absurd e
behind_alike f g (Err x) (Err y) e both = e

brings_alike : {A : Type 0} (P Q : Result A Fault → Type 0) (f g : A → Session) (r q : Result Session Fault) (h : Brings P f r) (k : Brings Q g q) → AgreesWith h.outcome k.outcome →
    ((a b : A) → Alike (f a) (g b)) → AlikeResults r q
brings_alike P Q f g r q h k agree both =
    alike_by r q (session_after f h.outcome) (session_after g k.outcome) h.is k.is (behind_alike f g h.outcome k.outcome agree both)

-- if widenings agree
pub line_alike_by : (number : ℕ) (s t : Session) (line : Line) (r q : Result Session Fault) → Alike s t →
    ((step other : Made → Session) (x y : Result Made Fault) → r ≡ session_after step x → q ≡ session_after other y → WideningsAgree s t x y) → AfterLine number s line r → AfterLine number t line q →
    AlikeResults r q
line_alike_by number s t (Dims n) r q a w h k = alike_by r q _ _ h k refl
line_alike_by number s t (Make name recipe) r q a w h k =
    brings_alike (MadeBy s recipe) (MadeBy t recipe) (λ m. made_as number name m s) (λ m. made_as number name m t) r q h k
    (recipe_agrees s t recipe h.outcome k.outcome a (w _ _ h.outcome k.outcome h.is k.is) h.told k.told)
    (λ m l. both_made number name m l s t a)
line_alike_by number s t (Ask question) r q a w h k =
    brings_alike (AnswerTo s question) (AnswerTo t question) (λ x. printed_by number x s) (λ x. printed_by number x t) r q h k
    (question_agrees s t question h.outcome k.outcome a h.told k.told)
    (λ x y. both_printed number x y s t a)

line_alike : (number : ℕ) (s t : Session) (line : Line) (r q : Result Session Fault) → Alike s t → IsToldResult r → IsToldResult q → AfterLine number s line r → AfterLine number t line q →
    AlikeResults r q
line_alike number s t line r q a told_r told_q h k =
    line_alike_by number s t line r q a (λ f g x y e d. told_widenings_agree s t x y (told_given f x r e told_r) (told_given g y q d told_q)) h k

pub alike_refl : (r : Result Session Fault) → AlikeResults r r
alike_refl (Ok s) = record { dims = refl; names = λ name. refl }
alike_refl (Err f) = refl

form_alike : (number : ℕ) (s t : Option Session) (form : Option Line) (r q : Result Session Fault) → AlikeOptions s t → IsToldResult r → IsToldResult q → AfterForm number s form r →
    AfterForm number t form q → AlikeResults r q
form_alike number s t None r q a told_r told_q h k = alike_by r q _ _ h k refl
form_alike number None None (Some line) r q a told_r told_q h k = alike_by r q _ _ h k (alike_refl _)
form_alike number None (Some t) (Some line) r q a told_r told_q h k = absurd a
form_alike number (Some s) None (Some line) r q a told_r told_q h k = absurd a
form_alike number (Some s) (Some t) (Some line) r q a told_r told_q h k = line_alike number s t line r q a told_r told_q h k

-- ---- ends
abbrev IsToldEnd : End → Type 0
IsToldEnd e = IsDeterminedByLines (ended e)

told_here : (number : ℕ) (s : Option Session) (r : Result Session Fault) (P : Option Session → Type 0) (e : End) → IsToldEnd e → GoesOn number s r P e → IsToldResult r
told_here number s (Ok t) P e told h = tt
told_here number s (Err f) P e told h = subst IsToldEnd h told

go_on_alike : (number : ℕ) (s t : Option Session) (r q : Result Session Fault) (P Q : Option Session → Type 0) (e f : End) → AlikeResults r q →
    ((u v : Option Session) → AlikeOptions u v → P u → Q v → AgreesWith (ended e) (ended f)) → GoesOn number s r P e → GoesOn number t q Q f → AgreesWith (ended e) (ended f)
go_on_alike number s t (Ok u) (Ok v) P Q e f a later h k = later (Some u) (Some v) a h k
go_on_alike number s t (Ok u) (Err g) P Q e f a later h k = absurd a
go_on_alike number s t (Err f1) (Ok v) P Q e f a later h k = absurd a
go_on_alike number s t (Err f1) (Err g) P Q e f a later h k =
    agrees_by (ended e) (ended f) _ _ (ap ended h) (ap ended k) (ap (λ (x : Fault). AtLine (record { number = number; fault = x })) a)

pub skip_alike : (b : Bool) (A B C D E : Type 0) → (A → C → E) → (B → D → E) → SkipsOr b A B → SkipsOr b C D → E
skip_alike true A B C D E later here h k = later h k
skip_alike false A B C D E later here h k = here h k

carried_alike : (all : List (List ℕ)) (number : ℕ) (s t : Option Session) (e f : End) → AlikeOptions s t → IsToldEnd e → IsToldEnd f → CarriesOut number s all e → CarriesOut number t all f →
    AgreesWith (ended e) (ended f)
carried_alike [] number s t e f a told_e told_f h k = agrees_by (ended e) (ended f) (ended (Ok s)) (ended (Ok t)) (ap ended h) (ap ended k) tt
carried_alike (line ∷ rest) number s t e f a told_e told_f h k =
    skip_alike (is_skipped line) (CarriesOut (number + 1) s rest e) (Performs number s line (λ u. CarriesOut (number + 1) u rest e) e)
    (CarriesOut (number + 1) t rest f) (Performs number t line (λ u. CarriesOut (number + 1) u rest f) f) (AgreesWith (ended e) (ended f))
    (λ x y. carried_alike rest (number + 1) s t e f a told_e told_f x y)
    (λ x y. go_on_alike number s t x.result y.result _ _ e f
    (form_alike number s t (line_of (words line)) x.result y.result a (told_here number s x.result _ e told_e x.goes_on) (told_here number t y.result _ f told_f y.goes_on) x.after y.after)
    (λ u v b p q. carried_alike rest (number + 1) u v e f b told_e told_f p q) x.goes_on y.goes_on)
    h k

-- ---- scripts
told_as : (a b : Result (List ℕ) Refusal) → a ≡ b → IsDeterminedByLines a → IsDeterminedByLines b
told_as a b e h = subst IsDeterminedByLines e h

by_length : (b : Bool) (script : List ℕ) (x y : Result (List ℕ) Refusal) → TooLongOr b script x → TooLongOr b script y → IsDeterminedByLines x → IsDeterminedByLines y → AgreesWith x y
by_length true script x y h k told_x told_y = agrees_by x y _ _ h k refl
by_length false script x y h k told_x told_y =
    agrees_by x y _ _ h.is k.is
    (carried_alike (lines script) 1 None None h.end k.end tt (told_as x _ h.is told_x) (told_as y _ k.is told_y) h.carries_out k.carries_out)

-- two answers to one script are both outputs, or are one refusal
pub one_refusal : (script : List ℕ) (x y : Result (List ℕ) Refusal) → AnswersTo script x → AnswersTo script y → IsDeterminedByLines x → IsDeterminedByLines y → AgreesWith x y
one_refusal script x y h k told_x told_y = by_length (nat_lt greatest_length (length script)) script x y h k told_x told_y

-- ---- scripts that widen nothing
told_as_made : {A : Type 0} (x r : Result A Fault) → r ≡ x → IsToldResult x → IsToldResult r
told_as_made {A = A} x r e h = subst (λ (y : Result A Fault). IsToldResult y) (sym e) h

unless_told : {A : Type 0} (P : Result A Fault → Type 0) (o : Option Fault) (r : Result A Fault) → IfSome o IsDeterminedByWords → (P r → IsToldResult r) → Unless o P r → IsToldResult r
unless_told P (Some f) r t later h = told_as_made (Err f) r h t
unless_told P None r t later h = later h

set_told : {A : Type 0} (P : Polyhedron → Result A Fault → Type 0) (name : List ℕ) (o : Option Polyhedron) (r : Result A Fault) → ((p : Polyhedron) → P p r → IsToldResult r) → WithSet name o P r →
    IsToldResult r
set_told P name None r later h = told_as_made (Err (UnknownName name)) r h tt
set_told P name (Some p) r later h = later p h

made_told : (P : Bool → Polyhedron → Type 0) (r : Result Made Fault) → MakesSet P r → IsToldResult r
made_told P (Ok m) h = tt
made_told P (Err f) h = absurd h

width_told : (b : Bool) (count needed : ℕ) (o : Option Fault) → IfSome o IsDeterminedByWords →
    IfSome (cond b o (Some (WrongDimension count needed))) IsDeterminedByWords
width_told true count needed o h = h
width_told false count needed o h = tt

rows_told : (n : ℕ) (rows : List LinearRow) → IfSome (wrong_row n rows) IsDeterminedByWords
rows_told n [] = tt
rows_told n (g ∷ gs) = width_told (nat_eq (length g.row) (suc n)) (length g.row) (suc n) (wrong_row n gs) (rows_told n gs)

generators_told : (n : ℕ) (gs : List Generator) → IfSome (wrong_generator n gs) IsDeterminedByWords
generators_told n [] = tt
generators_told n (g ∷ gs) =
    let needed = numbers_needed n g.kind in width_told (nat_eq (length g.numbers) needed) (length g.numbers) needed (wrong_generator n gs) (generators_told n gs)

numbers_told : (count needed : ℕ) → IfSome (wrong_width count needed) IsDeterminedByWords
numbers_told count needed = width_told (nat_eq count needed) count needed None tt

either_told : (b : Bool) → IfSome (cond b None (Some BadLine)) IsDeterminedByWords
either_told true = tt
either_told false = tt

coordinate_told : (n k : ℕ) → IfSome (wrong_coordinate n k) IsDeterminedByWords
coordinate_told n k = either_told (nat_le 1 k && nat_le k n)

recipe_told : (s : Session) (recipe : Recipe) (r : Result Made Fault) → is_widening recipe ≡ false → MadeBy s recipe r → IsToldResult r
recipe_told s (Con rows) r e h = unless_told (MakesSet (IsMadeOfRows s.dims rows)) (wrong_row s.dims rows) r (rows_told s.dims rows) (made_told (IsMadeOfRows s.dims rows) r) h
recipe_told s (Gen gs) r e h =
    let P = IsMadeOfGenerators s.dims (map row_of_generator gs) in
    unless_told (MakesSet P) (wrong_generator s.dims gs) r (generators_told s.dims gs) (made_told P r) h
recipe_told s (Combine how first second) r e h =
    set_told (λ p. WithSet second (s.made second) (λ q. MakesSet (IsCombined how s.dims p q))) first (s.made first) r
    (λ p x. set_told (λ q. MakesSet (IsCombined how s.dims p q)) second (s.made second) r (λ q. made_told (IsCombined how s.dims p q) r) x) h
recipe_told s (Widen first second) r e h = absurd (cc)
recipe_told s (Limited first second given) r e h = absurd (cc)
recipe_told s (Map how from n form) r e h =
    unless_told (WithSet from (s.made from) (λ p. Unless (wrong_width (length form) (suc s.dims)) (MakesSet (IsMapped how s.dims n form p)))) (wrong_coordinate s.dims n) r (coordinate_told s.dims n)
    (λ x. set_told (λ p. Unless (wrong_width (length form) (suc s.dims)) (MakesSet (IsMapped how s.dims n form p))) from (s.made from) r
    (λ p y. unless_told (MakesSet (IsMapped how s.dims n form p)) (wrong_width (length form) (suc s.dims)) r (numbers_told (length form) (suc s.dims)) (made_told (IsMapped how s.dims n form p) r) y)
    x)
    h
recipe_told s (Forget from n) r e h =
    unless_told (WithSet from (s.made from) (λ p. MakesSet (IsForgotten s.dims n p))) (wrong_coordinate s.dims n) r (coordinate_told s.dims n)
    (λ x. set_told (λ p. MakesSet (IsForgotten s.dims n p)) from (s.made from) r (λ p. made_told (IsForgotten s.dims n p) r) x) h

answers_told : {A : Type 0} (P : A → Type 0) (text : A → List ℕ) (is_wide : A → Bool) (r : Result Answer Fault) → Answers P text is_wide r → IsToldResult r
answers_told P text is_wide r h = told_as_made _ r h.is tt

question_told : (s : Session) (question : Question) (r : Result Answer Fault) → AnswerTo s question r → IsToldResult r
question_told s (Show name) r h =
    set_told (λ p (x : Result Answer Fault). x ≡ Ok (shown name p)) name (s.made name) r (λ p x. told_as_made (Ok (shown name p)) r x tt) h
question_told s (Holds name x) r h =
    set_told (λ p. Unless (wrong_width (length x) (suc s.dims)) (λ (y : Result Answer Fault). y ≡ Ok (held name x p))) name (s.made name) r
    (λ p y. unless_told (λ (z : Result Answer Fault). z ≡ Ok (held name x p)) (wrong_width (length x) (suc s.dims)) r (numbers_told (length x) (suc s.dims))
    (λ z. told_as_made (Ok (held name x p)) r z tt) y) h
question_told s (Include first second) r h =
    set_told (λ p. WithSet second (s.made second) (λ q. Answers (IsInclusion q.rows p.generators) (include_text first second p) is_wide_inclusion)) first (s.made first) r
    (λ p x. set_told (λ q. Answers (IsInclusion q.rows p.generators) (include_text first second p) is_wide_inclusion) second (s.made second) r
    (λ q. answers_told (IsInclusion q.rows p.generators) (include_text first second p) is_wide_inclusion r) x) h
question_told s (Maximise name form) r h =
    set_told (λ p. Unless (wrong_width (length form) (suc s.dims)) (Answers (IsMaximum form p.generators) (maximise_text name p) is_wide_maximum)) name (s.made name) r
    (λ p y. unless_told (Answers (IsMaximum form p.generators) (maximise_text name p) is_wide_maximum) (wrong_width (length form) (suc s.dims)) r (numbers_told (length form) (suc s.dims))
    (answers_told (IsMaximum form p.generators) (maximise_text name p) is_wide_maximum r) y) h

behind_told : {A : Type 0} (step : A → Session) (given : Result A Fault) → IsToldResult given → IsToldResult (session_after step given)
behind_told step (Ok a) h = tt
behind_told step (Err f) h = h

form_told : (number : ℕ) (s : Option Session) (form : Option Line) (r : Result Session Fault) → widens form ≡ false → AfterForm number s form r → IsToldResult r
form_told number s None r e h = told_as_made _ r h tt
form_told number None (Some (Dims n)) r e h = told_as_made _ r h tt
form_told number None (Some (Make name recipe)) r e h = told_as_made _ r h tt
form_told number None (Some (Ask question)) r e h = told_as_made _ r h tt
form_told number (Some s) (Some (Dims n)) r e h = told_as_made _ r h tt
form_told number (Some s) (Some (Make name recipe)) r e h = told_as_made _ r h.is (behind_told _ h.outcome (recipe_told s recipe h.outcome e h.told))
form_told number (Some s) (Some (Ask question)) r e h = told_as_made _ r h.is (behind_told _ h.outcome (question_told s question h.outcome h.told))

end_here : (number : ℕ) (s : Option Session) (r : Result Session Fault) (P : Option Session → Type 0) (e : End) → IsToldResult r → ((t : Option Session) → P t → IsToldEnd e) → GoesOn number s r P e →
    IsToldEnd e
end_here number s (Ok t) P e told later h = later (Some t) h
end_here number s (Err f) P e told later h = subst IsToldEnd (sym h) told

pub skip_told : (b : Bool) (A B C : Type 0) → (A → C) → (B → C) → SkipsOr b A B → C
skip_told true A B C later here h = later h
skip_told false A B C later here h = here h

end_told : (all : List (List ℕ)) (number : ℕ) (s : Option Session) (e : End) → All (λ line. widens (line_of (words line)) ≡ false) all → CarriesOut number s all e → IsToldEnd e
end_told [] number s e never h = subst IsToldEnd (sym h) tt
end_told (line ∷ rest) number s e never h =
    let later = all_tail (λ (l : List ℕ). widens (line_of (words l)) ≡ false) line rest never in
    skip_told (is_skipped line) (CarriesOut (number + 1) s rest e) (Performs number s line (λ u. CarriesOut (number + 1) u rest e) e) (IsToldEnd e)
    (λ x. end_told rest (number + 1) s e later x)
    (λ x. end_here number s x.result _ e (form_told number s (line_of (words line)) x.result (never 0 line (omega arith)) x.after) (λ t y. end_told rest (number + 1) t e later y) x.goes_on)
    h

told_by_length : (b : Bool) (script : List ℕ) (x : Result (List ℕ) Refusal) → NeverWidens script → TooLongOr b script x → IsDeterminedByLines x
told_by_length true script x never h = subst IsDeterminedByLines (sym h) tt
told_by_length false script x never h = subst IsDeterminedByLines (sym h.is) (end_told (lines script) 1 None h.end never h.carries_out)

-- the lines alone report each answer to a script that widens nothing
pub never_widens : (script : List ℕ) (x : Result (List ℕ) Refusal) → NeverWidens script → AnswersTo script x → IsDeterminedByLines x
never_widens script x never h = told_by_length (nat_lt greatest_length (length script)) script x never h
