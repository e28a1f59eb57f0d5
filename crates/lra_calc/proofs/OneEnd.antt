-- A script that isn't flagged has one end: each of its sets is then made exactly, by its one pair of canonical lists.
use Rattle.std.proofs.Common.{◌≡◌, ◌+◌, ℕ, suc, Bool, true, false, List, [], ◌∷◌, length, map, refl, ap, sym, ◌∙◌, subst, ◌⊎◌, inl, inr, Option, Some, None, Result, Ok, Err}
use Rattle.lra_calc.specs.Crates.lra_linear_spec.OperationStrain.{FromRowsStrains, FromGeneratorsStrains, ForgetStrains, StandardStrains, LimitedStrains}
use Rattle.lra_calc.specs.Crates.{lra_duality.Inclusions.IsInclusion, lra_duality.Maxima.IsMaximum, lra_duality.declared.inclusion.Inclusion.Inclusion, lra_linear_spec.Descriptions.Con as points_of}
use Rattle.lra_calc.specs.Crates.{lra_linear_spec.Descriptions.Gen as generated_by, lra_linear_spec.Points.PointSet, lra_linear_spec.Polyhedra.Polyhedron, lra_linear_spec.Strain.Loss}
use Rattle.lra_calc.specs.Crates.lra_linear_spec.SetOperations as sets
use Rattle.lra_calc.proofs.Crates.lra_linear_spec.Polyhedra.{polyhedron_unique}
use Rattle.lra_script.specs.LineForms.{row_of_generator, Line, Dims, Make, Ask, Recipe, Con, Gen, Combine, Widen, Limited, Map, Forget, Question, Show, Holds, Include, Maximise, line_of}
use Rattle.lra_script.specs.ScriptText.{is_skipped, words}
use Rattle.lra_calc.specs.MadeSets.{IsMadeOf, IsMadeOfRows, IsMadeOfGenerators, combined_sets, CombiningStrains, IsCombined, mapped_set, MappingStrains, IsMapped, IsForgotten, IsWidened, IsLimited}
use Rattle.lra_calc.specs.Script.{Fault, Session, flagged_by, Unless, WithSet, wrong_row, wrong_generator, wrong_coordinate, wrong_width, Made, MakesSet, WidenedBy, Widens, MadeBy, Answer, Answers}
use Rattle.lra_calc.specs.Script.{shown, held, AnswerTo, made_as, printed_by, session_after, AfterLine, AfterForm, End, GoesOn, Performs, CarriesOut, stopped, last_session, IsUnflagged, AgreesWith}
use Rattle.lra_calc.specs.{MadeSets.IsAllFlagged, ShownSets.include_text, ShownSets.is_wide_inclusion, ShownSets.maximise_text, ShownSets.is_wide_maximum}
use Rattle.lra_calc.specs.Crates.lra_linear_spec.Widening as widening
use Rattle.lra_calc.specs.Crates.lra_duality.declared.inclusion.Inclusion.TheVariants as inclusion
use Rattle.lra_calc.proofs.OneAnswer.{one_inclusion, one_maximum}
use Rattle.lra_calc.proofs.OneRefusal.{AlikeResults, agrees_by, alike_by, alike_refl, line_alike_by, skip_alike, skip_told, WideningsAgree}

-- flagged, by some line
abbrev IsFlagged : Session → Type 0
IsFlagged s = (k : ℕ) × (s.flagged ≡ Some k)

-- ---- a flag stays
flag_kept : (number k : ℕ) (b : Bool) (o : Option ℕ) → o ≡ Some k → flagged_by number b o ≡ Some k
flag_kept number k false o e = e
flag_kept number k true (Some j) e = e
flag_kept number k true None e = absurd (cc)

set_here : (number : ℕ) (o : Option ℕ) → (k : ℕ) × (flagged_by number true o ≡ Some k)
set_here number (Some j) = (j, refl)
set_here number None = (number, refl)

same_session : (s t : Session) → (let r : Result Session Fault = Ok s in r) ≡ Ok t → s ≡ t
same_session s t e = cc

-- a line that is carried out had a result, and what that brings comes after it
brought : {A : Type 0} (step : A → Session) (given : Result A Fault) (t : Session) → Ok t ≡ session_after step given → (a : A) × (given ≡ Ok a) × (t ≡ step a)
brought step (Ok a) t e = (a, refl, same_session t (step a) e)
brought step (Err f) t e = absurd (cc)

line_keeps : (number : ℕ) (s t : Session) (line : Line) → AfterLine number s line (Ok t) → IsFlagged s → IsFlagged t
line_keeps number s t (Dims n) h k = absurd (cc)
line_keeps number s t (Make name recipe) h k =
    let b = brought (λ m. made_as number name m s) h.outcome t h.is in subst IsFlagged (sym b.2) (k.0, flag_kept number k.0 b.0.flagged s.flagged k.1)
line_keeps number s t (Ask question) h k =
    let b = brought (λ a. printed_by number a s) h.outcome t h.is in subst IsFlagged (sym b.2) (k.0, flag_kept number k.0 b.0.wide s.flagged k.1)

form_keeps : (number : ℕ) (s t : Session) (form : Option Line) → AfterForm number (Some s) form (Ok t) → IsFlagged s → IsFlagged t
form_keeps number s t None h k = absurd (cc)
form_keeps number s t (Some line) h k = line_keeps number s t line h k

-- what comes after the line, or that it is refused
abbrev Goes : ℕ → Option Session → Result Session Fault → (Option Session → Type 0) → End → Type 0
Goes number s r Later end = ((v : Session) × (r ≡ Ok v) × Later (Some v)) ⊎ ((f : Fault) × (r ≡ Err f) × (end ≡ Err (stopped number s f)))

goes : (number : ℕ) (s : Option Session) (r : Result Session Fault) (Later : Option Session → Type 0) (end : End) → GoesOn number s r Later end → Goes number s r Later end
goes number s (Ok v) Later end h = inl (v, refl, h)
goes number s (Err f) Later end h = inr (f, refl, h)

flagged_last : (s : Session) (o : Option Session) → o ≡ Some s → IsFlagged s → IsUnflagged o → ⊥
flagged_last s (Some t) e k u = let same : t ≡ s = cc in let none : s.flagged ≡ None = subst (λ (v : Session). v.flagged ≡ None) same u in let f = k.1 in cc
flagged_last s None e k u = cc

stays : (all : List (List ℕ)) (number : ℕ) (s : Session) (end : End) → IsFlagged s → CarriesOut number (Some s) all end → IsUnflagged (last_session end) → ⊥
stays [] number s end k h u = flagged_last s (last_session end) (ap last_session h) k u
stays (line ∷ rest) number s end k h u =
    skip_told (is_skipped line) (CarriesOut (number + 1) (Some s) rest end) (Performs number (Some s) line (λ v. CarriesOut (number + 1) v rest end) end) ⊥
    (λ x. stays rest (number + 1) s end k x u)
    (λ x. elim (goes number (Some s) x.result (λ v. CarriesOut (number + 1) v rest end) end x.goes_on) [
      | inl go ↦ stays rest (number + 1) go.0 end (form_keeps number s go.0 (line_of (words line)) (subst (AfterForm number (Some s) (line_of (words line))) go.1 x.after) k) go.2 u
      | inr stop ↦ flagged_last s (last_session end) (ap last_session stop.2) k u
    ])
    h

-- ---- what is made without a flag
both_unless : {A : Type 0} (P : Result A Fault → Type 0) (o : Option Fault) (a b : A) (C : Type 0) → (P (Ok a) → P (Ok b) → C) → Unless o P (Ok a) → Unless o P (Ok b) → C
both_unless P (Some f) a b C both h k = absurd (cc)
both_unless P None a b C both h k = both h k

both_sets : {A : Type 0} (P : Polyhedron → Result A Fault → Type 0) (name : List ℕ) (o : Option Polyhedron) (a b : A) (C : Type 0) → ((p : Polyhedron) → P p (Ok a) → P p (Ok b) → C) →
    WithSet name o P (Ok a) → WithSet name o P (Ok b) → C
both_sets P name None a b C both h k = absurd (cc)
both_sets P name (Some p) a b C both h k = both p h k

set_once : (n : ℕ) (P : PointSet) (Strains : Loss → Type 0) (f g : Bool) (p q : Polyhedron) → f ≡ false → g ≡ false → IsMadeOf n P Strains f p → IsMadeOf n P Strains g q →
    (let m : Made = record { flagged = f; polyhedron = p } in m) ≡ record { flagged = g; polyhedron = q }
set_once n P Strains true g p q clear_f clear_g h k = absurd (cc)
set_once n P Strains false true p q clear_f clear_g h k = absurd (cc)
set_once n P Strains false false p q clear_f clear_g h k =
    ap (λ (x : Polyhedron). let m : Made = record { flagged = false; polyhedron = x } in m) (polyhedron_unique n P P p q (λ x i c. c, λ x i c. c) h k)

-- a widening whose inclusion is wide is flagged
unflagged_by : (n : ℕ) (p : Polyhedron) (Told : Bool → Polyhedron → Type 0) (a : Inclusion) (m : Made) → m.flagged ≡ false → WidenedBy n p Told a (Ok m) → Told m.flagged m.polyhedron
unflagged_by n p Told inclusion.Yes m clear h = h
unflagged_by n p Told (inclusion.No place) m clear h = absurd (cc)
unflagged_by n p Told (inclusion.Wide place row) m clear h = absurd (subst (λ (b : Bool). IsAllFlagged n b m.polyhedron) clear h)

widened_once : (n : ℕ) (p q : Polyhedron) (P : PointSet) (Strains : Loss → Type 0) (m l : Made) → m.flagged ≡ false → l.flagged ≡ false → Widens n p q (IsMadeOf n P Strains) (Ok m) →
    Widens n p q (IsMadeOf n P Strains) (Ok l) → m ≡ l
widened_once n p q P Strains m l clear_m clear_l h k =
    set_once n P Strains m.flagged l.flagged m.polyhedron l.polyhedron clear_m clear_l
    (unflagged_by n p (IsMadeOf n P Strains) h.answer m clear_m h.gives)
    (unflagged_by n p (IsMadeOf n P Strains) k.answer l clear_l k.gives)

made_once : (s : Session) (recipe : Recipe) (m l : Made) → m.flagged ≡ false → l.flagged ≡ false → MadeBy s recipe (Ok m) → MadeBy s recipe (Ok l) → m ≡ l
made_once s (Con rows) m l clear_m clear_l h k =
    both_unless (MakesSet (IsMadeOfRows s.dims rows)) (wrong_row s.dims rows) m l (m ≡ l)
    (λ x y. set_once s.dims (points_of rows) (FromRowsStrains s.dims rows) m.flagged l.flagged m.polyhedron l.polyhedron clear_m clear_l x y) h k
made_once s (Gen gs) m l clear_m clear_l h k =
    both_unless (MakesSet (IsMadeOfGenerators s.dims (map row_of_generator gs))) (wrong_generator s.dims gs) m l (m ≡ l)
    (λ x y. set_once s.dims (generated_by (map row_of_generator gs)) (FromGeneratorsStrains s.dims (map row_of_generator gs)) m.flagged l.flagged m.polyhedron l.polyhedron clear_m clear_l x y) h k
made_once s (Combine how first second) m l clear_m clear_l h k =
    both_sets (λ p. WithSet second (s.made second) (λ q. MakesSet (IsCombined how s.dims p q))) first (s.made first) m l (m ≡ l)
    (λ p x y. both_sets (λ q. MakesSet (IsCombined how s.dims p q)) second (s.made second) m l (m ≡ l)
    (λ q x1 y1. set_once s.dims (combined_sets how s.dims p q) (CombiningStrains how p q) m.flagged l.flagged m.polyhedron l.polyhedron clear_m clear_l x1 y1) x y) h k
made_once s (Widen first second) m l clear_m clear_l h k =
    both_sets (λ p. WithSet second (s.made second) (λ q. Widens s.dims p q (IsWidened s.dims p q))) first (s.made first) m l (m ≡ l)
    (λ p x y. both_sets (λ q. Widens s.dims p q (IsWidened s.dims p q)) second (s.made second) m l (m ≡ l)
    (λ q x1 y1. widened_once s.dims p q (widening.StandardWidening p q) (StandardStrains p q) m l clear_m clear_l x1 y1) x y) h k
made_once s (Limited first second given) m l clear_m clear_l h k =
    both_sets (λ p. WithSet second (s.made second) (λ q. Unless (wrong_row s.dims given) (Widens s.dims p q (IsLimited s.dims given p q)))) first (s.made first) m l (m ≡ l)
    (λ p x y. both_sets (λ q. Unless (wrong_row s.dims given) (Widens s.dims p q (IsLimited s.dims given p q))) second (s.made second) m l (m ≡ l)
    (λ q x1 y1. both_unless (Widens s.dims p q (IsLimited s.dims given p q)) (wrong_row s.dims given) m l (m ≡ l)
    (λ x2 y2. widened_once s.dims p q (widening.LimitedWidening p q given) (LimitedStrains p q given) m l clear_m clear_l x2 y2) x1 y1) x y) h k
made_once s (Map how from n form) m l clear_m clear_l h k =
    both_unless (WithSet from (s.made from) (λ p. Unless (wrong_width (length form) (suc s.dims)) (MakesSet (IsMapped how s.dims n form p)))) (wrong_coordinate s.dims n) m l (m ≡ l)
    (λ x y. both_sets (λ p. Unless (wrong_width (length form) (suc s.dims)) (MakesSet (IsMapped how s.dims n form p))) from (s.made from) m l (m ≡ l)
    (λ p x1 y1. both_unless (MakesSet (IsMapped how s.dims n form p)) (wrong_width (length form) (suc s.dims)) m l (m ≡ l)
    (λ x2 y2. set_once s.dims (mapped_set how s.dims n form p) (MappingStrains how n form p) m.flagged l.flagged m.polyhedron l.polyhedron clear_m clear_l x2 y2) x1 y1) x y) h k
made_once s (Forget from n) m l clear_m clear_l h k =
    both_unless (WithSet from (s.made from) (λ p. MakesSet (IsForgotten s.dims n p))) (wrong_coordinate s.dims n) m l (m ≡ l)
    (λ x y. both_sets (λ p. MakesSet (IsForgotten s.dims n p)) from (s.made from) m l (m ≡ l)
    (λ p x1 y1. set_once s.dims (sets.Forget s.dims n (points_of p.rows)) (ForgetStrains n p) m.flagged l.flagged m.polyhedron l.polyhedron clear_m clear_l x1 y1) x y) h k

same_answer : (a b : Answer) → (let r : Result Answer Fault = Ok a in r) ≡ Ok b → a ≡ b
same_answer a b e = cc

right_once : {A : Type 0} (P : A → Type 0) (text : A → List ℕ) (is_wide : A → Bool) (a b : Answer) → ((x y : A) → P x → P y → x ≡ y) → Answers P text is_wide (Ok a) → Answers P text is_wide (Ok b) →
    a ≡ b
right_once {A = A} P text is_wide a b one h k =
    same_answer a (record { text = text h.answer; wide = is_wide h.answer }) h.is
    ∙ ap (λ (x : A). let c : Answer = record { text = text x; wide = is_wide x } in c) (one h.answer k.answer h.is_right k.is_right)
    ∙ sym (same_answer b (record { text = text k.answer; wide = is_wide k.answer }) k.is)

answered_once : (s : Session) (question : Question) (a b : Answer) → AnswerTo s question (Ok a) → AnswerTo s question (Ok b) → a ≡ b
answered_once s (Show name) a b h k =
    both_sets (λ p (r : Result Answer Fault). r ≡ Ok (shown name p)) name (s.made name) a b (a ≡ b) (λ p x y. same_answer a b (x ∙ sym y)) h k
answered_once s (Holds name x) a b h k =
    both_sets (λ p. Unless (wrong_width (length x) (suc s.dims)) (λ (r : Result Answer Fault). r ≡ Ok (held name x p))) name (s.made name) a b (a ≡ b)
    (λ p x1 y1. both_unless (λ (r : Result Answer Fault). r ≡ Ok (held name x p)) (wrong_width (length x) (suc s.dims)) a b (a ≡ b) (λ x2 y2. same_answer a b (x2 ∙ sym y2)) x1 y1) h k
answered_once s (Include first second) a b h k =
    both_sets (λ p. WithSet second (s.made second) (λ q. Answers (IsInclusion q.rows p.generators) (include_text first second p) is_wide_inclusion)) first (s.made first) a b (a ≡ b)
    (λ p x y. both_sets (λ q. Answers (IsInclusion q.rows p.generators) (include_text first second p) is_wide_inclusion) second (s.made second) a b (a ≡ b)
    (λ q x1 y1. right_once (IsInclusion q.rows p.generators) (include_text first second p) is_wide_inclusion a b (one_inclusion q.rows p.generators) x1 y1) x y) h k
answered_once s (Maximise name form) a b h k =
    both_sets (λ p. Unless (wrong_width (length form) (suc s.dims)) (Answers (IsMaximum form p.generators) (maximise_text name p) is_wide_maximum)) name (s.made name) a b (a ≡ b)
    (λ p x y. both_unless (Answers (IsMaximum form p.generators) (maximise_text name p) is_wide_maximum) (wrong_width (length form) (suc s.dims)) a b (a ≡ b)
    (λ x1 y1. right_once (IsMaximum form p.generators) (maximise_text name p) is_wide_maximum a b (one_maximum form p.generators) x1 y1) x y) h k

-- ---- lines
unflagged : (number : ℕ) (b : Bool) (o : Option ℕ) → (((k : ℕ) × (flagged_by number b o ≡ Some k)) → ⊥) → b ≡ false
unflagged number true o never = absurd (never (set_here number o))
unflagged number false o never = refl

line_once : (number : ℕ) (s t u : Session) (line : Line) → (IsFlagged t → ⊥) → (IsFlagged u → ⊥) → AfterLine number s line (Ok t) → AfterLine number s line (Ok u) → t ≡ u
line_once number s t u (Dims n) not_t not_u h k = absurd (cc)
line_once number s t u (Make name recipe) not_t not_u h k =
    let step : Made → Session = λ m. made_as number name m s in
    let b = brought step h.outcome t h.is in
    let d = brought step k.outcome u k.is in
    let clear_b = unflagged number b.0.flagged s.flagged (λ f. not_t (subst IsFlagged (sym b.2) f)) in
    let clear_d = unflagged number d.0.flagged s.flagged (λ f. not_u (subst IsFlagged (sym d.2) f)) in
    b.2 ∙ ap step (made_once s recipe b.0 d.0 clear_b clear_d (subst (MadeBy s recipe) b.1 h.told) (subst (MadeBy s recipe) d.1 k.told)) ∙ sym d.2
line_once number s t u (Ask question) not_t not_u h k =
    let step : Answer → Session = λ a. printed_by number a s in
    let b = brought step h.outcome t h.is in
    let d = brought step k.outcome u k.is in
    b.2 ∙ ap step (answered_once s question b.0 d.0 (subst (AnswerTo s question) b.1 h.told) (subst (AnswerTo s question) d.1 k.told)) ∙ sym d.2

form_once : (number : ℕ) (s : Option Session) (t u : Session) (form : Option Line) → (IsFlagged t → ⊥) → (IsFlagged u → ⊥) → AfterForm number s form (Ok t) → AfterForm number s form (Ok u) → t ≡ u
form_once number s t u None not_t not_u h k = absurd (cc)
form_once number None t u (Some line) not_t not_u h k = same_session t u (h ∙ sym k)
form_once number (Some s) t u (Some line) not_t not_u h k = line_once number s t u line not_t not_u h k

-- ---- one result of a line, but for what it makes
-- widenings of the same sets are all made, or have one fault
widened_alike : (n m : ℕ) (p : Polyhedron) (P Q : Bool → Polyhedron → Type 0) (a : Inclusion) (r q : Result Made Fault) → WidenedBy n p P a r → WidenedBy m p Q a q → AgreesWith r q
widened_alike n m p P Q inclusion.Yes (Ok x) (Ok y) h k = tt
widened_alike n m p P Q inclusion.Yes (Ok x) (Err g) h k = absurd k
widened_alike n m p P Q inclusion.Yes (Err f) q h k = absurd h
widened_alike n m p P Q (inclusion.No place) r q h k = agrees_by r q _ _ h k refl
widened_alike n m p P Q (inclusion.Wide place row) (Ok x) (Ok y) h k = tt
widened_alike n m p P Q (inclusion.Wide place row) (Ok x) (Err g) h k = absurd k
widened_alike n m p P Q (inclusion.Wide place row) (Err f) q h k = absurd h

one_set : (o : Option Polyhedron) (p q : Polyhedron) → o ≡ Some p → o ≡ Some q → p ≡ q
one_set o p q e d = cc

widens_alike : (n m : ℕ) (p u x y : Polyhedron) (P Q : Bool → Polyhedron → Type 0) (r q : Result Made Fault) → p ≡ u → x ≡ y → Widens n p x P r → Widens m u y Q q → AgreesWith r q
widens_alike n m p u x y P Q r q e d h k =
    let k1 : Widens m p x Q q = subst (λ (v : Polyhedron). Widens m v x Q q) (sym e) (subst (λ (v : Polyhedron). Widens m u v Q q) (sym d) k) in
    widened_alike n m p P Q h.answer r q h.gives
    (subst (λ (a : Inclusion). WidenedBy m p Q a q) (one_inclusion x.rows p.generators k1.answer h.answer k1.is_right h.is_right) k1.gives)

widenings_agree : (s : Session) (r q : Result Made Fault) → WideningsAgree s s r q
widenings_agree s r q = λ first second p u x y n m P Q b c d f h k.
    widens_alike n m p u x y P Q r q (one_set (s.made first) p u b c) (one_set (s.made second) x y d f) h k

form_agrees : (number : ℕ) (s : Option Session) (form : Option Line) (r q : Result Session Fault) → AfterForm number s form r → AfterForm number s form q → AlikeResults r q
form_agrees number s None r q h k = alike_by r q _ _ h k refl
form_agrees number None (Some line) r q h k = alike_by r q _ _ h k (alike_refl _)
form_agrees number (Some s) (Some line) r q h k = line_alike_by number s s line r q (record { dims = refl; names = λ name. refl }) (λ f g x y e d. widenings_agree s x y) h k

-- ---- one end
same_fault : (r q : Result Session Fault) (f g : Fault) → r ≡ Err f → q ≡ Err g → AlikeResults r q → f ≡ g
same_fault r q f g e d a = subst (λ (x : Result Session Fault). AlikeResults (Err f) x) d (subst (λ (x : Result Session Fault). AlikeResults x q) e a)

made_and_refused : (r q : Result Session Fault) (v : Session) (f : Fault) → r ≡ Ok v → q ≡ Err f → AlikeResults r q → ⊥
made_and_refused r q v f e d a = subst (λ (x : Result Session Fault). AlikeResults (Ok v) x) d (subst (λ (x : Result Session Fault). AlikeResults x q) e a)

refused_and_made : (r q : Result Session Fault) (v : Session) (f : Fault) → r ≡ Err f → q ≡ Ok v → AlikeResults r q → ⊥
refused_and_made r q v f e d a = subst (λ (x : Result Session Fault). AlikeResults (Err f) x) d (subst (λ (x : Result Session Fault). AlikeResults x q) e a)

-- a line and those after it
one_step : (form : Option Line) (number : ℕ) (s : Option Session) (e f : End) (P Q : Option Session → Type 0) (r q : Result Session Fault) → AfterForm number s form r → AfterForm number s form q →
    ((v : Session) → P (Some v) → IsFlagged v → ⊥) → ((v : Session) → Q (Some v) → IsFlagged v → ⊥) → ((v : Session) → P (Some v) → Q (Some v) → e ≡ f) → Goes number s r P e → Goes number s q Q f →
    e ≡ f
one_step form number s e f P Q r q h k clear_e clear_f later x y =
    let alike = form_agrees number s form r q h k in
    elim x [
      | inl a ↦ elim y [
        | inl b ↦
            let same : a.0 ≡ b.0 = form_once number s a.0 b.0 form (clear_e a.0 a.2) (clear_f b.0 b.2) (subst (AfterForm number s form) a.1 h) (subst (AfterForm number s form) b.1 k) in
            later b.0 (subst (λ (v : Session). P (Some v)) same a.2) b.2
        | inr b ↦ absurd (made_and_refused r q a.0 b.0 a.1 b.1 alike)
      ]
      | inr a ↦ elim y [
        | inl b ↦ absurd (refused_and_made r q b.0 a.0 a.1 b.1 alike)
        | inr b ↦ a.2 ∙ ap (λ (g : Fault). let end : End = Err (stopped number s g) in end) (same_fault r q a.0 b.0 a.1 b.1 alike) ∙ sym b.2
      ]
    ]

-- two ends of the lines are one, if no line is flagged
pub one_end : (all : List (List ℕ)) (number : ℕ) (s : Option Session) (e f : End) → CarriesOut number s all e → CarriesOut number s all f → IsUnflagged (last_session e) →
    IsUnflagged (last_session f) → e ≡ f
one_end [] number s e f h k clear_e clear_f = h ∙ sym k
one_end (line ∷ rest) number s e f h k clear_e clear_f =
    let later_e : Option Session → Type 0 = λ v. CarriesOut (number + 1) v rest e in
    let later_f : Option Session → Type 0 = λ v. CarriesOut (number + 1) v rest f in
    skip_alike (is_skipped line) (CarriesOut (number + 1) s rest e) (Performs number s line later_e e)
    (CarriesOut (number + 1) s rest f) (Performs number s line later_f f) (e ≡ f)
    (λ x y. one_end rest (number + 1) s e f x y clear_e clear_f)
    (λ x y. one_step (line_of (words line)) number s e f later_e later_f x.result y.result x.after y.after
    (λ v c g. stays rest (number + 1) v e g c clear_e) (λ v c g. stays rest (number + 1) v f g c clear_f)
    (λ v c d. one_end rest (number + 1) (Some v) e f c d clear_e clear_f)
    (goes number s x.result later_e e x.goes_on) (goes number s y.result later_f f y.goes_on))
    h k
