-- Readers of a `switch`'s braces as the code takes them.
use Rattle.std.proofs.Common.{◌≡◌, ℕ, zero, suc, ◌-◌, ◌<◌, Bool, true, false, cond, List, [], ◌∷◌, ◌++◌, length, map, append_assoc, Result, Ok, Err, refl, sym, ap, ◌∙◌, arith, inl, inr, Box, Global}
use Rattle.std.proofs.lemmas.List.{map_push}
use Rattle.lra_parse_statements.specs.Crates.lra_base.declared.refusals.Cause.TheVariants.{Syntax, TooDeep}
use Rattle.lra_syntax.specs.Trees.{StmtTree, switch, CasesTree, no_cases, labelled, stated}
use Rattle.lra_syntax.specs.declared.trees.CaseItem.{CaseItem, Label as LabelItem, Stated as StatedItem}
use Rattle.lra_syntax.specs.{Views.CasePart, Views.expr_view, Views.stmt_view, Views.case_view, declared.tokens.Mark.Mark, declared.trees.PlacedLabel.PlacedLabel, declared.trees.Stmt.Stmt}
use Rattle.lra_syntax.specs.declared.tokens.Mark.TheVariants as mark
use Rattle.lra_syntax.specs.Views as views
use Rattle.lra_parser_spec.specs.Reading.{Text, Read, Parse, ◌>>=◌, expect, list_step, list_of, ParsesAs, ParsesAsErr, map_read}
use Rattle.lra_parser_spec.specs.Statements.{label_parser, labels_at, block_from, levels, block_at, braces_at, simple_at, stated_at, LabelledTree, with_labels, cases_from, begins_case, labelled_of}
use Rattle.lra_parser_spec.specs.Statements.{add_label, cases_at, braces_of}
use Rattle.lra_parser_spec.specs.{Tests.first, Tests.is_mark, Tests.begins_label, declared.reading.Fault.Fault, declared.reading.Stopped.Stopped}
use Rattle.lra_parser_spec.specs.declared.reading.Stopped.TheVariants as stopped
use Rattle.lra_parser_spec.proofs.Exact.{test, bind_ok, bind_err, ok_is}
use Rattle.lra_parse_expressions.proofs.Turning.{Left, turn_on, turn_err, turn_off, err_same, map_exit}
use Rattle.lra_parse_statements.specs.Cases.{label_parts, parts_of, first_part, told_part, opened_part, fault_at_braces}
use Rattle.lra_parse_heads.specs.{Begun.begun_rest, declared.heads.Begun.Begun, declared.heads.Switched.Switched}
use Rattle.lra_parse_heads.specs.declared.heads.Begun.TheVariants as begun_as
use Rattle.lra_parse_statements.proofs.Stated.{label_part, stated_part}

pub braces_zero : (d : ℕ) (T : Text) → d ≡ 0 → braces_at d T ≡ Err (fault_at_braces T)
unfolding levels
braces_zero zero T h = elim (test (is_mark mark.OpenBrace (first T))) [ inl on ↦ rw on refl | inr off ↦ rw off refl ]
braces_zero (suc d) T h = absurd (omega arith)

pub braces_some : (d : ℕ) (T : Text) → (d ≡ 0 → ⊥) → braces_at d T ≡ braces_of (cases_at (d - 1)) T
unfolding levels
braces_some zero T h = absurd (h refl)
braces_some (suc d) T h = let e : d ≡ suc d - 1 = omega arith in ap (λ (k : ℕ). braces_of (cases_at k) T) e

pub ruleset braces_rules = (braces_zero, braces_some)

-- an exit if a level is left
pub some_exit : (d : ℕ) (T : Text) (e : Stopped) → (d ≡ 0 → ⊥) → ParsesAsErr e (braces_of (cases_at (d - 1)) T) → ParsesAsErr e (braces_at d T)
some_exit d T e some g = err_same e (braces_of (cases_at (d - 1)) T) (braces_at d T) (braces_some d T some) g

-- the fault if no level is left
abbrev fault_of : Bool → Text → Fault
fault_of b T = record { cause = cond b TooDeep Syntax; left = length T }

pub stops_deep : {X : Type 0} (r : Result X Stopped) (T : Text) → true ≡ is_mark mark.OpenBrace (first T)
    → r ≡ Err (stopped.Fault (record { cause = TooDeep; left = length T })) → r ≡ Err (stopped.Fault (fault_at_braces T))
stops_deep r T on e = e ∙ ap (λ (b : Bool). Err (stopped.Fault (fault_of b T))) on

pub stops_at : {X : Type 0} (r : Result X Stopped) (T : Text) → false ≡ is_mark mark.OpenBrace (first T)
    → r ≡ Err (stopped.Fault (record { cause = Syntax; left = length T })) → r ≡ Err (stopped.Fault (fault_at_braces T))
stops_at r T off e = e ∙ ap (λ (b : Bool). Err (stopped.Fault (fault_of b T))) off

pub ruleset fault_rules = (stops_deep, stops_at)

-- no level is left
pub braces_stop : {X : Type 0} (view : X → CasesTree × Text) (d : ℕ) (T : Text) (result : Result X Stopped) → d ≡ 0
    → result ≡ Err (stopped.Fault (fault_at_braces T)) → ParsesAs view result (braces_at d T)
braces_stop view d T result none is = rw is (braces_zero d T none)

-- parts, and what they put before the parts after them ---------------------------------------------------------------

abbrev through_all : List CasePart → CasesTree → CasesTree
through_all [] t = t
through_all (f ∷ fs) t = f (through_all fs t)

abbrev through_cases : List LabelledTree → CasesTree → CasesTree
through_cases [] t = t
through_cases (c ∷ cs) t = with_labels c.0 (stated c.1 (through_cases cs t))

-- the parts put what these cases put
abbrev pub AreThrough : List CasePart → List LabelledTree → Type 0
AreThrough fs cs = (t : CasesTree) → through_all fs t ≡ through_cases cs t

all_append : (fs gs : List CasePart) (t : CasesTree) → through_all (fs ++ gs) t ≡ through_all fs (through_all gs t)
all_append [] gs t = refl
all_append (f ∷ fs) gs t = ap f (all_append fs gs t)

last_case : (cs : List LabelledTree) (c : LabelledTree) (t : CasesTree) → through_cases (cs ++ c ∷ []) t ≡ through_cases cs (with_labels c.0 (stated c.1 t))
last_case [] c t = refl
last_case (d ∷ cs) c t = ap (λ (u : CasesTree). with_labels d.0 (stated d.1 u)) (last_case cs c t)

parts_through : (bs : List PlacedLabel) (s : StmtTree) (t : CasesTree) → through_all (label_parts bs (stated s ∷ [])) t ≡ with_labels bs (stated s t)
parts_through [] s t = refl
parts_through (b ∷ bs) s t = ap (λ (u : CasesTree). labelled b u) (parts_through bs s t)

cases_all : (fs : List CasePart) → views.cases_of fs ≡ through_all fs no_cases
cases_all [] = refl
cases_all (f ∷ fs) = ap f (cases_all fs)

from_all : (cs : List LabelledTree) → cases_from cs ≡ through_cases cs no_cases
from_all [] = refl
from_all (c ∷ cs) = ap (λ (u : CasesTree). with_labels c.0 (stated c.1 u)) (from_all cs)

same_cases : (fs : List CasePart) (cs : List LabelledTree) → AreThrough fs cs → views.cases_of fs ≡ cases_from cs
same_cases fs cs h = cases_all fs ∙ h no_cases ∙ sym (from_all cs)

-- one case more
grown : (fs new : List CasePart) (cs : List LabelledTree) (c : LabelledTree) → new ≡ fs ++ parts_of c → AreThrough fs cs → AreThrough new (cs ++ c ∷ [])
grown fs new cs c e h t =
    ap (λ (gs : List CasePart). through_all gs t) e ∙ all_append fs (parts_of c) t ∙ ap (through_all fs) (parts_through c.0 c.1 t)
    ∙ h (with_labels c.0 (stated c.1 t)) ∙ sym (last_case cs c t)

-- the first, whose first label stands among the parts
first_grown : (b : PlacedLabel) (fs new : List CasePart) (c : LabelledTree) → fs ≡ labelled b ∷ [] → new ≡ fs ++ parts_of c
    → AreThrough new (add_label b c ∷ [])
first_grown b fs new c e f t =
    ap (λ (gs : List CasePart). through_all gs t) (f ∙ ap (λ (gs : List CasePart). gs ++ parts_of c) e)
    ∙ ap (λ (u : CasesTree). labelled b u) (parts_through c.0 c.1 t)

-- labels that are pushed, and the statement after them
labels_then : (bs : List PlacedLabel) (ps qs : List CasePart) → label_parts bs ps ++ qs ≡ label_parts bs (ps ++ qs)
labels_then [] ps qs = refl
labels_then (b ∷ bs) ps qs = ap (λ (fs : List CasePart). labelled b ∷ fs) (labels_then bs ps qs)

labels_last : (bs : List PlacedLabel) (b : PlacedLabel) (ps : List CasePart) → label_parts (bs ++ b ∷ []) ps ≡ label_parts bs (labelled b ∷ ps)
labels_last [] b ps = refl
labels_last (c ∷ bs) b ps = ap (λ (fs : List CasePart). labelled c ∷ fs) (labels_last bs b ps)

part_last : (items new : List CaseItem) (item : CaseItem) (old : List CasePart) (bs : List PlacedLabel) (f : CasePart) → new ≡ items ++ item ∷ []
    → case_view item ≡ f → map case_view items ≡ old ++ label_parts bs [] → map case_view new ≡ old ++ label_parts bs (f ∷ [])
part_last items new item old bs f e v h =
    ap (map case_view) e ∙ map_push case_view items item ∙ ap (λ (fs : List CasePart). fs ++ case_view item ∷ []) h
    ∙ ap (λ (g : CasePart). (old ++ label_parts bs []) ++ g ∷ []) v
    ∙ append_assoc old (label_parts bs []) (f ∷ []) ∙ ap (λ (fs : List CasePart). old ++ fs) (labels_then bs [] (f ∷ []))

pub label_turn : (old : List CasePart) (items new : List CaseItem) (bs : List PlacedLabel) (b : PlacedLabel) → new ≡ items ++ LabelItem b ∷ []
    → map case_view items ≡ old ++ label_parts bs []
    → map case_view new ≡ old ++ label_parts (bs ++ b ∷ []) []
label_turn old items new bs b e h = part_last items new (LabelItem b) old bs (labelled b) e (label_part b) h
    ∙ ap (λ (fs : List CasePart). old ++ fs) (sym (labels_last bs b []))

pub label_end : (old : List CasePart) (items new : List CaseItem) (bs : List PlacedLabel) (s t : Stmt) → s ≡ t → new ≡ items ++ StatedItem s ∷ []
    → map case_view items ≡ old ++ label_parts bs [] → map case_view new ≡ old ++ parts_of (bs, stmt_view t)
label_end old items new bs s t is e h = part_last items new (StatedItem s) old bs (stated (stmt_view s)) e (stated_part s) h
    ∙ ap (λ (u : Stmt). old ++ parts_of (bs, stmt_view u)) is

-- the first label, as the first of the items
pub first_given : (T R : Text) (b : PlacedLabel) (items new : List CaseItem) → true ≡ begins_label (first T) → label_parser T ≡ Ok (b, R) → items ≡ []
    → new ≡ items ++ LabelItem b ∷ [] → first_part T ≡ Ok (map case_view new, R)
first_given T R b items new on g none grows =
    let same : map case_view new ≡ labelled b ∷ [] =
    ap (map case_view) (grows ∙ ap (λ (l : List CaseItem). l ++ LabelItem b ∷ []) none) ∙ ap (λ (f : CasePart). f ∷ []) (label_part b) in
    rw (sym on, g) (ap (λ (fs : List CasePart). Ok (fs, R)) (sym same))

-- results of readers -------------------------------------------------------------------------------------------------

expect_map : {A B : Type 0} (m : Mark) (f : A → B) (a : A) (T : Text) → (expect m a T >>= (λ r. Ok (f r.0, r.1))) ≡ expect m (f a) T
expect_map m f a T = elim (test (is_mark m (first T))) [ inl on ↦ rw on refl | inr off ↦ rw off refl ]

map_then : {A B C : Type 0} (r : Read A) (f : A → B) (g : B × Text → Read C) → ((r >>= (λ x. Ok (f x.0, x.1))) >>= g) ≡ (r >>= (λ x. g (f x.0, x.1)))
map_then (Ok x) f g = refl
map_then (Err e) f g = refl

map_err : {A B : Type 0} (f : A → B) (r : Read A) (d : Fault) → (r >>= (λ x. Ok (f x.0, x.1))) ≡ Err d → r ≡ Err d
map_err f (Ok x) d e = absurd cc
map_err f (Err c) d e = cc

differ : (b : Bool) → b ≡ true → b ≡ false → ⊥
differ true e f = cc
differ false e f = cc

-- the loop of the braces ---------------------------------------------------------------------------------------------

module _ (d : ℕ) where
  abbrev labelled_at : Parse LabelledTree
  labelled_at = labelled_of (simple_at d) (map_read block_from (block_at d))

  abbrev case_step : List LabelledTree → Parse (List LabelledTree)
  case_step = list_step labelled_at

  abbrev further : LabelledTree → Parse (List LabelledTree)
  further c = map_read (λ cs. c ∷ cs) (list_of begins_case labelled_at)

  abbrev after_label : PlacedLabel → Text → Read (List LabelledTree)
  after_label b T = labelled_at T >>= (λ r. further (add_label b r.0) r.1)

  -- the parts so far, whether more come, and what is left after those of the text S
  pub data State (parts : List CasePart) (more : Bool) (T S : Text) : Type 0 where
    none : parts ≡ [] → more ≡ false → cases_at d S ≡ Ok ([], T) → State parts more T S
    begun : (b : PlacedLabel) → parts ≡ labelled b ∷ [] → more ≡ true → cases_at d S ≡ after_label b T → State parts more T S
    going : (c : LabelledTree) (cs : List LabelledTree) (inner : Read (List LabelledTree)) → AreThrough parts (c ∷ cs) → more ≡ begins_case (first T)
        → Left begins_case case_step cs T inner → cases_at d S ≡ (inner >>= (λ r. Ok (c ∷ r.0, r.1))) → State parts more T S

  labelled_ok : (bs : List PlacedLabel) (t : StmtTree) (T M R : Text) → labels_at T ≡ Ok (bs, M) → stated_at d M ≡ Ok (t, R) → labelled_at T ≡ Ok ((bs, t), R)
  labelled_ok bs t T M R e f = rw (e, f) refl

  begin_whole : (S M : Text) (b : PlacedLabel) → begins_label (first S) ≡ true → label_parser S ≡ Ok (b, M) → cases_at d S ≡ after_label b M
  begin_whole S M b on g = rw (on, g) (map_then (labelled_at M) (add_label b) (λ r. further r.0 r.1))

  begin_first : (S T : Text) (parts : List CasePart) → begins_label (first S) ≡ true → first_part S ≡ Ok (parts, T)
      → (b : PlacedLabel) × (parts ≡ labelled b ∷ []) × (cases_at d S ≡ after_label b T)
  begin_first S T parts on e =
      let e' : map_read (λ b. labelled b ∷ []) label_parser S ≡ Ok (parts, T) = rw on at e in
      let m = bind_ok (label_parser S) (λ r. Ok (labelled r.0 ∷ [], r.1)) (parts, T) e' in
      let same = ok_is (labelled m.0.0 ∷ [], m.0.1) (parts, T) m.2 in
      let rest : m.0.1 ≡ T = ap (λ (x : List CasePart × Text). x.1) same in
      let parts_are : labelled m.0.0 ∷ [] ≡ parts = ap (λ (x : List CasePart × Text). x.0) same in
      (m.0.0, sym parts_are, begin_whole S m.0.1 m.0.0 on m.1 ∙ ap (after_label m.0.0) rest)

  state_start : (S T : Text) (parts : List CasePart) (more : Bool) → first_part S ≡ Ok (parts, T) → more ≡ begins_label (first S) → State parts more T S
  state_start S T parts more e is = elim (test (begins_label (first S))) [
    | inl on ↦ let k = begin_first S T parts on e in begun k.0 k.1 (is ∙ on) k.2
    | inr off ↦
        let e' : (let r : Read (List CasePart) = Ok ([], S) in r) ≡ Ok (parts, T) = rw off at e in
        let same = ok_is ([], S) (parts, T) e' in
        let rest : S ≡ T = ap (λ (x : List CasePart × Text). x.1) same in
        none (sym (ap (λ (x : List CasePart × Text). x.0) same)) (is ∙ off) (rw off (ap (λ (R : Text). Ok ([], R)) rest))
  ]

  first_err : (S : Text) (f : Fault) → first_part S ≡ Err f → cases_at d S ≡ Err f
  first_err S f e = elim (test (begins_label (first S))) [
    | inl on ↦
        let e' : map_read (λ b. labelled b ∷ []) label_parser S ≡ Err f = rw on at e in
        elim (bind_err (label_parser S) (λ r. Ok (labelled r.0 ∷ [], r.1)) f e') [
          | inl g ↦ rw (on, g) refl
          | inr k ↦ let never : (let r : Read (List CasePart) = Ok (labelled k.0.0 ∷ [], k.0.1) in r) ≡ Err f = k.2 in absurd cc
        ]
    | inr off ↦ let e' : (let r : Read (List CasePart) = Ok ([], S) in r) ≡ Err f = rw off at e in absurd cc
  ]

  state_turn : (parts new : List CasePart) (more : Bool) (T M R S : Text) (bs : List PlacedLabel) (t : StmtTree) (later : Bool) → State parts more T S
      → more ≡ true
      → labels_at T ≡ Ok (bs, M) → stated_at d M ≡ Ok (t, R) → new ≡ parts ++ parts_of (bs, t) → length R < length T → later ≡ begins_case (first R)
      → State new later R S
  state_turn parts new more T M R S bs t later (none e f g) on ls st grows less is = absurd (differ more on f)
  state_turn parts new more T M R S bs t later (begun b e k g) on ls st grows less is =
      let read = labelled_ok bs t T M R ls st in
      let whole : cases_at d S ≡ further (add_label b (bs, t)) R = g ∙ rw read refl in
      going (add_label b (bs, t)) [] (list_of begins_case labelled_at R) (first_grown b parts new (bs, t) e grows) is (length R, omega arith, refl) whole
  state_turn parts new more T M R S bs t later (going c cs inner h turns l g) on ls st grows less is =
      let read = labelled_ok bs t T M R ls st in
      going c (cs ++ (bs, t) ∷ []) inner (grown parts new (c ∷ cs) (bs, t) grows h) is
      (turn_on begins_case case_step cs (cs ++ (bs, t) ∷ []) T R inner l (sym turns ∙ on) (rw read refl) less) g

  some_case : (T : Text) → begins_case (first T) ≡ true → 0 < length T
  some_case [] e = absurd cc
  some_case (t ∷ T) e = omega arith

  state_err : (parts : List CasePart) (more : Bool) (T S : Text) (f : Fault) → State parts more T S → more ≡ true → labelled_at T ≡ Err f → cases_at d S ≡ Err f
  state_err parts more T S f (none e k g) on l = absurd (differ more on k)
  state_err parts more T S f (begun b e k g) on l = g ∙ rw l refl
  state_err parts more T S f (going c cs inner h turns left g) on l =
      let begins = sym turns ∙ on in
      g ∙ rw (turn_err begins_case case_step cs T f inner left begins (some_case T begins) (rw l refl)) refl

  state_end : (parts : List CasePart) (more : Bool) (T S : Text) → State parts more T S → more ≡ false
      → (cs : List LabelledTree) × (views.cases_of parts ≡ cases_from cs) × (cases_at d S ≡ Ok (cs, T))
  state_end parts more T S (none e f g) off = ([], ap views.cases_of e, g)
  state_end parts more T S (begun b e k g) off = absurd (differ more k off)
  state_end parts more T S (going c cs inner h turns left g) off =
      (c ∷ cs, same_cases parts (c ∷ cs) h, g ∙ rw (turn_off begins_case case_step cs T inner left (sym turns ∙ off)) refl)

  -- the same after the brace that the text X begins with
  abbrev pub Opened : List CasePart → Bool → Text → Text → Type 0
  Opened parts more T X = (S : Text) × (expect mark.OpenBrace (tt {0}) X ≡ Ok (tt {0}, S)) × State parts more T S

  pub opened_start : (X T : Text) (parts : List CasePart) (more : Bool) → opened_part X ≡ Ok ((parts, more), T) → Opened parts more T X
  opened_start X T parts more e =
      let m = bind_ok (expect mark.OpenBrace (tt {0}) X) (λ r. told_part r.1) ((parts, more), T) e in
      let k = bind_ok (first_part m.0.1) (λ r. Ok ((r.0, begins_label (first m.0.1)), r.1)) ((parts, more), T) m.2 in
      let same = ok_is ((k.0.0, begins_label (first m.0.1)), k.0.1) ((parts, more), T) k.2 in (
        m.0.1,
        m.1,
        state_start m.0.1 T parts more (k.1 ∙ ap (λ (x : (List CasePart × Bool) × Text). Ok (x.0.0, x.1)) same)
            (sym (ap (λ (x : (List CasePart × Bool) × Text). x.0.1) same)),
      )

  abbrev told : Text → List CasePart → List CasePart × Bool
  told T fs = (fs, begins_label (first T))

  told_err : (T : Text) (f : Fault) → told_part T ≡ Err f → first_part T ≡ Err f
  told_err T f e = map_err (told T) (first_part T) f e

  -- the exit by `?` there
  pub opened_exit : (X : Text) (e : Stopped) → ParsesAsErr e (opened_part X) → ParsesAsErr e (braces_of (cases_at d) X)
  opened_exit X stopped.Memory g = tt
  opened_exit X (stopped.Fault f) g =
      elim (bind_err (expect mark.OpenBrace (tt {0}) X) (λ r. told_part r.1) f g) [
        | inl fails ↦ rw fails refl
        | inr k ↦ rw (k.1, first_err k.0.1 f (told_err k.0.1 f k.2)) refl
      ]

  pub opened_turn : (parts new : List CasePart) (more : Bool) (T M R X : Text) (bs : List PlacedLabel) (t : StmtTree) (later : Bool) → Opened parts more T X
      → more ≡ true
      → labels_at T ≡ Ok (bs, M) → stated_at d M ≡ Ok (t, R) → new ≡ parts ++ parts_of (bs, t) → length R < length T → later ≡ begins_case (first R)
      → Opened new later R X
  opened_turn parts new more T M R X bs t later (S, o, s) on ls st grows less is = (S, o, state_turn parts new more T M R S bs t later s on ls st grows less is)

  -- the exits by `?` in a turn
  pub labels_exit : (parts : List CasePart) (more : Bool) (X T : Text) (e : Stopped) → Opened parts more T X → more ≡ true
      → ParsesAsErr e (labels_at T) → ParsesAsErr e (braces_of (cases_at d) X)
  labels_exit parts more X T stopped.Memory k on g = tt
  labels_exit parts more X T (stopped.Fault f) (S, o, s) on g = rw (o, state_err parts more T S f s on (rw g refl)) refl

  pub stated_exit : (parts : List CasePart) (more : Bool) (X T M : Text) (bs : List PlacedLabel) (e : Stopped) → Opened parts more T X → more ≡ true
      → labels_at T ≡ Ok (bs, M) → ParsesAsErr e (stated_at d M) → ParsesAsErr e (braces_of (cases_at d) X)
  stated_exit parts more X T M bs stopped.Memory k on ls g = tt
  stated_exit parts more X T M bs (stopped.Fault f) (S, o, s) on ls g = rw (o, state_err parts more T S f s on (rw (ls, g) refl)) refl

  -- the end
  pub braces_close : (parts : List CasePart) (more : Bool) (X T : Text) → Opened parts more T X → more ≡ false
      → braces_of (cases_at d) X ≡ expect mark.CloseBrace (views.cases_of parts) T
  braces_close parts more X T (S, o, s) off =
      let k = state_end parts more T S s off in
      rw (o, k.2) (expect_map mark.CloseBrace cases_from k.0 T) ∙ ap (λ (c : CasesTree). expect mark.CloseBrace c T) (sym k.1)

-- after the parentheses of a `switch` its braces are read
module _ (d : ℕ) (b : Begun) (head : Box Switched Global) (is : b ≡ begun_as.UpToBraces head) (T : Text) where
  pub braces_read : (R : Text) (cs : CasesTree) (t : StmtTree) → braces_at d T ≡ Ok (cs, R) → t ≡ switch head.value.place (expr_view head.value.value) cs
      → begun_rest d b T ≡ Ok (t, R)
  braces_read R cs t read same = rw (is, read, same) refl

  pub braces_exit : (e : Stopped) → ParsesAsErr e (braces_at d T) → ParsesAsErr e (begun_rest d b T)
  braces_exit e g = rw is (map_exit (switch head.value.place (expr_view head.value.value)) (braces_at d) T e g)
