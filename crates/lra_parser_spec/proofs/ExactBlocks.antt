-- The readers of blocks are exact.
use Rattle.std.proofs.Common.{◌≡◌, ℕ, ◌+◌, ◌≤◌, true, false, ◌⊎◌, List, [], ◌∷◌, ◌++◌, Option, Some, None, refl, sym, ap, subst, ◌∙◌, arith, inl, inr, option_map}
use Rattle.std.proofs.{lemmas.Bool.or_left, lemmas.Bool.or_right, lemmas.List.append-nil}
use Rattle.std.specs.Bool.{⊤}
use Rattle.lra_base.specs.declared.refusals.Place.{Place}
use Rattle.lra_syntax.specs.Trees.{StmtTree, block, nothing, assign, call, if_only, if_else, while, for, break, continue, return, assert, assume, increment, after, before, no_init, ItemsTree}
use Rattle.lra_syntax.specs.Trees.{no_items, switch, no_cases, declaration, statement}
use Rattle.lra_syntax.specs.declared.tokens.Kind.TheVariants.{Name, Number, Mark as MarkOf, Reserved, Unclosed, End}
use Rattle.lra_syntax.specs.{Grammar.IsDeclaration, Grammar.opened_by, Grammar.level_of, Grammar.IsStmt, Grammar.AreItems, Texts.Pieces, Texts.Texts, Texts.◌⋅◌, Texts.opens, Texts.opens_at}
use Rattle.lra_syntax.specs.{Views.step_view, declared.tokens.Kind.Kind, declared.tokens.Mark.Mark, declared.tokens.Token.Token, declared.trees.Identifier.Identifier, declared.trees.Step.Step}
use Rattle.lra_syntax.specs.declared.tokens.Mark.TheVariants as mark
use Rattle.lra_syntax.specs.declared.trees.Step.TheVariants as step
use Rattle.lra_parser_spec.specs.Statements.{begins_type, next_step, step_marks, StmtMark, at_nothing, at_if, at_while, at_for, at_break, at_continue, at_return, at_assert, at_assume, at_switch}
use Rattle.lra_parser_spec.specs.Statements.{stmt_marks, stmt_mark, begins_stmt, ItemTree, declared, stated, items_from, begins_item, stated_of, item_of, items_parser, body_of}
use Rattle.lra_parser_spec.specs.{Reading.Parse, Reading.identifier_of, Reading.has, Reading.one_of, Tests.is_mark, Tests.begins_label}
use Rattle.lra_parser_spec.proofs.ExactAssignments.{mark_of_step, placed_first, assign_no_mark, declaration_first, exact_declaration}
use Rattle.lra_parser_spec.proofs.ExactStatements.{AfterStmt, IsBlock, SimpleText, mark_of_stmt, SimpleAt, from_simple}
use Rattle.lra_parser_spec.proofs.Tokens.{IsInner, exact_expect_at, some_place, some_name}
use Rattle.lra_parser_spec.proofs.{Chain.Items, Chain.AfterLast, Chain.all_last, Chain.exact_list, Exact.Exact, Exact.Any, Exact.Free, Exact.Both, Exact.test, Exact.first_or, Exact.then}
use Rattle.lra_parser_spec.proofs.{ExactConditions.some_cond, ExactExpressions.Of, ExactExpressions.first_opened, ExactExpressions.some_expr, Forms.rename, Forms.widen, Forms.retell, Forms.entry}
use Rattle.lra_parser_spec.proofs.{Forms.mapped, Forms.branch, Marks.is_mark_some, Parts.token, Parts.exact_behind, Parts.table_mark}

-- how a statement begins ------------------------------------------------------------------------------------------

simple_first : (o l : ℕ) (k : Option StmtMark) (t : StmtTree) (z : Pieces) (i : Option Token) → SimpleAt o l k t z → (P : Option Token → Type 0) →
    ((m : StmtMark) (at : Place) → P (Some (token (mark_of_stmt m) at)))
    → ((x : Identifier) → P (Some (record { kind = Name x.word; place = x.place }))) → ((s : Step) (at : Place) → P (Some (token (mark_of_step s) at))) → P (first_or z i)
simple_first o l (Some at_nothing) t z i (at, f, s) P marks names steps = placed_first P mark.Semicolon at o z [] z i (sym (append-nil z)) s (marks at_nothing at)
simple_first o l (Some at_if) t z i (at, (x, y, e, s, r)) P marks names steps = placed_first P mark.If at o x y z i e s (marks at_if at)
simple_first o l (Some at_while) t z i (at, (x, y, e, s, r)) P marks names steps = placed_first P mark.While at o x y z i e s (marks at_while at)
simple_first o l (Some at_for) t z i (at, (x, y, e, s, r)) P marks names steps = placed_first P mark.For at o x y z i e s (marks at_for at)
simple_first o l (Some at_break) t z i (at, f, (x, y, e, s, r)) P marks names steps = placed_first P mark.Break at o x y z i e s (marks at_break at)
simple_first o l (Some at_continue) t z i (at, f, (x, y, e, s, r)) P marks names steps = placed_first P mark.Continue at o x y z i e s (marks at_continue at)
simple_first o l (Some at_return) t z i (at, (x, y, e, s, r)) P marks names steps = placed_first P mark.Return at o x y z i e s (marks at_return at)
simple_first o l (Some at_assert) t z i (at, (x, y, e, s, r)) P marks names steps = placed_first P mark.Assert at o x y z i e s (marks at_assert at)
simple_first o l (Some at_assume) t z i (at, (x, y, e, s, r)) P marks names steps = placed_first P mark.Assume at o x y z i e s (marks at_assume at)
simple_first o l (Some at_switch) t z i (at, (x, y, e, s, r)) P marks names steps = placed_first P mark.Switch at o x y z i e s (marks at_switch at)
simple_first o l None t z i (inl (x, (u, v, e, s, r))) P marks names steps = subst (λ (w : Pieces). P (first_or w i)) (sym (e ∙ ap (λ (w : Pieces). w ++ v) s)) (names x)
simple_first o l None t z i (inr ((a, f, (x, y, e, s, r)), k)) P marks names steps = assign_no_mark o l a x y z i e s P names steps

-- a block, or none
is_block : (t : StmtTree) → IsBlock t ⊎ (IsBlock t → ⊥)
is_block (block is end) = inl tt
is_block (nothing at) = inr (λ b. b)
is_block (assign a) = inr (λ b. b)
is_block (call c) = inr (λ b. b)
is_block (if_only at c t) = inr (λ b. b)
is_block (if_else at c t e) = inr (λ b. b)
is_block (while at c b) = inr (λ b. b)
is_block (for at i c e b) = inr (λ b. b)
is_block (break at) = inr (λ b. b)
is_block (continue at) = inr (λ b. b)
is_block (return at e) = inr (λ b. b)
is_block (assert at c) = inr (λ b. b)
is_block (assume at c) = inr (λ b. b)
is_block (switch at e cs) = inr (λ b. b)

abbrev pub BlockText : ℕ → ℕ → StmtTree → Texts
BlockText o l t z = IsStmt o l t z × IsBlock t

pub block_first : (o l : ℕ) (t : StmtTree) (z : Pieces) (i : Option Token) → BlockText o l t z → (P : Option Token → Type 0) → ((at : Place) → P (Some (token mark.OpenBrace at))) → P (first_or z i)
block_first o l (block is end) z i ((x, y, e, s, r), b) P f = first_opened P mark.OpenBrace o x y z i e s f
block_first o l (nothing at) z i s P f = absurd s.1
block_first o l (assign a) z i s P f = absurd s.1
block_first o l (call c) z i s P f = absurd s.1
block_first o l (if_only at c t) z i s P f = absurd s.1
block_first o l (if_else at c t e) z i s P f = absurd s.1
block_first o l (while at c b) z i s P f = absurd s.1
block_first o l (for at j c e b) z i s P f = absurd s.1
block_first o l (break at) z i s P f = absurd s.1
block_first o l (continue at) z i s P f = absurd s.1
block_first o l (return at e) z i s P f = absurd s.1
block_first o l (assert at c) z i s P f = absurd s.1
block_first o l (assume at c) z i s P f = absurd s.1
block_first o l (switch at e cs) z i s P f = absurd s.1

-- what holds of each token that begins a statement
pub record Begins (P : Option Token → Type 0) : Type 0 where
  pub braces : (at : Place) → P (Some (token mark.OpenBrace at))
  pub marks : (m : StmtMark) (at : Place) → P (Some (token (mark_of_stmt m) at))
  pub names : (x : Identifier) → P (Some (record { kind = Name x.word; place = x.place }))
  pub steps : (s : Step) (at : Place) → P (Some (token (mark_of_step s) at))

simple_begins : (P : Option Token → Type 0) → Begins P → (o l : ℕ) (t : StmtTree) (z : Pieces) (i : Option Token) → SimpleText o l t z → P (first_or z i)
simple_begins P h o l t z i s = let k = from_simple o l t z s in simple_first o l k.0 t z i k.1 P h.marks h.names h.steps

pub stmt_begins : (P : Option Token → Type 0) → Begins P → (o l : ℕ) (t : StmtTree) (z : Pieces) (i : Option Token) → IsStmt o l t z → P (first_or z i)
stmt_begins P h o l t z i s = elim (is_block t) [
  | inl b ↦ block_first o l t z i (s, b) P h.braces
  | inr b ↦ simple_begins P h o l t z i (s, b)
]

stmt_self : (m : StmtMark) (at : Place) → stmt_mark (Some (token (mark_of_stmt m) at)) ≡ Some m
stmt_self at_nothing at = refl
stmt_self at_if at = refl
stmt_self at_while at = refl
stmt_self at_for at = refl
stmt_self at_break at = refl
stmt_self at_continue at = refl
stmt_self at_return at = refl
stmt_self at_assert at = refl
stmt_self at_assume at = refl
stmt_self at_switch at = refl

begin_marks : (m : StmtMark) (at : Place) → begins_stmt (Some (token (mark_of_stmt m) at)) ≡ true
begin_marks at_nothing at = refl
begin_marks at_if at = refl
begin_marks at_while at = refl
begin_marks at_for at = refl
begin_marks at_break at = refl
begin_marks at_continue at = refl
begin_marks at_return at = refl
begin_marks at_assert at = refl
begin_marks at_assume at = refl
begin_marks at_switch at = refl

begin_steps : (s : Step) (at : Place) → begins_stmt (Some (token (mark_of_step s) at)) ≡ true
begin_steps step.Increment at = refl
begin_steps step.Decrement at = refl

pub all_begin : Begins (λ o. begins_stmt o ≡ true)
all_begin = record { braces = λ at. refl; marks = begin_marks; names = λ x. refl; steps = begin_steps }

not_brace_marks : (m : StmtMark) (at : Place) → is_mark mark.OpenBrace (Some (token (mark_of_stmt m) at)) ≡ false
not_brace_marks at_nothing at = refl
not_brace_marks at_if at = refl
not_brace_marks at_while at = refl
not_brace_marks at_for at = refl
not_brace_marks at_break at = refl
not_brace_marks at_continue at = refl
not_brace_marks at_return at = refl
not_brace_marks at_assert at = refl
not_brace_marks at_assume at = refl
not_brace_marks at_switch at = refl

no_type_marks : (m : StmtMark) (at : Place) → begins_type (Some (token (mark_of_stmt m) at)) ≡ false
no_type_marks at_nothing at = refl
no_type_marks at_if at = refl
no_type_marks at_while at = refl
no_type_marks at_for at = refl
no_type_marks at_break at = refl
no_type_marks at_continue at = refl
no_type_marks at_return at = refl
no_type_marks at_assert at = refl
no_type_marks at_assume at = refl
no_type_marks at_switch at = refl

no_type_steps : (s : Step) (at : Place) → begins_type (Some (token (mark_of_step s) at)) ≡ false
no_type_steps step.Increment at = refl
no_type_steps step.Decrement at = refl

not_brace_steps : (s : Step) (at : Place) → is_mark mark.OpenBrace (Some (token (mark_of_step s) at)) ≡ false
not_brace_steps step.Increment at = refl
not_brace_steps step.Decrement at = refl

no_label_marks : (m : StmtMark) (at : Place) → begins_label (Some (token (mark_of_stmt m) at)) ≡ false
no_label_marks at_nothing at = refl
no_label_marks at_if at = refl
no_label_marks at_while at = refl
no_label_marks at_for at = refl
no_label_marks at_break at = refl
no_label_marks at_continue at = refl
no_label_marks at_return at = refl
no_label_marks at_assert at = refl
no_label_marks at_assume at = refl
no_label_marks at_switch at = refl

no_label_steps : (s : Step) (at : Place) → begins_label (Some (token (mark_of_step s) at)) ≡ false
no_label_steps step.Increment at = refl
no_label_steps step.Decrement at = refl

no_label : Begins (λ o. begins_label o ≡ false)
no_label = record { braces = λ at. refl; marks = no_label_marks; names = λ x. refl; steps = no_label_steps }

no_type : Begins (λ o. begins_type o ≡ false)
no_type = record { braces = λ at. refl; marks = no_type_marks; names = λ x. refl; steps = no_type_steps }

-- a statement that begins with each token that begins one ----------------------------------------------------------

abbrev Starts : ℕ → Token → Type 0
Starts o t = (a : StmtTree) × (w : Pieces) × IsStmt o o a ((t, o) ∷ w)

start_brace : (o : ℕ) (at : Place) → Starts o (token mark.OpenBrace at)
start_brace o at = (block no_items some_place, _, (_, _, refl, (at, refl), (_, _, refl, refl, refl)))

start_mark : (o : ℕ) (m : StmtMark) (at : Place) → Starts o (token (mark_of_stmt m) at)
start_mark o at_nothing at = (nothing at, [], refl)
start_mark o at_if at =
    (if_only at (some_cond o).0 (nothing some_place), _, (_, _, refl, refl, (_, _, refl, (_, _, refl, (some_place, refl), (_, _, refl, (some_cond o).2, (some_place, refl))), refl)))
start_mark o at_while at =
    (while at (some_cond o).0 (nothing some_place), _, (_, _, refl, refl, (_, _, refl, (_, _, refl, (some_place, refl), (_, _, refl, (some_cond o).2, (some_place, refl))), refl)))
start_mark o at_for at = (
  for at no_init None None (nothing some_place),
  _,
  (
    _,
    _,
    refl,
    refl,
    (
      _,
      _,
      refl,
      (some_place, refl),
      (_, _, refl, (some_place, refl), (_, _, refl, refl, (_, _, refl, (some_place, refl), (_, _, refl, refl, (_, _, refl, (some_place, refl), refl))))),
    ),
  ),
)
start_mark o at_break at = (break at, _, (_, _, refl, refl, (some_place, refl)))
start_mark o at_continue at = (continue at, _, (_, _, refl, refl, (some_place, refl)))
start_mark o at_return at = (return at None, _, (_, _, refl, refl, (_, _, refl, refl, (some_place, refl))))
start_mark o at_assert at = (assert at (some_cond o).0, _, (_, _, refl, refl, (_, _, refl, (_, _, refl, (some_place, refl), (_, _, refl, (some_cond o).2, (some_place, refl))), (some_place, refl))))
start_mark o at_assume at = (assume at (some_cond o).0, _, (_, _, refl, refl, (_, _, refl, (_, _, refl, (some_place, refl), (_, _, refl, (some_cond o).2, (some_place, refl))), (some_place, refl))))
start_mark o at_switch at = (
  switch at (some_expr o).0 no_cases,
  _,
  (_, _, refl, refl, (_, _, refl, (_, _, refl, (some_place, refl), (_, _, refl, (some_expr o).2, (some_place, refl))), (_, _, refl, (some_place, refl), (_, _, refl, refl, (some_place, refl))))),
)

start_step : (o : ℕ) (s : Step) (at : Place) → Starts o (token (mark_of_step s) at)
start_step o s at = (assign (before at (step_view s) some_name), _, (_, _, refl, (_, _, refl, refl, refl), (some_place, refl)))

start_name : (o : ℕ) (x : Identifier) → Starts o (record { kind = Name x.word; place = x.place })
start_name o x = (assign (after x increment), _, (_, _, refl, (_, _, refl, refl, (some_place, refl)), (some_place, refl)))

named : (k : Kind) (at : Place) → has (identifier_of k at) ≡ true → (x : Identifier) × (k ≡ Name x.word) × (at ≡ x.place)
named (Name w) at e = (record { word = w; place = at }, refl, refl)
named (Number t n) at e = absurd cc
named (MarkOf m) at e = absurd cc
named Reserved at e = absurd cc
named Unclosed at e = absurd cc
named End at e = absurd cc

token_is : (t : Token) (x : Identifier) → t.kind ≡ Name x.word → t.place ≡ x.place → t ≡ record { kind = Name x.word; place = x.place }
token_is t x e f = ap (λ (k : Kind). record { kind = k; place = t.place }) e ∙ ap (λ (p : Place). record { kind = Name x.word; place = p }) f

some_of : {A : Type 0} (m : Option A) → has m ≡ true → (a : A) × (m ≡ Some a)
some_of None e = absurd cc
some_of (Some a) e = (a, refl)

the_token : {A : Type 0} (mark_of : A → Mark) (t : Token) (a : A) → ((at : Place) × (let o : Option Token = Some t in o) ≡ Some (token (mark_of a) at)) → (at : Place) × (t ≡ token (mark_of a) at)
the_token mark_of t a s = (s.0, (let f = s.1 in cc))

has_mapped : {A B : Type 0} (f : A → B) (m : Option A) → has (option_map f m) ≡ has m
has_mapped f None = refl
has_mapped f (Some a) = refl

no_start : (t : Token) → is_mark mark.OpenBrace (Some t) ≡ false → has (stmt_mark (Some t)) ≡ false → has (one_of step_marks (Some t)) ≡ false → has (identifier_of t.kind t.place) ≡ false →
    begins_stmt (Some t) ≡ true → ⊥
no_start t a b c d e =
    let c' : has (next_step (Some t)) ≡ false = has_mapped (λ (s : Step). (s, t.place)) (one_of step_marks (Some t)) ∙ c in
    let f : begins_stmt (Some t) ≡ false = rw (a, b, c', d) refl in
    cc

pub starts : (o : ℕ) (t : Token) → begins_stmt (Some t) ≡ true → Starts o t
starts o t e = elim (test (is_mark mark.OpenBrace (Some t))) [
  | inl on ↦ subst (Starts o) (sym (is_mark_some mark.OpenBrace t on)) (start_brace o t.place)
  | inr off ↦ elim (test (has (stmt_mark (Some t)))) [
    | inl on ↦
        let m = some_of (stmt_mark (Some t)) on in
        let k = the_token mark_of_stmt t m.0 (table_mark mark_of_stmt stmt_marks (refl, (refl, (refl, (refl, (refl, (refl, (refl, (refl, (refl, (refl, tt)))))))))) (Some t) m.0 m.1) in
        subst (Starts o) (sym k.1) (start_mark o m.0 k.0)
    | inr off' ↦ elim (test (has (one_of step_marks (Some t)))) [
      | inl on ↦
          let m = some_of (one_of step_marks (Some t)) on in
          let k = the_token mark_of_step t m.0 (table_mark mark_of_step step_marks (refl, (refl, tt)) (Some t) m.0 m.1) in
          subst (Starts o) (sym k.1) (start_step o m.0 k.0)
      | inr off'' ↦ elim (test (has (identifier_of t.kind t.place))) [
        | inl on ↦ let x = named t.kind t.place on in subst (Starts o) (sym (token_is t x.0 x.1 x.2)) (start_name o x.0)
        | inr none ↦ absurd (no_start t off off' off'' none e)
      ]
    ]
  ]
]

-- items ------------------------------------------------------------------------------------------------------------

-- a statement among items
abbrev pub StatedText : ℕ → StmtTree → Texts
StatedText l t = IsStmt (opened_by t l) (level_of t l) t

abbrev pub ItemText : ℕ → ItemTree → Texts
ItemText l (declared d) z = IsDeclaration l d z
ItemText l (stated t) z = StatedText l t z

pub to_items : (l : ℕ) (is : List ItemTree) (z : Pieces) → Items (ItemText l) is z → AreItems l (items_from is) z
to_items l [] z e = e
to_items l (declared d ∷ is) z (x, y, e, s, r) = (x, y, e, s, to_items l is y r)
to_items l (stated t ∷ is) z (x, y, e, s, r) = (x, y, e, s, to_items l is y r)

pub from_items : (l : ℕ) (items : ItemsTree) (z : Pieces) → AreItems l items z → (is : List ItemTree) × (items_from is ≡ items) × Items (ItemText l) is z
from_items l no_items z e = ([], refl, e)
from_items l (declaration d items) z (x, y, e, s, r) =
    let k = from_items l items y r in
    (declared d ∷ k.0, ap (λ (i : ItemsTree). declaration d i) k.1, (x, y, e, s, k.2))
from_items l (statement t items) z (x, y, e, s, r) =
    let k = from_items l items y r in
    (stated t ∷ k.0, ap (λ (i : ItemsTree). statement t i) k.1, (x, y, e, s, k.2))

abbrev pub AfterItem : ItemTree → Option Token → Type 0
AfterItem (declared d) o = ⊤
AfterItem (stated t) o = AfterStmt t o

-- a block with its level, or another statement ------------------------------------------------------------------------

pub exact_stated : {n o l : ℕ} {simple inner : Parse StmtTree} {T : StmtTree → Texts} → Exact n IsInner inner (λ k. ⊤ × (is_mark mark.OpenBrace k ≡ true)) T T AfterStmt →
    ((t : StmtTree) (z : Pieces) (k : Option Token) → T t z → is_mark mark.OpenBrace (first_or z k) ≡ true)
    → Exact n IsInner simple Any (SimpleText o l) (SimpleText o l) AfterStmt
    → Exact n IsInner (stated_of simple inner) Any (λ t z. T t z ⊎ SimpleText o l t z) (λ t z. T t z ⊎ SimpleText o l t z) AfterStmt
exact_stated {o = o} {l = l} {T = T} I begins S =
    branch (is_mark mark.OpenBrace) (widen I (λ t z. T t z ⊎ SimpleText o l t z) (λ t z s. inl s))
    (entry (widen S (λ t z. T t z ⊎ SimpleText o l t z) (λ t z s. inr s)) (λ k. ⊤ × (is_mark mark.OpenBrace k ≡ false)) (λ k i. tt))
    (λ t z k s f. begins t z k s)
    (λ t z k s f. let c = from_simple o l t z s in simple_first o l c.0 t z k c.1 (λ i. is_mark mark.OpenBrace i ≡ false) not_brace_marks (λ x. refl) not_brace_steps)

to_stated : (l : ℕ) (t : StmtTree) (z : Pieces) → BlockText (l + 1) (l + 1) t z ⊎ SimpleText 0 l t z → StatedText l t z
to_stated l (block is end) z (inl s) = s.0
to_stated l (block is end) z (inr s) = absurd (s.1 tt)
to_stated l (nothing at) z (inl s) = absurd s.1
to_stated l (nothing at) z (inr s) = s.0
to_stated l (assign a) z (inl s) = absurd s.1
to_stated l (assign a) z (inr s) = s.0
to_stated l (call c) z (inl s) = absurd s.1
to_stated l (call c) z (inr s) = s.0
to_stated l (if_only at c t) z (inl s) = absurd s.1
to_stated l (if_only at c t) z (inr s) = s.0
to_stated l (if_else at c t e) z (inl s) = absurd s.1
to_stated l (if_else at c t e) z (inr s) = s.0
to_stated l (while at c b) z (inl s) = absurd s.1
to_stated l (while at c b) z (inr s) = s.0
to_stated l (for at i c e b) z (inl s) = absurd s.1
to_stated l (for at i c e b) z (inr s) = s.0
to_stated l (break at) z (inl s) = absurd s.1
to_stated l (break at) z (inr s) = s.0
to_stated l (continue at) z (inl s) = absurd s.1
to_stated l (continue at) z (inr s) = s.0
to_stated l (return at e) z (inl s) = absurd s.1
to_stated l (return at e) z (inr s) = s.0
to_stated l (assert at c) z (inl s) = absurd s.1
to_stated l (assert at c) z (inr s) = s.0
to_stated l (assume at c) z (inl s) = absurd s.1
to_stated l (assume at c) z (inr s) = s.0
to_stated l (switch at e cs) z (inl s) = absurd s.1
to_stated l (switch at e cs) z (inr s) = s.0

from_stated : (l : ℕ) (t : StmtTree) (z : Pieces) → StatedText l t z → BlockText (l + 1) (l + 1) t z ⊎ SimpleText 0 l t z
from_stated l (block is end) z s = inl (s, tt)
from_stated l (nothing at) z s = inr (s, (λ b. b))
from_stated l (assign a) z s = inr (s, (λ b. b))
from_stated l (call c) z s = inr (s, (λ b. b))
from_stated l (if_only at c t) z s = inr (s, (λ b. b))
from_stated l (if_else at c t e) z s = inr (s, (λ b. b))
from_stated l (while at c b) z s = inr (s, (λ b. b))
from_stated l (for at i c e b) z s = inr (s, (λ b. b))
from_stated l (break at) z s = inr (s, (λ b. b))
from_stated l (continue at) z s = inr (s, (λ b. b))
from_stated l (return at e) z s = inr (s, (λ b. b))
from_stated l (assert at c) z s = inr (s, (λ b. b))
from_stated l (assume at c) z s = inr (s, (λ b. b))
from_stated l (switch at e cs) z s = inr (s, (λ b. b))

pub either_stmt : (o l : ℕ) (t : StmtTree) (z : Pieces) → BlockText o l t z ⊎ SimpleText o l t z → IsStmt o l t z
either_stmt o l t z (inl s) = s.0
either_stmt o l t z (inr s) = s.0

pub stmt_either : (o l : ℕ) (t : StmtTree) (z : Pieces) → IsStmt o l t z → BlockText o l t z ⊎ SimpleText o l t z
stmt_either o l t z s = elim (is_block t) [ inl b ↦ inl (s, b) | inr b ↦ inr (s, b) ]

pub stated_first : (l : ℕ) (t : StmtTree) (z : Pieces) (k : Option Token) → StatedText l t z → begins_stmt (first_or z k) ≡ true
stated_first l t z k s = stmt_begins (λ o. begins_stmt o ≡ true) all_begin (opened_by t l) (level_of t l) t z k s

item_first : (l : ℕ) (i : ItemTree) (z : Pieces) (k : Option Token) → ItemText l i z → begins_item (first_or z k) ≡ true
item_first l (declared d) z k s = or_right (begins_stmt (first_or z k)) _ (declaration_first l d z k s)
item_first l (stated t) z k s = or_left (begins_stmt (first_or z k)) _ (stated_first l t z k s)

stated_no_type : (l : ℕ) (t : StmtTree) (z : Pieces) (k : Option Token) → StatedText l t z → begins_type (first_or z k) ≡ false
stated_no_type l t z k s = stmt_begins (λ o. begins_type o ≡ false) no_type (opened_by t l) (level_of t l) t z k s

pub stated_no_label : (l : ℕ) (t : StmtTree) (z : Pieces) (k : Option Token) → StatedText l t z → begins_label (first_or z k) ≡ false
stated_no_label l t z k s = stmt_begins (λ o. begins_label o ≡ false) no_label (opened_by t l) (level_of t l) t z k s

-- no item begins with `else`
not_else : (o : Option Token) → begins_item o ≡ true → is_mark mark.Else o ≡ false
not_else None e = refl
not_else (Some t) e = elim (test (is_mark mark.Else (Some t))) [
  | inl on ↦ let same : begins_item (Some t) ≡ false = ap (λ (u : Token). begins_item (Some u)) (is_mark_some mark.Else t on) in absurd cc
  | inr off ↦ off
]

item_allowed : (i : ItemTree) (o : Option Token) → begins_item o ≡ true → AfterItem i o
item_allowed (declared d) o e = tt
item_allowed (stated t) o e = λ k. not_else o e

item_closes : (i : ItemTree) (at : Place) → AfterItem i (Some (token mark.CloseBrace at))
item_closes (declared d) at = tt
item_closes (stated t) at = λ k. refl

abbrev pub BodyText : ℕ → ℕ → ItemsTree × Place → Texts
BodyText o l b = opens mark.OpenBrace o ⋅ (AreItems l b.0 ⋅ opens_at mark.CloseBrace b.1 0)

abbrev ItemsText : ℕ → ItemsTree × Place → Texts
ItemsText l b z = Both (λ is z. Items (ItemText l) is z) (λ is b. Of (λ end. (items_from is, end)) (λ end z. opens_at mark.CloseBrace end 0 z) b) b z

to_body : (o l : ℕ) (b : ItemsTree × Place) (z : Pieces) → (opens mark.OpenBrace o ⋅ ItemsText l b) z → BodyText o l b z
to_body o l b z (x, y, e, s, (is, (u, v, f, r, (end, g, t)))) =
    subst (λ (c : ItemsTree × Place). BodyText o l c z) g (x, y, e, s, (u, v, f, to_items l is u r, t))

from_body : (o l : ℕ) (b : ItemsTree × Place) (z : Pieces) → BodyText o l b z → (opens mark.OpenBrace o ⋅ ItemsText l b) z
from_body o l b z (x, y, e, s, (u, v, f, r, t)) =
    let k = from_items l b.0 u r in
    (x, y, e, s, (k.0, (u, v, f, k.2, (b.1, ap (λ (i : ItemsTree). (i, b.1)) k.1, t))))

item_sides : (l : ℕ) (i : ItemTree) (z : Pieces) → ItemText l i z → Of declared (IsDeclaration l) i z ⊎ Of stated (λ t z. StatedText l t z) i z
item_sides l (declared d) z s = inl (d, refl, s)
item_sides l (stated t) z s = inr (t, refl, s)

module _ (n d l : ℕ) (simple inner : Parse StmtTree) (h : d + l ≡ n) (I : Exact n IsInner inner (λ k. ⊤ × (is_mark mark.OpenBrace k ≡ true)) (BlockText (l + 1) (l + 1))
    (BlockText (l + 1) (l + 1)) AfterStmt)
    (S : Exact n IsInner simple Any (SimpleText 0 l) (SimpleText 0 l) AfterStmt) where
  pub exact_statement : Exact n IsInner (stated_of simple inner) Any (StatedText l) (StatedText l) AfterStmt
  exact_statement =
      let stmts = exact_stated {o = 0} {l = l} I (λ t z k s. block_first (l + 1) (l + 1) t z k s (λ i. is_mark mark.OpenBrace i ≡ true) (λ at. refl)) S in
      retell stmts (StatedText l) (λ t z s. to_stated l t z s) (λ t z s. from_stated l t z s)

  exact_item : Exact n IsInner (item_of d simple inner) Any (ItemText l) (ItemText l) AfterItem
  exact_item =
      let D = entry (mapped (exact_declaration n d l h) declared AfterItem (λ i o f. tt) (λ i o f. tt)) (λ k. ⊤ × (begins_type k ≡ true)) (λ k i. tt) in
      let T = mapped exact_statement stated AfterItem (λ t o f. f) (λ t o f. f) in
      let W = ItemText l in
      let b = branch begins_type (widen D W (λ i z s. subst (λ (c : ItemTree). W c z) s.1 s.2))
      (entry (widen T W (λ i z s. subst (λ (c : ItemTree). W c z) s.1 s.2)) (λ k. ⊤ × (begins_type k ≡ false)) (λ k i. tt))
      (λ i z k s f. declaration_first l s.0 z k s.2)
      (λ i z k s f. stated_no_type l s.0 z k s.2) in
      rename b W (λ i z s. elim s [ inl k ↦ subst (λ (c : ItemTree). W c z) k.1 k.2 | inr k ↦ subst (λ (c : ItemTree). W c z) k.1 k.2 ]) (λ i z s. item_sides l i z s)

  closing : (is : List ItemTree) (end : Place) (y : Pieces) (k : Option Token) → opens_at mark.CloseBrace end 0 y → AfterLast AfterItem Any is (first_or y k) × (begins_item (first_or y k) ≡ false)
  closing is end y k e = rw e (all_last AfterItem Any is (Some (token mark.CloseBrace end)) tt (λ i. item_closes i end), refl)

  -- the items, with the braces round them
  pub exact_body : (o : ℕ) → o ≤ n → Exact n IsInner (body_of (items_parser d simple inner)) Any (BodyText o l) (BodyText o l) Free
  exact_body o low =
      let list = exact_list begins_item (entry exact_item (λ k. begins_item k ≡ true) (λ k i. tt)) Any refl (λ i x s. item_first l i x None s) item_allowed (λ k e. tt) in
      let inside = then list (λ is. entry (mapped (exact_expect_at n mark.CloseBrace 0 (omega arith)) (λ end. (items_from is, end)) Free (λ a k f. tt) (λ a k f. tt))
      (λ k. AfterLast AfterItem Any is k × (begins_item k ≡ false)) (λ k i. tt))
      (ItemsText l)
      (λ is b y k s f. closing is s.0 y k s.2)
      (λ is z v. ((items_from is, some_place), _, (is, (z, _, refl, v, (some_place, refl, refl)))))
      (λ is b x y s r. (is, (x, y, refl, s, r))) in
      let whole = exact_behind mark.OpenBrace o low inside ((no_items, some_place), _, ([], ([], _, refl, refl, (some_place, refl, refl)))) in
      retell whole (BodyText o l) (λ b z s. to_body o l b z s) (λ b z s. from_body o l b z s)
