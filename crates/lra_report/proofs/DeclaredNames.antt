-- The names that a tree declares are words among the tokens of its text, and each has a token of its own there: so of the variables that
-- live at a label.
use Rattle.std.proofs.Common.{◌≡◌, ℕ, ◌+◌, ◌≤◌, true, List, [], ◌∷◌, ◌++◌, length, map, refl, ap, sym, ◌∙◌, subst, arith, length-append, append_assoc, append-nil, Option, Some, None}
use Rattle.std.specs.List.{AllByRecursion, flat_map}
use Rattle.lra_base.specs.declared.refusals.Place.{Place}
use Rattle.lra_report.specs.Crates.lra_syntax.Grammar.{IsDeclarator, IsDeclaration, IsInit, opened_by, level_of, IsStmt, AreCases, AreLabelled, AreStated, AreItems, IsParameter, AreParameters}
use Rattle.lra_report.specs.Crates.lra_syntax.Grammar.{IsFunction, IsGlobal, AreGlobals, AreExternalDeclarations}
use Rattle.lra_report.specs.Crates.lra_syntax.Labels.{Labelled, name_in, names_of, with_names, declarator_labels, init_labels, live_in_for, step_labels, stmt_labels, cases_labels, items_labels}
use Rattle.lra_report.specs.Crates.lra_syntax.Labels.{function_labels}
use Rattle.lra_report.specs.Crates.lra_syntax.Texts.{Piece, Pieces, Texts, name, further, separated}
use Rattle.lra_report.specs.Crates.lra_syntax.Trees.{AssignTree, DeclaratorTree, DeclarationTree, InitTree, no_init, declared, assigned, StmtTree, block, nothing, assign, call, ScalarOrArrayTree}
use Rattle.lra_report.specs.Crates.lra_syntax.Trees.{scalar, array, if_only, if_else, while, for, break, continue, return, assert, assume, switch, CasesTree, no_cases, labelled, stated, ItemsTree}
use Rattle.lra_report.specs.Crates.lra_syntax.Trees.{no_items, declaration, statement, FunctionTree, GlobalsTree, ExternalTree, prototype, globals, function}
use Rattle.lra_report.specs.Crates.{lra_syntax.Functions.functions_in, lra_syntax.Lexeme.is_name_word, lra_syntax.declared.trees.Identifier.Identifier, lra_syntax.declared.trees.Parameter.Parameter}
use Rattle.lra_resolution_spec.specs.LiveNames.{live_name, globals_named}
use Rattle.lra_report.proofs.{Every.every_append, Every.every_front, Every.every_back, TokenWords.HasWord}

abbrev pub IsNamed : Piece → Type 0
IsNamed p = HasWord p.0.kind

-- words, and no more than most of them
abbrev pub AreFew : ℕ → List (List ℕ) → Type 0
AreFew most live = AllByRecursion (λ n. is_name_word n ≡ true) live × (length live ≤ most)

abbrev pub AreFewAt : ℕ → Labelled → Type 0
AreFewAt most l = AreFew most l.live × AreFew most l.live_in_call

-- and no more than most with a name for each piece of the text after
abbrev pub HasRoom : ℕ → List (List ℕ) → Pieces → Type 0
HasRoom most live z = AllByRecursion (λ n. is_name_word n ≡ true) live × (length live + length z ≤ most) × AllByRecursion IsNamed z

-- room ---------------------------------------------------------------------------

room_few : (most : ℕ) (live : List (List ℕ)) (z : Pieces) → HasRoom most live z → AreFew most live
room_few most live z h = let n = h.1 in (h.0, omega (arith, n))

room_first : (most : ℕ) (live : List (List ℕ)) (z a b : Pieces) → z ≡ a ++ b → HasRoom most live z → HasRoom most live a
room_first most live z a b e h =
    let n = h.1 in
    let m = ap (λ (x : Pieces). length x) e in
    (h.0, omega (arith, n, m, length-append a b), every_front IsNamed a b (subst (AllByRecursion IsNamed) e h.2))

room_last : (most : ℕ) (live : List (List ℕ)) (z a b : Pieces) → z ≡ a ++ b → HasRoom most live z → HasRoom most live b
room_last most live z a b e h =
    let n = h.1 in
    let m = ap (λ (x : Pieces). length x) e in
    (h.0, omega (arith, n, m, length-append a b), every_back IsNamed a b (subst (AllByRecursion IsNamed) e h.2))

-- of x and y, if x has the parts a and b
room_parts : (most : ℕ) (live : List (List ℕ)) (x y a b : Pieces) → x ≡ a ++ b → HasRoom most live (x ++ y) → HasRoom most live (a ++ (b ++ y))
room_parts most live x y a b e h = subst (HasRoom most live) (ap (λ (z : Pieces). z ++ y) e ∙ append_assoc a b y) h

room_behind : (most : ℕ) (live : List (List ℕ)) (x y a b : Pieces) → x ≡ a ++ b → HasRoom most live (x ++ y) → HasRoom most live (b ++ y)
room_behind most live x y a b e h = room_last most live (a ++ (b ++ y)) a (b ++ y) refl (room_parts most live x y a b e h)

-- lists of declared names --------------------------------------------------------

-- the names that x declares are words, and no more than its pieces
abbrev Declares : List (List ℕ) → Pieces → Type 0
Declares ws x = AllByRecursion IsNamed x → AllByRecursion (λ n. is_name_word n ≡ true) ws × (length ws ≤ length x)

name_declares : (x : Identifier) (o : ℕ) (z : Pieces) → name x o z → Declares (x.word ∷ []) z
name_declares x o z e h = let n = ap (λ (y : Pieces). length y) e in (((subst (AllByRecursion IsNamed) e h).0, tt), omega (arith, n))

first_declares : (ws : List (List ℕ)) (z a b : Pieces) → z ≡ a ++ b → Declares ws a → Declares ws z
first_declares ws z a b e d h =
    let own = d (every_front IsNamed a b (subst (AllByRecursion IsNamed) e h)) in
    let some = own.1 in
    let n = ap (λ (y : Pieces). length y) e in
    (own.0, omega (arith, some, n, length-append a b))

last_declares : (ws : List (List ℕ)) (z a b : Pieces) → z ≡ a ++ b → Declares ws b → Declares ws z
last_declares ws z a b e d h =
    let own = d (every_back IsNamed a b (subst (AllByRecursion IsNamed) e h)) in
    let some = own.1 in
    let n = ap (λ (y : Pieces). length y) e in
    (own.0, omega (arith, some, n, length-append a b))

-- after its name, a scalar declares that, an array nothing
shape_declares : {A : Type 0} (x : Identifier) (shape : ScalarOrArrayTree A) (z a b : Pieces) → z ≡ a ++ b → name x 0 a → Declares (name_in x.word shape) z
shape_declares x (scalar v) z a b e is h = first_declares (x.word ∷ []) z a b e (name_declares x 0 a is) h
shape_declares x (array n) z a b e is h = (tt, omega arith)

declared_room : (most : ℕ) (live ws : List (List ℕ)) (x y : Pieces) → Declares ws x → HasRoom most live (x ++ y) → HasRoom most (live ++ ws) y
declared_room most live ws x y d h =
    let own = d (every_front IsNamed x y h.2) in
    let n = h.1 in
    let some = own.1 in (
      every_append (λ n. is_name_word n ≡ true) live ws h.0 own.0,
      omega (arith, n, some, length-append x y, length-append live ws),
      every_back IsNamed x y h.2,
    )

-- items with commas between them, each of which declares names
module _ {A : Type 0} (R : A → Texts) (words : A → List (List ℕ)) (declares : (a : A) (x : Pieces) → R a x → Declares (words a) x) (most : ℕ) where
  further_room : (live : List (List ℕ)) (many : List A) (x y : Pieces) → further R many x → HasRoom most live (x ++ y) → HasRoom most
      (live ++ flat_map words many) y
  further_room live [] x y e h = subst (λ (l : List (List ℕ)). HasRoom most l y) (sym (append-nil live)) (room_last most live (x ++ y) x y refl h)
  further_room live (a ∷ many) x y (c, z, e, comma, (p, q, e', is, rest)) h =
      let here = room_parts most live z y p q e' (room_behind most live x y c z e h) in
      let behind = further_room (live ++ words a) many q y rest (declared_room most live (words a) p (q ++ y) (declares a p is) here) in
      subst (λ (l : List (List ℕ)). HasRoom most l y) (append_assoc live (words a) (flat_map words many)) behind

  separated_room : (live : List (List ℕ)) (many : List A) (x y : Pieces) → separated R many x → HasRoom most live (x ++ y) → HasRoom most
      (live ++ flat_map words many) y
  separated_room live [] x y e h = subst (λ (l : List (List ℕ)). HasRoom most l y) (sym (append-nil live)) (room_last most live (x ++ y) x y refl h)
  separated_room live (a ∷ many) x y (p, q, e, is, rest) h =
      let here = room_parts most live x y p q e h in
      let behind = further_room (live ++ words a) many q y rest (declared_room most live (words a) p (q ++ y) (declares a p is) here) in
      subst (λ (l : List (List ℕ)). HasRoom most l y) (append_assoc live (words a) (flat_map words many)) behind

-- declarations -------------------------------------------------------------------

few_front : (most : ℕ) (live more : List (List ℕ)) → AreFew most (live ++ more) → AreFew most live
few_front most live more h = let n = h.1 in (every_front (λ n. is_name_word n ≡ true) live more h.0, omega (arith, n, length-append live more))

declarators_few : (most : ℕ) (live : List (List ℕ)) (ds : List DeclaratorTree) → AreFew most (with_names live ds) → AllByRecursion (AreFewAt most)
    (declarator_labels live ds)
declarators_few most live [] h = tt
declarators_few most live (d ∷ ds) h =
    let further = flat_map names_of ds in
    let behind = subst (AreFew most) (sym (append_assoc live (names_of d) further)) h in (
      (few_front most live (names_of d ++ further) h, few_front most (live ++ names_of d) further behind),
      declarators_few most (live ++ names_of d) ds behind,
    )

declaration_room : (most l : ℕ) (d : DeclarationTree) (live : List (List ℕ)) (x y : Pieces) → IsDeclaration l d x → HasRoom most live (x ++ y) → HasRoom most
    (with_names live (d.first ∷ d.rest)) y
declaration_room most l d live x y (t, z, e, type, (s, m, e', are, semicolon)) h =
    let here = room_parts most live z y s m e' (room_behind most live x y t z e h) in
    let behind = separated_room (IsDeclarator l) names_of (λ v p is. shape_declares v.name v.shape p is.0 is.1 is.2 is.3) most live
    (d.first ∷ d.rest) s (m ++ y) are here in
    room_last most (with_names live (d.first ∷ d.rest)) (m ++ y) m y refl behind

declaration_few : (most l : ℕ) (d : DeclarationTree) (live : List (List ℕ)) (x y : Pieces) → IsDeclaration l d x → HasRoom most live (x ++ y) →
    AllByRecursion (AreFewAt most) (declarator_labels live (d.first ∷ d.rest))
declaration_few most l d live x y is h =
    let names = with_names live (d.first ∷ d.rest) in declarators_few most live (d.first ∷ d.rest)
    (room_few most names y (declaration_room most l d live x y is h))

init_room : (most l : ℕ) (i : InitTree) (live : List (List ℕ)) (x y : Pieces) → IsInit l i x → HasRoom most live (x ++ y) → HasRoom most (live_in_for live i) y
init_room most l no_init live x y is h = room_last most live (x ++ y) x y refl h
init_room most l (declared d) live x y is h = declaration_room most l d live x y is h
init_room most l (assigned a) live x y is h = room_last most live (x ++ y) x y refl h

init_few : (most l : ℕ) (i : InitTree) (live : List (List ℕ)) (x y : Pieces) → IsInit l i x → HasRoom most live (x ++ y) → AllByRecursion (AreFewAt most)
    (init_labels live i)
init_few most l no_init live x y is h = tt
init_few most l (declared d) live x y is h = declaration_few most l d live x y is h
init_few most l (assigned a) live x y is h = let few = room_few most live (x ++ y) h in ((few, few), tt)

step_few : (most : ℕ) (e : Option AssignTree) (live : List (List ℕ)) → AreFew most live → AllByRecursion (AreFewAt most) (step_labels live e)
step_few most None live few = tt
step_few most (Some a) live few = ((few, few), tt)

-- statements ---------------------------------------------------------------------

-- an item's text and those of the items after it
mutual
  stmt_few : (most o l : ℕ) (t : StmtTree) (live : List (List ℕ)) (z : Pieces) → IsStmt o l t z → HasRoom most live z → AllByRecursion (AreFewAt most)
      (stmt_labels live t)
  stmt_few most o l (block items end) live z (a, b, e, brace, (c, d, e', are, close)) h =
      items_few most l items end live c are (room_first most live b c d e' (room_last most live z a b e h))
  stmt_few most o l (nothing at) live z is h = let few = room_few most live z h in ((few, few), tt)
  stmt_few most o l (assign a) live z is h = let few = room_few most live z h in ((few, few), tt)
  stmt_few most o l (call c) live z is h = let few = room_few most live z h in ((few, few), tt)
  stmt_few most o l (if_only at c t) live z (a, b, e, word, (p, q, e', test, is)) h =
      let few = room_few most live z h in
      ((few, few), stmt_few most (l + 1) (l + 1) t live q is (room_last most live b p q e' (room_last most live z a b e h)))
  stmt_few most o l (if_else at c t u) live z ((a, b, e, word, (p, q, e', test, (r, s, e'', first, (v, w, e3, other, is)))), closed) h =
      let few = room_few most live z h in
      let behind = room_last most live b p q e' (room_last most live z a b e h) in (
        (few, few),
        every_append (AreFewAt most) (stmt_labels live t) (stmt_labels live u)
            (stmt_few most (l + 1) (l + 1) t live r first (room_first most live q r s e'' behind))
            (stmt_few most (l + 1) (l + 1) u live w is (room_last most live s v w e3 (room_last most live q r s e'' behind))),
      )
  stmt_few most o l (while at c t) live z (a, b, e, word, (p, q, e', test, is)) h =
      let few = room_few most live z h in
      ((few, few), stmt_few most (l + 1) (l + 1) t live q is (room_last most live b p q e' (room_last most live z a b e h)))
  stmt_few most o l (for at i c step t) live z (
    a,
    b,
    e,
    word,
    (
      p,
      q,
      e1,
      paren,
      (x, y, e2, init, (r, s, e3, test, (f, g, e4, semicolon, (j, k, e5, again, (v, w, e6, close, is))))),
    ),
  ) h =
      let start = subst (HasRoom most live) e2 (room_last most live b p q e1 (room_last most live z a b e h)) in
      let inside = live_in_for live i in
      let room = init_room most l i live x y init start in
      let few = room_few most inside y room in
      let body = room_last most inside k v w e6 (room_last most inside g j k e5 (room_last most inside s f g e4 (room_last most inside y r s e3 room))) in (
        (few, few),
        every_append (AreFewAt most) (init_labels live i ++ step_labels inside step) (stmt_labels inside t)
            (every_append (AreFewAt most) (init_labels live i) (step_labels inside step) (init_few most l i live x y init start)
            (step_few most step inside few))
            (stmt_few most (l + 1) (l + 1) t inside w is body),
      )
  stmt_few most o l (break at) live z is h = let few = room_few most live z h in ((few, few), tt)
  stmt_few most o l (continue at) live z is h = let few = room_few most live z h in ((few, few), tt)
  stmt_few most o l (return at r) live z is h = let few = room_few most live z h in ((few, few), tt)
  stmt_few most o l (assert at c) live z is h = let few = room_few most live z h in ((few, few), tt)
  stmt_few most o l (assume at c) live z is h = let few = room_few most live z h in ((few, few), tt)
  stmt_few most o l (switch at v cs) live z (a, b, e, word, (p, q, e1, value, (x, y, e2, opening, (r, s, e3, is, close)))) h =
      let few = room_few most live z h in
      let inside = room_last most live q x y e2 (room_last most live b p q e1 (room_last most live z a b e h)) in
      ((few, few), cases_few most (l + 1) cs live r is (room_first most live y r s e3 inside))

  cases_few : (most l : ℕ) (cs : CasesTree) (live : List (List ℕ)) (z : Pieces) → AreCases l cs z → HasRoom most live z → AllByRecursion (AreFewAt most)
      (cases_labels live cs)
  cases_few most l no_cases live z is h = tt
  cases_few most l (labelled b cs) live z (x, y, e, label, is) h = labelled_few most l cs live y is (room_last most live z x y e h)
  cases_few most l (stated t cs) live z is h = absurd is

  labelled_few : (most l : ℕ) (cs : CasesTree) (live : List (List ℕ)) (z : Pieces) → AreLabelled l cs z → HasRoom most live z → AllByRecursion (AreFewAt most)
      (cases_labels live cs)
  labelled_few most l no_cases live z is h = absurd is
  labelled_few most l (labelled b cs) live z (x, y, e, label, is) h = labelled_few most l cs live y is (room_last most live z x y e h)
  labelled_few most l (stated t cs) live z (x, y, e, is, are) h =
      every_append (AreFewAt most) (stmt_labels live t) (cases_labels live cs)
      (stmt_few most (opened_by t l) (level_of t l) t live x is (room_first most live z x y e h))
      (stated_few most l cs live y are (room_last most live z x y e h))

  stated_few : (most l : ℕ) (cs : CasesTree) (live : List (List ℕ)) (z : Pieces) → AreStated l cs z → HasRoom most live z → AllByRecursion (AreFewAt most)
      (cases_labels live cs)
  stated_few most l no_cases live z is h = tt
  stated_few most l (labelled b cs) live z (x, y, e, label, is) h = labelled_few most l cs live y is (room_last most live z x y e h)
  stated_few most l (stated t cs) live z (x, y, e, is, are) h =
      every_append (AreFewAt most) (stmt_labels live t) (cases_labels live cs)
      (stmt_few most (opened_by t l) (level_of t l) t live x is (room_first most live z x y e h))
      (stated_few most l cs live y are (room_last most live z x y e h))

  items_few : (most l : ℕ) (items : ItemsTree) (end : Place) (live : List (List ℕ)) (z : Pieces) → AreItems l items z → HasRoom most live z →
      AllByRecursion (AreFewAt most) (items_labels live items end)
  items_few most l no_items end live z are h = let few = room_few most live z h in ((few, few), tt)
  items_few most l (declaration d items) end live z (x, y, e, is, are) h =
      let more = with_names live (d.first ∷ d.rest) in
      let here = subst (HasRoom most live) e h in
      every_append (AreFewAt most) (declarator_labels live (d.first ∷ d.rest)) (items_labels more items end) (declaration_few most l d live x y is here)
      (items_few most l items end more y are (declaration_room most l d live x y is here))
  items_few most l (statement t items) end live z (x, y, e, is, are) room =
      every_append (AreFewAt most) (stmt_labels live t) (items_labels live items end)
      (stmt_few most (opened_by t l) (level_of t l) t live x is (room_first most live z x y e room))
      (items_few most l items end live y are (room_last most live z x y e room))

-- functions and globals ----------------------------------------------------------

each_one : (ps : List Parameter) → flat_map (λ (p : Parameter). p.name.word ∷ []) ps ≡ map (λ (p : Parameter). p.name.word) ps
each_one [] = refl
each_one (p ∷ ps) = ap (λ (l : List (List ℕ)). p.name.word ∷ l) (each_one ps)

parameters_room : (most : ℕ) (ps : List Parameter) (x y : Pieces) → AreParameters ps x → HasRoom most [] (x ++ y) → HasRoom most
    (map (λ (p : Parameter). p.name.word) ps) y
parameters_room most [] x y are h = room_last most [] (x ++ y) x y refl h
parameters_room most (p ∷ ps) x y are h =
    subst (λ (l : List (List ℕ)). HasRoom most l y) (each_one (p ∷ ps))
    (separated_room IsParameter (λ (q : Parameter). q.name.word ∷ [])
    (λ q z is. last_declares (q.name.word ∷ []) z is.0 is.1 is.2 (name_declares q.name 0 is.1 is.4)) most [] (p ∷ ps) x y are h)

function_few : (most : ℕ) (f : FunctionTree) (z : Pieces) → IsFunction f z → HasRoom most [] z → AllByRecursion (AreFewAt most) (function_labels f)
function_few most f z (a, b, e, head, (c, d, e1, paren, (p, q, e2, are, (r, s, e3, close, (t, u, e4, opening, (v, w, e5, items, end)))))) h =
    let start = subst (HasRoom most []) e2 (room_last most [] b c d e1 (room_last most [] z a b e h)) in
    let names = map (λ (x : Parameter). x.name.word) f.parameters in
    let room = parameters_room most f.parameters p q are start in
    items_few most 1 f.body f.end names v items (room_first most names u v w e5 (room_last most names s t u e4 (room_last most names q r s e3 room)))

-- at each label of the parts
pub labels_few : (most : ℕ) (ps : List ExternalTree) (z : Pieces) → AreExternalDeclarations ps z → HasRoom most [] z → AllByRecursion (AreFewAt most)
    (flat_map function_labels (functions_in ps))
labels_few most [] z are h = tt
labels_few most (prototype ∷ ps) z (x, y, e, is, are) h = labels_few most ps y are (room_last most [] z x y e h)
labels_few most (globals g ∷ ps) z (x, y, e, is, are) h = labels_few most ps y are (room_last most [] z x y e h)
labels_few most (function f ∷ ps) z (x, y, e, is, are) h =
    every_append (AreFewAt most) (function_labels f) (flat_map function_labels (functions_in ps)) (function_few most f x is (room_first most [] z x y e h))
    (labels_few most ps y are (room_last most [] z x y e h))

globals_room : (most : ℕ) (g : GlobalsTree) (live : List (List ℕ)) (x y : Pieces) → AreGlobals g x → HasRoom most live (x ++ y) → HasRoom most
    (live ++ flat_map live_name (g.first ∷ g.rest)) y
globals_room most g live x y (t, z, e, type, (s, m, e', are, semicolon)) h =
    let here = room_parts most live z y s m e' (room_behind most live x y t z e h) in
    let behind = separated_room IsGlobal live_name (λ v p is. shape_declares v.name v.shape p is.0 is.1 is.2 is.3) most live (g.first ∷ g.rest) s
    (m ++ y) are here in
    room_last most (live ++ flat_map live_name (g.first ∷ g.rest)) (m ++ y) m y refl behind

pub globals_few : (most : ℕ) (ps : List ExternalTree) (live : List (List ℕ)) (z : Pieces) → AreExternalDeclarations ps z → HasRoom most live z → AreFew most
    (live ++ globals_named ps)
globals_few most [] live z are h = subst (AreFew most) (sym (append-nil live)) (room_few most live z h)
globals_few most (prototype ∷ ps) live z (x, y, e, is, are) h = globals_few most ps live y are (room_last most live z x y e h)
globals_few most (globals g ∷ ps) live z (x, y, e, is, are) h =
    let names = flat_map live_name (g.first ∷ g.rest) in
    subst (AreFew most) (append_assoc live names (globals_named ps)) (globals_few most ps (live ++ names) y are
    (globals_room most g live x y is (subst (HasRoom most live) e h)))
globals_few most (function f ∷ ps) live z (x, y, e, is, are) h = globals_few most ps live y are (room_last most live z x y e h)
