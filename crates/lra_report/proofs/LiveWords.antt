-- The variables that live together in an accepted source are named by words, and there are few of them.
use Rattle.std.proofs.Common.{◌≡◌, ℕ, zero, suc, ◌*◌, ◌≤◌, true, List, [], ◌∷◌, ◌++◌, length, ap, sym, subst, arith, length-append, slice_get}
use Rattle.std.proofs.lemmas.List.{length-map}
use Rattle.std.specs.List.{AllByRecursion}
use Rattle.lra_report.specs.Crates.{lra_program.Sites.Site, lra_program.Sites.greatest_calls, lra_program.Sites.sites_of, lra_syntax.Faults.Language, lra_syntax.Grammar.Spells}
use Rattle.lra_report.specs.Crates.{lra_syntax.Labels.Labelled, lra_syntax.Labels.labels_of, lra_syntax.Labels.label_at, lra_syntax.Lexeme.is_name_word, lra_syntax.Texts.Piece}
use Rattle.lra_report.specs.Crates.{lra_syntax.Texts.Pieces, lra_syntax.Texts.plain, lra_syntax.Trees.FileTree, lra_syntax.declared.tokens.Token.Token}
use Rattle.lra_resolution_spec.specs.EntryPoint.{at_main}
use Rattle.lra_resolution_spec.specs.{LiveNames.live_at, LiveNames.live_in_call_at, LiveNames.names_outside, LiveNames.live_names, LiveNames.globals_named, Refuse.Accepts, Resolve.resolve}
use Rattle.lra_base.specs.Places.{greatest_length}
use Rattle.lra_report.specs.Spelled.{AreWords, HasWords}
use Rattle.lra_report.proofs.DeclaredNames.{IsNamed, AreFew, AreFewAt, HasRoom, labels_few, globals_few}
use Rattle.lra_report.proofs.{Every.every_append, Every.every_front, SitePaths.sites_shallow, TokenWords.HasWord, TokenWords.lexed_words, TokenWords.lexed_few}

-- the most tokens that a source may have
abbrev most_tokens : ℕ
most_tokens = 65537

-- at a label ---------------------------------------------------------------------

none_few : AreFew most_tokens []
none_few = (tt, omega arith)

few_got : (ls : List Labelled) (n : ℕ) → AllByRecursion (AreFewAt most_tokens) ls → AreFew most_tokens (live_at (slice_get ls n)) × AreFew most_tokens (live_in_call_at (slice_get ls n))
few_got [] n h = (none_few, none_few)
few_got (l ∷ ls) zero h = (h.0.0, h.0.1)
few_got (l ∷ ls) (suc n) h = few_got ls n h.1

few_at : (ls : List Labelled) (n : ℕ) → AllByRecursion (AreFewAt most_tokens) ls → AreFew most_tokens (live_at (label_at ls n)) × AreFew most_tokens (live_in_call_at (label_at ls n))
few_at ls zero h = (none_few, none_few)
few_at ls (suc n) h = few_got ls n h

-- on a path ----------------------------------------------------------------------

outside_words : (ls : List Labelled) (path : List ℕ) → AllByRecursion (AreFewAt most_tokens) ls → AllByRecursion (λ n. is_name_word n ≡ true) (names_outside ls path)
outside_words ls [] h = tt
outside_words ls (c ∷ outer) h = every_append (λ n. is_name_word n ≡ true) (names_outside ls outer) (live_in_call_at (label_at ls c)) (outside_words ls outer h) (few_at ls c h).1.0

outside_few : (ls : List Labelled) (path : List ℕ) → AllByRecursion (AreFewAt most_tokens) ls → length (names_outside ls path) ≤ length path * 65537
outside_few ls [] h = omega arith
outside_few ls (c ∷ outer) h =
    let behind = outside_few ls outer h in
    let here = (few_at ls c h).1.1 in
    omega (arith, behind, here, length-append (names_outside ls outer) (live_in_call_at (label_at ls c)))

live_words : (outside : List (List ℕ)) (ls : List Labelled) (s : Site) → AreFew most_tokens outside → AllByRecursion (AreFewAt most_tokens) ls → length s.path ≤ greatest_calls →
    AreWords (live_names outside ls s)
live_words outside ls s first h path =
    let called = names_outside ls s.path in
    let own = live_at (label_at ls s.label) in
    let own_few = few_at ls s.label h in
    let most = first.1 in
    let most_called = outside_few ls s.path h in
    let most_own = own_few.0.1 in
    record {
      words = every_append (λ n. is_name_word n ≡ true) (outside ++ called) own (every_append (λ n. is_name_word n ≡ true) outside called first.0 (outside_words ls s.path h)) own_few.0.0;
      few = omega (arith, most, most_called, most_own, path, length-append outside called, length-append (outside ++ called) own);
    }

-- at all points ------------------------------------------------------------------

all_live_words : (outside : List (List ℕ)) (ls : List Labelled) (sites : List Site) → AreFew most_tokens outside → AllByRecursion (AreFewAt most_tokens) ls
    → AllByRecursion (λ (s : Site). length s.path ≤ greatest_calls) sites → AllByRecursion (λ s. AreWords (live_names outside ls s)) sites
all_live_words outside ls [] first h paths = tt
all_live_words outside ls (s ∷ sites) first h paths = (live_words outside ls s first h paths.0, all_live_words outside ls sites first h paths.1)

plain_named : (pieces : Pieces) → AllByRecursion (λ (t : Token). HasWord t.kind) (plain pieces) → AllByRecursion IsNamed pieces
plain_named [] h = tt
plain_named (p ∷ pieces) h = (h.0, plain_named pieces h.1)

tree_words : (t : FileTree) (pieces : Pieces) → Spells t pieces → length pieces ≤ 65537 → AllByRecursion IsNamed pieces → HasWords t
tree_words t pieces (x, y, e, are, end) few named =
    let n = ap (λ (z : Pieces). length z) e in
    let room : HasRoom most_tokens [] x = (tt, omega (arith, few, n, length-append x y), every_front IsNamed x y (subst (AllByRecursion IsNamed) e named)) in
    all_live_words (globals_named t.parts) (labels_of t) (sites_of (resolve t)) (globals_few most_tokens t.parts [] x are room) (labels_few most_tokens t.parts x are room) (sites_shallow (resolve t))

-- of a language whose texts are texts of the grammar
pub accepted_words : (L : Language) → ((t : FileTree) (z : Pieces) → L t z → Spells t z) → (source : List ℕ) (t : FileTree) → Accepts at_main L source t → HasWords t
unfolding greatest_length
accepted_words L spelled source t a =
    let pieces = a.parsed.0 in
    let tokens = a.parsed.2 in
    let not_long = a.not_long in
    let few = lexed_few source a.tokens a.lexed in
    let n = ap (λ (z : List Token). length z) tokens in
    let m = length-map pieces (λ (p : Piece). p.0) in
    tree_words t pieces (spelled t pieces a.parsed.1) (omega (arith, not_long, few, n, m))
    (plain_named pieces (subst (AllByRecursion (λ (x : Token). HasWord x.kind)) (sym tokens) (lexed_words source a.tokens a.lexed)))
