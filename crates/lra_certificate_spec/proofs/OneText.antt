-- Two certificates that meet one program and have one text after the head are one: what is read of a text is one, so
-- what is left after each piece is one too, and a piece has one text.
use Rattle.std.proofs.Common.{◌≡◌, ◌<◌, ◌^◌, ℕ, ℤ, List, [], ◌∷◌, ◌++◌, length, get_or, refl, ap, sym, ◌∙◌, subst, arith, append_assoc, None, Some}
use Rattle.std.proofs.{lemmas.List.append_cancel_left, lemmas.List.append_cancel_right, lemmas.List.Splits.join_with_byte-slice_split, lemmas.Option.same_Some, lemmas.Option.slice_get_within}
use Rattle.std.specs.{List.AllByRecursion, List.join_with_byte, List.flat_map, Prelude.codes}
use Rattle.lra_certificate_spec.specs.Crates.{lra_linear_spec.Range.InRange, lra_operations.Tree.Node, lra_program.Program.Program, lra_program.Sites.sites_of}
use Rattle.lra_paths.specs.Paths.{Path, paths_of, violations_of}
use Rattle.lra_multipliers.specs.Multipliers.{Multipliers}
use Rattle.lra_row_text.specs.Texts.{text_line}
use Rattle.lra_certificate_spec.specs.CertificateText.{numbers_text, multipliers_text, evidence_text, edge_text, edges_text, assert_text, body_text}
use Rattle.lra_certificate_spec.specs.Certificates.{Evidence, none, infeasible, implies, ListedAssertion, Certificate, PathPremises, state_from, state_to, live_at_source, CertifiesByEvidence}
use Rattle.lra_certificate_spec.specs.Certificates.{CertifiesFrom, CertifiesPath, CertifiesPaths, CertifiesAssertion, ShowsNoClaim, AreNumbers, IsWritable, Certifies}
use Rattle.lra_certificate_spec.specs.Judged.{words_of, spaced_numbers, multipliers_of, Left, Judged, RowsAtPoint, judged_from, violation_from, lines_left}
use Rattle.lra_certificate_spec.proofs.WriteCertificate.{assert_from, assert_same, listing, listed_shape, listing_alive, listing_other, edges_other, body_shape}
use Rattle.lra_certificate_spec.proofs.WritePaths.{Read, IsAlive, multipliers_from_32, by_from, from_read, denied_read, edges_alive}
use Rattle.lra_certificate_spec.proofs.WriteText.{AreFrom, spaced_read, pieces_of, line_pieces}
use Rattle.lra_certificate_spec.proofs.{ReadPaths.AreRows, ReadText.ok_same, SourceRows.sources_fit, SourceRows.denials_denied, WritePoints.states_read}

-- ---- lines
pieces_same : (r s : List ℕ) → pieces_of r ≡ pieces_of s → r ≡ s
pieces_same r s e = sym (join_with_byte-slice_split 10 r) ∙ ap (λ (p : List (List ℕ)). join_with_byte 10 p) e ∙ join_with_byte-slice_split 10 s

-- what is left after what is read
rest_same : (j : Judged Left) (r s : List ℕ) → Read j r → Read j s → r ≡ s
rest_same j r s (m, e, p) (n, f, q) = pieces_same r s (sym p ∙ ap (λ (x : Left). x.pieces) (ok_same m n (sym e ∙ f)) ∙ q)

both_parts : {A : Type 0} (x y : A) (xs ys : List A) → x ∷ xs ≡ y ∷ ys → (x ≡ y) × (xs ≡ ys)
both_parts x y xs ys e = (cc, cc)

line_same : (a b r s : List ℕ) → AreFrom 32 a → AreFrom 32 b → text_line a ++ r ≡ text_line b ++ s → (a ≡ b) × (r ≡ s)
line_same a b r s h k e =
    let p : a ∷ pieces_of r ≡ b ∷ pieces_of s = sym (line_pieces a r h) ∙ ap pieces_of e ∙ line_pieces b s k in
    let q = both_parts a b (pieces_of r) (pieces_of s) p in
    (q.0, pieces_same r s q.1)

not_nil : (line rest : List ℕ) → [] ≡ text_line line ++ rest → ⊥
not_nil [] rest e = cc
not_nil (b ∷ bs) rest e = cc

-- ---- numbers and multipliers
numbers_same : (zs ys : List ℤ) → AllByRecursion InRange zs → AllByRecursion InRange ys → numbers_text zs ≡ numbers_text ys → zs ≡ ys
numbers_same zs ys h k e = same_Some zs ys (sym (spaced_read zs h) ∙ ap (λ (x : List ℕ). spaced_numbers (words_of x)) e ∙ spaced_read ys k)

abbrev numbers_of : Multipliers → List ℤ
numbers_of m = m.divisor ∷ m.constant ∷ m.factors

multipliers_same : (word : List ℕ) (m n : Multipliers) → AreNumbers m → AreNumbers n → multipliers_text word m ≡ multipliers_text word n → m ≡ n
multipliers_same word m n h k e =
    let zs = numbers_same (numbers_of m) (numbers_of n) (h.0, (h.1, h.2)) (k.0, (k.1, k.2))
    (append_cancel_left word (numbers_text (numbers_of m)) (numbers_text (numbers_of n)) e) in
    same_Some m n (ap multipliers_of zs)

-- ---- what is said of a path
by_same : (ms ns : List Multipliers) → AllByRecursion AreNumbers ms → AllByRecursion AreNumbers ns → evidence_text (implies ms) ≡ evidence_text (implies ns) →
    ms ≡ ns
by_same [] [] h k e = refl
by_same [] (n ∷ ns) h k e = absurd (not_nil (multipliers_text (codes "by") n) (evidence_text (implies ns)) e)
by_same (m ∷ ms) [] h k e = absurd (not_nil (multipliers_text (codes "by") m) (evidence_text (implies ms)) (sym e))
by_same (m ∷ ms) (n ∷ ns) h k e =
    let l = line_same (multipliers_text (codes "by") m) (multipliers_text (codes "by") n) (evidence_text (implies ms)) (evidence_text (implies ns))
    (multipliers_from_32 (codes "by") m by_from h.0) (multipliers_from_32 (codes "by") n by_from k.0) e in
    let one = multipliers_same (codes "by") m n h.0 k.0 l.0 in
    let more = by_same ms ns h.1 k.1 l.1 in
    (λ i. one i ∷ more i)

not_by : (m : Multipliers) (ns : List Multipliers) → evidence_text (infeasible m) ≡ evidence_text (implies ns) → ⊥
not_by m [] e = let c : 100 ≡ 0 = ap (λ (x : List ℕ). get_or x 0 0) e in omega (arith, c)
not_by m (n ∷ ns) e = let c : 100 ≡ 98 = ap (λ (x : List ℕ). get_or x 0 0) e in omega (arith, c)

evidence_same : (a : PathPremises) (target : RowsAtPoint) (x y : Evidence) → CertifiesByEvidence a target x → CertifiesByEvidence a target y → IsWritable x →
    IsWritable y →
    evidence_text x ≡ evidence_text y → x ≡ y
evidence_same a target none y h k u v e = absurd h
evidence_same a target (infeasible m) none h k u v e = absurd k
evidence_same a target (infeasible m) (infeasible n) h k u v e =
    ap infeasible (multipliers_same (codes "dead") m n u v
    (append_cancel_right (multipliers_text (codes "dead") m) (multipliers_text (codes "dead") n) (10 ∷ []) e))
evidence_same a target (infeasible m) (implies ns) h k u v e = absurd (not_by m ns e)
evidence_same a target (implies ms) none h k u v e = absurd k
evidence_same a target (implies ms) (infeasible n) h k u v e = absurd (not_by n ms (sym e))
evidence_same a target (implies ms) (implies ns) h k u v e = ap implies (by_same ms ns u v e)

from_same : (live : ℕ) (path : Path) (source target : RowsAtPoint) (x y : Evidence) → CertifiesFrom live path source target x →
    CertifiesFrom live path source target y →
    IsWritable x → IsWritable y → evidence_text x ≡ evidence_text y → x ≡ y
from_same live path None target x y h k u v e = h ∙ sym k
from_same live path (Some rows) target x y h k u v e = evidence_same (record { live = live; rows = rows; path = path }) target x y h k u v e

-- one piece, if what is left after it is one
piece_same : (x y : Evidence) (r s : List ℕ) → (evidence_text x ≡ evidence_text y → x ≡ y) → evidence_text x ++ r ≡ evidence_text y ++ s → r ≡ s →
    (x ≡ y) × (r ≡ s)
piece_same x y r s same e rest =
    (same (append_cancel_right (evidence_text x) (evidence_text y) r (e ∙ ap (λ (z : List ℕ). evidence_text y ++ z) (sym rest))), rest)

edge_shape : (path : Path) (paths : List Path) (x : Evidence) (ls : List Evidence) (r : List ℕ) → edges_text (path ∷ paths) (x ∷ ls) ++ r ≡
    text_line (edge_text path) ++ (evidence_text x ++ (edges_text paths ls ++ r))
edge_shape path paths x ls r =
    append_assoc (text_line (edge_text path) ++ evidence_text x) (edges_text paths ls) r ∙
    append_assoc (text_line (edge_text path)) (evidence_text x) (edges_text paths ls ++ r)

module _ (P : Program) (g : Node) (states : List RowsAtPoint) (fit : (p : ℕ) → AreRows (live_at_source P p) (state_from states p)) where
  abbrev lives : Path → ℕ
  lives path = live_at_source P path.source

  abbrev before : Path → RowsAtPoint
  before path = state_from states path.source

  abbrev behind : Path → RowsAtPoint
  behind path = state_to states path.goal

  abbrev left_of : Evidence → List ℕ → Left
  left_of x r = record { number = 1; pieces = pieces_of (evidence_text x ++ r) }

  -- ---- all paths
  path_same : (path : Path) (x y : Evidence) (r s : List ℕ) → CertifiesPath P g states path x → CertifiesPath P g states path y → IsWritable x → IsWritable y →
      IsAlive r → IsAlive s → evidence_text x ++ r ≡ evidence_text y ++ s → (x ≡ y) × (r ≡ s)
  path_same path x y r s h k u v o p e =
      piece_same x y r s (from_same (lives path) path (before path) (behind path) x y h k u v) e
      (rest_same (judged_from (lives path) path (before path) (behind path) (left_of x r)) r s
      (from_read (lives path) path (before path) (behind path) x (fit path.source) h u r o (left_of x r) refl)
      (from_read (lives path) path (before path) (behind path) y (fit path.source) k v s p (left_of x r) (ap pieces_of e)))

  edges_same : (paths : List Path) (ls ks : List Evidence) (r s : List ℕ) → CertifiesPaths P g states paths ls → CertifiesPaths P g states paths ks →
      AllByRecursion IsWritable ls → AllByRecursion IsWritable ks → IsAlive r → IsAlive s → edges_text paths ls ++ r ≡ edges_text paths ks ++ s →
      (ls ≡ ks) × (r ≡ s)
  edges_same [] [] [] r s h k u v o p e = (refl, e)
  edges_same [] [] (y ∷ ks) r s h k u v o p e = absurd k
  edges_same [] (x ∷ ls) ks r s h k u v o p e = absurd h
  edges_same (path ∷ paths) [] ks r s h k u v o p e = absurd h
  edges_same (path ∷ paths) (x ∷ ls) [] r s h k u v o p e = absurd k
  edges_same (path ∷ paths) (x ∷ ls) (y ∷ ks) r s h k u v o p e =
      let one = path_same path x y (edges_text paths ls ++ r) (edges_text paths ks ++ s) h.0 k.0 u.0 v.0 (edges_alive paths ls r o) (edges_alive paths ks s p)
      (append_cancel_left (text_line (edge_text path)) (evidence_text x ++ (edges_text paths ls ++ r)) (evidence_text y ++ (edges_text paths ks ++ s))
      (sym (edge_shape path paths x ls r) ∙ e ∙ edge_shape path paths y ks s)) in
      let more = edges_same paths ls ks r s h.1 k.1 u.1 v.1 o p one.1 in
      ((λ i. one.0 i ∷ more.0 i), more.1)

  -- ---- listed assertions
  denial_same : (path : Path) (x y : Evidence) (r s : List ℕ) → behind path ≡ None → CertifiesPath P g states path x → CertifiesPath P g states path y →
      ShowsNoClaim x → ShowsNoClaim y → IsWritable x → IsWritable y → evidence_text x ++ r ≡ evidence_text y ++ s → (x ≡ y) × (r ≡ s)
  denial_same path x y r s z h k c d u v e =
      piece_same x y r s (from_same (lives path) path (before path) (behind path) x y h k u v) e
      (rest_same (violation_from (lives path) path (before path) (left_of x r)) r s
      (denied_read (lives path) path (before path) x (fit path.source) (met_none x h) c u r (left_of x r) refl)
      (denied_read (lives path) path (before path) y (fit path.source) (met_none y k) d v s (left_of x r) (ap pieces_of e)))
    where
      met_none : (w : Evidence) → CertifiesPath P g states path w → CertifiesFrom (lives path) path (before path) None w
      met_none w m = subst (λ (t : RowsAtPoint). CertifiesFrom (lives path) path (before path) t w) z m

  denials_same : (paths : List Path) (ls ks : List Evidence) (r s : List ℕ) → AllByRecursion (λ path. state_to states path.goal ≡ None) paths →
      CertifiesPaths P g states paths ls → CertifiesPaths P g states paths ks → AllByRecursion ShowsNoClaim ls → AllByRecursion ShowsNoClaim ks →
      AllByRecursion IsWritable ls → AllByRecursion IsWritable ks → flat_map evidence_text ls ++ r ≡ flat_map evidence_text ks ++ s → (ls ≡ ks) × (r ≡ s)
  denials_same [] [] [] r s z h k c d u v e = (refl, e)
  denials_same [] [] (y ∷ ks) r s z h k c d u v e = absurd k
  denials_same [] (x ∷ ls) ks r s z h k c d u v e = absurd h
  denials_same (path ∷ paths) [] ks r s z h k c d u v e = absurd h
  denials_same (path ∷ paths) (x ∷ ls) [] r s z h k c d u v e = absurd k
  denials_same (path ∷ paths) (x ∷ ls) (y ∷ ks) r s z h k c d u v e =
      let one = denial_same path x y (flat_map evidence_text ls ++ r) (flat_map evidence_text ks ++ s) z.0 h.0 k.0 c.0 d.0 u.0 v.0
      (sym (append_assoc (evidence_text x) (flat_map evidence_text ls) r) ∙ e ∙ append_assoc (evidence_text y) (flat_map evidence_text ks) s) in
      let more = denials_same paths ls ks r s z.1 h.1 k.1 c.1 d.1 u.1 v.1 one.1 in
      ((λ i. one.0 i ∷ more.0 i), more.1)

  not_listed : (one : ListedAssertion) (ones : List ListedAssertion) → listing [] ≡ listing (one ∷ ones) → ⊥
  not_listed one ones e = let c : 101 ≡ 97 = ap (λ (x : List ℕ). get_or x 0 0) e in omega (arith, c)

  module _ (denials : (q : ℕ) → AllByRecursion (λ path. state_to states path.goal ≡ None) (violations_of P g q)) (small : length (sites_of P) < 10 ^ 63) where
    few : (one : ListedAssertion) → CertifiesAssertion P g states one → one.number < 10 ^ 63
    few one h = let w = slice_get_within (sites_of P) one.number h.site h.there in omega (arith, w, small)

    listed_same : (one two : ListedAssertion) (r s : List ℕ) → CertifiesAssertion P g states one → CertifiesAssertion P g states two →
        AllByRecursion IsWritable one.evidence →
        AllByRecursion IsWritable two.evidence →
        text_line (assert_text one.number) ++ (flat_map evidence_text one.evidence ++ r) ≡
        text_line (assert_text two.number) ++ (flat_map evidence_text two.evidence ++ s) →
        (one ≡ two) × (r ≡ s)
    listed_same one two r s h k u v e =
        let l = line_same (assert_text one.number) (assert_text two.number) (flat_map evidence_text one.evidence ++ r)
        (flat_map evidence_text two.evidence ++ s) (assert_from one.number) (assert_from two.number) e in
        let number : one.number ≡ two.number = assert_same one.number two.number (few one h) (few two k) l.0 in
        let d = denials_same (violations_of P g one.number) one.evidence two.evidence r s (denials one.number) h.paths
        (subst (λ (q : ℕ). CertifiesPaths P g states (violations_of P g q) two.evidence) (sym number) k.paths) h.no_claims k.no_claims u v l.1 in
        ((λ i. record { number = number i; evidence = d.0 i }), d.1)

    listing_same : (ones twos : List ListedAssertion) → AllByRecursion (CertifiesAssertion P g states) ones →
        AllByRecursion (CertifiesAssertion P g states) twos →
        AllByRecursion (λ one. AllByRecursion IsWritable one.evidence) ones → AllByRecursion (λ one. AllByRecursion IsWritable one.evidence) twos →
        listing ones ≡ listing twos → ones ≡ twos
    listing_same [] [] h k u v e = refl
    listing_same [] (two ∷ twos) h k u v e = absurd (not_listed two twos e)
    listing_same (one ∷ ones) [] h k u v e = absurd (not_listed one ones (sym e))
    listing_same (one ∷ ones) (two ∷ twos) h k u v e =
        let x = listed_same one two (listing ones) (listing twos) h.0 k.0 u.0 v.0 (sym (listed_shape one ones) ∙ e ∙ listed_shape two twos) in
        let more = listing_same ones twos h.1 k.1 u.1 v.1 x.1 in
        (λ i. x.0 i ∷ more i)

-- ---- the whole after the head
pub one_body : (P : Program) (g : Node) (c d : Certificate) → Certifies P g c → Certifies P g d → length (sites_of P) < 10 ^ 63 → c.source ≡ d.source →
    body_text (paths_of P g) c ≡ body_text (paths_of P g) d → c ≡ d
one_body P g c d h k small sources e =
    let l = lines_left (body_text (paths_of P g) c) in
    let one = states_read 1 (sites_of P) c.states (edges_text (paths_of P g) c.paths ++ listing c.asserted) l h.states
    (edges_other (paths_of P g) c.paths (listing c.asserted) (listing_other c.asserted)) (ap pieces_of (body_shape (paths_of P g) c)) in
    let two = states_read 1 (sites_of P) d.states (edges_text (paths_of P g) d.paths ++ listing d.asserted) l k.states
    (edges_other (paths_of P g) d.paths (listing d.asserted) (listing_other d.asserted)) (ap pieces_of (e ∙ body_shape (paths_of P g) d)) in
    let both = ok_same (let x : List RowsAtPoint × Left = (c.states, one.0) in x) (let x : List RowsAtPoint × Left = (d.states, two.0) in x)
    (sym one.1 ∙ two.1) in
    let states : c.states ≡ d.states = ap (λ (x : List RowsAtPoint × Left). x.0) both in
    let paths = edges_same P g c.states (sources_fit P c.states h.states) (paths_of P g) c.paths d.paths (listing c.asserted) (listing d.asserted) h.paths
    (subst (λ (ss : List RowsAtPoint). CertifiesPaths P g ss (paths_of P g) d.paths) (sym states) k.paths) h.numbers k.numbers
    (listing_alive c.asserted) (listing_alive d.asserted)
    (pieces_same (edges_text (paths_of P g) c.paths ++ listing c.asserted) (edges_text (paths_of P g) d.paths ++ listing d.asserted)
    (sym one.2 ∙ ap (λ (x : List RowsAtPoint × Left). x.1.pieces) both ∙ two.2)) in
    let asserted = listing_same P g c.states (sources_fit P c.states h.states) (denials_denied P g c.states) small c.asserted d.asserted h.listed
    (subst (λ (ss : List RowsAtPoint). AllByRecursion (CertifiesAssertion P g ss) d.asserted) (sym states) k.listed) h.listed_numbers k.listed_numbers
    paths.1 in
    (λ i. record { source = sources i; states = states i; paths = paths.0 i; asserted = asserted i })
