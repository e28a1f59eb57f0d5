-- Paths and assertions that are written are read again, and accepted.
use Rattle.std.proofs.Common.{◌≡◌, ℕ, suc, ℤ, Bool, false, List, [], ◌∷◌, ◌++◌, length, drop, refl, ap, sym, ◌∙◌, subst, arith, append_assoc, append-nil, Option, Some, None, Result, Ok}
use Rattle.std.specs.{Fmt.decimal, List.AllByRecursion, List.flat_map, Prelude.if◌then◌else◌, Prelude.codes}
use Rattle.lra_certificate_spec.specs.Crates.lra_linear_spec.Descriptions.{LinearRow, system_of}
use Rattle.lra_certificate_spec.specs.Crates.{lra_linear_spec.declared.Excess.Excess, lra_operations.Tree.Node, lra_program.Program.Program}
use Rattle.lra_paths.specs.Paths.{Path}
use Rattle.lra_multipliers.specs.Multipliers.{Multipliers, Answer, yes, no, wide, IsAnswer, AreSigned, checked}
use Rattle.lra_multipliers.specs.Symbols.{SymbolicState, executed_path}
use Rattle.lra_row_text.specs.Texts.{text_line}
use Rattle.lra_certificate_spec.specs.CertificateText.{numbers_text, multipliers_text, evidence_text, numbered_text, goal_number, edge_text, edges_text, end_text}
use Rattle.lra_certificate_spec.specs.Certificates.{PathPremises, premises_of, contradiction, IsPointRow, IsShownInfeasible, IsClaimImplied, AreImplied, CertifiesClaims, CertifiesByEvidence}
use Rattle.lra_certificate_spec.specs.Certificates.{CertifiesFrom, Evidence, none, infeasible, implies, state_from, state_to, live_at_source, CertifiesPath, CertifiesPaths, ShowsNoClaim, AreNumbers}
use Rattle.lra_certificate_spec.specs.Certificates.{IsWritable}
use Rattle.lra_certificate_spec.specs.Judged.{Left, Judged, then_judged, line_on, after_line, multipliers_in, by_answer, judged_claim, judged_walk, premises_count, judged_multipliers, line_or_empty}
use Rattle.lra_certificate_spec.specs.Judged.{judged_line, judged_dead, claim_of, judged_claims, is_dead_line, judged_to, judged_lines, judged_from, violation_from, RowsAtPoint, judged_path}
use Rattle.lra_certificate_spec.specs.Judged.{judged_paths, judged_violations, is_nothing, judged_end, refuses, bad_line}
use Rattle.lra_certificate_spec.proofs.WriteText.{AreFrom, text_from, from_lower, from_joined, decimal_from, numbers_from, multipliers_read, pieces_of, line_pieces, line_first, takes_it}
use Rattle.lra_certificate_spec.proofs.{ReadPaths.AreRows, WalkedWidths.premises_many, WalkedWidths.dead_exact, WalkedWidths.row_exact}

-- ---- one answer
pub one_answer : (premises : List LinearRow) (claim : List ℤ) (m : Multipliers) (s t : Answer) → IsAnswer premises claim m s → IsAnswer premises claim m t →
    s ≡ t
one_answer premises claim m yes yes h k = refl
one_answer premises claim m yes no h k = absurd (k.1 h.1)
one_answer premises claim m yes wide h k = absurd (h.0 k)
one_answer premises claim m no yes h k = absurd (h.1 k.1)
one_answer premises claim m no no h k = refl
one_answer premises claim m no wide h k = absurd (h.0 k)
one_answer premises claim m wide yes h k = absurd (k.0 h)
one_answer premises claim m wide no h k = absurd (k.0 h)
one_answer premises claim m wide wide h k = refl

signed_many : (premises : List LinearRow) (factors : List ℤ) → AreSigned premises factors → length factors ≡ length premises
signed_many [] [] h = refl
signed_many [] (l ∷ ls) h = absurd h
signed_many (g ∷ gs) [] h = absurd h
signed_many (g ∷ gs) (l ∷ ls) h = ap suc (signed_many gs ls h.1)

-- ---- what is read
abbrev pub Read : Judged Left → List ℕ → Type 0
Read j rest = (m : Left) × (j ≡ Ok m) × (m.pieces ≡ pieces_of rest)

-- the next line doesn't say that nothing goes along a path
abbrev pub IsAlive : List ℕ → Type 0
IsAlive rest = is_dead_line (line_on (pieces_of rest)) ≡ false

pub multipliers_from_32 : (word : List ℕ) (m : Multipliers) → AreFrom 32 word → AreNumbers m → AreFrom 32 (multipliers_text word m)
multipliers_from_32 word m w h = from_joined 32 word (numbers_text (m.divisor ∷ m.constant ∷ m.factors)) w (numbers_from (m.divisor ∷ m.constant ∷ m.factors)
    (h.0, (h.1, h.2)))

pub by_from : AreFrom 32 (codes "by")
by_from = text_from 32 (codes "by") refl

dead_from : AreFrom 32 (codes "dead")
dead_from = text_from 32 (codes "dead") refl

module _ (live : ℕ) (rows : List LinearRow) (path : Path) (fit : AllByRecursion (IsPointRow live) rows) where
  abbrev a : PathPremises
  a = record { live = live; rows = rows; path = path }

  module _ (word : List ℕ) (w32 : AreFrom 32 word) (claim : SymbolicState → Result (List ℤ) Excess) (m : Multipliers) (numbers : AreNumbers m)
      (w : SymbolicState) (row :
      List ℤ)
      (walks : executed_path live path.actions ≡ Ok w) (claims : claim w ≡ Ok row) (answer : checked (premises_of a w) row m ≡ yes)
      (many : length m.factors ≡ length (premises_of a w)) (rest : List ℕ) (l : Left) (shape : l.pieces ≡
      pieces_of (text_line (multipliers_text word m) ++ rest)) where
    line_read : Read (judged_line a word claim l) rest
    line_read =
        let from = multipliers_from_32 word m w32 numbers in (
          after_line l,
          ap (λ (o : Option (List ℕ)). judged_multipliers a claim (multipliers_in word (premises_count a) (line_or_empty o)) l)
              (ap line_on shape ∙ line_first (multipliers_text word m) rest from) ∙
              ap (λ (o : Option Multipliers). judged_multipliers a claim o l)
              (multipliers_read word (premises_count a) m numbers (many ∙ premises_many live rows path fit w walks)) ∙
              ap (λ (r : Result SymbolicState Excess). judged_walk a r claim m l) walks ∙ ap (λ (r : Result (List ℤ) Excess). judged_claim a w r m l) claims ∙
              ap (by_answer l.number (after_line l)) answer,
          ap (λ (p : List (List ℕ)). drop 1 p) (shape ∙ line_pieces (multipliers_text word m) rest from),
        )

  nothing_read : (word : List ℕ) → AreFrom 32 word → (m : Multipliers) → IsShownInfeasible a m → AreNumbers m → (rest : List ℕ) (l : Left) →
      l.pieces ≡ pieces_of (text_line (multipliers_text word m) ++ rest) → Read (judged_line a word (λ w. Ok (contradiction a)) l) rest
  nothing_read word w32 m (w, walks, shown) numbers rest l shape =
      line_read word w32 (λ (w : SymbolicState). Ok (contradiction a)) m numbers w (contradiction a) walks refl
      (one_answer (premises_of a w) (contradiction a) m (checked (premises_of a w) (contradiction a) m) yes (dead_exact live rows path fit w walks m) shown)
      (signed_many (premises_of a w) m.factors shown.1.factors) rest l shape

  claim_read : (claim : List ℤ) (m : Multipliers) → IsClaimImplied a claim m → AreNumbers m → (rest : List ℕ) (l : Left) →
      l.pieces ≡ pieces_of (text_line (multipliers_text (codes "by") m) ++ rest) → Read (judged_line a (codes "by") (claim_of a claim) l) rest
  claim_read claim m (w, row, walks, composes, shown) numbers rest l shape =
      line_read (codes "by") by_from (claim_of a claim) m numbers w row walks composes
      (one_answer (premises_of a w) row m (checked (premises_of a w) row m) yes (row_exact live rows path fit w walks claim row m composes) shown)
      (signed_many (premises_of a w) m.factors shown.1.factors) rest l shape

  abbrev by_text : List Multipliers → List ℕ
  by_text ms = flat_map (λ m. text_line (multipliers_text (codes "by") m)) ms

  claims_read : (claims : List (List ℤ)) (ms : List Multipliers) → AreImplied a claims ms → AllByRecursion AreNumbers ms → (rest : List ℕ) (l : Left) →
      l.pieces ≡ pieces_of (by_text ms ++ rest) → Read (judged_claims a claims l) rest
  claims_read [] [] h n rest l shape = (l, refl, shape)
  claims_read [] (m ∷ ms) h n rest l shape = absurd h
  claims_read (claim ∷ claims) [] h n rest l shape = absurd h
  claims_read (claim ∷ claims) (m ∷ ms) h n rest l shape =
      let one = claim_read claim m h.0 n.0 (by_text ms ++ rest) l
      (shape ∙ ap pieces_of (append_assoc (text_line (multipliers_text (codes "by") m)) (by_text ms) rest)) in
      let more = claims_read claims ms h.1 n.1 rest one.0 one.2 in
      (more.0, ap (λ (j : Judged Left). then_judged j (λ next. judged_claims a claims next)) one.1 ∙ more.1, more.2)

  by_alive : (ms : List Multipliers) (rest : List ℕ) → AllByRecursion AreNumbers ms → IsAlive rest → IsAlive (by_text ms ++ rest)
  by_alive [] rest n h = h
  by_alive (m ∷ ms) rest n h =
      ap (λ (x : List ℕ). is_dead_line (line_on (pieces_of x))) (append_assoc (text_line (multipliers_text (codes "by") m)) (by_text ms) rest) ∙
      ap is_dead_line (line_first (multipliers_text (codes "by") m) (by_text ms ++ rest) (multipliers_from_32 (codes "by") m by_from n.0))

  to_read : (target : RowsAtPoint) (ms : List Multipliers) → CertifiesClaims a target ms → AllByRecursion AreNumbers ms → (rest : List ℕ) (l : Left) →
      l.pieces ≡ pieces_of (by_text ms ++ rest) → Read (judged_to a target l) rest
  to_read None [] h n rest l shape = absurd h
  to_read None (m ∷ []) h n rest l shape =
      nothing_read (codes "by") by_from m h n.0 rest l (shape ∙ ap (λ (x : List ℕ). pieces_of (x ++ rest)) (append-nil (text_line (multipliers_text (codes
      "by") m))))
  to_read None (m ∷ k ∷ ms) h n rest l shape = absurd h
  to_read (Some claims) ms h n rest l shape = claims_read (system_of claims) ms h n rest l shape

  lines_read : (target : RowsAtPoint) (evidence : Evidence) → CertifiesByEvidence a target evidence → IsWritable evidence → (rest : List ℕ) → IsAlive rest →
      (l : Left) →
      l.pieces ≡ pieces_of (evidence_text evidence ++ rest) → Read (judged_lines a target l) rest
  lines_read target none h n rest k l shape = absurd h
  lines_read target (infeasible m) h n rest k l shape =
      let one = nothing_read (codes "dead") dead_from m h n rest l shape in (
        one.0,
        ap (λ (b : Bool). if b then judged_dead a l else judged_to a target l)
            (ap (λ (p : List (List ℕ)). is_dead_line (line_on p)) shape ∙
            ap is_dead_line (line_first (multipliers_text (codes "dead") m) rest (multipliers_from_32 (codes "dead") m dead_from n))) ∙ one.1,
        one.2,
      )
  lines_read target (implies ms) h n rest k l shape =
      let all = to_read target ms h n rest l shape in (
        all.0,
        ap (λ (b : Bool). if b then judged_dead a l else judged_to a target l)
            (ap (λ (p : List (List ℕ)). is_dead_line (line_on p)) shape ∙ by_alive ms rest n k) ∙ all.1,
        all.2,
      )

pub from_read : (live : ℕ) (path : Path) (source target : RowsAtPoint) (evidence : Evidence) → AreRows live source →
    CertifiesFrom live path source target evidence →
    IsWritable evidence →
    (rest : List ℕ) → IsAlive rest → (l : Left) → l.pieces ≡ pieces_of (evidence_text evidence ++ rest) → Read (judged_from live path source target l) rest
from_read live path None target evidence fit h n rest k l shape = (l, refl, shape ∙ ap (λ (x : Evidence). pieces_of (evidence_text x ++ rest)) h)
from_read live path (Some rows) target evidence fit h n rest k l shape = lines_read live rows path fit target evidence h n rest k l shape

pub denied_read : (live : ℕ) (path : Path) (source : RowsAtPoint) (evidence : Evidence) → AreRows live source → CertifiesFrom live path source None evidence →
    ShowsNoClaim evidence →
    IsWritable evidence →
    (rest : List ℕ) (l : Left) → l.pieces ≡ pieces_of (evidence_text evidence ++ rest) → Read (violation_from live path source l) rest
denied_read live path None evidence fit h d n rest l shape = (l, refl, shape ∙ ap (λ (x : Evidence). pieces_of (evidence_text x ++ rest)) h)
denied_read live path (Some rows) none fit h d n rest l shape = absurd h
denied_read live path (Some rows) (implies ms) fit h d n rest l shape = absurd d
denied_read live path (Some rows) (infeasible m) fit h d n rest l shape = nothing_read live rows path fit (codes "dead") dead_from m h n rest l shape

-- ---- all paths
pub edge_from : (path : Path) → AreFrom 32 (edge_text path)
edge_from path =
    from_joined 32 (numbered_text (codes "edge") path.source ++ codes " ") (decimal (goal_number path.goal))
    (from_joined 32 (numbered_text (codes "edge") path.source) (codes " ")
    (from_joined 32 (codes "edge ") (decimal path.source) (text_from 32 (codes "edge ") refl)
    (from_lower 32 48 (decimal path.source) (omega arith) (decimal_from path.source))) (text_from 32 (codes " ") refl))
    (from_lower 32 48 (decimal (goal_number path.goal)) (omega arith) (decimal_from (goal_number path.goal)))

pub edges_alive : (paths : List Path) (ls : List Evidence) (rest : List ℕ) → IsAlive rest → IsAlive (edges_text paths ls ++ rest)
edges_alive [] ls rest k = k
edges_alive (path ∷ paths) [] rest k = k
edges_alive (path ∷ paths) (l ∷ ls) rest k =
    ap (λ (x : List ℕ). is_dead_line (line_on (pieces_of x)))
    (append_assoc (text_line (edge_text path) ++ evidence_text l) (edges_text paths ls) rest ∙
    append_assoc (text_line (edge_text path)) (evidence_text l) (edges_text paths ls ++ rest)) ∙
    ap is_dead_line (line_first (edge_text path) (evidence_text l ++ (edges_text paths ls ++ rest)) (edge_from path))

module _ (P : Program) (g : Node) (states : List RowsAtPoint) (fit : (p : ℕ) → AreRows (live_at_source P p) (state_from states p)) where
  path_read : (path : Path) (evidence : Evidence) → CertifiesPath P g states path evidence → IsWritable evidence → (rest : List ℕ) → IsAlive rest → (l : Left) →
      l.pieces ≡ pieces_of (text_line (edge_text path) ++ (evidence_text evidence ++ rest)) → Read (judged_path P g states path l) rest
  path_read path evidence h n rest k l shape =
      let m : Left = record { number = suc l.number; pieces = pieces_of (evidence_text evidence ++ rest) } in
      let taken = takes_it (edge_text path) (evidence_text evidence ++ rest) l (edge_from path) shape in
      let more = from_read (live_at_source P path.source) path (state_from states path.source) (state_to states path.goal) evidence (fit path.source) h n rest k
      m
      refl in (
        more.0,
        ap (λ (j : Judged Left). then_judged j (λ m. judged_from (live_at_source P path.source) path (state_from states path.source) (state_to states path.goal)
            m)) taken ∙ more.1,
        more.2,
      )

  pub paths_read : (paths : List Path) (ls : List Evidence) → CertifiesPaths P g states paths ls → AllByRecursion IsWritable ls → (rest : List ℕ) →
      IsAlive rest → (l : Left) →
      l.pieces ≡ pieces_of (edges_text paths ls ++ rest) → Read (judged_paths P g states paths l) rest
  paths_read [] [] h n rest k l shape = (l, refl, shape)
  paths_read [] (x ∷ ls) h n rest k l shape = absurd h
  paths_read (path ∷ paths) [] h n rest k l shape = absurd h
  paths_read (path ∷ paths) (x ∷ ls) h n rest k l shape =
      let one = path_read path x h.0 n.0 (edges_text paths ls ++ rest) (edges_alive paths ls rest k) l
      (shape ∙ ap pieces_of (append_assoc (text_line (edge_text path) ++ evidence_text x) (edges_text paths ls) rest ∙
      append_assoc (text_line (edge_text path)) (evidence_text x) (edges_text paths ls ++ rest))) in
      let more = paths_read paths ls h.1 n.1 rest k one.0 one.2 in
      (more.0, ap (λ (j : Judged Left). then_judged j (λ next. judged_paths P g states paths next)) one.1 ∙ more.1, more.2)

  pub denials_read : (paths : List Path) (ls : List Evidence) → AllByRecursion (λ path. state_to states path.goal ≡ None) paths →
      CertifiesPaths P g states paths ls →
      AllByRecursion ShowsNoClaim ls → AllByRecursion IsWritable ls → (rest : List ℕ) (l : Left) → l.pieces ≡
      pieces_of (flat_map evidence_text ls ++ rest) →
      Read (judged_violations P g states paths l) rest
  denials_read [] [] z h d n rest l shape = (l, refl, shape)
  denials_read [] (x ∷ ls) z h d n rest l shape = absurd h
  denials_read (path ∷ paths) [] z h d n rest l shape = absurd h
  denials_read (path ∷ paths) (x ∷ ls) z h d n rest l shape =
      let one = denied_read (live_at_source P path.source) path (state_from states path.source) x (fit path.source)
      (subst (λ (s : RowsAtPoint). CertifiesFrom (live_at_source P path.source) path (state_from states path.source) s x) z.0 h.0) d.0 n.0
      (flat_map evidence_text ls ++ rest) l
      (shape ∙ ap pieces_of (append_assoc (evidence_text x) (flat_map evidence_text ls) rest)) in
      let more = denials_read paths ls z.1 h.1 d.1 n.1 rest one.0 one.2 in
      (more.0, ap (λ (j : Judged Left). then_judged j (λ next. judged_violations P g states paths next)) one.1 ∙ more.1, more.2)

-- ---- the end
end_from : AreFrom 32 (codes "end")
end_from = text_from 32 (codes "end") refl

pub end_read : (l : Left) → l.pieces ≡ pieces_of end_text → (m : Left) × (judged_end l ≡ Ok m)
end_read l shape =
    let m : Left = record { number = suc l.number; pieces = pieces_of [] } in (
      m,
      ap (λ (j : Judged Left). then_judged j (λ m. if is_nothing m.pieces then Ok m else refuses m.number bad_line))
          (takes_it (codes "end") [] l end_from (shape ∙ ap pieces_of (sym (append-nil end_text)))),
    )
