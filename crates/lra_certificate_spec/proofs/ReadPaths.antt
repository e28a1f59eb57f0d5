-- What is read of paths and of assertions has this text, and shows what it has to.
use Rattle.std.proofs.Common.{◌≡◌, ◌<◌, ◌≤◌, ◌+◌, ℕ, suc, ℤ, Bool, true, false, List, [], ◌∷◌, ◌++◌, length, refl, ap, sym, ◌∙◌, subst, arith, append_assoc, append-nil, Option, Some, None, Result, Ok}
use Rattle.std.proofs.{Common.Err, Common.length-append, lemmas.Bool.and_parts}
use Rattle.std.specs.{List.AllByRecursion, List.flat_map, Prelude.if◌then◌else◌, Prelude.codes, Prelude.slice_get, Prelude.◌&&◌, Prelude.⊤}
use Rattle.lra_certificate_spec.specs.Crates.lra_linear_spec.Descriptions.{LinearRow, system_of}
use Rattle.lra_certificate_spec.specs.Crates.{lra_linear_spec.declared.Excess.Excess, lra_operations.Tree.Node, lra_program.Program.Program, lra_program.Sites.Site, lra_program.Sites.sites_of}
use Rattle.lra_paths.specs.Paths.{Path, violations_of}
use Rattle.lra_multipliers.specs.Multipliers.{Multipliers, Answer, yes, no, wide, IsAnswer, checked}
use Rattle.lra_multipliers.specs.Symbols.{SymbolicState, executed_path}
use Rattle.lra_row_text.specs.Texts.{text_line}
use Rattle.lra_certificate_spec.specs.CertificateText.{multipliers_text, evidence_text, edge_text, edges_text, assert_text, listed_text, end_text}
use Rattle.lra_certificate_spec.specs.Certificates.{PathPremises, premises_of, contradiction, IsPointRow, IsShownInfeasible, IsClaimImplied, AreImplied, CertifiesByEvidence, CertifiesFrom, Evidence}
use Rattle.lra_certificate_spec.specs.Certificates.{none, infeasible, implies, ListedAssertion, state_from, state_to, live_at_source, CertifiesPath, CertifiesPaths, ShowsNoClaim, CertifiesAssertion}
use Rattle.lra_certificate_spec.specs.Certificates.{Ascend, AreNumbers, IsWritable}
use Rattle.lra_certificate_spec.specs.Judged.{Left, Judged, then_judged, refuses, line_on, after_line, is_next_line, takes, bad_line, wide_line, not_row, multipliers_in, by_answer, judged_claim}
use Rattle.lra_certificate_spec.specs.Judged.{judged_walk, premises_count, judged_multipliers, line_or_empty, judged_line, judged_dead, claim_of, judged_claims, is_dead_line, judged_to, judged_lines}
use Rattle.lra_certificate_spec.specs.Judged.{judged_from, violation_from, RowsAtPoint, judged_path, judged_paths, judged_violations, one_more, judged_listed, is_nothing, judged_end}
use Rattle.lra_certificate_spec.proofs.ReadText.{ok_same, no_ok, then_is, joined, takes_text, multipliers_text_is}
use Rattle.lra_certificate_spec.proofs.{LineSteps.line_text, LineSteps.is_line_on, WalkedWidths.dead_exact, WalkedWidths.row_exact}

-- ---- one line
answer_is : (n : ℕ) (x next : Left) (t : Answer) → by_answer n x t ≡ Ok next → (t ≡ yes) × (x ≡ next)
answer_is n x next yes e = (refl, ok_same x next e)
answer_is n x next no e = absurd (no_ok (record { line = n; fault = not_row }) next e)
answer_is n x next wide e = absurd (no_ok (record { line = n; fault = wide_line }) next e)

line_is : (o : Option (List ℕ)) (word : List ℕ) (m : Multipliers) → 0 < length word → line_or_empty o ≡ multipliers_text word m → o ≡
    Some (multipliers_text word m)
line_is None word m h e = absurd (let c = ap length e in let d = length-append word (multipliers_text [] m) in omega (arith, h, c, d))
line_is (Some line) word m h e = ap Some e

-- what a line gives that is accepted
pub record Taken (a : PathPremises) (word : List ℕ) (claim : SymbolicState → Result (List ℤ) Excess) (l next : Left) : Type 0 where
  pub m : Multipliers
  pub w : SymbolicState
  pub row : List ℤ
  pub text : joined l.pieces ≡ text_line (multipliers_text word m) ++ joined next.pieces
  pub numbers : AreNumbers m
  pub walks : executed_path a.live a.path.actions ≡ Ok w
  pub claims : claim w ≡ Ok row
  pub answer : checked (premises_of a w) row m ≡ yes

module _ (a : PathPremises) (word : List ℕ) (some : 0 < length word) (claim : SymbolicState → Result (List ℤ) Excess) (l next : Left) where
  module _ (m : Multipliers) (is : line_or_empty (line_on l.pieces) ≡ multipliers_text word m) (numbers : AreNumbers m) where
    claim_taken : (w : SymbolicState) (r : Result (List ℤ) Excess) → executed_path a.live a.path.actions ≡ Ok w → claim w ≡ r →
        judged_claim a w r m l ≡ Ok next →
        Taken a word claim l next
    claim_taken w (Err x) e f g = absurd (no_ok (record { line = l.number; fault = wide_line }) next g)
    claim_taken w (Ok row) e f g =
        let t = answer_is l.number (after_line l) next (checked (premises_of a w) row m) g in
        record {
          m = m;
          w = w;
          row = row;
          text = line_text l.pieces (multipliers_text word m) (line_is (line_on l.pieces) word m some is) ∙
              ap (λ (x : Left). text_line (multipliers_text word m) ++ joined x.pieces) t.1;
          numbers = numbers;
          walks = e;
          claims = f;
          answer = t.0;
        }

    walk_taken : (r : Result SymbolicState Excess) → executed_path a.live a.path.actions ≡ r → judged_walk a r claim m l ≡ Ok next → Taken a word claim l next
    walk_taken (Err x) e g = absurd (no_ok (record { line = l.number; fault = wide_line }) next g)
    walk_taken (Ok w) e g = claim_taken w (claim w) e refl g

  given_taken : (o : Option Multipliers) → multipliers_in word (premises_count a) (line_or_empty (line_on l.pieces)) ≡ o → judged_multipliers a claim o l ≡
      Ok next →
      Taken a word claim l next
  given_taken None e g = absurd (no_ok (record { line = l.number; fault = bad_line }) next g)
  given_taken (Some m) e g =
      let t = multipliers_text_is word (premises_count a) (line_or_empty (line_on l.pieces)) m e in
      walk_taken m t.0 t.1 (executed_path a.live a.path.actions) refl g

  pub line_taken : judged_line a word claim l ≡ Ok next → Taken a word claim l next
  line_taken g = given_taken (multipliers_in word (premises_count a) (line_or_empty (line_on l.pieces))) refl g

-- ---- one path
module _ (live : ℕ) (rows : List LinearRow) (path : Path) (fit : AllByRecursion (IsPointRow live) rows) where
  abbrev a : PathPremises
  a = record { live = live; rows = rows; path = path }

  nothing_taken : (word : List ℕ) (some : 0 < length word) (l next : Left) → judged_line a word (λ w. Ok (contradiction a)) l ≡ Ok next →
      (m : Multipliers) × IsShownInfeasible a m × AreNumbers m × (joined l.pieces ≡ text_line (multipliers_text word m) ++ joined next.pieces)
  nothing_taken word some l next g =
      let t = line_taken a word some (λ (w : SymbolicState). Ok (contradiction a)) l next g in
      let row_is = ok_row (contradiction a) t.row t.claims in
      let right = subst (λ (z : Answer). IsAnswer (premises_of a t.w) (contradiction a) t.m z)
      (ap (λ (r : List ℤ). checked (premises_of a t.w) r t.m) row_is ∙ t.answer) (dead_exact live rows path fit t.w t.walks t.m) in
      (t.m, (t.w, t.walks, right), t.numbers, t.text)
    where
      ok_row : (x y : List ℤ) → (let r : Result (List ℤ) Excess = Ok x in r) ≡ Ok y → x ≡ y
      ok_row x y e = cc

  claim_shown : (claim : List ℤ) (l next : Left) → judged_line a (codes "by") (claim_of a claim) l ≡ Ok next →
      (m : Multipliers) × IsClaimImplied a claim m × AreNumbers m × (joined l.pieces ≡ text_line (multipliers_text (codes "by") m) ++ joined next.pieces)
  claim_shown claim l next g =
      let t = line_taken a (codes "by") (omega arith) (claim_of a claim) l next g in
      let right = subst (λ (z : Answer). IsAnswer (premises_of a t.w) t.row t.m z) t.answer (row_exact live rows path fit t.w t.walks claim t.row t.m
      t.claims) in
      (t.m, (t.w, t.row, t.walks, t.claims, right), t.numbers, t.text)

  abbrev by_text : List Multipliers → List ℕ
  by_text ms = flat_map (λ m. text_line (multipliers_text (codes "by") m)) ms

  claims_shown : (claims : List (List ℤ)) (l next : Left) → judged_claims a claims l ≡ Ok next →
      (ms : List Multipliers) × AreImplied a claims ms × AllByRecursion AreNumbers ms × (joined l.pieces ≡ by_text ms ++ joined next.pieces)
  claims_shown [] l next g = ([], tt, tt, ap (λ (x : Left). joined x.pieces) (ok_same l next g))
  claims_shown (claim ∷ claims) l next g =
      let t = then_is (judged_line a (codes "by") (claim_of a claim) l) (λ (x : Left). judged_claims a claims x) next g in
      let one = claim_shown claim l t.0 t.1 in
      let rest = claims_shown claims t.0 next t.2 in (
        one.0 ∷ rest.0,
        (one.1, rest.1),
        (one.2, rest.2),
        one.3 ∙ ap (λ (x : List ℕ). text_line (multipliers_text (codes "by") one.0) ++ x) rest.3 ∙
            sym (append_assoc (text_line (multipliers_text (codes "by") one.0)) (by_text rest.0) (joined next.pieces)),
      )

  -- what is said of a path, and its text
  abbrev IsSaid : RowsAtPoint → Left → Left → Type 0
  IsSaid target l next = (evidence : Evidence) × CertifiesByEvidence a target evidence × IsWritable evidence × (joined l.pieces ≡ evidence_text evidence ++
      joined next.pieces)

  dead_said : (target : RowsAtPoint) (l next : Left) → judged_dead a l ≡ Ok next → IsSaid target l next
  dead_said target l next g = let t = nothing_taken (codes "dead") (omega arith) l next g in (infeasible t.0, t.1, t.2, t.3)

  to_said : (target : RowsAtPoint) (l next : Left) → judged_to a target l ≡ Ok next → IsSaid target l next
  to_said None l next g =
      let t = nothing_taken (codes "by") (omega arith) l next g in (
        implies (t.0 ∷ []),
        t.1,
        (t.2, tt),
        t.3
            ∙ ap (λ (x : List ℕ). x ++ joined next.pieces) (sym (append-nil (text_line (multipliers_text (codes "by") t.0)))),
      )
  to_said (Some claims) l next g = let t = claims_shown (system_of claims) l next g in (implies t.0, t.1, t.2, t.3)

  lines_said : (target : RowsAtPoint) (l next : Left) → judged_lines a target l ≡ Ok next → IsSaid target l next
  lines_said target l next g = either (is_dead_line (line_on l.pieces)) g
    where
      either : (b : Bool) → (if b then judged_dead a l else judged_to a target l) ≡ Ok next → IsSaid target l next
      either true f = dead_said target l next f
      either false f = to_said target l next f

-- rows of a source
abbrev pub AreRows : ℕ → RowsAtPoint → Type 0
AreRows live None = ⊤
AreRows live (Some rows) = AllByRecursion (IsPointRow live) rows

abbrev pub IsSaidFrom : ℕ → Path → RowsAtPoint → RowsAtPoint → Left → Left → Type 0
IsSaidFrom live path source target l next =
    (evidence : Evidence) × CertifiesFrom live path source target evidence × IsWritable evidence
    × (joined l.pieces ≡ evidence_text evidence ++ joined next.pieces)

pub from_said : (live : ℕ) (path : Path) (source target : RowsAtPoint) (l next : Left) → AreRows live source → judged_from live path source target l ≡ Ok next →
    IsSaidFrom live path source target l next
from_said live path None target l next fit g = (none, refl, tt, ap (λ (x : Left). joined x.pieces) (ok_same l next g))
from_said live path (Some rows) target l next fit g = lines_said live rows path fit target l next g

pub denied_said : (live : ℕ) (path : Path) (source : RowsAtPoint) (l next : Left) → AreRows live source → violation_from live path source l ≡ Ok next →
    (evidence : Evidence) × CertifiesFrom live path source None evidence × IsWritable evidence
    × (joined l.pieces ≡ evidence_text evidence ++ joined next.pieces) ×
    ShowsNoClaim evidence
denied_said live path None l next fit g = (none, refl, tt, ap (λ (x : Left). joined x.pieces) (ok_same l next g), tt)
denied_said live path (Some rows) l next fit g = let t = nothing_taken live rows path fit (codes "dead") (omega arith) l next g in
    (infeasible t.0, t.1, t.2, t.3, tt)

-- ---- all paths
module _ (P : Program) (g : Node) (states : List RowsAtPoint) (fit : (p : ℕ) → AreRows (live_at_source P p) (state_from states p)) where
  abbrev pub IsSaidAlong : Path → Left → Left → Type 0
  IsSaidAlong path l next = (evidence : Evidence) × CertifiesPath P g states path evidence × IsWritable evidence ×
      (joined l.pieces ≡ text_line (edge_text path) ++ evidence_text evidence ++ joined next.pieces)

  path_said : (path : Path) (l next : Left) → judged_path P g states path l ≡ Ok next → IsSaidAlong path l next
  path_said path l next e =
      let t = then_is (takes (edge_text path) l)
      (λ (m : Left). judged_from (live_at_source P path.source) path (state_from states path.source) (state_to states path.goal) m) next e in
      let s = from_said (live_at_source P path.source) path (state_from states path.source) (state_to states path.goal) t.0 next (fit path.source) t.2 in (
        s.0,
        s.1,
        s.2,
        takes_text (edge_text path) l t.0 t.1 ∙ ap (λ (x : List ℕ). text_line (edge_text path) ++ x) s.3 ∙
            sym (append_assoc (text_line (edge_text path)) (evidence_text s.0) (joined next.pieces)),
      )

  pub paths_said : (paths : List Path) (l next : Left) → judged_paths P g states paths l ≡ Ok next →
      (ls : List Evidence) × CertifiesPaths P g states paths ls × AllByRecursion IsWritable ls × (joined l.pieces ≡ edges_text paths ls ++ joined next.pieces)
  paths_said [] l next e = ([], tt, tt, ap (λ (x : Left). joined x.pieces) (ok_same l next e))
  paths_said (path ∷ paths) l next e =
      let t = then_is (judged_path P g states path l) (λ (x : Left). judged_paths P g states paths x) next e in
      let one = path_said path l t.0 t.1 in
      let rest = paths_said paths t.0 next t.2 in (
        one.0 ∷ rest.0,
        (one.1, rest.1),
        (one.2, rest.2),
        one.3 ∙ ap (λ (x : List ℕ). text_line (edge_text path) ++ evidence_text one.0 ++ x) rest.3 ∙
            sym (append_assoc (text_line (edge_text path) ++ evidence_text one.0) (edges_text paths rest.0) (joined next.pieces)),
      )

  -- ---- listed assertions
  denials_said : (paths : List Path) (l next : Left) → AllByRecursion (λ path. state_to states path.goal ≡ None) paths → judged_violations P g states paths l ≡
      Ok next →
      (ls : List Evidence) × CertifiesPaths P g states paths ls × AllByRecursion IsWritable ls × (joined l.pieces ≡
      flat_map evidence_text ls ++ joined next.pieces) ×
      AllByRecursion ShowsNoClaim ls
  denials_said [] l next h e = ([], tt, tt, ap (λ (x : Left). joined x.pieces) (ok_same l next e), tt)
  denials_said (path ∷ paths) l next h e =
      let t = then_is (violation_from (live_at_source P path.source) path (state_from states path.source) l)
      (λ (x : Left). judged_violations P g states paths x) next
      e in
      let one = denied_said (live_at_source P path.source) path (state_from states path.source) l t.0 (fit path.source) t.1 in
      let rest = denials_said paths t.0 next h.1 t.2 in (
        one.0 ∷ rest.0,
        (subst (λ (s : RowsAtPoint). CertifiesFrom (live_at_source P path.source) path (state_from states path.source) s one.0) (sym h.0) one.1, rest.1),
        (one.2, rest.2),
        one.3 ∙ ap (λ (x : List ℕ). evidence_text one.0 ++ x) rest.3 ∙
            sym (append_assoc (evidence_text one.0) (flat_map evidence_text rest.0) (joined next.pieces)),
        (one.4, rest.4),
      )

  -- the assertions that are listed, from the site of this number on
  abbrev pub AreListed : ℕ → List ListedAssertion → Type 0
  AreListed q ones = AllByRecursion (CertifiesAssertion P g states) ones × AllByRecursion (λ one. q ≤ one.number) ones × Ascend ones ×
      AllByRecursion (λ one. AllByRecursion IsWritable one.evidence) ones

  abbrev Found : ℕ → List Site → Type 0
  Found q sites = (i : ℕ) (s : Site) → slice_get sites i ≡ Some s → slice_get (sites_of P) (q + i) ≡ Some s

  more_is : (r : Judged (ℕ × Left)) (y : ℕ × Left) → one_more r ≡ Ok y → (x : ℕ × Left) × (r ≡ Ok x) × (let z : ℕ × Left = (suc x.0, x.1) in z ≡ y)
  more_is (Ok x) y e = (x, refl, ok_same (let z : ℕ × Left = (suc x.0, x.1) in z) y e)
  more_is (Err r) y e = absurd (no_ok r y e)

  later : (q : ℕ) (ones : List ListedAssertion) → AllByRecursion (λ one. suc q ≤ one.number) ones → AllByRecursion (λ one. q ≤ one.number) ones
  later q [] h = tt
  later q (one ∷ ones) h = (omega (arith, h.0), later q ones h.1)

  first_ascends : (one : ListedAssertion) (ones : List ListedAssertion) → AllByRecursion (λ two. suc one.number ≤ two.number) ones → Ascend ones →
      Ascend (one ∷ ones)
  first_ascends one [] h a = tt
  first_ascends one (two ∷ more) h a = (omega (arith, h.0), a)

  module _ (denials : (q : ℕ) → AllByRecursion (λ path. state_to states path.goal ≡ None) (violations_of P g q)) where
    pub listed_said : (q : ℕ) (sites : List Site) (l : Left) (y : ℕ × Left) → Found q sites → judged_listed P g states q sites l ≡ Ok y →
        (ones : List ListedAssertion) × AreListed q ones × (length ones ≡ y.0) × (joined l.pieces ≡ flat_map listed_text ones ++ joined y.1.pieces)
    listed_said q [] l y f e =
        let is = ok_same (let z : ℕ × Left = (0, l) in z) y e in
        ([], (tt, tt, tt, tt), ap (λ (z : ℕ × Left). z.0) is, ap (λ (z : ℕ × Left). joined z.1.pieces) is)
    listed_said q (site ∷ sites) l y f e =
        on (λ m z. listed_said (suc q) sites m z next_found) (site.asserts && is_next_line (assert_text q) (line_on l.pieces))
        refl e
      where
        next_found : Found (suc q) sites
        next_found i s h = subst (λ (k : ℕ). slice_get (sites_of P) k ≡ Some s) (let k : q + suc i ≡ suc q + i = omega arith in k) (f (suc i) s h)

        on : ((m : Left) (z : ℕ × Left) → judged_listed P g states (suc q) sites m ≡ Ok z →
            (ones : List ListedAssertion) × AreListed (suc q) ones × (length ones ≡ z.0) × (joined m.pieces ≡ flat_map listed_text ones ++ joined z.1.pieces)) →
            (b : Bool) → site.asserts && is_next_line (assert_text q) (line_on l.pieces) ≡ b →
            (if b then then_judged (judged_violations P g states (violations_of P g q) (after_line l)) (λ next. one_more (judged_listed P g states (suc q) sites
            next))
            else judged_listed P g states (suc q) sites l) ≡ Ok y →
            (ones : List ListedAssertion) × AreListed q ones × (length ones ≡ y.0) × (joined l.pieces ≡ flat_map listed_text ones ++ joined y.1.pieces)
        on again false h k =
            let rest = again l y k in
            (rest.0, (rest.1.0, later q rest.0 rest.1.1, rest.1.2, rest.1.3), rest.2, rest.3)
        on again true h k =
            let b = and_parts site.asserts (is_next_line (assert_text q) (line_on l.pieces)) h in
            let t = then_is (judged_violations P g states (violations_of P g q) (after_line l))
            (λ (next : Left). one_more (judged_listed P g states (suc q) sites
            next)) y k in
            let d = denials_said (violations_of P g q) (after_line l) t.0 (denials q) t.1 in
            let s = more_is (judged_listed P g states (suc q) sites t.0) y t.2 in
            let rest = again t.0 s.0 s.1 in
            let one : ListedAssertion = record { number = q; evidence = d.0 } in
            let there = subst (λ (k : ℕ). slice_get (sites_of P) k ≡ Some site) (let k : q + 0 ≡ q = omega arith in k) (f 0 site refl) in (
              one ∷ rest.0,
              (
                (record { site = site; there = there; asserts = b.0; paths = d.1; no_claims = d.4 }, rest.1.0),
                (omega arith, later q rest.0 rest.1.1),
                first_ascends one rest.0 rest.1.1 rest.1.2,
                (d.2, rest.1.3),
              ),
              ap suc rest.2 ∙ ap (λ (z : ℕ × Left). z.0) s.2,
              line_text l.pieces (assert_text q) (is_line_on (assert_text q) (line_on l.pieces) b.1) ∙
                  ap (λ (x : List ℕ). text_line (assert_text q) ++ x) d.3 ∙
                  ap (λ (x : List ℕ). text_line (assert_text q) ++ (flat_map evidence_text d.0 ++ x)) (rest.3 ∙ ap (λ (z : ℕ ×
                  Left). flat_map listed_text rest.0 ++ joined z.1.pieces) s.2) ∙
                  sym (append_assoc (text_line (assert_text q)) (flat_map evidence_text d.0) (flat_map listed_text rest.0 ++ joined y.1.pieces)) ∙
                  sym (append_assoc (listed_text one) (flat_map listed_text rest.0) (joined y.1.pieces)),
            )

-- ---- the end
nothing_joined : (pieces : List (List ℕ)) → is_nothing pieces ≡ true → joined pieces ≡ []
nothing_joined [] h = refl
nothing_joined ([] ∷ []) h = refl
nothing_joined ([] ∷ line ∷ more) h = cc
nothing_joined ((b ∷ bs) ∷ []) h = cc
nothing_joined ((b ∷ bs) ∷ line ∷ more) h = cc

pub end_said : (l m : Left) → judged_end l ≡ Ok m → joined l.pieces ≡ end_text
end_said l m e = last (is_nothing t.0.pieces) refl t.2
  where
    t : (x : Left) × (takes (codes "end") l ≡ Ok x) × ((if is_nothing x.pieces then Ok x else refuses x.number bad_line) ≡ Ok m)
    t = then_is (takes (codes "end") l) (λ (m : Left). if is_nothing m.pieces then Ok m else refuses m.number bad_line) m e

    last : (b : Bool) → is_nothing t.0.pieces ≡ b → (if b then Ok t.0 else refuses t.0.number bad_line) ≡ Ok m → joined l.pieces ≡ end_text
    last true h f = takes_text (codes "end") l t.0 t.1 ∙ ap (λ (x : List ℕ). text_line (codes "end") ++ x) (nothing_joined t.0.pieces h) ∙
        append-nil (text_line (codes "end"))
    last false h f = absurd (no_ok (record { line = t.0.number; fault = bad_line }) m f)
