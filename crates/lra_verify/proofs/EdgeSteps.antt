-- Paths and assertions, one after the other, as the code states them.
use Rattle.std.proofs.Common.{◌≡◌, ◌≤◌, ◌<◌, ◌+◌, ◌-◌, ◌++◌, ◌∷◌, [], ℕ, suc, List, length, drop, Option, Some, None, Result, Ok, Err, Vec, refl, ap, sym, ◌∙◌, subst, arith, add-one, drop-cons}
use Rattle.std.proofs.{Common.slice_index_or, Common.append_assoc, lemmas.List.drop_all}
use Rattle.std.specs.{Borrow.Bor, Fmt.decimal, Global.Global, List.range_with_len, Prelude.slice_get, Prelude.codes, Prelude.IfSome}
use Rattle.lra_verify.specs.Crates.lra_certificate_spec.Certificates.{PathPremises, contradiction, state_from, state_to}
use Rattle.lra_verify.specs.Crates.lra_certificate_spec.Judged.{Left, Judged, RowsAtPoint, takes, judged_from, judged_dead, judged_walk, judged_multipliers, multipliers_in, line_on, line_or_empty}
use Rattle.lra_verify.specs.Crates.lra_multipliers.Symbols.{SymbolicState, executed_path, tests_in}
use Rattle.lra_verify.specs.Crates.{lra_certificate_spec.CertificateText.edge_text, lra_certificate_spec.Lines.HasNoFeed, lra_certificate_spec.Lines.judged_in_turn, lra_domain.Actions.Action}
use Rattle.lra_verify.specs.Crates.{lra_domain.declared.changes.Change.Change, lra_linear_spec.Descriptions.LinearRow, lra_linear_spec.declared.ConKind.ConKind, lra_linear_spec.declared.Excess.Excess}
use Rattle.lra_verify.specs.Crates.{lra_multipliers.Multipliers.Multipliers, lra_path_disjuncts.TableDisjuncts.all_done, lra_path_disjuncts.TableDisjuncts.lists_done, lra_path_segments.Segments.Goal}
use Rattle.lra_verify.specs.Crates.{lra_path_segments.Segments.comes_to, lra_path_segments.Segments.violates, lra_systems.LinearSystems.LinearSystem, lra_systems.LinearSystems.constraints}
use Rattle.lra_paths.specs.{Paths.Path, Paths.path_by, Sources.to_goal, declared.sources.Source.Source}
use Rattle.lra_certificate_lines.specs.PathCheckViews.{IsPathCheck, target_rows, line_by, lines_by}
use Rattle.lra_certificate_lines.specs.{LineViews.IsFault, declared.path_checks.PathCheck.PathCheck, declared.refusals.VerifyError.VerifyError}
use Rattle.lra_verify.specs.EdgeViews.{edge_by, dims_of, path_of, dead_by, sites_in, states_in, actions_out_of, actions_by, live_by, step_by, paths_to_by, violation_by}
use Rattle.lra_verify.specs.{declared.annotated.AnnotatedProgram.AnnotatedProgram, declared.edges.Edge.Edge}
use Rattle.lra_certificate_lines.proofs.{ShowSteps.turn_same, ShowSteps.lines_are, ShowSteps.dead_is, JudgedLines.then_ok, JudgedLines.then_err, JudgedLines.fault_through}
use Rattle.lra_verify.proofs.Crates.{lra_certificate_spec.WritePaths.edge_from, lra_certificate_spec.WriteText.clean}

-- ---- paths that are written
pub lists_next : (paths : List (Vec (Bor Change) Global)) (i : ℕ) (p : Vec (Bor Change) Global) → i < length paths → p ≡ slice_index_or paths i p →
    lists_done (drop i paths) ≡ all_done p.items ∷ lists_done (drop (i + 1) paths)
lists_next paths i p h is = ap lists_done (drop-cons paths i p h ∙ (λ j. sym is j ∷ drop (sym (add-one i) j) paths))

pub lists_end : (paths : List (Vec (Bor Change) Global)) (i : ℕ) → length paths ≤ i → lists_done (drop i paths) ≡ []
lists_end paths i h = ap lists_done (drop_all i paths h)

-- ---- numbers in turn
pub numbers_next : (i n : ℕ) → i < n → range_with_len i (n - i) ≡ i ∷ range_with_len (i + 1) (n - (i + 1))
numbers_next i n h = ap (range_with_len i) (let e : n - i ≡ suc (n - (i + 1)) = omega (arith, h) in e)

pub numbers_end : (i n : ℕ) → n ≤ i → range_with_len i (n - i) ≡ []
numbers_end i n h = ap (range_with_len i) (let e : n - i ≡ 0 = omega (arith, h) in e)

-- ---- it doesn't say which path it is
module _ (live : ℕ) (rows : List LinearRow) (steps : List Action) where
  abbrev along : ℕ → Goal → PathPremises
  along p goal = record { live = live; rows = rows; path = path_by p goal steps }

  same_walk : (p : ℕ) (goal : Goal) (r : Result SymbolicState Excess) (m : Multipliers) (l : Left) →
      judged_walk (along 0 (violates 0)) r (λ w. Ok (contradiction (along 0 (violates 0)))) m l ≡
      judged_walk (along p goal) r (λ w. Ok (contradiction (along p goal))) m l
  same_walk p goal (Ok w) m l = refl
  same_walk p goal (Err e) m l = refl

  same_given : (p : ℕ) (goal : Goal) (o : Option Multipliers) (l : Left) →
      judged_multipliers (along 0 (violates 0)) (λ w. Ok (contradiction (along 0 (violates 0)))) o l ≡
      judged_multipliers (along p goal) (λ w. Ok (contradiction (along p goal))) o l
  same_given p goal None l = refl
  same_given p goal (Some m) l = same_walk p goal (executed_path live steps) m l

  pub dead_same : (p : ℕ) (goal : Goal) (l : Left) → judged_dead (along 0 (violates 0)) l ≡ judged_dead (along p goal) l
  dead_same p goal l = same_given p goal (multipliers_in (codes "dead") (length rows + tests_in steps) (line_or_empty (line_on l.pieces))) l

-- ---- which way a source has to a point
module _ (from to : Option (Bor (LinearSystem ConKind))) (p q : ℕ) where
  abbrev edge : Edge
  edge = record { source = p; point = q; from = from; to = to }

  edge_same : (live : ℕ) (steps : List Action) (l : Left) → IfSome from (λ r. r.now.dims ≡ live) →
      path_of edge steps l ≡ edge_by live (target_rows from) (target_rows to) (path_by p (comes_to q) steps) l
  edge_same live steps l h = by from h
    where
      by : (o : Option (Bor (LinearSystem ConKind))) → IfSome o (λ r. r.now.dims ≡ live) →
          edge_by (dims_of o) (target_rows o) (target_rows to) (path_by p (comes_to q) steps) l ≡
          edge_by live (target_rows o) (target_rows to) (path_by p (comes_to q) steps) l
      by None h = refl
      by (Some r) h = ap (λ (n : ℕ). edge_by n (Some (constraints r.now)) (target_rows to) (path_by p (comes_to q) steps) l) h

  module _ (w : AnnotatedProgram) (s : Source) (lists : List (List Action)) (got : slice_get w.sources.now p ≡ Some s)
      (led : lists ≡ to_goal s.entries.items s.segments.items (comes_to q)) (rows : target_rows from ≡ state_from (states_in w) p)
      (target : target_rows to ≡ state_to (states_in w) (comes_to q)) (dims : IfSome from (λ r. r.now.dims ≡ live_by (sites_in w) p)) where
    step_same : (steps : List Action) (l : Left) → path_of edge steps l ≡ step_by w p q steps l
    step_same steps l =
        edge_same (live_by (sites_in w) p) steps l dims ∙
        ap (λ (x : RowsAtPoint). edge_by (live_by (sites_in w) p) x (target_rows to) (path_by p (comes_to q) steps) l) rows ∙
        ap (λ (x : RowsAtPoint). edge_by (live_by (sites_in w) p) (state_from (states_in w) p) x (path_by p (comes_to q) steps) l) target

    pub way_same : (l : Left) → judged_in_turn (path_of edge) lists l ≡ paths_to_by w p q l
    way_same l =
        turn_same (path_of edge) (step_by w p q) step_same lists l ∙
        ap (λ (xs : List (List Action)). judged_in_turn (step_by w p q) xs l) (led ∙ ap (λ (o : Option Source). actions_out_of o (comes_to q)) (sym got))

-- ---- to where an assertion is false
none_dead : (live : ℕ) (lists : List (List Action)) (l : Left) → judged_in_turn (dead_by live None) lists l ≡ Ok l
none_dead live [] l = refl
none_dead live (steps ∷ lists) l = none_dead live lists l

module _ (w : AnnotatedProgram) (p q : ℕ) (from : Option (Bor (LinearSystem ConKind))) (rows : target_rows from ≡ state_from (states_in w) p) where
  pub denial_none : (l : Left) → from ≡ None → violation_by w q p l ≡ Ok l
  denial_none l none =
      ap (λ (x : RowsAtPoint). judged_in_turn (dead_by (live_by (sites_in w) p) x) (actions_by w p (violates q)) l)
      (sym rows ∙ ap (λ (o : Option (Bor (LinearSystem ConKind))). target_rows o) none) ∙
      none_dead (live_by (sites_in w) p) (actions_by w p (violates q)) l

  pub denial_same : (s : Source) (r : Bor (LinearSystem ConKind)) (lists : List (List Action)) (l : Left) → from ≡ Some r → slice_get w.sources.now p ≡ Some s →
      lists ≡ to_goal s.entries.items s.segments.items (violates q) → r.now.dims ≡ live_by (sites_in w) p →
      judged_in_turn (dead_by r.now.dims (Some (constraints r.now))) lists l ≡ violation_by w q p l
  denial_same s r lists l some got led dims =
      ap (λ (n : ℕ). judged_in_turn (dead_by n (Some (constraints r.now))) lists l) dims ∙
      ap (λ (x : RowsAtPoint). judged_in_turn (dead_by (live_by (sites_in w) p) x) lists l)
      (sym (ap (λ (o : Option (Bor (LinearSystem ConKind))). target_rows o) some) ∙ rows) ∙
      ap (λ (xs : List (List Action)). judged_in_turn (dead_by (live_by (sites_in w) p) (state_from (states_in w) p)) xs l)
      (led ∙ ap (λ (o : Option Source). actions_out_of o (violates q)) (sym got))

-- ---- a path, after its own line
abbrev pub edge_words : ℕ → ℕ → List ℕ
edge_words p n = codes "edge " ++ (decimal p ++ (codes " " ++ decimal n))

pub edge_line : (p q : ℕ) (steps : List Action) (text : List ℕ) → text ≡ edge_words p (q + 1) → text ≡ edge_text (path_by p (comes_to q) steps)
edge_line p q steps text e =
    e ∙ ap (edge_words p) (add-one q) ∙ sym (append_assoc (codes "edge ") (decimal p) (codes " " ++ decimal (suc q))) ∙
    sym (append_assoc (codes "edge " ++ decimal p) (codes " ") (decimal (suc q)))

pub edge_clean : (p q : ℕ) (text : List ℕ) → text ≡ edge_words p (q + 1) → HasNoFeed text
edge_clean p q text e = subst (λ (x : List ℕ). HasNoFeed x) (sym (edge_line p q [] text e))
    (clean (edge_text (path_by p (comes_to q) [])) (edge_from (path_by p (comes_to q) [])))

module _ (e : Edge) (steps : List Action) (text : List ℕ) (l : Left)
    (is : text ≡ edge_words e.source (e.point + 1)) where
  abbrev path : Path
  path = path_by e.source (comes_to e.point) steps

  abbrev behind : Left → Judged Left
  behind m = judged_from (dims_of e.from) path (target_rows e.from) (target_rows e.to) m

  line_first : takes text l ≡ takes (edge_text path) l
  line_first = ap (λ (x : List ℕ). takes x l) (edge_line e.source e.point steps text is)

  path_taken : (next : Left) → takes text l ≡ Ok next → behind next ≡ path_of e steps l
  path_taken next took = sym (then_ok (takes (edge_text path) l) behind next (sym line_first ∙ took))

  pub path_none : (next : Left) → takes text l ≡ Ok next → e.from ≡ None → path_of e steps l ≡ Ok next
  path_none next took none =
      sym (path_taken next took) ∙
      ap (λ (o : Option (Bor (LinearSystem ConKind))). judged_from (dims_of o) path (target_rows o) (target_rows e.to) next) none

  pub path_some : (next : Left) (r : Bor (LinearSystem ConKind)) (t : PathCheck) → takes text l ≡ Ok next → e.from ≡ Some r →
      IsPathCheck r.now.dims (constraints r.now) steps t → lines_by t (target_rows e.to) next ≡ path_of e steps l
  path_some next r t took some track =
      lines_are (record { live = r.now.dims; rows = constraints r.now; path = path }) t track (target_rows e.to) next ∙
      sym (ap (λ (o : Option (Bor (LinearSystem ConKind))). judged_from (dims_of o) path (target_rows o) (target_rows e.to) next) some) ∙
      path_taken next took

  pub path_fault : (error : VerifyError) → IsFault (takes text l) error → IsFault (path_of e steps l) error
  path_fault error = fault_through (takes text l) (path_of e steps l) error
      (λ r took. then_err (takes (edge_text path) l) behind r (sym line_first ∙ took))

pub dead_told : (rows : LinearSystem ConKind) (steps : List Action) (t : PathCheck) (l : Left) → IsPathCheck rows.dims (constraints rows) steps t →
    line_by t (codes "dead") None l ≡ dead_by rows.dims (Some (constraints rows)) steps l
dead_told rows steps t l track = dead_is (record { live = rows.dims; rows = constraints rows; path = path_by 0 (violates 0) steps }) t track l
