-- Paths and assertions as the code judges their lines, from one source after the other.
use Rattle.std.specs.Prelude.{◌≡◌, ◌<◌, ◌+◌, ◌^◌, ℕ, zero, suc, Bool, List, [], ◌∷◌, map, length, Ok, Option, None}
use Rattle.std.specs.Prelude.{Some, slice_get, ◌&&◌, if◌then◌else◌}
use Rattle.std.specs.{Borrow.Bor, List.All, List.range_with_len}
use Rattle.lra_verify.specs.Crates.lra_certificate_spec.CertificateText.{edge_text, assert_text}
use Rattle.lra_verify.specs.Crates.lra_certificate_spec.Certificates.{state_from, state_to}
use Rattle.lra_verify.specs.Crates.lra_certificate_spec.Judged.{Left, Judged, RowsAtPoint, then_judged, takes}
use Rattle.lra_verify.specs.Crates.lra_certificate_spec.Judged.{judged_from, judged_dead, after_line, is_next_line}
use Rattle.lra_verify.specs.Crates.lra_certificate_spec.Judged.{line_on, one_more, counted}
use Rattle.lra_verify.specs.Crates.lra_certificate_spec.Lines.{judged_in_turn, left_at}
use Rattle.lra_verify.specs.Crates.lra_path_segments.Segments.{Goal, comes_to, violates}
use Rattle.lra_verify.specs.Crates.lra_systems.LinearSystems.{LinearSystem, constraints}
use Rattle.lra_verify.specs.Crates.{lra_domain.Actions.Action, lra_linear_spec.declared.ConKind.ConKind}
use Rattle.lra_verify.specs.Crates.{lra_path_disjuncts.Tables.IsTable, lra_program.Sites.Site}
use Rattle.lra_operations.specs.TreeViews.{site_view}
use Rattle.lra_paths.specs.Paths.{Path, path_by, live_of}
use Rattle.lra_paths.specs.{Sources.to_goal, Sources.AreFewTo, declared.sources.Source.Source}
use Rattle.lra_verify.specs.PointViews.{state_view, HaveDims}
use Rattle.lra_verify.specs.{declared.annotated.AnnotatedProgram.AnnotatedProgram, declared.edges.Edge.Edge}
use Rattle.lra_certificate_lines.specs.PathCheckViews.{target_rows}
use Rattle.lra_verify.specs.declared.listed.Listed as listed

-- one path from a source to a goal, with what is said of these
abbrev pub edge_by : ℕ → RowsAtPoint → RowsAtPoint → Path → Left → Judged Left
edge_by live from target path l = then_judged (takes (edge_text path) l) (λ m. judged_from live path from target m)

-- how many variables have the rows of a source that isn't empty
abbrev pub dims_of : Option (Bor (LinearSystem ConKind)) → ℕ
dims_of None = 0
dims_of (Some rows) = rows.now.dims

abbrev pub path_of : Edge → List Action → Left → Judged Left
path_of e steps l =
    edge_by (dims_of e.from) (target_rows e.from) (target_rows e.to) (path_by e.source (comes_to e.point) steps) l

-- that nothing goes along a path; it doesn't say which path it is
abbrev pub dead_by : ℕ → RowsAtPoint → List Action → Left → Judged Left
dead_by live None steps l = Ok l
dead_by live (Some rows) steps l =
    judged_dead (record { live = live; rows = rows; path = path_by 0 (violates 0) steps }) l

-- a program with what is said of its points ------------------------------------------------------------------------

abbrev pub sites_in : AnnotatedProgram → List Site
sites_in w = map site_view w.sites.now

abbrev pub states_in : AnnotatedProgram → List RowsAtPoint
states_in w = map state_view w.states.now

abbrev pub actions_out_of : Option Source → Goal → List (List Action)
actions_out_of None goal = []
actions_out_of (Some s) goal = to_goal s.entries.items s.segments.items goal

abbrev pub actions_by : AnnotatedProgram → ℕ → Goal → List (List Action)
actions_by w p goal = actions_out_of (slice_get w.sources.now p) goal

-- how many variables live at a source
abbrev pub live_by : List Site → ℕ → ℕ
live_by sites zero = 0
live_by sites (suc q) = live_of (slice_get sites q)

-- from a source to a point, and to all of them
abbrev pub step_by : AnnotatedProgram → ℕ → ℕ → List Action → Left → Judged Left
step_by w p q steps l =
    edge_by (live_by (sites_in w) p) (state_from (states_in w) p) (state_to (states_in w) (comes_to q))
    (path_by p (comes_to q) steps) l

abbrev pub paths_to_by : AnnotatedProgram → ℕ → ℕ → Left → Judged Left
paths_to_by w p q l = judged_in_turn (step_by w p q) (actions_by w p (comes_to q)) l

abbrev pub source_by : AnnotatedProgram → ℕ → Left → Judged Left
source_by w p l = judged_in_turn (paths_to_by w p) (range_with_len 0 (length w.sites.now)) l

abbrev pub sources_by : AnnotatedProgram → Left → Judged Left
sources_by w l = judged_in_turn (source_by w) (range_with_len 0 (length w.sources.now)) l

-- to where the assertion at a point is false
abbrev pub violation_by : AnnotatedProgram → ℕ → ℕ → Left → Judged Left
violation_by w q p l =
    judged_in_turn (dead_by (live_by (sites_in w) p) (state_from (states_in w) p)) (actions_by w p (violates q)) l

abbrev pub violations_by : AnnotatedProgram → ℕ → Left → Judged Left
violations_by w q l = judged_in_turn (violation_by w q) (range_with_len 0 (length w.sources.now)) l

-- so many assertions so far, and what is left: after the assertion at a point, if there is one and it is listed
abbrev pub assertion_by : (ℕ → Left → Judged Left) → ℕ → Bool → ℕ × Left → Judged (ℕ × Left)
assertion_by denials q asserts r = if asserts && is_next_line (assert_text q) (line_on r.1.pieces)
    then then_judged (denials q (after_line r.1)) (λ next. Ok (r.0 + 1, next)) else Ok r

-- how many assertions are listed
abbrev pub listed_by : (ℕ → Left → Judged Left) → ℕ → List Site → Left → Judged (ℕ × Left)
listed_by denials q [] l = Ok (0, l)
listed_by denials q (site ∷ sites) l = if site.asserts && is_next_line (assert_text q) (line_on l.pieces)
    then then_judged (denials q (after_line l)) (λ next. one_more (listed_by denials (suc q) sites next))
    else listed_by denials (suc q) sites l

abbrev pub listed_view : List ℕ → listed.Listed → ℕ × Left
listed_view bytes r = (r.proved, left_at bytes r.behind)

-- all that comes after the points
abbrev pub rest_by : AnnotatedProgram → Left → Judged (ℕ × ℕ)
rest_by w l = then_judged (sources_by w l) (λ m.
    then_judged (listed_by (violations_by w) 0 (sites_in w) m) (λ x. counted (length w.sites.now) x))

-- there is a state for each point and a source more, with no more paths than may be; each state has its point's width
pub record IsAnnotatedProgram (w : AnnotatedProgram) : Type 0 where
  pub states : length w.states.now ≡ length w.sites.now
  pub sources : length w.sources.now ≡ suc (length w.sites.now)
  pub many : length w.sites.now < 2 ^ 31
  pub tables : All (λ s. IsTable s.entries.items) w.sources.now
  pub few : All (λ s. AreFewTo s.entries.items s.segments.items) w.sources.now
  pub start_rows : constraints w.start.now ≡ []
  pub start_dims : w.start.now.dims ≡ 0
  pub dims : HaveDims (sites_in w) w.states.now
  pub live : All (λ s. s.live < 2 ^ 31) w.sites.now
