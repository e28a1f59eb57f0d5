-- How many variables live at the points of a tree, and values with a dimension for each of them.
use Rattle.std.specs.{List.Contains, Prelude.◌≡◌, Prelude.◌<◌, Prelude.ℕ, Prelude.List, Prelude.Some, Prelude.slice_get}
use Rattle.lra_fixpoint.specs.Crates.lra_domain.Abstraction.{Abstraction}
use Rattle.lra_fixpoint.specs.Crates.{lra_analysis_spec.Live.live_after, lra_program.Sites.Site}
use Rattle.lra_operations.specs.Tree.{Node, empty, probe, point, act, check, seq, choose, iterate, catch, leave, select}
use Rattle.lra_operations.specs.Tree.{Arms, no_arms, entry, arm}
use Rattle.lra_operations.specs.declared.probes.Probe.TheVariants.{InterferencePoint, RecordWrite}

-- a point of this number has so many live variables
abbrev pub LiveAt : List Site → ℕ → ℕ → Type 0
LiveAt T q n = (s : Site) → slice_get T q ≡ Some s → n ≡ s.live

abbrev mutual
  -- begun with n variables, the tree reaches each of its points with as many as live there, and where what a variable
  -- got is noted, that variable lives
  pub PointsHave : List Site → Node → ℕ → Type 0
  PointsHave T empty n = Unit {0}
  PointsHave T (probe here InterferencePoint) n = Unit {0}
  PointsHave T (probe here (RecordWrite place)) n = place < n
  PointsHave T (point q) n = LiveAt T q n
  PointsHave T (act q op) n = Unit {0}
  PointsHave T (check q base c) n = Unit {0}
  PointsHave T (seq a b) n = PointsHave T a n × PointsHave T b (live_after a n)
  PointsHave T (choose q base c a b) n = PointsHave T a n × PointsHave T b n
  PointsHave T (iterate q base c a) n = LiveAt T q n × PointsHave T a n × (live_after a n ≡ n)
  PointsHave T (catch q k a) n = PointsHave T a n
  PointsHave T (leave m k) n = Unit {0}
  PointsHave T (select q base e arms) n = ArmsHave T arms n

  pub ArmsHave : List Site → Arms → ℕ → Type 0
  ArmsHave T no_arms n = Unit {0}
  ArmsHave T (entry l arms) n = ArmsHave T arms n
  ArmsHave T (arm a arms) n = PointsHave T a n × (live_after a n ≡ n) × ArmsHave T arms n

-- each value has a dimension for each variable that lives at its point
abbrev pub AreWide : {V H : Type 0} → Abstraction V H → List Site → List V → Type 0
AreWide {V} m T values = (q : ℕ) (v : V) → slice_get values q ≡ Some v → LiveAt T q (m.dims v)

-- the value of each note has a dimension for its variable
abbrev pub NotesHave : {V H : Type 0} → Abstraction V H → List (ℕ × ℕ × V) → Type 0
NotesHave {V} m notes = (q place : ℕ) (v : V) → Contains notes (q, place, v) → place < m.dims v
