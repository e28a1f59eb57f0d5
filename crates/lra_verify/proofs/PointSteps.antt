-- What is said of points, and how many variables their rows have.
use Rattle.std.proofs.Common.{◌≡◌, ◌<◌, ◌⊎◌, inl, inr, ◌++◌, ◌∷◌, [], ℕ, List, length, map, Option, Some, None, Ok, refl, ap, sym, ◌∙◌, subst, slice_index_or, ◌+◌, ◌≤◌, drop, drop-cons, add-one}
use Rattle.std.proofs.Common.{arith}
use Rattle.std.proofs.{lemmas.List.drop_all, lemmas.List.map-append, lemmas.Option.slice_get_read, lemmas.Option.slice_get-map, lemmas.Option.slice_get_within, lemmas.Option.get_or_from_slice_get}
use Rattle.std.specs.{Borrow.Bor, List.All, Prelude.slice_get, Prelude.IfSome, Prelude.option_map}
use Rattle.lra_verify.specs.Crates.lra_certificate_spec.Judged.{Left, Judged, RowsAtPoint, judged_state, judged_states}
use Rattle.lra_verify.specs.Crates.{lra_certificate_spec.Certificates.state_or_empty, lra_linear_spec.declared.ConKind.ConKind, lra_systems.LinearSystems.LinearSystem}
use Rattle.lra_verify.specs.Crates.lra_program.Sites as sites
use Rattle.lra_operations.specs.{TreeViews.site_view, declared.tree.Site.Site}
use Rattle.lra_verify.proofs.Crates.lra_resolution_spec.NameLists.{last_or_before}
use Rattle.lra_paths.specs.Paths.{live_of}
use Rattle.lra_verify.specs.PointViews.{HaveDims, state_view}
use Rattle.lra_certificate_lines.proofs.JudgedLines.{states_after, states_more}

pub dims_pushed : (all : List sites.Site) (states : List (Option (LinearSystem ConKind))) (state : Option (LinearSystem ConKind)) (i : ℕ) → length states ≡ i →
    HaveDims all states → IfSome state (λ rows. rows.dims ≡ live_of (slice_get all i)) → HaveDims all (states ++ state ∷ [])
dims_pushed all states state i n h s q rows e = by (last_or_before states state (Some rows) q e)
  where
    by : (slice_get states q ≡ Some (Some rows)) ⊎ ((q ≡ length states) × (state ≡ Some rows)) → rows.dims ≡ live_of (slice_get all q)
    by (inl old) = h q rows old
    by (inr new) =
        subst (λ (o : Option (LinearSystem ConKind)). IfSome o (λ r. r.dims ≡ live_of (slice_get all i))) new.1 s ∙
        ap (λ (j : ℕ). live_of (slice_get all j)) (sym (new.0 ∙ n))

-- the site at a place
pub site_at : (all : List Site) (i : ℕ) (s : Site) → i < length all → s ≡ slice_index_or all i s → live_of (slice_get (map site_view all) i) ≡ s.live
site_at all i s h is =
    ap live_of (slice_get-map site_view all i ∙ ap (option_map site_view) (slice_get_read all (length all) i s refl h is))

-- ---- one point more
pub sites_next : (all : List Site) (i : ℕ) (s : Site) → i < length all → s ≡ slice_index_or all i s → map site_view (drop i all) ≡
    site_view s ∷ map site_view (drop (i + 1) all)
sites_next all i s h is = ap (map site_view) (drop-cons all i s h ∙ (λ j. sym is j ∷ drop (sym (add-one i) j) all))

pub sites_end : (all : List Site) (i : ℕ) → length all ≤ i → map site_view (drop i all) ≡ []
sites_end all i h = ap (map site_view) (drop_all i all h)

pub points_more : (all : List Site) (i : ℕ) (site : Site) (states : List (Option (LinearSystem ConKind))) (state : Option (LinearSystem ConKind)) (l m : Left)
    (whole : Judged (List RowsAtPoint × Left)) → i < length all → site ≡ slice_index_or all i site →
    states_after (map state_view states) (judged_states (i + 1) (map site_view (drop i all)) l) ≡ whole →
    judged_state (i + 1) site.live l ≡ Ok (state_view state, m) →
    states_after (map state_view (states ++ state ∷ [])) (judged_states (i + 1 + 1) (map site_view (drop (i + 1) all)) m) ≡ whole
points_more all i site states state l m whole h is so_far e =
    ap (λ (ss : List RowsAtPoint). states_after ss (judged_states (i + 1 + 1) (map site_view (drop (i + 1) all)) m))
    (map-append state_view states (state ∷ [])) ∙
    ap (λ (n : ℕ). states_after (map state_view states ++ state_view state ∷ []) (judged_states n (map site_view (drop (i + 1) all)) m)) (add-one (i + 1)) ∙
    states_more (i + 1) (site_view site) (map site_view (drop (i + 1) all)) l (map state_view states) whole
    (ap (λ (ss : List sites.Site). states_after (map state_view states) (judged_states (i + 1) ss l)) (sym (sites_next all i site h is)) ∙ so_far)
    (state_view state) m e

-- ---- what is said of a point, and of a source
pub state_at : (states : List (Option (LinearSystem ConKind))) (q : ℕ) (state : Option (LinearSystem ConKind)) → q < length states →
    state ≡ slice_index_or states q state →
    state_view state ≡ state_or_empty (slice_get (map state_view states) q)
state_at states q state h is =
    sym (ap state_or_empty (slice_get-map state_view states q ∙ ap (option_map state_view) (slice_get_read states (length states) q state refl h is)))

pub state_got : (states : List (Option (LinearSystem ConKind))) (q : ℕ) (state : Option (LinearSystem ConKind)) → q < length states → state ≡ slice_index_or states q state →
    slice_get states q ≡ Some state
state_got states q state h is = slice_get_read states (length states) q state refl h is

-- ---- how many variables live at a point
live_by_get : (n : ℕ) (all : List Site) → 0 < n → All (λ s. s.live < n) all → (q : ℕ) (o : Option Site) → slice_get all q ≡ o →
    live_of (option_map site_view o) < n
live_by_get n all z h q None e = z
live_by_get n all z h q (Some s) e =
    subst (λ (x : Site). x.live < n) (get_or_from_slice_get all q s s e) (h q s (slice_get_within all q s e))

pub live_small : (n : ℕ) (all : List Site) → 0 < n → All (λ s. s.live < n) all → (q : ℕ) → live_of (slice_get (map site_view all) q) < n
live_small n all z h q =
    subst (λ (o : Option sites.Site). live_of o < n) (sym (slice_get-map site_view all q)) (live_by_get n all z h q (slice_get all q) refl)

pub dims_small : (o : Option (Bor (LinearSystem ConKind))) (live n : ℕ) → live < n → IfSome o (λ r. r.now.dims ≡ live) → IfSome o (λ r. r.now.dims < n)
dims_small None live n h e = tt
dims_small (Some r) live n h e = omega (arith, h, e)
