-- The points of a report, one more at a time.
use Rattle.std.proofs.Common.{◌≡◌, ◌∙◌, sym, ap, refl, subst, ◌+◌, ◌<◌, ℕ, suc, List, [], ◌∷◌, ◌++◌, length, map, take, get_or, option_map, Vec, Global, arith}
use Rattle.std.proofs.{lemmas.List.map_more, lemmas.List.length-map, lemmas.List.length-take-le, lemmas.List.map-append, lemmas.Option.slice_get_read, lemmas.Option.slice_get-map}
use Rattle.std.specs.List.{AllByRecursion}
use Rattle.lra_row_text.specs.Part.{Part}
use Rattle.lra_report.specs.{Listing.listed_point, Listing.HasWidth, Listing.AreListed, Report.Invariant, Report.PointReport, View.point_report_of}
use Rattle.lra_report_build.specs.Crates.{lra_operations.TreeViews.site_view, lra_program.Sites.Site}
use Rattle.lra_syntax.specs.Labels.{Labelled}
use Rattle.lra_report_build.specs.Crates.lra_operations.declared.tree.Site as code_site
use Rattle.lra_report.specs.declared.report.PointReport as code_point
use Rattle.lra_report_build.specs.AnalysisResults.{state_of, AreInvariants}

-- the point of the next number
pub listed_more : (outside : List (List ℕ)) (ls : List Labelled) (k n : ℕ) (ss : List Site) (ps : List PointReport) (s : Site) (p : PointReport) → AreListed outside ls k ss ps
    → n ≡ k + length ss → p ≡ listed_point outside ls n s p.state → AllByRecursion (HasWidth s.live) p.state → AreListed outside ls k (ss ++ s ∷ []) (ps ++ p ∷ [])
listed_more outside ls k n [] [] s p listed at is wide =
    (subst (λ (m : ℕ). p ≡ listed_point outside ls m s p.state) (let e : n ≡ k = omega (arith, at) in e) is, wide, tt)
listed_more outside ls k n [] (q ∷ ps) s p listed at is wide = absurd listed
listed_more outside ls k n (x ∷ ss) [] s p listed at is wide = absurd listed
listed_more outside ls k n (x ∷ ss) (q ∷ ps) s p listed at is wide =
    (listed.0, listed.1, listed_more outside ls (suc k) n ss ps s p listed.2 (omega (arith, at)) is wide)

-- a point of the code's types, after those of the first n sites
behind_first : (outside : List (List ℕ)) (ls : List Labelled) (sites : List code_site.Site) (points : List code_point.PointReport) (s : code_site.Site) (p : PointReport)
    (n : ℕ) (state : Invariant) → AreListed outside ls 1 (map site_view (take n sites)) (map point_report_of points) → s ≡ get_or sites n s → n < length sites
    → p ≡ listed_point outside ls (suc n) (site_view s) state → AllByRecursion (HasWidth s.live) state
    → AreListed outside ls 1 (map site_view (take (n + 1) sites)) (map point_report_of points ++ p ∷ [])
behind_first outside ls sites points s p n state listed read inside is wide =
    let x = map_more site_view sites n s inside ∙ ap (λ (y : code_site.Site). map site_view (take n sites) ++ site_view y ∷ []) (sym read) in
    let long : length (map site_view (take n sites)) ≡ n = length-map (take n sites) site_view ∙ length-take-le n sites (omega (arith, inside)) in
    let same : p.state ≡ state = ap state_of is in
    subst (λ (ss : List Site). AreListed outside ls 1 ss (map point_report_of points ++ p ∷ [])) (sym x)
    (listed_more outside ls 1 (suc n) (map site_view (take n sites)) (map point_report_of points) (site_view s) p listed (omega (arith, long))
    (is ∙ ap (λ (v : Invariant). listed_point outside ls (suc n) (site_view s) v) (sym same)) (subst (λ (v : Invariant). AllByRecursion (HasWidth s.live) v) (sym same) wide))

pub point_listed : (outside : List (List ℕ)) (ls : List Labelled) (sites : List code_site.Site) (points more : List code_point.PointReport) (s : code_site.Site) (p : code_point.PointReport)
    (n m index number : ℕ) (state : Invariant) → AreListed outside ls 1 (map site_view (take n sites)) (map point_report_of points) → index ≡ n → number ≡ suc index → m ≡ n + 1
    → more ≡ points ++ p ∷ [] → s ≡ get_or sites index s → n < length sites → point_report_of p ≡ listed_point outside ls number (site_view s) state
    → AllByRecursion (HasWidth s.live) state → AreListed outside ls 1 (map site_view (take m sites)) (map point_report_of more)
point_listed outside ls sites points more s p n m index number state listed at counted longer pushed read inside is wide =
    let y : map point_report_of more ≡ map point_report_of points ++ point_report_of p ∷ [] = ap (map point_report_of) pushed ∙ map-append point_report_of points (p ∷ []) in
    let read' : s ≡ get_or sites n s = read ∙ ap (λ (k : ℕ). get_or sites k s) at in
    let number_is : number ≡ suc n = counted ∙ ap suc at in
    let is' : point_report_of p ≡ listed_point outside ls (suc n) (site_view s) state = is ∙ ap (λ (k : ℕ). listed_point outside ls k (site_view s) state) number_is in
    subst (λ (ps : List PointReport). AreListed outside ls 1 (map site_view (take m sites)) ps) (sym y)
    (subst (λ (k : ℕ). AreListed outside ls 1 (map site_view (take k sites)) (map point_report_of points ++ point_report_of p ∷ [])) (sym longer)
    (behind_first outside ls sites points s (point_report_of p) n state listed read' inside is' wide))

abbrev parts_of : Vec Part Global → Invariant
parts_of x = x.items

pub inside_sites : (sites : List code_site.Site) (states : List (Vec Part Global)) (n : ℕ) → AreInvariants (map site_view sites) (map parts_of states) → n < length states → n < length sites
inside_sites sites states n are inside =
    let a = length-map sites site_view in
    let b = length-map states parts_of in
    omega (arith, a, b, are.as_many, inside)

pub wide_state : (sites : List code_site.Site) (states : List (Vec Part Global)) (s : code_site.Site) (state : Vec Part Global) (n index : ℕ)
    → AreInvariants (map site_view sites) (map parts_of states) → index ≡ n → s ≡ get_or sites index s → n < length states → state ≡ get_or states n state
    → AllByRecursion (HasWidth s.live) state.items
wide_state sites states s state n index are at read inside there =
    let read' : s ≡ get_or sites n s = read ∙ ap (λ (k : ℕ). get_or sites k s) at in
    are.wide n (site_view s) state.items
    (slice_get-map site_view sites n ∙ ap (option_map site_view) (slice_get_read sites (length sites) n s refl (inside_sites sites states n are inside) read'))
    (slice_get-map parts_of states n ∙ ap (option_map parts_of) (slice_get_read states (length states) n state refl inside there))

-- its state, after those of the others
states_listed : (points more : List code_point.PointReport) (p : code_point.PointReport) (states : List Invariant) (state : Invariant) → map state_of (map point_report_of points) ≡ states
    → more ≡ points ++ p ∷ [] → (point_report_of p).state ≡ state → map state_of (map point_report_of more) ≡ states ++ state ∷ []
states_listed points more p states state are pushed is =
    ap (λ (ps : List code_point.PointReport). map state_of (map point_report_of ps)) pushed
    ∙ ap (map state_of) (map-append point_report_of points (p ∷ []))
    ∙ map-append state_of (map point_report_of points) (point_report_of p ∷ [])
    ∙ ap (λ (xs : List Invariant). xs ++ (point_report_of p).state ∷ []) are
    ∙ ap (λ (x : Invariant). states ++ x ∷ []) is

-- with the states that were taken
pub states_taken : (points more : List code_point.PointReport) (p : code_point.PointReport) (taken : List (Vec Part Global)) (state : Vec Part Global)
    → map state_of (map point_report_of points) ≡ map parts_of taken → more ≡ points ++ p ∷ [] → (point_report_of p).state ≡ state.items
    → map state_of (map point_report_of more) ≡ map parts_of (taken ++ state ∷ [])
states_taken points more p taken state are pushed is =
    states_listed points more p (map parts_of taken) state.items are pushed is ∙ sym (map-append parts_of taken (state ∷ []))
