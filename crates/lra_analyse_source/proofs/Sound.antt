-- What an iteration over a program's tree says of the program's runs.
use Rattle.std.proofs.Common.{◌≡◌, ℕ, zero, suc, ◌+◌, ◌++◌, ◌∷◌, [], List, inl, inr, length, Option, Some, Bool, true, false, refl, sym, ap, ◌∙◌, subst, arith}
use Rattle.std.proofs.lemmas.Option.{none-some, same_Some}
use Rattle.std.specs.{List.AllByRecursion, List.Contains, Prelude.ℤ, Prelude.◌⊎◌, Prelude.slice_get, Prelude.IsTrue, Prelude.cond}
use Rattle.lra_analyse_source.specs.Crates.lra_analysis_spec.Analysis.{LossyIteration, IsSolution, IsUnreachable}
use Rattle.lra_analyse_source.specs.Crates.lra_report.Listing.{Subject, access_subjects, accesses_from, computing_from, AreListed, AreJudged}
use Rattle.lra_analyse_source.specs.Crates.lra_report.Report.{PointReport, Verdict}
use Rattle.lra_analyse_source.specs.Crates.{lra_analysis_spec.Pass.failing, lra_analysis_spec.Pass.PassResult, lra_analysis_spec.Plan.Plan, lra_domain.Abstraction.Abstraction, lra_domain.Laws.Laws}
use Rattle.lra_analyse_source.specs.Crates.{lra_operations.Agree.point_of, lra_operations.Agree.Agrees, lra_operations.Tree.Node, lra_program.Assertions.assertions_from, lra_program.Program.Element}
use Rattle.lra_analyse_source.specs.Crates.{lra_program.Program.Program, lra_program.Run.begun, lra_program.Run.At, lra_program.Run.Fails, lra_program.Sites.Site, lra_program.Sites.sites_of}
use Rattle.lra_analyse_source.specs.Crates.{lra_program.WellFormed.AreGoodGlobals, lra_resolution_spec.LiveNames.live_names, lra_resolution_spec.ShownNames.shown_names, lra_syntax.Labels.Labelled}
use Rattle.lra_analyse_source.proofs.Crates.lra_analysis_spec.Covers.{Covers, Has}
use Rattle.lra_fixpoint.proofs.Covering.{begun_covers}

-- runs -----------------------------------------------------------------------------------------------------------------

module _ (V H : Type 0) (m : Abstraction V H) where
  module _ (laws : Laws m) (set : Plan) (P : Program) (good : AreGoodGlobals P.globals) (g : Node) (r : PassResult V) where
    -- from the globals on, whatever is drawn, the iteration has the stores of the tree's runs
    pub derivation_covers : LossyIteration m set P g r → (draws : List ℤ) → Covers m g (begun P draws) r
    derivation_covers (none, first, e, universal, values, pass) draws = begun_covers m laws set P good g none first e r universal values pass draws

    module _ (derived : LossyIteration m set P g r) (agrees : Agrees P g) (values : List V) (verdicts : List (ℕ × Bool)) (flagged : Option ℕ) (solves : IsSolution m r values verdicts flagged) where
      -- if a run reaches a point, the value there has its store
      pub held_there : (q : ℕ) (s : Site) (store : List ℤ) → slice_get (sites_of P) q ≡ Some s → At P (point_of s) store
          → (v : V) × (slice_get values q ≡ Some v) × Has m v store × (length store ≡ m.dims v)
      held_there q s store there at =
          let (draws, words, t, comes, is) = (agrees.comes q s store there).0 at in
          let (v, found, has) = (derivation_covers derived draws).comes q t comes in
          let there : Has m v store = subst (λ (xs : List ℤ). Has m v xs) is has in
          (v, (solves.is_value q v).1 found, there, laws.sized v store there.0 there.1)

      pub value_there : (q : ℕ) (s : Site) (store : List ℤ) → slice_get (sites_of P) q ≡ Some s → At P (point_of s) store
          → (v : V) × (slice_get values q ≡ Some v) × m.gamma v store × (length store ≡ m.dims v)
      value_there q s store there at = let h = held_there q s store there at in (h.0, h.1, h.2.1, h.3)

      -- no run comes if the value has no part
      pub none_comes : (q : ℕ) (s : Site) (v : V) (store : List ℤ) → slice_get (sites_of P) q ≡ Some s → slice_get values q ≡ Some v → IsUnreachable m v → At P (point_of s) store → ⊥
      none_comes q s v store there found none at =
          let (w, got, has, long) = held_there q s store there at in
          let own = subst (λ (x : V). Has m x store) (sym (same_Some v w (sym found ∙ got))) has in
          laws.partless v own.0 none store own.1

      -- if a run fails an assertion, a value where its condition is false has its store
      pub failing_there : (q : ℕ) (s : Site) → slice_get (sites_of P) q ≡ Some s → Fails P (point_of s) → (v : V) × (store : List ℤ) × Contains r.entries (failing q v) × Has m v store
      failing_there q s there fails =
          let (draws, words, failed) = (agrees.fails q s there).0 fails in
          let (v, t, found, has) = (derivation_covers derived draws).fails q failed in
          (v, t.store, found, has)

      -- one value for each assertion
      abbrev pub OneFailing : Type 0
      OneFailing = (q : ℕ) (u v : V) → Contains r.entries (failing q u) → Contains r.entries (failing q v) → u ≡ v

      pub proved_holds : OneFailing → (q : ℕ) (s : Site) (proved : Bool) → slice_get (sites_of P) q ≡ Some s → Contains verdicts (q, proved) → IsTrue proved → Fails P (point_of s) → ⊥
      proved_holds one q s proved there listed is fails =
          let (v, store, found, has) = failing_there q s there fails in
          let (u, seen, so) = solves.is_verdict q proved listed in
          let own = subst (λ (x : V). Has m x store) (one q v u found seen) has in
          laws.partless u own.0 (so.0 is) store own.1

-- reports ------------------------------------------------------------------------------------------------------------

-- a point of this site, with the names of its variables
abbrev pub IsListed : List (List ℕ) → List Labelled → Site → PointReport → Type 0
IsListed outside ls s p = (p.point ≡ point_of s) × (p.names ≡ shown_names (live_names outside ls s))

-- what holds of each listed point of a site holds of all
pub listed_all : (Q : PointReport → Type 0) (outside : List (List ℕ)) (ls : List Labelled) (number : ℕ) (ss : List Site) (ps : List PointReport) → AreListed outside ls number ss ps
    → ((k : ℕ) (s : Site) (p : PointReport) → slice_get ss k ≡ Some s → slice_get ps k ≡ Some p → IsListed outside ls s p → Q p) → AllByRecursion Q ps
listed_all Q o ls n [] [] l f = tt
listed_all Q o ls n [] (p ∷ ps) l f = absurd l
listed_all Q o ls n (s ∷ ss) [] l f = absurd l
listed_all Q o ls n (s ∷ ss) (p ∷ ps) l f =
    (f 0 s p refl refl (ap (λ (x : PointReport). x.point) l.0, ap (λ (x : PointReport). x.names) l.0), listed_all Q o ls (suc n) ss ps l.2 (λ k. f (suc k)))

-- a verdict on what is judged, but for its path, its place and which of its kind it is
pub record IsOn (x : Subject) (v : Verdict) : Type 0 where
  pub kind : v.kind ≡ x.kind
  pub number : v.number ≡ x.number
  pub point : v.point ≡ point_of x.site

pub judged_all : (Q : Verdict → Type 0) (ls : List Labelled) (xs : List Subject) (vs : List Verdict) → AreJudged ls xs vs
    → ((k : ℕ) (x : Subject) (v : Verdict) → slice_get xs k ≡ Some x → slice_get vs k ≡ Some v → IsOn x v → Q v) → AllByRecursion Q vs
judged_all Q ls [] [] l f = tt
judged_all Q ls [] (v ∷ vs) l f = absurd l
judged_all Q ls (x ∷ xs) [] l f = absurd l
judged_all Q ls (x ∷ xs) (v ∷ vs) l f = (
  f 0 x v refl refl (record {
    kind = ap (λ (y : Verdict). y.kind) l.0;
    number = ap (λ (y : Verdict). y.number) l.0;
    point = ap (λ (y : Verdict). y.point) l.0;
  }),
  judged_all Q ls xs vs l.1 (λ k. f (suc k)),
)

-- the place of a site, by its number
abbrev pub SiteAt : ℕ → List Site → ℕ × Site → Type 0
SiteAt number ss x = (q : ℕ) × (x.0 ≡ number + q) × (slice_get ss q ≡ Some x.1)

later_site : (number : ℕ) (s : Site) (ss : List Site) (x : ℕ × Site) → SiteAt (suc number) ss x → SiteAt number (s ∷ ss) x
later_site number s ss x (q, is, there) = (suc q, is ∙ omega arith, there)

chosen_site : (number : ℕ) (s : Site) (ss : List Site) (x : ℕ × Site) (rest : List (ℕ × Site)) → ((k : ℕ) → slice_get rest k ≡ Some x → SiteAt (suc number) ss x)
    → (b : Bool) (k : ℕ) → slice_get (cond b ((number, s) ∷ rest) rest) k ≡ Some x → SiteAt number (s ∷ ss) x
chosen_site number s ss x rest f true zero e =
    let same : (number, s) ≡ x = same_Some (number, s) x e in (0, sym (ap (λ (y : ℕ × Site). y.0) same) ∙ omega arith, ap (λ (y : ℕ × Site). Some y.1) same)
chosen_site number s ss x rest f true (suc k) e = later_site number s ss x (f k e)
chosen_site number s ss x rest f false k e = later_site number s ss x (f k e)

-- an assertion's number is that of its site
pub assertion_site : (number : ℕ) (ss : List Site) (k : ℕ) (x : ℕ × Site) → slice_get (assertions_from number ss) k ≡ Some x → SiteAt number ss x
assertion_site number [] k x e = absurd (none-some x e)
assertion_site number (s ∷ ss) k x e = chosen_site number s ss x (assertions_from (suc number) ss) (λ j d. assertion_site (suc number) ss j x d) s.asserts k e

-- so it is with a point at which something is computed
pub computing_site : (computes : ℕ → Bool) (q : ℕ) (ss : List Site) (k : ℕ) (x : ℕ × Site) → slice_get (computing_from computes q ss) k ≡ Some x → SiteAt
    (suc q) ss x
computing_site computes q [] k x e = absurd (none-some x e)
computing_site computes q (s ∷ ss) k x e = chosen_site (suc q) s ss x (computing_from computes (suc q) ss) (λ j d. computing_site computes (suc q) ss j x d)
    (computes q) k e

-- in the one list or in the other
pub get_either : {A : Type 0} (xs ys : List A) (k : ℕ) (x : A) → slice_get (xs ++ ys) k ≡ Some x
    → (slice_get xs k ≡ Some x) ⊎ ((j : ℕ) × (slice_get ys j ≡ Some x))
get_either [] ys k x there = inr (k, there)
get_either (y ∷ xs) ys zero x there = inl there
get_either (y ∷ xs) ys (suc k) x there = get_either xs ys k x there

-- and with an access
own_site : (number : ℕ) (s : Site) (n : ℕ) (xs : List Element) (k : ℕ) (x : Subject) → slice_get (access_subjects number s n xs) k ≡ Some x
    → (x.number ≡ number) × (x.site ≡ s)
own_site number s n [] k x e = absurd (none-some x e)
own_site number s n (y ∷ xs) zero x e =
    let same = sym (same_Some _ x e) in (ap (λ (u : Subject). u.number) same, ap (λ (u : Subject). u.site) same)
own_site number s n (y ∷ xs) (suc k) x e = own_site number s (suc n) xs k x e

pub access_site : (at : ℕ → List Element) (q : ℕ) (ss : List Site) (k : ℕ) (x : Subject) → slice_get (accesses_from at q ss) k ≡ Some x
    → SiteAt (suc q) ss (x.number, x.site)
access_site at q [] k x e = absurd (none-some x e)
access_site at q (s ∷ ss) k x e = elim (get_either (access_subjects (suc q) s 0 (at q)) (accesses_from at (suc q) ss) k x e) [
  | inl here ↦ let (number, site) = own_site (suc q) s 0 (at q) k x here in (0, number ∙ omega arith, ap Some (sym site))
  | inr (j, later) ↦ later_site (suc q) s ss (x.number, x.site) (access_site at (suc q) ss j x later)
]
