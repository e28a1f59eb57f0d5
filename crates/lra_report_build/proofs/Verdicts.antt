-- The verdicts of an analysis, reported at their points, are those of the assertions and of what is computed.
use Rattle.std.proofs.Common.{◌≡◌, ◌∙◌, sym, ap, refl, subst, ◌+◌, ◌<◌, ℕ, zero, suc, Bool, true, false, List, [], ◌∷◌, ◌++◌, length, map, Some, inl, inr, arith, append_assoc, append-nil, drop, take}
use Rattle.std.proofs.lemmas.List.{drop_all, drop_more, flat_map_more, get_or-map, map-append, map_more}
use Rattle.std.proofs.lemmas.Option.{slice_get_read, slice_get_within, get_or_from_slice_get, same_Some, none-some}
use Rattle.std.proofs.{Common.get_or, Common.◌≤◌, Common.Vec, Common.Global, lemmas.Bool.lt-ltb, lemmas.List.Elements.Contains-get_or}
use Rattle.std.specs.{List.Contains, List.flat_map, Prelude.◌↔◌, Prelude.slice_get, Prelude.All, Prelude.IsTrue, Prelude.cond, Prelude.nat_lt}
use Rattle.lra_report_build.proofs.Crates.lra_linear_spec.Membership.{contains_none, contains_head, contains_tail, contains_cases}
use Rattle.lra_report.proofs.Fronts.{first_same, rest_same}
use Rattle.lra_report.specs.Listing.{Subject, subject, subjects_of, computes_at, computing_from, fits_asked, accesses_at, accesses_any_at, access_subjects, accesses_from, listed_verdict, AreJudged}
use Rattle.lra_report.specs.declared.verdict_kinds.VerdictKind.TheVariants.{Assertion, Fit, Access}
use Rattle.lra_report.specs.{Report.Verdict, declared.verdict_kinds.VerdictKind.VerdictKind}
use Rattle.lra_report_build.specs.Crates.{lra_base.AccessVerdicts.reported_view, lra_base.declared.refusals.Place.Place, lra_operations.Tree.Node, lra_operations.TreeViews.site_view}
use Rattle.lra_report_build.specs.Crates.{lra_program.Assertions.assertions_from, lra_program.Program.Element, lra_program.Sites.Site}
use Rattle.lra_syntax.specs.Labels.{Labelled}
use Rattle.lra_report_build.specs.Crates.lra_operations.declared.tree.Site as code_site
use Rattle.lra_report_build.specs.AnalysisResults.{IsComputing, IsAccessing, AreVerdictsOn, AreVerdicts, AreFitting, AreAccessVerdicts, ReportedVerdict, reported_all, reported_of, reported_verdict}
use Rattle.lra_report_build.specs.AnalysisResults.{reported_from, reported_accesses, site_at, verdict_at, access_verdicts, access_verdicts_at}

abbrev Verdicts : Type 0 → Type 0
Verdicts A = List (ℕ × A)

abbrev Ascend : {A : Type 0} → Verdicts A → Type 0
Ascend {A} vs = (i j : ℕ) (a b : ℕ × A) → i < j → slice_get vs i ≡ Some a → slice_get vs j ≡ Some b → a.0 < b.0

-- the point at this place, if the first has the number k, is one of those that are judged
abbrev Picked : (ℕ → Site → Bool) → ℕ → List Site → ℕ → Type 0
Picked is k ss j = (s : Site) × (slice_get ss j ≡ Some s) × IsTrue (is (k + j) s)

-- those points, with their numbers from 1
abbrev picked_from : (ℕ → Site → Bool) → ℕ → List Site → List (ℕ × Site)
picked_from is k [] = []
picked_from is k (s ∷ ss) = cond (is k s) ((suc k, s) ∷ picked_from is (suc k) ss) (picked_from is (suc k) ss)

step_number : (k j : ℕ) → k + suc j ≡ suc k + j
step_number k j = omega arith

here_number : (k : ℕ) → k + 0 ≡ k
here_number k = omega arith

-- a later verdict has a greater number
above : {A : Type 0} (v w : ℕ × A) (vs : Verdicts A) → Ascend (v ∷ vs) → Contains vs w → v.0 < w.0
above v w vs ascend h = ascend 0 (suc h.0) v w (omega arith) refl (slice_get_read vs (length vs) h.0 w refl h.1 (sym h.2))

module _ (is : ℕ → Site → Bool) where
  behind : (k q : ℕ) (s : Site) (ss : List Site) (j : ℕ) → (j ≡ 0 → ⊥) → q ≡ k + j → Picked is k (s ∷ ss) j → (i : ℕ) × (q ≡ suc k + i) × Picked is (suc k) ss i
  behind k q s ss zero never e a = absurd (never refl)
  behind k q s ss (suc i) never e (t, there, so) = (i, e ∙ step_number k i, (t, there, subst (λ (n : ℕ). IsTrue (is n t)) (step_number k i) so))

  before : (k : ℕ) (s : Site) (ss : List Site) (j : ℕ) → Picked is (suc k) ss j → Picked is k (s ∷ ss) (suc j)
  before k s ss j (t, there, so) = (t, there, subst (λ (n : ℕ). IsTrue (is n t)) (sym (step_number k j)) so)

  -- after a point that isn't judged
  not_picked : (k : ℕ) (s : Site) (ss : List Site) (j : ℕ) → is k s ≡ false → Picked is k (s ∷ ss) j → j ≡ 0 → ⊥
  not_picked k s ss zero never (t, there, so) e =
      let same : s ≡ t = same_Some s t there in
      let holds : is k s ≡ true = subst (λ (x : Site). is k x ≡ true) (sym same) (subst (λ (n : ℕ). is n t ≡ true) (here_number k) so) in
      cc
  not_picked k s ss (suc j) never a e = omega (arith, e)

module _ {A : Type 0} (is : ℕ → Site → Bool) where
  -- these are the verdicts on the points from k on
  record From (k : ℕ) (ss : List Site) (vs : Verdicts A) : Type 0 where
    of_these : (q : ℕ) (b : A) → Contains vs (q, b) → (j : ℕ) × (q ≡ k + j) × Picked is k ss j
    of_all : (j : ℕ) → Picked is k ss j → (b : A) × Contains vs (k + j, b)
    in_order : Ascend vs

  passed : (k : ℕ) (s : Site) (ss : List Site) (vs : Verdicts A) → is k s ≡ false → From k (s ∷ ss) vs → From (suc k) ss vs
  passed k s ss vs never f = record {
    of_these = λ q b h. let a = f.of_these q b h in behind is k q s ss a.0 (not_picked is k s ss a.0 never a.2) a.1 a.2;
    of_all = λ j a. let x = f.of_all (suc j) (before is k s ss j a) in (x.0, subst (λ (n : ℕ). Contains vs (n, x.0)) (step_number k j) x.1);
    in_order = f.in_order;
  }

  -- the first verdict is that of the first judged point
  first_number : (k : ℕ) (s : Site) (ss : List Site) (v : ℕ × A) (vs : Verdicts A) → Picked is k (s ∷ ss) 0 → From k (s ∷ ss) (v ∷ vs) → v.0 ≡ k
  first_number k s ss v vs here f =
      let x = f.of_all 0 here in
      let a = f.of_these v.0 v.1 (contains_head v vs) in
      elim (contains_cases v (k + 0, x.0) vs x.1) [
        | inl same ↦ let e : v.0 ≡ k + 0 = ap (λ (w : ℕ × A). w.0) same in omega (arith, e)
        | inr later ↦ let e = above v (k + 0, x.0) vs f.in_order later in omega (arith, e, a.1)
      ]

  -- after it
  taken : (k : ℕ) (s : Site) (ss : List Site) (v : ℕ × A) (vs : Verdicts A) → v.0 ≡ k → From k (s ∷ ss) (v ∷ vs) → From (suc k) ss vs
  taken k s ss v vs first f = record {
    of_these = λ q b h.
        let a = f.of_these q b (contains_tail v (q, b) vs h) in
        let more = above v (q, b) vs f.in_order h in
        behind is k q s ss a.0 (λ z. omega (arith, z, a.1, more, first)) a.1 a.2;
    of_all = λ j a.
        let x = f.of_all (suc j) (before is k s ss j a) in
        elim (contains_cases v (k + suc j, x.0) vs x.1) [
          | inl same ↦ let e : v.0 ≡ k + suc j = ap (λ (w : ℕ × A). w.0) same in let wrong : ⊥ = omega (arith, e, first) in absurd wrong
          | inr later ↦ (x.0, subst (λ (n : ℕ). Contains vs (n, x.0)) (step_number k j) later)
        ];
    in_order = λ i j a b l x y. f.in_order (suc i) (suc j) a b (omega (arith, l)) x y;
  }

-- with its point, numbered from 1
abbrev with_site : {A : Type 0} → (ℕ → Site) → ℕ × A → ℕ × Site
with_site at v = (suc v.0, at v.0)

module _ {A : Type 0} (is : ℕ → Site → Bool) (at : ℕ → Site) where
  picked : (k : ℕ) (s : Site) (ss : List Site) (rest : List (ℕ × Site)) (vs : Verdicts A) → at k ≡ s → Picked is k (s ∷ ss) 0 → From is k (s ∷ ss) vs
      → ((us : Verdicts A) → From is (suc k) ss us → rest ≡ map (with_site at) us) → (suc k, s) ∷ rest ≡ map (with_site at) vs
  picked k s ss rest [] there here f later = absurd (contains_none (k + 0, (f.of_all 0 here).0) (f.of_all 0 here).1)
  picked k s ss rest (v ∷ vs) there here f later =
      let first = first_number is k s ss v vs here f in
      let more = later vs (taken is k s ss v vs first f) in
      ap (λ (xs : List (ℕ × Site)). (suc k, s) ∷ xs) more
      ∙ ap (λ (x : Site). (suc k, x) ∷ map (with_site at) vs) (sym there)
      ∙ ap (λ (n : ℕ). (suc n, at n) ∷ map (with_site at) vs) (sym first)

  chosen : (k : ℕ) (s : Site) (ss : List Site) (rest : List (ℕ × Site)) (vs : Verdicts A) (b : Bool) → is k s ≡ b → at k ≡ s → From is k (s ∷ ss) vs
      → ((us : Verdicts A) → From is (suc k) ss us → rest ≡ map (with_site at) us) → cond b ((suc k, s) ∷ rest) rest ≡ map (with_site at) vs
  chosen k s ss rest vs true so there f later = picked k s ss rest vs there (s, refl, subst (λ (n : ℕ). IsTrue (is n s)) (sym (here_number k)) so) f later
  chosen k s ss rest vs false so there f later = later vs (passed is k s ss vs so f)

  all_picked : (k : ℕ) (ss : List Site) (vs : Verdicts A) → ((j : ℕ) (s : Site) → slice_get ss j ≡ Some s → at (k + j) ≡ s) → From is k ss vs
      → picked_from is k ss ≡ map (with_site at) vs
  all_picked k [] [] there f = refl
  all_picked k [] (v ∷ vs) there f = let a = f.of_these v.0 v.1 (contains_head v vs) in absurd (none-some a.2.0 a.2.1)
  all_picked k (s ∷ ss) vs there f =
      chosen k s ss (picked_from is (suc k) ss) vs (is k s) refl (ap at (sym (here_number k)) ∙ there 0 s refl) f
      (λ us g. all_picked (suc k) ss us (λ j x e. ap at (sym (step_number k j)) ∙ there (suc j) x e) g)

-- the assertions, and the points at which something is computed
assertions_picked : (k : ℕ) (ss : List Site) → assertions_from (suc k) ss ≡ picked_from (λ q s. s.asserts) k ss
assertions_picked k [] = refl
assertions_picked k (s ∷ ss) = ap (λ (xs : List (ℕ × Site)). cond s.asserts ((suc k, s) ∷ xs) xs) (assertions_picked (suc k) ss)

computing_picked : (g : Node) (k : ℕ) (ss : List Site) → computing_from (computes_at g) k ss ≡ picked_from (λ q s. computes_at g q) k ss
computing_picked g k [] = refl
computing_picked g k (s ∷ ss) = ap (λ (xs : List (ℕ × Site)). cond (computes_at g k) ((suc k, s) ∷ xs) xs) (computing_picked g (suc k) ss)

judged_at : (ls : List Labelled) (kind : VerdictKind) (at : ℕ → Site) (vs : Verdicts Bool)
    → AreJudged ls (subjects_of ls kind (map (with_site at) vs)) (map (λ (v : ℕ × Bool). listed_verdict ls (subject ls kind (suc v.0) (at v.0)) v.1) vs)
judged_at ls kind at [] = tt
judged_at ls kind at (v ∷ vs) = (refl, judged_at ls kind at vs)

module _ {A : Type 0} (is : ℕ → Site → Bool) (ss : List Site) (vs : Verdicts A) (v : AreVerdictsOn (Picked is 0 ss) vs) where
  from_first : From is 0 ss vs
  from_first = record {
    of_these = λ q b h. (q, omega arith, v.of_these q b h);
    of_all = λ j a. let x = v.of_all j a in (x.0, subst (λ (n : ℕ). Contains vs (n, x.0)) (let e : j ≡ 0 + j = omega arith in e) x.1);
    in_order = v.in_order;
  }

  all_on : picked_from is 0 ss ≡ map (with_site (site_at ss)) vs
  all_on = all_picked is (site_at ss) 0 ss vs
      (λ j s e. ap (site_at ss) (let z : 0 + j ≡ j = omega arith in z) ∙ get_or_from_slice_get ss j s _ e) from_first

judged_on : (is : ℕ → Site → Bool) (ss : List Site) (vs : Verdicts Bool) → AreVerdictsOn (Picked is 0 ss) vs → (ls : List Labelled) (kind : VerdictKind)
    (found : List Verdict) → found ≡ map (verdict_at ls ss kind) vs → AreJudged ls (subjects_of ls kind (picked_from is 0 ss)) found
judged_on is ss vs v ls kind found told_so =
    subst (λ (xs : List Verdict). AreJudged ls (subjects_of ls kind (picked_from is 0 ss)) xs) (sym told_so)
    (subst (λ (xs : List (ℕ × Site)). AreJudged ls (subjects_of ls kind xs) (map (verdict_at ls ss kind) vs)) (sym (all_on is ss vs v))
    (judged_at ls kind (site_at ss) vs))

-- points are judged by their numbers from 0 on
verdicts_as : {A : Type 0} (P Q : ℕ → Type 0) (vs : Verdicts A) → ((q : ℕ) → P q ↔ Q q) → AreVerdictsOn P vs → AreVerdictsOn Q vs
verdicts_as P Q vs same v = record {
  of_these = λ q b h. (same q).0 (v.of_these q b h);
  of_all = λ q h. v.of_all q ((same q).1 h);
  in_order = v.in_order;
}

from_none : (q : ℕ) → 0 + q ≡ q
from_none q = omega arith

computing_same : (g : Node) (ss : List Site) (q : ℕ) → IsComputing g ss q ↔ Picked (λ k s. computes_at g k) 0 ss q
computing_same g ss q = (
  λ (s, there, so). (s, there, subst (λ (n : ℕ). IsTrue (computes_at g n)) (sym (from_none q)) so),
  λ (s, there, so). (s, there, subst (λ (n : ℕ). IsTrue (computes_at g n)) (from_none q) so),
)

pub are_judged : (ls : List Labelled) (ss : List Site) (vs : Verdicts Bool) (found : List Verdict) → found ≡ map (verdict_at ls ss Assertion) vs → AreVerdicts ss vs
    → AreJudged ls (subjects_of ls Assertion (assertions_from 1 ss)) found
are_judged ls ss vs found is v =
    subst (λ (xs : List (ℕ × Site)). AreJudged ls (subjects_of ls Assertion xs) found) (sym (assertions_picked 0 ss))
    (judged_on (λ q s. s.asserts) ss vs v ls Assertion found is)

pub are_fitting : (ls : List Labelled) (b : Bool) (g : Node) (ss : List Site) (vs : Verdicts Bool) (found : List Verdict) → found ≡ map (verdict_at ls ss Fit) vs
    → AreFitting b g ss vs → AreJudged ls (fits_asked ls b g ss) found
are_fitting ls true g ss vs found is v =
    subst (λ (xs : List (ℕ × Site)). AreJudged ls (subjects_of ls Fit xs) found) (sym (computing_picked g 0 ss))
    (judged_on (λ q s. computes_at g q) ss vs (verdicts_as (IsComputing g ss) (Picked (λ q s. computes_at g q) 0 ss) vs (computing_same g ss) v)
    ls Fit found is)
are_fitting ls false g ss vs found is none =
    let empty : found ≡ [] = is ∙ ap (map (verdict_at ls ss Fit)) none in
    subst (λ (xs : List Verdict). AreJudged ls [] xs) (sym empty) tt

accessing_same : (g : Node) (ss : List Site) (q : ℕ) → IsAccessing g ss q ↔ Picked (λ k s. accesses_any_at g k) 0 ss q
accessing_same g ss q = (
  λ (s, there, so). (s, there, subst (λ (n : ℕ). IsTrue (accesses_any_at g n)) (sym (from_none q)) so),
  λ (s, there, so). (s, there, subst (λ (n : ℕ). IsTrue (accesses_any_at g n)) (from_none q) so),
)

-- the accesses at the point of a number, from 1
abbrev accessed : (ℕ → List Element) → ℕ → List Element
accessed at zero = []
accessed at (suc q) = at q

abbrev of_point : (ℕ → List Element) → ℕ × Site → List Subject
of_point at p = access_subjects p.0 p.1 0 (accessed at p.0)

accesses_picked : (at : ℕ → List Element) (q : ℕ) (ss : List Site)
    → accesses_from at q ss ≡ flat_map (of_point at) (picked_from (λ k s. nat_lt 0 (length (at k))) q ss)
accesses_picked at q [] = refl
accesses_picked at q (s ∷ ss) = go (at q) refl (accesses_picked at (suc q) ss)
  where
    rest : List (ℕ × Site)
    rest = picked_from (λ k s. nat_lt 0 (length (at k))) (suc q) ss

    go : (xs : List Element) → at q ≡ xs → accesses_from at (suc q) ss ≡ flat_map (of_point at) rest
        → access_subjects (suc q) s 0 (at q) ++ accesses_from at (suc q) ss ≡ flat_map (of_point at) (cond (nat_lt 0 (length (at q))) ((suc q, s) ∷ rest) rest)
    go [] is later = subst (λ (ys : List Element). access_subjects (suc q) s 0 ys ++ accesses_from at (suc q) ss ≡
        flat_map (of_point at) (cond (nat_lt 0 (length ys)) ((suc q, s) ∷ rest) rest)) (sym is) later
    go (x ∷ xs) is later =
        let some : nat_lt 0 (length (at q)) ≡ true = ap (λ (ys : List Element). nat_lt 0 (length ys)) is ∙ lt-ltb 0 (suc (length xs)) (omega arith) in
        ap (λ (us : List Subject). access_subjects (suc q) s 0 (at q) ++ us) later
        ∙ ap (λ (b : Bool). flat_map (of_point at) (cond b ((suc q, s) ∷ rest) rest)) (sym some)

-- what is reported about a point's accesses, at whose places it is reported
point_judged : (ls : List Labelled) (number : ℕ) (site : Site) (n : ℕ) (xs : List Element) (js : List (Place × Bool))
    → map (λ (j : Place × Bool). j.0) js ≡ map (λ (x : Element). x.place) xs
    → AreJudged ls (access_subjects number site n xs) (access_verdicts ls number site n js)
point_judged ls number site n [] [] is = tt
point_judged ls number site n [] (j ∷ js) is = absurd cc
point_judged ls number site n (x ∷ xs) [] is = absurd cc
point_judged ls number site n (x ∷ xs) (j ∷ js) is = (
  ap (λ (at : Place). listed_verdict ls (record { kind = Access; number = number; site = site; which = n; place = at }) j.1) (first_same is),
  point_judged ls number site (suc n) xs js (rest_same is),
)

-- of the one and then of the other
pub judged_append : (ls : List Labelled) (xs ys : List Subject) (vs ws : List Verdict) → AreJudged ls xs vs → AreJudged ls ys ws
    → AreJudged ls (xs ++ ys) (vs ++ ws)
judged_append ls [] ys [] ws a b = b
judged_append ls [] ys (v ∷ vs) ws a b = absurd a
judged_append ls (x ∷ xs) ys [] ws a b = absurd a
judged_append ls (x ∷ xs) ys (v ∷ vs) ws a b = (a.0, judged_append ls xs ys vs ws a.1 b)

points_judged : (ls : List Labelled) (g : Node) (ss : List Site) (vs : List (ℕ × List (Place × Bool)))
    → ((q : ℕ) (js : List (Place × Bool)) → Contains vs (q, js) → map (λ (j : Place × Bool). j.0) js ≡ map (λ (x : Element). x.place) (accesses_at g q))
    → AreJudged ls (flat_map (of_point (accesses_at g)) (map (with_site (site_at ss)) vs)) (flat_map (access_verdicts_at ls ss) vs)
points_judged ls g ss [] places = tt
points_judged ls g ss (v ∷ vs) places =
    judged_append ls (access_subjects (suc v.0) (site_at ss v.0) 0 (accesses_at g v.0)) _ (access_verdicts ls (suc v.0) (site_at ss v.0) 0 v.1) _
    (point_judged ls (suc v.0) (site_at ss v.0) 0 (accesses_at g v.0) v.1 (places v.0 v.1 (contains_head v vs)))
    (points_judged ls g ss vs (λ q js h. places q js (contains_tail v (q, js) vs h)))

pub are_inside : (ls : List Labelled) (g : Node) (ss : List Site) (vs : List (ℕ × List (Place × Bool))) (found : List Verdict)
    → found ≡ flat_map (access_verdicts_at ls ss) vs → AreAccessVerdicts g ss vs → AreJudged ls (accesses_from (accesses_at g) 0 ss) found
are_inside ls g ss vs found is v =
    let all = all_on (λ q s. accesses_any_at g q) ss vs
    (verdicts_as (IsAccessing g ss) (Picked (λ q s. accesses_any_at g q) 0 ss) vs (accessing_same g ss) v.verdicts) in
    subst (λ (us : List Verdict). AreJudged ls (accesses_from (accesses_at g) 0 ss) us) (sym is)
    (subst (λ (xs : List Subject). AreJudged ls xs (flat_map (access_verdicts_at ls ss) vs))
    (sym (accesses_picked (accesses_at g) 0 ss ∙ ap (flat_map (of_point (accesses_at g))) all)) (points_judged ls g ss vs v.places))

told_each : (ls : List Labelled) (kind : VerdictKind) (ss : List Site) (vs : Verdicts Bool) →
    map reported_of (map (verdict_at ls ss kind) vs) ≡ map (reported_verdict kind) vs
told_each ls kind ss [] = refl
told_each ls kind ss (v ∷ vs) = ap (λ (xs : List ReportedVerdict). reported_verdict kind v ∷ xs) (told_each ls kind ss vs)

-- what is added to none is all that there is
pub added_to_none : {A B : Type 0} (f : A → B) (start : List A) (found ys : List B) → found ≡ map f start ++ ys → start ≡ [] → found ≡ ys
added_to_none {A} f start found ys is none = is ∙ ap (λ (xs : List A). map f xs ++ ys) none

told_point : (ls : List Labelled) (number : ℕ) (site : Site) (n : ℕ) (js : List (Place × Bool))
    → map reported_of (access_verdicts ls number site n js) ≡ reported_from number n js
told_point ls number site n [] = refl
told_point ls number site n (j ∷ js) = ap (λ (xs : List ReportedVerdict). (Access, number, n, j.1) ∷ xs) (told_point ls number site (suc n) js)

told_points : (ls : List Labelled) (ss : List Site) (vs : List (ℕ × List (Place × Bool)))
    → map reported_of (flat_map (access_verdicts_at ls ss) vs) ≡ flat_map reported_accesses vs
told_points ls ss [] = refl
told_points ls ss (v ∷ vs) =
    map-append reported_of (access_verdicts_at ls ss v) (flat_map (access_verdicts_at ls ss) vs) ∙
    ap (λ (xs : List ReportedVerdict). xs ++ map reported_of (flat_map (access_verdicts_at ls ss) vs)) (told_point ls (suc v.0) (site_at ss v.0) 0 v.1) ∙
    ap (λ (xs : List ReportedVerdict). reported_accesses v ++ xs) (told_points ls ss vs)

-- one more of a point's accesses: the verdicts so far and those on what is left are all
pub told_more : (ls : List Labelled) (number : ℕ) (site : Site) (whole so_far more : List Verdict) (n : ℕ) (js : List (Place × Bool)) (j : Place × Bool) (v : Verdict)
    → n < length js → j ≡ get_or js n j → so_far ++ access_verdicts ls number site n (drop n js) ≡ whole → more ≡ so_far ++ v ∷ []
    → v ≡ listed_verdict ls (record { kind = Access; number = number; site = site; which = n; place = j.0 }) j.1
    → more ++ access_verdicts ls number site (n + 1) (drop (n + 1) js) ≡ whole
told_more ls number site whole so_far more n js j v inside read held pushed is =
    let all : ℕ → List (Place × Bool) → List Verdict = access_verdicts ls number site in
    let later : List (Place × Bool) = drop (n + 1) js in
    let next : suc n ≡ n + 1 = omega arith in
    ap (λ (xs : List Verdict). xs ++ all (n + 1) later) pushed ∙ append_assoc so_far (v ∷ []) (all (n + 1) later)
    ∙ ap (λ (x : Verdict). so_far ++ x ∷ all (n + 1) later) is
    ∙ ap (λ (m : ℕ). so_far ++ listed_verdict ls (record { kind = Access; number = number; site = site; which = n; place = j.0 }) j.1 ∷ all m later) (sym next)
    ∙ ap (λ (xs : List (Place × Bool)). so_far ++ all n xs) (sym (drop_more js n j inside ∙ ap (λ (k : Place × Bool). k ∷ later) (sym read))) ∙ held

-- if none is left
pub told_all_of : (ls : List Labelled) (number : ℕ) (site : Site) (whole so_far : List Verdict) (n : ℕ) (js : List (Place × Bool)) → length js ≤ n
    → so_far ++ access_verdicts ls number site n (drop n js) ≡ whole → so_far ≡ whole
told_all_of ls number site whole so_far n js past held =
    sym (append-nil so_far) ∙ ap (λ (xs : List (Place × Bool)). so_far ++ access_verdicts ls number site n xs) (sym (drop_all n js past)) ∙ held

-- reported at a point of the code's types, numbered from 1
pub told_at : (ls : List Labelled) (sites : List code_site.Site) (number index : ℕ) (site : code_site.Site) (js : List (Place × Bool)) → number ≡ suc index
    → site ≡ get_or sites index site → index < length sites
    → access_verdicts ls number (site_view site) 0 js ≡ access_verdicts_at ls (map site_view sites) (index, js)
told_at ls sites number index site js counted read inside =
    ap (λ (n : ℕ). access_verdicts ls n (site_view site) 0 js) counted
    ∙ ap (λ (s : Site). access_verdicts ls (suc index) s 0 js) (ap site_view read ∙ sym (get_or-map site_view sites index site _ inside))

-- those of one more point
pub points_more : (ls : List Labelled) (ss : List Site) (start so_far more : List Verdict) (xs : List (ℕ × Vec (Place × Bool) Global)) (i : ℕ)
    (x : ℕ × Vec (Place × Bool) Global) → i < length xs → x ≡ get_or xs i x →
    so_far ≡ start ++ flat_map (access_verdicts_at ls ss) (map reported_view (take i xs))
    → more ≡ so_far ++ access_verdicts_at ls ss (reported_view x) → more ≡ start ++ flat_map (access_verdicts_at ls ss) (map reported_view (take (i + 1) xs))
points_more ls ss start so_far more xs i x inside read held is =
    let next = map_more reported_view xs i x inside
    ∙ ap (λ (y : ℕ × Vec (Place × Bool) Global). map reported_view (take i xs) ++ reported_view y ∷ []) (sym read) in
    is ∙ ap (λ (vs : List Verdict). vs ++ access_verdicts_at ls ss (reported_view x)) held
    ∙ flat_map_more (access_verdicts_at ls ss) start (map reported_view (take i xs)) (reported_view x)
    ∙ ap (λ (us : List (ℕ × List (Place × Bool))). start ++ flat_map (access_verdicts_at ls ss) us) (sym next)

-- all lists of them, as they are stated
pub all_told : (ls : List Labelled) (ss : List Site) (vs ws : Verdicts Bool) (us : List (ℕ × List (Place × Bool))) (found : List Verdict)
    → found ≡ map (verdict_at ls ss Assertion) vs ++ (map (verdict_at ls ss Fit) ws ++ flat_map (access_verdicts_at ls ss) us) → map reported_of found ≡ reported_all vs ws us
all_told ls ss vs ws us found is =
    let accessed = flat_map (access_verdicts_at ls ss) us in
    ap (map reported_of) is ∙ map-append reported_of (map (verdict_at ls ss Assertion) vs) (map (verdict_at ls ss Fit) ws ++ accessed)
    ∙ ap (λ (xs : List ReportedVerdict). xs ++ map reported_of (map (verdict_at ls ss Fit) ws ++ accessed)) (told_each ls Assertion ss vs)
    ∙ ap (λ (xs : List ReportedVerdict). map (reported_verdict Assertion) vs ++ xs) (map-append reported_of (map (verdict_at ls ss Fit) ws) accessed
    ∙ ap (λ (xs : List ReportedVerdict). xs ++ map reported_of accessed) (told_each ls Fit ss ws)
    ∙ ap (λ (xs : List ReportedVerdict). map (reported_verdict Fit) ws ++ xs) (told_points ls ss us))

pub are_there : {A : Type 0} (P : ℕ → Type 0) (ss : List Site) (vs : Verdicts A) (n : ℕ) → n ≡ length ss → ((q : ℕ) → P q → (s : Site) × (slice_get ss q ≡ Some s))
    → AreVerdictsOn P vs → All (λ (v : ℕ × A). v.0 < n) vs
are_there P ss vs n is there v k d h =
    let a = there _ (v.of_these _ _ (Contains-get_or vs k d h)) in
    let inside = slice_get_within ss _ a.0 a.1 in omega (arith, inside, is)
