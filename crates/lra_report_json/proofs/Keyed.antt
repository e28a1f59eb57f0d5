-- Verdicts are given by those that stand under each key.
use Rattle.std.proofs.Common.{◌≡◌, ◌∙◌, ◌||◌, refl, ap, sym, subst, ℕ, Bool, true, false, List, [], ◌∷◌, map, filter}
use Rattle.std.specs.{List.list_any, Prelude.cond, Str.bytes_eq}
use Rattle.lra_report_json.specs.Crates.lra_syntax.Labels.{Labelled}
use Rattle.lra_report.specs.{Listing.Subject, Listing.AreJudged, Report.Verdict, VerdictKinds.row_of, declared.verdict_kinds.VerdictKind.VerdictKind}
use Rattle.lra_report.proofs.Fronts.{first_same, rest_same, both_same}
use Rattle.lra_report_json.specs.ReportJson.{is_under, under}
use Rattle.lra_report_json.proofs.Members.{bytes_self}

-- a test of the elements that stand for others
pub list_any-map : {A B : Type 0} (test : B → Bool) (f : A → B) (xs : List A) → list_any (λ x. test (f x)) xs ≡ list_any test (map f xs)
list_any-map test f [] = refl
list_any-map test f (x ∷ xs) = ap (λ (b : Bool). test (f x) || b) (list_any-map test f xs)

-- what is judged under a key
abbrev pub on : List ℕ → List Subject → List Subject
on key xs = filter (λ (x : Subject). bytes_eq (row_of x.kind).key key) xs

pub judged_under : (ls : List Labelled) (key : List ℕ) (xs : List Subject) (vs : List Verdict) → AreJudged ls xs vs → AreJudged ls (on key xs) (under key vs)
judged_under ls key [] [] h = tt
judged_under ls key [] (v ∷ vs) h = absurd h
judged_under ls key (x ∷ xs) [] h = absurd h
judged_under ls key (x ∷ xs) (v ∷ vs) h =
    let same : v.kind ≡ x.kind = ap (λ (y : Verdict). y.kind) h.0 in
    subst (λ (k : VerdictKind). AreJudged ls (on key (x ∷ xs)) (cond (bytes_eq (row_of k).key key) (v ∷ under key vs) (under key vs))) (sym same)
    (go (bytes_eq (row_of x.kind).key key) (judged_under ls key xs vs h.1))
  where
    go : (b : Bool) → AreJudged ls (on key xs) (under key vs) → AreJudged ls (cond b (x ∷ on key xs) (on key xs)) (cond b (v ∷ under key vs) (under key vs))
    go true later = (h.0, later)
    go false later = later

judged_any : (ls : List Labelled) (key : List ℕ) (xs : List Subject) (vs : List Verdict) → AreJudged ls xs vs
    → list_any (is_under key) vs ≡ list_any (λ (x : Subject). bytes_eq (row_of x.kind).key key) xs
judged_any ls key [] [] h = refl
judged_any ls key [] (v ∷ vs) h = absurd h
judged_any ls key (x ∷ xs) [] h = absurd h
judged_any ls key (x ∷ xs) (v ∷ vs) h =
    ap (λ (k : VerdictKind). bytes_eq (row_of k).key key || list_any (is_under key) vs) (ap (λ (y : Verdict). y.kind) h.0)
    ∙ ap (λ (b : Bool). bytes_eq (row_of x.kind).key key || b) (judged_any ls key xs vs h.1)

-- a verdict stands under a key in both or in none
pub listed_alike : (ls : List Labelled) (key : List ℕ) (xs : List Subject) (vs ws : List Verdict) → AreJudged ls xs vs → AreJudged ls xs ws
    → list_any (is_under key) vs ≡ list_any (is_under key) ws
listed_alike ls key xs vs ws a b = judged_any ls key xs vs a ∙ sym (judged_any ls key xs ws b)

pub none_under : (key : List ℕ) (vs : List Verdict) → list_any (is_under key) vs ≡ false → under key vs ≡ []
none_under key [] h = refl
none_under key (v ∷ vs) h = go (is_under key v) h (λ e. none_under key vs e)
  where
    go : (b : Bool) → (b || list_any (is_under key) vs) ≡ false
        → (list_any (is_under key) vs ≡ false → under key vs ≡ []) → cond b (v ∷ under key vs) (under key vs) ≡ []
    go true e later = cc
    go false e later = later e

taken : (v : Verdict) (vs : List Verdict) (kind : VerdictKind) → v.kind ≡ kind → under (row_of kind).key (v ∷ vs) ≡ v ∷ under (row_of kind).key vs
taken v vs kind is =
    let yes : is_under (row_of kind).key v ≡ true = ap (λ (k : VerdictKind). bytes_eq (row_of k).key (row_of kind).key) is ∙ bytes_self (row_of kind).key in
    ap (λ (b : Bool). cond b (v ∷ under (row_of kind).key vs) (under (row_of kind).key vs)) yes

shorter : (b : Bool) (v w : Verdict) (vs ws : List Verdict) → cond b (v ∷ vs) vs ≡ cond b (w ∷ ws) ws → vs ≡ ws
shorter true v w vs ws e = rest_same e
shorter false v w vs ws e = e

-- on the same subjects
pub told_by_keys : (ls : List Labelled) (xs : List Subject) (vs ws : List Verdict) → AreJudged ls xs vs → AreJudged ls xs ws
    → ((kind : VerdictKind) → under (row_of kind).key vs ≡ under (row_of kind).key ws) → vs ≡ ws
told_by_keys ls [] [] [] a b same = refl
told_by_keys ls [] [] (w ∷ ws) a b same = absurd b
told_by_keys ls [] (v ∷ vs) ws a b same = absurd a
told_by_keys ls (x ∷ xs) [] ws a b same = absurd a
told_by_keys ls (x ∷ xs) (v ∷ vs) [] a b same = absurd b
told_by_keys ls (x ∷ xs) (v ∷ vs) (w ∷ ws) a b same =
    let kv : v.kind ≡ x.kind = ap (λ (y : Verdict). y.kind) a.0 in
    let kw : w.kind ≡ x.kind = ap (λ (y : Verdict). y.kind) b.0 in
    let first = first_same (sym (taken v vs x.kind kv) ∙ same x.kind ∙ taken w ws x.kind kw) in
    both_same first (told_by_keys ls xs vs ws a.1 b.1 (λ kind.
    let key = (row_of kind).key in
    let alike : is_under key w ≡ is_under key v = ap (λ (k : VerdictKind). bytes_eq (row_of k).key key) (kw ∙ sym kv) in
    shorter (is_under key v) v w (under key vs) (under key ws) (same kind ∙ ap (λ (c : Bool). cond c (w ∷ under key ws) (under key ws)) alike)))
