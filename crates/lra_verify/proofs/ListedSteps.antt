-- Listed assertions, one after the other, as the code states them.
use Rattle.std.proofs.Common.{◌≡◌, ◌+◌, ◌∷◌, [], ℕ, suc, Bool, true, false, List, Ok, Err, refl, ap, sym, ◌∙◌, subst, arith, add-one}
use Rattle.std.proofs.lemmas.Bool.{and_right}
use Rattle.std.specs.{Fmt.decimal, Prelude.if◌then◌else◌, Prelude.◌&&◌, Prelude.codes}
use Rattle.lra_verify.specs.Crates.lra_certificate_spec.Judged.{Left, Judged, then_judged, after_line, is_next_line, line_on, one_more}
use Rattle.lra_verify.specs.Crates.{lra_certificate_spec.CertificateText.numbered_text, lra_certificate_spec.CertificateText.assert_text, lra_certificate_spec.Lines.HasNoFeed, lra_program.Sites.Site}
use Rattle.lra_certificate_lines.specs.{LineViews.IsFault, declared.refusals.VerifyError.VerifyError}
use Rattle.lra_verify.specs.EdgeViews.{assertion_by, listed_by}
use Rattle.lra_certificate_lines.proofs.JudgedLines.{then_ok, then_err, fault_through}
use Rattle.lra_verify.proofs.Crates.lra_certificate_spec.WriteText.{AreFrom, from_lower, from_joined, text_from, decimal_from, clean}

-- ---- the line of an assertion
assert_line : (q : ℕ) (text : List ℕ) → text ≡ numbered_text (codes "assert") (q + 1) → text ≡ assert_text q
assert_line q text e = e ∙ ap (numbered_text (codes "assert")) (add-one q)

assert_from : (q : ℕ) → AreFrom 32 (assert_text q)
assert_from q =
    from_joined 32 (codes "assert ") (decimal (suc q)) (text_from 32 (codes "assert ") refl)
    (from_lower 32 48 (decimal (suc q)) (omega arith) (decimal_from (suc q)))

pub assert_clean : (q : ℕ) (text : List ℕ) → text ≡ numbered_text (codes "assert") (q + 1) → HasNoFeed text
assert_clean q text e = subst (λ (x : List ℕ). HasNoFeed x) (sym (assert_line q text e)) (clean (assert_text q) (assert_from q))

-- ---- so many more
abbrev pub listed_after : ℕ → Judged (ℕ × Left) → Judged (ℕ × Left)
listed_after n (Ok r) = Ok (n + r.0, r.1)
listed_after n (Err r) = Err r

one_after : (n : ℕ) (j : Judged (ℕ × Left)) → listed_after n (one_more j) ≡ listed_after (n + 1) j
one_after n (Ok r) = ap (λ (k : ℕ). Ok (k, r.1)) (let e : n + suc r.0 ≡ n + 1 + r.0 = omega arith in e)
one_after n (Err r) = refl

pub none_after : (j : Judged (ℕ × Left)) → listed_after 0 j ≡ j
none_after (Ok r) = ap (λ (k : ℕ). Ok (k, r.1)) (let e : 0 + r.0 ≡ r.0 = omega arith in e)
none_after (Err r) = refl

module _ (denials : ℕ → Left → Judged Left) (q : ℕ) (site : Site) (sites : List Site) where
  abbrev then_listed : ℕ × Left → Judged (ℕ × Left)
  then_listed x = listed_after x.0 (listed_by denials (suc q) sites x.1)

  more : (n : ℕ) (j : Judged Left) → listed_after n (then_judged j (λ next. one_more (listed_by denials (suc q) sites next))) ≡
      then_judged (then_judged j (λ next. Ok (n + 1, next))) then_listed
  more n (Ok m) = one_after n (listed_by denials (suc q) sites m)
  more n (Err r) = refl

  listed_first : (n : ℕ) (l : Left) → listed_after n (listed_by denials q (site ∷ sites) l) ≡
      then_judged (assertion_by denials q site.asserts (n, l)) then_listed
  listed_first n l = by (site.asserts && is_next_line (assert_text q) (line_on l.pieces))
    where
      by : (b : Bool) → listed_after n (if b then then_judged (denials q (after_line l)) (λ next. one_more (listed_by denials (suc q) sites next))
          else listed_by denials (suc q) sites l) ≡
          then_judged (if b then then_judged (denials q (after_line l)) (λ next. Ok (n + 1, next)) else Ok (n, l)) then_listed
      by true = more n (denials q (after_line l))
      by false = refl

  module _ (n : ℕ) (all : List Site) (first : all ≡ site ∷ sites) (l : Left) (whole : Judged (ℕ × Left))
      (so_far : listed_after n (listed_by denials q all l) ≡ whole) where
    now : then_judged (assertion_by denials q site.asserts (n, l)) then_listed ≡ whole
    now = sym (listed_first n l) ∙ ap (λ (s : List Site). listed_after n (listed_by denials q s l)) (sym first) ∙ so_far

    pub listed_more : (k : ℕ) (next : Left) → assertion_by denials q site.asserts (n, l) ≡ Ok (k, next) →
        listed_after k (listed_by denials (q + 1) sites next) ≡ whole
    listed_more k next e =
        ap (λ (i : ℕ). listed_after k (listed_by denials i sites next)) (let i : q + 1 ≡ suc q = omega arith in i) ∙
        sym (then_ok (assertion_by denials q site.asserts (n, l)) then_listed (k, next) e) ∙ now

    pub listed_fault : (e : VerifyError) → IsFault (assertion_by denials q site.asserts (n, l)) e → IsFault whole e
    listed_fault e = fault_through (assertion_by denials q site.asserts (n, l)) whole e
        (λ r is. sym now ∙ then_err (assertion_by denials q site.asserts (n, l)) then_listed r is)

pub listed_done : (denials : ℕ → Left → Judged Left) (q n : ℕ) (sites : List Site) (l : Left) (whole : Judged (ℕ × Left)) → sites ≡ [] →
    listed_after n (listed_by denials q sites l) ≡ whole → whole ≡ Ok (n, l)
listed_done denials q n sites l whole none so_far =
    sym so_far ∙ ap (λ (s : List Site). listed_after n (listed_by denials q s l)) none ∙
    ap (λ (k : ℕ). Ok (k, l)) (let k : n + 0 ≡ n = omega arith in k)

-- ---- one assertion
module _ (denials : ℕ → Left → Judged Left) (q : ℕ) (n : ℕ) (l : Left) where
  abbrev by : Bool → Judged (ℕ × Left)
  by b = if b then then_judged (denials q (after_line l)) (λ next. Ok (n + 1, next)) else Ok (n, l)

  both_by : (asserts is : Bool) → asserts ≡ true → is ≡ true → asserts && is ≡ true
  both_by asserts is a e = ap (λ (x : Bool). x && is) a ∙ e

  pub assertion_never : (asserts : Bool) → asserts ≡ false → assertion_by denials q asserts (n, l) ≡ Ok (n, l)
  assertion_never asserts e = ap (λ (a : Bool). by (a && is_next_line (assert_text q) (line_on l.pieces))) e

  pub assertion_none : (asserts : Bool) (text : List ℕ) → text ≡ numbered_text (codes "assert") (q + 1) → is_next_line text (line_on l.pieces) ≡ false →
      assertion_by denials q asserts (n, l) ≡ Ok (n, l)
  assertion_none asserts text is e =
      ap by (and_right asserts (is_next_line (assert_text q) (line_on l.pieces))
      (ap (λ (x : List ℕ). is_next_line x (line_on l.pieces)) (sym (assert_line q text is)) ∙ e))

  module _ (asserts : Bool) (text : List ℕ) (is : text ≡ numbered_text (codes "assert") (q + 1)) (a : asserts ≡ true)
      (e : is_next_line text (line_on l.pieces) ≡ true) (m : Left) (behind : after_line l ≡ m) where
    taken : assertion_by denials q asserts (n, l) ≡ then_judged (denials q m) (λ next. Ok (n + 1, next))
    taken =
        ap by (both_by asserts (is_next_line (assert_text q) (line_on l.pieces)) a
        (ap (λ (x : List ℕ). is_next_line x (line_on l.pieces)) (sym (assert_line q text is)) ∙ e)) ∙
        ap (λ (x : Left). then_judged (denials q x) (λ next. Ok (n + 1, next))) behind

    pub assertion_some : (next : Left) → denials q m ≡ Ok next → assertion_by denials q asserts (n, l) ≡ Ok (n + 1, next)
    assertion_some next told = taken ∙ then_ok (denials q m) (λ x. Ok (n + 1, x)) next told

    pub assertion_fault : (error : VerifyError) → IsFault (denials q m) error → IsFault (assertion_by denials q asserts (n, l)) error
    assertion_fault error = fault_through (denials q m) (assertion_by denials q asserts (n, l)) error
        (λ r told. taken ∙ then_err (denials q m) (λ x. Ok (n + 1, x)) r told)
