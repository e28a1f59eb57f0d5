-- The text of a certificate that meets its program is read, and accepted with its numbers.
use Rattle.std.proofs.Common.{◌≡◌, ◌⊎◌, ◌<◌, ◌≤◌, ◌+◌, ◌^◌, ℕ, zero, suc, ℤ, pos, Bool, true, false, List, [], ◌∷◌, ◌++◌, length, take, drop, get_or, refl, ap, sym, ◌∙◌, subst, arith, inl, inr}
use Rattle.std.proofs.{Common.append_assoc, Common.append-nil, Common.Option, Common.Some, Common.None, Common.Ok, Common.nat_eq, Common.length-append, lemmas.Bool.and_right}
use Rattle.std.proofs.{Math.Seq.take-append_seam, Math.Seq.drop-append-add, lemmas.Bool.cases_lt, lemmas.Fmt.decimal_is_IsNumeral_wide, lemmas.Grind.common_steps, lemmas.List.Sums.position_or_len_is}
use Rattle.std.proofs.{lemmas.Option.same_Some, lemmas.Option.none-some, lemmas.Slice.Eq.bytes_eq-Decides}
use Rattle.std.specs.List.{AllByRecursion, flat_map, position_or_len, before_first, after_first}
use Rattle.std.specs.{Fmt.decimal, Prelude.if◌then◌else◌, Prelude.codes, Prelude.slice_get, Prelude.◌&&◌, Str.Parse.digits_value}
use Rattle.lra_certificate_spec.specs.Crates.{lra_linear_spec.Range.InRange, lra_operations.Tree.Node, lra_program.Program.Program, lra_program.Sites.Site, lra_program.Sites.sites_of}
use Rattle.lra_paths.specs.Paths.{Path, paths_of, violations_of}
use Rattle.lra_row_text.specs.Texts.{text_line}
use Rattle.lra_certificate_spec.specs.CertificateText.{numbers_text, numbered_text, edge_text, edges_text, evidence_text, assert_text, listed_text, end_text, head_text, states_text}
use Rattle.lra_certificate_spec.specs.Certificates.{Evidence, ListedAssertion, Certificate, state_from, state_to, live_at_source, CertifiesAssertion, Ascend, IsWritable, Certifies}
use Rattle.lra_certificate_spec.specs.Judged.{Left, Judged, then_judged, line_on, after_line, is_next_line, RowsAtPoint, judged_paths, judged_violations, one_more, judged_listed, counted, lines_left}
use Rattle.lra_certificate_spec.specs.Judged.{judged, Head, has_feed, headed, head_of, is_dead_line, numbers_after}
use Rattle.lra_certificate_spec.specs.{CertificateText.body_text, Lines.is_row_line}
use Rattle.lra_certificate_spec.proofs.WritePaths.{IsAlive, edge_from, paths_read, denials_read, end_read}
use Rattle.lra_certificate_spec.proofs.WriteText.{AreFrom, text_from, from_lower, from_joined, decimal_from, clean, numbers_read, pieces_of, line_pieces, line_first, is_itself}
use Rattle.lra_certificate_spec.proofs.{ReadPaths.AreRows, SourceRows.sources_fit, SourceRows.denials_denied, WritePoints.IsOther, WritePoints.states_read}

-- ---- assertions
pub assert_from : (q : ℕ) → AreFrom 32 (assert_text q)
assert_from q = from_joined 32 (codes "assert ") (decimal (suc q)) (text_from 32 (codes "assert ") refl) (from_lower 32 48 (decimal (suc q)) (omega arith)
    (decimal_from (suc q)))

pub assert_same : (p q : ℕ) → p < 10 ^ 63 → q < 10 ^ 63 → assert_text p ≡ assert_text q → p ≡ q
assert_same p q hp hq e =
    let d : decimal (suc p) ≡ decimal (suc q) = ap (λ (x : List ℕ). drop 7 x) e in
    let n : suc p ≡ suc q = sym (decimal_is_IsNumeral_wide (suc p) (omega (arith, hp))).1 ∙ ap (λ (x : List ℕ). digits_value 10 x) d ∙
    (decimal_is_IsNumeral_wide (suc q) (omega (arith, hq))).1 in
    omega (arith, n)

-- the next line isn't that of this assertion
other_assert : (p q : ℕ) → p < 10 ^ 63 → q < 10 ^ 63 → p < q → is_next_line (assert_text p) (Some (assert_text q)) ≡ false
other_assert p q hp hq l = go (is_next_line (assert_text p) (Some (assert_text q))) refl
  where
    go : (b : Bool) → is_next_line (assert_text p) (Some (assert_text q)) ≡ b → is_next_line (assert_text p) (Some (assert_text q)) ≡ false
    go true e = absurd (let n = assert_same q p hq hp ((bytes_eq-Decides (assert_text q) (assert_text p)).0 e) in omega (arith, n, l))
    go false e = e

not_end : (q : ℕ) → is_next_line (assert_text q) (Some (codes "end")) ≡ false
not_end q = refl

end_first : line_on (pieces_of end_text) ≡ Some (codes "end")
end_first = ap (λ (x : List ℕ). line_on (pieces_of x)) (sym (append-nil end_text)) ∙ line_first (codes "end") [] (text_from 32 (codes "end") refl)

abbrev pub listing : List ListedAssertion → List ℕ
listing ones = flat_map listed_text ones ++ end_text

pub listed_shape : (one : ListedAssertion) (ones : List ListedAssertion) → listing (one ∷ ones) ≡ text_line (assert_text one.number) ++
    (flat_map evidence_text one.evidence ++ listing
    ones)
listed_shape one ones =
    append_assoc (listed_text one) (flat_map listed_text ones) end_text ∙
    append_assoc (text_line (assert_text one.number)) (flat_map evidence_text one.evidence) (flat_map listed_text ones ++ end_text)

listing_first : (one : ListedAssertion) (ones : List ListedAssertion) → line_on (pieces_of (listing (one ∷ ones))) ≡ Some (assert_text one.number)
listing_first one ones =
    ap (λ (x : List ℕ). line_on (pieces_of x)) (listed_shape one ones) ∙ line_first (assert_text one.number) (flat_map evidence_text one.evidence ++
    listing ones)
    (assert_from one.number)

pub listing_alive : (ones : List ListedAssertion) → IsAlive (listing ones)
listing_alive [] = ap is_dead_line end_first
listing_alive (one ∷ ones) = ap is_dead_line (listing_first one ones)

pub listing_other : (ones : List ListedAssertion) → IsOther (listing ones)
listing_other [] = ap is_row_line end_first
listing_other (one ∷ ones) = ap is_row_line (listing_first one ones)

module _ (P : Program) (g : Node) (states : List RowsAtPoint) (fit : (p : ℕ) → AreRows (live_at_source P p) (state_from states p))
    (denials : (q : ℕ) → AllByRecursion (λ path. state_to states path.goal ≡ None) (violations_of P g q)) (small : length (sites_of P) < 10 ^ 63) where
  abbrev Found : ℕ → List Site → Type 0
  Found q sites = (i : ℕ) (s : Site) → slice_get (sites_of P) (q + i) ≡ Some s → slice_get sites i ≡ Some s

  within : (xs : List Site) (i : ℕ) (s : Site) → slice_get xs i ≡ Some s → i < length xs
  within [] i s e = absurd (none-some s e)
  within (x ∷ xs) zero s e = omega arith
  within (x ∷ xs) (suc i) s e = omega (arith, within xs i s e)

  -- those of this number and on
  record Listing (q : ℕ) (ones : List ListedAssertion) : Type 0 where
    listed : AllByRecursion (CertifiesAssertion P g states) ones
    from : AllByRecursion (λ one. q ≤ one.number) ones
    ascend : Ascend ones
    numbers : AllByRecursion (λ one. AllByRecursion IsWritable one.evidence) ones

  further : (q : ℕ) (one : ListedAssertion) (ones : List ListedAssertion) → q ≤ one.number → Ascend (one ∷ ones) →
      AllByRecursion (λ two. suc q ≤ two.number) ones
  further q one [] h a = tt
  further q one (two ∷ more) h a = (omega (arith, h, a.0), further q two more (omega (arith, h, a.0)) a.1)

  ascend_rest : (one : ListedAssertion) (ones : List ListedAssertion) → Ascend (one ∷ ones) → Ascend ones
  ascend_rest one [] a = tt
  ascend_rest one (two ∷ more) a = a.1

  abbrev ListedRead : ℕ → List Site → List ListedAssertion → Left → Type 0
  ListedRead q sites ones l = (m : Left) × (judged_listed P g states q sites l ≡ Ok (length ones, m)) × (m.pieces ≡ pieces_of end_text)

  abbrev step : ℕ → Site → List Site → Left → Bool → Judged (ℕ × Left)
  step q site sites l b = if b then then_judged (judged_violations P g states (violations_of P g q) (after_line l))
      (λ next. one_more (judged_listed P g states (suc q) sites next)) else judged_listed P g states (suc q) sites l

  skipped : (q : ℕ) (site : Site) (sites : List Site) (ones : List ListedAssertion) (l : Left) → is_next_line (assert_text q) (line_on l.pieces) ≡ false →
      ListedRead (suc q) sites ones l → ListedRead q (site ∷ sites) ones l
  skipped q site sites ones l e r = (r.0, ap (step q site sites l) (and_right site.asserts (is_next_line (assert_text q) (line_on l.pieces)) e) ∙ r.1, r.2)

  module _ (one : ListedAssertion) (site : Site) (sites : List Site) (ones : List ListedAssertion) (l : Left) (meets : CertifiesAssertion P g states one)
      (here : Some site ≡ Some meets.site) (numbers : AllByRecursion IsWritable one.evidence) (shape : l.pieces ≡ pieces_of (listing (one ∷ ones)))
      (again : (m : Left) → m.pieces ≡ pieces_of (listing ones) → ListedRead (suc one.number) sites ones m) where
    q : ℕ
    q = one.number

    asserts : site.asserts ≡ true
    asserts = ap (λ (s : Site). s.asserts) (same_Some site meets.site here) ∙ meets.asserts

    behind_it : (after_line l).pieces ≡ pieces_of (flat_map evidence_text one.evidence ++ listing ones)
    behind_it = ap (λ (p : List (List ℕ)). drop 1 p) (shape ∙ ap pieces_of (listed_shape one ones) ∙
        line_pieces (assert_text one.number) (flat_map evidence_text one.evidence ++ listing ones) (assert_from one.number))

    on : site.asserts && is_next_line (assert_text one.number) (line_on l.pieces) ≡ true
    on =
        ap (λ (b : Bool). b && is_next_line (assert_text one.number) (line_on l.pieces)) asserts ∙
        ap (λ (p : List (List ℕ)). is_next_line (assert_text one.number) (line_on p)) shape
        ∙ ap (is_next_line (assert_text one.number)) (listing_first one ones) ∙
        is_itself (assert_text one.number)

    taken : ListedRead one.number (site ∷ sites) (one ∷ ones) l
    taken =
        let d = denials_read P g states fit (violations_of P g one.number) one.evidence (denials one.number) meets.paths meets.no_claims numbers (listing ones)
        (after_line l) behind_it in
        let more = again d.0 d.2 in (
          more.0,
          ap (step one.number site sites l) on ∙
              ap (λ (j : Judged Left). then_judged j (λ next. one_more (judged_listed P g states (suc one.number) sites next))) d.1 ∙ ap one_more more.1,
          more.2,
        )

  listed_read : (q : ℕ) (sites : List Site) (ones : List ListedAssertion) (l : Left) → q + length sites ≡ length (sites_of P) → Found q sites → Listing q ones →
      l.pieces ≡ pieces_of (listing ones) → ListedRead q sites ones l
  listed_read q [] [] l n f h shape = (l, refl, shape)
  listed_read q [] (one ∷ ones) l n f h shape =
      absurd (let w = within (sites_of P) one.number h.listed.0.site h.listed.0.there in let k = h.from.0 in omega (arith, w, k, n))
  listed_read q (site ∷ sites) [] l n f h shape =
      skipped q site sites [] l
      (ap (λ (p : List (List ℕ)). is_next_line (assert_text q) (line_on p)) shape ∙ ap (is_next_line (assert_text q)) end_first ∙ not_end q)
      (listed_read (suc q) sites [] l (omega (arith, n)) (λ i s e. f (suc i) s (subst (λ (k : ℕ). slice_get (sites_of P) k ≡
      Some s) (omega arith) e)) h_nil shape)
    where
      h_nil : Listing (suc q) []
      h_nil = record { listed = tt; from = tt; ascend = tt; numbers = tt }
  listed_read q (site ∷ sites) (one ∷ ones) l n f h shape =
      by (λ ones l h e. listed_read (suc q) sites ones l (omega (arith, n)) next h e) (cases_lt q one.number)
    where
      next : Found (suc q) sites
      next i s e = f (suc i) s (subst (λ (k : ℕ). slice_get (sites_of P) k ≡ Some s) (let k : suc q + i ≡ q + suc i = omega arith in k) e)

      there_small : one.number < 10 ^ 63
      there_small = let w = within (sites_of P) one.number h.listed.0.site h.listed.0.there in omega (arith, w, small)

      by : ((ones : List ListedAssertion) (l : Left) → Listing (suc q) ones → l.pieces ≡ pieces_of (listing ones) → ListedRead (suc q) sites ones l) →
          (q < one.number) ⊎ (one.number ≤ q) → ListedRead q (site ∷ sites) (one ∷ ones) l
      by again (inl k) =
          skipped q site sites (one ∷ ones) l
          (ap (λ (p : List (List ℕ)). is_next_line (assert_text q) (line_on p)) shape ∙ ap (is_next_line (assert_text q)) (listing_first one ones) ∙
          other_assert q one.number (omega (arith, k, there_small)) there_small k)
          (again (one ∷ ones) l
          (record { listed = h.listed; from = (omega (arith, k), further q one ones h.from.0 h.ascend); ascend = h.ascend; numbers = h.numbers }) shape)
      by again (inr k) =
          let same : one.number ≡ q = (let low = h.from.0 in omega (arith, k, low)) in
          let here = sym (f 0 h.listed.0.site (subst (λ (j : ℕ). slice_get (sites_of P) j ≡ Some h.listed.0.site) (let e : one.number ≡
          q + 0 = omega (arith, same) in e) h.listed.0.there)) in
          subst (λ (j : ℕ). ListedRead j (site ∷ sites) (one ∷ ones) l) same
          (taken one site sites ones l h.listed.0 (sym here) h.numbers.0 shape (λ m e. subst (λ (j : ℕ). ListedRead (suc j) sites ones m) (sym same)
          (again ones m (record {
            listed = h.listed.1;
            from = further q one ones h.from.0 h.ascend;
            ascend = ascend_rest one ones h.ascend;
            numbers = h.numbers.1;
          }) e)))

-- ---- the whole after the head
pub edges_other : (paths : List Path) (ls : List Evidence) (rest : List ℕ) → IsOther rest → IsOther (edges_text paths ls ++ rest)
edges_other [] ls rest k = k
edges_other (path ∷ paths) [] rest k = k
edges_other (path ∷ paths) (l ∷ ls) rest k =
    ap (λ (x : List ℕ). is_row_line (line_on (pieces_of x)))
    (append_assoc (text_line (edge_text path) ++ evidence_text l) (edges_text paths ls) rest ∙
    append_assoc (text_line (edge_text path)) (evidence_text l) (edges_text paths ls ++ rest)) ∙
    ap is_row_line (line_first (edge_text path) (evidence_text l ++ (edges_text paths ls ++ rest)) (edge_from path))

pub body_shape : (paths : List Path) (c : Certificate) → body_text paths c ≡ states_text 1 c.states ++ (edges_text paths c.paths ++ listing c.asserted)
body_shape paths c =
    append_assoc (states_text 1 c.states ++ edges_text paths c.paths) (flat_map listed_text c.asserted) end_text ∙
    append_assoc (states_text 1 c.states) (edges_text paths c.paths) (flat_map listed_text c.asserted ++ end_text)

pub judged_written : (P : Program) (g : Node) (c : Certificate) → Certifies P g c → length (sites_of P) < 10 ^ 63 →
    judged P g (body_text (paths_of P g) c) ≡ Ok (length (sites_of P), length c.asserted)
judged_written P g c h small =
    let E = edges_text (paths_of P g) c.paths in
    let fit = sources_fit P c.states h.states in
    let s = states_read 1 (sites_of P) c.states (E ++ listing c.asserted) (lines_left (body_text (paths_of P g) c)) h.states
    (edges_other (paths_of P g) c.paths (listing c.asserted) (listing_other c.asserted)) (ap pieces_of (body_shape (paths_of P g) c)) in
    let p = paths_read P g c.states fit (paths_of P g) c.paths h.paths h.numbers (listing c.asserted) (listing_alive c.asserted) s.0 s.2 in
    let w = listed_read P g c.states fit (denials_denied P g c.states) small 0 (sites_of P) c.asserted p.0 (omega arith)
    (λ i s e. subst (λ (k : ℕ). slice_get (sites_of P) k ≡ Some s) (omega arith) e)
    (record { listed = h.listed; from = from_zero c.asserted; ascend = h.ascend; numbers = h.listed_numbers }) p.2 in
    let z = end_read w.0 w.2 in
    ap (λ (j : Judged (List RowsAtPoint × Left)). then_judged j (λ r. then_judged (judged_paths P g r.0 (paths_of P g) r.1) (λ l.
    then_judged (judged_listed P g r.0 0 (sites_of P) l) (λ x. counted (length (sites_of P)) x)))) s.1 ∙
    ap (λ (j : Judged Left). then_judged j (λ l. then_judged (judged_listed P g c.states 0 (sites_of P) l) (λ x. counted (length (sites_of P)) x))) p.1 ∙
    ap (λ (j : Judged (ℕ × Left)). then_judged j (λ x. counted (length (sites_of P)) x)) w.1 ∙
    ap (λ (j : Judged Left). then_judged j (λ m. let y : Judged (ℕ × ℕ) = Ok (length (sites_of P), length c.asserted) in y)) z.1
  where
    from_zero : (ones : List ListedAssertion) → AllByRecursion (λ one. 0 ≤ one.number) ones
    from_zero [] = tt
    from_zero (one ∷ ones) = (omega arith, from_zero ones)

-- ---- the head
abbrev is_feed : ℕ → Bool
is_feed b = nat_eq b 10

module _ (line rest : List ℕ) (from : AreFrom 32 line) where
  feed_place : position_or_len is_feed (line ++ 10 ∷ rest) ≡ length line
  feed_place = position_or_len_is is_feed (line ++ 10 ∷ rest) (length line) 0 (omega (arith, length-append line (10 ∷ rest))) before after
    where
      before : (k : ℕ) → k < length line → is_feed (get_or (line ++ 10 ∷ rest) k 0) ≡ false
      before k l = let x = clean line from k 0 l in grind (arith, common_steps)

      after : length line < length (line ++ 10 ∷ rest) → is_feed (get_or (line ++ 10 ∷ rest) (length line) 0) ≡ true
      after l = grind (arith, common_steps)

  line_before : before_first is_feed (line ++ 10 ∷ rest) ≡ line
  line_before = ap (λ (n : ℕ). take n (line ++ 10 ∷ rest)) feed_place ∙ take-append_seam line (10 ∷ rest)

  rest_after : after_first is_feed (line ++ 10 ∷ rest) ≡ rest
  rest_after = ap (λ (n : ℕ). drop (n + 1) (line ++ 10 ∷ rest)) feed_place ∙ drop-append-add line (10 ∷ rest) 1

get_behind : (xs : List ℕ) (x : ℕ) (ys : List ℕ) → slice_get (xs ++ x ∷ ys) (length xs) ≡ Some x
get_behind [] x ys = refl
get_behind (y ∷ xs) x ys = get_behind xs x ys

drop_behind : (xs : List ℕ) (x : ℕ) (ys : List ℕ) → drop (suc (length xs)) (xs ++ x ∷ ys) ≡ ys
drop_behind [] x ys = refl
drop_behind (y ∷ xs) x ys = drop_behind xs x ys

module _ (source rest : List ℕ) where
  abbrev line : List ℕ
  line = numbered_text (codes "certificate bytes") (length source)

  abbrev behind : List ℕ
  behind = source ++ 10 ∷ rest

  head_from : AreFrom 32 line
  head_from = from_joined 32 (codes "certificate bytes ") (decimal (length source)) (text_from 32 (codes "certificate bytes ") refl)
      (from_lower 32 48 (decimal (length source)) (omega arith) (decimal_from (length source)))

  head_shape : head_text source ++ rest ≡ line ++ 10 ∷ behind
  head_shape =
      append_assoc (text_line line) (text_line source) rest ∙ ap (λ (x : List ℕ). text_line line ++ x) (append_assoc source (10 ∷ []) rest) ∙
      append_assoc line (10 ∷ []) behind

  head_spelled : line ≡ codes "certificate bytes" ++ numbers_text (pos (length source) ∷ [])
  head_spelled =
      append_assoc (codes "certificate bytes") (codes " ") (decimal (length source)) ∙
      ap (λ (x : List ℕ). codes "certificate bytes" ++ x) (sym (append-nil (codes " " ++ decimal (length source))))

  abbrev cut : Head
  cut = record { source = take (length source) behind; rest = drop (suc (length source)) behind }

  pub head_read : InRange (pos (length source)) → head_of (head_text source ++ rest) ≡ Some (record { source = source; rest = rest })
  head_read r =
      ap head_of head_shape ∙
      ap (λ (x : List ℕ). headed (numbers_after (codes "certificate bytes") 1 x) (after_first is_feed (line ++ 10 ∷ behind))) (line_before line behind
      head_from) ∙
      ap (λ (x : List ℕ). headed (numbers_after (codes "certificate bytes") 1 line) x) (rest_after line behind head_from) ∙
      ap (λ (x : List ℕ). headed (numbers_after (codes "certificate bytes") 1 x) behind) head_spelled ∙
      ap (λ (o : Option (List ℤ)). headed o behind) (numbers_read (codes "certificate bytes") 1 (pos (length source) ∷ []) refl (r, tt)) ∙
      ap (λ (o : Option ℕ). if has_feed o then Some cut else None) (get_behind source 10 rest) ∙
      (λ i. Some (record { source = take-append_seam source (10 ∷ rest) i; rest = drop_behind source 10 rest i }))
