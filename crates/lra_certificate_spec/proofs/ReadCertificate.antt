-- Lines that are accepted are those of a certificate that meets its program.
use Rattle.std.proofs.Common.{◌≡◌, ◌⊎◌, ◌<◌, ◌≤◌, ◌+◌, ℕ, zero, suc, ℤ, pos, negsuc, Bool, true, false, List, [], ◌∷◌, ◌++◌, length, take, drop, get_or, refl, ap, sym, ◌∙◌, subst, arith, inl, inr}
use Rattle.std.proofs.{Common.append_assoc, Common.append-nil, Common.Option, Common.Some, Common.None, Common.Ok, Common.nat_eq, lemmas.Bool.eqb-true, lemmas.Bool.cases_lt, lemmas.List.drop_all}
use Rattle.std.proofs.{lemmas.List.Splits.join_with_byte-slice_split, lemmas.List.Sums.split_at_first, lemmas.List.Sums.passes_at_first, lemmas.Option.same_Some, lemmas.Option.none-some}
use Rattle.std.specs.{Fmt.decimal, List.flat_map, List.before_first, List.after_first, List.position_or_len, Prelude.if◌then◌else◌, Prelude.codes, Prelude.slice_get}
use Rattle.lra_certificate_spec.specs.Crates.{lra_operations.Tree.Node, lra_program.Program.Program, lra_program.Sites.sites_of}
use Rattle.lra_paths.specs.Paths.{paths_of}
use Rattle.lra_row_text.specs.Texts.{text_line}
use Rattle.lra_certificate_spec.specs.CertificateText.{numbered_text, head_text, body_text, states_text, edges_text, listed_text, end_text}
use Rattle.lra_certificate_spec.specs.Certificates.{Evidence, ListedAssertion, Certificate, Certifies}
use Rattle.lra_certificate_spec.specs.Judged.{Left, Judged, then_judged, RowsAtPoint, judged_states, judged_paths, judged_listed, judged_end, counted, lines_left, judged, Head, has_feed, headed}
use Rattle.lra_certificate_spec.specs.{Claims.IsProgram, Claims.program_of, Claims.IsCertificate, Claims.IsVerified, Claims.JudgedSo, Judged.head_of, Judged.numbers_after}
use Rattle.lra_certificate_spec.proofs.ReadText.{ok_same, then_is, numbers_text_is, judged_states_text}
use Rattle.lra_certificate_spec.proofs.{ReadPaths.paths_said, ReadPaths.listed_said, ReadPaths.end_said, SourceRows.sources_fit, SourceRows.denials_denied}

-- ---- after the head
abbrev pub as_certificate : List ℕ → List RowsAtPoint → List Evidence → List ListedAssertion → Certificate
as_certificate source states paths asserted = record { source = source; states = states; paths = paths; asserted = asserted }

pub record IsRead (P : Program) (g : Node) (source rest : List ℕ) (points proved : ℕ) : Type 0 where
  pub states : List RowsAtPoint
  pub paths : List Evidence
  pub asserted : List ListedAssertion
  pub text : rest ≡ body_text (paths_of P g) (as_certificate source states paths asserted)
  pub meets : Certifies P g (as_certificate source states paths asserted)
  pub points_are : points ≡ length (sites_of P)
  pub proved_are : proved ≡ length asserted

pub judged_read : (P : Program) (g : Node) (source rest : List ℕ) (points proved : ℕ) → judged P g rest ≡ Ok (points, proved) →
    IsRead P g source rest points proved
judged_read P g source rest points proved e =
    let t = then_is (judged_states 1 (sites_of P) (lines_left rest)) (λ (r : List RowsAtPoint × Left).
    then_judged (judged_paths P g r.0 (paths_of P g) r.1) (λ (l : Left).
    then_judged (judged_listed P g r.0 0 (sites_of P) l) (λ (x : ℕ × Left). counted (length (sites_of P)) x))) (points, proved) e in
    let s = judged_states_text 1 (sites_of P) (lines_left rest) t.0 t.1 in
    let fit = sources_fit P t.0.0 s.1 in
    let u = then_is (judged_paths P g t.0.0 (paths_of P g) t.0.1) (λ (l : Left).
    then_judged (judged_listed P g t.0.0 0 (sites_of P) l) (λ (x : ℕ × Left). counted (length (sites_of P)) x)) (points, proved) t.2 in
    let p = paths_said P g t.0.0 fit (paths_of P g) t.0.1 u.0 u.1 in
    let w = then_is (judged_listed P g t.0.0 0 (sites_of P) u.0) (λ (x : ℕ × Left). counted (length (sites_of P)) x) (points, proved) u.2 in
    let a = listed_said P g t.0.0 fit (denials_denied P g t.0.0) 0 (sites_of P) u.0 w.0 (λ i s h. subst (λ (k : ℕ). slice_get (sites_of P) k ≡
    Some s) (zero_on i) h) w.1 in
    let z = then_is (judged_end w.0.1) (λ (m : Left). let y : Judged (ℕ × ℕ) = Ok (length (sites_of P), w.0.0) in y) (points, proved) w.2 in
    let is = ok_same (let y : ℕ × ℕ = (length (sites_of P), w.0.0) in y) (points, proved) z.2 in
    record {
      states = t.0.0;
      paths = p.0;
      asserted = a.0;
      text = sym (join_with_byte-slice_split 10 rest) ∙ s.0 ∙ ap (λ (x : List ℕ). states_text 1 t.0.0 ++ x) (p.3 ∙
          ap (λ (x : List ℕ). edges_text (paths_of P g) p.0 ++ x)
          (a.3 ∙ ap (λ (x : List ℕ). flat_map listed_text a.0 ++ x) (end_said w.0.1 z.0 z.1))) ∙
          sym (append_assoc (states_text 1 t.0.0) (edges_text (paths_of P g) p.0) (flat_map listed_text a.0 ++ end_text)) ∙
          sym (append_assoc (states_text 1 t.0.0 ++ edges_text (paths_of P g) p.0) (flat_map listed_text a.0) end_text);
      meets = record { states = s.1; paths = p.1; listed = a.1.0; ascend = a.1.2; numbers = p.2; listed_numbers = a.1.3 };
      points_are = sym (ap (λ (y : ℕ × ℕ). y.0) is);
      proved_are = sym (ap (λ (y : ℕ × ℕ). y.1) is) ∙ sym a.2;
    }
  where
    zero_on : (i : ℕ) → i ≡ 0 + i
    zero_on i = omega arith

-- ---- the head
abbrev is_feed : ℕ → Bool
is_feed b = nat_eq b 10

cut_at : (xs : List ℕ) (n b : ℕ) → slice_get xs n ≡ Some b → (n < length xs) × (length (take n xs) ≡ n) × (xs ≡ take n xs ++ b ∷ drop (suc n) xs)
cut_at [] n b e = absurd (none-some b e)
cut_at (x ∷ xs) zero b e = (omega arith, refl, ap (λ (c : ℕ). c ∷ xs) (same_Some x b e))
cut_at (x ∷ xs) (suc n) b e = let k = cut_at xs n b e in (omega (arith, k.0), ap suc k.1, ap (λ (ys : List ℕ). x ∷ ys) k.2)

feed_is : (o : Option ℕ) → has_feed o ≡ true → o ≡ Some 10
feed_is None h = cc
feed_is (Some b) h = ap Some (eqb-true b 10 h)

abbrev IsHead : List ℕ → List ℕ → Head → Type 0
IsHead line rest h = (n : ℕ) × (numbers_after (codes "certificate bytes") 1 line ≡ Some (pos n ∷ [])) × (slice_get rest n ≡ Some 10) ×
    ((let x : Head = record { source = take n rest; rest = drop (suc n) rest } in x) ≡ h)

headed_if : (n : ℕ) (rest : List ℕ) (h : Head) (b : Bool) → has_feed (slice_get rest n) ≡ b →
    (if b then Some (record { source = take n rest; rest = drop (suc n) rest }) else None) ≡ Some h →
    (slice_get rest n ≡ Some 10) × ((let x : Head = record { source = take n rest; rest = drop (suc n) rest } in x) ≡ h)
headed_if n rest h true e f = (feed_is (slice_get rest n) e, same_Some (let x : Head = record { source = take n rest; rest = drop (suc n) rest } in x) h f)
headed_if n rest h false e f = absurd (none-some h f)

headed_is : (line rest : List ℕ) (h : Head) (o : Option (List ℤ)) → numbers_after (codes "certificate bytes") 1 line ≡ o → headed o rest ≡ Some h →
    IsHead line rest h
headed_is line rest h None e f = absurd (none-some h f)
headed_is line rest h (Some []) e f = absurd (none-some h f)
headed_is line rest h (Some (negsuc n ∷ [])) e f = absurd (none-some h f)
headed_is line rest h (Some (negsuc n ∷ y ∷ zs)) e f = absurd (none-some h f)
headed_is line rest h (Some (pos n ∷ y ∷ zs)) e f = absurd (none-some h f)
headed_is line rest h (Some (pos n ∷ [])) e f = let k = headed_if n rest h (has_feed (slice_get rest n)) refl f in (n, e, k.0, k.1)

first_there : (bytes : List ℕ) (n : ℕ) → slice_get (after_first is_feed bytes) n ≡ Some 10 → position_or_len is_feed bytes < length bytes
first_there bytes n e = by (cases_lt (position_or_len is_feed bytes) (length bytes))
  where
    by : (position_or_len is_feed bytes < length bytes) ⊎ (length bytes ≤ position_or_len is_feed bytes) → position_or_len is_feed bytes < length bytes
    by (inl h) = h
    by (inr h) = absurd (none-some 10 (ap (λ (xs : List ℕ). slice_get xs n) (sym (drop_all (position_or_len is_feed bytes + 1) bytes (omega (arith, h)))) ∙
        e))

module _ (bytes : List ℕ) (h : Head) (k : IsHead (before_first is_feed bytes) (after_first is_feed bytes) h) where
  abbrev after : List ℕ
  after = after_first is_feed bytes

  there : position_or_len is_feed bytes < length bytes
  there = first_there bytes k.0 k.2

  feed : get_or bytes (position_or_len is_feed bytes) 0 ≡ 10
  feed = eqb-true (get_or bytes (position_or_len is_feed bytes) 0) 10 (passes_at_first is_feed bytes 0 there)

  cut : (k.0 < length after) × (length (take k.0 after) ≡ k.0) × (after ≡ take k.0 after ++ 10 ∷ drop (suc k.0) after)
  cut = cut_at after k.0 10 k.2

  first : before_first is_feed bytes ≡ numbered_text (codes "certificate bytes") (length (take k.0 after))
  first =
      (numbers_text_is (codes "certificate bytes") 1 (before_first is_feed bytes) (pos k.0 ∷ []) k.1).0 ∙
      ap (λ (x : List ℕ). codes "certificate bytes" ++ x) (append-nil (codes " " ++ decimal k.0)) ∙
      sym (append_assoc (codes "certificate bytes") (codes " ") (decimal k.0)) ∙
      ap (λ (j : ℕ). numbered_text (codes "certificate bytes") j) (sym cut.1)

  whole : bytes ≡ head_text (take k.0 after) ++ drop (suc k.0) after
  whole =
      split_at_first is_feed bytes 0 there ∙ ap (λ (b : ℕ). before_first is_feed bytes ++ (b ∷ after)) feed ∙
      ap (λ (x : List ℕ). x ++ (10 ∷ after)) first ∙
      sym (append_assoc (numbered_text (codes "certificate bytes") (length (take k.0 after))) (10 ∷ []) after) ∙
      ap (λ (x : List ℕ). text_line (numbered_text (codes "certificate bytes") (length (take k.0 after))) ++ x)
      (cut.2 ∙ sym (append_assoc (take k.0 after) (10 ∷ []) (drop (suc k.0) after))) ∙
      sym (append_assoc (text_line (numbered_text (codes "certificate bytes") (length (take k.0 after)))) (text_line (take k.0 after)) (drop (suc k.0) after))

  whole_is : bytes ≡ head_text h.source ++ h.rest
  whole_is = subst (λ (x : Head). bytes ≡ head_text x.source ++ x.rest) k.3 whole

pub head_text_is : (bytes : List ℕ) (h : Head) → head_of bytes ≡ Some h → bytes ≡ head_text h.source ++ h.rest
head_text_is bytes h e =
    whole_is bytes h (headed_is (before_first is_feed bytes) (after_first is_feed bytes) h (numbers_after (codes "certificate bytes") 1 (before_first
    is_feed bytes)) refl e)

-- ---- the whole
pub verified_of : (bytes : List ℕ) (points proved : ℕ) (h : Head) (x : IsProgram h.source) → JudgedSo bytes h x points proved → IsVerified bytes points proved
verified_of bytes points proved h x j =
    let r = judged_read (program_of x) x.operations h.source h.rest points proved j.taken in
    let paths = paths_of (program_of x) x.operations in
    let is : IsCertificate bytes = record {
      certificate = as_certificate h.source r.states r.paths r.asserted;
      program = x;
      few = j.few;
      text = head_text_is bytes h j.head ∙ ap (λ (y : List ℕ). head_text h.source ++ y) r.text;
      meets = r.meets;
    } in
    record { short = j.short; is = is; points_are = r.points_are; proved_are = r.proved_are }
