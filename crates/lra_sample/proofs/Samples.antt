-- Sample sources are such sources, and so they are accepted.
use Rattle.std.proofs.Common.{◌≡◌, ℕ, ◌+◌, ◌*◌, ◌%◌, ◌<◌, ◌≤◌, List, [], ◌∷◌, ◌++◌, length, map, refl, sym, ap, ◌∙◌, arith, append_assoc, append-nil}
use Rattle.std.proofs.{lemmas.Fmt.decimal_digit, lemmas.List.FromFn.length-map-range_with_len}
use Rattle.std.specs.{Fmt.decimal, List.flat_map, List.range_with_len, Prelude.codes}
use Rattle.lra_sample.specs.Crates.lra_resolution_spec.EntryPoint.{at_main}
use Rattle.lra_sample.specs.Crates.{lra_program.Sites.events_of, lra_resolution_spec.Resolve.resolve, lra_syntax.Labels.labels_of}
use Rattle.lra_sample.specs.Crates.{lra_base.Places.greatest_length, lra_resolution_spec.Refuse.Accepts, lra_resolution_spec.Refuse.limit_fault, lra_row_text.Texts.text_line, lra_syntax.Grammar.Spells}
use Rattle.lra_sample.specs.Sample.{statements_text, kind_of, block_from, block_line, block_lines, sample_source}
use Rattle.lra_sample.specs.{Accepted.SamplesAreAccepted, Draws.state_after, Draws.draw, declared.block.Kind.Kind}
use Rattle.lra_sample.proofs.Whole.{head_items, four_declared, last_items, close_items, whole_items, lines_text, whole_written, file_tree, whole_tokens, whole_lexed, parsed}
use Rattle.lra_sample.proofs.{Faultless.names, Faultless.not_recursive, Lengths.short_source, LineTokens.text_as, Lines.Line, Lines.items_of, Numerals.numeral, Numerals.variable, Within.within}
use Rattle.lra_sample.proofs.Crates.lra_syntax.Lexemes.{written}

below_four : (n : ℕ) → n % 4 < 4
below_four n = omega arith

below_hundred : (n : ℕ) → n % 100 < 100
below_hundred n = omega arith

-- the line of these draws
abbrev line_from : Kind → ℕ → ℕ → ℕ → Line
line_from kind p q c =
    let n = numeral (c % 100) (below_hundred c) in
    record {
      kind = kind;
      first = 48 + p % 4;
      second = 48 + q % 4;
      head = n.head;
      tail = n.tail;
      value = n.value;
      is_first = variable (p % 4) (below_four p);
      is_second = variable (q % 4) (below_four q);
      digit = n.first;
      good = n.good;
    }

line_text : (kind : Kind) (p q c : ℕ) → text_line (statements_text kind (decimal (p % 4)) (decimal (q % 4))
    (decimal (c % 100))) ≡ written (items_of (line_from kind p q c))
line_text kind p q c =
    let one = decimal_digit (p % 4) (omega (arith, below_four p)) in
    let two = decimal_digit (q % 4) (omega (arith, below_four q)) in
    let n = numeral (c % 100) (below_hundred c) in
    ap (λ (t : List ℕ). text_line (statements_text kind t (decimal (q % 4)) (decimal (c % 100)))) one
    ∙ ap (λ (t : List ℕ). text_line (statements_text kind ((48 + p % 4) ∷ []) t (decimal (c % 100)))) two
    ∙ ap (λ (t : List ℕ). text_line (statements_text kind ((48 + p % 4) ∷ []) ((48 + q % 4) ∷ []) t)) n.spelled
    ∙ sym (text_as kind (line_from kind p q c))

abbrev line_behind : ℕ → Line
line_behind state = line_from (kind_of (draw state 1)) (draw state 2) (draw state 3) (draw state 4)

abbrev sample_lines : ℕ → List ℕ → List Line
sample_lines seed ks = map (λ (before : ℕ). line_behind (state_after seed (4 * before))) ks

texts : (seed : ℕ) (ks : List ℕ) → flat_map (λ (before : ℕ). block_line (block_from (state_after seed (4 * before))))
    ks ≡ lines_text (sample_lines seed ks)
texts seed [] = refl
texts seed (k ∷ ks) =
    let s = state_after seed (4 * k) in
    ap (λ (t : List ℕ). t ++ flat_map (λ (before : ℕ). block_line (block_from (state_after seed (4 * before)))) ks)
    (line_text (kind_of (draw s 1)) (draw s 2) (draw s 3) (draw s 4))
    ∙ ap (λ (t : List ℕ). written (items_of (line_behind s)) ++ t) (texts seed ks)

abbrev lines_of : ℕ → ℕ → List Line
lines_of seed size = sample_lines seed (range_with_len 0 size)

source_written : (seed size : ℕ) → sample_source seed size ≡ written (whole_items (lines_of seed size))
source_written seed size =
    ap (λ (t : List ℕ). written (head_items ++ four_declared []) ++ t)
    (append_assoc (block_lines seed size) (text_line (codes "assert(v0<=v0);")) (text_line (codes "}"))
    ∙ ap (λ (t : List ℕ). t ++ written (last_items ++ close_items)) (texts seed (range_with_len 0 size)))
    ∙ sym (whole_written (lines_of seed size))

as_many : (seed size : ℕ) → length (lines_of seed size) ≡ size
as_many seed size = length-map-range_with_len (λ (before : ℕ). line_behind (state_after seed (4 * before))) 0 size

short : (n size : ℕ) → size ≤ 400 → n ≤ 78 + 34 * size → n ≤ greatest_length
unfolding greatest_length
short n size l m = omega (arith, l, m)

accepts : (seed size : ℕ) → size ≤ 400 → Accepts at_main Spells (sample_source seed size)
    (file_tree (sample_source seed size) (lines_of seed size))
accepts seed size l = record {
  tokens = whole_tokens (sample_source seed size) (lines_of seed size);
  not_long = short (length (sample_source seed size)) size l (short_source seed size (sample_source seed size) refl);
  lexed = whole_lexed (sample_source seed size) (lines_of seed size) (source_written seed size);
  parsed = parsed (sample_source seed size) (lines_of seed size);
  names = names (sample_source seed size) (lines_of seed size);
  not_recursive = not_recursive (sample_source seed size) (lines_of seed size);
  within =
      let t = file_tree (sample_source seed size) (lines_of seed size) in
      ap (limit_fault (labels_of t) 0) (append-nil (events_of (resolve t)))
      ∙ within (sample_source seed size) (lines_of seed size) (omega (arith, as_many seed size, l));
}

pub accepted : SamplesAreAccepted
accepted seed size l = (file_tree (sample_source seed size) (lines_of seed size), accepts seed size l)
