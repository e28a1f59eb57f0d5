-- How long a sample source may become.
use Rattle.std.proofs.Common.{◌≡◌, ◌≤◌, ◌+◌, ◌*◌, ◌%◌, ℕ, zero, suc, List, ◌++◌, length, arith, subst, sym}
use Rattle.std.proofs.{lemmas.Fmt.length-decimal-le, lemmas.List.length-append, lemmas.List.length_push}
use Rattle.std.specs.{Fmt.decimal, List.flat_map, List.range_with_len, Prelude.codes}
use Rattle.lra_sample.specs.Crates.lra_row_text.Texts.{text_line}
use Rattle.lra_sample.specs.declared.block.Kind.TheVariants.{Sum, Choice, Count, Input}
use Rattle.lra_sample.specs.{Draws.draw, Draws.state_after, Sample.statements_text, Sample.block_from, Sample.block_line, Sample.block_lines, Sample.sample_source, declared.block.Kind.Kind}

short_statements : (kind : Kind) (p q c : List ℕ) → length p ≤ 1 → length q ≤ 1 → length c ≤ 2 → length (statements_text kind p q c) ≤ 33
short_statements Sum p q c hp hq hc = grind (arith, length-append)
short_statements Choice p q c hp hq hc = grind (arith, length-append)
short_statements Count p q c hp hq hc = grind (arith, length-append)
short_statements Input p q c hp hq hc = grind (arith, length-append)

short_variable : (n : ℕ) → length (decimal (n % 4)) ≤ 1
short_variable n = length-decimal-le 1 (n % 4) (omega arith) (omega arith) (omega arith)

short_constant : (n : ℕ) → length (decimal (n % 100)) ≤ 2
short_constant n = length-decimal-le 2 (n % 100) (omega arith) (omega arith) (omega arith)

short_line : (state : ℕ) → length (block_line (block_from state)) ≤ 34
short_line state =
    let block = block_from state in
    let text = statements_text block.kind (decimal block.first) (decimal block.second) (decimal block.constant) in
    omega (
      arith,
      length_push text 10,
      short_statements block.kind (decimal block.first) (decimal block.second) (decimal block.constant)
          (short_variable (draw state 2)) (short_variable (draw state 3)) (short_constant (draw state 4)),
    )

short_lines : (line : ℕ → List ℕ) → ((k : ℕ) → length (line k) ≤ 34) → (a n : ℕ) → length (flat_map line (range_with_len a n)) ≤ 34 * n
short_lines line short a zero = omega arith
short_lines line short a (suc n) = omega (arith, length-append (line a) (flat_map line (range_with_len (a + 1) n)), short a, short_lines line short (a + 1) n)

short_blocks : (seed size : ℕ) → length (block_lines seed size) ≤ 34 * size
short_blocks seed size = short_lines (λ before. block_line (block_from (state_after seed (4 * before)))) (λ before. short_line (state_after seed (4 * before))) 0 size

short_whole : (lines : List ℕ) (most : ℕ) → length lines ≤ most → length (
    text_line (codes "int main(void){")
    ++ text_line (codes "long v0=0;")
    ++ text_line (codes "long v1=0;")
    ++ text_line (codes "long v2=0;")
    ++ text_line (codes "long v3=0;")
    ++ lines
    ++ text_line (codes "assert(v0<=v0);")
    ++ text_line (codes "}")) ≤ 78 + most
short_whole lines most few = omega (
  arith,
  few,
  length-append (lines ++ text_line (codes "assert(v0<=v0);")) (text_line (codes "}")),
  length-append lines (text_line (codes "assert(v0<=v0);")),
)

pub short_source : (seed size : ℕ) (source : List ℕ) → source ≡ sample_source seed size → length source ≤ 78 + 34 * size
short_source seed size source e = subst (λ s. length s ≤ 78 + 34 * size) (sym e) (short_whole (block_lines seed size) (34 * size) (short_blocks seed size))
