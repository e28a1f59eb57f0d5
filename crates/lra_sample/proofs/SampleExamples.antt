-- Sample sources that stand written out. Which slip an example would catch stands beside it.
use Rattle.std.proofs.Common.{◌≡◌, List, [], ◌∷◌, length, refl}
use Rattle.std.specs.{Fmt.digits, List.flat_map, Prelude.ℕ, Prelude.codes}
use Rattle.lra_sample.specs.Crates.lra_row_text.Texts.{text_line}
use Rattle.lra_sample.specs.{Draws.draw, Sample.block_lines, Sample.sample_source}

abbrev lines : List (List ℕ) → List ℕ
lines = flat_map text_line

-- a line forgotten, or one more line feed
no_block : sample_source 0 0 ≡ lines (codes "int main(void){" ∷ codes "long v0=0;" ∷ codes "long v1=0;" ∷ codes "long v2=0;" ∷ codes "long v3=0;" ∷ codes "assert(v0<=v0);" ∷ codes "}" ∷ [])
no_block = refl

bytes_of_no_block : length (sample_source 0 0) ≡ 78
bytes_of_no_block = refl

-- the seed taken as the first draw, or a draw of other bits
one_block : block_lines 0 1 ≡ text_line (codes "v0=input();assume(v0>=0&&v0<=36);")
unfolding digits
one_block = refl

bytes_of_one_block : length (sample_source 0 1) ≡ 112
unfolding digits
bytes_of_one_block = refl

-- kinds or variables exchanged, or draws used twice: blocks 1 to 3
three_blocks : block_lines 0 3 ≡ lines (codes "v0=input();assume(v0>=0&&v0<=36);" ∷ codes "if(v3<75)v0=v0+1;else v0=75;" ∷ codes "v3=v3+82;" ∷ [])
unfolding digits
three_blocks = refl

another_seed : block_lines 5 1 ≡ text_line (codes "v1=v2+5;")
unfolding digits
another_seed = refl

counting : block_lines 1 1 ≡ text_line (codes "v1=0;while(v1<70)v1=v1+1;")
unfolding digits
counting = refl

-- the state cut to fewer than 64 bits
greatest_seed : draw 18446744073709551615 1 ≡ 1574552488
greatest_seed = refl
