-- The sample source of a seed and a size: four variables, as many blocks as the size says, and one assertion.
use Rattle.std.specs.Prelude.{ℕ, ◌*◌, ◌%◌, List, ◌++◌, codes, if◌then◌else◌, nat_eq}
use Rattle.std.specs.{Fmt.decimal, List.flat_map, List.range_with_len}
use Rattle.lra_sample.specs.Crates.lra_row_text.Texts.{text_line}
use Rattle.lra_sample.specs.declared.block.Kind.TheVariants.{Sum, Choice, Count, Input}
use Rattle.lra_sample.specs.{Draws.state_after, Draws.draw, declared.block.Block.Block, declared.block.Kind.Kind}

-- the kinds in turn
abbrev pub kind_of : ℕ → Kind
kind_of drawn = if nat_eq (drawn % 4) 0 then Sum
    else (if nat_eq (drawn % 4) 1 then Choice
    else (if nat_eq (drawn % 4) 2 then Count else Input))

-- the block that the four draws from this state on make
abbrev pub block_from : ℕ → Block
block_from state = record {
  kind = kind_of (draw state 1);
  first = draw state 2 % 4;
  second = draw state 3 % 4;
  constant = draw state 4 % 100;
}

-- of the numbers of two variables and a constant, as they are written
abbrev pub statements_text : Kind → List ℕ → List ℕ → List ℕ → List ℕ
statements_text Sum p q c = codes "v" ++ p ++ codes "=v" ++ q ++ codes "+" ++ c ++ codes ";"
statements_text Choice p q c = codes "if(v" ++ p ++ codes "<" ++ c ++ codes ")v" ++ q ++ codes "=v" ++ q ++
    codes "+1;else v" ++ q ++ codes "=" ++ c ++ codes ";"
statements_text Count p q c = codes "v" ++ p ++ codes "=0;while(v" ++ p ++ codes "<" ++ c ++ codes ")v" ++ p ++
    codes "=v" ++ p ++ codes "+1;"
statements_text Input p q c = codes "v" ++ p ++ codes "=input();assume(v" ++ p ++ codes ">=0&&v" ++ p ++
    codes "<=" ++ c ++ codes ");"

-- the line of this kind over a block's variables and its constant
abbrev pub line_as : Kind → Block → List ℕ
line_as kind block = text_line (statements_text kind (decimal block.first) (decimal block.second)
    (decimal block.constant))

abbrev pub block_line : Block → List ℕ
block_line block = line_as block.kind block

-- each block takes four draws, after those of the blocks before it
abbrev pub block_lines : ℕ → ℕ → List ℕ
block_lines seed size = flat_map (λ before. block_line (block_from (state_after seed (4 * before))))
    (range_with_len 0 size)

abbrev pub sample_source : ℕ → ℕ → List ℕ
sample_source seed size =
    text_line (codes "int main(void){")
    ++ text_line (codes "long v0=0;")
    ++ text_line (codes "long v1=0;")
    ++ text_line (codes "long v2=0;")
    ++ text_line (codes "long v3=0;")
    ++ block_lines seed size
    ++ text_line (codes "assert(v0<=v0);")
    ++ text_line (codes "}")
