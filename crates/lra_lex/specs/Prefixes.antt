-- What stands at the start of the bytes that are left.
use Rattle.std.specs.Prelude.{◌≡◌, ℕ, ◌+◌, ◌-◌, ◌<◌, ◌≤◌, Bool, true, List, ◌++◌, nat_eq, ◌&&◌, Option, codes, length}
use Rattle.std.specs.Prelude.{slice_index, take, drop, find, bytes_eq}
use Rattle.std.specs.{List.list_all, Option.option_or}
use Rattle.lra_lex.specs.{Places.fresh_after_bytes, declared.marks.TheConstants.MARKS}
use Rattle.lra_syntax.specs.Tokens.{is_space_or_tab, IsWordEnd, IsGap, NoGap}
use Rattle.lra_syntax.specs.{Lexeme.mark_text, Lexeme.IsUnclosed, declared.tokens.Mark.Mark}

-- the mark of this spelling
abbrev pub found_mark : List ℕ → Option Mark
found_mark s = find (λ m. bytes_eq (mark_text m) s) MARKS

-- the operator of the first two bytes, or else of the first
abbrev pub operator_at : List ℕ → Option Mark
operator_at rest = option_or (found_mark (take 2 rest)) (found_mark (take 1 rest))

abbrev pub opens_comment : List ℕ → Bool
opens_comment s = nat_eq (slice_index s 0) 47 && nat_eq (slice_index s 1) 42

-- `*/` stands at this index
abbrev pub IsCloseAt : List ℕ → ℕ → Type 0
IsCloseAt s k = (slice_index s k ≡ 42) × (slice_index s (k + 1) ≡ 47)

-- the first `*/` ends after n bytes
pub record IsFirstClose (s : List ℕ) (n : ℕ) : Type 0 where
  pub at_least : 2 ≤ n
  pub within : n ≤ length s
  pub closes : IsCloseAt s (n - 2)
  pub none_before : (k : ℕ) → k + 2 < n → IsCloseAt s k → ⊥

-- `#`, spaces and tabs, and the word `include`
pub record IsInclude (s : List ℕ) : Type 0 where
  pub blanks : List ℕ
  pub text : List ℕ
  pub parts : s ≡ codes "#" ++ blanks ++ codes "include" ++ text
  pub only_blanks : list_all is_space_or_tab blanks ≡ true
  pub word_ends : IsWordEnd text

-- the first n bytes are a gap, after any bytes that leave the start of a line as stated
pub record BeginsGap (fresh : Bool) (rest : List ℕ) (n : ℕ) : Type 0 where
  pub some : 0 < n
  pub within : n ≤ length rest
  pub is_gap : (before : List ℕ) → fresh ≡ fresh_after_bytes true before → IsGap before (take n rest) (drop n rest)

-- no gap is there, after any such bytes; a comment that begins is never closed
pub record HasNoGap (fresh : Bool) (rest : List ℕ) : Type 0 where
  pub no_gap : (before : List ℕ) → fresh ≡ fresh_after_bytes true before → NoGap before rest
  pub unclosed : opens_comment rest ≡ true → IsUnclosed rest
