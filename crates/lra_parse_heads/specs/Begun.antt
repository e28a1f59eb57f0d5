-- A statement as far as it is read, and what reads the rest of it.
use Rattle.std.specs.Prelude.{◌≡◌, ℕ, Result, Ok, Err}
use Rattle.lra_syntax.specs.Trees.{StmtTree, if_else, while, switch}
use Rattle.lra_syntax.specs.Views.{expr_view, cond_view, stmt_view}
use Rattle.lra_parser_spec.specs.Reading.{Read, Parse, seq, map_read, done_with, ParsesAsErr}
use Rattle.lra_parser_spec.specs.Statements.{else_part, for_of, branch_at, braces_at}
use Rattle.lra_parser_spec.specs.declared.reading.Stopped.{Stopped}
use Rattle.lra_parse_heads.specs.{Heads.head_view, declared.heads.Begun.Begun, declared.heads.Head.Head}
use Rattle.lra_parse_heads.specs.declared.heads.Head.TheVariants as head
use Rattle.lra_parse_heads.specs.declared.heads.Begun.TheVariants as begun

-- after the head and its branch
abbrev pub behind_branch : Parse StmtTree → Head → StmtTree → Parse StmtTree
behind_branch branch (head.If at c) t = else_part branch at (cond_view c) t
behind_branch branch (head.Else at c first) t = done_with (if_else at (cond_view c) (stmt_view first.value) t)
behind_branch branch (head.While at c) t = done_with (while at (cond_view c) t)
behind_branch branch (head.For at h) t = done_with (for_of at (head_view h) t)

-- how many branches come after the head, at most
abbrev pub branches_of : Head → ℕ
branches_of (head.If at c) = 2
branches_of (head.Else at c first) = 1
branches_of (head.While at c) = 1
branches_of (head.For at h) = 1

-- how many branches and braces come after what is begun, at most
abbrev pub branches_left : Begun → ℕ
branches_left (begun.Whole s) = 0
branches_left (begun.UpToBranch h) = branches_of h.value
branches_left (begun.UpToBraces h) = 1

-- after what is begun, if d levels are left
abbrev pub begun_rest : ℕ → Begun → Parse StmtTree
begun_rest d (begun.Whole s) = done_with (stmt_view s.value)
begun_rest d (begun.UpToBranch h) = seq (branch_at d) (behind_branch (branch_at d) h.value)
begun_rest d (begun.UpToBraces h) = map_read (switch h.value.place (expr_view h.value.value)) (braces_at d)

-- what a function returned goes on, by rest, to what reading gives, unless memory ran out
abbrev pub GoesOn : {X Y : Type 0} → (X → Read Y) → Result X Stopped → Read Y → Type 0
GoesOn rest (Ok x) read = read ≡ rest x
GoesOn rest (Err e) read = ParsesAsErr e read
