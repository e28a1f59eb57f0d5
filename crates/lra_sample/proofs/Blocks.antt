-- One block more.
use Rattle.std.proofs.Common.{◌≡◌, ◌+◌, ◌*◌, ℕ, zero, suc, List, [], ◌∷◌, ◌++◌, ap, sym, refl, ◌∙◌, append_assoc, arith}
use Rattle.std.proofs.lemmas.List.{flat_map_more}
use Rattle.std.specs.{Fn.iterate, List.flat_map, List.range_with_len, Prelude.Result, Prelude.Ok, Prelude.Err, Prelude.OnOk, Prelude.codes}
use Rattle.lra_sample.specs.Crates.lra_row_text.Texts.{text_line}
use Rattle.lra_sample.specs.Sample.{statements_text, block_from, line_as, block_line, block_lines}
use Rattle.lra_sample.specs.{Draws.next_state, Draws.state_after, declared.block.Block.Block, declared.block.Kind.Kind, declared.block.Kind.TheVariants.Choice}

iterate_more : {A : Type 0} (h : A → A) (m n k : ℕ) (x : A) → k ≡ m + n → iterate h k x ≡ iterate h n (iterate h m x)
iterate_more h zero n k x e = ap (λ j. iterate h j x) (let same : k ≡ n = omega (arith, e) in same)
iterate_more h (suc m) n k x e = ap (λ j. iterate h j x) (let same : k ≡ suc (m + n) = omega (arith, e) in same) ∙ iterate_more h m n (m + n) (h x) refl

range_more : (a n : ℕ) → range_with_len a (suc n) ≡ range_with_len a n ++ (a + n) ∷ []
range_more a zero = ap (λ j. j ∷ []) (let same : a ≡ a + 0 = omega arith in same)
range_more a (suc n) = ap (λ js. a ∷ js) (range_more (a + 1) n ∙ ap (λ j. range_with_len (a + 1) n ++ j ∷ []) (let same : a + 1 + n ≡ a + suc n = omega arith in same))

flat_map_range_more : (f : ℕ → List ℕ) (n : ℕ) → flat_map f (range_with_len 0 (n + 1)) ≡ flat_map f (range_with_len 0 n) ++ f n
flat_map_range_more f n =
    ap (λ j. flat_map f (range_with_len 0 j)) (let next : n + 1 ≡ suc n = omega arith in next)
    ∙ ap (flat_map f) (range_more 0 n ∙ ap (λ j. range_with_len 0 n ++ j ∷ []) (let same : 0 + n ≡ n = omega arith in same))
    ∙ sym (flat_map_more f [] (range_with_len 0 n) n)

-- four draws further
pub state_more : (seed count state next : ℕ) → state ≡ state_after seed (4 * count) → next ≡ state_after state 4 → next ≡ state_after seed (4 * (count + 1))
state_more seed count state next now further =
    further ∙ ap (λ s. state_after s 4) now ∙ sym (iterate_more next_state (4 * count) 4 (4 * (count + 1)) seed (omega arith))

pub lines_more : (seed count state : ℕ) (begin before after : List ℕ) (block : Block) → state ≡ state_after seed (4 * count) → before ≡ begin ++ block_lines seed count →
    block ≡ block_from state → after ≡ before ++ block_line block → after ≡ begin ++ block_lines seed (count + 1)
lines_more seed count state begin before after block now lines made further =
    further ∙ ap (λ t. t ++ block_line block) lines
    ∙ ap (λ b. (begin ++ block_lines seed count) ++ block_line b) (made ∙ ap block_from now)
    ∙ append_assoc begin (block_lines seed count) (block_line (block_from (state_after seed (4 * count))))
    ∙ ap (λ t. begin ++ t) (sym (flat_map_range_more (λ before. block_line (block_from (state_after seed (4 * before)))) count))

-- a line of the block's kind
pub line_of_kind : {T E : Type 0} (block : Block) (kind : Kind) (before after : List ℕ) (r : Result T E) → block.kind ≡ kind → OnOk r (after ≡ before ++ line_as kind block) →
    OnOk r (after ≡ before ++ block_line block)
line_of_kind block kind before after (Ok x) same written = written ∙ ap (λ k. before ++ line_as k block) (sym same)
line_of_kind block kind before after (Err x) same written = written

-- a line written piece by piece
pub choice_line : (old begun new p q c : List ℕ) →
    begun ≡ old ++ (codes "if(v" ++ (p ++ (codes "<" ++ (c ++ (codes ")v" ++ (q ++ (codes "=v" ++ (q ++ codes "+1;")))))))) →
    new ≡ begun ++ (codes "else v" ++ (q ++ (codes "=" ++ (c ++ (codes ";" ++ 10 ∷ []))))) →
    new ≡ old ++ text_line (statements_text Choice p q c)
choice_line old begun new p q c first second =
    second ∙ ap (λ t. t ++ (codes "else v" ++ (q ++ (codes "=" ++ (c ++ (codes ";" ++ 10 ∷ [])))))) first
    ∙ pieces (codes "if(v") p (codes "<") c (codes ")v") q (codes "=v") (codes "+1;") (codes "else v") (codes "=") (codes ";") (10 ∷ [])
  where
    pieces : (a p b c d q e f g h k l : List ℕ) → (old ++ (a ++ (p ++ (b ++ (c ++ (d ++ (q ++ (e ++ (q ++ f))))))))) ++ (g ++ (q ++ (h ++ (c ++ (k ++ l)))))
        ≡ old ++ (((((((((((((a ++ p) ++ b) ++ c) ++ d) ++ q) ++ e) ++ q) ++ (f ++ g)) ++ q) ++ h) ++ c) ++ k) ++ l)
    pieces a p b c d q e f g h k l = simp append_assoc
