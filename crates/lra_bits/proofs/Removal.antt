-- Rows removed in place: those that stay are swapped to the start, one after the other.
use Rattle.std.proofs.Common.{◌≡◌, ℕ, ◌+◌, ◌<◌, ◌≤◌, Bool, true, false, cond, List, [], ◌∷◌, ◌++◌, length, get_or, take, drop, refl, ap, sym, ◌∙◌, subst, ◌-◌, arith}
use Rattle.std.proofs.lemmas.List.{ext_get_or, length-take-le, length-drop, get_or-take, get_or-drop, take_more, take_all, append-nil, drop-drop}
use Rattle.std.proofs.{lemmas.List.Edits.swapped_from_swap, lemmas.List.Edits.length-swap, lemmas.List.Elements.All-cons, lemmas.List.Elements.All-head, lemmas.List.Elements.All-tail}
use Rattle.std.specs.List.{All, swap}
use Rattle.lra_bits.specs.{Matrix.unmarked, TruthValues.value_at}

-- after k of the rows
pub record IsPartlyKept {X : Type 0} (marks : List Bool) (rows now : List X) (kept k : ℕ) : Type 0 where
  pub inside : kept ≤ k
  pub same_length : length now ≡ length rows
  pub front : take kept now ≡ unmarked (take k marks) (take k rows)
  pub back : drop k now ≡ drop k rows

unmarked_push : {X : Type 0} (marks : List Bool) (rows : List X) (m : Bool) (r : X) → length marks ≡ length rows →
    unmarked (marks ++ m ∷ []) (rows ++ r ∷ []) ≡ unmarked marks rows ++ cond m [] (r ∷ [])
unmarked_push [] [] true r e = refl
unmarked_push [] [] false r e = refl
unmarked_push [] (x ∷ rows) m r e = absurd (omega (arith, e))
unmarked_push (true ∷ marks) [] m r e = absurd (omega (arith, e))
unmarked_push (false ∷ marks) [] m r e = absurd (omega (arith, e))
unmarked_push (true ∷ marks) (x ∷ rows) m r e = unmarked_push marks rows m r (omega (arith, e))
unmarked_push (false ∷ marks) (x ∷ rows) m r e = ap (λ ys. x ∷ ys) (unmarked_push marks rows m r (omega (arith, e)))

unmarked_more : {X : Type 0} (marks : List Bool) (rows : List X) (k : ℕ) (d : X) → length marks ≡ length rows → k < length rows →
    unmarked (take (k + 1) marks) (take (k + 1) rows) ≡ unmarked (take k marks) (take k rows) ++ cond (value_at marks k) [] (get_or rows k d ∷ [])
unmarked_more marks rows k d e h =
    let l : k < length marks = omega (arith, e, h) in
    let same : length (take k marks) ≡ length (take k rows) = length-take-le k marks (omega (arith, l)) ∙ sym (length-take-le k rows (omega (arith, h))) in
    ap (λ ms. unmarked ms (take (k + 1) rows)) (take_more marks k false l) ∙ ap (unmarked (take k marks ++ value_at marks k ∷ [])) (take_more rows k d h) ∙
    unmarked_push (take k marks) (take k rows) (value_at marks k) (get_or rows k d) same

-- the row at k is still the one that stood there
same_row : {X : Type 0} (rows now : List X) (k : ℕ) (d : X) → drop k now ≡ drop k rows → get_or now k d ≡ get_or rows k d
same_row rows now k d e =
    let z : k + 0 ≡ k = omega arith in
    ap (λ n. get_or now n d) (sym z) ∙ sym (get_or-drop k now 0 d) ∙ ap (λ xs. get_or xs 0 d) e ∙ get_or-drop k rows 0 d ∙ ap (λ n. get_or rows n d) z

later_same : {X : Type 0} (rows now : List X) (k : ℕ) → drop k now ≡ drop k rows → drop (k + 1) now ≡ drop (k + 1) rows
later_same rows now k e = sym (drop-drop 1 k now) ∙ ap (drop 1) e ∙ drop-drop 1 k rows

swapped_front : {X : Type 0} (now next : List X) (kept k : ℕ) (d : X) → kept ≤ k → k < length now → next ≡ swap now kept k → take (kept + 1) next ≡ take kept now ++ get_or now k d ∷ []
swapped_front now next kept k d h l e =
    let n : length next ≡ length now = ap length e ∙ length-swap now kept k in
    let s = swapped_from_swap now next kept k d (omega (arith, h, l)) l e in
    take_more next kept d (omega (arith, n, h, l)) ∙ ap (λ x. take kept next ++ x ∷ []) s.0 ∙
    ap (λ xs. xs ++ get_or now k d ∷ [])
    (ext_get_or d (take kept next) (take kept now) (length-take-le kept next (omega (arith, n, h, l)) ∙ sym (length-take-le kept now (omega (arith, h, l))))
    (λ i m.
    let b : i < kept = omega (arith, m, length-take-le kept next (omega (arith, n, h, l))) in
    get_or-take kept next i d b ∙ s.2 i (λ q. omega (arith, q, b)) (λ q. omega (arith, q, b, h)) ∙ sym (get_or-take kept now i d b)))

swapped_back : {X : Type 0} (now next : List X) (kept k : ℕ) (d : X) → kept ≤ k → k < length now → next ≡ swap now kept k → drop (k + 1) next ≡ drop (k + 1) now
swapped_back now next kept k d h l e =
    let n : length next ≡ length now = ap length e ∙ length-swap now kept k in
    let s = swapped_from_swap now next kept k d (omega (arith, h, l)) l e in
    ext_get_or d (drop (k + 1) next) (drop (k + 1) now) (length-drop (k + 1) next ∙ ap (λ m. m - (k + 1)) n ∙ sym (length-drop (k + 1) now))
    (λ i m. get_or-drop (k + 1) next i d ∙ s.2 ((k + 1) + i) (λ q. omega (arith, q, h)) (λ q. omega (arith, q)) ∙ sym (get_or-drop (k + 1) now i d))

-- ---- the loop
pub kept_start : {X : Type 0} (marks : List Bool) (rows now : List X) → now ≡ rows → IsPartlyKept marks rows now 0 0
kept_start marks rows now e = record { inside = omega arith; same_length = ap length e; front = refl; back = e }

pub kept_gone : {X : Type 0} (marks : List Bool) (rows now : List X) (kept k : ℕ) (d : X) → length marks ≡ length rows → k < length rows → value_at marks k ≡ true →
    IsPartlyKept marks rows now kept k → IsPartlyKept marks rows now kept (k + 1)
kept_gone marks rows now kept k d e h t p = record {
  inside = omega (arith, p.inside);
  same_length = p.same_length;
  front = p.front ∙ sym (append-nil (unmarked (take k marks) (take k rows))) ∙ ap (λ b. unmarked (take k marks) (take k rows) ++ cond b [] (get_or rows k d ∷ [])) (sym t) ∙
      sym (unmarked_more marks rows k d e h);
  back = later_same rows now k p.back;
}

pub kept_stays : {X : Type 0} (marks : List Bool) (rows now next : List X) (kept k : ℕ) (d : X) → length marks ≡ length rows → k < length rows → value_at marks k ≡ false → next ≡ swap now kept k →
    IsPartlyKept marks rows now kept k → IsPartlyKept marks rows next (kept + 1) (k + 1)
kept_stays marks rows now next kept k d e h t s p =
    let l : k < length now = omega (arith, h, p.same_length) in
    record {
      inside = omega (arith, p.inside);
      same_length = ap length s ∙ length-swap now kept k ∙ p.same_length;
      front = swapped_front now next kept k d p.inside l s ∙ ap (λ xs. xs ++ get_or now k d ∷ []) p.front ∙ ap (λ x. unmarked (take k marks) (take k rows) ++ x ∷ []) (same_row rows now k d p.back) ∙
          ap (λ b. unmarked (take k marks) (take k rows) ++ cond b [] (get_or rows k d ∷ [])) (sym t) ∙ sym (unmarked_more marks rows k d e h);
      back = swapped_back now next kept k d p.inside l s ∙ later_same rows now k p.back;
    }

pub kept_end : {X : Type 0} (marks : List Bool) (rows now end : List X) (kept k : ℕ) → length marks ≡ length rows → k ≡ length rows → end ≡ take kept now → IsPartlyKept marks rows now kept k →
    end ≡ unmarked marks rows
kept_end marks rows now end kept k e h t p =
    t ∙ p.front ∙ ap (λ ms. unmarked ms (take k rows)) (take_all k marks (omega (arith, e, h))) ∙ ap (unmarked marks) (take_all k rows (omega (arith, h)))

pub unmarked_all : {X : Type 0} (P : X → Type 0) (marks : List Bool) (rows : List X) → All P rows → All P (unmarked marks rows)
unmarked_all P marks [] h = h
unmarked_all P [] (r ∷ rows) h = h
unmarked_all P (true ∷ marks) (r ∷ rows) h = unmarked_all P marks rows (All-tail P r rows h)
unmarked_all P (false ∷ marks) (r ∷ rows) h = All-cons P r (unmarked marks rows) (All-head P r rows h) (unmarked_all P marks rows (All-tail P r rows h))

pub ends_all : {X : Type 0} (P : X → Type 0) (marks : List Bool) (rows end : List X) → end ≡ unmarked marks rows → All P rows → All P end
ends_all P marks rows end e h = subst (λ xs. All P xs) (sym e) (unmarked_all P marks rows h)
