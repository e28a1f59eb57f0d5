-- Of two objects with the same keys, whose values are distinct, the text reports the texts of their values, each
-- by its key.
use Rattle.std.proofs.Common.{◌≡◌, ◌∙◌, ℕ, Bool, true, false, List, [], ◌∷◌, ◌++◌, ◌⊎◌, inl, inr, refl, ap, sym, subst, if◌then◌else◌}
use Rattle.std.proofs.{lemmas.List.append_cancel_left, lemmas.Map.Text.is_eq-slice_cmp, lemmas.Slice.Eq.bytes_eq-Decides}
use Rattle.std.specs.declared.cmp.Ordering.TheVariants.{Less, Equal, Greater}
use Rattle.std.specs.{Char.is_ascii_digit, Cmp.Lexicographic.slice_cmp, Fmt.decimal, Ordering.is_eq, Ordering.nat_cmp, Ordering.match_ordering, Prelude.⊤, Str.bytes_eq, declared.cmp.Ordering.Ordering}
use Rattle.serde_json.specs.{Data.Data, Data.Members, Data.member, Data.no_members, Data.number, Data.unsigned, Data.put, Written.compact_text, Written.members_text}
use Rattle.lra_report.proofs.{Fronts.Ends, Fronts.front_same, Fronts.rest_same, Numbers.decimal_passes}
use Rattle.lra_report_json.proofs.JsonPieces.{member_same}

-- a value's text is followed by a comma or by the object's end
abbrev pub Closes : List ℕ → Type 0
Closes [] = ⊥
Closes (b ∷ bs) = (b ≡ 44) ⊎ (b ≡ 125)

-- texts that begin with those of the two values report both, and what follows
abbrev pub Apart : Data → Data → Type 0
Apart d e = (u v : List ℕ) → Closes u → Closes v → compact_text d ++ u ≡ compact_text e ++ v → (compact_text d ≡ compact_text e) × (u ≡ v)

pub same_apart : (d : Data) → Apart d d
same_apart d u v cu cv e = (refl, append_cancel_left (compact_text d) u v e)

-- numbers ------------------------------------------------------------------------

closes_ends : (u : List ℕ) → Closes u → Ends is_ascii_digit u
closes_ends [] h = absurd h
closes_ends (b ∷ u) (inl is) = rw is refl
closes_ends (b ∷ u) (inr is) = rw is refl

pub numbers_apart : (m n : ℕ) → Apart (number (unsigned m)) (number (unsigned n))
numbers_apart m n u v cu cv e =
    front_same is_ascii_digit (decimal m) (decimal n) u v (decimal_passes m) (decimal_passes n) (closes_ends u cu) (closes_ends v cv) e

-- members ------------------------------------------------------------------------

abbrev pub Alike : Members → Members → Type 0
Alike no_members no_members = ⊤
Alike no_members (member l e ns) = ⊥
Alike (member k d ms) no_members = ⊥
Alike (member k d ms) (member l e ns) = (k ≡ l) × Apart d e × Alike ms ns

-- the text of the first value at a key; nothing if there is none
abbrev pub text_at : List ℕ → Members → List ℕ
text_at key no_members = []
text_at key (member k d ms) = if bytes_eq key k then compact_text d else text_at key ms

-- another value at a key of both
pub put_alike : (k : List ℕ) (d e : Data) → Apart d e → (ms ns : Members) → Alike ms ns → Alike (put k d ms) (put k e ns)
put_alike k d e apart no_members no_members alike = (refl, apart, tt)
put_alike k d e apart no_members (member m b ns) alike = absurd alike
put_alike k d e apart (member l a ms) no_members alike = absurd alike
put_alike k d e apart (member l a ms) (member m b ns) (is, here, more) =
    subst (λ (x : List ℕ). Alike (put k d (member l a ms)) (put k e (member x b ns))) is (go (slice_cmp nat_cmp k l) (put_alike k d e apart ms ns more))
  where
    go : (o : Ordering) → Alike (put k d ms) (put k e ns) → Alike (match_ordering o (member k d (member l a ms)) (member l d ms) (member l a (put k d ms)))
        (match_ordering o (member k e (member l b ns)) (member l e ns) (member l b (put k e ns)))
    go Less later = (refl, apart, (refl, here, more))
    go Equal later = (refl, apart, more)
    go Greater later = (refl, here, later)

end_closes : (ms : Members) (u : List ℕ) → Closes (members_text true ms ++ u)
end_closes no_members u = inr refl
end_closes (member k d ms) u = inl refl

-- the text of objects that are alike reports the text of each value
pub members_same : (ms ns : Members) (u v : List ℕ) → Alike ms ns → members_text true ms ++ u ≡ members_text true ns ++ v
    → (key : List ℕ) → text_at key ms ≡ text_at key ns
members_same no_members no_members u v alike e key = refl
members_same no_members (member l b ns) u v alike e key = absurd alike
members_same (member k a ms) no_members u v alike e key = absurd alike
members_same (member k a ms) (member l b ns) u v (is, apart, more) e key =
    let there : members_text true (member k a ms) ++ u ≡ members_text true (member k b ns) ++ v =
    e ∙ ap (λ (x : List ℕ). members_text true (member x b ns) ++ v) (sym is) in
    let values = member_same k (compact_text a) (members_text true ms) (compact_text b) (members_text true ns) u v (rest_same there) in
    let told = apart (members_text true ms ++ u) (members_text true ns ++ v) (end_closes ms u) (end_closes ns v) values in
    let later = members_same ms ns u v more told.1 key in
    ap (λ (x : List ℕ). if bytes_eq key x then compact_text a else text_at key ms) is ∙ go (bytes_eq key l) told.0 later
  where
    go : (c : Bool) → compact_text a ≡ compact_text b → text_at key ms ≡ text_at key ns
        → (if c then compact_text a else text_at key ms) ≡ (if c then compact_text b else text_at key ns)
    go true same later = same
    go false same later = later

-- an object's text has no comma in front
pub object_same : (ms ns : Members) (u v : List ℕ) → Alike ms ns → members_text false ms ++ u ≡ members_text false ns ++ v
    → (key : List ℕ) → text_at key ms ≡ text_at key ns
object_same no_members no_members u v alike e key = refl
object_same no_members (member l b ns) u v alike e key = absurd alike
object_same (member k a ms) no_members u v alike e key = absurd alike
object_same (member k a ms) (member l b ns) u v alike e key = members_same (member k a ms) (member l b ns) u v alike (ap (λ (t : List ℕ). 44 ∷ t) e) key

-- a value that is put --------------------------------------------------------------

pub bytes_self : (bs : List ℕ) → bytes_eq bs bs ≡ true
bytes_self bs = (bytes_eq-Decides bs bs).1 refl

pub put_there : (k : List ℕ) (d : Data) (ms : Members) → text_at k (put k d ms) ≡ compact_text d
put_there k d no_members = rw (bytes_self k) refl
put_there k d (member l e ms) = go (slice_cmp nat_cmp k l) refl (put_there k d ms)
  where
    go : (o : Ordering) → slice_cmp nat_cmp k l ≡ o → text_at k (put k d ms) ≡ compact_text d
        → text_at k (match_ordering o (member k d (member l e ms)) (member l d ms) (member l e (put k d ms))) ≡ compact_text d
    go Less is later = rw (bytes_self k) refl
    go Equal is later =
        let yes : bytes_eq k l ≡ true = sym (is_eq-slice_cmp k l) ∙ ap is_eq is in
        rw yes refl
    go Greater is later =
        let no : bytes_eq k l ≡ false = sym (is_eq-slice_cmp k l) ∙ ap is_eq is in
        rw no later

-- values at other keys stay
pub put_elsewhere : (key k : List ℕ) (d : Data) (ms : Members) → bytes_eq key k ≡ false → text_at key (put k d ms) ≡ text_at key ms
put_elsewhere key k d no_members other = rw other refl
put_elsewhere key k d (member l e ms) other = go (slice_cmp nat_cmp k l) refl (put_elsewhere key k d ms other)
  where
    go : (o : Ordering) → slice_cmp nat_cmp k l ≡ o → text_at key (put k d ms) ≡ text_at key ms
        → text_at key (match_ordering o (member k d (member l e ms)) (member l d ms) (member l e (put k d ms))) ≡ text_at key (member l e ms)
    go Less is later = rw other refl
    go Equal is later =
        let same : k ≡ l = (bytes_eq-Decides k l).0 (sym (is_eq-slice_cmp k l) ∙ ap is_eq is) in
        let no : bytes_eq key l ≡ false = subst (λ (x : List ℕ). bytes_eq key x ≡ false) same other in
        rw no refl
    go Greater is later = ap (λ (t : List ℕ). if bytes_eq key l then compact_text e else t) later
