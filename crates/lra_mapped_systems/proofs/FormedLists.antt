-- Constraints formed of the rows of a list, place by place, without those in which a number passes.
use Rattle.std.proofs.Common.{◌≡◌, ℕ, suc, ◌<◌, ◌≤◌, ◌+◌, add-one, List, [], ◌∷◌, ◌++◌, length, take, drop, get_or, arith, ap, sym, ◌∙◌, subst, ℤ, pos, Option, None, Some, Result, Ok, Err, inl, inr}
use Rattle.std.proofs.lemmas.List.Elements.{Contains-append_cases, Contains-append_left, Contains-append_right}
use Rattle.std.proofs.{Common.◌⊎◌, lemmas.List.length-set, lemmas.List.map-append, lemmas.List.take_all}
use Rattle.std.specs.{List.Contains, Prelude.IfNone, Prelude.OnOk, Prelude.false, Prelude.is_none}
use Rattle.lra_mapped_systems.specs.Crates.lra_linear_spec.OperationStrain.{FormingPasses, substituted_rows}
use Rattle.lra_mapped_systems.specs.Crates.lra_linear_spec.Vectors.{cleared, entry, substituted}
use Rattle.lra_mapped_systems.specs.Crates.{lra_linear_spec.CheckedArithmetic.checked_substitution, lra_linear_spec.Descriptions.LinearRow, lra_linear_spec.Kinds.is_equality}
use Rattle.lra_mapped_systems.specs.Crates.{lra_linear_spec.Strain.Loss, lra_linear_spec.declared.ConKind.ConKind, lra_linear_spec.declared.ConKind.TheVariants.Ge}
use Rattle.lra_mapped_systems.specs.Crates.lra_linear_spec.declared.Excess as E
use Rattle.lra_mapped_systems.proofs.Crates.lra_linear_spec.Membership.{contains_cases, contains_head, contains_none, map_has}
use Rattle.lra_mapped_systems.proofs.Crates.{lra_descriptions.SeveralKinds.given_append, lra_linear_spec.Products.blend_length}
use Rattle.lra_systems.specs.LinearSystems.{LinearSystem, constraints, rows_by_kind}
use Rattle.lra_systems.proofs.FirstMembers.{front, given_more, given_split, member}
use Rattle.lra_mapped_systems.specs.Forming.{AllFormed, AreFormed, substituted_given}
use Rattle.lra_mapped_systems.proofs.PushedLists.{many_more}

if_none : (P Q : Type 0) (o : Option Loss) → (P → Q) → IfNone o P → IfNone o Q
if_none P Q None f h = f h
if_none P Q (Some l) f h = tt

-- ---- substituted rows
one_pushed : (all more : LinearSystem ConKind) (t u : List ℤ) (k : ConKind) → length all.rows ≡ length all.kinds →
    more.rows ≡ all.rows ++ t ∷ [] → more.kinds ≡ all.kinds ++ k ∷ [] → t ≡ u →
    constraints more ≡ constraints all ++ record { row = u; equal = is_equality k } ∷ []
one_pushed all more t u k n er ek et =
    ap (λ (l : List (List ℤ)). rows_by_kind is_equality l more.kinds) er
    ∙ ap (rows_by_kind is_equality (all.rows ++ t ∷ [])) ek
    ∙ given_append is_equality all.rows (t ∷ []) all.kinds (k ∷ []) n
    ∙ ap (λ (y : List ℤ). constraints all ++ (let g : LinearRow = record { row = y; equal = is_equality k } in g) ∷ []) et

pub substituted_whole : (k : ℕ) (form : List ℤ) (all more : LinearSystem ConKind) (rows : List (List ℤ))
    (kinds : List ConKind)
    (i : ℕ) (r t : List ℤ) (o : Option Loss) → length all.rows ≡ length all.kinds → more.rows ≡ all.rows ++ t ∷ [] →
    more.kinds ≡ all.kinds ++ get_or kinds i Ge ∷ [] → t ≡ substituted k form r → length kinds ≡ length rows →
    i < length rows → r ≡ get_or rows i r →
    IfNone o (constraints all ≡ substituted_rows k form (front is_equality rows kinds i)) →
    IfNone o (constraints more ≡ substituted_rows k form (front is_equality rows kinds (i + 1)))
substituted_whole k form all more rows kinds i r t o m er ek et n h is =
    if_none (constraints all ≡ substituted_rows k form (front is_equality rows kinds i))
    (constraints more ≡ substituted_rows k form (front is_equality rows kinds (i + 1))) o (λ e.
    one_pushed all more t (substituted k form r) (get_or kinds i Ge) m er ek et
    ∙ ap (λ (l : List LinearRow). l ++ substituted_given k form (member is_equality kinds i r Ge) ∷ []) e
    ∙ sym (map-append (substituted_given k form) (front is_equality rows kinds i)
    (member is_equality kinds i r Ge ∷ []))
    ∙ ap (substituted_rows k form) (sym (given_more is_equality rows kinds i r Ge n h is))
    ∙ ap (λ (j : ℕ). substituted_rows k form (front is_equality rows kinds j)) (sym (add-one i)))

pub substituted_among : (k : ℕ) (form : List ℤ) (all more : LinearSystem ConKind) (rows : List (List ℤ))
    (kinds : List ConKind)
    (i : ℕ) (r t : List ℤ) → length all.rows ≡ length all.kinds → more.rows ≡ all.rows ++ t ∷ [] →
    more.kinds ≡ all.kinds ++ get_or kinds i Ge ∷ [] → t ≡ substituted k form r → length kinds ≡ length rows →
    i < length rows → r ≡ get_or rows i r →
    ((g : LinearRow) → Contains (constraints all) g → Contains
    (substituted_rows k form (rows_by_kind is_equality rows kinds)) g) →
    (g : LinearRow) → Contains (constraints more) g → Contains (substituted_rows k form (rows_by_kind is_equality rows kinds)) g
substituted_among k form all more rows kinds i r t m er ek et n h is among g has =
    let new : LinearRow = substituted_given k form (member is_equality kinds i r Ge) in
    elim (Contains-append_cases (constraints all) (new ∷ []) g
    (subst (λ (l : List LinearRow). Contains l g)
    (one_pushed all more t (substituted k form r) (get_or kinds i Ge) m er ek et) has)) [
      | inl a ↦ among g a
      | inr b ↦ elim (contains_cases new g [] b) [
        | inl e ↦ subst (Contains (substituted_rows k form (rows_by_kind is_equality rows kinds))) e
            (map_has (substituted_given k form) (rows_by_kind is_equality rows kinds)
            (member is_equality kinds i r Ge) (at_place rows kinds i r n h is))
        | inr none ↦ absurd (contains_none g none)
      ]
    ]
  where
    at_place : (rows : List (List ℤ)) (kinds : List ConKind) (i : ℕ) (r : List ℤ) → length kinds ≡ length rows →
        i < length rows → r ≡ get_or rows i r →
        Contains (rows_by_kind is_equality rows kinds) (member is_equality kinds i r Ge)
    at_place rows kinds i r n h is =
        let later = rows_by_kind is_equality (drop (suc i) rows) (drop (suc i) kinds) in
        subst (λ (l : List LinearRow). Contains l (member is_equality kinds i r Ge))
        (sym (given_split is_equality rows kinds i r Ge n h is))
        (Contains-append_right (front is_equality rows kinds i) (member is_equality kinds i r Ge ∷ later)
        (member is_equality kinds i r Ge) (contains_head (member is_equality kinds i r Ge) later))

-- one row more, which is formed or left out
formed_more : (k : ℕ) (form : List ℤ) (rows : List (List ℤ)) (kinds : List ConKind) (i : ℕ) (r : List ℤ)
    (all more : List LinearRow) → length kinds ≡ length rows → i < length rows → r ≡ get_or rows i r →
    AllFormed k form (front is_equality rows kinds i) all → ((g : LinearRow) → Contains all g → Contains more g) →
    Contains more (substituted_given k form (member is_equality kinds i r Ge))
    ⊎ ((e : E.Excess) × (checked_substitution k form r ≡ Err e)) →
    AllFormed k form (front is_equality rows kinds (i + 1)) more
formed_more k form rows kinds i r all more n low is h grows here g has =
    let m : LinearRow = member is_equality kinds i r Ge in
    let one : front is_equality rows kinds (i + 1) ≡ front is_equality rows kinds i ++ m ∷ [] =
    ap (front is_equality rows kinds) (add-one i) ∙ given_more is_equality rows kinds i r Ge n low is in
    elim (Contains-append_cases (front is_equality rows kinds i) (m ∷ []) g
    (subst (λ (l : List LinearRow). Contains l g) one has)) [
      | inl a ↦ elim (h g a) [ inl b ↦ inl (grows (substituted_given k form g) b) | inr e ↦ inr e ]
      | inr b ↦ elim (contains_cases m g [] b) [
        | inl e ↦ subst (λ (x : LinearRow). Contains more (substituted_given k form x)
            ⊎ ((e : E.Excess) × (checked_substitution k form x.row ≡ Err e))) e here
        | inr none ↦ absurd (contains_none g none)
      ]
    ]

-- ---- the rows so far
pub formed_pushed : (k : ℕ) (form : List ℤ) (n : ℕ) (rows : List (List ℤ)) (kinds : List ConKind) (i : ℕ)
    (all more : LinearSystem ConKind) (o : Option Loss) (r t : List ℤ) → AreFormed k form n rows kinds i all o →
    more.dims ≡ all.dims → more.rows ≡ all.rows ++ t ∷ [] → more.kinds ≡ all.kinds ++ get_or kinds i Ge ∷ [] →
    t ≡ substituted k form r → length kinds ≡ length rows → i < length rows → r ≡ get_or rows i r →
    AreFormed k form n rows kinds (i + 1) more o
formed_pushed k form n rows kinds i all more o r t h ed er ek et m low is = record {
  dims = ed ∙ h.dims;
  many = many_more all.rows more.rows all.kinds more.kinds t (get_or kinds i Ge) h.many er ek;
  whole = substituted_whole k form all more rows kinds i r t o h.many er ek et m low is h.whole;
  among = substituted_among k form all more rows kinds i r t h.many er ek et m low is h.among;
  is_lost = h.is_lost;
  formed =
      let pushed = one_pushed all more t (substituted k form r) (get_or kinds i Ge) h.many er ek et in
      let new : LinearRow = substituted_given k form (member is_equality kinds i r Ge) in
      formed_more k form rows kinds i r (constraints all) (constraints more) m low is h.formed
      (λ g c. subst (λ (l : List LinearRow). Contains l g) (sym pushed) (Contains-append_left (constraints all) (new ∷ []) g c))
      (inl (subst (λ (l : List LinearRow). Contains l new) (sym pushed)
      (Contains-append_right (constraints all) (new ∷ []) new (contains_head new []))));
}

pub formed_if_pushed : {T E : Type 0} (result : Result T E) (k : ℕ) (form : List ℤ) (n : ℕ) (rows : List (List ℤ))
    (kinds seen : List ConKind) (i : ℕ) (all more : LinearSystem ConKind) (o : Option Loss) (r t : List ℤ) →
    AreFormed k form n rows kinds i all o → more.dims ≡ all.dims → OnOk result (more.rows ≡ all.rows ++ t ∷ []) →
    OnOk result (more.kinds ≡ all.kinds ++ get_or seen i Ge ∷ []) → seen ≡ kinds → t ≡ substituted k form r →
    length kinds ≡ length rows → i < length rows → r ≡ get_or rows i r →
    OnOk result (AreFormed k form n rows kinds (i + 1) more o)
formed_if_pushed (Ok x) k form n rows kinds seen i all more o r t h ed er ek es et m low is =
    formed_pushed k form n rows kinds i all more o r t h ed er
    (ek ∙ ap (λ (l : List ConKind). all.kinds ++ get_or l i Ge ∷ []) es) et m low is
formed_if_pushed (Err e) k form n rows kinds seen i all more o r t h ed er ek es et m low is = tt

-- one that is left out: the first, or a later one
pub formed_lost : (k : ℕ) (form : List ℤ) (n : ℕ) (rows : List (List ℤ)) (kinds : List ConKind) (i : ℕ)
    (all : LinearSystem ConKind) (o told : Option Loss) (loss : Loss) (r : List ℤ) (x : E.Excess) →
    AreFormed k form n rows kinds i all o →
    told ≡ Some loss → FormingPasses (λ g. checked_substitution k form g.row) (rows_by_kind is_equality rows kinds) loss →
    length kinds ≡ length rows → i < length rows → r ≡ get_or rows i r → checked_substitution k form r ≡ Err x →
    AreFormed k form n rows kinds (i + 1) all told
formed_lost k form n rows kinds i all o told loss r x h e passes m low is failed =
    subst (AreFormed k form n rows kinds (i + 1) all) (sym e) (record {
      dims = h.dims;
      many = h.many;
      whole = tt;
      among = h.among;
      is_lost = passes;
      formed = formed_more k form rows kinds i r (constraints all) (constraints all) m low is h.formed (λ g c. c)
          (inr (x, failed));
    })

pub formed_left : (k : ℕ) (form : List ℤ) (n : ℕ) (rows : List (List ℤ)) (kinds : List ConKind) (i : ℕ)
    (all : LinearSystem ConKind) (o : Option Loss) (r : List ℤ) (x : E.Excess) → AreFormed k form n rows kinds i all o →
    is_none o ≡ false → length kinds ≡ length rows → i < length rows → r ≡ get_or rows i r →
    checked_substitution k form r ≡ Err x → AreFormed k form n rows kinds (i + 1) all o
formed_left k form n rows kinds i all None r x h e m low is failed = absurd (cc)
formed_left k form n rows kinds i all (Some loss) r x h e m low is failed = record {
  dims = h.dims;
  many = h.many;
  whole = tt;
  among = h.among;
  is_lost = h.is_lost;
  formed = formed_more k form rows kinds i r (constraints all) (constraints all) m low is h.formed (λ g c. c)
      (inr (x, failed));
}

pub substituted_length : (k : ℕ) (form r : List ℤ) → length form ≡ length r →
    length (substituted k form r) ≡ length r
substituted_length k form r e =
    blend_length (pos 1) (entry r k) (cleared k r) form (length-set r k (pos 0) ∙ sym e) ∙ length-set r k (pos 0)

pub substituted_fits : (k : ℕ) (form r t : List ℤ) (n d : ℕ) → t ≡ substituted k form r → length form ≡ suc n →
    length r ≡ suc n → d ≡ n → length t ≡ suc d
substituted_fits k form r t n d et f l e = ap length et ∙ substituted_length k form r (f ∙ sym l) ∙ l ∙ ap suc (sym e)

-- ---- as the code states it
pub listed_same : (list : LinearSystem ConKind) (rows : List (List ℤ)) (kinds : List ConKind) → rows ≡ list.rows →
    kinds ≡ list.kinds → rows_by_kind is_equality rows kinds ≡ constraints list
listed_same list rows kinds er ek = ap (λ (l : List (List ℤ)). rows_by_kind is_equality l kinds) er ∙
    ap (rows_by_kind is_equality list.rows) ek

pub all_substituted : (k : ℕ) (form : List ℤ) (list all : LinearSystem ConKind) (rows : List (List ℤ)) (kinds : List ConKind)
    (i : ℕ) (o : Option Loss) → rows ≡ list.rows → kinds ≡ list.kinds → length kinds ≡ length rows → length rows ≤ i →
    IfNone o (constraints all ≡ substituted_rows k form (front is_equality rows kinds i)) →
    IfNone o (constraints all ≡ substituted_rows k form (constraints list))
all_substituted k form list all rows kinds i o er ek n h =
    if_none (constraints all ≡ substituted_rows k form (front is_equality rows kinds i))
    (constraints all ≡ substituted_rows k form (constraints list)) o (λ e. e ∙
    ap (λ (l : List (List ℤ)). substituted_rows k form (rows_by_kind is_equality l (take i kinds))) (take_all i rows h) ∙
    ap (λ (l : List ConKind). substituted_rows k form (rows_by_kind is_equality rows l))
    (take_all i kinds (omega (arith, n, h))) ∙
    ap (substituted_rows k form) (listed_same list rows kinds er ek))

pub none_formed : (k : ℕ) (form : List ℤ) (formed : List LinearRow) → AllFormed k form [] formed
none_formed k form formed g has = absurd (contains_none g has)

pub all_formed : (k : ℕ) (form : List ℤ) (list all : LinearSystem ConKind) (rows : List (List ℤ)) (kinds : List ConKind)
    (i : ℕ) → rows ≡ list.rows → kinds ≡ list.kinds → length kinds ≡ length rows → length rows ≤ i →
    AllFormed k form (front is_equality rows kinds i) (constraints all) → AllFormed k form (constraints list) (constraints all)
all_formed k form list all rows kinds i er ek n h formed =
    let same = ap (λ (l : List (List ℤ)). rows_by_kind is_equality l (take i kinds)) (take_all i rows h) ∙
    ap (rows_by_kind is_equality rows) (take_all i kinds (omega (arith, n, h))) ∙ listed_same list rows kinds er ek in
    subst (λ (l : List LinearRow). AllFormed k form l (constraints all)) same formed
