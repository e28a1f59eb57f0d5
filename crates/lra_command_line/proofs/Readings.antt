-- What the getters of the matches read, by the rows.
use Rattle.std.proofs.Common.{◌≡◌, ◌≢◌, ◌∙◌, ◌^◌, ◌&&◌, ℕ, Bool, List, [], ◌∷◌, Option, Some, None, Result, Ok, Err, ap, codes, refl, sym, true, false, nat_lt, length, lt-ltb}
use Rattle.std.proofs.{lemmas.Bool.ltb-true, lemmas.Slice.Eq.bytes_eq-Decides}
use Rattle.std.specs.Str.Parse.{AllDigits, ParsesBool, ParsesUnsigned, digits_value, without_leading_plus}
use Rattle.std.specs.{Borrow.Bor, Char.digit_value, List.list_all, Prelude.option_and_then, Prelude.option_map, Prelude.if◌then◌else◌, Str.bytes_eq}
use Rattle.clap.specs.{ValueTests.is_numeral, Words.ReadsOne, Words.Text, Words.first_value, Words.one_text, Words.rows_of, declared.parser.matches.Found.Found}
use Rattle.clap.proofs.WalkLemmas.{both, first_value-rows, one_text-rows}
use Rattle.lra_command_line.specs.ParsedCommand.{domain_at, domain_named, file_of, flag_at, number_at, number_below, truth_of}

digits_pass : (ds : List ℕ) → AllDigits 10 ds → list_all (λ d. nat_lt (digit_value d) 10) ds ≡ true
digits_pass [] h = refl
digits_pass (d ∷ ds) h = rw (lt-ltb (digit_value d) 10 h.0) (digits_pass ds h.1)

digits_from : (ds : List ℕ) → list_all (λ d. nat_lt (digit_value d) 10) ds ≡ true → AllDigits 10 ds
digits_from [] e = tt
digits_from (d ∷ ds) e =
    let parts = both _ _ e in
    (ltb-true _ _ parts.0, digits_from ds parts.1)

module _ {E : Type 0} (gives : Text → Result ℕ E → Type 0) (k : ℕ) (parses : (t : Text) (r : Result ℕ E) → gives t r → ParsesUnsigned k 10 t r) where
  -- a text that is read as a number of k bits
  number_read : (t : Text) (r : Option ℕ) → ReadsOne gives t r → r ≡ number_below (2 ^ k) t
  number_read t (Some n) h =
      let p = parses t (Ok n) h in
      rw (lt-ltb 0 (length (without_leading_plus t)) p.0.0.0, digits_pass (without_leading_plus t) p.0.0.1, lt-ltb (digits_value 10 (without_leading_plus t)) (2 ^ k) p.0.1)
      (ap (λ (v : ℕ). Some v) p.1)
  number_read t None h = go (is_numeral (without_leading_plus t) && nat_lt (digits_value 10 (without_leading_plus t)) (2 ^ k)) refl
    where
      go : (b : Bool) → (is_numeral (without_leading_plus t) && nat_lt (digits_value 10 (without_leading_plus t)) (2 ^ k)) ≡ b → None ≡ number_below (2 ^ k) t
      go false e = rw e refl
      go true e =
          let outer = both _ _ e in
          let inner = both _ _ outer.0 in
          absurd (parses t (Err h.0) h.1 ((ltb-true _ _ inner.0, digits_from (without_leading_plus t) inner.1), ltb-true _ _ outer.1))

  -- `get_one` at an unsigned type of k bits
  pub number_got : (f : Found) (id : Text) (r : Option ℕ) → (one_text f id ≡ None → r ≡ None) → ((t : Text) → one_text f id ≡ Some t → ReadsOne gives t r)
      → r ≡ number_at id (2 ^ k) (rows_of f)
  number_got f id r none value = go (one_text f id) refl ∙ ap (option_and_then (number_below (2 ^ k))) (one_text-rows f id)
    where
      go : (o : Option Text) → one_text f id ≡ o → r ≡ option_and_then (number_below (2 ^ k)) (one_text f id)
      go None e = rw e (none e)
      go (Some t) e = rw e (number_read t r (value t e))

-- a text that is read as a truth value
truth_read : (E : Type 0) (t : Text) (r : Option Bool) → ReadsOne (λ u (x : Result Bool E). ParsesBool u x) t r → r ≡ truth_of t
truth_read E t (Some true) h = rw h refl
truth_read E t (Some false) h = rw h refl
truth_read E t None h =
    rw (other (codes "true") h.1.0, other (codes "false") h.1.1) refl
  where
    other : (u : Text) → t ≢ u → bytes_eq t u ≡ false
    other u differs = go (bytes_eq t u) refl
      where
        go : (b : Bool) → bytes_eq t u ≡ b → bytes_eq t u ≡ false
        go false e = e
        go true e = absurd (differs ((bytes_eq-Decides t u).0 e))

-- `get_one` at `bool`
pub flag_got : (E : Type 0) (f : Found) (id : Text) (r : Option Bool) → (one_text f id ≡ None → r ≡ None)
    → ((t : Text) → one_text f id ≡ Some t → ReadsOne (λ u (x : Result Bool E). ParsesBool u x) t r) → r ≡ flag_at id (rows_of f)
flag_got E f id r none value = go (one_text f id) refl ∙ ap (option_and_then truth_of) (one_text-rows f id)
  where
    go : (o : Option Text) → one_text f id ≡ o → r ≡ option_and_then truth_of (one_text f id)
    go None e = rw e (none e)
    go (Some t) e = rw e (truth_read E t r (value t e))

-- `get_str`, of a file's name
pub file_got : (f : Found) (r o : Option (Bor Text)) → option_map (λ s. s.now) r ≡ first_value f (codes "file") → r ≡ o
    → option_and_then (λ name. if bytes_eq name (codes "-") then None else Some name) (option_map (λ s. s.now) o) ≡ file_of (rows_of f)
file_got f r o e is =
    ap (option_and_then (λ (name : Text). if bytes_eq name (codes "-") then None else Some name)) (ap (option_map (λ s. s.now)) (sym is) ∙ e ∙ first_value-rows f (codes "file"))

module _ (f : Found) (r : Option (Bor Text)) (name : Bor Text) (e : option_map (λ s. s.now) r ≡ first_value f (codes "file")) (is : r ≡ Some name) where
  pub dash_got : bytes_eq name.now (codes "-") ≡ true → None ≡ file_of (rows_of f)
  dash_got t = rw t at (file_got f r (Some name) e is)

  pub name_got : bytes_eq name.now (codes "-") ≡ false → Some name.now ≡ file_of (rows_of f)
  name_got t = rw t at (file_got f r (Some name) e is)

-- `get_str`, of a domain's name
pub domain_got : (f : Found) (id : Text) (r : Option (Bor Text)) → option_map (λ s. s.now) r ≡ first_value f id
    → option_and_then (λ s. domain_named s.now) r ≡ domain_at id (rows_of f)
domain_got f id r e = name r ∙ ap (option_and_then domain_named) (e ∙ first_value-rows f id)
  where
    name : (o : Option (Bor Text)) → option_and_then (λ s. domain_named s.now) o ≡ option_and_then domain_named (option_map (λ s. s.now) o)
    name None = refl
    name (Some s) = refl
