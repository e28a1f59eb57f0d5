-- Goals of `push_threads`: the first line.
use Rattle.std.proofs.Common.{◌≡◌, ◌∙◌, ◌++◌, ℕ, List, [], ◌∷◌, sym, ap, append_assoc, string_bytes}
use Rattle.std.specs.{Fmt.decimal, Prelude.Err, Prelude.Ok, Prelude.OnOk, Prelude.Result, Prelude.codes, Prelude.if◌then◌else◌, Prelude.is_ok}
use Rattle.lra_threads_source.proofs.text.push_threads.Goals as goal

-- words and a number more
one_more : (old x w d t u : List ℕ) → t ≡ old ++ x → u ≡ t ++ (w ++ d) → u ≡ old ++ (x ++ w ++ d)
one_more old x w d t u e is =
    is ∙ ap (λ (s : List ℕ). s ++ (w ++ d)) e ∙ append_assoc old x (w ++ d) ∙ ap (λ (s : List ℕ). old ++ s) (sym (append_assoc x w d))

-- and the line's end
ended : {X E : Type 0} (r : Result X E) (old x end t u : List ℕ) → t ≡ old ++ x → u ≡ (if is_ok r then t ++ end else t) → OnOk r (u ≡ old ++ (x ++ end))
ended (Ok y) old x end t u e is = is ∙ ap (λ (s : List ℕ). s ++ end) e ∙ append_assoc old x end
ended (Err y) old x end t u e is = tt

pub returns : goal.returns
returns c =
    let old = string_bytes c.args.text.now in
    let first = codes "threads box count " ++ decimal c.args.count in
    let second = first ++ codes " delay " ++ decimal c.args.delay in
    let third = second ++ codes " narrow " ++ decimal c.args.narrow in
    ended c.push_str.result old third (10 ∷ []) (string_bytes c.push_number-3.new.text) (string_bytes c.push_str.new.self)
    (one_more old second (codes " narrow ") (decimal c.args.narrow) (string_bytes c.push_number-2.new.text) (string_bytes c.push_number-3.new.text)
    (one_more old first (codes " delay ") (decimal c.args.delay) (string_bytes c.push_number.new.text) (string_bytes c.push_number-2.new.text)
    c.in_ok-push_number.ensures c.in_ok-push_number-2.ensures) c.in_ok-push_number-3.ensures) c.push_str.ensures.bytes
